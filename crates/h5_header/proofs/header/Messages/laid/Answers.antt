use Rattle.std.proofs.Common.{◌≡◌, ◌+◌, ◌<◌, length, arith, rules, subst, sym, ◌++◌, ◌∷◌, []}
use Rattle.h5_bytes.specs.Bytes.{number_at}
use Rattle.h5_header.proofs.LaidLaws.{LaidTo, laid_first, laid_more, laid_whole, next_fits, placed_at}
use Rattle.h5_header.proofs.header.Messages.laid.Goals as goal

pub loop-at-init : goal.loop-at-init
loop-at-init c =
    let made = c.requires.header in
    (made.0, made.1, subst (λ list. LaidTo c.args.bytes.now c.args.header made.0 list 16) (sym c.new-list.ensures.items) (laid_first c.args.bytes.now c.args.header made.0 made.1))

pub u16_at-size-requires : goal.u16_at-size-requires
u16_at-size-requires c =
    let low : c.loop-at.at < length c.args.bytes.now = search rules in
    omega (arith, next_fits c.args.bytes.now c.args.header _ c.loop-at.list.items c.loop-at.at c.loop-at.invariant.2 low)

pub u16_at-requires : goal.u16_at-requires
u16_at-requires c =
    let low : c.loop-at.at < length c.args.bytes.now = search rules in
    omega (arith, next_fits c.args.bytes.now c.args.header _ c.loop-at.list.items c.loop-at.at c.loop-at.invariant.2 low)

pub loop-at-preserved : goal.loop-at-preserved
loop-at-preserved c =
    let inv = c.loop-at.invariant in
    let bytes = c.args.bytes.now in
    let at = c.loop-at.at in
    let low : at < length bytes = search rules in
    let more = laid_more bytes c.args.header inv.0 c.loop-at.list.items at inv.2 low in
    let size : number_at bytes (at + 2) 2 ≡ c.u16_at-size.result = search rules in
    let list : c.loop-at.list.items ++ placed_at bytes c.args.header at ∷ [] ≡ c.push.new.self.items = search rules in
    let on : at + 8 + number_at bytes (at + 2) 2 ≡ at + (8 + c.u16_at-size.result) = omega arith in
    (inv.0, inv.1, subst (λ p. LaidTo bytes c.args.header inv.0 c.push.new.self.items p) on (subst (λ xs. LaidTo bytes c.args.header inv.0 xs (at + 8 + number_at bytes (at + 2) 2)) list more))

pub returns-clause-messages : goal.returns-clause-messages
returns-clause-messages c =
    let inv = c.loop-at.invariant in
    let list : c.of.result.list ≡ c.loop-at.list.items = search rules in
    λ ms made image there. rw list (laid_whole c.args.bytes.now c.args.header inv.0 c.loop-at.list.items c.loop-at.at inv.2 (search rules) inv.1 ms made image there)
