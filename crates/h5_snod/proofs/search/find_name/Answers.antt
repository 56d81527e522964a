use Rattle.std.proofs.Common.{◌≡◌, ℕ, ◌+◌, ◌-◌, ◌/◌, List, Less, Equal, Greater, sym, ap, ◌∙◌, arith}
use Rattle.std.specs.Ordering.{nat_cmp}
use Rattle.std.specs.Cmp.Lexicographic.{slice_cmp}
use Rattle.h5_snod.specs.Names.{name_at}
use Rattle.h5_snod.proofs.NameLaws.{narrowed_up, narrowed_down, same_text, found, absent}
use Rattle.h5_snod.proofs.search.find_name.Goals as goal

pub loop-from-preserved-in-Less : goal.loop-from-preserved-in-Less
loop-from-preserved-in-Less c =
    let middle : ℕ = c.loop-from.from + (c.loop-from.to - c.loop-from.from) / 2 in
    let less : slice_cmp nat_cmp (name_at c.args.segment.now c.args.bytes.now middle) c.args.name.now ≡ Less
    = ap (λ (text : List ℕ). slice_cmp nat_cmp text c.args.name.now) (sym c.entry_name.ensures) ∙ sym c.cmp.ensures ∙ c.in-Less.is in
    let narrowed = rw c.requires.count at c.loop-from.invariant in
    rw c.requires.count
    (narrowed_up c.args.segment.now c.args.bytes.now c.args.name.now c.requires.ascending c.loop-from.from c.loop-from.to middle narrowed (omega arith) (omega arith) less)

pub returns-in-Equal-clause-found : goal.returns-in-Equal-clause-found
returns-in-Equal-clause-found c =
    let middle : ℕ = c.loop-from.from + (c.loop-from.to - c.loop-from.from) / 2 in
    let same : slice_cmp nat_cmp (name_at c.args.segment.now c.args.bytes.now middle) c.args.name.now ≡ Equal
    = ap (λ (text : List ℕ). slice_cmp nat_cmp text c.args.name.now) (sym c.entry_name.ensures) ∙ sym c.cmp.ensures ∙ c.in-Equal.is in
    found c.args.segment.now c.args.bytes.now c.args.name.now middle (omega arith)
    (same_text (name_at c.args.segment.now c.args.bytes.now middle) c.args.name.now same)

pub loop-from-preserved : goal.loop-from-preserved
loop-from-preserved c =
    let middle : ℕ = c.loop-from.from + (c.loop-from.to - c.loop-from.from) / 2 in
    let more : slice_cmp nat_cmp (name_at c.args.segment.now c.args.bytes.now middle) c.args.name.now ≡ Greater
    = ap (λ (text : List ℕ). slice_cmp nat_cmp text c.args.name.now) (sym c.entry_name.ensures) ∙ sym c.cmp.ensures ∙ c.in-Greater.is in
    let narrowed = rw c.requires.count at c.loop-from.invariant in
    rw c.requires.count
    (narrowed_down c.args.segment.now c.args.bytes.now c.args.name.now c.requires.ascending c.loop-from.from c.loop-from.to middle narrowed (omega arith) (omega arith) more)

pub returns-clause-absent : goal.returns-clause-absent
returns-clause-absent c =
    let narrowed = rw c.requires.count at c.loop-from.invariant in
    absent c.args.segment.now c.args.bytes.now c.args.name.now c.loop-from.from c.loop-from.to narrowed (omega arith)
