use Rattle.std.proofs.Common.{arith, sym, ap, ◌≡◌, ◌+◌, ◌*◌, ◌∙◌, Some, ℕ, Option}
use Rattle.h5_bytes.specs.Bytes.{number_at, byte_at}
use Rattle.h5_model.specs.Format.Extent.{rank_in, size_in}
use Rattle.h5_msg.proofs.ExtentLaws.{room_in, length-sizes, size_at, maximum_at, maximum_absent, maximum_unlimited, maximum_limited}
use Rattle.h5_msg.proofs.dataspace.Dataspace.maximum.Goals as goal

pub overflow_mul-k : goal.overflow_mul-k
overflow_mul-k c = let room = room_in c.self.inside.body.now c.self.invariant in let long = length-sizes c.self.inside.body.now c.args.self.now c.self.view_is in omega arith

pub overflow_add-from-2 : goal.overflow_add-from-2
overflow_add-from-2 c = let room = room_in c.self.inside.body.now c.self.invariant in let long = length-sizes c.self.inside.body.now c.args.self.now c.self.view_is in omega arith

pub u64_at-maximum-requires : goal.u64_at-maximum-requires
u64_at-maximum-requires c =
    let room = room_in c.self.inside.body.now c.self.invariant in
    let long = length-sizes c.self.inside.body.now c.args.self.now c.self.view_is in
    let flag : byte_at c.self.inside.body.now 2 ≡ 1 = grind (arith, room.flag) in
    omega (arith, room.maxima flag)

pub returns-then-self-eq0 : goal.returns-then-self-eq0
returns-then-self-eq0 c =
    let there = maximum_at c.self.inside.body.now c.args.self.now c.args.k c.self.view_is c.requires in
    let size : c.size.result ≡ size_in c.self.inside.body.now c.args.k = c.size.ensures ∙ size_at c.self.inside.body.now c.args.self.now c.args.k c.self.view_is c.requires in
    there ∙ ap (λ (x : Option ℕ). Some x) (maximum_absent c.self.inside.body.now c.args.k c.if-self-eq0.true ∙ ap (λ (n : ℕ). Some n) (sym size))

pub returns-then-maximum : goal.returns-then-maximum
returns-then-maximum c =
    let room = room_in c.self.inside.body.now c.self.invariant in
    let there = maximum_at c.self.inside.body.now c.args.self.now c.args.k c.self.view_is c.requires in
    let read : c.u64_at-maximum.result ≡ number_at c.self.inside.body.now (8 + 8 * rank_in c.self.inside.body.now + 8 * c.args.k) 8 = cc in
    there ∙ ap (λ (x : Option ℕ). Some x) (maximum_unlimited c.self.inside.body.now c.args.k c.u64_at-maximum.result room.flag c.if-self-eq0.false read c.if-maximum.true)

pub returns-else-maximum : goal.returns-else-maximum
returns-else-maximum c =
    let room = room_in c.self.inside.body.now c.self.invariant in
    let there = maximum_at c.self.inside.body.now c.args.self.now c.args.k c.self.view_is c.requires in
    let read : c.u64_at-maximum.result ≡ number_at c.self.inside.body.now (8 + 8 * rank_in c.self.inside.body.now + 8 * c.args.k) 8 = cc in
    there ∙ ap (λ (x : Option ℕ). Some x) (maximum_limited c.self.inside.body.now c.args.k c.u64_at-maximum.result room.flag c.if-self-eq0.false read c.if-maximum.false)
