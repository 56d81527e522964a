use Rattle.std.proofs.Common.{◌≡◌, ◌<◌, ◌+◌, ℕ, length, get_or, sym, ap, ◌∙◌, arith, true}
use Rattle.std.specs.Prelude.{false}
use Rattle.std.specs.Ordering.{nat_cmp, is_ne, ordering_then}
use Rattle.std.specs.declared.cmp.Ordering.{Ordering}
use Rattle.h5_chunks.proofs.OffsetLaws.{offset_at}
use Rattle.h5_chunks.proofs.KeyOrder.{order_from, order_step, order_last, then_first, then_next}
use Rattle.h5_chunks.proofs.offsets.key_order.Goals as goal

pub returns-then-is_ne : goal.returns-then-is_ne
returns-then-is_ne c =
    let key = c.args.key.now in
    let offs = c.args.offsets.now in
    let d = c.loop-d.d in
    let low : d < length offs = omega arith in
    let is : c.cmp-order.result ≡ nat_cmp (offset_at offs key d) (get_or offs d 0) = c.cmp-order.ensures ∙ ap (λ (n : ℕ). nat_cmp n (get_or offs d 0)) c.u64_at.ensures in
    let other : is_ne c.cmp-order.result ≡ true = sym c.is_ne.ensures ∙ c.if-is_ne.true in
    sym (c.loop-d.invariant ∙ order_step key offs d low
    ∙ ap (λ (o : Ordering). ordering_then o (order_from key offs (d + 1))) (sym is) ∙ then_first c.cmp-order.result (order_from key offs (d + 1)) other)

pub loop-d-preserved : goal.loop-d-preserved
loop-d-preserved c =
    let key = c.args.key.now in
    let offs = c.args.offsets.now in
    let d = c.loop-d.d in
    let low : d < length offs = omega arith in
    let is : c.cmp-order.result ≡ nat_cmp (offset_at offs key d) (get_or offs d 0) = c.cmp-order.ensures ∙ ap (λ (n : ℕ). nat_cmp n (get_or offs d 0)) c.u64_at.ensures in
    let same : is_ne c.cmp-order.result ≡ false = sym c.is_ne.ensures ∙ c.if-is_ne.false in
    c.loop-d.invariant ∙ order_step key offs d low
    ∙ ap (λ (o : Ordering). ordering_then o (order_from key offs (d + 1))) (sym is) ∙ then_next c.cmp-order.result (order_from key offs (d + 1)) same

pub returns : goal.returns
returns c =
    let key = c.args.key.now in
    let offs = c.args.offsets.now in
    let all : c.loop-d.d ≡ length offs = omega arith in
    let is : c.cmp.result ≡ nat_cmp (offset_at offs key (length offs)) 0 = c.cmp.ensures ∙ ap (λ (n : ℕ). nat_cmp n 0) c.u64_at-2.ensures in
    is ∙ sym (c.loop-d.invariant ∙ ap (order_from key offs) all ∙ order_last key offs)
