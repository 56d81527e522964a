use Rattle.std.proofs.Common.{◌≡◌, ℕ, true, not, sym, ap, ◌∙◌, subst}
use Rattle.std.specs.Cmp.Lexicographic.{slice_cmp}
use Rattle.std.specs.Ordering.{is_le, is_lt, nat_cmp}
use Rattle.std.proofs.lemmas.Bool.{eq-eqb}
use Rattle.std.proofs.lemmas.Cmp.{nat_list_cmp_total}
use Rattle.h5_bytes.specs.Texts.{text_at}
use Rattle.h5_model.proofs.TextOrder.{not_after_itself}
use Rattle.h5_group.proofs.OrderProofs.TextCommon.{turned}
use Rattle.h5_group.proofs.order.text.is_not_after.Goals as goal

pub returns-then-name-other : goal.returns-then-name-other
returns-then-name-other c =
    let text = text_at c.args.segment.now in
    eq-eqb c.args.name c.args.other c.if-name-other.true
    ∙ sym (subst (λ (n : ℕ). is_le (slice_cmp nat_cmp (text c.args.name) (text n)) ≡ true) c.if-name-other.true (not_after_itself (text c.args.name)))

pub returns-else-name-other : goal.returns-else-name-other
returns-else-name-other c =
    let text = text_at c.args.segment.now in
    ap not c.is_before.ensures
    ∙ ap (λ r. not (is_lt r)) (nat_list_cmp_total.antisymm (text c.args.other) (text c.args.name))
    ∙ turned (slice_cmp nat_cmp (text c.args.name) (text c.args.other))
