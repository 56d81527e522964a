use Rattle.std.proofs.Common.{ℕ, ◌+◌, ◌-◌, ◌*◌, ◌/◌, arith, inl, inr, ap, ◌∙◌}
use Rattle.h5_shape.proofs.SpanLaws.{IsLast, is_span_at, first_below, span_reach, span_short, span_here}
use Rattle.h5_shape.proofs.parts.span_at.Goals as goal
use Rattle.h5_shape.proofs.parts.span_at.Goals.{then-blocks-axis, else-blocks-axis}

pub overflow_add-first : goal.overflow_add-first
overflow_add-first c = omega (arith, first_below c.args.axis.now c.args.size c.args.from c.max-stride.result c.requires.boxed c.requires.inside c.max-stride.ensures)

pub overflow_add-first-2 : goal.overflow_add-first-2
overflow_add-first-2 c = omega (arith, first_below c.args.axis.now c.args.size c.args.from c.max-stride.result c.requires.boxed c.requires.inside c.max-stride.ensures)

pub overflow_sub-result : goal.overflow_sub-result
overflow_sub-result c =
    let a = c.args.axis.now in
    let reach = c.saturating_add.result - a.start in
    let here : IsLast a c.max-stride.result reach c.if-blocks-axis.last = elim c.if-blocks-axis.branch [
      | then-blocks-axis w ↦ inl (w.if-blocks-axis.true, w.last-is ∙ ap (λ (m : ℕ). reach / c.max-stride.result * a.block + m) w.min.ensures)
      | else-blocks-axis w ↦ inr (w.if-blocks-axis.false, omega (arith, w.last-is, w.last_position-last.ensures))
    ] in
    let h = is_span_at a c.args.size c.args.from c.max-stride.result c.saturating_add.result c.if-blocks-axis.last c.requires.boxed c.requires.inside c.max-stride.ensures c.saturating_add.ensures here in
    (span_reach a c.args.size c.args.from c.max-stride.result _ reach c.if-blocks-axis.last h).0

pub overflow_add-result : goal.overflow_add-result
overflow_add-result c =
    let a = c.args.axis.now in
    let reach = c.saturating_add.result - a.start in
    let here : IsLast a c.max-stride.result reach c.if-blocks-axis.last = elim c.if-blocks-axis.branch [
      | then-blocks-axis w ↦ inl (w.if-blocks-axis.true, w.last-is ∙ ap (λ (m : ℕ). reach / c.max-stride.result * a.block + m) w.min.ensures)
      | else-blocks-axis w ↦ inr (w.if-blocks-axis.false, omega (arith, w.last-is, w.last_position-last.ensures))
    ] in
    let h = is_span_at a c.args.size c.args.from c.max-stride.result c.saturating_add.result c.if-blocks-axis.last c.requires.boxed c.requires.inside c.max-stride.ensures c.saturating_add.ensures here in
    omega (arith, span_short a c.args.size c.args.from c.max-stride.result _ reach c.if-blocks-axis.last h)

pub returns-clause-first : goal.returns-clause-first
returns-clause-first c =
    let a = c.args.axis.now in
    let reach = c.saturating_add.result - a.start in
    let here : IsLast a c.max-stride.result reach c.if-blocks-axis.last = elim c.if-blocks-axis.branch [
      | then-blocks-axis w ↦ inl (w.if-blocks-axis.true, w.last-is ∙ ap (λ (m : ℕ). reach / c.max-stride.result * a.block + m) w.min.ensures)
      | else-blocks-axis w ↦ inr (w.if-blocks-axis.false, omega (arith, w.last-is, w.last_position-last.ensures))
    ] in
    let h = is_span_at a c.args.size c.args.from c.max-stride.result c.saturating_add.result c.if-blocks-axis.last c.requires.boxed c.requires.inside c.max-stride.ensures c.saturating_add.ensures here in
    span_here a c.args.size c.args.from c.max-stride.result _ reach c.if-blocks-axis.last h
