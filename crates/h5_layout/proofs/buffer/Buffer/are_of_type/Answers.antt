use Rattle.std.proofs.Common.{◌≡◌, ap, sym, ◌∙◌, subst, true}
use Rattle.std.specs.List.{list_all}
use Rattle.h5_model.specs.Format.Fixed.{fits}
use Rattle.h5_model.specs.Scripts.Answers.{stored_values}
use Rattle.h5_model.proofs.StoredValues.{AreOf-stored}
use Rattle.h5_layout.specs.Buffers.{AreValuesLent, values_lent}
use Rattle.h5_layout.proofs.BufferLaws.{all_fit, same_type}
use Rattle.h5_layout.proofs.buffer.Buffer.are_of_type.Goals as goal

pub returns-then-eq : goal.returns-then-eq
returns-then-eq c =
    let t = c.in-Cells.own in
    let bytes = c.in-Cells.bytes.now in
    let whole = subst AreValuesLent c.in-Cells.is c.self.invariant.lent_so in
    let same : t ≡ c.args.fixed.now = same_type t c.args.fixed.now (sym c.eq.ensures ∙ c.if-eq.true) in
    let values : stored_values t bytes ≡ c.args.self.now = ap values_lent (sym c.in-Cells.is) ∙ c.self.view_is in
    let all : list_all (fits t) (stored_values t bytes) ≡ true = all_fit t (stored_values t bytes) (AreOf-stored t bytes whole.type whole.memory.low) in
    c.if-eq.true ∙ sym all ∙ (λ i. list_all (fits (same i)) (values i))
