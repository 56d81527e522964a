use Rattle.std.proofs.Common.{◌≡◌, ◌*◌, ◌/◌, length, ap, sym, ◌∙◌, subst}
use Rattle.h5_model.specs.Format.Plain.{cells_bytes}
use Rattle.h5_model.specs.Scripts.Answers.{stored_values}
use Rattle.h5_model.proofs.PlainValues.{size-low}
use Rattle.h5_model.proofs.StoredValues.{length-stored}
use Rattle.h5_layout.specs.Buffers.{AreValuesLent, values_lent}
use Rattle.h5_layout.proofs.BufferLaws.{counted, same_type, written_back}
use Rattle.h5_layout.proofs.buffer.Buffer.write.Goals as goal

pub copy_from_slice-requires : goal.copy_from_slice-requires
copy_from_slice-requires c =
    let t = c.in-Cells.own in
    let bytes = c.in-Cells.bytes.now in
    let whole = subst AreValuesLent c.in-Cells.is c.self.invariant.lent_so in
    let same : t ≡ c.args.fixed.now = same_type t c.args.fixed.now (sym c.eq.ensures ∙ c.if-eq.true) in
    let values : stored_values t bytes ≡ c.args.self.now = ap values_lent (sym c.in-Cells.is) ∙ c.self.view_is in
    let long : length c.args.self.now ≡ length bytes / t.size = sym (ap length values) ∙ length-stored t bytes in
    c.requires.room ∙ (λ i. long i * (sym same i).size) ∙ sym (counted t (size-low t whole.type) bytes whole.whole)

pub returns-then-eq : goal.returns-then-eq
returns-then-eq c =
    let t = c.in-Cells.own in
    let bytes = c.in-Cells.bytes.now in
    let whole = subst AreValuesLent c.in-Cells.is c.self.invariant.lent_so in
    let same : t ≡ c.args.fixed.now = same_type t c.args.fixed.now (sym c.eq.ensures ∙ c.if-eq.true) in
    let values : stored_values t bytes ≡ c.args.self.now = ap values_lent (sym c.in-Cells.is) ∙ c.self.view_is in
    c.copy_from_slice.ensures.after ∙ sym (written_back t (size-low t whole.type) bytes whole.whole whole.type whole.memory.low) ∙ (λ i. cells_bytes (same i) (values i))
