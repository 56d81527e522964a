use Rattle.std.proofs.Common.{ℕ, ◌+◌, ◌*◌, ◌-◌, ap, drop}
use Rattle.h5_model.proofs.PlainValues.{size-low}
use Rattle.h5_msg.proofs.ValueBytes.{AreBytes-drop, AreBytes-take}
use Rattle.h5_layout.proofs.CellLaws.{length-whole, whole_values}
use Rattle.h5_layout.proofs.cells.run_bytes.Goals as goal

pub returns-clause-cells : goal.returns-clause-cells
returns-clause-cells c =
    let t = c.args.fixed.now in
    let place = c.args.run.now.place in
    let n = c.args.run.now.length in
    let start : ℕ = place * c.size.result in
    let end : ℕ = start + n * c.size-2.result in
    let start-is = ap (λ (k : ℕ). place * k) c.size.ensures.size in
    let end-is = ap (λ (k : ℕ). start + n * k) c.size-2.ensures.size in (
      length-whole t (size-low t c.size.ensures.one_of) c.args.bytes.now place n start end c.requires start-is end-is,
      whole_values t (size-low t c.size.ensures.one_of) c.args.bytes.now place n start end c.requires start-is end-is,
    )

pub returns-clause-bytes : goal.returns-clause-bytes
returns-clause-bytes c =
    let start : ℕ = c.args.run.now.place * c.size.result in
    let end : ℕ = start + c.args.run.now.length * c.size-2.result in
    AreBytes-take (end - start) (drop start c.args.bytes.now) (AreBytes-drop start c.args.bytes.now (λ i. (c.type_inv.bytes i).fits))
