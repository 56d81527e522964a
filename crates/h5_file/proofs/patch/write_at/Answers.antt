use Rattle.std.proofs.Common.{◌≡◌, ◌+◌, ◌-◌, ◌*◌, ◌≤◌, ◌∙◌, ap, length, to_z, of_z, arith, rules}
use Rattle.std.specs.Int.{w128}
use Rattle.std.proofs.lemmas.Int.{to_z-of_z}
use borrow.Rule.Slice.PartMut.{put_mid}
use Rattle.h5_bytes.proofs.PartLaws.{put_mid_is}
use Rattle.h5_model.specs.Edits.Applied.{cell_or_fill}
use Rattle.h5_model.specs.Format.Fixed.{Fixed, bytes_of}
use Rattle.h5_model.proofs.FixedLaws.{length-bytes_of}
use Rattle.h5_file.proofs.patch.write_at.Goals as goal

pub returns : goal.returns
returns c =
    let d = c.args.array.now in
    let size_is : c.size-size.result ≡ d.fixed.size = c.size-size.ensures.size ∙ ap (λ (t : Fixed). t.size) c.fixed-fixed.ensures in
    let value_is : to_z w128 (of_z w128 c.cell_at-value.result) ≡ cell_or_fill d c.args.index.now = to_z-of_z w128 c.cell_at-value.result (search rules) ∙ c.cell_at-value.ensures in
    let value : c.write_cell.new.bytes ≡ bytes_of d.fixed (cell_or_fill d c.args.index.now) = c.write_cell.ensures ∙ (λ i. bytes_of (c.fixed-fixed.ensures i) (value_is i)) in
    let at = c.args.place * c.size-size.result in
    let from : at ≡ c.args.place * d.fixed.size = ap (λ n. c.args.place * n) size_is in
    let wide : at + c.size-size.result - at ≡ d.fixed.size = omega (arith, size_is) in
    let room : c.args.place * d.fixed.size + d.fixed.size ≤ length c.args.bytes.now = omega (arith, c.requires.room) in
    (λ i. put_mid (from i) (wide i) c.args.bytes.now (value i))
    ∙ put_mid_is (c.args.place * d.fixed.size) d.fixed.size c.args.bytes.now (bytes_of d.fixed (cell_or_fill d c.args.index.now)) (length-bytes_of d.fixed (cell_or_fill d c.args.index.now)) room
