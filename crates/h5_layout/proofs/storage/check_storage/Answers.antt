use Rattle.std.proofs.Common.{◌≡◌, ◌≤◌, Some, sym, ◌∙◌, subst, arith}
use Rattle.std.proofs.Math.Nat.{mul-le-mul_right}
use Rattle.h5_model.specs.Format.Limits.{most_cells}
use Rattle.h5_model.specs.Format.Reached.{Shape}
use Rattle.h5_model.specs.Format.Described.{Described}
use Rattle.h5_model.proofs.PlainValues.{size-high}
use Rattle.h5_shape.proofs.Products.{cells_le}
use Rattle.h5_layout.specs.ArrayChunks.{ArrayChunks}
use Rattle.h5_layout.specs.ArrayEdits.{described_in}
use Rattle.h5_chunks.specs.Edited.{AreChunksApart}
use Rattle.h5_layout.specs.Lacking.{IsMissing}
use Rattle.h5_layout.specs.declared.lacking.Missing.{Missing}
use Rattle.h5_layout.proofs.LackingLaws.{chunks_missing}
use Rattle.h5_layout.proofs.TrimmedArray.{chunks_apart}
use Rattle.h5_layout.proofs.storage.check_storage.Goals as goal

pub overflow_mul-cells : goal.overflow_mul-cells
overflow_mul-cells c =
    let a : Described = described_in c.args.image.now.bytes c.args.messages.now in
    let few = cells_le a.sizes in
    let small = c.requires.array.array.small in
    let count : c.copied_cells-cells.result.count ≤ most_cells = omega (arith, few, small, c.copied_cells-cells.ensures.count) in
    let low = size-high c.copied_cells-cells.result.fixed c.size.ensures.one_of in
    let most = mul-le-mul_right c.size.result count in
    omega (arith, most, low, c.size.ensures.size)

pub is_first_full-requires-clause-chunks : goal.is_first_full-requires-clause-chunks
is_first_full-requires-clause-chunks c =
    let k : ArrayChunks = c.in-Chunks.array in
    let image = c.args.image.now.bytes in
    let a : Described = described_in image c.args.messages.now in
    let missed = subst (λ (x : Missing). IsMissing image a c.requires.missing.0 x) c.in-Chunks.is c.requires.missing.1 in
    let of = (chunks_missing image a c.requires.missing.0 k c.in-Chunks.new missed).1 in
    let rooted : k.root ≡ Some c.in-Some.root = sym c.root.ensures ∙ c.in-Some.is in
    subst (λ (s : Shape). AreChunksApart c.args.image.now s c.in-Some.root) (sym c.shape-shape.ensures)
    (chunks_apart c.args.image.now c.args.messages.now c.requires.array k of c.in-Some.root rooted)
