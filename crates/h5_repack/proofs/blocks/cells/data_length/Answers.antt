use Rattle.std.proofs.Common.{◌∙◌, sym, subst}
use Rattle.h5_repack.specs.Blocks.ArrayHeader.{IsLength}
use Rattle.h5_repack.proofs.BlockLaws.ArrayParts.{length-filled_data}
use Rattle.h5_repack.proofs.blocks.cells.data_length.Goals as goal

pub returns-in-Filled : goal.returns-in-Filled
returns-in-Filled c place =
    let long = length-filled_data c.args.chunk_k c.args.cells.now c.args.array.now place c.in-Filled.is (sym c.stores_data.ensures ∙ c.if-not-stores_data.false) in
    subst (λ n. IsLength c.length_in_image.result n) (c.cells_length.ensures.exact ∙ sym long) c.length_in_image.ensures
