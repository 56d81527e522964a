use Rattle.std.proofs.Common.{◌∙◌, sym, ap}
use Rattle.h5_model.specs.Format.Sizes.{message_size}
use Rattle.h5_repack.proofs.BlockLaws.ArrayParts.{length-laid}
use Rattle.h5_repack.proofs.blocks.layout.layout_length.Goals as goal

pub returns-clause-exact : goal.returns-clause-exact
returns-clause-exact c cells address room =
    c.message_length.ensures ∙ ap message_size (c.layout_body_length.ensures.exact cells)
    ∙ sym (length-laid c.args.array.now cells address room)
