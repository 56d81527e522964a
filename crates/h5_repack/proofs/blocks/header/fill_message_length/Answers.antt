use Rattle.std.proofs.Common.{sym, ◌∙◌, ap}
use Rattle.h5_model.specs.Format.Sizes.{message_size}
use Rattle.h5_repack.proofs.BlockLaws.ArrayParts.{length-fill}
use Rattle.h5_repack.proofs.blocks.header.fill_message_length.Goals as goal

pub returns-then-has_fill-clause-exact : goal.returns-then-has_fill-clause-exact
returns-then-has_fill-clause-exact c chunked =
    c.message_length.ensures ∙ ap message_size c.fill_length.ensures.exact
    ∙ length-fill chunked c.args.fixed.now c.args.fill c.args.others.now.count (sym c.has_fill.ensures ∙ c.if-has_fill.true)
