use Rattle.std.proofs.Common.{ap, arith, length}
use Rattle.h5_model.specs.Format.Messages.{most_body_bytes}
use Rattle.h5_model.specs.Tree.Places.{cells}
use Rattle.h5_model.proofs.PlainValues.{size-low}
use Rattle.h5_msg.proofs.AttributeLaws.{cells_few}
use Rattle.h5_attr.proofs.body.new_body.Goals as goal

pub attribute_length-size-requires-clause-values : goal.attribute_length-size-requires-clause-values
attribute_length-size-requires-clause-values c =
    let attr = c.args.attr.now in
    omega (
      arith,
      ap length c.as_slice-values.ensures,
      c.requires.counted,
      cells_few 0 (cells attr.dims) (attr.fixed).size most_body_bytes (size-low attr.fixed c.requires.typed) (omega (arith, c.requires.room)),
    )
