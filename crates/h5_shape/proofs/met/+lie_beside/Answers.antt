use Rattle.std.proofs.Common.{arith, inl, inr}
use Rattle.h5_model.specs.declared.hyperslab.Axis.{Axis}
use Rattle.h5_shape.proofs.BesideLaws.{beside_from}
use Rattle.h5_shape.proofs.met.+lie_beside.Goals as goal

abbrev no_axis : Axis
no_axis = record { start = 0; stride = 0; count = 0; block = 0 }

pub returns-then-are_boxes_apart : goal.returns-then-are_boxes_apart
returns-then-are_boxes_apart t c is =
    beside_from c.args.grid.now c.args.one.now c.args.other.now c.args.k no_axis (omega arith) (omega (arith, c.len.ensures)) (omega (arith, c.len-else-k-len.ensures))
    (inl (rw (c.at.ensures no_axis, c.at-2.ensures no_axis) at c.are_boxes_apart.ensures is))

pub returns-else-are_boxes_apart : goal.returns-else-are_boxes_apart
returns-else-are_boxes_apart t c is =
    beside_from c.args.grid.now c.args.one.now c.args.other.now c.args.k no_axis (omega arith) (omega (arith, c.len.ensures)) (omega (arith, c.len-else-k-len.ensures))
    (inr (c.lie_beside.ensures is))
