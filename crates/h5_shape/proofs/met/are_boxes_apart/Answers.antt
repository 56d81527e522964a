use Rattle.h5_shape.proofs.BesideLaws.{share_none, shared_by_none}
use Rattle.h5_shape.proofs.met.are_boxes_apart.Goals as goal

pub returns-then-one-other : goal.returns-then-one-other
returns-then-one-other c before =
    shared_by_none c.args.size c.args.other.now c.args.one.now (share_none c.args.size c.args.other.now c.args.one.now c.requires (c.ends_before_box.ensures before))

pub returns : goal.returns
returns c before = share_none c.args.size c.args.one.now c.args.other.now c.requires (c.ends_before_box-2.ensures before)
