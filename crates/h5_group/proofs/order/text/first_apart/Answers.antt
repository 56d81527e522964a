use Rattle.h5_group.proofs.OrderProofs.ApartLanes.{all_common, lowest_few, lowest_common, lowest_apart}
use Rattle.h5_group.proofs.order.text.first_apart.Goals as goal

pub returns-then-apart-eq0-clause-none : goal.returns-then-apart-eq0-clause-none
returns-then-apart-eq0-clause-none c = all_common c.args.segment.now c.args.at c.args.other c.requires.lanes c.requires.other_lanes c.if-apart-eq0.true

pub returns-clause-few : goal.returns-clause-few
returns-clause-few c = lowest_few c.args.segment.now c.args.at c.args.other c.requires.lanes c.requires.other_lanes c.if-apart-eq0.false

pub returns-clause-common : goal.returns-clause-common
returns-clause-common c = lowest_common c.args.segment.now c.args.at c.args.other c.requires.lanes c.requires.other_lanes c.if-apart-eq0.false

pub returns-clause-apart : goal.returns-clause-apart
returns-clause-apart c = lowest_apart c.args.segment.now c.args.at c.args.other c.requires.lanes c.requires.other_lanes c.if-apart-eq0.false
