use Rattle.std.proofs.Common.{arith}
use Rattle.h5_shape.proofs.RowLaws.{rowed_once, rowed_more, rowed_longer, rowed_wider}
use Rattle.h5_shape.proofs.rows.CellRows.repeat.Goals as goal

pub returns-then-count-eq1-clause-rowed : goal.returns-then-count-eq1-clause-rowed
returns-then-count-eq1-clause-rowed c place h = rowed_once place c.args.self.now c.args.step h

pub returns-then-self-gt1-clause-rowed : goal.returns-then-self-gt1-clause-rowed
returns-then-self-gt1-clause-rowed c place h = rowed_more place c.args.self.now c.args.count c.args.step c.requires.some h

pub returns-then-step-self-clause-rowed : goal.returns-then-step-self-clause-rowed
returns-then-step-self-clause-rowed c place h =
    rowed_longer place c.args.self.now c.args.count c.args.step c.requires.some (omega (arith, c.requires.rows)) (omega arith) (omega arith) h

pub returns-clause-rowed : goal.returns-clause-rowed
returns-clause-rowed c place h = rowed_wider place c.args.self.now c.args.count c.args.step c.requires.some (omega (arith, c.requires.rows)) (omega arith) h
