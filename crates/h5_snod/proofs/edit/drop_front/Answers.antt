use Rattle.std.proofs.Common.{◌∙◌, arith}
use Rattle.h5_snod.proofs.EditLaws.{entries_of-dropped, raw-dropped, head-dropped}
use Rattle.h5_snod.proofs.edit.drop_front.Goals as goal

pub returns-clause-entries : goal.returns-clause-entries
returns-clause-entries c =
    let is = c.from-n.ensures ∙ c.u16_at.ensures in
    rw (c.put_u16.ensures, c.copy_within.ensures.after) (entries_of-dropped c.args.node.now c.args.k c.from-n.result is (omega (arith, is, c.requires.place)) (omega (arith, is, c.requires.room)) (omega arith))

pub returns-clause-bytes : goal.returns-clause-bytes
returns-clause-bytes c =
    let is = c.from-n.ensures ∙ c.u16_at.ensures in
    rw (c.put_u16.ensures, c.copy_within.ensures.after) (raw-dropped c.args.node.now c.args.k c.from-n.result is (omega (arith, is, c.requires.place)) (omega (arith, is, c.requires.room)) (omega arith))

pub returns-clause-head : goal.returns-clause-head
returns-clause-head c =
    let is = c.from-n.ensures ∙ c.u16_at.ensures in
    rw (c.put_u16.ensures, c.copy_within.ensures.after) (head-dropped c.args.node.now c.args.k c.from-n.result is (omega (arith, is, c.requires.place)) (omega (arith, is, c.requires.room)) (omega arith))
