use Rattle.h5_header.proofs.header.Messages.add.Goals as goal

-- src/add.rt:135:5
pub returns-clause-reused : goal.returns-clause-reused
returns-clause-reused c = rw (c.in_ok-make_room.ensures.kept, c.in_ok-make_room.ensures.made) at c.put.ensures.reused
