use Rattle.std.proofs.Common.{sym, ◌∙◌, length}
use Rattle.h5_header.proofs.MovableLaws.{found_movable, found_nil, movable_found}
use Rattle.h5_header.proofs.header.Messages.put.Goals as goal

pub put_into-requires-clause-nil : goal.put_into-requires-clause-nil
put_into-requires-clause-nil c = (found_nil c.args.self.now.list (length c.args.body.now) c.in-Some.k (sym c.find_nil.ensures ∙ c.in-Some.is)).1

pub put_into-requires-clause-fits : goal.put_into-requires-clause-fits
put_into-requires-clause-fits c = (found_nil c.args.self.now.list (length c.args.body.now) c.in-Some.k (sym c.find_nil.ensures ∙ c.in-Some.is)).2

pub unwrap-k-requires : goal.unwrap-k-requires
unwrap-k-requires c = rw c.find_movable.ensures (movable_found c.args.image.now.bytes c.args.self.now.list (c.requires.standing).within c.requires.movable)

pub put_block-requires-clause-may_move : goal.put_block-requires-clause-may_move
put_block-requires-clause-may_move c = (found_movable c.args.self.now.list c.unwrap-k.result (sym c.find_movable.ensures ∙ c.unwrap-k.ensures)).1

pub put_block-requires-clause-wide : goal.put_block-requires-clause-wide
put_block-requires-clause-wide c = (found_movable c.args.self.now.list c.unwrap-k.result (sym c.find_movable.ensures ∙ c.unwrap-k.ensures)).2
