use Rattle.std.proofs.Common.{arith, sym, ◌∙◌}
use Rattle.h5_msg.proofs.ExtentLaws.{room_in, length-sizes, size_at}
use Rattle.h5_msg.proofs.dataspace.Dataspace.size.Goals as goal

pub overflow_mul-k : goal.overflow_mul-k
overflow_mul-k c = let room = room_in c.self.inside.body.now c.self.invariant in let long = length-sizes c.self.inside.body.now c.args.self.now c.self.view_is in omega arith

pub overflow_add-k : goal.overflow_add-k
overflow_add-k c = let room = room_in c.self.inside.body.now c.self.invariant in let long = length-sizes c.self.inside.body.now c.args.self.now c.self.view_is in omega arith

pub u64_at-requires : goal.u64_at-requires
u64_at-requires c = let room = room_in c.self.inside.body.now c.self.invariant in let long = length-sizes c.self.inside.body.now c.args.self.now c.self.view_is in omega arith

pub returns : goal.returns
returns c = c.u64_at.ensures ∙ sym (size_at c.self.inside.body.now c.args.self.now c.args.k c.self.view_is c.requires)
