use Rattle.std.proofs.Common.{◌≡◌, ◌≤◌, ◌+◌, length, take}
use Rattle.h5_header.specs.Added.{lengths, spans}
use Rattle.h5_header.proofs.header.Messages.messages_in_blocks.Given as goal

abbrev pub invariant-loop-left : goal.invariant-loop-left
invariant-loop-left l = (l.count ≤ length l.self.list) × (16 + l.left + spans (take l.count l.self.list) ≡ lengths (take l.n l.self.blocks))

abbrev pub decreases-loop-left : goal.decreases-loop-left
decreases-loop-left l = l.left
