use Rattle.std.proofs.Common.{◌≡◌, drop}
use Rattle.h5_header.specs.Listed.{messages_in}
use Rattle.h5_attr.specs.Attributes.{first_fault}
use Rattle.h5_attr.proofs.bodies.first_fault.Given as goal

abbrev pub invariant-loop-message : goal.invariant-loop-message
invariant-loop-message l =
    first_fault (messages_in l.header.image (drop l.message-index l.header.list)) ≡ first_fault l.header.messages
