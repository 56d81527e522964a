use Rattle.std.proofs.Common.{◌≡◌, ◌++◌, drop}
use Rattle.h5_header.specs.Listed.{messages_in}
use Rattle.h5_attr.specs.Attributes.{attributes_in}
use Rattle.h5_attr.proofs.order.collected.Given as goal

abbrev pub invariant-loop-message : goal.invariant-loop-message
invariant-loop-message l =
    l.listed.items ++ attributes_in (messages_in l.header.image (drop l.message-index l.header.list)) ≡ attributes_in l.header.messages
