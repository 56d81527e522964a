use Rattle.std.proofs.Common.{◌≡◌, drop}
use Rattle.h5_header.specs.Listed.{messages_in}
use Rattle.h5_attr.specs.Attributes.{attribute_named}
use Rattle.h5_attr.proofs.find.get.Given as goal

abbrev pub invariant-loop-message : goal.invariant-loop-message
invariant-loop-message l =
    attribute_named l.name (messages_in l.header.image (drop l.message-index l.header.list)) ≡ attribute_named l.name l.header.messages
