use Rattle.std.proofs.Common.{◌≡◌, ◌++◌, drop, map}
use Rattle.h5_header.specs.Listed.{messages_in}
use Rattle.h5_attr.specs.Attributes.{attribute_names_in}
use Rattle.h5_attr.proofs.names.names_in.Given as goal

abbrev pub invariant-loop-message : goal.invariant-loop-message
invariant-loop-message l =
    map (λ name. name.now) l.names.items ++ attribute_names_in (messages_in l.header.image (drop l.message-index l.header.list)) ≡ attribute_names_in l.header.messages
