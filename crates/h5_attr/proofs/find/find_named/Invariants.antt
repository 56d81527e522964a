use Rattle.std.proofs.Common.{◌≡◌, drop}
use Rattle.std.specs.List.{position_from}
use Rattle.h5_header.specs.Listed.{messages_in}
use Rattle.h5_attr.specs.Attributes.{is_attribute_named}
use Rattle.h5_attr.proofs.find.find_named.Given as goal

abbrev pub invariant-loop-message : goal.invariant-loop-message
invariant-loop-message l = (l.k ≡ l.message-index)
    × (position_from (is_attribute_named l.name) l.k (messages_in l.header.image (drop l.message-index l.header.list))
    ≡ position_from (is_attribute_named l.name) 0 l.header.messages)
