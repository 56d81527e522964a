use Rattle.std.proofs.Common.{◌≡◌, take, option_map}
use Rattle.h5_bytes.specs.Texts.{text_at}
use Rattle.h5_model.specs.Format.Links.{Before}
use Rattle.h5_btree.specs.Rising.{RiseFrom, last_value}
use Rattle.h5_group.specs.Order.Between.{name_of_entry}
use Rattle.h5_group.proofs.order.names.check_node.Given as goal

abbrev pub invariant-loop-k : goal.invariant-loop-k
invariant-loop-k l = RiseFrom (name_of_entry l.segment) Before (option_map (text_at l.segment) l.fn.before) (take l.k l.node)
    × (option_map (text_at l.segment) l.last ≡ last_value (name_of_entry l.segment) (option_map (text_at l.segment) l.fn.before) (take l.k l.node))
