use Rattle.std.proofs.Common.{◌≡◌, take, option_map}
use Rattle.std.specs.Prelude.{None}
use Rattle.h5_model.specs.Faults.TreeFaults.{all_entries}
use Rattle.h5_bytes.specs.Texts.{text_at}
use Rattle.h5_model.specs.Format.Links.{Before}
use Rattle.h5_btree.specs.Rising.{RiseFrom, last_value}
use Rattle.h5_group.specs.Order.Between.{name_of_entry}
use Rattle.h5_group.proofs.order.names.check_name_order.Given as goal

abbrev pub invariant-loop-at : goal.invariant-loop-at
invariant-loop-at l = RiseFrom (name_of_entry l.segment) Before None (all_entries l.image.bytes (take l.at-index l.symbol_nodes))
    × (option_map (text_at l.segment) l.last ≡ last_value (name_of_entry l.segment) None (all_entries l.image.bytes (take l.at-index l.symbol_nodes)))
