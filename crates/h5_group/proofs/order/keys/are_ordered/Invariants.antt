use Rattle.std.proofs.Common.{◌≡◌, ℕ, ◌<◌, [], slice_index_or}
use Rattle.h5_model.specs.Format.Superblock.{leaf_k}
use Rattle.h5_model.specs.Format.Symbols.{symbols_at}
use Rattle.h5_model.specs.Format.Links.{offset_in}
use Rattle.h5_laws.specs.NameLadders.{key_text, name_lists, name_sides}
use Rattle.h5_btree.specs.Walk.Below.{reading_in}
use Rattle.h5_btree.specs.Walk.Forms.{OfGroup}
use Rattle.h5_btree.proofs.OrderLaws.NodeOrder.{IsChildOrdered}
use Rattle.h5_group.proofs.order.keys.are_ordered.Given as goal

abbrev pub invariant-loop-i : goal.invariant-loop-i
invariant-loop-i l = (l.low ≡ offset_in (slice_index_or l.node.keys l.i []))
    × ((k : ℕ) → k < l.i
    → IsChildOrdered (name_sides (key_text l.segment)) (reading_in l.image.bytes OfGroup)
    (name_lists (symbols_at l.image.bytes (leaf_k l.image.bytes)) l.segment) l.node k)
