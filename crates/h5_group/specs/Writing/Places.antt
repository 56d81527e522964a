-- How the parts of a group's links lie, and when they are not written.
use Rattle.std.specs.Prelude.{◌≡◌, ℕ, ◌*◌, ◌<◌, ◌≤◌, List, length}
use Rattle.h5_model.specs.Format.Limits.{most_bytes, highest_level}
use Rattle.h5_model.specs.Format.PlainLength.{nodes_over}
use Rattle.h5_model.specs.Format.Sizes.{group_node}
use Rattle.h5_heap.specs.Writing.Links.{Leads}
use Rattle.h5_heap.specs.Writing.Written.{written_segment}
use Rattle.h5_group.specs.Writing.Written.{links_length, symbol_nodes, tree_level}
use Rattle.h5_group.specs.declared.write.places.GroupPlaces.{GroupPlaces}
use Rattle.h5_group.specs.declared.write.places.GroupFault.{GroupFault}
use Rattle.h5_group.specs.declared.write.places.GroupFault.TheVariants.{TooLong, TooDeep}

pub record ArePlaces (leaf internal : ℕ) (links : List (List ℕ × Leads)) (p : GroupPlaces) : Type 0 where
  pub tree : p.tree ≡ nodes_over 64 (2 * internal) (symbol_nodes leaf links) * group_node internal
  pub segment : p.segment ≡ length (written_segment links)
  pub length_is : p.length ≡ links_length leaf internal links
  pub few : p.length ≤ most_bytes
  pub low : tree_level leaf internal links ≤ highest_level

abbrev pub IsTooLarge : ℕ → ℕ → List (List ℕ × Leads) → GroupFault → Type 0
IsTooLarge leaf internal links TooLong = most_bytes < links_length leaf internal links
IsTooLarge leaf internal links TooDeep = (links_length leaf internal links ≤ most_bytes) × (highest_level < tree_level leaf internal links)
