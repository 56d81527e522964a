-- The parts of a group's links as they are appended.
use Rattle.std.proofs.Common.{◌≡◌, ℕ, ◌+◌, ◌*◌, ◌^◌, ◌<◌, ◌≤◌, List, ◌++◌, length, map, sym, ap, ◌∙◌, subst, arith}
use Rattle.std.specs.List.{flat_map, sum_by}
use Rattle.h5_bytes.specs.Numbers.{word}
use Rattle.h5_model.specs.Format.Limits.{most_bytes, highest_level}
use Rattle.h5_model.specs.Format.Nodes.{group_kind}
use Rattle.h5_model.specs.Format.Superblock.{AreK}
use Rattle.h5_model.specs.Format.Sizes.{symbol_node}
use Rattle.h5_btree.specs.declared.write.child.Child.{Child}
use Rattle.h5_btree.specs.Writing.Written.{tree_bytes, root_level}
use Rattle.h5_btree.proofs.WriteLaws.Counts.{rows_few}
use Rattle.h5_heap.specs.Writing.Links.{Leads, name_and_leads}
use Rattle.h5_heap.specs.declared.write.link.ObjectPlace.{ObjectPlace}
use Rattle.h5_model.specs.declared.link.Link.{Link}
use Rattle.h5_heap.specs.Writing.Written.{placed_links, texts_span, heap_bytes}
use Rattle.h5_heap.proofs.WriteLaws.Lengths.{used-le}
use Rattle.std.proofs.lemmas.List.{length-map}
use Rattle.h5_group.specs.declared.write.places.GroupPlaces.{GroupPlaces}
use Rattle.h5_group.specs.Writing.Places.{ArePlaces}
use Rattle.h5_group.specs.Writing.Written.{runs_of, children_of, written_symbol_node, symbol_nodes, links_bytes}
use Rattle.h5_group.proofs.WriteLaws.Counts.{links_few}
use Rattle.h5_group.proofs.WriteLaws.Lengths.{the_children, children_counted, level_low, tree_long}

module _ (leaf internal : ℕ) (links : List (Link ObjectPlace)) (k : AreK leaf internal) (p : GroupPlaces) (are : ArePlaces leaf internal (map name_and_leads links) p) where
  abbrev those : List (List ℕ × Leads)
  those = map name_and_leads links

  whole_is : p.length ≡ p.tree + 32 + p.segment + symbol_nodes leaf those * symbol_node leaf
  whole_is = are.length_is ∙ (λ i. sym are.tree i + 32 + sym are.segment i + symbol_nodes leaf those * symbol_node leaf)

  pub parts_within : p.tree + 32 + p.segment ≤ p.length
  parts_within = omega (arith, whole_is)

  pub names_low : 8 + sum_by texts_span those < 2 ^ 32
  names_low = omega (arith, used-le those, are.segment, parts_within, are.few)

  nodes_few : symbol_nodes leaf those < 2 ^ 32
  nodes_few =
      let few = links_few links (omega (arith, are.segment, parts_within, are.few)) in
      omega (arith, rows_few (2 * leaf) (length those) (omega (arith, k.leaf_low)), length-map links name_and_leads)

  module _ (at : ℕ) (children : List (Child ℕ))
      (pushed : children ≡ children_of leaf (at + p.tree + 32 + p.segment) (runs_of leaf (placed_links those))) where
    pub children_are : children ≡ the_children leaf internal at those
    children_are = pushed ∙ (λ i. children_of leaf (at + are.tree i + 32 + are.segment i) (runs_of leaf (placed_links those)))

    pub children_few : length children < 2 ^ 32
    children_few = subst (λ n. n < 2 ^ 32) (sym (ap length children_are ∙ children_counted leaf internal at those k are.low)) nodes_few

    pub children_level : root_level internal (length children) ≤ highest_level
    children_level = subst (λ (cs : List (Child ℕ)). root_level internal (length cs) ≤ highest_level) (sym children_are) (level_low leaf internal at those k are.low)

    tree_is : length (tree_bytes (group_kind internal) word 0 at children) ≡ p.tree
    tree_is = ap (λ cs. length (tree_bytes (group_kind internal) word 0 at cs)) children_are ∙ tree_long leaf internal at those k are.low ∙ sym are.tree

    pub tree_low : at + p.length ≤ most_bytes → at + length (tree_bytes (group_kind internal) word 0 at children) < 2 ^ 63
    tree_low low = omega (arith, tree_is, parts_within)

    -- the parts are the whole
    pub links_are : links_bytes leaf internal at those
        ≡ tree_bytes (group_kind internal) word 0 at children ++ (heap_bytes (at + p.tree) those ++ flat_map (written_symbol_node leaf) (runs_of leaf (placed_links those)))
    unfolding links_bytes
    links_are = λ i. tree_bytes (group_kind internal) word 0 at (sym children_are i) ++ (heap_bytes (at + sym are.tree i) those ++ flat_map (written_symbol_node leaf) (runs_of leaf (placed_links those)))
