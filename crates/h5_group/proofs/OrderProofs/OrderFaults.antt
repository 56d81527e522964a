-- Why the order of a group is refused.
use Rattle.std.proofs.Common.{◌≡◌, ℕ, List, ◌∷◌, ◌++◌, map, refl, sym, subst, arith}
use Rattle.std.specs.List.{Contains}
use Rattle.std.proofs.lemmas.List.Elements.{Contains-append_right}
use Rattle.h5_model.specs.Format.Addresses.{SymbolTable}
use Rattle.h5_model.specs.Format.Superblock.{leaf_k}
use Rattle.h5_model.specs.Format.Heap.{segment_of}
use Rattle.h5_model.specs.Format.Symbols.{symbols_at, link_of}
use Rattle.h5_model.specs.Faults.TreeFaults.{HasSymbolNodes, all_entries}
use Rattle.h5_model.specs.declared.open_fault.Cause.{Cause}
use Rattle.h5_model.specs.declared.open_fault.Cause.TheVariants.{NameOrder, KeyOrder}
use Rattle.h5_laws.specs.NameLadders.{key_text, name_lists, name_sides}
use Rattle.h5_laws.proofs.NameLadders.{by_names}
use Rattle.h5_btree.specs.Order.{IsOrderedAt}
use Rattle.h5_btree.specs.Walk.Below.{reading_in}
use Rattle.h5_btree.specs.Walk.Forms.{OfGroup}
use Rattle.h5_btree.specs.Walk.Trees.{IsTree}
use Rattle.h5_group.specs.Order.Ordered.{AscendsBefore, IsOrderRefused}
use Rattle.h5_model.specs.Format.Links.{Ascend, Before}
use Rattle.h5_btree.specs.Rising.{FallAt}
use Rattle.h5_group.specs.Order.Between.{name_of_entry}

module _ (image segment : List ℕ) (table : SymbolTable) (owned symbol_nodes : List ℕ) (at : ℕ) (cause : Cause) (is : segment ≡ segment_of image table.heap) where
  pub name_fault : IsTree image OfGroup table.tree owned symbol_nodes → cause ≡ NameOrder → FallAt (name_of_entry segment) Before (symbols_at image (leaf_k image)) symbol_nodes at
      → AscendsBefore image segment symbol_nodes at → IsOrderRefused image table owned symbol_nodes cause at
  name_fault t e fall first =
      let here : Contains (fall.0 ++ at ∷ fall.1) at = Contains-append_right fall.0 (at ∷ fall.1) at (0, omega arith, refl) in
      let tree : HasSymbolNodes image table.tree (fall.0 ++ at ∷ fall.1) = subst (HasSymbolNodes image table.tree) fall.2 (t.level, owned, t.tree) in
      rw e (
        subst (λ (ns : List ℕ). Contains ns at) (sym fall.2) here,
        rw is at first,
        (fall.0, fall.1, tree, rw is at fall.3),
      )

  pub key_fault : cause ≡ KeyOrder → Contains owned at → Ascend (map (link_of segment) (all_entries image symbol_nodes))
      → (IsOrderedAt (name_sides (key_text segment)) image OfGroup (name_lists (symbols_at image (leaf_k image)) segment) at → ⊥)
      → IsOrderRefused image table owned symbol_nodes cause at
  key_fault e there ascend breaks = rw e (there, rw is at ascend, λ ordered. breaks (by_names (reading_in image OfGroup) (symbols_at image (leaf_k image)) segment (reading_in image OfGroup at) (rw is ordered)))
