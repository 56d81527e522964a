-- Where the keys stand that name a text which is to be freed, in a group with exact keys; and such a group when the texts of an entry are
-- freed (File Format Specification 3.0, sections III.A.1 and III.D).
use Rattle.std.proofs.Common.{◌≡◌, ℕ, suc, Bool, true, false, IsTrue, List, Some, None, refl, sym, subst, if◌then◌else◌}
use Rattle.std.specs.Prelude.{Option}
use Rattle.std.specs.List.{Contains}
use Rattle.h5_bytes.specs.declared.Block.{Block}
use Rattle.h5_model.specs.Format.Addresses.{SymbolTable}
use Rattle.h5_model.specs.Format.Superblock.{leaf_k}
use Rattle.h5_model.specs.Format.Nodes.{node_at}
use Rattle.h5_model.specs.Format.Reached.{level_at}
use Rattle.h5_model.specs.Format.Symbols.{Target}
use Rattle.h5_laws.proofs.ExactKeys.{more_spared}
use Rattle.h5_space.specs.Space.{Space}
use Rattle.h5_btree.specs.Keyed.{keys_from}
use Rattle.h5_btree.specs.Looked.{AreItemsAlong}
use Rattle.h5_btree.specs.Retired.{lowest_key}
use Rattle.h5_btree.specs.declared.way.Step.{Step}
use Rattle.h5_btree.proofs.LookedLaws.{items_nowhere, looked_along, looked_everywhere}
use Rattle.h5_group.specs.Edited.{IsGroupIn}
use Rattle.h5_group.specs.Exact.{AreExactBut, AreGroupKeys, AreKeysLooked}
use Rattle.h5_group.specs.Nodes.Trees.{kind_in}
use Rattle.h5_group.specs.Retired.{entry_keys, is_of}
use Rattle.h5_group.proofs.RetiredGroup.{retirable}
use Rattle.h5_group.proofs.Ways.{level_there}

-- along a way, where keys are exact, and else in each node
pub looked_so : (offset : ℕ) (image : List ℕ) (table : SymbolTable) (way : List Step) (exact : Bool) (steps : Option (List Step))
    → steps ≡ (if exact then Some way else None) → (IsTrue exact → AreKeysLooked offset (Some way) image table) → AreKeysLooked offset steps image table
looked_so offset image table way true steps is looked = subst (λ (o : Option (List Step)). AreKeysLooked offset o image table) (sym is) (looked refl)
looked_so offset image table way false steps is looked =
    subst (λ (o : Option (List Step)). AreKeysLooked offset o image table) (sym is)
    (looked_everywhere (is_of offset) (node_at image (kind_in image)) (suc (level_at image (kind_in image) table.tree)) true table.tree)

-- exact keys are so where more are spared
pub more_but : (offset : ℕ) (image : List ℕ) (table : SymbolTable) → AreGroupKeys (λ key. ⊥) image table → AreExactBut offset image table
more_but offset image table exact =
    more_spared (λ (key : List ℕ). key) lowest_key (λ (keys : List (List ℕ)). keys) (λ key. ⊥) (λ key. is_of offset key ≡ true) (λ key never. absurd never)
    (suc (level_at image (kind_in image) table.tree)) None
    (keys_from (node_at image (kind_in image)) (λ key at. entry_keys (leaf_k image) image at) (level_at image (kind_in image) table.tree) table.tree) exact

-- no item has the key of a text that no link names: it stands where no way leads
module _ (s : Space) (table : SymbolTable) (links : List (List ℕ × Target)) (spare : List ℕ) (blocks : List Block) (group : IsGroupIn s table links spare blocks) (offset : ℕ)
    (spared : Contains spare offset) (way : List Step) where
  pub text_looked : AreGroupKeys (λ key. ⊥) s.bytes table → AreKeysLooked offset (Some way) s.bytes table
  text_looked exact =
      let r = retirable s table links spare blocks group offset spared in
      let keys = entry_keys (leaf_k s.bytes) s.bytes in
      let along = items_nowhere (is_of offset) keys s (kind_in s.bytes) table.tree (group.linked).level way (group.linked).owned (group.linked).symbol_nodes (group.linked).tree r.named in
      looked_along (is_of offset) (node_at s.bytes (kind_in s.bytes)) keys way (level_at s.bytes (kind_in s.bytes) table.tree) table.tree r.lowest exact
      (subst (λ (l : ℕ). AreItemsAlong (is_of offset) (node_at s.bytes (kind_in s.bytes)) keys way (suc l) table.tree) (sym (level_there s table links spare blocks group)) along)

  pub text_looked_so : (exact : Bool) (steps : Option (List Step)) → steps ≡ (if exact then Some way else None) → (IsTrue exact → AreGroupKeys (λ key. ⊥) s.bytes table)
      → AreKeysLooked offset steps s.bytes table
  text_looked_so exact steps is all = looked_so offset s.bytes table way exact steps is (λ on. text_looked (all on))
