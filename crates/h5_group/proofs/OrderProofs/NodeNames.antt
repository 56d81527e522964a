-- A node of level 0 of a group's tree, and the names in each of its symbol nodes.
use Rattle.std.proofs.Common.{◌≡◌, ℕ, ◌+◌, ◌<◌, List, [], ◌∷◌, length, get_or, sym, ap, ◌∙◌, subst}
use Rattle.std.specs.Prelude.{slice_index_or}
use Rattle.std.specs.List.{AllByRecursion}
use Rattle.std.proofs.lemmas.List.{get_or-map}
use Rattle.h5_model.specs.Format.Superblock.{leaf_k}
use Rattle.h5_model.specs.Format.Symbols.{symbols_at}
use Rattle.h5_model.specs.Format.Links.{NotAfter, key_name, names_in}
use Rattle.h5_model.specs.Format.Rows.{Node, Reading}
use Rattle.h5_laws.specs.Ladders.{lists_below}
use Rattle.h5_laws.specs.NameLadders.{key_text, name_lists, name_sides}
use Rattle.h5_btree.proofs.OrderLaws.NodeOrder.{IsChildOrdered}
use Rattle.h5_group.specs.Order.Between.{LiesBetween, names_at}

module _ (image segment : List ℕ) (V : Reading) (node : Node) (bottom : node.level ≡ 0) where
  -- the names at child i are between the names of the keys around it, which do not fall
  abbrev pub IsChildNamed : ℕ → Type 0
  IsChildNamed i = IsChildOrdered (name_sides (key_text segment)) V (name_lists (symbols_at image (leaf_k image)) segment) node i

  module _ (i child : ℕ) (low high : List ℕ) (under : i < length node.children) (read : slice_index_or node.children i 0 ≡ child)
      (low_is : low ≡ key_name segment node i) (high_is : high ≡ key_name segment node (i + 1)) where
    -- what is asked of the symbol node and the bounds around it
    abbrev pub AreNamesAsked : Type 0
    AreNamesAsked = NotAfter low high × AllByRecursion (LiesBetween low high) (names_at image segment (child ∷ []))

    list_is : get_or (lists_below V (name_lists (symbols_at image (leaf_k image)) segment) node.level node) i [] ≡ names_at image segment (child ∷ [])
    list_is =
        ap (λ (l : ℕ). get_or (lists_below V (name_lists (symbols_at image (leaf_k image)) segment) l node) i []) bottom
        ∙ get_or-map (λ at. names_in (symbols_at image (leaf_k image)) segment (at ∷ [])) node.children i 0 [] under
        ∙ ap (λ (n : ℕ). names_at image segment (n ∷ [])) read

    pub child_named : AreNamesAsked → IsChildNamed i
    child_named asked =
        let exact : NotAfter (key_name segment node i) (key_name segment node (i + 1))
        × AllByRecursion (LiesBetween (key_name segment node i) (key_name segment node (i + 1))) (names_at image segment (child ∷ []))
        = rw (low_is, high_is) at asked in
        (exact.0, subst (AllByRecursion (LiesBetween (key_name segment node i) (key_name segment node (i + 1)))) (sym list_is) exact.1)

    pub named_child : IsChildNamed i → AreNamesAsked
    named_child ordered =
        let names : AllByRecursion (LiesBetween (key_name segment node i) (key_name segment node (i + 1))) (names_at image segment (child ∷ []))
        = subst (AllByRecursion (LiesBetween (key_name segment node i) (key_name segment node (i + 1)))) list_is ordered.1 in
        rw (low_is, high_is) (ordered.0, names)
