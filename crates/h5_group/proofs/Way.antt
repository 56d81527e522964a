-- The way down the tree of a group ends at one of its symbol nodes.
use Rattle.std.proofs.Common.{◌≡◌, ℕ, List, [], ◌∷◌, refl, sym, subst, ◌∙◌}
use Rattle.std.specs.Prelude.{Option, Some, None, IfSome, IfNone}
use Rattle.std.specs.List.{Contains}
use Rattle.h5_model.specs.Format.Addresses.{SymbolTable}
use Rattle.h5_model.specs.Format.Superblock.{leaf_k}
use Rattle.h5_model.specs.Format.Heap.{segment_of}
use Rattle.h5_model.specs.Format.Rows.{Reading, leaves}
use Rattle.h5_model.specs.Format.Nodes.{node_at}
use Rattle.h5_model.specs.Format.Symbols.{Entry, symbols_at}
use Rattle.h5_model.specs.Format.Links.{names_in}
use Rattle.h5_model.proofs.OneTree.{level_is, children_are}
use Rattle.h5_btree.specs.Descent.{EndsAt, LeadsTo}
use Rattle.h5_btree.proofs.EmptyTrees.{empty_tree}
use Rattle.h5_btree.proofs.NameFound.{name_behind, name_found}
use Rattle.h5_btree.proofs.PlaceFound.{way_ends}
use Rattle.h5_laws.proofs.Lists.{In, contains_in}
use Rattle.h5_group.specs.Nodes.Trees.{kind_in}
use Rattle.h5_group.specs.Told.{symbol_nodes_told}
use Rattle.h5_group.specs.Links.{IsGroupRead}
use Rattle.h5_group.proofs.Standing.{symbols_are, nodes_ordered}

module _ (image : List ℕ) (table : SymbolTable) (read : IsGroupRead image table) where
  abbrev root : ℕ
  root = table.tree

  abbrev V : Reading
  V = node_at image (kind_in image)

  bottom : symbol_nodes_told image table ≡ leaves V (read.linked).level (root ∷ [])
  bottom =
      sym (symbols_are image table read) ∙ children_are image (kind_in image) root (read.linked).level (read.linked).owned (read.linked).symbol_nodes (read.linked).tree

  level : (V root).level ≡ (read.linked).level
  level = level_is image (kind_in image) root (read.linked).level (read.linked).owned (read.linked).symbol_nodes (read.linked).tree

  pub no_nodes : (V root).children ≡ [] → symbol_nodes_told image table ≡ []
  no_nodes none =
      sym (symbols_are image table read)
      ∙ (empty_tree image (kind_in image) root (read.linked).level (read.linked).owned (read.linked).symbol_nodes (read.linked).tree none).2

  module _ (name : List ℕ) (leaf : ℕ) (way : LeadsTo V (name_behind (segment_of image table.heap) name) (V root).level root leaf) where
    abbrev S : ℕ → List Entry
    S = symbols_at image (leaf_k image)

    abbrev segment : List ℕ
    segment = segment_of image table.heap

    leaf_in : In leaf (symbol_nodes_told image table)
    leaf_in =
        let ends = subst (λ (l : ℕ). EndsAt V (name_behind segment name) l root way.0 way.1) level way.2 in
        subst (In leaf) (sym bottom)
        (subst (λ (n : ℕ). In n (leaves V (read.linked).level (root ∷ []))) (sym way.3) (way_ends V (name_behind segment name) (read.linked).level root way.0 way.1 ends))

    pub leaf_listed : Contains (symbol_nodes_told image table) leaf
    leaf_listed = contains_in leaf (symbol_nodes_told image table) leaf_in

    -- the symbol node to which the way leads has the name, if any has it
    pub leaf_has : Contains (names_in S segment (symbol_nodes_told image table)) name → Contains (names_in S segment (leaf ∷ [])) name
    leaf_has has =
        name_found image (kind_in image) root (read.linked).level (read.linked).owned (read.linked).symbol_nodes S segment name leaf (read.linked).tree
        (nodes_ordered image table read) way (subst (λ (xs : List ℕ). Contains (names_in S segment xs) name) (sym (symbols_are image table read)) has)

  -- the same of what a search answers
  module _ (name : List ℕ) where
    abbrev Leads : ℕ → Type 0
    Leads leaf = LeadsTo V (name_behind (segment_of image table.heap) name) (V root).level root leaf

    pub one_listed : (r : Option ℕ) → IfSome r Leads → IfSome r (Contains (symbol_nodes_told image table))
    one_listed None way = tt
    one_listed (Some leaf) way = leaf_listed name leaf way

    pub one_has : (r : Option ℕ) → IfSome r Leads → IfSome r (λ leaf.
        Contains (names_in (symbols_at image (leaf_k image)) (segment_of image table.heap) (symbol_nodes_told image table)) name
        → Contains (names_in (symbols_at image (leaf_k image)) (segment_of image table.heap) (leaf ∷ [])) name)
    one_has None way = tt
    one_has (Some leaf) way = leaf_has name leaf way

  pub none_listed : (r : Option ℕ) → (r ≡ None → (V root).children ≡ []) → IfNone r (symbol_nodes_told image table ≡ [])
  none_listed None none = no_nodes (none refl)
  none_listed (Some leaf) none = tt
