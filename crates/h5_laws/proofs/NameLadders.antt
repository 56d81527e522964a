-- A node of a group's tree is ordered by definition exactly where its keys and the names below its children form a ladder.
use Rattle.std.proofs.Common.{◌≡◌, ℕ, zero, suc, ◌+◌, ◌<◌, List, [], ◌∷◌, ◌++◌, length, map, get_or, refl, sym, ap, ap₂, ◌∙◌, subst, inl, inr}
use Rattle.std.specs.Prelude.{◌↔◌}
use Rattle.std.specs.List.{AllByRecursion, flat_map}
use Rattle.std.proofs.lemmas.List.{length-map, get_or-map, map-append}
use Rattle.std.proofs.lemmas.Grind.{flat_map-append}
use Rattle.h5_bytes.specs.Texts.{text_at}
use Rattle.h5_model.specs.Format.Rows.{Node, Reading, next_row, row_below, leaves}
use Rattle.h5_model.specs.Format.Nodes.{Kind, HasTree, node_at, reading_of}
use Rattle.h5_model.specs.Format.Symbols.{Entry, symbols_at, symbols_of}
use Rattle.h5_model.specs.Format.Links.{Before, NotAfter, Symbols, IsBetween, IsOrdered, names_in, symbol_nodes_below}
use Rattle.h5_model.proofs.OneTree.{children_are}
use Rattle.h5_model.proofs.RowLaws.{only_here}
use Rattle.h5_model.proofs.TextOrder.{not_after_itself, not_after_trans, after_trans, before_back}
use Rattle.h5_laws.specs.Ladders.{IsLadder, IsOrderedBy, all_of, items_under, lists_below, IsOrderly}
use Rattle.h5_laws.specs.NameLadders.{name_sides, name_lists, key_text}
use Rattle.h5_laws.proofs.LadderTrees.{all-map, items_below, ordered_ladder, ladder_ordered, own_ordered, ordered_there}
use Rattle.h5_laws.proofs.Lists.{In, all_in, in_all, in_flat}
use Rattle.h5_laws.proofs.Subtrees.{Within, below_child, below_is}

pub name_order : {K : Type 0} (text : K → List ℕ) → IsOrderly (name_sides text)
name_order text = record {
  itself = λ k. not_after_itself (text k);
  rises = λ k l m. not_after_trans (text k) (text l) (text m);
  right = λ k l name. after_trans (text k) (text l) name;
  left = λ name k l. not_after_trans name (text k) (text l);
  apart = λ k name. before_back (text k) name;
}

-- by other keys, which stand for the same texts
pub ladder_texts : {K L : Type 0} (text : K → List ℕ) (other : L → List ℕ) (f : K → L) (keys : List K) (lists : List (List (List ℕ)))
    → AllByRecursion (λ k. other (f k) ≡ text k) keys → IsLadder (name_sides text) keys lists → IsLadder (name_sides other) (map f keys) lists
ladder_texts text other f [] lists same is = absurd is
ladder_texts text other f (k ∷ []) [] same is = tt
ladder_texts text other f (k ∷ []) (xs ∷ lists) same is = absurd is
ladder_texts text other f (k ∷ l ∷ keys) [] same is = absurd is
ladder_texts text other f (k ∷ l ∷ keys) (xs ∷ lists) same is = (
  subst (λ (low : List ℕ). AllByRecursion (λ name. Before low name × NotAfter name (other (f l))) xs) (sym same.0)
      (subst (λ (high : List ℕ). AllByRecursion (λ name. Before (text k) name × NotAfter name high) xs) (sym same.1.0) is.0),
  subst (λ (low : List ℕ). NotAfter low (other (f l))) (sym same.0) (subst (NotAfter (text k)) (sym same.1.0) is.1),
  ladder_texts text other f (l ∷ keys) lists same.1 is.2,
)

-- the names in symbol nodes
pub names-append : (S : Symbols) (segment xs ys : List ℕ) → names_in S segment (xs ++ ys) ≡ names_in S segment xs ++ names_in S segment ys
names-append S segment xs ys =
    ap (map (λ (e : Entry). text_at segment e.name)) (flat_map-append S xs ys)
    ∙ map-append (λ (e : Entry). text_at segment e.name) (flat_map S xs) (flat_map S ys)

module _ (V : Reading) (S : Symbols) (segment : List ℕ) where
  names-each : (xs : List ℕ) → flat_map (λ at. names_in S segment (at ∷ [])) xs ≡ names_in S segment xs
  names-each [] = refl
  names-each (x ∷ xs) = ap (λ (ns : List (List ℕ)). names_in S segment (x ∷ []) ++ ns) (names-each xs) ∙ sym (names-append S segment (x ∷ []) xs)

  names-row : (row : List ℕ) → flat_map (λ n. all_of (name_lists S segment (V n))) row ≡ names_in S segment (next_row V row)
  names-row [] = refl
  names-row (n ∷ row) =
      ap (λ (ns : List (List ℕ)). ns ++ flat_map (λ m. all_of (name_lists S segment (V m))) row)
      (all-map (λ at. names_in S segment (at ∷ [])) (V n).children ∙ names-each (V n).children)
      ∙ ap (λ (ns : List (List ℕ)). names_in S segment (V n).children ++ ns) (names-row row) ∙ sym (names-append S segment (V n).children (next_row V row))

  -- the names below a node are those in the symbol nodes below it
  pub names_under : (level at : ℕ) → items_under V (name_lists S segment) level at ≡ names_in S segment (leaves V level (at ∷ []))
  names_under level at = items_below V (name_lists S segment) level at ∙ names-row (row_below V level (at ∷ []))

  child_names : (level at : ℕ) (node : Node) (i : ℕ) → get_or node.children i 0 ≡ at → i < length node.children
      → get_or (lists_below V (name_lists S segment) level node) i [] ≡ names_in S segment (below_child V level at)
  child_names zero at node i is low =
      get_or-map (λ n. names_in S segment (n ∷ [])) node.children i 0 [] low ∙ ap (λ (n : ℕ). names_in S segment (n ∷ [])) is
  child_names (suc level) at node i is low =
      get_or-map (items_under V (name_lists S segment) level) node.children i 0 [] low
      ∙ ap (items_under V (name_lists S segment) level) is ∙ names_under level at

  module _ (node : Node) where
    pub list_is : (i : ℕ) → i < length node.children
        → get_or (lists_below V (name_lists S segment) node.level node) i [] ≡ names_in S segment (symbol_nodes_below V node i)
    list_is i low = child_names node.level (get_or node.children i 0) node i refl low ∙ ap (names_in S segment) (sym (below_is V node node.level i refl))

    pub names_long : length (lists_below V (name_lists S segment) node.level node) ≡ length node.children
    names_long = by_level node.level where
      by_level : (level : ℕ) → length (lists_below V (name_lists S segment) level node) ≡ length node.children
      by_level zero = length-map node.children (λ at. names_in S segment (at ∷ []))
      by_level (suc level) = length-map node.children (items_under V (name_lists S segment) level)

    -- the definition of the format, and the order of keys and lists
    pub by_names : IsOrdered V S segment node → IsOrderedBy (name_sides (key_text segment)) V (name_lists S segment) node
    by_names ordered = record {
      between = λ i low. subst (AllByRecursion (IsBetween segment node i)) (sym (list_is i low)) (ordered.between i low);
      rising = ordered.rising;
    }

    pub names_by : IsOrderedBy (name_sides (key_text segment)) V (name_lists S segment) node → IsOrdered V S segment node
    names_by ordered = record {
      between = λ i low. subst (AllByRecursion (IsBetween segment node i)) (list_is i low) (ordered.between i low);
      rising = ordered.rising;
    }

    -- and the ladder of a node that has one key more than children
    pub names_ladder : length node.keys ≡ length node.children + 1
        → IsOrdered V S segment node ↔ IsLadder (name_sides (key_text segment)) node.keys (lists_below V (name_lists S segment) node.level node)
    names_ladder long = (
      λ ordered. ordered_ladder V (name_lists S segment) (name_sides (key_text segment)) node names_long long (by_names ordered),
      λ ladder. names_by (ladder_ordered V (name_lists S segment) (name_sides (key_text segment)) node names_long ladder),
    )

-- ---- a group's tree by its own nodes and symbol nodes, and as it stands

module _ (image segment : List ℕ) (leaf : ℕ) (kind : Kind) (root level : ℕ) (owned symbol_nodes : List ℕ) (has : HasTree image kind root level owned symbol_nodes) where
  abbrev V : Reading
  V = node_at image kind

  abbrev W : Reading
  W = reading_of image kind owned

  abbrev S : Symbols
  S = symbols_at image leaf

  abbrev own : Symbols
  own = symbols_of image leaf symbol_nodes

  same_lists : (row : List ℕ) → Within row symbol_nodes → map (λ at. names_in own segment (at ∷ [])) row ≡ map (λ at. names_in S segment (at ∷ [])) row
  same_lists [] sub = refl
  same_lists (n ∷ row) sub =
      ap₂ (λ (names : List (List ℕ)) (lists : List (List (List ℕ))). names ∷ lists)
      (ap (λ (es : List Entry). map (λ (e : Entry). text_at segment e.name) (es ++ [])) (sym (in_all (λ m. S m ≡ own m) n symbol_nodes (only_here [] S symbol_nodes) (sub n (inl refl)))))
      (same_lists row (λ x at. sub x (inr at)))

  own_is : (at : ℕ) → In at (row_below V level (root ∷ [])) → name_lists own segment (V at) ≡ name_lists S segment (V at)
  own_is at there = same_lists (V at).children
      (λ x child. subst (In x) (sym (children_are image kind root level owned symbol_nodes has)) (in_flat (λ n. (V n).children) at x (row_below V level (root ∷ [])) there child))

  pub own_order : AllByRecursion (λ at. IsOrdered V S segment (V at)) owned → AllByRecursion (λ at. IsOrdered W own segment (W at)) owned
  own_order ordered = all_in (λ at. IsOrdered W own segment (W at)) owned (λ at there.
      names_by W own segment (W at)
      (own_ordered image kind root level owned symbol_nodes has (name_lists S segment) (name_lists own segment) own_is at there
      (name_sides (key_text segment)) (by_names V S segment (V at) (in_all (λ n. IsOrdered V S segment (V n)) at owned ordered there))))

  pub order_there : AllByRecursion (λ at. IsOrdered W own segment (W at)) owned → AllByRecursion (λ at. IsOrdered V S segment (V at)) owned
  order_there ordered = all_in (λ at. IsOrdered V S segment (V at)) owned (λ at there.
      names_by V S segment (V at)
      (ordered_there image kind root level owned symbol_nodes has (name_lists S segment) (name_lists own segment) own_is at there
      (name_sides (key_text segment)) (by_names W own segment (W at) (in_all (λ n. IsOrdered W own segment (W n)) at owned ordered there))))
