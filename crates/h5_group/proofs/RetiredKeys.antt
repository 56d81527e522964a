-- Keys of a tree that give way: what is so of each key before, of the lowest key and of the items' keys, is so of each key afterwards.
use Rattle.std.proofs.Common.{◌≡◌, ℕ, zero, suc, inl, inr, List, [], ◌∷◌, map, sym, subst}
use Rattle.std.specs.List.{AllByRecursion, flat_map}
use Rattle.h5_bytes.proofs.BlockLaws.{all_append, all_left, all_right}
use Rattle.h5_model.specs.Format.Nodes.{Kind, HasTree, node_at, reading_of}
use Rattle.h5_model.specs.Format.Rows.{Node, Reading, next_row, nodes}
use Rattle.h5_model.proofs.RowLaws.{all_listed, at_listed}
use Rattle.h5_laws.specs.KeyEdits.{AreAlike, AreRetired, Retires, RetiresKeys}
use Rattle.h5_laws.specs.KeyTrees.{KeyTree, items_in}
use Rattle.h5_space.specs.Space.{Space}
use Rattle.h5_btree.specs.Insertion.{Owns}
use Rattle.h5_btree.specs.Keyed.{AtChild, at_children, keys_from, trees_below}
use Rattle.h5_btree.specs.Retired.{IsSubtree}
use Rattle.h5_btree.proofs.RetiredTrees.{root_under}
use Rattle.h5_btree.proofs.TreeReadings.{owned_at}

abbrev Keys : Type 0
Keys = List (List ℕ)

module _ (P : List ℕ → Type 0) (hit : List ℕ → Type 0) (lowest : List ℕ) (least : P lowest) where
  abbrev Are : Keys → Type 0
  Are = AllByRecursion P

  -- ---- one node

  rest_so : (before : List ℕ) (keys : Keys) (lists : List Keys) (new : Keys) → P before → Are keys → AllByRecursion Are lists
      → AreRetired hit (λ (key : List ℕ). key) before keys lists new → Are new
  rest_so before [] lists new low keys items is = subst Are (sym is) tt
  rest_so before (k ∷ keys) [] new low all items is = absurd is
  rest_so before (k ∷ keys) (xs ∷ lists) [] low all items is = absurd is
  rest_so before (k ∷ keys) (xs ∷ lists) (k' ∷ new) low all items is =
      let here : P k' = elim is.0 [
        | inl kept ↦ subst P (sym kept.1) all.0
        | inr (inl none) ↦ subst P (sym none.2) low
        | inr (inr last) ↦ subst P (sym last.1.3) (all_right P last.1.1 (last.1.0 ∷ []) (subst Are last.1.2 items.0)).0
      ] in
      (here, rest_so k' keys lists new here all.1 items.1 is.1)

  keys_so : (keys : Keys) (lists : List Keys) (new : Keys) → Are keys → AllByRecursion Are lists → RetiresKeys hit (λ (key : List ℕ). key) lowest keys lists new → Are new
  keys_so [] lists new all items is = subst Are (sym is) tt
  keys_so (k ∷ keys) lists [] all items is = absurd is
  keys_so (k ∷ keys) lists (k' ∷ new) all items is =
      let here : P k' = elim is.0 [ inl kept ↦ subst P (sym kept.1) all.0 | inr gone ↦ subst P (sym gone.1) least ] in
      (here, rest_so k' keys lists new here all.1 items is.1)

  -- ---- the nodes below one

  flat_so : {T : Type 0} (f : T → Keys) (ts : List T) → AllByRecursion Are (map f ts) → Are (flat_map f ts)
  flat_so f [] all = tt
  flat_so f (t ∷ ts) all = all_append P (f t) (flat_map f ts) all.0 (flat_so f ts all.1)

  module _ (V W : Reading) (owned list : List ℕ) (keys_at : ℕ → Keys) (old : AllByRecursion (λ n. Are (V n).keys) owned) (items : AllByRecursion (λ c. Are (keys_at c)) list) where
    abbrev at : AtChild Keys
    at key c = keys_at c

    abbrev I : (height : ℕ) → KeyTree (List ℕ) Keys height → Keys
    I = items_in (List ℕ) (λ (b : Keys). b)

    abbrev Gives : (height : ℕ) → KeyTree (List ℕ) Keys height → KeyTree (List ℕ) Keys height → Type 0
    Gives = Retires hit (λ (key : List ℕ). key) lowest (λ (b : Keys). b)

    bottom_so : (ks : Keys) (cs : List ℕ) → AllByRecursion (IsSubtree V owned list 0) cs → AllByRecursion Are (map (I 0) (at_children at ks cs))
    bottom_so [] cs under = tt
    bottom_so (k ∷ ks) [] under = tt
    bottom_so (k ∷ ks) (c ∷ cs) under = (at_listed (λ d. Are (keys_at d)) list c items under.0, bottom_so ks cs under.1)

    each_items : (m : ℕ) (one : (c : ℕ) → IsSubtree V owned list (suc m) c → Are (I (suc m) (keys_from V at m c))) (cs : List ℕ) → AllByRecursion (IsSubtree V owned list (suc m)) cs
        → AllByRecursion Are (map (I (suc m)) (map (λ c. keys_from V at m c) cs))
    each_items m one [] under = tt
    each_items m one (c ∷ cs) under = (one c under.0, each_items m one cs under.1)

    items_so : (m n : ℕ) → IsSubtree V owned list (suc m) n → AllByRecursion Are (map (I m) (trees_below V at m (V n).keys (V n).children))
    items_so zero n is = bottom_so (V n).keys (V n).children is.2
    items_so (suc m) n is =
        each_items m (λ c under. flat_so (I m) (trees_below V at m (V c).keys (V c).children) (items_so m c under)) (V n).children is.2

    abbrev Below : ℕ → ℕ → Type 0
    Below zero n = Are (W n).keys
    Below (suc m) n = Are (W n).keys × AllByRecursion (Below m) (W n).children

    each_new : (m : ℕ) (one : (n k : ℕ) → IsSubtree V owned list (suc m) n → Gives (suc m) (keys_from V at m n) (keys_from W at m k) → Below m k) (cs ds : List ℕ)
        → AllByRecursion (IsSubtree V owned list (suc m)) cs → AreAlike (Gives (suc m)) (map (λ n. keys_from V at m n) cs) (map (λ n. keys_from W at m n) ds) → AllByRecursion (Below m) ds
    each_new m one [] [] under alike = tt
    each_new m one [] (d ∷ ds) under alike = absurd alike
    each_new m one (c ∷ cs) [] under alike = absurd alike
    each_new m one (c ∷ cs) (d ∷ ds) under alike = (one c d under.0 alike.0, each_new m one cs ds under.1 alike.1)

    new_so : (m n k : ℕ) → IsSubtree V owned list (suc m) n → Gives (suc m) (keys_from V at m n) (keys_from W at m k) → Below m k
    new_so zero n k is gives =
        keys_so (V n).keys (map (I 0) (trees_below V at 0 (V n).keys (V n).children)) (W k).keys (at_listed (λ o. Are (V o).keys) owned n old is.0) (items_so 0 n is) gives.0
    new_so (suc m) n k is gives = (
      keys_so (V n).keys (map (I (suc m)) (trees_below V at (suc m) (V n).keys (V n).children)) (W k).keys (at_listed (λ o. Are (V o).keys) owned n old is.0) (items_so (suc m) n is)
          gives.0,
      each_new m (new_so m) (V n).children (W k).children is.2 gives.1,
    )

    -- ---- row by row

    module _ (Z : Reading) (read : (n : ℕ) → Owns owned n → Z n ≡ W n) where
      first_so : (m n : ℕ) → Below m n → Are (W n).keys
      first_so zero n below = below
      first_so (suc m) n below = below.0

      row_so : (m : ℕ) (row : List ℕ) → AllByRecursion (Below m) row → AllByRecursion (λ n. Are (W n).keys) row
      row_so m [] below = tt
      row_so m (n ∷ row) below = (first_so m n below.0, row_so m row below.1)

      down : (m : ℕ) (row : List ℕ) → AllByRecursion (Owns owned) row → AllByRecursion (Below (suc m)) row → AllByRecursion (Below m) (next_row Z row)
      down m [] owns below = tt
      down m (n ∷ row) owns below =
          all_append (Below m) (Z n).children (next_row Z row)
          (subst (λ (o : Node). AllByRecursion (Below m) o.children) (sym (read n owns.0)) below.0.1) (down m row owns.1 below.1)

      rows_so : (m : ℕ) (row : List ℕ) → AllByRecursion (Owns owned) (nodes Z m row) → AllByRecursion (Below m) row → AllByRecursion (λ n. Are (W n).keys) (nodes Z m row)
      rows_so zero row owns below = row_so 0 row below
      rows_so (suc m) row owns below =
          let mine = all_left (Owns owned) row (nodes Z m (next_row Z row)) owns in
          all_append (λ n. Are (W n).keys) row (nodes Z m (next_row Z row)) (row_so (suc m) row below)
          (rows_so m (next_row Z row) (all_right (Owns owned) row (nodes Z m (next_row Z row)) owns) (down m row mine below))

  -- ---- a tree in an image

  pub retired_keys : (s t : Space) (kind : Kind) (root level : ℕ) (owned list : List ℕ) → HasTree s.bytes kind root level owned list → HasTree t.bytes kind root level owned list
      → (keys_at : ℕ → Keys) → Retires hit (λ (key : List ℕ). key) lowest (λ (b : Keys). b) (suc level)
      (keys_from (node_at s.bytes kind) (λ key c. keys_at c) level root) (keys_from (node_at t.bytes kind) (λ key c. keys_at c) level root)
      → AllByRecursion (λ n. Are (node_at s.bytes kind n).keys) owned → AllByRecursion (λ c. Are (keys_at c)) list
      → AllByRecursion (λ n. Are (node_at t.bytes kind n).keys) owned
  retired_keys s t kind root level owned list was is keys_at gives old items =
      let V = node_at s.bytes kind in
      let W = node_at t.bytes kind in
      let Z = reading_of t.bytes kind owned in
      let below = new_so V W owned list keys_at old items level root root (root_under s kind root level owned list was) gives in
      subst (AllByRecursion (λ n. Are (node_at t.bytes kind n).keys)) (sym is.owns)
      (rows_so V W owned list keys_at old items Z (owned_at W owned) level (root ∷ []) (subst (AllByRecursion (Owns owned)) is.owns (all_listed owned)) (below, tt))
