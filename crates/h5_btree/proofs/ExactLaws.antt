-- Exact keys of a node, child by child: what a walk over its children finds.
use Rattle.std.proofs.Common.{◌≡◌, inl, inr, ℕ, zero, suc, ◌+◌, ◌≤◌, List, [], ◌∷◌, ◌++◌, Option, Some, None, length, map, take, get_or, refl, sym, ap, ap₂, ◌∙◌, subst, arith, append-nil, append_assoc, add-one}
use Rattle.std.specs.Option.{option_or}
use Rattle.std.specs.List.{AllByRecursion, flat_map, slice_get}
use Rattle.std.proofs.lemmas.Grind.{flat_map-append}
use Rattle.h5_bytes.specs.Blocks.{Inside}
use Rattle.h5_bytes.proofs.BlockLaws.{all_so}
use Rattle.h5_model.specs.Format.Rows.{Reading}
use Rattle.h5_model.specs.Format.Nodes.{Kind, HasTree, IsNode, node_at, node_bytes, node_length, tree_blocks}
use Rattle.h5_model.proofs.RowLaws.{at_listed}
use Rattle.h5_laws.specs.ExactKeys.{AreAllBehind, AreBehind, IsBehind, IsExact, IsFirstKey}
use Rattle.h5_laws.specs.KeyTrees.{KeyTree, items_in}
use Rattle.h5_laws.proofs.ExactKeysLast.{last_same, some_there}
use Rattle.h5_space.specs.Space.{Space}
use Rattle.h5_btree.specs.Exact.{IsExactBelow, IsBehindChild, IsKeyFirst, key_before, subtree_at}
use Rattle.h5_btree.specs.Keyed.{at_children, trees_below}
use Rattle.h5_btree.specs.Retired.{IsLastOf, IsSubtree, StandsUnder, keys_below, lowest_key}
use Rattle.h5_btree.proofs.RetiredSteps.{take_got}
use Rattle.h5_btree.proofs.RetiredTrees.{root_under}

abbrev Keys : Type 0
Keys = List (List ℕ)

abbrev Behind : List ℕ → Keys → List ℕ → Type 0
Behind = IsBehind (λ (k : List ℕ). ⊥) (λ (key : List ℕ). key)

-- ---- the key behind a child, by the key of the last item below it

pub behind_key : (k j : List ℕ) (xs : Keys) (last : Option (List ℕ)) → IsLastOf xs last → IsBehind (λ (i : List ℕ). ⊥) (λ (key : List ℕ). key) k xs j → IsBehindChild k last j
behind_key k j xs last is (inl never) = absurd never
behind_key k j xs None is (inr (inl none)) = none.1
behind_key k j xs (Some y) is (inr (inl none)) = absurd (some_there is.0 y [] (sym is.1 ∙ none.0))
behind_key k j xs None is (inr (inr there)) = absurd (some_there there.1 there.0 [] (sym there.2 ∙ is))
behind_key k j xs (Some y) is (inr (inr there)) = there.3 ∙ last_same xs there.0 y (there.1, there.2) (is.0, is.1)

pub key_behind : (k j : List ℕ) (xs : Keys) (last : Option (List ℕ)) → IsLastOf xs last → IsBehindChild k last j → IsBehind (λ (i : List ℕ). ⊥) (λ (key : List ℕ). key) k xs j
key_behind k j xs None is same = inr (inl (is, same))
key_behind k j xs (Some y) is same = inr (inr (y, is.0, is.1, same))

first_key : (before : Option (List ℕ)) (k : List ℕ) → IsKeyFirst before k → IsFirstKey (λ (i : List ℕ). ⊥) lowest_key before k
first_key None k is = tt
first_key (Some before) k is = inr is

key_first : (before : Option (List ℕ)) (k : List ℕ) → IsFirstKey (λ (i : List ℕ). ⊥) lowest_key before k → IsKeyFirst before k
key_first None k is = tt
key_first (Some before) k (inl never) = absurd never
key_first (Some before) k (inr is) = is

-- ---- the last of two lists

pub last_joined : (xs ys : Keys) (last below : Option (List ℕ)) → IsLastOf xs last → IsLastOf ys below → IsLastOf (xs ++ ys) (option_or below last)
last_joined xs ys None None is none = ap₂ (λ (a b : Keys). a ++ b) is none
last_joined xs ys (Some y) None is none = (is.0, ap₂ (λ (a b : Keys). a ++ b) is.1 none ∙ append-nil (is.0 ++ y ∷ []))
last_joined xs ys last (Some y) is there = (xs ++ there.0, ap (λ (b : Keys). xs ++ b) there.1 ∙ sym (append_assoc xs there.0 (y ∷ [])))

-- ---- a node, cut at its children

module _ (V : Reading) (keys : ℕ → List (List ℕ)) (count : (n : ℕ) → length (V n).keys ≡ length (V n).children + 1) where
  abbrev T : (height : ℕ) → ℕ → KeyTree (List ℕ) Keys height
  T = subtree_at V keys

  abbrev I : (height : ℕ) → KeyTree (List ℕ) Keys height → Keys
  I = items_in (List ℕ) (λ (b : Keys). b)

  at_all : (ks : Keys) (cs : List ℕ) → length cs ≤ length ks → at_children (λ key c. keys c) ks cs ≡ map (T 0) cs
  at_all [] [] long = refl
  at_all [] (c ∷ cs) long = absurd (omega (arith, long))
  at_all (k ∷ ks) [] long = refl
  at_all (k ∷ ks) (c ∷ cs) long = ap (λ (ts : List Keys). keys c ∷ ts) (at_all ks cs (omega (arith, long)))

  trees_are : (height : ℕ) (ks : Keys) (cs : List ℕ) → length cs ≤ length ks → trees_below V (λ key c. keys c) height ks cs ≡ map (T height) cs
  trees_are zero ks cs long = at_all ks cs long
  trees_are (suc level) ks cs long = refl

  flat_trees : (height : ℕ) → ((n : ℕ) → I height (T height n) ≡ keys_below V keys height n) → (cs : List ℕ) → flat_map (I height) (map (T height) cs) ≡ flat_map (keys_below V keys height) cs
  flat_trees height one [] = refl
  flat_trees height one (c ∷ cs) = ap₂ (λ (a b : Keys). a ++ b) (one c) (flat_trees height one cs)

  -- the items below it
  items_are : (height n : ℕ) → I height (T height n) ≡ keys_below V keys height n
  items_are zero n = refl
  items_are (suc height) n =
      let c = count n in
      ap (flat_map (I height)) (trees_are height (V n).keys (V n).children (omega (arith, c))) ∙ flat_trees height (items_are height) (V n).children

  module _ (height : ℕ) where
    abbrev E : Option (List ℕ) → KeyTree (List ℕ) Keys height → Type 0
    E = IsExact (λ (k : List ℕ). ⊥) (λ (key : List ℕ). key) lowest_key (λ (b : Keys). b) height

    abbrev AllBehind : Keys → List ℕ → Type 0
    AllBehind ks cs = (j child : ℕ) → slice_get cs j ≡ Some child → Behind (get_or ks j []) (keys_below V keys height child) (get_or ks (suc j) [])

    abbrev AllExact : Option (List ℕ) → Keys → List ℕ → Type 0
    AllExact before ks cs = (j child : ℕ) → slice_get cs j ≡ Some child → IsExactBelow V keys height (key_before before j (get_or ks j [])) child

    off_edge : (a k : List ℕ) (before : Option (List ℕ)) (j : ℕ) → key_before (Some a) j k ≡ key_before before (suc j) k
    off_edge a k before zero = refl
    off_edge a k before (suc j) = refl

    row_exact : (before : Option (List ℕ)) (k : List ℕ) (ks : Keys) (cs : List ℕ) → length ks ≡ length cs → AllBehind (k ∷ ks) cs → AllExact before (k ∷ ks) cs
        → AreBehind (λ (i : List ℕ). ⊥) (λ (key : List ℕ). key) k ks (map (I height) (map (T height) cs)) × AreAllBehind E before (k ∷ ks) (map (T height) cs)
    row_exact before k [] [] long behind exact = (tt, tt)
    row_exact before k [] (c ∷ cs) long behind exact = absurd (omega (arith, long))
    row_exact before k (j ∷ ks) [] long behind exact = absurd (omega (arith, long))
    row_exact before k (j ∷ ks) (c ∷ cs) long behind exact =
        let rest = row_exact (Some k) j ks cs (omega (arith, long)) (λ i child got. behind (suc i) child got)
        (λ i child got. subst (λ (b : Option (List ℕ)). IsExactBelow V keys height b child) (sym (off_edge k (get_or (j ∷ ks) i []) before i)) (exact (suc i) child got)) in (
          (subst (λ (xs : Keys). Behind k xs j) (sym (items_are height c)) (behind 0 c refl), rest.0),
          (exact 0 c refl, rest.1),
        )

    row_behind : (k : List ℕ) (ks : Keys) (cs : List ℕ) → AreBehind (λ (i : List ℕ). ⊥) (λ (key : List ℕ). key) k ks (map (I height) (map (T height) cs)) → AllBehind (k ∷ ks) cs
    row_behind k ks [] are zero child got = cc
    row_behind k ks [] are (suc i) child got = cc
    row_behind k [] (c ∷ cs) are i child got = absurd are
    row_behind k (j ∷ ks) (c ∷ cs) are zero child got =
        let same : c ≡ child = cc in
        subst (λ (xs : Keys). Behind k xs j) (items_are height c ∙ ap (keys_below V keys height) same) are.0
    row_behind k (j ∷ ks) (c ∷ cs) are (suc i) child got = row_behind j ks cs are.1 i child got

    by_keys : (before : Option (List ℕ)) (ks : Keys) (cs : List ℕ) → length ks ≡ length cs + 1 → IsKeyFirst before (get_or ks 0 []) → AllBehind ks cs → AllExact before ks cs
        → IsExact (λ (k : List ℕ). ⊥) (λ (key : List ℕ). key) lowest_key (λ (b : Keys). b) (suc height) before (ks, map (T height) cs)
    by_keys before [] cs long first behind exact = absurd (omega (arith, long))
    by_keys before (k ∷ ks) cs long first behind exact =
        let row = row_exact before k ks cs (omega (arith, long)) behind exact in
        ((first_key before k first, row.0), row.1)

    of_keys : (before : Option (List ℕ)) (ks : Keys) (cs : List ℕ)
        → IsExact (λ (k : List ℕ). ⊥) (λ (key : List ℕ). key) lowest_key (λ (b : Keys). b) (suc height) before (ks, map (T height) cs) → IsKeyFirst before (get_or ks 0 []) × AllBehind ks cs
    of_keys before [] cs exact = absurd exact.0
    of_keys before (k ∷ ks) cs exact = (key_first before k exact.0.0, row_behind k ks cs exact.0.1)

    -- ALL KEYS BELOW A NODE ARE EXACT where its first key is, the key behind each child is, and all keys below each child are
    pub exact_node : (before : Option (List ℕ)) (at : ℕ) → IsKeyFirst before (get_or (V at).keys 0 [])
        → ((j child : ℕ) → slice_get (V at).children j ≡ Some child
        → IsBehind (λ (k : List ℕ). ⊥) (λ (key : List ℕ). key) (get_or (V at).keys j []) (keys_below V keys height child) (get_or (V at).keys (suc j) []))
        → ((j child : ℕ) → slice_get (V at).children j ≡ Some child → IsExactBelow V keys height (key_before before j (get_or (V at).keys j [])) child)
        → IsExactBelow V keys (suc height) before at
    exact_node before at first behind exact =
        let c = count at in
        subst (λ (ts : List (KeyTree (List ℕ) Keys height)). IsExact (λ (k : List ℕ). ⊥) (λ (key : List ℕ). key) lowest_key (λ (b : Keys). b) (suc height) before ((V at).keys, ts))
        (sym (trees_are height (V at).keys (V at).children (omega (arith, c)))) (by_keys before (V at).keys (V at).children c first behind exact)

    -- and then they are so
    pub node_exact : (before : Option (List ℕ)) (at : ℕ) → IsExactBelow V keys (suc height) before at
        → IsKeyFirst before (get_or (V at).keys 0 [])
        × ((j child : ℕ) → slice_get (V at).children j ≡ Some child
        → IsBehind (λ (k : List ℕ). ⊥) (λ (key : List ℕ). key) (get_or (V at).keys j []) (keys_below V keys height child) (get_or (V at).keys (suc j) []))
    node_exact before at exact =
        let c = count at in
        of_keys before (V at).keys (V at).children
        (subst (λ (ts : List (KeyTree (List ℕ) Keys height)). IsExact (λ (k : List ℕ). ⊥) (λ (key : List ℕ). key) lowest_key (λ (b : Keys). b) (suc height) before ((V at).keys, ts))
        (trees_are height (V at).keys (V at).children (omega (arith, c))) exact)

    -- the last item below the children up to this one
    pub last_more : (cs : List ℕ) (i child : ℕ) (last below : Option (List ℕ)) → slice_get cs i ≡ Some child → IsLastOf (flat_map (keys_below V keys height) (take i cs)) last
        → IsLastOf (keys_below V keys height child) below → IsLastOf (flat_map (keys_below V keys height) (take (i + 1) cs)) (option_or below last)
    last_more cs i child last below got is there =
        let f = keys_below V keys height in
        subst (λ (xs : Keys). IsLastOf xs (option_or below last))
        (sym (ap (λ (n : ℕ). flat_map f (take n cs)) (add-one i) ∙ ap (flat_map f) (take_got cs i child got) ∙ flat_map-append f (take i cs) (child ∷ [])
        ∙ ap (λ (ys : Keys). flat_map f (take i cs) ++ ys) (append-nil (f child))))
        (last_joined (flat_map f (take i cs)) (f child) last below is there)

-- WHAT STANDS IN A TREE whose nodes lie in the image, over what stands at its bottom
module _ (stands : ℕ → Type 0) (s : Space) (kind : Kind) (owned list : List ℕ) (formed : AllByRecursion (λ n. IsNode kind (node_bytes s.bytes kind n)) owned)
    (inside : Inside (length s.bytes) (tree_blocks kind owned)) (all : AllByRecursion stands list) where
  each_inside : (ns : List ℕ) → Inside (length s.bytes) (tree_blocks kind ns) → AllByRecursion (λ n. n + node_length kind ≤ length s.bytes) ns
  each_inside [] in_image = tt
  each_inside (n ∷ ns) in_image = (in_image.0, each_inside ns in_image.1)

  under_stands : (height at : ℕ) → IsSubtree (node_at s.bytes kind) owned list height at → StandsUnder stands s.bytes kind height at
  under_stands zero at is = at_listed stands list at all is
  under_stands (suc height) at is = (
    (
      at_listed (λ n. n + node_length kind ≤ length s.bytes) owned at (each_inside owned inside) is.0,
      at_listed (λ n. IsNode kind (node_bytes s.bytes kind n)) owned at formed is.0,
    ),
    all_so (IsSubtree (node_at s.bytes kind) owned list height) (StandsUnder stands s.bytes kind height) (node_at s.bytes kind at).children (under_stands height) is.2,
  )

pub tree_stands : (stands : ℕ → Type 0) (s : Space) (kind : Kind) (root level : ℕ) (owned list : List ℕ) → HasTree s.bytes kind root level owned list
    → Inside (length s.bytes) (tree_blocks kind owned) → AllByRecursion stands list → StandsUnder stands s.bytes kind (suc (node_at s.bytes kind root).level) root
tree_stands stands s kind root level owned list has inside all =
    let under = root_under s kind root level owned list has in
    subst (λ (h : ℕ). StandsUnder stands s.bytes kind (suc h) root) (sym under.1) (under_stands stands s kind owned list has.formed inside all (suc level) root under)
