-- A group's tree is in order still where its keys have given way: each key stands for a text, and the items are the keys of its names.
use Rattle.std.proofs.Common.{◌≡◌, ℕ, zero, suc, Bool, true, List, [], ◌∷◌, ◌++◌, ◌+◌, length, map, refl, sym, ap, ap₂, ◌∙◌, subst}
use Rattle.std.specs.Bool.{⊤}
use Rattle.std.specs.List.{AllByRecursion, flat_map}
use Rattle.std.proofs.lemmas.List.{map-append}
use Rattle.h5_model.specs.Format.Links.{Before, NotAfter, Symbols, names_in}
use Rattle.h5_model.specs.Format.Nodes.{Kind, HasTree, node_at}
use Rattle.h5_model.specs.Format.Rows.{Reading}
use Rattle.h5_model.proofs.RowLaws.{at_listed}
use Rattle.h5_model.proofs.TextOrder.{before_le, not_after_itself}
use Rattle.h5_laws.specs.KeyEdits.{AreAlike, Retires}
use Rattle.h5_laws.specs.KeyTrees.{KeyTree, items_in, IsSorted}
use Rattle.h5_laws.specs.Ladders.{LieBetween, IsLadder}
use Rattle.h5_laws.specs.NameLadders.{key_sides, key_text, name_sides}
use Rattle.h5_laws.proofs.ExactKeysNames.{key_order, key_through}
use Rattle.h5_laws.proofs.KeyRemoves.{AreRising, retires_sorted}
use Rattle.h5_laws.proofs.KeyInstances.{none_before}
use Rattle.h5_space.specs.Space.{Space}
use Rattle.h5_btree.specs.Keyed.{at_children, keys_from, IsInOrder, items_of_tree}
use Rattle.h5_btree.specs.Retired.{IsTreeRetired, IsSubtree, lowest_key}
use Rattle.h5_btree.proofs.KeyedForms.{IsGroupInOrder, names_at_child}
use Rattle.h5_btree.proofs.KeyedNames.{AreAscending}
use Rattle.h5_btree.proofs.KeyedOwn.{keys_count}
use Rattle.h5_btree.proofs.RetiredTrees.{root_under}

abbrev Names : Type 0
Names = List (List ℕ)

-- ---- keys in place of names

module _ (text : List ℕ → List ℕ) where
  -- the names are the texts of the keys
  abbrev IsNamed : (height : ℕ) → KeyTree (List ℕ) Names height → KeyTree (List ℕ) Names height → Type 0
  IsNamed zero names keys = names ≡ map text keys
  IsNamed (suc height) p q = (p.0 ≡ q.0) × AreAlike (IsNamed height) p.1 q.1

  abbrev I : (height : ℕ) → KeyTree (List ℕ) Names height → Names
  I = items_in (List ℕ) (λ (b : Names). b)

  flat_named : (height : ℕ) (one : (p q : KeyTree (List ℕ) Names height) → IsNamed height p q → I height p ≡ map text (I height q))
      → (ps qs : List (KeyTree (List ℕ) Names height)) → AreAlike (IsNamed height) ps qs
      → (flat_map (I height) ps ≡ map text (flat_map (I height) qs)) × (map (I height) ps ≡ map (map text) (map (I height) qs))
  flat_named height one [] [] alike = (refl, refl)
  flat_named height one [] (q ∷ qs) alike = absurd alike
  flat_named height one (p ∷ ps) [] alike = absurd alike
  flat_named height one (p ∷ ps) (q ∷ qs) alike =
      let here = one p q alike.0 in
      let rest = flat_named height one ps qs alike.1 in (
        ap₂ (λ (a b : Names). a ++ b) here rest.0 ∙ sym (map-append text (I height q) (flat_map (I height) qs)),
        ap₂ (λ (a : Names) (b : List Names). a ∷ b) here rest.1,
      )

  items_named : (height : ℕ) (p q : KeyTree (List ℕ) Names height) → IsNamed height p q → I height p ≡ map text (I height q)
  items_named zero p q is = is
  items_named (suc height) p q is = (flat_named height (items_named height) p.1 q.1 is.1).0

  to_between : (l h : List ℕ) (ys : Names) → LieBetween (name_sides text) l h (map text ys) → LieBetween (key_sides text) l h ys
  to_between l h [] all = tt
  to_between l h (y ∷ ys) all = (all.0, to_between l h ys all.1)

  from_between : (l h : List ℕ) (ys : Names) → LieBetween (key_sides text) l h ys → LieBetween (name_sides text) l h (map text ys)
  from_between l h [] all = tt
  from_between l h (y ∷ ys) all = (all.0, from_between l h ys all.1)

  to_ladder : (keys : Names) (lists : List Names) → IsLadder (name_sides text) keys (map (map text) lists) → IsLadder (key_sides text) keys lists
  to_ladder [] lists is = absurd is
  to_ladder (k ∷ []) [] is = tt
  to_ladder (k ∷ []) (xs ∷ lists) is = absurd is
  to_ladder (k ∷ l ∷ keys) [] is = absurd is
  to_ladder (k ∷ l ∷ keys) (xs ∷ lists) is = (to_between k l xs is.0, is.1, to_ladder (l ∷ keys) lists is.2)

  from_ladder : (keys : Names) (lists : List Names) → IsLadder (key_sides text) keys lists → IsLadder (name_sides text) keys (map (map text) lists)
  from_ladder [] lists is = absurd is
  from_ladder (k ∷ []) [] is = tt
  from_ladder (k ∷ []) (xs ∷ lists) is = absurd is
  from_ladder (k ∷ l ∷ keys) [] is = absurd is
  from_ladder (k ∷ l ∷ keys) (xs ∷ lists) is = (from_between k l xs is.0, is.1, from_ladder (l ∷ keys) lists is.2)

  abbrev S : (height : ℕ) → KeyTree (List ℕ) Names height → Type 0
  S = IsSorted (name_sides text) (λ (b : Names). b) (λ (b : Names). ⊤)

  abbrev T : (height : ℕ) → KeyTree (List ℕ) Names height → Type 0
  T = IsSorted (key_sides text) (λ (b : Names). b) (λ (b : Names). ⊤)

  each_to : (height : ℕ) (one : (p q : KeyTree (List ℕ) Names height) → IsNamed height p q → S height p → T height q) → (ps qs : List (KeyTree (List ℕ) Names height))
      → AreAlike (IsNamed height) ps qs → AllByRecursion (S height) ps → AllByRecursion (T height) qs
  each_to height one [] [] alike all = tt
  each_to height one [] (q ∷ qs) alike all = absurd alike
  each_to height one (p ∷ ps) [] alike all = absurd alike
  each_to height one (p ∷ ps) (q ∷ qs) alike all = (one p q alike.0 all.0, each_to height one ps qs alike.1 all.1)

  sorted_to : (height : ℕ) (p q : KeyTree (List ℕ) Names height) → IsNamed height p q → S height p → T height q
  sorted_to zero p q is sorted = tt
  sorted_to (suc height) p q is sorted = (
    to_ladder q.0 (map (I height) q.1)
        (subst (λ (ks : Names). IsLadder (name_sides text) ks (map (map text) (map (I height) q.1))) is.0
        (subst (IsLadder (name_sides text) p.0) (flat_named height (items_named height) p.1 q.1 is.1).1 sorted.0)),
    each_to height (sorted_to height) p.1 q.1 is.1 sorted.1,
  )

  each_from : (height : ℕ) (one : (p q : KeyTree (List ℕ) Names height) → IsNamed height p q → T height q → S height p) → (ps qs : List (KeyTree (List ℕ) Names height))
      → AreAlike (IsNamed height) ps qs → AllByRecursion (T height) qs → AllByRecursion (S height) ps
  each_from height one [] [] alike all = tt
  each_from height one [] (q ∷ qs) alike all = absurd alike
  each_from height one (p ∷ ps) [] alike all = absurd alike
  each_from height one (p ∷ ps) (q ∷ qs) alike all = (one p q alike.0 all.0, each_from height one ps qs alike.1 all.1)

  sorted_from : (height : ℕ) (p q : KeyTree (List ℕ) Names height) → IsNamed height p q → T height q → S height p
  sorted_from zero p q is sorted = tt
  sorted_from (suc height) p q is sorted = (
    subst (IsLadder (name_sides text) p.0) (sym (flat_named height (items_named height) p.1 q.1 is.1).1)
        (subst (λ (ks : Names). IsLadder (name_sides text) ks (map (map text) (map (I height) q.1))) (sym is.0) (from_ladder q.0 (map (I height) q.1) sorted.0)),
    each_from height (sorted_from height) p.1 q.1 is.1 sorted.1,
  )

  -- ---- the nodes of an image

  module _ (V : Reading) (owned list : List ℕ) (count : (n : ℕ) → length (V n).keys ≡ length (V n).children + 1) (names keys : ℕ → Names)
      (same : AllByRecursion (λ c. names c ≡ map text (keys c)) list) where
    bottom_named : (ks : Names) (cs : List ℕ) → AllByRecursion (IsSubtree V owned list 0) cs
        → AreAlike (IsNamed 0) (at_children (λ key c. names c) ks cs) (at_children (λ key c. keys c) ks cs)
    bottom_named [] cs all = tt
    bottom_named (k ∷ ks) [] all = tt
    bottom_named (k ∷ ks) (c ∷ cs) all = (at_listed (λ d. names d ≡ map text (keys d)) list c same all.0, bottom_named ks cs all.1)

    each_named : (m : ℕ) (one : (n : ℕ) → IsSubtree V owned list (suc m) n → IsNamed (suc m) (keys_from V (λ key c. names c) m n) (keys_from V (λ key c. keys c) m n)) → (cs : List ℕ)
        → AllByRecursion (IsSubtree V owned list (suc m)) cs
        → AreAlike (IsNamed (suc m)) (map (λ n. keys_from V (λ key c. names c) m n) cs) (map (λ n. keys_from V (λ key c. keys c) m n) cs)
    each_named m one [] all = tt
    each_named m one (c ∷ cs) all = (one c all.0, each_named m one cs all.1)

    tree_named : (m n : ℕ) → IsSubtree V owned list (suc m) n → IsNamed (suc m) (keys_from V (λ key c. names c) m n) (keys_from V (λ key c. keys c) m n)
    tree_named zero n is = (refl, bottom_named (V n).keys (V n).children is.2)
    tree_named (suc m) n is = (refl, each_named m (tree_named m) (V n).children is.2)

  -- ---- all names ascend

  module _ (lowest : List ℕ) (empty : text lowest ≡ []) (hit : List ℕ → Type 0) where
    least : (k : List ℕ) → NotAfter (text lowest) (text k)
    least k = subst (λ (t : List ℕ). NotAfter t (text k)) (sym empty) (none_before (text k))

    abbrev Rising : Names → Type 0
    Rising = AreRising (key_sides text) (key_order text) (λ (b : Names). b) (λ (b : Names). ⊤) (λ y z. Before (text y) (text z)) (key_through text) hit (λ (key : List ℕ). key) lowest
        (λ y. not_after_itself (text y)) (λ y z. before_le (text y) (text z)) (λ y k left. left) least

    all_before : (y : List ℕ) (ys : Names) → AllByRecursion (Before (text y)) (map text ys) → AllByRecursion (λ z. Before (text y) (text z)) ys
    all_before y [] all = tt
    all_before y (z ∷ ys) all = (all.0, all_before y ys all.1)

    rising : (ys : Names) → AreAscending (map text ys) → Rising ys
    rising [] all = tt
    rising (y ∷ ys) all = (all_before y ys all.0, rising ys all.1)

    keys_sorted : (height : ℕ) (p q : KeyTree (List ℕ) Names height) → T height p → AreAscending (map text (I height p))
        → Retires hit (λ (key : List ℕ). key) lowest (λ (b : Names). b) height p q → T height q × (I height q ≡ I height p)
    keys_sorted height p q sorted ascend retires =
        retires_sorted (key_sides text) (key_order text) (λ (b : Names). b) (λ (b : Names). ⊤) (λ y z. Before (text y) (text z)) (key_through text) hit (λ (key : List ℕ). key) lowest
        (λ y. not_after_itself (text y)) (λ y z. before_le (text y) (text z)) (λ y k left. left) least height p q sorted (rising (I height p) ascend) retires

-- THE KEYS OF A GROUP'S TREE ARE IN ORDER by the texts that they stand for, where those of its names are
pub group_key_order : (s : Space) (kind : Kind) (root level : ℕ) (owned list : List ℕ) (has : HasTree s.bytes kind root level owned list) (symbols : Symbols) (segment : List ℕ)
    (keys : ℕ → List (List ℕ)) → AllByRecursion (λ c. names_in symbols segment (c ∷ []) ≡ map (key_text segment) (keys c)) list
    → IsGroupInOrder s.bytes kind root level owned list has symbols segment
    → IsInOrder (key_sides (key_text segment)) (λ (b : List (List ℕ)). b) (λ (b : List (List ℕ)). ⊤) s.bytes kind (λ key c. keys c) level root
group_key_order s kind root level owned list has symbols segment keys same sorted =
    let V = node_at s.bytes kind in
    let names : ℕ → List (List ℕ) = λ c. names_in symbols segment (c ∷ []) in
    sorted_to (key_text segment) (suc level) (keys_from V (λ key c. names c) level root) (keys_from V (λ key c. keys c) level root)
    (tree_named (key_text segment) V owned list (keys_count s.bytes kind) names keys same level root (root_under s kind root level owned list has)) sorted

-- ---- a group's tree

module _ (hit : List ℕ → Bool) (keys_at : List ℕ → ℕ → List (List ℕ)) (s t : Space) (kind : Kind) (root level : ℕ) (owned list : List ℕ)
    (was : HasTree s.bytes kind root level owned list) (is : IsTreeRetired hit keys_at s t kind root level owned list) (symbols : Symbols) (segment : List ℕ)
    (empty : key_text segment lowest_key ≡ []) (same : AllByRecursion (λ c. names_in symbols segment (c ∷ []) ≡ map (key_text segment) (keys_at s.bytes c)) list) where
  abbrev text : List ℕ → List ℕ
  text = key_text segment

  -- THE TREE IS IN ORDER STILL, with the same names, where its keys have given way
  pub group_retired : AreAscending (items_of_tree (λ (b : List (List ℕ)). b) s.bytes kind (names_at_child symbols segment) level root)
      → IsGroupInOrder s.bytes kind root level owned list was symbols segment
      → IsGroupInOrder t.bytes kind root level owned list is.tree symbols segment
      × (items_of_tree (λ (b : List (List ℕ)). b) t.bytes kind (names_at_child symbols segment) level root
      ≡ items_of_tree (λ (b : List (List ℕ)). b) s.bytes kind (names_at_child symbols segment) level root)
  group_retired ascend sorted =
      let names : ℕ → List (List ℕ) = λ c. names_in symbols segment (c ∷ []) in
      let V = node_at s.bytes kind in
      let W = node_at t.bytes kind in
      let p = keys_from V (λ key c. names c) level root in
      let q = keys_from V (λ key c. keys_at s.bytes c) level root in
      let u = keys_from W (λ key c. names c) level root in
      let v = keys_from W (λ key c. keys_at s.bytes c) level root in
      let old : IsNamed text (suc level) p q
      = tree_named text V owned list (keys_count s.bytes kind) names (keys_at s.bytes) same level root (root_under s kind root level owned list was) in
      let new : IsNamed text (suc level) u v
      = tree_named text W owned list (keys_count t.bytes kind) names (keys_at s.bytes) same level root (root_under t kind root level owned list is.tree) in
      let before = items_named text (suc level) p q old in
      let all = keys_sorted text lowest_key empty (λ (key : List ℕ). hit key ≡ true) (suc level) q v (sorted_to text (suc level) p q old sorted) (subst AreAscending before ascend) is.keys in (
        sorted_from text (suc level) u v new all.0,
        items_named text (suc level) u v new ∙ ap (map text) all.1 ∙ sym before,
      )
