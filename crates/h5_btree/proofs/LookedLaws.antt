-- Where keys that are hit stand in a tree whose keys are exact: on its left edge, on the way to the item that has the key, and below a child
-- before which a key is hit. So `retire` has to look there alone.
use Rattle.std.proofs.Common.{◌≡◌, ◌≢◌, ◌⊎◌, inl, inr, ℕ, zero, suc, ◌+◌, ◌<◌, ◌==◌, ◌&&◌, ◌||◌, Bool, true, false, List, [], ◌∷◌, ◌++◌, Option, Some, None, length, map, take, drop, get_or, refl, sym, ap, ◌∙◌, subst, arith, eq-eqb}
use Rattle.std.specs.Prelude.{⊤}
use Rattle.std.specs.List.{AllByRecursion, flat_map, remove, slice_get}
use Rattle.std.proofs.lemmas.Option.{get_or_from_slice_get}
use Rattle.std.proofs.lemmas.Bool.{or_right, false_from_ne_true, both_ways}
use Rattle.h5_bytes.specs.Bytes.{undefined_address}
use Rattle.h5_bytes.proofs.BlockLaws.{all_append, all_left, all_right, all_so}
use Rattle.h5_model.specs.Format.Rows.{Node, Reading, next_row}
use Rattle.h5_model.specs.Format.Nodes.{Kind, HasTree, node_at, reading_of}
use Rattle.h5_laws.specs.ExactKeys.{AreAllBehind, EachKey, IsExact, on_edge}
use Rattle.h5_laws.specs.KeyTrees.{KeyTree, items_in}
use Rattle.h5_laws.proofs.ExactKeys.{nowhere}
use Rattle.h5_space.specs.Space.{Space}
use Rattle.h5_btree.specs.Climb.{IsWay}
use Rattle.h5_btree.specs.Exact.{AreKeysExact, IsExactBelow, key_before, subtree_at}
use Rattle.h5_btree.specs.Insertion.{KeepsEntries, Owns}
use Rattle.h5_btree.specs.Keyed.{AtChild, at_children, keys_from}
use Rattle.h5_btree.specs.Looked.{AreHitsLooked, AreItemsAlong, IsUnhitBelow, goes_on}
use Rattle.h5_btree.specs.Removal.{EndsInTree}
use Rattle.h5_btree.specs.Retired.{keys_below, lowest_key}
use Rattle.h5_btree.specs.declared.way.Step.{Step}
use Rattle.h5_btree.proofs.ClimbSteps.{at_or}
use Rattle.h5_btree.proofs.KeyedOff.{off_list, off_steps}
use Rattle.h5_btree.proofs.KeyedTrees.{row_levels}
use Rattle.h5_btree.proofs.RetiredNodes.{under_named}
use Rattle.h5_btree.proofs.RetiredReads.{all_got}
use Rattle.h5_btree.proofs.RetiredTrees.{root_under}
use Rattle.h5_btree.proofs.TreeReadings.{owned_at, owned_of_level}
use Rattle.h5_btree.proofs.OrderLaws.BetweenLaws.{each_up}

-- ALL IS LOOKED AT where no way is told
pub looked_everywhere : (hit : List ℕ → Bool) (V : Reading) (height : ℕ) (edge : Bool) (at : ℕ) → AreHitsLooked hit V None height edge at
looked_everywhere hit V zero edge at = tt
looked_everywhere hit V (suc height) edge at = λ i child got. inl (or_right (edge && (i == 0)) true refl, looked_everywhere hit V height (edge && (i == 0)) child)

-- ---- items below a node, as the tree of keys has them

module _ (V : Reading) (keys : ℕ → List (List ℕ)) where
  abbrev T : (height : ℕ) → ℕ → KeyTree (List ℕ) (List (List ℕ)) height
  T = subtree_at V keys

  abbrev I : (height : ℕ) → KeyTree (List ℕ) (List (List ℕ)) height → List (List ℕ)
  I = items_in (List ℕ) (λ (b : List (List ℕ)). b)

  module _ (P : List ℕ → Type 0) where
    at_items : (ks : List (List ℕ)) (cs : List ℕ) → AllByRecursion P (flat_map keys cs) → AllByRecursion P (flat_map (λ (b : List (List ℕ)). b) (at_children (λ key c. keys c) ks cs))
    at_items [] cs all = tt
    at_items (k ∷ ks) [] all = tt
    at_items (k ∷ ks) (c ∷ cs) all =
        all_append P (keys c) (flat_map (λ (b : List (List ℕ)). b) (at_children (λ key c. keys c) ks cs)) (all_left P (keys c) (flat_map keys cs) all)
        (at_items ks cs (all_right P (keys c) (flat_map keys cs) all))

    row_items : (level : ℕ) → ((n : ℕ) → AllByRecursion P (keys_below V keys (suc level) n) → AllByRecursion P (I (suc level) (T (suc level) n))) → (cs : List ℕ)
        → AllByRecursion P (flat_map (keys_below V keys (suc level)) cs) → AllByRecursion P (flat_map (I (suc level)) (map (λ n. keys_from V (λ key c. keys c) level n) cs))
    row_items level one [] all = tt
    row_items level one (c ∷ cs) all =
        all_append P (I (suc level) (T (suc level) c)) (flat_map (I (suc level)) (map (λ n. keys_from V (λ key c. keys c) level n) cs))
        (one c (all_left P (keys_below V keys (suc level) c) (flat_map (keys_below V keys (suc level)) cs) all))
        (row_items level one cs (all_right P (keys_below V keys (suc level) c) (flat_map (keys_below V keys (suc level)) cs) all))

    below_items : (height n : ℕ) → AllByRecursion P (keys_below V keys height n) → AllByRecursion P (I height (T height n))
    below_items zero n all = all
    below_items (suc zero) n all = at_items (V n).keys (V n).children all
    below_items (suc (suc level)) n all = row_items level (below_items (suc level)) (V n).children all

    -- what is so below a node is so below its children
    below_child : (height : ℕ) (cs : List ℕ) (i child : ℕ) → slice_get cs i ≡ Some child → AllByRecursion P (flat_map (keys_below V keys height) cs)
        → AllByRecursion P (keys_below V keys height child)
    below_child height [] zero child got all = cc
    below_child height [] (suc i) child got all = cc
    below_child height (c ∷ cs) zero child got all =
        let same : c ≡ child = cc in
        subst (λ (n : ℕ). AllByRecursion P (keys_below V keys height n)) same (all_left P (keys_below V keys height c) (flat_map (keys_below V keys height) cs) all)
    below_child height (c ∷ cs) (suc i) child got all =
        below_child height cs i child got (all_right P (keys_below V keys height c) (flat_map (keys_below V keys height) cs) all)

  -- ---- exact keys below a child

  child_row : (level : ℕ) (before : Option (List ℕ)) (ks : List (List ℕ)) (cs : List ℕ) (i child : ℕ) → slice_get cs i ≡ Some child
      → AreAllBehind (IsExact (λ (k : List ℕ). ⊥) (λ (key : List ℕ). key) lowest_key (λ (b : List (List ℕ)). b) (suc level)) before ks (map (λ n. keys_from V (λ key c. keys c) level n) cs)
      → IsExactBelow V keys (suc level) (key_before before i (get_or ks i [])) child
  child_row level before ks [] zero child got all = cc
  child_row level before ks [] (suc i) child got all = cc
  child_row level before [] (c ∷ cs) i child got all = absurd all
  child_row level before (k ∷ ks) (c ∷ cs) zero child got all =
      let same : c ≡ child = cc in subst (IsExactBelow V keys (suc level) (on_edge before k)) same all.0
  child_row level before (k ∷ ks) (c ∷ cs) (suc i) child got all = behind i (child_row level (Some k) ks cs i child got all.1) where
    behind : (j : ℕ) → IsExactBelow V keys (suc level) (key_before (Some k) j (get_or ks j [])) child → IsExactBelow V keys (suc level) (Some (get_or ks j [])) child
    behind zero is = is
    behind (suc j) is = is

  -- the keys below a child are exact, behind the key before it
  pub child_exact : (height : ℕ) (before : Option (List ℕ)) (at i child : ℕ) → slice_get (V at).children i ≡ Some child → IsExactBelow V keys (suc height) before at
      → IsExactBelow V keys height (key_before before i (get_or (V at).keys i [])) child
  child_exact zero before at i child got exact = tt
  child_exact (suc level) before at i child got exact = child_row level before (V at).keys (V at).children i child got exact.1

  -- ---- no key is hit

  module _ (hit : List ℕ → Bool) where
    abbrev Hit : List ℕ → Type 0
    Hit k = hit k ≡ true

    abbrev Unhit : List (List ℕ) → Type 0
    Unhit = AllByRecursion (λ (key : List ℕ). hit key ≡ false)

    each_row : (level : ℕ) → ((n : ℕ) → EachKey (List (List ℕ)) (λ (k : List ℕ). Hit k → ⊥) (suc level) (T (suc level) n) → IsUnhitBelow hit V (suc level) n) → (cs : List ℕ)
        → AllByRecursion (EachKey (List (List ℕ)) (λ (k : List ℕ). Hit k → ⊥) (suc level)) (map (λ n. keys_from V (λ key c. keys c) level n) cs)
        → AllByRecursion (IsUnhitBelow hit V (suc level)) cs
    each_row level one [] all = tt
    each_row level one (c ∷ cs) all = (one c all.0, each_row level one cs all.1)

    all_zero : (cs : List ℕ) → AllByRecursion (IsUnhitBelow hit V 0) cs
    all_zero [] = tt
    all_zero (c ∷ cs) = (tt, all_zero cs)

    each_unhit : (height n : ℕ) → EachKey (List (List ℕ)) (λ (k : List ℕ). Hit k → ⊥) height (T height n) → IsUnhitBelow hit V height n
    each_unhit zero n each = tt
    each_unhit (suc zero) n each = (
      all_so (λ (k : List ℕ). Hit k → ⊥) (λ (key : List ℕ). hit key ≡ false) (V n).keys (λ k off. false_from_ne_true (hit k) off) each.0,
      all_zero (V n).children,
    )
    each_unhit (suc (suc level)) n each = (
      all_so (λ (k : List ℕ). Hit k → ⊥) (λ (key : List ℕ). hit key ≡ false) (V n).keys (λ k off. false_from_ne_true (hit k) off) each.0,
      each_row level (each_unhit (suc level)) (V n).children each.1,
    )

    -- where no item has such a key, they stand along any way
    pub none_along : (way : List Step) (height at : ℕ) → Unhit (keys_below V keys height at) → AreItemsAlong hit V keys way height at
    none_along way zero at none = tt
    none_along way (suc height) at none = λ i child got. inr (below_child (λ (key : List ℕ). hit key ≡ false) height (V at).children i child got none)

    module _ (low : hit lowest_key ≡ false) (way : List Step) where
      -- no key is hit below a child behind a key that is not
      unhit_child : (height : ℕ) (k : List ℕ) (child : ℕ) → hit k ≡ false → Unhit (keys_below V keys height child) → IsExactBelow V keys height (Some k) child
          → IsUnhitBelow hit V height child
      unhit_child height k child off none exact =
          each_unhit height child
          (nowhere (λ (key : List ℕ). key) lowest_key (λ (b : List (List ℕ)). b) Hit (both_ways (hit lowest_key) low) height k (T height child) (both_ways (hit k) off)
          (below_items (λ (key : List ℕ). Hit key → ⊥) height child
          (all_so (λ (key : List ℕ). hit key ≡ false) (λ (key : List ℕ). Hit key → ⊥) (keys_below V keys height child) (λ key is. both_ways (hit key) is) none))
          exact)

      abbrev HasBefore : Bool → Option (List ℕ) → Type 0
      HasBefore edge None = edge ≡ true
      HasBefore edge (Some k) = ⊤

      -- the key before a child
      has_before : (edge : Bool) (before : Option (List ℕ)) (i : ℕ) (k : List ℕ) → HasBefore edge before → HasBefore (edge && (i == 0)) (key_before before i k)
      has_before true None zero k is = refl
      has_before false None zero k is = cc
      has_before edge (Some b) zero k is = tt
      has_before edge before (suc i) k is = tt

      some_before : (edge : Bool) (before : Option (List ℕ)) (i : ℕ) (k : List ℕ) → HasBefore edge before → (edge && (i == 0)) ≡ false → key_before before i k ≡ Some k
      some_before edge before (suc i) k is off = refl
      some_before edge (Some b) zero k is off = refl
      some_before true None zero k is off = cc
      some_before false None zero k is off = cc

      -- below child i of a node so many levels above its children
      abbrev Seen : ℕ → Bool → ℕ → ℕ → ℕ → Type 0
      Seen height edge at i child =
          ((((edge && (i == 0)) || (hit (get_or (V at).keys i []) || goes_on (slice_get way height) at i)) ≡ true) × AreHitsLooked hit V (Some way) height (edge && (i == 0)) child)
          ⊎ IsUnhitBelow hit V height child

      last_on : (a b c : Bool) → c ≡ true → (a || (b || c)) ≡ true
      last_on true b c on = refl
      last_on false true c on = refl
      last_on false false c on = on

      -- one node, where it is so of those below
      module _ (height : ℕ) (so : (edge : Bool) (before : Option (List ℕ)) (at : ℕ) → HasBefore edge before → IsExactBelow V keys height before at
          → AreItemsAlong hit V keys way height at → AreHitsLooked hit V (Some way) height edge at) (edge : Bool) (before : Option (List ℕ)) (at : ℕ) (is : HasBefore edge before)
          (exact : IsExactBelow V keys (suc height) before at) (i child : ℕ) (got : slice_get (V at).children i ≡ Some child) where
        below : AreItemsAlong hit V keys way height child → AreHitsLooked hit V (Some way) height (edge && (i == 0)) child
        below rest =
            so (edge && (i == 0)) (key_before before i (get_or (V at).keys i [])) child (has_before edge before i (get_or (V at).keys i []) is)
            (child_exact height before at i child got exact) rest

        by_tests : (e h : Bool) → (edge && (i == 0)) ≡ e → hit (get_or (V at).keys i []) ≡ h → Unhit (keys_below V keys height child) → Seen height edge at i child
        by_tests true h on hits none =
            inl (ap (λ (b : Bool). b || (hit (get_or (V at).keys i []) || goes_on (slice_get way height) at i)) on, below (none_along way height child none))
        by_tests false true off hits none = inl (
          ap (λ (b : Bool). b || (hit (get_or (V at).keys i []) || goes_on (slice_get way height) at i)) off ∙ ap (λ (b : Bool). b || goes_on (slice_get way height) at i) hits,
          below (none_along way height child none),
        )
        by_tests false false off hits none =
            let k = get_or (V at).keys i [] in
            inr (unhit_child height k child hits none
            (subst (λ (b : Option (List ℕ)). IsExactBelow V keys height b child) (some_before edge before i k is off) (child_exact height before at i child got exact)))

        by_child : ((goes_on (slice_get way height) at i ≡ true) × AreItemsAlong hit V keys way height child) ⊎ Unhit (keys_below V keys height child) → Seen height edge at i child
        by_child (inl on) = inl (last_on (edge && (i == 0)) (hit (get_or (V at).keys i [])) (goes_on (slice_get way height) at i) on.0, below on.1)
        by_child (inr none) = by_tests (edge && (i == 0)) (hit (get_or (V at).keys i [])) refl refl none

      along : (height : ℕ) (edge : Bool) (before : Option (List ℕ)) (at : ℕ) → HasBefore edge before → IsExactBelow V keys height before at
          → AreItemsAlong hit V keys way height at → AreHitsLooked hit V (Some way) height edge at
      along zero edge before at is exact items = tt
      along (suc height) edge before at is exact items = λ i child got. by_child height (along height) edge before at is exact i child got (items i child got)

-- ALL KEYS THAT ARE HIT ARE LOOKED AT along a way, where keys are exact with nothing spared, and items with such a key stand at the end of the
-- way alone. The lowest key is not hit.
pub looked_along : (hit : List ℕ → Bool) (V : Reading) (keys : ℕ → List (List ℕ)) (way : List Step) (level root : ℕ) → hit lowest_key ≡ false
    → AreKeysExact (λ k. ⊥) keys V level root → AreItemsAlong hit V keys way (suc level) root → AreHitsLooked hit V (Some way) (suc level) true root
looked_along hit V keys way level root low exact items = along V keys hit low way (suc level) true None root refl exact items

-- ---- where no item has a key that is hit

-- one of a list but for the one at this place
other_got : (P : ℕ → Type 0) (xs : List ℕ) (i j child : ℕ) → slice_get xs j ≡ Some child → (j ≡ i → ⊥) → AllByRecursion P (take i xs) → AllByRecursion P (drop (suc i) xs) → P child
other_got P [] i zero child got far before behind = cc
other_got P [] i (suc j) child got far before behind = cc
other_got P (x ∷ xs) zero zero child got far before behind = absurd (far refl)
other_got P (x ∷ xs) zero (suc j) child got far before behind = all_got P xs j child got behind
other_got P (x ∷ xs) (suc i) zero child got far before behind = let same : x ≡ child = cc in subst P same before.0
other_got P (x ∷ xs) (suc i) (suc j) child got far before behind = other_got P xs i j child got (λ same. far (ap suc same)) before.1 behind

-- the first of what is left of a list
next_got : (way : List Step) (n : ℕ) (st : Step) (above : List Step) → drop n way ≡ st ∷ above → (slice_get way n ≡ Some st) × (drop (suc n) way ≡ above)
next_got [] zero st above is = cc
next_got [] (suc n) st above is = cc
next_got (s ∷ way) zero st above is = let same : s ≡ st = cc in let rest : way ≡ above = cc in (ap Some same, rest)
next_got (s ∷ way) (suc n) st above is = next_got way n st above is

on_step : (st : Step) (o : Option Step) → o ≡ Some st → (j : ℕ) → j ≡ st.place → goes_on o st.node j ≡ true
on_step st o is j at =
    ap (λ (q : Option Step). goes_on q st.node j) is
    ∙ ap (λ (b : Bool). b && (st.place == j)) (eq-eqb st.node st.node refl) ∙ eq-eqb st.place j (sym at)

module _ (hit : List ℕ → Bool) (keys : ℕ → List (List ℕ)) where
  abbrev Named : List (List ℕ) → Type 0
  Named = AllByRecursion (λ (key : List ℕ). hit key ≡ false)

  -- They stand along any way, where those at each child have another.
  pub items_nowhere : (s : Space) (kind : Kind) (root level : ℕ) (way : List Step) (owned list : List ℕ) → HasTree s.bytes kind root level owned list
      → AllByRecursion (λ c. AllByRecursion (λ (key : List ℕ). hit key ≡ false) (keys c)) list → AreItemsAlong hit (node_at s.bytes kind) keys way (suc level) root
  items_nowhere s kind root level way owned list has named =
      none_along (node_at s.bytes kind) keys hit way (suc level) root
      (under_named (λ (key : List ℕ). hit key ≡ false) (node_at s.bytes kind) keys owned list named (suc level) root (root_under s kind root level owned list has))

  module _ (s : Space) (kind : Kind) (root level : ℕ) (way : List Step) (owned list : List ℕ) (k : ℕ) (e : EndsInTree s kind root level way owned list k) where
    abbrev V : Reading
    V = node_at s.bytes kind

    abbrev Y : Reading
    Y = reading_of s.bytes kind owned

    abbrev U : ℕ → ℕ → Type 0
    U height n = Named (keys_below V keys height n)

    -- of a node that the tree owns
    own : (m n : ℕ) → m < 16 → (Y n).level ≡ m → Y n ≡ V n
    own m n low is = owned_at V owned n (owned_of_level V owned n (omega (arith, low, is)))

    lift_row : (m : ℕ) → m < 16 → (f : List ℕ) → AllByRecursion (λ n. (Y n).level ≡ m) f → AllByRecursion (U m) (next_row Y f) → AllByRecursion (U (suc m)) f
    lift_row m low [] levels all = tt
    lift_row m low (n ∷ f) levels all = (
      each_up (λ (key : List ℕ). hit key ≡ false) (keys_below V keys m) (V n).children
          (subst (λ (o : Node). AllByRecursion (U m) o.children) (own m n low levels.0) (all_left (U m) (Y n).children (next_row Y f) all)),
      lift_row m low f levels.1 (all_right (U m) (Y n).children (next_row Y f) all),
    )

    -- a node on the way
    at_step : (m : ℕ) (st : Step) → Y st.node ≡ V st.node → slice_get way m ≡ Some st → AllByRecursion (U m) (take st.place (Y st.node).children)
        → AllByRecursion (U m) (drop (suc st.place) (Y st.node).children)
        → ((child : ℕ) → slice_get (V st.node).children st.place ≡ Some child → AreItemsAlong hit V keys way m child) → AreItemsAlong hit V keys way (suc m) st.node
    at_step m st same got before behind below = λ j child is. at_or st.place j
        (λ at. inl (on_step st (slice_get way m) got j at, below child (subst (λ (n : ℕ). slice_get (V st.node).children n ≡ Some child) at is)))
        (λ far. inr (other_got (U m) (V st.node).children st.place j child is far (subst (λ (o : Node). AllByRecursion (U m) (take st.place o.children)) same before)
        (subst (λ (o : Node). AllByRecursion (U m) (drop (suc st.place) o.children)) same behind)))

    climb : (above : List Step) (m a : ℕ) (front back : List ℕ) → length above + m ≡ level → IsWay Y m root above a front back → drop (suc m) way ≡ above
        → AllByRecursion (U (suc m)) front → AllByRecursion (U (suc m)) back → AreItemsAlong hit V keys way (suc m) a → AreItemsAlong hit V keys way (suc level) root
    climb [] m a front back sum w rest before behind along =
        let deep : m ≡ level = omega (arith, sum) in
        subst (λ (d : ℕ). AreItemsAlong hit V keys way (suc d) root) deep (subst (AreItemsAlong hit V keys way (suc m)) w.0 along)
    climb (st ∷ above) m a front back sum w rest before behind along =
        let f = w.0 in
        let bk = w.1 in
        let b = w.2 in
        let top = e.tree.low in
        let low : suc m < 16 = omega (arith, sum, top) in
        let levels = row_levels Y (suc m) undefined_address (f ++ st.node ∷ bk) b.row in
        let levels_f = all_left (λ n. (Y n).level ≡ suc m) f (st.node ∷ bk) levels in
        let levels_b = all_right (λ n. (Y n).level ≡ suc m) f (st.node ∷ bk) levels in
        let fronts = subst (AllByRecursion (U (suc m))) b.fronts before in
        let backs = subst (AllByRecursion (U (suc m))) b.backs behind in
        let cs = (Y st.node).children in
        let same = own (suc m) st.node low levels_b.0 in
        let next = next_got way (suc m) st above rest in
        climb above (suc m) st.node f bk (omega (arith, sum)) w.3 next.1
        (lift_row (suc m) low f levels_f (all_left (U (suc m)) (next_row Y f) (take st.place cs) fronts))
        (lift_row (suc m) low bk levels_b.1 (all_right (U (suc m)) (drop (suc st.place) cs) (next_row Y bk) backs))
        (at_step (suc m) st same next.0 (all_right (U (suc m)) (next_row Y f) (take st.place cs) fronts) (all_left (U (suc m)) (drop (suc st.place) cs) (next_row Y bk) backs)
        (λ child got. subst (AreItemsAlong hit V keys way (suc m))
        (sym b.child ∙ ap (λ (o : Node). get_or o.children st.place 0) same ∙ get_or_from_slice_get (V st.node).children st.place child 0 got) along))

    -- ITEMS WITH SUCH A KEY STAND AT THE END OF A WAY ALONE, where those at each other child at the bottom have another.
    pub items_along : AllByRecursion (λ c. AllByRecursion (λ (key : List ℕ). hit key ≡ false) (keys c)) (remove list k) → AreItemsAlong hit V keys way (suc level) root
    items_along named =
        let keep : (n : ℕ) → Owns owned n → AllByRecursion (λ (step : Step). n ≢ step.node) way → KeepsEntries s.bytes s.bytes kind n = λ n is apart. (refl, refl, refl) in
        let at : AtChild ℕ = λ key c. c in
        let stay : AllByRecursion (λ c. (key : List ℕ) → at key c ≡ at key c) (remove list k) = all_stay (remove list k) in
        let p = e.step.node in
        let i = e.step.place in
        let cs = (Y p).children in
        let all = subst (AllByRecursion (U 0)) (off_list s s kind root level way owned list k e keep at at stay) named in
        let rest = all_right (U 0) (next_row Y e.front) ((take i cs ++ drop (suc i) cs) ++ next_row Y e.back) all in
        let here = all_left (U 0) (take i cs ++ drop (suc i) cs) (next_row Y e.back) rest in
        let levels = row_levels Y 0 undefined_address (e.front ++ p ∷ e.back) e.row in
        let levels_b = all_right (λ n. (Y n).level ≡ 0) e.front (p ∷ e.back) levels in
        let steps = off_steps s s kind root level way owned list k e keep at at stay in
        let next = next_got way 0 e.step e.above e.way_is in
        climb e.above 0 p e.front e.back (omega (arith, steps)) e.leads next.1
        (lift_row 0 (omega arith) e.front (all_left (λ n. (Y n).level ≡ 0) e.front (p ∷ e.back) levels) (all_left (U 0) (next_row Y e.front) ((take i cs ++ drop (suc i) cs) ++ next_row Y e.back) all))
        (lift_row 0 (omega arith) e.back levels_b.1 (all_right (U 0) (take i cs ++ drop (suc i) cs) (next_row Y e.back) rest))
        (at_step 0 e.step (own 0 p (omega arith) levels_b.0) next.0 (all_left (U 0) (take i cs) (drop (suc i) cs) here) (all_right (U 0) (take i cs) (drop (suc i) cs) here) (λ child got. tt))
      where
        all_stay : (cs : List ℕ) → AllByRecursion (λ (c : ℕ). (key : List ℕ) → c ≡ c) cs
        all_stay [] = tt
        all_stay (c ∷ cs) = (λ key. refl, all_stay cs)
