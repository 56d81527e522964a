-- A key that comes up from below is held between the keys around its place: where the test of keys is the order, and where something
-- stands on both sides of each key.
use Rattle.std.proofs.Common.{◌≡◌, inl, inr, ℕ, zero, suc, ◌+◌, ◌*◌, ◌≤◌, Bool, true, false, List, [], ◌∷◌, ◌++◌, length, map, refl, subst, arith, append-nil}
use Rattle.std.specs.Prelude.{if◌then◌else◌, nat_le}
use Rattle.std.specs.List.{AllByRecursion}
use Rattle.std.proofs.lemmas.Bool.Decides.{nat_tests}
use Rattle.h5_bytes.specs.Bytes.{undefined_address}
use Rattle.h5_bytes.proofs.BlockLaws.{all_left, all_right, all_so}
use Rattle.h5_model.specs.Format.Rows.{Reading, next_row, AreRows}
use Rattle.h5_laws.specs.Ladders.{Sides, LieBetween, IsOrderly}
use Rattle.h5_laws.specs.KeyTrees.{KeyTree, items_in, IsSorted}
use Rattle.h5_laws.specs.KeyEdits.{Grown, One, Two, IsHeld, Inserts, LetIn}
use Rattle.h5_laws.proofs.KeyDepth.{EachGrown, IsBushy, bushy_grown, bushy_items, least, most}
use Rattle.h5_laws.proofs.KeyInserts.{IsGrown, inserts_grown, put_all}
use Rattle.h5_btree.specs.Held.{held_key}
use Rattle.h5_btree.specs.Keyed.{AtChild, trees_below, keys_from}
use Rattle.h5_btree.proofs.LeafLaws.{next_row-append}
use Rattle.h5_btree.proofs.KeyedTrees.{row_levels, below_long}

module _ {X : Type 0} (sides : Sides (List ℕ) X) (follows : List ℕ → List ℕ → Bool) where
  -- the test of keys is their order
  abbrev pub IsTestOf : Type 0
  IsTestOf = (a b : List ℕ) → (follows a b ≡ true → sides.Rise a b) × (follows a b ≡ false → sides.Rise a b → ⊥)

  pub held_by_test : IsTestOf → (l u h : List ℕ) → IsHeld sides l h u (held_key follows l u h)
  held_by_test test l u h = by_tests (follows l u) (follows u h) refl refl where
    by_tests : (a b : Bool) → follows l u ≡ a → follows u h ≡ b → IsHeld sides l h u (if a then (if b then u else h) else l)
    by_tests true true low high = inr (inr (refl, (test l u).0 low, (test u h).0 high))
    by_tests true false low high = inr (inl (refl, (test u h).1 high))
    by_tests false b low high = inl (refl, (test l u).1 low)

  -- each key may follow each other
  abbrev pub IsAlways : Type 0
  IsAlways = (a b : List ℕ) → follows a b ≡ true

  pub held_always : IsAlways → (l u h : List ℕ) → sides.Rise l u → sides.Rise u h → IsHeld sides l h u (held_key follows l u h)
  held_always always l u h low high = by_tests (follows l u) (follows u h) (always l u) (always u h) where
    by_tests : (a b : Bool) → a ≡ true → b ≡ true → IsHeld sides l h u (if a then (if b then u else h) else l)
    by_tests true true a b = inr (inr (refl, low, high))
    by_tests true false a b = cc
    by_tests false b a c = cc

-- ---- trees whose nodes all have children

module _ {B X : Type 0} (items : B → List X) (k level : ℕ) (some : 1 ≤ k) where
  pub few : (m : ℕ) → m ≤ level → least (List ℕ) items k some (suc level) m ≤ 1
  few m deep = by_test (nat_le (suc level) m) refl where
    by_test : (b : Bool) → nat_le (suc level) m ≡ b → (if b then k else 1) ≤ 1
    by_test true is = let high : suc level ≤ m = grind (arith, nat_tests) in absurd (omega (arith, high, deep))
    by_test false is = omega arith

  -- something stands below it
  bushy_most : (height : ℕ) → height ≤ suc level → 1 ≤ most (List ℕ) items k some (suc level) height
  bushy_most zero deep = omega arith
  bushy_most (suc m) deep =
      let rest = bushy_most m (omega (arith, deep)) in
      by_test (nat_le (suc level) m) refl rest
    where
      by_test : (b : Bool) → nat_le (suc level) m ≡ b → 1 ≤ most (List ℕ) items k some (suc level) m
          → 1 ≤ (if b then k else 1) * most (List ℕ) items k some (suc level) m
      by_test true is rest = let high : suc level ≤ m = grind (arith, nat_tests) in absurd (omega (arith, high, deep))
      by_test false is rest = omega (arith, rest)

  pub bushy_some : (height : ℕ) (t : KeyTree (List ℕ) B height) → height ≤ suc level → IsBushy (List ℕ) items k some (suc level) height t → 1 ≤ length (items_in (List ℕ) items height t)
  bushy_some height t deep bushy =
      let a = bushy_most height deep in
      let b = bushy_items (List ℕ) items k some (suc level) height t bushy in
      omega (arith, a, b)

-- ---- each node has a child

module _ (Y : Reading) where
  abbrev pub HasChild : ℕ → Type 0
  HasChild n = (length (Y n).keys ≡ length (Y n).children + 1) × (1 ≤ length (Y n).children)

  -- so have the nodes of this row, and of each row below it
  abbrev HaveChildren : ℕ → List ℕ → Type 0
  HaveChildren zero row = AllByRecursion HasChild row
  HaveChildren (suc m) row = AllByRecursion HasChild row × HaveChildren m (next_row Y row)

  have_rows : (m : ℕ) (row : List ℕ) → AreRows Y m row → ((n : ℕ) → (Y n).level ≤ m → HasChild n) → HaveChildren m row
  have_rows zero row rows each = all_so (λ n. (Y n).level ≡ 0) HasChild row (λ n l. each n (omega (arith, l))) (row_levels Y 0 undefined_address row rows)
  have_rows (suc m) row rows each = (
    all_so (λ n. (Y n).level ≡ suc m) HasChild row (λ n l. each n (omega (arith, l))) (row_levels Y (suc m) undefined_address row rows.0),
    have_rows m (next_row Y row) rows.1 (λ n l. each n (omega (arith, l))),
  )

  have_left : (m : ℕ) (xs ys : List ℕ) → HaveChildren m (xs ++ ys) → HaveChildren m xs
  have_left zero xs ys all = all_left HasChild xs ys all
  have_left (suc m) xs ys all =
      (all_left HasChild xs ys all.0, have_left m (next_row Y xs) (next_row Y ys) (subst (HaveChildren m) (next_row-append Y xs ys) all.1))

  have_right : (m : ℕ) (xs ys : List ℕ) → HaveChildren m (xs ++ ys) → HaveChildren m ys
  have_right zero xs ys all = all_right HasChild xs ys all
  have_right (suc m) xs ys all =
      (all_right HasChild xs ys all.0, have_right m (next_row Y xs) (next_row Y ys) (subst (HaveChildren m) (next_row-append Y xs ys) all.1))

  module _ {B X : Type 0} (sides : Sides (List ℕ) X) (items : B → List X) (Base : B → Type 0) (filled : (b : B) → Base b → 1 ≤ length (items b)) (k level : ℕ) (some : 1 ≤ k)
      (was : AtChild B) where
    abbrev Bushy : (height : ℕ) → KeyTree (List ℕ) B height → Type 0
    Bushy = IsBushy (List ℕ) items k some (suc level)

    bushy_each : (m : ℕ) (so : (n : ℕ) → HaveChildren m (n ∷ []) → IsSorted sides items Base (suc m) (keys_from Y was m n) → Bushy (suc m) (keys_from Y was m n))
        → (ns : List ℕ) → HaveChildren m ns → AllByRecursion (IsSorted sides items Base (suc m)) (map (λ n. keys_from Y was m n) ns)
        → AllByRecursion (Bushy (suc m)) (map (λ n. keys_from Y was m n) ns)
    bushy_each m so [] all sorted = tt
    bushy_each m so (n ∷ ns) all sorted =
        (so n (have_left m (n ∷ []) ns all) sorted.0, bushy_each m so ns (have_right m (n ∷ []) ns all) sorted.1)

    bushy_tree : (m : ℕ) → m ≤ level → (n : ℕ) → HaveChildren m (n ∷ []) → IsSorted sides items Base (suc m) (keys_from Y was m n) → Bushy (suc m) (keys_from Y was m n)
    bushy_tree zero deep n all sorted =
        let count = below_long Y was 0 (Y n).keys (Y n).children (let h = all.0.0 in omega (arith, h)) in
        let low = few items k level some 0 deep in
        let some' = all.0.1 in
        (omega (arith, count, low, some'), all_so Base (λ b. 1 ≤ length (items b)) (trees_below Y was 0 (Y n).keys (Y n).children) filled sorted.1)
    bushy_tree (suc m) deep n all sorted =
        let count = below_long Y was (suc m) (Y n).keys (Y n).children (let h = all.0.0.0 in omega (arith, h)) in
        let low = few items k level some (suc m) deep in
        let some' = all.0.0.1 in (
          omega (arith, count, low, some'),
          bushy_each m (bushy_tree m (omega (arith, deep))) (Y n).children (subst (HaveChildren m) (append-nil (Y n).children) all.1) sorted.1,
        )

    pub bushy_row : (m n : ℕ) (f bk : List ℕ) → m ≤ level → AreRows Y m (f ++ n ∷ bk) → ((c : ℕ) → (Y c).level ≤ m → HasChild c)
        → IsSorted sides items Base (suc m) (keys_from Y was m n) → Bushy (suc m) (keys_from Y was m n)
    bushy_row m n f bk deep rows each sorted =
        let all = have_rows m (f ++ n ∷ bk) rows each in
        bushy_tree m deep n (have_left m (n ∷ []) bk (have_right m f (n ∷ bk) all)) sorted

-- ---- something stands on both sides of a key that comes up

module _ {B X : Type 0} (sides : Sides (List ℕ) X) (orderly : IsOrderly sides) (Below : X → X → Type 0)
    (through : (l h : List ℕ) (y : X) → sides.Right l y → sides.Left y h → sides.Rise l h) (parts : (y z : X) (k : List ℕ) → sides.Left y k → sides.Right k z → Below y z)
    (items : B → List X) (Base : B → Type 0) (filled : (b : B) → Base b → 1 ≤ length (items b)) (x : X) (low high : List ℕ) (new : LetIn sides x low high)
    (follows : List ℕ → List ℕ → Bool) (always : IsAlways sides follows) (k level : ℕ) (some : 1 ≤ k) where
  abbrev Puts : B → Grown (List ℕ) B → Type 0
  Puts = IsGrown sides orderly Below through parts items Base x 0

  each_filled : (b : B) (r : Grown (List ℕ) B) → 1 ≤ length (items b) → Puts b r → EachGrown (λ (c : B). 1 ≤ length (items c)) r
  each_filled b (One a) was puts = filled a puts.0
  each_filled b (Two a u c) was puts = (filled a puts.0, filled c puts.1)

  first_of_all : {l : List ℕ} {P : X → Type 0} (h : List ℕ) (ys : List X) → 1 ≤ length ys → AllByRecursion (λ y. sides.Right l y × sides.Left y h) ys → AllByRecursion P ys
      → (y : X) × (sides.Right l y × sides.Left y h) × P y
  first_of_all h [] some all also = absurd (omega (arith, some))
  first_of_all h (y ∷ ys) some all also = (y, all.0, also.0)

  pub held_by_items : (height : ℕ) (t a b : KeyTree (List ℕ) B height) (l u h : List ℕ) → height ≤ suc level → IsSorted sides items Base height t
      → IsBushy (List ℕ) items k some (suc level) height t → LieBetween sides l h (items_in (List ℕ) items height t) → sides.Right l x → sides.Left x h
      → Inserts sides Puts k x low high height t (Two a u b) → IsHeld sides l h u (held_key follows l u h)
  held_by_items height t a b l u h deep sorted bushy lies right left goes =
      let I = items_in (List ℕ) items height in
      let grown = inserts_grown sides orderly Below through parts items Base k x low high new Puts (λ c r base puts. puts) height t (Two a u b) sorted goes in
      let full = bushy_grown (List ℕ) items k some sides x low high Puts (suc level) each_filled height t (Two a u b) bushy goes in
      let all = put_all Below x (λ y. sides.Right l y × sides.Left y h) (I t) (I a ++ I b) grown.4 lies (right, left) in
      let one = first_of_all {l = l} {P = λ y. sides.Left y u} h (I a) (bushy_some_of a full.0) (all_left (λ y. sides.Right l y × sides.Left y h) (I a) (I b) all) grown.2 in
      let two = first_of_all {l = l} {P = sides.Right u} h (I b) (bushy_some_of b full.1) (all_right (λ y. sides.Right l y × sides.Left y h) (I a) (I b) all) grown.3 in
      held_always sides follows always l u h (through l u one.0 one.1.0 one.2) (through u h two.0 two.2 two.1.1)
    where
      bushy_some_of : (c : KeyTree (List ℕ) B height) → IsBushy (List ℕ) items k some (suc level) height c → 1 ≤ length (items_in (List ℕ) items height c)
      bushy_some_of c is = bushy_some items k level some height c deep is
