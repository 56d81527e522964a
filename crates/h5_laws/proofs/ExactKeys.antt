-- Where the exact keys of a tree name something; and exact keys where what stands at the bottom changes.
use Rattle.std.proofs.Common.{◌≡◌, ℕ, zero, suc, inl, inr, List, [], ◌∷◌, ◌++◌, length, refl, sym, ap, ◌∙◌, subst}
use Rattle.std.specs.Prelude.{Option, None, Some}
use Rattle.std.specs.List.{flat_map, AllByRecursion}
use Rattle.h5_bytes.proofs.BlockLaws.{all_left, all_right}
use Rattle.h5_laws.specs.KeyTrees.{KeyTree, items_in}
use Rattle.h5_laws.specs.KeyEdits.{IsTaken, IsEmptied, Removes, AreAlike}
use Rattle.h5_laws.specs.ExactKeys.{IsBehind, IsExact, EachKey, on_edge}
use Rattle.h5_laws.specs.ExactWays.{AreAround, IsFirstOf}
use Rattle.h5_laws.proofs.ExactKeysLast.{EndsAlike, ends_append, ends_same, ends_taken, some_there}
use Rattle.h5_laws.proofs.ExactKeysRows.{IsChild, edge_at, around_cut, rows_of, of_rows}

module _ {K B X : Type 0} (key_of : X → K) (lowest : K) (items : B → List X) where
  abbrev I : (height : ℕ) → KeyTree K B height → List X
  I = items_in K items

  abbrev Exact : (K → Type 0) → (height : ℕ) → Option K → KeyTree K B height → Type 0
  Exact spared = IsExact spared key_of lowest items

  abbrev Child : (K → Type 0) → (height : ℕ) → Option K → K → KeyTree K B height → K → Type 0
  Child spared = IsChild spared key_of lowest items

  -- ---- where keys are not hit

  module _ (hit : K → Type 0) (low : hit lowest → ⊥) where
    abbrev Unhit : K → Type 0
    Unhit k = hit k → ⊥

    abbrev Named : X → Type 0
    Named y = Unhit (key_of y)

    unhit_behind : (k j : K) (xs : List X) → Unhit k → AllByRecursion Named xs → IsBehind (λ i. ⊥) key_of k xs j → Unhit j
    unhit_behind k j xs ok named (inl never) = absurd never
    unhit_behind k j xs ok named (inr (inl none)) = subst Unhit (sym none.1) ok
    unhit_behind k j xs ok named (inr (inr last)) =
        subst Unhit (sym last.3) ((all_right Named last.1 (last.0 ∷ []) (subst (AllByRecursion Named) last.2 named)).0)

    unhit_first : (before k : K) (keys : List K) → Unhit before → IsFirstOf (λ i. ⊥) lowest (Some before) (k ∷ keys) → Unhit k
    unhit_first before k keys ok (inl never) = absurd never
    unhit_first before k keys ok (inr (inl is)) = subst Unhit (sym is) low
    unhit_first before k keys ok (inr (inr is)) = subst Unhit (sym is) ok

    unhit_row : (height : ℕ) (so : (before : K) (t : KeyTree K B height) → Unhit before → AllByRecursion Named (I height t) → Exact (λ i. ⊥) height (Some before) t
        → EachKey B Unhit height t) (a k : K) (keys : List K) (cs : List (KeyTree K B height)) → Unhit k → AllByRecursion Named (flat_map (I height) cs)
        → AreAround (Child (λ i. ⊥) height) (Some a) (k ∷ keys) cs → AllByRecursion Unhit (k ∷ keys) × AllByRecursion (EachKey B Unhit height) cs
    unhit_row height so a k [] [] ok named are = ((ok, tt), tt)
    unhit_row height so a k [] (c ∷ cs) ok named are = absurd are
    unhit_row height so a k (j ∷ keys) [] ok named are = absurd are
    unhit_row height so a k (j ∷ keys) (c ∷ cs) ok named are =
        let here = all_left Named (I height c) (flat_map (I height) cs) named in
        let next = unhit_behind k j (I height c) ok here are.0.0 in
        let rest = unhit_row height so k j keys cs next (all_right Named (I height c) (flat_map (I height) cs) named) are.1 in
        ((ok, rest.0), (so k c ok here are.0.1, rest.1))

    unhit_node : (height : ℕ) (so : (before : K) (t : KeyTree K B height) → Unhit before → AllByRecursion Named (I height t) → Exact (λ i. ⊥) height (Some before) t
        → EachKey B Unhit height t) (before : K) (keys : List K) (cs : List (KeyTree K B height)) → Unhit before → AllByRecursion Named (flat_map (I height) cs)
        → IsFirstOf (λ i. ⊥) lowest (Some before) keys × AreAround (Child (λ i. ⊥) height) (Some before) keys cs
        → AllByRecursion Unhit keys × AllByRecursion (EachKey B Unhit height) cs
    unhit_node height so before [] cs ok named rows = absurd rows.0
    unhit_node height so before (k ∷ keys) cs ok named rows = unhit_row height so before k keys cs (unhit_first before k keys ok rows.0) named rows.1

    -- NO KEY IS HIT of a tree off the left edge, where the key before it is not, and no item's key is
    pub nowhere : (height : ℕ) (before : K) (t : KeyTree K B height) → (hit before → ⊥) → AllByRecursion (λ y. hit (key_of y) → ⊥) (I height t)
        → Exact (λ i. ⊥) height (Some before) t → EachKey B (λ k. hit k → ⊥) height t
    nowhere zero before b ok named exact = tt
    nowhere (suc height) before node ok named exact =
        unhit_node height (nowhere height) before node.0 node.1 ok named (rows_of (λ i. ⊥) key_of lowest items height (Some before) node.0 node.1 exact)

    -- and so of what stands below a child of a node
    pub nowhere_below : (height : ℕ) (before : Option K) (kb : List K) (k j : K) (ka : List K) (xs : List (KeyTree K B height)) (c : KeyTree K B height)
        (ys : List (KeyTree K B height)) → length kb ≡ length xs → edge_at before kb k ≡ Some k → (hit k → ⊥) → AllByRecursion (λ y. hit (key_of y) → ⊥) (I height c)
        → Exact (λ i. ⊥) (suc height) before (kb ++ k ∷ j ∷ ka, xs ++ c ∷ ys) → EachKey B (λ i. hit i → ⊥) height c
    nowhere_below height before kb k j ka xs c ys long off ok named exact =
        let rows = rows_of (λ i. ⊥) key_of lowest items height before (kb ++ k ∷ j ∷ ka) (xs ++ c ∷ ys) exact in
        let cut = around_cut (Child (λ i. ⊥) height) before kb k j ka xs c ys long rows.1 in
        nowhere height k c ok named (subst (λ e. Exact (λ i. ⊥) height e c) off (cut.here).1)

  -- ---- what stands at the bottom changes

  -- the same nodes, and over them what is so at each place
  abbrev pub IsOver : (R : B → B → Type 0) (height : ℕ) → KeyTree K B height → KeyTree K B height → Type 0
  IsOver R zero b c = R b c
  IsOver R (suc height) node new = (new.0 ≡ node.0) × AreAlike (IsOver R height) node.1 new.1

  alike_itself : (height : ℕ) (R : KeyTree K B height → KeyTree K B height → Type 0) → ((t : KeyTree K B height) → R t t) → (ts : List (KeyTree K B height)) → AreAlike R ts ts
  alike_itself height R itself [] = tt
  alike_itself height R itself (t ∷ ts) = (itself t, alike_itself height R itself ts)

  over_itself : (R : B → B → Type 0) → ((b : B) → R b b) → (height : ℕ) (t : KeyTree K B height) → IsOver R height t t
  over_itself R itself zero b = itself b
  over_itself R itself (suc height) node = (refl, alike_itself height (IsOver R height) (over_itself R itself height) node.1)

  module _ (spared left : K → Type 0) (more : (k : K) → spared k → left k) (R : B → B → Type 0) (so : (b c : B) → R b c → EndsAlike (λ y. left (key_of y)) (items b) (items c)) where
    abbrev Ends : List X → List X → Type 0
    Ends = EndsAlike (λ y. left (key_of y))

    ends_row : (height : ℕ) → ((t new : KeyTree K B height) → IsOver R height t new → Ends (I height t) (I height new)) → (ts us : List (KeyTree K B height))
        → AreAlike (IsOver R height) ts us → Ends (flat_map (I height) ts) (flat_map (I height) us)
    ends_row height one [] [] alike = ends_same (λ y. left (key_of y)) [] [] refl
    ends_row height one [] (u ∷ us) alike = absurd alike
    ends_row height one (t ∷ ts) [] alike = absurd alike
    ends_row height one (t ∷ ts) (u ∷ us) alike =
        ends_append (λ y. left (key_of y)) (I height t) (I height u) (flat_map (I height) ts) (flat_map (I height) us) (one t u alike.0) (ends_row height one ts us alike.1)

    pub over_ends : (height : ℕ) (t new : KeyTree K B height) → IsOver R height t new → EndsAlike (λ y. left (key_of y)) (I height t) (I height new)
    over_ends zero b c over = so b c over
    over_ends (suc height) node new over = ends_row height (over_ends height) node.1 new.1 over.1

    over_behind : (k j : K) (xs xs' : List X) → Ends xs xs' → IsBehind spared key_of k xs j → IsBehind left key_of k xs' j
    over_behind k j xs xs' ends (inl is) = inl (more j is)
    over_behind k j xs xs' ends (inr (inl none)) = inr (inl (ends.none none.0, none.1))
    over_behind k j xs xs' ends (inr (inr last)) = elim (ends.last last.0 (last.1, last.2)) [
      | inl is ↦ inl (subst left (sym last.3) is)
      | inr there ↦ inr (inr (last.0, there.0, there.1, last.3))
    ]

    over_first : (before : Option K) (keys : List K) → IsFirstOf spared lowest before keys → IsFirstOf left lowest before keys
    over_first before [] is = is
    over_first None (k ∷ keys) is = tt
    over_first (Some before) (k ∷ keys) (inl is) = inl (more k is)
    over_first (Some before) (k ∷ keys) (inr is) = inr is

    over_row : (height : ℕ) → ((before : Option K) (t new : KeyTree K B height) → IsOver R height t new → Exact spared height before t → Exact left height before new)
        → (before : Option K) (keys : List K) (ts us : List (KeyTree K B height)) → AreAlike (IsOver R height) ts us → AreAround (Child spared height) before keys ts
        → AreAround (Child left height) before keys us
    over_row height one before [] ts us alike are = absurd are
    over_row height one before (k ∷ []) [] [] alike are = tt
    over_row height one before (k ∷ []) [] (u ∷ us) alike are = absurd alike
    over_row height one before (k ∷ []) (t ∷ ts) us alike are = absurd are
    over_row height one before (k ∷ j ∷ keys) [] us alike are = absurd are
    over_row height one before (k ∷ j ∷ keys) (t ∷ ts) [] alike are = absurd alike
    over_row height one before (k ∷ j ∷ keys) (t ∷ ts) (u ∷ us) alike are = (
      (over_behind k j (I height t) (I height u) (over_ends height t u alike.0) are.0.0, one (on_edge before k) t u alike.0 are.0.1),
      over_row height one (Some k) (j ∷ keys) ts us alike.1 are.1,
    )

    -- KEYS ARE EXACT STILL, where the items at each place end alike, but for what is left
    pub over_exact : (height : ℕ) (before : Option K) (t new : KeyTree K B height) → IsOver R height t new → Exact spared height before t → Exact left height before new
    over_exact zero before b c over exact = tt
    over_exact (suc height) before node new over exact =
        let rows = rows_of spared key_of lowest items height before node.0 node.1 exact in
        of_rows left key_of lowest items height before new.0 new.1 (
          subst (IsFirstOf left lowest before) (sym over.0) (over_first before node.0 rows.0),
          subst (λ (ks : List K). AreAround (Child left height) before ks new.1) (sym over.0) (over_row height (over_exact height) before node.0 node.1 new.1 over.1 rows.1),
        )

  -- MORE KEYS ARE SPARED
  pub more_spared : (spared left : K → Type 0) → ((k : K) → spared k → left k) → (height : ℕ) (before : Option K) (t : KeyTree K B height)
      → Exact spared height before t → Exact left height before t
  more_spared spared left more height before t exact =
      over_exact spared left more (λ b c. c ≡ b) (λ b c same. ends_same (λ y. left (key_of y)) (items b) (items c) (ap items same)) height before t t
      (over_itself (λ b c. c ≡ b) (λ b. refl) height t) exact

  -- THE SAME ITEMS stand at each place
  pub same_exact : (spared : K → Type 0) (height : ℕ) (before : Option K) (t new : KeyTree K B height) → IsOver (λ b c. items c ≡ items b) height t new
      → Exact spared height before t → Exact spared height before new
  same_exact spared = over_exact spared spared (λ k is. is) (λ b c. items c ≡ items b) (λ b c. ends_same (λ y. spared (key_of y)) (items b) (items c))

  -- ON THE LEFT EDGE less is asked
  pub edge_row : (spared : K → Type 0) (height : ℕ) → ((before : K) (t : KeyTree K B height) → Exact spared height (Some before) t → Exact spared height None t)
      → (before : K) (keys : List K) (cs : List (KeyTree K B height)) → AreAround (Child spared height) (Some before) keys cs → AreAround (Child spared height) None keys cs
  edge_row spared height one before [] cs are = absurd are
  edge_row spared height one before (k ∷ []) [] are = tt
  edge_row spared height one before (k ∷ []) (c ∷ cs) are = absurd are
  edge_row spared height one before (k ∷ j ∷ keys) [] are = absurd are
  edge_row spared height one before (k ∷ j ∷ keys) (c ∷ cs) are = ((are.0.0, one k c are.0.1), are.1)

  edge_first : (spared : K → Type 0) (before : K) (keys : List K) → IsFirstOf spared lowest (Some before) keys → IsFirstOf spared lowest None keys
  edge_first spared before [] is = is
  edge_first spared before (k ∷ keys) is = tt

  pub edge_exact : (spared : K → Type 0) (height : ℕ) (before : K) (t : KeyTree K B height) → Exact spared height (Some before) t → Exact spared height None t
  edge_exact spared zero before b exact = tt
  edge_exact spared (suc height) before node exact =
      let rows = rows_of spared key_of lowest items height (Some before) node.0 node.1 exact in
      of_rows spared key_of lowest items height None node.0 node.1
      (edge_first spared before node.0 rows.0, edge_row spared height (edge_exact spared height) before node.0 node.1 rows.1)

  -- ---- an item goes

  module _ (x : X) (Takes : B → B → Type 0) (Empty : B → Type 0) (never : (b : B) → Empty b → ⊥) (takes : (b c : B) → Takes b c → IsTaken x (items b) (items c)) where
    -- so no node does
    some_left : (height : ℕ) (t new : KeyTree K B height) → Removes K Takes Empty height t new → IsEmptied K Empty height new → ⊥
    some_left zero b c removes empty = never c empty
    some_left (suc height) node new removes empty = elim removes.3 [
      | inl stays ↦ some_there (removes.0).xs removes.1 (removes.0).ys (sym stays.1 ∙ empty)
      | inr goes ↦ some_left height (removes.0).child removes.1 removes.2 goes.0
    ]

    alike_one : (height : ℕ) (R : KeyTree K B height → KeyTree K B height → Type 0) → ((t : KeyTree K B height) → R t t) → (xs : List (KeyTree K B height)) (c d : KeyTree K B height)
        (ys : List (KeyTree K B height)) → R c d → AreAlike R (xs ++ c ∷ ys) (xs ++ d ∷ ys)
    alike_one height R itself [] c d ys is = (is, alike_itself height R itself ys)
    alike_one height R itself (x ∷ xs) c d ys is = (itself x, alike_one height R itself xs c d ys is)

    module _ (spared left : K → Type 0) (more : (k : K) → spared k → left k) (own : left (key_of x)) where
      abbrev LessAt : B → B → Type 0
      LessAt b c = EndsAlike (λ y. left (key_of y)) (items b) (items c)

      less_itself : (b : B) → LessAt b b
      less_itself b = ends_same (λ y. left (key_of y)) (items b) (items b) refl

      removes_over : (height : ℕ) (t new : KeyTree K B height) → Removes K Takes Empty height t new → IsOver LessAt height t new
      removes_over zero b c removes = ends_taken (λ y. left (key_of y)) x (items b) (items c) own (takes b c removes)
      removes_over (suc height) node new removes = elim removes.3 [
        | inl stays ↦ (
          stays.0,
          subst (λ (cs : List (KeyTree K B height)). AreAlike (IsOver LessAt height) cs new.1) (sym (removes.0).children_are)
              (subst (AreAlike (IsOver LessAt height) ((removes.0).xs ++ (removes.0).child ∷ (removes.0).ys)) (sym stays.1)
              (alike_one height (IsOver LessAt height) (over_itself LessAt less_itself height) (removes.0).xs (removes.0).child removes.1 (removes.0).ys
              (removes_over height (removes.0).child removes.1 removes.2))),
        )
        | inr goes ↦ absurd (some_left height (removes.0).child removes.1 removes.2 goes.0)
      ]

      -- AN ITEM GOES from what stands at the bottom, and its key is left
      pub taken_exact : (height : ℕ) (before : Option K) (t new : KeyTree K B height) → Removes K Takes Empty height t new → Exact spared height before t → Exact left height before new
      taken_exact height before t new removes = over_exact spared left more LessAt (λ b c less. less) height before t new (removes_over height t new removes)
