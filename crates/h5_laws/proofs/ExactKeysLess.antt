-- Exact keys where keys give way, and where what is left without items goes.
use Rattle.std.proofs.Common.{◌≡◌, ℕ, zero, suc, ◌⊎◌, inl, inr, List, [], ◌∷◌, ◌++◌, length, map, refl, sym, ap, ap₂, ◌∙◌, subst}
use Rattle.std.specs.Prelude.{Option, None, Some, ⊤}
use Rattle.std.specs.List.{flat_map}
use Rattle.std.proofs.lemmas.Grind.{flat_map-append}
use Rattle.h5_laws.specs.KeyTrees.{KeyTree, items_in}
use Rattle.h5_laws.specs.KeyEdits.{IsEmptied, Removes, IsFirstRetired, AreRetired, RetiresKeys, AreAlike, Retires}
use Rattle.h5_laws.specs.ExactKeys.{IsBehind, IsExact, on_edge}
use Rattle.h5_laws.specs.ExactWays.{AreAround, IsFirstOf}
use Rattle.h5_laws.proofs.ExactKeysLast.{some_there}
use Rattle.h5_laws.proofs.ExactKeysRows.{IsChild, past, edge_at, around_some, around_cut, around_joined, from_cut, rows_of, of_rows}
use Rattle.h5_laws.proofs.ExactKeys.{edge_row, edge_exact}

module _ {K B X : Type 0} (key_of : X → K) (lowest : K) (items : B → List X) where
  abbrev I : (height : ℕ) → KeyTree K B height → List X
  I = items_in K items

  abbrev Exact : (K → Type 0) → (height : ℕ) → Option K → KeyTree K B height → Type 0
  Exact spared = IsExact spared key_of lowest items

  abbrev Child : (K → Type 0) → (height : ℕ) → Option K → K → KeyTree K B height → K → Type 0
  Child spared = IsChild spared key_of lowest items

  -- ---- keys give way

  -- the key before a tree is the same, or was hit
  abbrev pub HasGivenWay : (K → Type 0) → Option K → Option K → Type 0
  HasGivenWay hit None None = ⊤
  HasGivenWay hit None (Some now) = ⊥
  HasGivenWay hit (Some was) None = ⊥
  HasGivenWay hit (Some was) (Some now) = ((hit was → ⊥) × (now ≡ was)) ⊎ hit was

  module _ (hit : K → Type 0) where
    abbrev R : (height : ℕ) → KeyTree K B height → KeyTree K B height → Type 0
    R = Retires hit key_of lowest items

    items_row : (height : ℕ) → ((t new : KeyTree K B height) → R height t new → I height new ≡ I height t) → (ts us : List (KeyTree K B height)) → AreAlike (R height) ts us
        → flat_map (I height) us ≡ flat_map (I height) ts
    items_row height one [] [] alike = refl
    items_row height one [] (u ∷ us) alike = absurd alike
    items_row height one (t ∷ ts) [] alike = absurd alike
    items_row height one (t ∷ ts) (u ∷ us) alike = ap₂ (λ (a b : List X). a ++ b) (one t u alike.0) (items_row height one ts us alike.1)

    -- the items stay
    pub retires_items : (height : ℕ) (t new : KeyTree K B height) → Retires hit key_of lowest items height t new → I height new ≡ I height t
    retires_items zero b c retires = ap items retires
    retires_items (suc height) node new retires = items_row height (retires_items height) node.1 new.1 retires.1

    module _ (spared left : K → Type 0) (rest : (k : K) → spared k → (hit k → ⊥) → left k) where
      abbrev Gives : K → K → Type 0
      Gives was now = ((hit was → ⊥) × (now ≡ was)) ⊎ hit was

      gives_edge : (was now : Option K) (k k' : K) → HasGivenWay hit was now → Gives k k' → HasGivenWay hit (on_edge was k) (on_edge now k')
      gives_edge None None k k' edges gives = tt
      gives_edge None (Some now) k k' edges gives = absurd edges
      gives_edge (Some was) None k k' edges gives = absurd edges
      gives_edge (Some was) (Some now) k k' edges gives = gives

      -- a key that is not hit stays, and was so by what was not hit
      kept_by : (k k' j j' : K) → Gives k k' → (hit j → ⊥) → j' ≡ j → j ≡ k → j' ≡ k'
      kept_by k k' j j' (inl same) not_hit is by = is ∙ by ∙ sym same.1
      kept_by k k' j j' (inr was_hit) not_hit is by = absurd (not_hit (subst hit (sym by) was_hit))

      first_gives : (was now : Option K) (k k' : K) (keys new : List K) → HasGivenWay hit was now → IsFirstRetired hit lowest k k' → IsFirstOf spared lowest was (k ∷ keys)
          → IsFirstOf left lowest now (k' ∷ new)
      first_gives None None k k' keys new edges retired is = tt
      first_gives None (Some now) k k' keys new edges retired is = absurd edges
      first_gives (Some was) None k k' keys new edges retired is = absurd edges
      first_gives (Some was) (Some now) k k' keys new edges (inr gone) is = inr (inl gone.1)
      first_gives (Some was) (Some now) k k' keys new edges (inl same) (inl may) = inl (subst left (sym same.1) (rest k may same.0))
      first_gives (Some was) (Some now) k k' keys new edges (inl same) (inr (inl low)) = inr (inl (same.1 ∙ low))
      first_gives (Some was) (Some now) k k' keys new edges (inl same) (inr (inr by)) = inr (inr (kept_by was now k k' edges same.0 same.1 by))

      -- a key that is not hit
      stays_behind : (k k' j j' : K) (xs : List X) → Gives k k' → (hit j → ⊥) → j' ≡ j → IsBehind spared key_of k xs j → IsBehind left key_of k' xs j'
      stays_behind k k' j j' xs gives not_hit is (inl may) = inl (subst left (sym is) (rest j may not_hit))
      stays_behind k k' j j' xs gives not_hit is (inr (inl none)) = inr (inl (none.0, kept_by k k' j j' gives not_hit is none.1))
      stays_behind k k' j j' xs gives not_hit is (inr (inr last)) = inr (inr (last.0, last.1, last.2, is ∙ last.3))

      retired_row : (height : ℕ)
          → ((was now : Option K) (t new : KeyTree K B height) → HasGivenWay hit was now → Exact spared height was t → R height t new → Exact left height now new)
          → (a a' : Option K) (k k' : K) (keys : List K) (ts : List (KeyTree K B height)) (new : List K) (us : List (KeyTree K B height)) → Gives k k' → HasGivenWay hit (on_edge a k) (on_edge a' k')
          → AreAround (Child spared height) a (k ∷ keys) ts → AreRetired hit key_of k' keys (map (I height) ts) new → AreAlike (R height) ts us
          → AreAround (Child left height) a' (k' ∷ new) us
      retired_row height one a a' k k' [] [] new [] gives edges are retired alike = subst (λ (ks : List K). AreAround (Child left height) a' (k' ∷ ks) []) (sym retired) tt
      retired_row height one a a' k k' [] [] new (u ∷ us) gives edges are retired alike = absurd alike
      retired_row height one a a' k k' [] (t ∷ ts) new us gives edges are retired alike = absurd are
      retired_row height one a a' k k' (j ∷ keys) [] new us gives edges are retired alike = absurd retired
      retired_row height one a a' k k' (j ∷ keys) (t ∷ ts) [] us gives edges are retired alike = absurd retired
      retired_row height one a a' k k' (j ∷ keys) (t ∷ ts) (j' ∷ new) [] gives edges are retired alike = absurd alike
      retired_row height one a a' k k' (j ∷ keys) (t ∷ ts) (j' ∷ new) (u ∷ us) gives edges are retired alike =
          let next : Gives j j' × IsBehind left key_of k' (I height t) j' = elim retired.0 [
            | inl same ↦ (inl same, stays_behind k k' j j' (I height t) gives same.0 same.1 are.0.0)
            | inr gone ↦ elim gone [
              | inl none ↦ (inr none.0, inr (inl (none.1, none.2)))
              | inr last ↦ (inr last.0, inr (inr last.1))
            ]
          ] in (
            (
              subst (λ (xs : List X). IsBehind left key_of k' xs j') (sym (retires_items height t u alike.0)) next.1,
              one (on_edge a k) (on_edge a' k') t u edges are.0.1 alike.0,
            ),
            retired_row height one (Some k) (Some k') j j' keys ts new us next.0 next.0 are.1 retired.1 alike.1,
          )

      retired_rows : (height : ℕ)
          → ((was now : Option K) (t new : KeyTree K B height) → HasGivenWay hit was now → Exact spared height was t → R height t new → Exact left height now new)
          → (was now : Option K) (keys new : List K) (ts us : List (KeyTree K B height)) → HasGivenWay hit was now
          → IsFirstOf spared lowest was keys × AreAround (Child spared height) was keys ts → RetiresKeys hit key_of lowest keys (map (I height) ts) new → AreAlike (R height) ts us
          → IsFirstOf left lowest now new × AreAround (Child left height) now new us
      retired_rows height one was now [] new ts us edges rows retired alike = absurd rows.0
      retired_rows height one was now (k ∷ keys) [] ts us edges rows retired alike = absurd retired
      retired_rows height one was now (k ∷ keys) (k' ∷ new) ts us edges rows retired alike =
          let gives : Gives k k' = elim retired.0 [ inl same ↦ inl same | inr gone ↦ inr gone.0 ] in (
            first_gives was now k k' keys new edges retired.0 rows.0,
            retired_row height one was now k k' keys ts new us gives (gives_edge was now k k' edges gives) rows.1 retired.1 alike,
          )

      -- THE KEYS ARE EXACT THEN, where those that were spared, and are not left, give way
      pub retires_exact : (height : ℕ) (was now : Option K) (t new : KeyTree K B height) → HasGivenWay hit was now → Exact spared height was t
          → Retires hit key_of lowest items height t new → Exact left height now new
      retires_exact zero was now b c edges exact retires = tt
      retires_exact (suc height) was now node new edges exact retires =
          of_rows left key_of lowest items height now new.0 new.1
          (retired_rows height (retires_exact height) was now node.0 new.0 node.1 new.1 edges (rows_of spared key_of lowest items height was node.0 node.1 exact) retires.0 retires.1)

  -- ---- what is left without items goes

  module _ (Takes : B → B → Type 0) (Empty : B → Type 0) (none : (b : B) → Empty b → items b ≡ []) (same : (b c : B) → Takes b c → items c ≡ items b) where
    emptied_none : (height : ℕ) (t : KeyTree K B height) → IsEmptied K Empty height t → I height t ≡ []
    emptied_none zero b empty = none b empty
    emptied_none (suc height) t empty = ap (flat_map (I height)) empty

    -- the items stay
    pub removes_items : (height : ℕ) (t new : KeyTree K B height) → Removes K Takes Empty height t new → I height new ≡ I height t
    removes_items zero b c removes = same b c removes
    removes_items (suc height) node new removes =
        let w = removes.0 in
        let c = removes.1 in
        let below = removes_items height w.child c removes.2 in
        let old : flat_map (I height) w.xs ++ (I height w.child ++ flat_map (I height) w.ys) ≡ I (suc height) node
        = sym (flat_map-append (I height) w.xs (w.child ∷ w.ys)) ∙ sym (ap (flat_map (I height)) w.children_are) in
        elim removes.3 [
          | inl stays ↦ ap (flat_map (I height)) stays.1 ∙ flat_map-append (I height) w.xs (c ∷ w.ys)
              ∙ ap (λ (es : List X). flat_map (I height) w.xs ++ (es ++ flat_map (I height) w.ys)) below ∙ old
          | inr goes ↦ ap (flat_map (I height)) goes.2 ∙ flat_map-append (I height) w.xs w.ys
              ∙ ap (λ (es : List X). flat_map (I height) w.xs ++ (es ++ flat_map (I height) w.ys)) (sym (emptied_none height c goes.0) ∙ below) ∙ old
        ]

    module _ (spared : K → Type 0) where
      -- a spared key in place of the last one
      last_spared : (height : ℕ) (before : Option K) (kb : List K) (k j : K) (xs : List (KeyTree K B height)) → spared j → AreAround (Child spared height) before (kb ++ k ∷ []) xs
          → AreAround (Child spared height) before (kb ++ j ∷ []) xs
      last_spared height before [] k j [] may are = tt
      last_spared height before [] k j (x ∷ xs) may are = absurd are
      last_spared height before (l ∷ []) k j [] may are = absurd are
      last_spared height before (l ∷ m ∷ kb) k j [] may are = absurd are
      last_spared height before (l ∷ []) k j (x ∷ xs) may are = ((inl may, are.0.1), last_spared height (Some l) [] k j xs may are.1)
      last_spared height before (l ∷ m ∷ kb) k j (x ∷ xs) may are = (are.0, last_spared height (Some l) (m ∷ kb) k j xs may are.1)

      first_spared : (before : Option K) (kb : List K) (k j : K) (ka ka' : List K) → spared j ⊎ (j ≡ k) → IsFirstOf spared lowest before (kb ++ k ∷ ka) → IsFirstOf spared lowest before (kb ++ j ∷ ka')
      first_spared None [] k j ka ka' which is = tt
      first_spared (Some before) [] k j ka ka' (inl may) is = inl may
      first_spared (Some before) [] k j ka ka' (inr same) is = subst (λ i. IsFirstOf spared lowest (Some before) (i ∷ ka')) (sym same) is
      first_spared before (l ∷ kb) k j ka ka' which is = is

      -- what stands behind the child, without it
      rest_row : (height : ℕ) (before : Option K) (kb : List K) (k j : K) (ka : List K) (ys : List (KeyTree K B height)) → AreAround (Child spared height) (Some k) (j ∷ ka) ys
          → AreAround (Child spared height) (past before kb) (j ∷ ka) ys
      rest_row height None [] k j ka ys are = edge_row key_of lowest items spared height (edge_exact key_of lowest items spared height) k (j ∷ ka) ys are
      rest_row height (Some before) [] k j ka ys are = around_some (Child spared height) k before (j ∷ ka) ys are
      rest_row height before (l ∷ kb) k j ka ys are = around_some (Child spared height) k l (j ∷ ka) ys are

      abbrev Rows : (height : ℕ) → Option K → List K → List (KeyTree K B height) → Type 0
      Rows height before keys cs = IsFirstOf spared lowest before keys × AreAround (Child spared height) before keys cs

      -- without a child below which there is no item
      gone_rows : (height : ℕ) (before : Option K) (kb : List K) (k j : K) (ka : List K) (xs : List (KeyTree K B height)) (c : KeyTree K B height) (ys : List (KeyTree K B height))
          → length kb ≡ length xs → I height c ≡ [] → Rows height before (kb ++ k ∷ j ∷ ka) (xs ++ c ∷ ys) → Rows height before (kb ++ j ∷ ka) (xs ++ ys)
      gone_rows height before kb k j ka xs c ys long empty rows =
          let cut = around_cut (Child spared height) before kb k j ka xs c ys long rows.1 in
          let which : spared j ⊎ (j ≡ k) = elim (cut.here).0 [
            | inl may ↦ inl may
            | inr is ↦ elim is [ inl both ↦ inr both.1 | inr last ↦ absurd (some_there last.1 last.0 [] (sym last.2 ∙ empty)) ]
          ] in
          let front : AreAround (Child spared height) before (kb ++ j ∷ []) xs = elim which [
            | inl may ↦ last_spared height before kb k j xs may cut.left
            | inr same ↦ subst (λ i. AreAround (Child spared height) before (kb ++ i ∷ []) xs) (sym same) cut.left
          ] in
          (first_spared before kb k j (j ∷ ka) ka which rows.0, around_joined (Child spared height) before kb j ka xs ys long front (rest_row height before kb k j ka ys cut.right))

      -- with another child in the place of one, with the same items
      other_rows : (height : ℕ) (before : Option K) (kb : List K) (k j : K) (ka : List K) (xs : List (KeyTree K B height)) (c d : KeyTree K B height) (ys : List (KeyTree K B height))
          → length kb ≡ length xs → I height d ≡ I height c → ((e : Option K) → Exact spared height e c → Exact spared height e d) → Rows height before (kb ++ k ∷ j ∷ ka) (xs ++ c ∷ ys)
          → Rows height before (kb ++ k ∷ j ∷ ka) (xs ++ d ∷ ys)
      other_rows height before kb k j ka xs c d ys long alike so rows =
          let cut = around_cut (Child spared height) before kb k j ka xs c ys long rows.1 in (
            rows.0,
            from_cut (Child spared height) before kb k j ka xs d ys long (record {
              left = cut.left;
              here = (subst (λ (es : List X). IsBehind spared key_of k es j) (sym alike) (cut.here).0, so (edge_at before kb k) (cut.here).1);
              right = cut.right;
            }),
          )

      rows_at : (height : ℕ) (before : Option K) (node : List K × List (KeyTree K B height)) (keys : List K) (cs : List (KeyTree K B height)) → node.0 ≡ keys → node.1 ≡ cs
          → Rows height before keys cs → Exact spared (suc height) before node
      rows_at height before node keys cs keys_are children_are rows =
          of_rows spared key_of lowest items height before node.0 node.1
          (subst (λ (ks : List K). Rows height before ks node.1) (sym keys_are) (subst (λ (ts : List (KeyTree K B height)). Rows height before keys ts) (sym children_are) rows))

      at_rows : (height : ℕ) (before : Option K) (node : List K × List (KeyTree K B height)) (keys : List K) (cs : List (KeyTree K B height)) → node.0 ≡ keys → node.1 ≡ cs
          → Exact spared (suc height) before node → Rows height before keys cs
      at_rows height before node keys cs keys_are children_are exact =
          subst (λ (ks : List K). Rows height before ks cs) keys_are
          (subst (λ (ts : List (KeyTree K B height)). Rows height before node.0 ts) children_are (rows_of spared key_of lowest items height before node.0 node.1 exact))

      removes_keys : (height : ℕ) (before : Option K) (t new : KeyTree K B height) → Removes K Takes Empty height t new → Exact spared height before t → Exact spared height before new
      removes_keys zero before b c removes exact = tt
      removes_keys (suc height) before node new removes exact =
          let w = removes.0 in
          let c = removes.1 in
          let below = removes_items height w.child c removes.2 in
          let rows = at_rows height before node (w.kb ++ w.k ∷ w.j ∷ w.ka) (w.xs ++ w.child ∷ w.ys) w.keys_are w.children_are exact in
          elim removes.3 [
            | inl stays ↦ rows_at height before new (w.kb ++ w.k ∷ w.j ∷ w.ka) (w.xs ++ c ∷ w.ys) (stays.0 ∙ w.keys_are) stays.1
                (other_rows height before w.kb w.k w.j w.ka w.xs w.child c w.ys w.place below (λ e here. removes_keys height e w.child c removes.2 here) rows)
            | inr goes ↦ rows_at height before new (w.kb ++ w.j ∷ w.ka) (w.xs ++ w.ys) goes.1 goes.2
                (gone_rows height before w.kb w.k w.j w.ka w.xs w.child w.ys w.place (sym below ∙ emptied_none height c goes.0) rows)
          ]

      -- THE KEYS STAY EXACT where children without items go, each with the key before it
      pub removes_exact : (height : ℕ) (before : Option K) (t new : KeyTree K B height) → Removes K Takes Empty height t new → Exact spared height before t
          → Exact spared height before new × (I height new ≡ I height t)
      removes_exact height before t new removes exact = (removes_keys height before t new removes exact, removes_items height t new removes)
