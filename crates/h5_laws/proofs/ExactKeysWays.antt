-- Exact keys of the nodes on a way, whose end keys give way to let an item in.
use Rattle.std.proofs.Common.{◌≡◌, ℕ, zero, suc, ◌⊎◌, inl, inr, List, [], ◌∷◌, ◌++◌, length, sym, ◌∙◌, subst}
use Rattle.std.specs.Prelude.{Option, None, Some, ⊤}
use Rattle.h5_laws.specs.Ladders.{Sides}
use Rattle.h5_laws.specs.KeyTrees.{KeyTree, items_in}
use Rattle.h5_laws.specs.ExactKeys.{IsBehind, IsExact}
use Rattle.h5_laws.specs.ExactWays.{AreAround, IsFirstOf, IsExactFor}
use Rattle.h5_laws.proofs.ExactKeysRows.{IsChild, edge_at, around_some, around_so, around_cut, from_cut, rows_of}

-- the key before a tree lets the item in, if there is one
abbrev pub LetsIn : {K X : Type 0} → Sides K X → X → Option K → Type 0
LetsIn sides x None = ⊤
LetsIn sides x (Some before) = sides.Right before x

module _ {K X : Type 0} (sides : Sides K X) (x : X) (lowest : K) where
  -- the first key is this one, or gives way to the lowest, where it does not let the item in
  abbrev pub Lowers : List K → K → K → Type 0
  Lowers kb k l = (l ≡ k) ⊎ ((kb ≡ []) × (l ≡ lowest) × (sides.Right k x → ⊥))

  -- and the last one, or gives way to this key
  abbrev pub Raises : List K → K → K → K → Type 0
  Raises ka j h high = (h ≡ j) ⊎ ((ka ≡ []) × (h ≡ high))

  pub edge_lets : (before : Option K) (kb : List K) (l : K) → sides.Right l x → LetsIn sides x (edge_at before kb l)
  edge_lets None [] l right = tt
  edge_lets (Some before) [] l right = right
  edge_lets before (j ∷ kb) l right = right

  module _ (right : sides.Right lowest x) where
    -- a first key gives way on the left edge alone
    pub edge_kept : (E : Option K → Type 0) (before : Option K) (kb : List K) (k l : K) (ka : List K) → Lowers kb k l → LetsIn sides x before
        → IsFirstOf (λ i. ⊥) lowest before (kb ++ k ∷ ka) → E (edge_at before kb k) → E (edge_at before kb l)
    edge_kept E before kb k l ka (inl same) lets first is = subst (λ i. E (edge_at before kb i)) (sym same) is
    edge_kept E None [] k l ka (inr gone) lets first is = is
    edge_kept E (Some before) [] k l ka (inr gone) lets (inl never) is = absurd never
    edge_kept E (Some before) [] k l ka (inr gone) lets (inr (inl low)) is = absurd (gone.2 (subst (λ i. sides.Right i x) (sym low) right))
    edge_kept E (Some before) [] k l ka (inr gone) lets (inr (inr by)) is = absurd (gone.2 (subst (λ i. sides.Right i x) (sym by) lets))
    edge_kept E before (j ∷ kb) k l ka (inr gone) lets first is = absurd (let none = gone.0 in cc)

    pub first_kept : (before : Option K) (kb : List K) (k l : K) (ka ka' : List K) → Lowers kb k l → IsFirstOf (λ i. ⊥) lowest before (kb ++ k ∷ ka)
        → IsFirstOf (λ i. ⊥) lowest before (kb ++ l ∷ ka')
    first_kept None [] k l ka ka' lowers is = tt
    first_kept (Some before) [] k l ka ka' (inl same) is = subst (λ i. IsFirstOf (λ i. ⊥) lowest (Some before) (i ∷ ka')) (sym same) is
    first_kept (Some before) [] k l ka ka' (inr gone) is = inr (inl gone.1)
    first_kept before (j ∷ kb) k l ka ka' lowers is = is

  -- ---- what stands before and behind the child on the way

  module _ {Y : Type 0} (R : Option K → K → Y → K → Type 0) where
    pub left_kept : (before : Option K) (kb : List K) (k l : K) (xs : List Y) → Lowers kb k l → AreAround R before (kb ++ k ∷ []) xs → AreAround R before (kb ++ l ∷ []) xs
    left_kept before kb k l xs (inl same) are = subst (λ i. AreAround R before (kb ++ i ∷ []) xs) (sym same) are
    left_kept before [] k l [] (inr gone) are = tt
    left_kept before [] k l (c ∷ xs) (inr gone) are = absurd are
    left_kept before (j ∷ kb) k l xs (inr gone) are = absurd (let none = gone.0 in cc)

    pub right_kept : (k l j h high : K) (ka : List K) (ys : List Y) → Raises ka j h high → AreAround R (Some k) (j ∷ ka) ys → AreAround R (Some l) (h ∷ ka) ys
    right_kept k l j h high ka ys (inl same) are = subst (λ i. AreAround R (Some l) (i ∷ ka) ys) (sym same) (around_some R k l (j ∷ ka) ys are)
    right_kept k l j h high [] [] (inr gone) are = tt
    right_kept k l j h high [] (c ∷ ys) (inr gone) are = absurd are
    right_kept k l j h high (i ∷ ka) ys (inr gone) are = absurd (let none = gone.0 in cc)

module _ {K B X : Type 0} (sides : Sides K X) (key_of : X → K) (lowest : K) (items : B → List X) (x : X) where
  abbrev I : (height : ℕ) → KeyTree K B height → List X
  I = items_in K items

  abbrev Exact : (height : ℕ) → Option K → KeyTree K B height → Type 0
  Exact = IsExact (λ k. ⊥) key_of lowest items

  abbrev ExactFor : (height : ℕ) → Option K → KeyTree K B height → Type 0
  ExactFor = IsExactFor sides x key_of lowest items

  abbrev Child : (height : ℕ) → Option K → K → KeyTree K B height → K → Type 0
  Child = IsChild (λ k. ⊥) key_of lowest items

  -- each child of a node whose keys are exact for the item
  abbrev pub IsChildFor : (height : ℕ) → Option K → K → KeyTree K B height → K → Type 0
  IsChildFor height e k c j =
      Child height e k c j ⊎ (sides.Right k x × sides.Left x j × IsBehind (λ i. i ≡ key_of x) key_of k (I height c) j × ExactFor height e c)

  -- EXACT KEYS are so for any item
  pub exact_for : (height : ℕ) (before : Option K) (t : KeyTree K B height) → Exact height before t → ExactFor height before t
  exact_for zero before b exact = tt
  exact_for (suc height) before node exact =
      let rows = rows_of (λ k. ⊥) key_of lowest items height before node.0 node.1 exact in
      (rows.0, around_so (Child height) (IsChildFor height) (λ e k c j is. inl is) before node.0 node.1 rows.1)

  module _ (right : sides.Right lowest x) where
    -- ONE NODE whose end keys give way to the lowest key and to the item's, where they do not let it in
    pub eased_exact : (height : ℕ) (before : Option K) (kb : List K) (k j l h : K) (ka : List K) (xs : List (KeyTree K B height)) (c d : KeyTree K B height)
        (ys : List (KeyTree K B height)) → length kb ≡ length xs → LetsIn sides x before
        → (l ≡ k) ⊎ ((kb ≡ []) × (l ≡ lowest) × (sides.Right k x → ⊥)) → (h ≡ j) ⊎ ((ka ≡ []) × (h ≡ key_of x)) → sides.Right l x → sides.Left x h
        → (I height c ≡ [] → ⊥) → I height d ≡ I height c → ((e : Option K) → LetsIn sides x e → Exact height e c → ExactFor height e d)
        → Exact (suc height) before (kb ++ k ∷ j ∷ ka, xs ++ c ∷ ys) → ExactFor (suc height) before (kb ++ l ∷ h ∷ ka, xs ++ d ∷ ys)
    eased_exact height before kb k j l h ka xs c d ys long lets low_is high_is low_lets high_lets some same child exact =
        let rows = rows_of (λ k. ⊥) key_of lowest items height before (kb ++ k ∷ j ∷ ka) (xs ++ c ∷ ys) exact in
        let cut = around_cut (Child height) before kb k j ka xs c ys long rows.1 in
        let there = edge_kept sides x lowest right (λ e. Exact height e c) before kb k l (j ∷ ka) low_is lets rows.0 (cut.here).1 in (
          first_kept sides x lowest right before kb k l (j ∷ ka) (h ∷ ka) low_is rows.0,
          from_cut (IsChildFor height) before kb l h ka xs d ys long (record {
            left = left_kept sides x lowest (IsChildFor height) before kb k l xs low_is (around_so (Child height) (IsChildFor height) (λ e i t m is. inl is) before (kb ++ k ∷ []) xs cut.left);
            here = inr (low_lets, high_lets, behind high_is (cut.here).0, child (edge_at before kb l) (edge_lets sides x lowest before kb l low_lets) there);
            right = right_kept sides x lowest (IsChildFor height) k l j h (key_of x) ka ys high_is
                (around_so (Child height) (IsChildFor height) (λ e i t m is. inl is) (Some k) (j ∷ ka) ys cut.right);
          }),
        )
      where
        behind : (h ≡ j) ⊎ ((ka ≡ []) × (h ≡ key_of x)) → IsBehind (λ i. ⊥) key_of k (I height c) j → IsBehind (λ i. i ≡ key_of x) key_of l (I height d) h
        behind (inr gone) is = inl gone.1
        behind (inl stays) (inl never) = absurd never
        behind (inl stays) (inr (inl none)) = absurd (some none.0)
        behind (inl stays) (inr (inr last)) = inr (inr (last.0, last.1, same ∙ last.2, stays ∙ last.3))
