-- The keys and children of a node with exact keys, in one row, and cut at a child.
use Rattle.std.proofs.Common.{◌≡◌, ℕ, suc, List, [], ◌∷◌, ◌++◌, length, map, arith}
use Rattle.std.specs.Prelude.{Option, Some}
use Rattle.h5_laws.specs.KeyTrees.{KeyTree, items_in}
use Rattle.h5_laws.specs.ExactKeys.{IsBehind, AreBehind, AreAllBehind, IsExact, on_edge}
use Rattle.h5_laws.specs.ExactWays.{AreAround, IsFirstOf}

-- the key before what stands behind these keys, if it is not on the left edge
abbrev pub past : {K : Type 0} → Option K → List K → Option K
past before [] = before
past before (j ∷ kb) = Some j

-- and for the child behind the next one
abbrev pub edge_at : {K : Type 0} → Option K → List K → K → Option K
edge_at before kb k = on_edge (past before kb) k

-- ---- rows

module _ {K Y : Type 0} (R : Option K → K → Y → K → Type 0) where
  -- off the left edge
  pub around_some : (a b : K) (keys : List K) (cs : List Y) → AreAround R (Some a) keys cs → AreAround R (Some b) keys cs
  around_some a b [] cs are = absurd are
  around_some a b (k ∷ []) [] are = tt
  around_some a b (k ∷ []) (c ∷ cs) are = absurd are
  around_some a b (k ∷ j ∷ keys) [] are = absurd are
  around_some a b (k ∷ j ∷ keys) (c ∷ cs) are = are

  -- two rows, which share the key between them
  pub around_halves : (before : Option K) (kb : List K) (k : K) (ka : List K) (xs ys : List Y) → length kb ≡ length xs
      → AreAround R before (kb ++ k ∷ ka) (xs ++ ys) → AreAround R before (kb ++ k ∷ []) xs × AreAround R (past before kb) (k ∷ ka) ys
  around_halves before [] k ka [] ys long are = (tt, are)
  around_halves before [] k ka (x ∷ xs) ys long are = absurd (omega (arith, long))
  around_halves before (j ∷ kb) k ka [] ys long are = absurd (omega (arith, long))
  around_halves before (j ∷ []) k ka (x ∷ xs) ys long are =
      let rest = around_halves (Some j) [] k ka xs ys (omega (arith, long)) are.1 in ((are.0, rest.0), rest.1)
  around_halves before (j ∷ i ∷ kb) k ka (x ∷ xs) ys long are =
      let rest = around_halves (Some j) (i ∷ kb) k ka xs ys (omega (arith, long)) are.1 in ((are.0, rest.0), around_some i j (k ∷ ka) ys rest.1)

  pub around_joined : (before : Option K) (kb : List K) (k : K) (ka : List K) (xs ys : List Y) → length kb ≡ length xs
      → AreAround R before (kb ++ k ∷ []) xs → AreAround R (past before kb) (k ∷ ka) ys → AreAround R before (kb ++ k ∷ ka) (xs ++ ys)
  around_joined before [] k ka [] ys long are next = next
  around_joined before [] k ka (x ∷ xs) ys long are next = absurd (omega (arith, long))
  around_joined before (j ∷ kb) k ka [] ys long are next = absurd (omega (arith, long))
  around_joined before (j ∷ []) k ka (x ∷ xs) ys long are next = (are.0, around_joined (Some j) [] k ka xs ys (omega (arith, long)) are.1 next)
  around_joined before (j ∷ i ∷ kb) k ka (x ∷ xs) ys long are next =
      (are.0, around_joined (Some j) (i ∷ kb) k ka xs ys (omega (arith, long)) are.1 (around_some j i (k ∷ ka) ys next))

  -- ---- one child of a node, between two keys

  pub record IsCut (before : Option K) (kb : List K) (l h : K) (ka : List K) (xs : List Y) (c : Y) (ys : List Y) : Type 0 where
    pub left : AreAround R before (kb ++ l ∷ []) xs
    pub here : R (edge_at before kb l) l c h
    pub right : AreAround R (Some l) (h ∷ ka) ys

  pub around_cut : (before : Option K) (kb : List K) (l h : K) (ka : List K) (xs : List Y) (c : Y) (ys : List Y) → length kb ≡ length xs
      → AreAround R before (kb ++ l ∷ h ∷ ka) (xs ++ c ∷ ys) → IsCut before kb l h ka xs c ys
  around_cut before kb l h ka xs c ys long are =
      let parts = around_halves before kb l (h ∷ ka) xs (c ∷ ys) long are in
      record { left = parts.0; here = parts.1.0; right = parts.1.1 }

  pub from_cut : (before : Option K) (kb : List K) (l h : K) (ka : List K) (xs : List Y) (c : Y) (ys : List Y) → length kb ≡ length xs
      → IsCut before kb l h ka xs c ys → AreAround R before (kb ++ l ∷ h ∷ ka) (xs ++ c ∷ ys)
  from_cut before kb l h ka xs c ys long cut = around_joined before kb l (h ∷ ka) xs (c ∷ ys) long cut.left (cut.here, cut.right)

-- from one relation to another
pub around_so : {K Y : Type 0} (R S : Option K → K → Y → K → Type 0) → ((e : Option K) (k : K) (c : Y) (j : K) → R e k c j → S e k c j)
    → (before : Option K) (keys : List K) (cs : List Y) → AreAround R before keys cs → AreAround S before keys cs
around_so R S so before [] cs are = absurd are
around_so R S so before (k ∷ []) [] are = tt
around_so R S so before (k ∷ []) (c ∷ cs) are = absurd are
around_so R S so before (k ∷ j ∷ keys) [] are = absurd are
around_so R S so before (k ∷ j ∷ keys) (c ∷ cs) are = (so (on_edge before k) k c j are.0, around_so R S so (Some k) (j ∷ keys) cs are.1)

-- ---- exact keys

module _ {K X Y : Type 0} (spared : K → Type 0) (key_of : X → K) (N : Y → List X) (E : Option K → Y → Type 0) where
  -- a child between two keys, with these items below it
  abbrev pub IsStep : Option K → K → Y → K → Type 0
  IsStep e k c j = IsBehind spared key_of k (N c) j × E e c

  pub in_row : (before : Option K) (k : K) (keys : List K) (cs : List Y) → AreBehind spared key_of k keys (map N cs) → AreAllBehind E before (k ∷ keys) cs
      → AreAround IsStep before (k ∷ keys) cs
  in_row before k [] [] behind all = tt
  in_row before k [] (c ∷ cs) behind all = absurd behind
  in_row before k (j ∷ keys) [] behind all = absurd behind
  in_row before k (j ∷ keys) (c ∷ cs) behind all = ((behind.0, all.0), in_row (Some k) j keys cs behind.1 all.1)

  pub from_row : (before : Option K) (k : K) (keys : List K) (cs : List Y) → AreAround IsStep before (k ∷ keys) cs
      → AreBehind spared key_of k keys (map N cs) × AreAllBehind E before (k ∷ keys) cs
  from_row before k [] [] are = (tt, tt)
  from_row before k [] (c ∷ cs) are = absurd are
  from_row before k (j ∷ keys) [] are = absurd are
  from_row before k (j ∷ keys) (c ∷ cs) are =
      let rest = from_row (Some k) j keys cs are.1 in ((are.0.0, rest.0), (are.0.1, rest.1))

module _ {K B X : Type 0} (spared : K → Type 0) (key_of : X → K) (lowest : K) (items : B → List X) (height : ℕ) where
  -- each child of a node between its keys
  abbrev pub IsChild : Option K → K → KeyTree K B height → K → Type 0
  IsChild = IsStep spared key_of (items_in K items height) (IsExact spared key_of lowest items height)

  abbrev pub AreRows : Option K → List K → List (KeyTree K B height) → Type 0
  AreRows before keys cs = IsFirstOf spared lowest before keys × AreAround IsChild before keys cs

  pub rows_of : (before : Option K) (keys : List K) (cs : List (KeyTree K B height))
      → IsExact spared key_of lowest items (suc height) before (keys, cs) → AreRows before keys cs
  rows_of before [] cs exact = absurd exact.0
  rows_of before (k ∷ keys) cs exact =
      (exact.0.0, in_row spared key_of (items_in K items height) (IsExact spared key_of lowest items height) before k keys cs exact.0.1 exact.1)

  pub of_rows : (before : Option K) (keys : List K) (cs : List (KeyTree K B height)) → AreRows before keys cs
      → IsExact spared key_of lowest items (suc height) before (keys, cs)
  of_rows before [] cs rows = absurd rows.0
  of_rows before (k ∷ keys) cs rows =
      let parts = from_row spared key_of (items_in K items height) (IsExact spared key_of lowest items height) before k keys cs rows.1 in
      ((rows.0, parts.0), parts.1)
