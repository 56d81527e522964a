-- What edits of a node's keys and children do to its ladder.
use Rattle.std.proofs.Common.{◌≡◌, ◌⊎◌, inl, inr, List, [], ◌∷◌, ◌++◌, length, map, sym, ap, ◌∙◌, subst, arith}
use Rattle.std.specs.List.{flat_map, AllByRecursion}
use Rattle.std.proofs.lemmas.List.{length-map, map-append}
use Rattle.h5_bytes.proofs.BlockLaws.{all_append, all_so}
use Rattle.h5_laws.specs.Ladders.{Sides, LieBetween, IsLadder, IsOrderly}
use Rattle.h5_laws.proofs.Ladders.{ladder_halves, halves_ladder, last_higher}

module _ {K X Y : Type 0} (sides : Sides K X) (N : Y → List X) where
  -- a node's keys, and its children by the items below them
  abbrev pub Ladder : List K → List Y → Type 0
  Ladder keys ys = IsLadder sides keys (map N ys)

  -- the two parts of a node, which share the key between them
  pub halves : (keys : List K) (k : K) (more : List K) (xs ys : List Y) → length keys ≡ length xs
      → Ladder (keys ++ k ∷ more) (xs ++ ys) → Ladder (keys ++ k ∷ []) xs × Ladder (k ∷ more) ys
  halves keys k more xs ys long is =
      ladder_halves sides keys k more (map N xs) (map N ys) (long ∙ sym (length-map xs N))
      (subst (IsLadder sides (keys ++ k ∷ more)) (map-append N xs ys) is)

  pub joined : (keys : List K) (k : K) (more : List K) (xs ys : List Y) → length keys ≡ length xs
      → Ladder (keys ++ k ∷ []) xs → Ladder (k ∷ more) ys → Ladder (keys ++ k ∷ more) (xs ++ ys)
  joined keys k more xs ys long is next =
      subst (IsLadder sides (keys ++ k ∷ more)) (sym (map-append N xs ys))
      (halves_ladder sides keys k more (map N xs) (map N ys) (long ∙ sym (length-map xs N)) is next)

  module _ (orderly : IsOrderly sides) where
    -- the items below all children are to the right of the first key
    pub above_first : (k : K) (keys : List K) (ys : List Y) → Ladder (k ∷ keys) ys → AllByRecursion (sides.Right k) (flat_map N ys)
    above_first k keys [] is = tt
    above_first k [] (y ∷ ys) is = absurd is
    above_first k (l ∷ keys) (y ∷ ys) is =
        all_append (sides.Right k) (N y) (flat_map N ys)
        (all_so (λ x. sides.Right k x × sides.Left x l) (sides.Right k) (N y) (λ x so. so.0) is.0)
        (all_so (sides.Right l) (sides.Right k) (flat_map N ys) (λ x so. orderly.right k l x is.1 so) (above_first l keys ys is.2))

    -- the last key may follow the first
    pub first_last : (k : K) (keys : List K) (m : K) (ys : List Y) → Ladder (k ∷ keys ++ m ∷ []) ys → sides.Rise k m
    first_last k [] m [] is = absurd is
    first_last k (l ∷ keys) m [] is = absurd is
    first_last k [] m (y ∷ ys) is = is.1
    first_last k (l ∷ keys) m (y ∷ ys) is = orderly.rises k l m is.1 (first_last l keys m ys is.2)

    -- and the items are to the left of the last key
    pub below_last : (keys : List K) (m : K) (ys : List Y) → Ladder (keys ++ m ∷ []) ys → AllByRecursion (λ x. sides.Left x m) (flat_map N ys)
    below_last keys m [] is = tt
    below_last [] m (y ∷ ys) is = absurd is
    below_last (k ∷ []) m (y ∷ ys) is =
        all_append (λ x. sides.Left x m) (N y) (flat_map N ys)
        (all_so (λ x. sides.Right k x × sides.Left x m) (λ x. sides.Left x m) (N y) (λ x so. so.1) is.0)
        (below_last [] m ys is.2)
    below_last (k ∷ l ∷ keys) m (y ∷ ys) is =
        all_append (λ x. sides.Left x m) (N y) (flat_map N ys)
        (all_so (λ x. sides.Right k x × sides.Left x l) (λ x. sides.Left x m) (N y) (λ x so. orderly.left x l m so.1 (first_last l keys m ys is.2)) is.0)
        (below_last (l ∷ keys) m ys is.2)

  -- ---- one child of a node, between two keys

  pub record Around (kb : List K) (l h : K) (ka : List K) (xs : List Y) (items : List X) (ys : List Y) : Type 0 where
    pub left : Ladder (kb ++ l ∷ []) xs
    pub lies : LieBetween sides l h items
    pub rise : sides.Rise l h
    pub right : Ladder (h ∷ ka) ys

  pub around : (kb : List K) (l h : K) (ka : List K) (xs : List Y) (y : Y) (ys : List Y) → length kb ≡ length xs
      → Ladder (kb ++ l ∷ h ∷ ka) (xs ++ y ∷ ys) → Around kb l h ka xs (N y) ys
  around kb l h ka xs y ys long is =
      let parts = halves kb l (h ∷ ka) xs (y ∷ ys) long is in
      record { left = parts.0; lies = parts.1.0; rise = parts.1.1; right = parts.1.2 }

  pub from_around : (kb : List K) (l h : K) (ka : List K) (xs : List Y) (y : Y) (ys : List Y) → length kb ≡ length xs
      → Around kb l h ka xs (N y) ys → Ladder (kb ++ l ∷ h ∷ ka) (xs ++ y ∷ ys)
  from_around kb l h ka xs y ys long a = joined kb l (h ∷ ka) xs (y ∷ ys) long a.left (a.lies, a.rise, a.right)

  -- two children in place of one, and a key between them
  pub from_around_two : (kb : List K) (l u h : K) (ka : List K) (xs : List Y) (y z : Y) (ys : List Y) → length kb ≡ length xs
      → Ladder (kb ++ l ∷ []) xs → LieBetween sides l u (N y) → sides.Rise l u → LieBetween sides u h (N z) → sides.Rise u h → Ladder (h ∷ ka) ys
      → Ladder (kb ++ l ∷ u ∷ h ∷ ka) (xs ++ y ∷ z ∷ ys)
  from_around_two kb l u h ka xs y z ys long left first low second high right =
      joined kb l (u ∷ h ∷ ka) xs (y ∷ z ∷ ys) long left (first, low, (second, high, right))

  -- another first or last key, where nothing stands before or behind it
  pub lower_left : (l k : K) (kb : List K) (xs : List Y) → (kb ≡ []) ⊎ (l ≡ k) → Ladder (kb ++ k ∷ []) xs → Ladder (kb ++ l ∷ []) xs
  lower_left l k kb xs (inr same) is = subst (λ j. Ladder (kb ++ j ∷ []) xs) (sym same) is
  lower_left l k [] [] (inl none) is = tt
  lower_left l k [] (x ∷ xs) (inl none) is = absurd is
  lower_left l k (j ∷ kb) xs (inl none) is = absurd (omega (arith, ap length none))

  pub raise_right : (h k : K) (ka : List K) (ys : List Y) → (ka ≡ []) ⊎ (h ≡ k) → Ladder (k ∷ ka) ys → Ladder (h ∷ ka) ys
  raise_right h k ka ys (inr same) is = subst (λ j. Ladder (j ∷ ka) ys) (sym same) is
  raise_right h k [] [] (inl none) is = tt
  raise_right h k [] (y ∷ ys) (inl none) is = absurd is
  raise_right h k (j ∷ ka) ys (inl none) is = absurd (omega (arith, ap length none))

  -- a child goes, with the key before it
  pub without : IsOrderly sides → (kb : List K) (l h : K) (ka : List K) (xs : List Y) (y : Y) (ys : List Y) → length kb ≡ length xs
      → Ladder (kb ++ l ∷ h ∷ ka) (xs ++ y ∷ ys) → Ladder (kb ++ h ∷ ka) (xs ++ ys)
  without orderly kb l h ka xs y ys long is =
      let a = around kb l h ka xs y ys long is in
      joined kb h ka xs ys long (last_higher sides orderly kb l h (map N xs) a.rise a.left) a.right
