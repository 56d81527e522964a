-- How often the blocks of the members of a list hold a byte.
use Rattle.std.proofs.Common.{◌≡◌, inl, inr, ℕ, zero, suc, ◌+◌, ◌≤◌, List, [], ◌∷◌, ◌++◌, map, refl, ap, arith, Some, None}
use Rattle.std.specs.Prelude.{slice_get}
use Rattle.std.specs.List.{flat_map}
use Rattle.std.proofs.lemmas.Option.{same_Some}
use Rattle.h5_bytes.specs.Blocks.{cover}
use Rattle.h5_bytes.specs.declared.Block.{Block}
use Rattle.h5_bytes.proofs.BlockLaws.{cover-append}
use Rattle.h5_laws.proofs.Lists.{In, in_at}

module _ {X : Type 0} (f : X → List Block) (q : ℕ) where
  -- those of one are among those of all
  pub member_cover : (xs : List X) (x : X) → In x xs → cover q (f x) ≤ cover q (flat_map f xs)
  member_cover [] x at = absurd at
  member_cover (y ∷ xs) x (inl is) =
      let same = ap (λ (z : X). cover q (f z)) is in
      omega (arith, same, cover-append q (f y) (flat_map f xs))
  member_cover (y ∷ xs) x (inr at) = omega (arith, member_cover xs x at, cover-append q (f y) (flat_map f xs))

  -- and so are those of two
  pub pair_cover : (xs : List X) (j k : ℕ) (x y : X) → slice_get xs j ≡ Some x → slice_get xs k ≡ Some y → (j ≡ k → ⊥)
      → cover q (f x) + cover q (f y) ≤ cover q (flat_map f xs)
  pair_cover [] j k x y at there other = absurd (let never : None ≡ Some x = at in cc)
  pair_cover (z ∷ xs) zero zero x y at there other = absurd (other refl)
  pair_cover (z ∷ xs) zero (suc k) x y at there other =
      let same = ap (λ (w : X). cover q (f w)) (same_Some z x at) in
      omega (arith, same, member_cover xs y (in_at xs k y there), cover-append q (f z) (flat_map f xs))
  pair_cover (z ∷ xs) (suc j) zero x y at there other =
      let same = ap (λ (w : X). cover q (f w)) (same_Some z y there) in
      omega (arith, same, member_cover xs x (in_at xs j x at), cover-append q (f z) (flat_map f xs))
  pair_cover (z ∷ xs) (suc j) (suc k) x y at there other =
      omega (arith, pair_cover xs j k x y at there (λ e. other (ap suc e)), cover-append q (f z) (flat_map f xs))

  pub covers_append : (xs ys : List X) → cover q (flat_map f (xs ++ ys)) ≡ cover q (flat_map f xs) + cover q (flat_map f ys)
  covers_append [] ys = omega arith
  covers_append (x ∷ xs) ys =
      omega (arith, covers_append xs ys, cover-append q (f x) (flat_map f (xs ++ ys)), cover-append q (f x) (flat_map f xs))

  pub covers_none : (xs : List X) → ((x : X) → In x xs → f x ≡ []) → cover q (flat_map f xs) ≡ 0
  covers_none [] none = refl
  covers_none (x ∷ xs) none =
      let here = ap (cover q) (none x (inl refl)) in
      omega (arith, here, covers_none xs (λ y at. none y (inr at)), cover-append q (f x) (flat_map f xs))

  pub covers_same : (g : X → List Block) (xs : List X) → ((x : X) → In x xs → f x ≡ g x) → cover q (flat_map f xs) ≡ cover q (flat_map g xs)
  covers_same g [] same = refl
  covers_same g (x ∷ xs) same =
      let here = ap (cover q) (same x (inl refl)) in
      omega (arith, here, covers_same g xs (λ y at. same y (inr at)), cover-append q (f x) (flat_map f xs), cover-append q (g x) (flat_map g xs))

  -- where the blocks of each are in two parts
  pub covers_split : (g h : X → List Block) → ((x : X) → cover q (f x) ≡ cover q (g x) + cover q (h x)) → (xs : List X)
      → cover q (flat_map f xs) ≡ cover q (flat_map g xs) + cover q (flat_map h xs)
  covers_split g h parts [] = refl
  covers_split g h parts (x ∷ xs) = omega (
    arith,
    parts x,
    covers_split g h parts xs,
    cover-append q (f x) (flat_map f xs),
    cover-append q (g x) (flat_map g xs),
    cover-append q (h x) (flat_map h xs),
  )

-- members that are told by others
module _ {X Y : Type 0} (f : Y → List Block) (g : X → Y) (q : ℕ) where
  pub covers_through : (xs : List X) → cover q (flat_map f (map g xs)) ≡ cover q (flat_map (λ (x : X). f (g x)) xs)
  covers_through [] = refl
  covers_through (x ∷ xs) =
      omega (arith, covers_through xs, cover-append q (f (g x)) (flat_map f (map g xs)), cover-append q (f (g x)) (flat_map (λ (y : X). f (g y)) xs))
