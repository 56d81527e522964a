-- Trees that differ in the numbers of their objects alone.
use Rattle.std.specs.Prelude.{◌≡◌, ℕ, Some, IsSome, map}
use Rattle.std.specs.FinMap.{get, entries}
use Rattle.h5_model.specs.Tree.Objects.{Tree, Link, ToObject, Soft, Content, Group, Array, Object}

-- the link with the object's number changed
abbrev pub renumbered_link : (ℕ → ℕ) → Link → Link
renumbered_link change (ToObject number) = ToObject (change number)
renumbered_link change (Soft text) = Soft text

-- the same content, with the numbers in its links changed
abbrev pub IsRenumbered : (ℕ → ℕ) → Content → Content → Type 0
IsRenumbered change (Group a) (Group b) = entries b ≡ map (λ e. (e.0, renumbered_link change e.1)) (entries a)
IsRenumbered change (Group a) (Array b) = ⊥
IsRenumbered change (Array a) (Group b) = ⊥
IsRenumbered change (Array a) (Array b) = a ≡ b

-- The trees differ in numbers alone: each object of one is an object of the other, and the root is the root.
pub record DifferInNumbers (a b : Tree) : Type 0 where
  pub there : ℕ → ℕ
  pub back : ℕ → ℕ
  pub root : there 0 ≡ 0
  pub forth_back : (number : ℕ) → IsSome (get a number) → back (there number) ≡ number
  pub back_forth : (number : ℕ) → IsSome (get b number) → (there (back number) ≡ number) × IsSome (get a (back number))
  pub each : (number : ℕ) (x : Object) → get a number ≡ Some x → (y : Object) × (get b (there number) ≡ Some y)
      × IsRenumbered there x.content y.content × (x.attributes ≡ y.attributes) × (x.kept ≡ y.kept)
