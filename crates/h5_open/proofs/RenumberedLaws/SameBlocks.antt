-- The blocks of the same objects, in whatever order, are as far from the free ones.
use Rattle.std.proofs.Common.{inl, inr, ℕ, ◌≤◌, List, [], ◌∷◌, length, refl, sym, subst, arith}
use Rattle.std.proofs.lemmas.Bool.{cases_lt}
use Rattle.std.specs.List.{flat_map}
use Rattle.h5_bytes.specs.Blocks.{cover, Separate}
use Rattle.h5_bytes.specs.declared.Block.{Block}
use Rattle.h5_bytes.proofs.BlockLaws.{cover-append}
use Rattle.h5_space.specs.Whole.{IsApart}
use Rattle.h5_laws.proofs.Lists.{In}
use Rattle.h5_open.specs.declared.opened.object.OpenedObject.{OpenedObject}
use Rattle.h5_open.specs.Opened.Objects.{object_blocks, opened_blocks}

module _ (image : List ℕ) (p : ℕ) where
  abbrev blocks : List OpenedObject → List Block
  blocks objects = flat_map (object_blocks image) objects

  covered : (o : OpenedObject) (objects : List OpenedObject) → In o objects → 1 ≤ cover p (object_blocks image o) → 1 ≤ cover p (blocks objects)
  covered o [] there some = absurd there
  covered o (x ∷ objects) (inl e) some =
      let here : 1 ≤ cover p (object_blocks image x) = subst (λ (y : OpenedObject). 1 ≤ cover p (object_blocks image y)) (sym e) some in
      omega (arith, here, cover-append p (object_blocks image x) (blocks objects))
  covered o (x ∷ objects) (inr there) some = omega (arith, covered o objects there some, cover-append p (object_blocks image x) (blocks objects))

  covering : (objects : List OpenedObject) → 1 ≤ cover p (blocks objects) → (o : OpenedObject) × In o objects × (1 ≤ cover p (object_blocks image o))
  covering [] some = absurd (omega (arith, some))
  covering (x ∷ objects) some = elim (cases_lt 0 (cover p (object_blocks image x))) [
    | inl here ↦ (x, inl refl, omega (arith, here))
    | inr none ↦ let rest = covering objects (omega (arith, some, none, cover-append p (object_blocks image x) (blocks objects))) in (rest.0, inr rest.1, rest.2)
  ]

pub still_apart : (image : List ℕ) (first objects : List OpenedObject) (free : List Block) → ((o : OpenedObject) → In o objects → In o first)
    → Separate (opened_blocks image objects) → IsApart (opened_blocks image first) free (length image) → IsApart (opened_blocks image objects) free (length image)
still_apart image first objects free same once apart p = elim (cases_lt 0 (cover p (blocks image p objects))) [
  | inl some ↦
      let o = covering image p objects (omega (arith, some)) in
      omega (arith, once p, apart p, covered image p o.0 first (same o.0 o.1) o.2)
  | inr none ↦ omega (arith, none, apart p)
]
