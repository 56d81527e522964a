-- A heap has one list of free blocks.
use Rattle.std.proofs.Common.{◌≡◌, ◌⊎◌, inl, inr, ℕ, ◌%◌, List, [], ◌∷◌, refl, sym, ap₂, ◌∙◌, subst, arith}
use Rattle.std.specs.List.{AllByRecursion}
use Rattle.h5_bytes.specs.Bytes.{number_at, undefined_address}
use Rattle.h5_bytes.specs.Blocks.{block}
use Rattle.h5_bytes.specs.declared.Block.{Block}
use Rattle.h5_model.specs.Format.Heap.{IsHeap, IsFree, FreeFrom, free_head}

-- a list from a place that is no multiple of 8 has no block
unaligned : (segment : List ℕ) (next : ℕ) (b : Block) (bs : List Block) → FreeFrom segment next (b ∷ bs) → IsFree b → next % 8 ≡ 0
unaligned segment next b bs from is = subst (λ (n : ℕ). n % 8 ≡ 0) from.0 is.aligned

one_from : (segment : List ℕ) (next : ℕ) (xs ys : List Block) → FreeFrom segment next xs → FreeFrom segment next ys
    → AllByRecursion IsFree xs → AllByRecursion IsFree ys → xs ≡ ys
one_from segment next [] [] f g all all' = refl
one_from segment next [] (c ∷ cs) f g all all' = absurd (let odd : 1 % 8 ≡ 0 = subst (λ (n : ℕ). n % 8 ≡ 0) f (unaligned segment next c cs g all'.0) in omega (arith, odd))
one_from segment next (b ∷ bs) [] f g all all' = absurd (let odd : 1 % 8 ≡ 0 = subst (λ (n : ℕ). n % 8 ≡ 0) g (unaligned segment next b bs f all.0) in omega (arith, odd))
one_from segment next (b ∷ bs) (c ∷ cs) f g all all' =
    ap₂ (λ (x : Block) (xs : List Block). x ∷ xs) (ap₂ block (f.0 ∙ sym g.0) (f.1 ∙ sym g.1))
    (one_from segment (number_at segment next 8) bs cs f.2 g.2 all.1 all'.1)

-- no list begins at the undefined address
never_undefined : (segment : List ℕ) (xs : List Block) → FreeFrom segment undefined_address xs → AllByRecursion IsFree xs → ⊥
never_undefined segment [] f all = absurd (omega (arith, f))
never_undefined segment (b ∷ bs) f all = absurd (let odd : undefined_address % 8 ≡ 0 = unaligned segment undefined_address b bs f all.0 in omega (arith, odd))

pub one_free : (header segment : List ℕ) (xs ys : List Block) → IsHeap header segment xs → IsHeap header segment ys → xs ≡ ys
one_free header segment xs ys is is' = go is.listed is'.listed where
  go : (FreeFrom segment (free_head header) xs ⊎ ((free_head header ≡ undefined_address) × (xs ≡ [])))
      → (FreeFrom segment (free_head header) ys ⊎ ((free_head header ≡ undefined_address) × (ys ≡ []))) → xs ≡ ys
  go (inl f) (inl g) = one_from segment (free_head header) xs ys f g is.each is'.each
  go (inl f) (inr g) = absurd (never_undefined segment xs (subst (λ (n : ℕ). FreeFrom segment n xs) g.0 f) is.each)
  go (inr f) (inl g) = absurd (never_undefined segment ys (subst (λ (n : ℕ). FreeFrom segment n ys) f.0 g) is'.each)
  go (inr f) (inr g) = f.1 ∙ sym g.1
