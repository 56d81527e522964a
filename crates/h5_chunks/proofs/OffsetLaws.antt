-- The offsets of a key, one for each size.
use Rattle.std.proofs.Common.{◌≡◌, ℕ, zero, suc, ◌+◌, ◌*◌, ◌<◌, List, [], ◌∷◌, length, get_or, map, subst, arith}
use Rattle.std.specs.List.{AllZip, range_with_len}
use Rattle.h5_bytes.specs.Bytes.{number_at}
use Rattle.h5_model.specs.Format.Chunks.{IsOffset, offsets_in}

pub zip_from : (R : ℕ → ℕ → Type 0) (f : ℕ → ℕ) (a : ℕ) (xs : List ℕ) → ((d : ℕ) → d < length xs → R (get_or xs d 0) (f (a + d))) → AllZip R xs (map f (range_with_len a (length xs)))
zip_from R f a [] each = tt
zip_from R f a (x ∷ xs) each =
    let here : a + 0 ≡ a = omega arith in (
      subst (λ (n : ℕ). R x (f n)) here (each 0 (omega arith)),
      zip_from R f (a + 1) xs (λ d low.
          let next : a + suc d ≡ a + 1 + d = omega arith in
          subst (λ (n : ℕ). R (get_or xs d 0) (f n)) next (each (suc d) (omega (arith, low)))),
    )

pub zip_at : (R : ℕ → ℕ → Type 0) (f : ℕ → ℕ) (a : ℕ) (xs : List ℕ) (d : ℕ) → AllZip R xs (map f (range_with_len a (length xs))) → d < length xs → R (get_or xs d 0) (f (a + d))
zip_at R f a [] d all low = absurd (omega (arith, low))
zip_at R f a (x ∷ xs) zero all low = let here : a ≡ a + 0 = omega arith in subst (λ (n : ℕ). R x (f n)) here all.0
zip_at R f a (x ∷ xs) (suc d) all low =
    let next : a + 1 + d ≡ a + suc d = omega arith in
    subst (λ (n : ℕ). R (get_or xs d 0) (f n)) next (zip_at R f (a + 1) xs d all.1 (omega (arith, low)))

module _ (sizes key : List ℕ) where
  -- the offset for a dimension
  abbrev pub offset_at : ℕ → ℕ
  offset_at d = number_at key (8 + 8 * d) 8

  pub aligned_from : ((d : ℕ) → d < length sizes → IsOffset (get_or sizes d 0) (offset_at d)) → AllZip IsOffset sizes (offsets_in (length sizes) key)
  aligned_from each = zip_from IsOffset offset_at 0 sizes (λ d low. let same : d ≡ 0 + d = omega arith in subst (λ (n : ℕ). IsOffset (get_or sizes d 0) (offset_at n)) same (each d low))

  pub aligned_at : (d : ℕ) → AllZip IsOffset sizes (offsets_in (length sizes) key) → d < length sizes → IsOffset (get_or sizes d 0) (offset_at d)
  aligned_at d all low = let same : 0 + d ≡ d = omega arith in subst (λ (n : ℕ). IsOffset (get_or sizes d 0) (offset_at n)) same (zip_at IsOffset offset_at 0 sizes d all low)
