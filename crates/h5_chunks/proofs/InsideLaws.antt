-- Whether the offsets of a key are inside an extent.
use Rattle.std.proofs.Common.{◌≡◌, ℕ, ◌+◌, ◌<◌, List, true, false, get_or, length, subst, arith}
use Rattle.std.proofs.lemmas.Bool.{false_from_ne_true}
use Rattle.h5_model.specs.Format.Chunks.{offsets_in}
use Rattle.h5_model.specs.Tree.Places.{is_inside}
use Rattle.h5_model.proofs.PlaceLaws.{inside_of, is_inside_from}
use Rattle.h5_chunks.proofs.OffsetLaws.{offset_at, zip_at, zip_from}

module _ (sizes key : List ℕ) where
  abbrev Below : ℕ → ℕ → Type 0
  Below size offset = offset < size

  pub key_inside : ((d : ℕ) → d < length sizes → offset_at sizes key d < get_or sizes d 0) → is_inside sizes (offsets_in (length sizes) key) ≡ true
  key_inside each =
      is_inside_from sizes (offsets_in (length sizes) key) (zip_from Below (offset_at sizes key) 0 sizes (λ d low.
      let same : d ≡ 0 + d = omega arith in
      subst (λ (n : ℕ). Below (get_or sizes d 0) (offset_at sizes key n)) same (each d low)))

  pub key_outside : (d : ℕ) → d < length sizes → (offset_at sizes key d < get_or sizes d 0 → ⊥) → is_inside sizes (offsets_in (length sizes) key) ≡ false
  key_outside d low out = false_from_ne_true _ (λ is.
      let same : 0 + d ≡ d = omega arith in
      out (subst (λ (n : ℕ). Below (get_or sizes d 0) (offset_at sizes key n)) same
      (zip_at Below (offset_at sizes key) 0 sizes d (inside_of sizes (offsets_in (length sizes) key) is) low)))
