-- Chunks that are stored one after another, each in its turn.
use Rattle.std.proofs.Common.{◌≡◌, ℕ, zero, suc, ◌+◌, ◌*◌, ◌<◌, ◌≤◌, inl, inr, List, [], ◌∷◌, length, take, None, refl, sym, ap, ◌∙◌, subst, arith}
use Rattle.std.specs.Prelude.{slice_index_or}
use Rattle.std.specs.FinMap.{get}
use Rattle.std.specs.List.{Contains}
use Rattle.std.proofs.Math.Nat.{mul-le-mul_right}
use Rattle.std.proofs.Math.Seq.{take-suc}
use Rattle.h5_model.specs.Format.Chunks.{offsets_in}
use Rattle.h5_model.specs.Format.Links.{Before}
use Rattle.h5_model.specs.Format.Reached.{Shape}
use Rattle.h5_model.proofs.TextOrder.{before_itself}
use Rattle.h5_space.specs.Space.{Space}
use Rattle.h5_laws.proofs.Lists.{In, in_all, in_contains}
use Rattle.h5_shape.proofs.RisingBoxes.{Rises}
use Rattle.h5_chunks.specs.Told.{chunks_told}
use Rattle.h5_chunks.specs.Edited.{IsFullAt}
use Rattle.h5_layout.specs.Filled.{AreToStore, HasFilledChunks}
use Rattle.h5_chunks.specs.Lists.{IsKeyOf}
use Rattle.h5_chunks.specs.Lists.{ChunkOffsets}
use Rattle.h5_layout.specs.Storage.{HasStoredMore, IsFullInTurn}
use Rattle.h5_layout.proofs.FilledLaws.{filled_then}
use Rattle.h5_layout.proofs.RisingLaws.{rising_rises}

member : (xs : List (List ℕ)) (k : ℕ) → k < length xs → In (slice_index_or xs k []) xs
member [] k low = absurd (omega (arith, low))
member (x ∷ xs) zero low = inl refl
member (x ∷ xs) (suc k) low = inr (member xs k (omega (arith, low)))

-- each is before all behind it
before_turn : (xs : List (List ℕ)) (k : ℕ) (y : List ℕ) → Rises xs → k < length xs → In y (take k xs) → Before y (slice_index_or xs k [])
before_turn [] k y rises low at = absurd (omega (arith, low))
before_turn (x ∷ xs) zero y rises low at = absurd at
before_turn (x ∷ xs) (suc k) y rises low (inl same) = subst (λ (z : List ℕ). Before z (slice_index_or xs k [])) same (rises.0 (slice_index_or xs k []) (member xs k (omega (arith, low))))
before_turn (x ∷ xs) (suc k) y rises low (inr at) = before_turn xs k y rises.1 (omega (arith, low)) at

module _ (s t : Space) (shape : Shape) (root : ℕ) (bytes : List ℕ) (new : ChunkOffsets) (k : ℕ) (low : k < length new.offsets) (is : AreToStore (chunks_told s.bytes shape root) shape new)
    (filled : HasFilledChunks s t shape root bytes (take k new.offsets)) where
  abbrev this : List ℕ
  this = slice_index_or new.offsets k []

  not_yet : Contains (take k new.offsets) this → ⊥
  not_yet at = before_itself this (before_turn new.offsets k this (rising_rises new.offsets is.rising) low (in_contains this (take k new.offsets) at))

  pub turn_absent : get (chunks_told t.bytes shape root) this ≡ None
  turn_absent = filled.stored.others this not_yet ∙ in_all (λ (o : List ℕ). get (chunks_told s.bytes shape root) o ≡ None) this new.offsets is.absent (member new.offsets k low)

  pub turn_full : (k ≡ 0 → t ≡ s) → IsFullAt t.bytes shape root this → IsFullInTurn s.bytes shape root new.offsets k
  turn_full first full = by_turn k refl where
    by_turn : (n : ℕ) → k ≡ n → IsFullInTurn s.bytes shape root new.offsets n
    by_turn zero same =
        let here : t.bytes ≡ s.bytes = ap (λ (x : Space). x.bytes) (first same) in (
          omega (arith, low),
          subst (λ (n : ℕ). IsFullAt s.bytes shape root (slice_index_or new.offsets n [])) same (subst (λ (image : List ℕ). IsFullAt image shape root this) here full),
        )
    by_turn (suc n) same = (
      omega (arith, low, same),
      (
        t,
        filled.stand,
        filled.k,
        subst (λ (m : ℕ). HasStoredMore (chunks_told s.bytes shape root) (chunks_told t.bytes shape root) (take m new.offsets)) same filled.stored,
        subst (λ (m : ℕ). IsFullAt t.bytes shape root (slice_index_or new.offsets m [])) same full,
      ),
    )

  -- its key
  module _ (key : List ℕ) (of : IsKeyOf new.rank new.bytes key) (offsets : offsets_in new.rank key ≡ this) where
    pub turn_offsets : offsets_in (length shape.sizes) key ≡ this
    turn_offsets = ap (λ (n : ℕ). offsets_in n key) (sym is.rank) ∙ offsets

    pub turn_next : (u : Space) → HasFilledChunks t u shape root bytes (offsets_in (length shape.sizes) key ∷ []) → HasFilledChunks s u shape root bytes (take (k + 1) new.offsets)
    turn_next u one =
        let next : k + 1 ≡ suc k = omega arith in
        subst (HasFilledChunks s u shape root bytes) (sym (ap (λ (n : ℕ). take n new.offsets) next ∙ take-suc new.offsets k [] low))
        (filled_then shape root bytes s t u (take k new.offsets) (this ∷ []) filled (subst (λ (o : List ℕ). HasFilledChunks t u shape root bytes (o ∷ [])) turn_offsets one))

-- the room of one more
pub turn_room : (n k room : ℕ) → k < n → k * room + room ≤ n * room
turn_room n k room low =
    let past : suc k * room ≤ n * room = mul-le-mul_right room low in
    let wide : suc k * room ≡ k * room + room = omega arith in
    omega (arith, past, wide)
