-- The order of a key and a chunk, number by number.
use Rattle.std.proofs.Common.{◌≡◌, ℕ, suc, ◌+◌, ◌<◌, true, false, List, [], ◌∷◌, ◌++◌, length, drop, get_or, refl, sym, ap, ◌∙◌, arith, drop-cons, length-append}
use Rattle.std.specs.Ordering.{nat_cmp, is_gt, is_lt, is_ne, ordering_reverse, ordering_then}
use Rattle.std.specs.declared.cmp.Ordering.{Ordering}
use Rattle.std.specs.declared.cmp.Ordering.TheVariants.{Less, Equal, Greater}
use Rattle.std.specs.Cmp.Lexicographic.{slice_cmp, nat_list_cmp_total}
use Rattle.std.proofs.lemmas.List.{drop_all, get_or_append_left}
use Rattle.std.proofs.Math.Seq.{drop-append_seam}
use Rattle.std.proofs.lemmas.List.FromFn.{length-map-range_with_len, get_or-map-range_with_len}
use Rattle.h5_model.specs.Format.Chunks.{all_offsets_in}
use Rattle.h5_chunks.proofs.OffsetLaws.{offset_at}

then_none : (o : Ordering) → ordering_then o Equal ≡ o
then_none Less = refl
then_none Equal = refl
then_none Greater = refl

pub then_next : (o r : Ordering) → is_ne o ≡ false → ordering_then o r ≡ r
then_next Less r e = cc
then_next Equal r e = refl
then_next Greater r e = cc

pub then_first : (o r : Ordering) → is_ne o ≡ true → ordering_then o r ≡ o
then_first Less r e = refl
then_first Equal r e = cc
then_first Greater r e = refl

-- above is below the other way round
pub above_turned : (a b : List ℕ) → is_gt (slice_cmp nat_cmp a b) ≡ is_lt (slice_cmp nat_cmp b a)
above_turned a b = ap is_gt (nat_list_cmp_total.antisymm a b) ∙ turned (slice_cmp nat_cmp b a) where
  turned : (r : Ordering) → is_gt (ordering_reverse r) ≡ is_lt r
  turned Less = refl
  turned Equal = refl
  turned Greater = refl

pub not_other : (o : Ordering) → is_ne o ≡ false → o ≡ Equal
not_other Less e = cc
not_other Equal e = refl
not_other Greater e = cc

pub other : (o : Ordering) → is_ne o ≡ true → o ≡ Equal → ⊥
other Less e same = absurd (let never : is_ne Less ≡ is_ne Equal = ap is_ne same in cc)
other Equal e same = absurd (cc)
other Greater e same = absurd (let never : is_ne Greater ≡ is_ne Equal = ap is_ne same in cc)

module _ (key offs : List ℕ) where
  abbrev numbers : List ℕ
  numbers = all_offsets_in (length offs) key

  abbrev others : List ℕ
  others = offs ++ 0 ∷ []

  -- what is left to compare from number d on
  abbrev pub order_from : ℕ → Ordering
  order_from d = slice_cmp nat_cmp (drop d numbers) (drop d others)

  long : length numbers ≡ length offs + 1
  long = length-map-range_with_len (offset_at offs key) 0 (length offs + 1)

  number_is : (d : ℕ) → d < length offs + 1 → get_or numbers d 0 ≡ offset_at offs key d
  number_is d low = get_or-map-range_with_len (offset_at offs key) 0 (length offs + 1) d d 0 low (omega arith)

  left : (d : ℕ) → d < length offs + 1 → drop d numbers ≡ offset_at offs key d ∷ drop (suc d) numbers
  left d low = drop-cons numbers d 0 (omega (arith, long, low)) ∙ ap (λ (n : ℕ). n ∷ drop (suc d) numbers) (number_is d low)

  right : (d : ℕ) → d < length offs → drop d others ≡ get_or offs d 0 ∷ drop (suc d) others
  right d low =
      drop-cons others d 0 (omega (arith, low, length-append offs (0 ∷ []))) ∙ ap (λ (n : ℕ). n ∷ drop (suc d) others) (get_or_append_left offs (0 ∷ []) 0 d low)

  pub order_step : (d : ℕ) → d < length offs → order_from d ≡ ordering_then (nat_cmp (offset_at offs key d) (get_or offs d 0)) (order_from (d + 1))
  order_step d low =
      ap (λ (xs : List ℕ). slice_cmp nat_cmp xs (drop d others)) (left d (omega (arith, low)))
      ∙ ap (λ (ys : List ℕ). slice_cmp nat_cmp (offset_at offs key d ∷ drop (suc d) numbers) ys) (right d low)
      ∙ ap (λ (n : ℕ). ordering_then (nat_cmp (offset_at offs key d) (get_or offs d 0)) (order_from n)) (sym (one d)) where
        one : (d : ℕ) → d + 1 ≡ suc d
        one d = omega arith

  pub order_last : order_from (length offs) ≡ nat_cmp (offset_at offs key (length offs)) 0
  order_last =
      let n = length offs in
      let none : drop (suc n) numbers ≡ [] = drop_all (suc n) numbers (omega (arith, long)) in
      ap (λ (xs : List ℕ). slice_cmp nat_cmp xs (drop n others)) (left n (omega arith) ∙ ap (λ (xs : List ℕ). offset_at offs key n ∷ xs) none)
      ∙ ap (λ (ys : List ℕ). slice_cmp nat_cmp (offset_at offs key n ∷ []) ys) (drop-append_seam offs (0 ∷ []))
      ∙ then_none (nat_cmp (offset_at offs key n) 0)
