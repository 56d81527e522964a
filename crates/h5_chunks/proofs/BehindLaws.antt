-- The offsets behind a chunk, one after another.
use Rattle.std.proofs.Common.{◌≡◌, ℕ, zero, suc, ◌+◌, ◌*◌, ◌<◌, ◌^◌, List, [], ◌∷◌, ◌++◌, length, get_or, take, refl, ap, ◌∙◌, arith}
use Rattle.std.proofs.lemmas.Grind.{flat_map-append}
use Rattle.std.proofs.lemmas.List.{take_more}
use Rattle.std.proofs.lemmas.List.FromFn.{get_or-map-range_with_len, length-map-range_with_len}
use Rattle.std.specs.List.{AllByRecursion, AllZip}
use Rattle.h5_bytes.specs.Bytes.{little_bytes, number_at}
use Rattle.h5_bytes.specs.Numbers.{word}
use Rattle.h5_model.specs.Format.Bodies.{words}
use Rattle.h5_model.specs.Format.Chunks.{IsOffset, offsets_in}
use Rattle.h5_chunks.specs.Keys.{index_from}
use Rattle.h5_chunks.proofs.OffsetLaws.{aligned_at, offset_at}

pub length-index_from : (offsets inner : List ℕ) → length offsets ≡ length inner → length (index_from offsets inner) ≡ length inner
length-index_from [] [] same = refl
length-index_from [] (i ∷ is) same = absurd (omega (arith, same))
length-index_from (o ∷ os) [] same = absurd (omega (arith, same))
length-index_from (o ∷ os) (i ∷ is) same = omega (arith, length-index_from os is (omega (arith, same)))

get_or-index_from : (offsets inner : List ℕ) (d : ℕ) → length offsets ≡ length inner → d < length inner
    → get_or (index_from offsets inner) d 0 ≡ get_or offsets d 0 + get_or inner d 0
get_or-index_from [] [] d same low = absurd (omega (arith, low))
get_or-index_from [] (i ∷ is) d same low = absurd (omega (arith, same))
get_or-index_from (o ∷ os) [] d same low = absurd (omega (arith, low))
get_or-index_from (o ∷ os) (i ∷ is) zero same low = refl
get_or-index_from (o ∷ os) (i ∷ is) (suc d) same low = get_or-index_from os is d (omega (arith, same)) (omega (arith, low))

pub short_at : (sizes : List ℕ) (d : ℕ) → AllByRecursion (λ (size : ℕ). size < 2 ^ 32) sizes → get_or sizes d 0 < 2 ^ 32
short_at [] zero all = omega arith
short_at [] (suc d) all = omega arith
short_at (s ∷ ss) zero all = all.0
short_at (s ∷ ss) (suc d) all = short_at ss d all.1

-- the offset of a whole chunk with its size added fits eight bytes
pub behind_fits : (sizes key : List ℕ) (d : ℕ) → AllZip IsOffset sizes (offsets_in (length sizes) key) → AllByRecursion (λ (size : ℕ). size < 2 ^ 32) sizes → d < length sizes
    → number_at key (8 + 8 * d) 8 + get_or sizes d 0 < 2 ^ 64
behind_fits sizes key d aligned short low = omega (arith, (aligned_at sizes key d aligned low).small, short_at sizes d short)

module _ (sizes key : List ℕ) where
  abbrev offsets : List ℕ
  offsets = offsets_in (length sizes) key

  pub length-offsets : length offsets ≡ length sizes
  length-offsets = length-map-range_with_len (offset_at sizes key) 0 (length sizes)

  -- one more of the offsets behind
  pub behind_more : (d : ℕ) → d < length sizes
      → words (take (d + 1) (index_from offsets sizes)) ≡ words (take d (index_from offsets sizes)) ++ word (offset_at sizes key d + get_or sizes d 0)
  behind_more d low =
      let behind : List ℕ = index_from offsets sizes in
      let long : length behind ≡ length sizes = length-index_from offsets sizes length-offsets in
      let under : d < length behind = omega (arith, low, long) in
      let here : get_or behind d 0 ≡ offset_at sizes key d + get_or sizes d 0
      = get_or-index_from offsets sizes d length-offsets low
      ∙ ap (λ n. n + get_or sizes d 0) (get_or-map-range_with_len (offset_at sizes key) 0 (length sizes) d d 0 low (omega arith)) in
      ap words (take_more behind d 0 under) ∙ flat_map-append (little_bytes 8) (take d behind) (get_or behind d 0 ∷ [])
      ∙ ap (λ n. words (take d behind) ++ words (n ∷ [])) here ∙ ap (λ (xs : List ℕ). words (take d behind) ++ xs) (one_word (offset_at sizes key d + get_or sizes d 0)) where
        one_word : (n : ℕ) → words (n ∷ []) ≡ word n
        one_word n = grind arith
