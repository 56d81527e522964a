-- The values of stored bytes.
use Rattle.std.proofs.Common.{◌≡◌, ℕ, suc, ◌+◌, ◌-◌, ◌*◌, ◌/◌, ◌^◌, ◌<◌, ◌≤◌, List, [], ◌∷◌, length, map, slice_index, slice_index_or, Bool, true, false, cond, ℤ, pos, negsuc, ◌-ℤ◌, refl, ap, sym, ◌∙◌, arith}
use Rattle.std.proofs.lemmas.Bool.Decides.{nat_tests}
use Rattle.std.proofs.lemmas.Int.{ints}
use Rattle.std.proofs.lemmas.Nat.{div-mul-add, le-div}
use Rattle.std.proofs.lemmas.List.FromFn.{length-map-range_with_len, get_or-map-range_with_len, fill_by_all}
use Rattle.std.specs.Prelude.{nat_lt}
use Rattle.std.specs.List.{range_with_len}
use Rattle.byteorder.specs.Endian.{big_from, little_from}
use Rattle.byteorder.specs.Numbers.{big_from-lt, little_from-lt}
use Rattle.byteorder.proofs.Bytes.{pow256}
use Rattle.h5_model.specs.Format.Fixed.{Fixed, IsFixed, raw_at, value_at, fits}
use Rattle.h5_model.specs.Tree.Sound.{AreOf}
use Rattle.h5_model.specs.Format.Plain.{cells_bytes}
use Rattle.h5_model.specs.Scripts.Answers.{stored_values}
use Rattle.h5_model.proofs.FixedLaws.{halves, is_of}
use Rattle.h5_model.proofs.PlainValues.{size-low, length-cells_bytes, value_at-cells_bytes}

-- as many values as the bytes have room for
pub length-stored : (t : Fixed) (bytes : List ℕ) → length (stored_values t bytes) ≡ length bytes / t.size
length-stored t bytes = length-map-range_with_len (λ k. value_at t bytes (k * t.size)) 0 (length bytes / t.size)

-- the k-th value is that of the k-th bytes
pub index-stored : (t : Fixed) (bytes : List ℕ) (k : ℕ) (d : ℤ) → 1 ≤ t.size → k * t.size + t.size ≤ length bytes
    → slice_index_or (stored_values t bytes) k d ≡ value_at t bytes (k * t.size)
index-stored t bytes k d some room =
    let next : suc k * t.size ≡ k * t.size + t.size = omega arith in
    let below : suc k ≤ length bytes / t.size = le-div (suc k) (length bytes) t.size (omega arith) (omega arith) in
    get_or-map-range_with_len (λ j. value_at t bytes (j * t.size)) 0 (length bytes / t.size) k k d (omega arith) (omega arith)

-- the values whose bytes were written
pub stored-cells_bytes : (t : Fixed) (cs : List ℤ) → IsFixed t → AreOf t cs → stored_values t (cells_bytes t cs) ≡ cs
stored-cells_bytes t cs is of =
    let some : 1 ≤ t.size = size-low t is in
    let whole : length (cells_bytes t cs) ≡ length cs * t.size + 0 = omega (arith, length-cells_bytes t cs) in
    let counted : length (cells_bytes t cs) / t.size ≡ length cs = ap (λ n. n / t.size) whole ∙ div-mul-add (length cs) t.size 0 (omega arith) in
    sym (fill_by_all (λ k. value_at t (cells_bytes t cs) (k * t.size)) cs (length (cells_bytes t cs) / t.size) (pos 0) (sym counted)
    (λ k low. sym (value_at-cells_bytes t cs k (pos 0) some of (omega (arith, counted)))))

-- ---- the values are of the type

-- the unsigned number of a type has no more bits than the type
raw_low : (t : Fixed) (bytes : List ℕ) (at : ℕ) → ((i : ℕ) → slice_index bytes i < 256) → raw_at t bytes at < 256 ^ t.size
unfolding raw_at
raw_low t bytes at low = elim (t.big) as (λ b. cond b (big_from at t.size bytes) (little_from at t.size bytes) < 256 ^ t.size) [
  | true ↦ big_from-lt at t.size bytes low
  | false ↦ little_from-lt at t.size bytes low
]

-- over the half and the whole of the numbers of a type
module _ (half full : ℕ) (twice : full ≡ half + half) where
  read : (s : Bool) (n : ℕ) → n < full → is_of half full twice s (cond s (cond (nat_lt n half) (pos n) (pos n -ℤ pos full)) (pos n)) ≡ true
  read false n low = grind (arith, nat_tests)
  read true n low = elim (nat_lt n half) as (λ b. nat_lt n half ≡ b → is_of half full twice true (cond b (pos n) (pos n -ℤ pos full)) ≡ true) [
    | true ↦ λ e. e
    | false ↦ λ e. let below : pos n -ℤ pos full ≡ negsuc (full - suc n) = omega (arith, ints) in
        rw below (grind (arith, nat_tests))
  ] refl

-- the two tests of a value say the same
same_test : (t : Fixed) (twice : 2 ^ (8 * t.size) ≡ 2 ^ (8 * t.size - 1) + 2 ^ (8 * t.size - 1)) (v : ℤ)
    → is_of (2 ^ (8 * t.size - 1)) (2 ^ (8 * t.size)) twice t.signed v ≡ fits t v
same_test t twice (pos n) = refl
same_test t twice (negsuc n) = refl

-- what bytes stand for is a value of the type, from any place on
pub fits_value_at : (t : Fixed) (bytes : List ℕ) (at : ℕ) → IsFixed t → ((i : ℕ) → slice_index bytes i < 256) → fits t (value_at t bytes at) ≡ true
unfolding value_at
fits_value_at t bytes at is low =
    let twice : 2 ^ (8 * t.size) ≡ 2 ^ (8 * t.size - 1) + 2 ^ (8 * t.size - 1) = halves t.size (size-low t is) in
    let raw : raw_at t bytes at < 2 ^ (8 * t.size) = rw (← pow256 t.size) (raw_low t bytes at low) in
    sym (same_test t twice (value_at t bytes at)) ∙ read (2 ^ (8 * t.size - 1)) (2 ^ (8 * t.size)) twice t.signed (raw_at t bytes at) raw

pub AreOf-map : (t : Fixed) (f : ℕ → ℤ) → ((k : ℕ) → fits t (f k) ≡ true) → (xs : List ℕ) → AreOf t (map f xs)
AreOf-map t f each [] = tt
AreOf-map t f each (x ∷ xs) = (each x, AreOf-map t f each xs)

-- the values of bytes are of the type
pub AreOf-stored : (t : Fixed) (bytes : List ℕ) → IsFixed t → ((i : ℕ) → slice_index bytes i < 256) → AreOf t (stored_values t bytes)
AreOf-stored t bytes is low =
    AreOf-map t (λ k. value_at t bytes (k * t.size)) (λ k. fits_value_at t bytes (k * t.size) is low) (range_with_len 0 (length bytes / t.size))
