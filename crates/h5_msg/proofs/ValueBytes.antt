-- Any bytes of the right number are the bytes of a value, and of the values that are read from them.
use Rattle.std.proofs.Common.{◌≡◌, ℕ, zero, suc, ◌+◌, ◌-◌, ◌*◌, ◌/◌, ◌%◌, ◌^◌, ◌<◌, ◌≤◌, List, [], ◌∷◌, ◌++◌, length, take, drop, map, slice_index, inl, inr, Bool, true, false, cond, ℤ, pos, negsuc, ◌-ℤ◌, refl, ap, sym, ◌∙◌, arith, mod-eq_of_lt}
use Rattle.std.proofs.lemmas.Int.{ints}
use Rattle.std.proofs.lemmas.Nat.{mod-pow-add, same_from_place}
use Rattle.std.proofs.lemmas.List.{length-take, length-drop, drop-drop, get_or-take, get_or-drop, get_or_past}
use Rattle.std.proofs.lemmas.Bool.{cases_lt}
use Rattle.std.proofs.Math.Nat.{pow-suc, div-div-eq-div-mul}
use Rattle.std.proofs.Math.Seq.{take-add}
use Rattle.std.specs.Prelude.{nat_lt}
use Rattle.std.specs.List.{range_with_len}
use Rattle.byteorder.specs.Endian.{big_from, little_from, big_bytes, little_bytes}
use Rattle.byteorder.specs.Numbers.{big_from-cons, little_from-cons, big_from-lt, little_from-lt}
use Rattle.byteorder.proofs.Bytes.{pow256}
use Rattle.std.specs.Int.{bytes_low_first, bytes_high_first, byte_at}
use Rattle.h5_model.specs.Format.Fixed.{Fixed, IsFixed, raw_at, value_at, value_of, bytes_of, residue_of}
use Rattle.h5_model.specs.Format.AttributeBody.{values_at}
use Rattle.h5_model.specs.Format.Plain.{cells_bytes}
use Rattle.h5_model.proofs.PlainValues.{size-low}
use Rattle.h5_model.proofs.ValueLaws.{value_of_part}

abbrev pub AreBytes : List ℕ → Type 0
AreBytes bytes = (i : ℕ) → slice_index bytes i < 256

-- byte i of a number
byte-is : (i y : ℕ) → byte_at i y ≡ y / 256 ^ i % 256
byte-is zero y = ap (λ (n : ℕ). n % 256) (omega arith)
byte-is (suc i) y = refl

low_back : (bytes : List ℕ) (i y : ℕ) → AreBytes bytes → y / 256 ^ i ≡ little_from 0 (length bytes) bytes → bytes_low_first i (length bytes) y ≡ bytes
low_back [] i y low is = refl
low_back (b ∷ bs) i y low is =
    let rest : little_from 1 (length bs) (b ∷ bs) ≡ little_from 0 (length bs) bs = little_from-cons 0 (length bs) b bs in
    let here : b < 256 = low 0 in
    let split : y / 256 ^ i ≡ b + 256 * little_from 0 (length bs) bs = is ∙ ap (λ n. b + 256 * n) rest in
    let first : byte_at i y ≡ b = byte-is i y ∙ omega arith in
    let over : y / 256 ^ suc i ≡ y / 256 ^ i / 256 = ap (λ n. y / n) (pow-suc 256 i) ∙ sym (div-div-eq-div-mul y (256 ^ i) 256) in
    let next : y / 256 ^ suc i ≡ little_from 0 (length bs) bs = over ∙ omega arith in
    rw (first, low_back bs (suc i) y (λ k. low (suc k)) next) refl

high_back : (bytes : List ℕ) (y : ℕ) → AreBytes bytes → y % 256 ^ length bytes ≡ big_from 0 (length bytes) bytes → bytes_high_first (length bytes) y ≡ bytes
high_back [] y low is = refl
high_back (b ∷ bs) y low is =
    let rest : big_from 1 (length bs) (b ∷ bs) ≡ big_from 0 (length bs) bs = big_from-cons 0 (length bs) b bs in
    let few : big_from 0 (length bs) bs < 256 ^ length bs = big_from-lt 0 (length bs) bs (λ k. low (suc k)) in
    let power : 256 ^ length bs ≡ 2 ^ (8 * length bs) = pow256 (length bs) in
    let more : 8 * suc (length bs) ≡ 8 + 8 * length bs = omega arith in
    let wide : 256 ^ suc (length bs) ≡ 2 ^ (8 + 8 * length bs) = pow256 (suc (length bs)) ∙ ap (λ n. 2 ^ n) more in
    let split : y % 256 ^ suc (length bs) ≡ (y / 256 ^ length bs % 256) * 256 ^ length bs + y % 256 ^ length bs
    = ap (λ n. y % n) wide ∙ mod-pow-add y 8 (8 * length bs) ∙ ap (λ n. (y / n % 256) * n + y % n) (sym power) in
    let some : 0 < 256 ^ length bs = omega (arith, few) in
    let two = same_from_place (y / 256 ^ length bs % 256) (y % 256 ^ length bs) b (big_from 0 (length bs) bs) (256 ^ length bs) (omega (arith, some)) few
    (sym split ∙ is ∙ ap (λ n. b * 256 ^ length bs + n) rest) in
    let first : byte_at (length bs) y ≡ b = byte-is (length bs) y ∙ two.0 in
    rw (first, high_back bs y (λ k. low (suc k)) two.1) refl

-- ---- a value

module _ (half full : ℕ) (twice : full ≡ half + half) where
  abbrev number : ℤ → ℕ
  number (pos n) = n
  number (negsuc n) = full - suc n

  number_back : (s : Bool) (n : ℕ) → n < full → number (cond s (cond (nat_lt n half) (pos n) (pos n -ℤ pos full)) (pos n)) ≡ n
  number_back false n low = refl
  number_back true n low = elim (nat_lt n half) as (λ b. number (cond b (pos n) (pos n -ℤ pos full)) ≡ n) [
    | true ↦ refl
    | false ↦ let below : pos n -ℤ pos full ≡ negsuc (full - suc n) = omega (arith, ints) in
        rw below (omega arith)
  ]

same_number : (t : Fixed) (twice : 2 ^ (8 * t.size) ≡ 2 ^ (8 * t.size - 1) + 2 ^ (8 * t.size - 1)) (v : ℤ)
    → residue_of t.size v ≡ number (2 ^ (8 * t.size - 1)) (2 ^ (8 * t.size)) twice v
same_number t twice (pos n) = refl
same_number t twice (negsuc n) = refl

raw_low : (t : Fixed) (bytes : List ℕ) → AreBytes bytes → raw_at t bytes 0 < 256 ^ t.size
unfolding raw_at
raw_low t bytes low = elim (t.big) as (λ b. cond b (big_from 0 t.size bytes) (little_from 0 t.size bytes) < 256 ^ t.size) [
  | true ↦ big_from-lt 0 t.size bytes low
  | false ↦ little_from-lt 0 t.size bytes low
]

residue-value : (t : Fixed) (bytes : List ℕ) → IsFixed t → AreBytes bytes → residue_of t.size (value_of t bytes) ≡ raw_at t bytes 0
unfolding value_at
residue-value t bytes sound low =
    let above : 8 * t.size ≡ suc (8 * t.size - 1) = omega (arith, size-low t sound) in
    let doubled : 2 ^ suc (8 * t.size - 1) ≡ 2 ^ (8 * t.size - 1) * 2 = pow-suc 2 (8 * t.size - 1) in
    let twice : 2 ^ (8 * t.size) ≡ 2 ^ (8 * t.size - 1) + 2 ^ (8 * t.size - 1) = ap (λ (k : ℕ). 2 ^ k) above ∙ doubled ∙ omega arith in
    let raw : raw_at t bytes 0 < 2 ^ (8 * t.size) = rw (← pow256 t.size) (raw_low t bytes low) in
    same_number t twice (value_of t bytes) ∙ number_back (2 ^ (8 * t.size - 1)) (2 ^ (8 * t.size)) twice t.signed (raw_at t bytes 0) raw

raw_back : (t : Fixed) (bytes : List ℕ) (x : ℕ) → length bytes ≡ t.size → AreBytes bytes → x ≡ raw_at t bytes 0
    → cond t.big (big_bytes t.size x) (little_bytes t.size x) ≡ bytes
unfolding raw_at
raw_back t bytes x long low is = by_order t.big is where
  by_order : (b : Bool) → x ≡ cond b (big_from 0 t.size bytes) (little_from 0 t.size bytes) → cond b (big_bytes t.size x) (little_bytes t.size x) ≡ bytes
  by_order true e =
      let few : big_from 0 (length bytes) bytes < 256 ^ length bytes = big_from-lt 0 (length bytes) bytes low in
      let y : x ≡ big_from 0 (length bytes) bytes = e ∙ ap (λ n. big_from 0 n bytes) (sym long) in
      let small : x % 256 ^ length bytes ≡ big_from 0 (length bytes) bytes = ap (λ n. n % 256 ^ length bytes) y ∙ mod-eq_of_lt few in
      ap (λ n. big_bytes n x) (sym long) ∙ high_back bytes x low small
  by_order false e =
      let y : x ≡ little_from 0 (length bytes) bytes = e ∙ ap (λ n. little_from 0 n bytes) (sym long) in
      let one : x / 256 ^ 0 ≡ x = omega arith in
      ap (λ n. little_bytes n x) (sym long) ∙ low_back bytes 0 x low (one ∙ y)

-- the bytes of the value that bytes stand for
pub bytes_back : (t : Fixed) (bytes : List ℕ) → IsFixed t → length bytes ≡ t.size → AreBytes bytes → bytes_of t (value_of t bytes) ≡ bytes
unfolding bytes_of
bytes_back t bytes sound long low = raw_back t bytes (residue_of t.size (value_of t bytes)) long low (residue-value t bytes sound low)

-- ---- a part of bytes

pub AreBytes-drop : (n : ℕ) (bytes : List ℕ) → AreBytes bytes → AreBytes (drop n bytes)
AreBytes-drop n bytes low i = rw (get_or-drop n bytes i 0) (low (n + i))

pub AreBytes-take : (n : ℕ) (bytes : List ℕ) → AreBytes bytes → AreBytes (take n bytes)
AreBytes-take n bytes low i = elim (cases_lt i n) [
  | inl within ↦ rw (get_or-take n bytes i 0 within) (low i)
  | inr past ↦ rw (get_or_past (take n bytes) i 0 (omega (arith, length-take n bytes))) (omega arith)
]

-- ---- the bytes of the values that are read from a place on

module _ (t : Fixed) (bytes : List ℕ) (place : ℕ) (sound : IsFixed t) (low : AreBytes bytes) where
  one_back : (at : ℕ) → at + t.size ≤ length bytes → bytes_of t (value_at t bytes at) ≡ take t.size (drop at bytes)
  one_back at room =
      let here : List ℕ = take t.size (drop at bytes) in
      let long : length here ≡ t.size = length-take t.size (drop at bytes) ∙ omega (arith, length-drop at bytes) in
      ap (bytes_of t) (sym (value_of_part t bytes here at refl)) ∙ bytes_back t here sound long (AreBytes-take t.size (drop at bytes) (AreBytes-drop at bytes low))

  from_cell : (n a : ℕ) → place + a * t.size + n * t.size ≤ length bytes
      → cells_bytes t (map (λ k. value_at t bytes (place + k * t.size)) (range_with_len a n)) ≡ take (n * t.size) (drop (place + a * t.size) bytes)
  from_cell zero a room =
      let none : 0 * t.size ≡ 0 = omega arith in
      ap (λ k. take k (drop (place + a * t.size) bytes)) (sym none)
  from_cell (suc n) a room =
      let at : ℕ = place + a * t.size in
      let whole : suc n * t.size ≡ t.size + n * t.size = omega arith in
      let next : place + (a + 1) * t.size ≡ at + t.size = omega arith in
      let rest : cells_bytes t (map (λ k. value_at t bytes (place + k * t.size)) (range_with_len (a + 1) n)) ≡ take (n * t.size) (drop t.size (drop at bytes))
      = from_cell n (a + 1) (omega (arith, whole, next, room)) ∙ ap (λ k. take (n * t.size) (drop k bytes)) next ∙ ap (take (n * t.size)) (sym (drop-drop t.size at bytes)) in
      (λ i. one_back at (omega (arith, whole, room)) i ++ rest i) ∙ sym (take-add t.size (n * t.size) (drop at bytes)) ∙ ap (λ k. take k (drop at bytes)) (sym whole)

  pub stored_back : (n : ℕ) → place + n * t.size ≤ length bytes → cells_bytes t (values_at t bytes place n) ≡ take (n * t.size) (drop place bytes)
  stored_back n room =
      let start : place + 0 * t.size ≡ place = omega arith in
      from_cell n 0 (omega (arith, room)) ∙ ap (λ k. take (n * t.size) (drop k bytes)) start
