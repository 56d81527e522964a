-- Values that a caller lends as the bytes of cells: counted, in two parts, and as they are written.
use Rattle.std.proofs.Common.{◌≡◌, ℕ, zero, suc, ◌+◌, ◌-◌, ◌*◌, ◌/◌, ◌%◌, ◌<◌, ◌≤◌, ◌==◌, List, [], ◌∷◌, length, map, take, drop, get_or, Bool, true, false, ◌&&◌, ℤ, pos, refl, sym, ap, ◌∙◌, arith}
use Rattle.std.proofs.Math.Bool.{and-false}
use Rattle.std.proofs.lemmas.Bool.{and_parts}
use Rattle.std.specs.List.{list_all, range_with_len}
use Rattle.std.proofs.Math.Bool.{beq}
use Rattle.std.proofs.Math.Nat.{div-add-mod', mul-le-mul_right}
use Rattle.std.proofs.lemmas.Bool.Decides.{nat_tests}
use Rattle.std.proofs.lemmas.Nat.{mod-mul-add}
use Rattle.std.proofs.lemmas.List.{length-drop, length-take-le, take_all}
use Rattle.std.proofs.lemmas.List.FromFn.{take-map-range_with_len}
use Rattle.h5_model.specs.Format.AttributeBody.{values_at}
use Rattle.h5_model.specs.Format.Cells.{value_in}
use Rattle.h5_model.specs.Format.Fixed.{Fixed, IsFixed, fits, value_at}
use Rattle.h5_model.specs.Format.Plain.{cells_bytes}
use Rattle.h5_model.specs.Tree.Sound.{AreOf}
use Rattle.h5_model.specs.Scripts.Answers.{stored_values}
use Rattle.h5_model.proofs.StoredValues.{length-stored}
use Rattle.h5_msg.proofs.ValueBytes.{AreBytes, AreBytes-drop, AreBytes-take, stored_back}
use Rattle.h5_layout.specs.Buffers.{AreInMemory, AreWholeCells, are_whole_cells}
use Rattle.h5_layout.proofs.CellLaws.{map_ranges, whole_values}

drop_range : (f : ℕ → ℤ) (a n c : ℕ) → c ≤ n → drop c (map f (range_with_len a n)) ≡ map f (range_with_len (a + c) (n - c))
drop_range f a n zero low =
    let at : a ≡ a + 0 = omega arith in
    let left : n ≡ n - 0 = omega arith in
    (λ i. map f (range_with_len (at i) (left i)))
drop_range f a zero (suc c) low = absurd (omega (arith, low))
drop_range f a (suc n) (suc c) low =
    let at : (a + 1) + c ≡ a + suc c = omega arith in
    let left : n - c ≡ suc n - suc c = omega arith in
    drop_range f (a + 1) n c (omega (arith, low)) ∙ (λ i. map f (range_with_len (at i) (left i)))

-- values of the type pass its test
pub all_fit : (t : Fixed) (vs : List ℤ) → AreOf t vs → list_all (fits t) vs ≡ true
all_fit t [] are = refl
all_fit t (v ∷ vs) are = rw (are.0, all_fit t vs are.1) refl

-- bytes of so many cells
pub so_many_cells : (t : Fixed) → 1 ≤ t.size → (bytes : List ℕ) (n : ℕ) → length bytes ≡ n * t.size → are_whole_cells t bytes ≡ true
so_many_cells t some bytes n long =
    let whole : length bytes ≡ n * t.size + 0 = omega (arith, long) in
    ap (λ k. k == 0) (ap (λ k. k % t.size) whole ∙ mod-mul-add n t.size 0 some)

module _ (t : Fixed) (some : 1 ≤ t.size) (bytes : List ℕ) (are : are_whole_cells t bytes ≡ true) where
  abbrev pub count : ℕ
  count = length bytes / t.size

  pub counted : length bytes ≡ count * t.size
  counted =
      let left : count * t.size + length bytes % t.size ≡ length bytes = div-add-mod' (length bytes) t.size in
      let none : length bytes % t.size ≡ 0 = grind (arith, nat_tests, are) in
      omega (arith, left, none)

  module _ (c : ℕ) (low : c ≤ count) where
    rest : (count - c) * t.size + c * t.size ≡ count * t.size
    rest = let sum : (count - c) + c ≡ count = omega (arith, low) in sum_of (count - c) sum where
      sum_of : (k : ℕ) → k + c ≡ count → k * t.size + c * t.size ≡ count * t.size
      sum_of k sum = let split : (k + c) * t.size ≡ k * t.size + c * t.size = omega arith in sym split ∙ ap (λ n. n * t.size) sum

    pub front_long : c * t.size ≤ length bytes
    front_long = omega (arith, counted, rest)

    pub front_values : stored_values t (take (c * t.size) bytes) ≡ take c (stored_values t bytes)
    front_values =
        let none : c * t.size - 0 ≡ c * t.size = omega arith in
        ap (λ n. stored_values t (take n bytes)) (sym none)
        ∙ whole_values t some bytes 0 c 0 (c * t.size) (omega (arith, front_long)) (omega arith) (omega arith)
        ∙ sym (take-map-range_with_len (value_in t bytes) 0 count c low)

    pub back_values : stored_values t (drop (c * t.size) bytes) ≡ drop c (stored_values t bytes)
    back_values =
        let end : ℕ = c * t.size + (count - c) * t.size in
        let room : (c + (count - c)) * t.size ≤ length bytes = omega (arith, counted, sum_is) in
        let all : take (end - c * t.size) (drop (c * t.size) bytes) ≡ drop (c * t.size) bytes
        = take_all (end - c * t.size) (drop (c * t.size) bytes) (omega (arith, length-drop (c * t.size) bytes, counted, rest)) in
        ap (stored_values t) (sym all)
        ∙ whole_values t some bytes c (count - c) (c * t.size) end room refl refl
        ∙ ap (λ n. map (value_in t bytes) (range_with_len n (count - c))) behind
        ∙ sym (drop_range (value_in t bytes) 0 count c low) where
          behind : c ≡ 0 + c
          behind = omega arith

          sum_is : (c + (count - c)) * t.size ≡ count * t.size
          sum_is = let sum : c + (count - c) ≡ count = omega (arith, low) in ap (λ n. n * t.size) sum

    module _ (sound : IsFixed t) (memory : AreInMemory bytes) where
      pub front_whole : AreWholeCells t (take (c * t.size) bytes)
      front_whole =
          let long : length (take (c * t.size) bytes) ≡ c * t.size = length-take-le (c * t.size) bytes front_long in
          record {
            type = sound;
            whole = so_many_cells t some (take (c * t.size) bytes) c long;
            memory = record { few = omega (arith, long, front_long, memory.few); low = AreBytes-take (c * t.size) bytes memory.low };
          }

      pub back_whole : AreWholeCells t (drop (c * t.size) bytes)
      back_whole =
          let long : length (drop (c * t.size) bytes) ≡ length bytes - c * t.size = length-drop (c * t.size) bytes in
          record {
            type = sound;
            whole = so_many_cells t some (drop (c * t.size) bytes) (count - c) (omega (arith, long, counted, rest));
            memory = record { few = omega (arith, long, memory.few); low = AreBytes-drop (c * t.size) bytes memory.low };
          }

  -- the bytes are those of the values
  pub written_back : IsFixed t → AreBytes bytes → cells_bytes t (stored_values t bytes) ≡ bytes
  written_back sound small =
      let all : take (count * t.size) (drop 0 bytes) ≡ bytes = take_all (count * t.size) bytes (omega (arith, counted)) in
      let same : stored_values t bytes ≡ values_at t bytes 0 count
      = map_ranges (λ k. value_at t bytes (k * t.size)) (λ k. value_at t bytes (0 + k * t.size)) 0 0 count
      (λ j less. let at : (0 + j) * t.size ≡ 0 + (0 + j) * t.size = omega arith in ap (value_at t bytes) at) in
      ap (cells_bytes t) same ∙ stored_back t bytes 0 sound small count (omega (arith, counted)) ∙ all

-- no more values are asked for than there are
pub low_count : (t : Fixed) (bytes : List ℕ) (values : List ℤ) (c : ℕ) → stored_values t bytes ≡ values → c ≤ length values → c ≤ length bytes / t.size
low_count t bytes values c same low = omega (arith, low, ap length same, length-stored t bytes)

-- ---- tests of values

pub all_more : (t : Fixed) (vs : List ℤ) (k : ℕ) → k < length vs → list_all (fits t) (take k vs) ≡ true → fits t (get_or vs k (pos 0)) ≡ true → list_all (fits t) (take (k + 1) vs) ≡ true
all_more t [] k low all fit = absurd (omega (arith, low))
all_more t (v ∷ vs) zero low all fit = ap (λ b. b && true) fit
all_more t (v ∷ vs) (suc k) low all fit =
    let first = (and_parts (fits t v) (list_all (fits t) (take k vs)) all).0 in
    let rest = (and_parts (fits t v) (list_all (fits t) (take k vs)) all).1 in
    let more = all_more t vs k (omega (arith, low)) rest fit in
    let next : suc k + 1 ≡ suc (k + 1) = omega arith in
    ap (λ n. list_all (fits t) (take n (v ∷ vs))) next ∙ (λ i. first i && more i)

pub not_all : (t : Fixed) (vs : List ℤ) (k : ℕ) → k < length vs → fits t (get_or vs k (pos 0)) ≡ false → list_all (fits t) vs ≡ false
not_all t [] k low unfit = absurd (omega (arith, low))
not_all t (v ∷ vs) zero low unfit = rw unfit refl
not_all t (v ∷ vs) (suc k) low unfit = rw (not_all t vs k (omega (arith, low)) unfit) (and-false (fits t v))

-- ---- places

pub cell_within : (k n size long : ℕ) → k < n → long ≡ n * size → k * size + size ≤ long
cell_within k n size long low is =
    let next : suc k * size ≡ k * size + size = omega arith in
    let below : suc k * size ≤ n * size = mul-le-mul_right size low in
    omega (arith, next, below, is)

-- ---- types

pub same_type : (t u : Fixed) → ((t.size == u.size) && (beq t.signed u.signed && beq t.big u.big)) ≡ true → t ≡ u
same_type t u test =
    let size : t.size ≡ u.size = grind (arith, nat_tests, (and_parts (t.size == u.size) (beq t.signed u.signed && beq t.big u.big) test).0) in
    let flags = (and_parts (t.size == u.size) (beq t.signed u.signed && beq t.big u.big) test).1 in
    let signed = equal t.signed u.signed (and_parts (beq t.signed u.signed) (beq t.big u.big) flags).0 in
    let big = equal t.big u.big (and_parts (beq t.signed u.signed) (beq t.big u.big) flags).1 in
    (λ i. record { size = size i; signed = signed i; big = big i }) where
      equal : (a b : Bool) → beq a b ≡ true → a ≡ b
      equal true true is = refl
      equal true false is = absurd (cc)
      equal false true is = absurd (cc)
      equal false false is = refl
