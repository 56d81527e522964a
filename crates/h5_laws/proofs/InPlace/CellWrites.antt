-- Cells that stand one after another, after one of them was written.
use Rattle.std.proofs.Common.{◌≡◌, ℕ, ◌+◌, ◌*◌, ◌<◌, ◌≤◌, ◌⊎◌, inl, inr, List, [], append-nil, length, set, get_or, get_or-set_same, get_or-set_other, sym, ap, ◌∙◌, arith, true, ℤ, slice_index}
use Rattle.std.proofs.lemmas.List.{same_lists, places, length-set}
use Rattle.std.proofs.lemmas.Bool.{cases_order}
use Rattle.std.proofs.Math.Nat.{mul-le-mul_right}
use Rattle.h5_bytes.specs.Bytes.{with_part}
use Rattle.h5_bytes.specs.Tables.{table}
use Rattle.h5_bytes.proofs.PartLaws.{with_part_is}
use Rattle.h5_bytes.proofs.TableLaws.{length-table, get_or-table}
use Rattle.h5_model.specs.Format.Fixed.{Fixed, IsFixed, fits, value_of, bytes_of}
use Rattle.h5_model.specs.Format.Cells.{value_in}
use Rattle.h5_model.proofs.FixedLaws.{value_back, length-bytes_of}
use Rattle.h5_model.proofs.PlainValues.{size-low}
use Rattle.h5_model.proofs.ValueLaws.{value_at-same, value_at-moved}

-- the first n cells
abbrev pub cells_in : Fixed → List ℕ → ℕ → List ℤ
cells_in t bytes n = table (value_in t bytes) n

-- a value of a table is replaced
pub table_set : {X : Type 0} (f g : ℕ → X) (n k : ℕ) (x : X) → k < n → g k ≡ x → ((j : ℕ) → j < n → (j < k) ⊎ (k < j) → g j ≡ f j) → table g n ≡ set (table f n) k x
table_set f g n k x low here others =
    let a = length-table f g n 0 in let b = length-table g f n 0 in
    let c = length-set (table f n) k x in
    same_lists _ _ (omega arith) (λ j d l.
    let h : j < n = omega arith in
    get_or-table g f n j d h ∙ elim (cases_order j k) [
      | inl same ↦ ap g same ∙ here ∙ sym (ap (λ i. get_or (set (table f n) k x) i d) same ∙ get_or-set_same (table f n) k x d (omega arith))
      | inr (inl below) ↦ others j h (inl below) ∙ sym (get_or-table f g n j d h) ∙ sym (get_or-set_other (table f n) k j x d (λ e. omega (arith, e, below)))
      | inr (inr above) ↦ others j h (inr above) ∙ sym (get_or-table f g n j d h) ∙ sym (get_or-set_other (table f n) k j x d (λ e. omega (arith, e, above)))
    ])

stride : (s j k : ℕ) → j < k → j * s + s ≤ k * s
stride s j k low = let m : (j + 1) * s ≤ k * s = mul-le-mul_right s (omega arith) in omega (arith, m)

module _ (t : Fixed) (bytes : List ℕ) (n place : ℕ) (v : ℤ) (is : IsFixed t) (fit : fits t v ≡ true) (low : place < n) (room : n * t.size ≤ length bytes) where
  abbrev new : List ℕ
  new = with_part (place * t.size) (bytes_of t v) bytes

  wide : length (bytes_of t v) ≡ t.size
  wide = length-bytes_of t v

  inside : place * t.size + length (bytes_of t v) ≤ length bytes
  inside = let s = stride t.size place n low in omega (arith, s, room, wide)

  -- a byte of another cell
  kept : (p : ℕ) → (p < place * t.size) ⊎ (place * t.size + t.size ≤ p) → slice_index new p ≡ slice_index bytes p
  kept p far = let w = wide in ap (λ bs. get_or bs p 0) (with_part_is (place * t.size) (bytes_of t v) bytes inside) ∙ grind (arith, places, far, w)

  -- a byte of the cell
  written_byte : (k : ℕ) → k < t.size → slice_index new (place * t.size + k) ≡ slice_index (bytes_of t v) (0 + k)
  written_byte k few = let w = wide in ap (λ bs. get_or bs (place * t.size + k) 0) (with_part_is (place * t.size) (bytes_of t v) bytes inside) ∙ grind (arith, places, w)

  here : value_in t new place ≡ v
  here = value_at-moved t (bytes_of t v) new 0 (place * t.size) written_byte
      ∙ ap (λ bs. value_of t bs) (sym (append-nil (bytes_of t v))) ∙ value_back t v [] (size-low t is) fit

  other : (j : ℕ) → (j < place) ⊎ (place < j) → value_in t new j ≡ value_in t bytes j
  other j far = value_at-same t bytes new (j * t.size) (λ p from to. kept p (elim far [
    | inl below ↦ inl (let s = stride t.size j place below in omega (arith, s, to))
    | inr above ↦ inr (let s = stride t.size place j above in omega (arith, s, from))
  ]))

  -- the cells are those before, but the one written
  pub cell_written : cells_in t new n ≡ set (cells_in t bytes n) place v
  cell_written = table_set (value_in t bytes) (value_in t new) n place v low here (λ j h far. other j far)
