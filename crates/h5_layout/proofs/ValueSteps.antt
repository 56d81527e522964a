-- Values that are left, and a step over them.
use Rattle.std.proofs.Common.{◌≡◌, ℕ, suc, ◌+◌, ◌-◌, ◌*◌, ◌/◌, ◌<◌, ◌≤◌, [], ◌∷◌, length, map, ℤ, sym, ap, ◌∙◌, subst, arith}
use Rattle.std.specs.Prelude.{IfSome}
use Rattle.std.specs.List.{range_with_len}
use Rattle.std.proofs.lemmas.Nat.{div-mul-add}
use Rattle.std.proofs.Math.Nat.{mul-le-mul_right}
use Rattle.h5_model.specs.Format.Fixed.{Fixed, IsFixed}
use Rattle.h5_model.proofs.PlainValues.{size-low}
use Rattle.h5_layout.specs.Values.{IsPart, part_values, value_in_part}
use Rattle.h5_layout.specs.declared.values.Part.{Part}

-- whole cells are as many as their bytes have room for
pub count_whole : (t : Fixed) (n long : ℕ) → IsFixed t → long ≡ n * t.size → long / t.size ≡ n
count_whole t n long sound is =
    let all : n * t.size + 0 ≡ n * t.size = omega arith in
    ap (λ (k : ℕ). k / t.size) (is ∙ sym all) ∙ div-mul-add n t.size 0 (size-low t sound)

-- the bytes of the cell at a place are inside
pub room_at : (t : Fixed) (place left long : ℕ) → 0 < left → (place + left) * t.size ≤ long → place * t.size + t.size ≤ long
room_at t place left long some room =
    let rows : suc place * t.size ≤ (place + left) * t.size = mul-le-mul_right t.size (omega (arith, some)) in
    let next : suc place * t.size ≡ place * t.size + t.size = omega arith in
    omega (arith, rows, next, room)

module _ (t : Fixed) (fill : ℤ) where
  -- ---- a part

  pub no_part : (part : Part) → part.left ≡ 0 → part_values t fill part ≡ []
  no_part part none = ap (λ (k : ℕ). map (value_in_part t fill part) (range_with_len part.place k)) none

  abbrev pub behind : Part → Part
  behind part = record { bytes = part.bytes; place = part.place + 1; left = part.left - 1 }

  pub first_of : (part : Part) → 0 < part.left → part_values t fill part ≡ value_in_part t fill part part.place ∷ part_values t fill (behind part)
  first_of part some =
      let is : part.left ≡ suc (part.left - 1) = omega (arith, some) in
      ap (λ (k : ℕ). map (value_in_part t fill part) (range_with_len part.place k)) is

  pub part_behind : (part : Part) → 0 < part.left → IsPart t part → IsPart t (behind part)
  part_behind part some is =
      let same : (part.place + 1) + (part.left - 1) ≡ part.place + part.left = omega (arith, some) in
      record {
        low = omega (arith, same, is.low);
        room = subst (λ (k : ℕ). IfSome part.bytes (λ bytes. k * t.size ≤ length bytes.now)) (sym same) is.room;
      }
