-- Cells of which each is 0 are bytes of which each is 0.
use Rattle.std.proofs.Common.{◌≡◌, ℕ, zero, suc, ◌+◌, ◌*◌, ◌/◌, ◌%◌, ◌^◌, ◌<◌, ◌≤◌, List, ◌∷◌, ◌++◌, length, take, drop, replicate, true, false, pos, refl, sym, ap, ap₂, ◌∙◌, arith}
use Rattle.std.specs.Prelude.{if◌then◌else◌}
use Rattle.std.specs.Int.{byte_at, bytes_high_first, bytes_low_first}
use Rattle.std.proofs.Math.Nat.{one-le-pow}
use Rattle.std.proofs.lemmas.Nat.{div_below}
use Rattle.std.proofs.lemmas.List.{places, replicate-append-replicate, same_lists}
use Rattle.h5_bytes.specs.Bytes.{part, with_part}
use Rattle.h5_bytes.proofs.PartLaws.{with_part_is}
use Rattle.h5_model.specs.Format.Fixed.{Fixed, bytes_of}
use Rattle.h5_model.specs.Format.Plain.{cells_bytes}

-- ---- the bytes of 0

byte_zero : (i : ℕ) → byte_at i 0 ≡ 0
byte_zero zero = refl
byte_zero (suc i) =
    let one = one-le-pow (suc i) 256 (omega arith) in
    let some : 0 < 256 ^ suc i = omega (arith, one) in
    let low : 0 / 256 ^ suc i < 1 = div_below 0 (256 ^ suc i) 1 some (omega (arith, some)) in
    let none : 0 / 256 ^ suc i ≡ 0 = omega (arith, low) in
    ap (λ (n : ℕ). n % 256) none

low_zero : (i n : ℕ) → bytes_low_first i n 0 ≡ replicate n 0
low_zero i zero = refl
low_zero i (suc n) = ap₂ (λ (b : ℕ) (bs : List ℕ). b ∷ bs) (byte_zero i) (low_zero (suc i) n)

high_zero : (n : ℕ) → bytes_high_first n 0 ≡ replicate n 0
high_zero zero = refl
high_zero (suc n) = ap₂ (λ (b : ℕ) (bs : List ℕ). b ∷ bs) (byte_zero n) (high_zero n)

cell_zero : (t : Fixed) → bytes_of t (pos 0) ≡ replicate t.size 0
unfolding bytes_of
cell_zero t = elim t.big as (λ b. (if b then bytes_high_first t.size 0 else bytes_low_first 0 t.size 0) ≡ replicate t.size 0) [ true ↦ high_zero t.size | false ↦ low_zero 0 t.size ]

pub cells_zero : (t : Fixed) (n : ℕ) → cells_bytes t (replicate n (pos 0)) ≡ replicate (n * t.size) 0
cells_zero t zero = let none : 0 ≡ 0 * t.size = omega arith in ap (λ (n : ℕ). replicate n 0) none
cells_zero t (suc n) =
    let split : t.size + n * t.size ≡ suc n * t.size = omega arith in
    ap₂ (λ (xs ys : List ℕ). xs ++ ys) (cell_zero t) (cells_zero t n) ∙ replicate-append-replicate t.size (n * t.size) 0 ∙ ap (λ (m : ℕ). replicate m 0) split

-- ---- bytes that stand there already

pub written_again : (at : ℕ) (w bytes : List ℕ) → at + length w ≤ length bytes → part at (length w) bytes ≡ w → with_part at w bytes ≡ bytes
unfolding part
written_again at w bytes room there =
    with_part_is at w bytes room ∙ ap (λ (xs : List ℕ). take at bytes ++ (xs ++ drop (at + length w) bytes)) (sym there)
    ∙ same_lists _ _ (grind (arith, places)) (λ k d l. grind (arith, places))
