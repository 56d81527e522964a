-- A fill value that was written reads as that value.
use Rattle.std.proofs.Common.{◌≡◌, ℕ, ◌+◌, ◌≤◌, List, length, Some, refl, ◌∙◌, arith, true, false, ℤ, replicate, length-append, eq-eqb}
use Rattle.std.proofs.lemmas.Bool.Decides.{nat_tests}
use Rattle.std.specs.Prelude.{nat_le, ◌-◌, ◌==◌}
use Rattle.h5_bytes.specs.Bytes.{number_at}
use Rattle.h5_model.specs.Format.Fixed.{Fixed, IsFixed, fits, bytes_of, value_at}
use Rattle.h5_model.specs.Format.Fill.{fill_value, old_fill_value}
use Rattle.h5_model.proofs.FixedLaws.{value_back, length-bytes_of}
use Rattle.h5_model.specs.Format.Bodies.{fill_bytes, old_fill_bytes}
use Rattle.h5_model.specs.Format.Plain.{with_zeros}
use Rattle.h5_model.proofs.ValueLaws.{value_at-drop}

pub length-fill_bytes : (time : ℕ) (t : Fixed) (v : ℤ) → length (fill_bytes time t v) ≡ 8 + t.size
length-fill_bytes time t v = omega (arith, length-bytes_of t v)

abbrev body : ℕ → Fixed → ℤ → ℕ → List ℕ
body time t v n = with_zeros (fill_bytes time t v) n

long_fill : (time : ℕ) (t : Fixed) (v : ℤ) (n : ℕ) → 8 + t.size ≤ length (body time t v n)
long_fill time t v n = let long : length (bytes_of t v) ≡ t.size = length-bytes_of t v in grind (arith, nat_tests, length-append)

size_read : (time : ℕ) (t : Fixed) (v : ℤ) (n : ℕ) → number_at (body time t v n) 4 4 ≡ t.size
unfolding number_at
size_read time t v n = omega arith

value_read : (time : ℕ) (t : Fixed) (v : ℤ) (n : ℕ) → 1 ≤ t.size → fits t v ≡ true → value_at t (body time t v n) 8 ≡ v
value_read time t v n some fit = value_at-drop t (body time t v n) 8 ∙ value_back t v (replicate (n - length (fill_bytes time t v)) 0) some fit

pub fill_back : (time : ℕ) (t : Fixed) (v : ℤ) (n : ℕ) (bytes : List ℕ) → IsFixed t → fits t v ≡ true → bytes ≡ with_zeros (fill_bytes time t v) n → fill_value t bytes ≡ Some v
unfolding fill_value
fill_back time t v n bytes sound fit same =
    let some : 1 ≤ t.size = grind (arith, nat_tests, sound.size) in
    let long = long_fill time t v n in
    let four : nat_le 4 (length (body time t v n)) ≡ true = grind (arith, nat_tests) in
    let eight : nat_le 8 (length (body time t v n)) ≡ true = grind (arith, nat_tests) in
    let whole : nat_le (8 + t.size) (length (body time t v n)) ≡ true = grind (arith, nat_tests) in
    let none : (t.size == 0) ≡ false = grind (arith, nat_tests) in
    let own : (t.size == t.size) ≡ true = eq-eqb t.size t.size refl in
    rw (same, four, eight, size_read time t v n, none, own, whole, value_read time t v n some fit) refl

-- ---- the old form

abbrev old_body : Fixed → ℤ → ℕ → List ℕ
old_body t v n = with_zeros (old_fill_bytes t v) n

long_old_fill : (t : Fixed) (v : ℤ) (n : ℕ) → 4 + t.size ≤ length (old_body t v n)
long_old_fill t v n = let long : length (bytes_of t v) ≡ t.size = length-bytes_of t v in grind (arith, nat_tests, length-append)

old_size_read : (t : Fixed) (v : ℤ) (n : ℕ) → number_at (old_body t v n) 0 4 ≡ t.size
unfolding number_at
old_size_read t v n = omega arith

old_value_read : (t : Fixed) (v : ℤ) (n : ℕ) → 1 ≤ t.size → fits t v ≡ true → value_at t (old_body t v n) 4 ≡ v
old_value_read t v n some fit = value_at-drop t (old_body t v n) 4 ∙ value_back t v (replicate (n - length (old_fill_bytes t v)) 0) some fit

pub old_fill_back : (t : Fixed) (v : ℤ) (n : ℕ) (bytes : List ℕ) → IsFixed t → fits t v ≡ true → bytes ≡ with_zeros (old_fill_bytes t v) n → old_fill_value t bytes ≡ Some v
unfolding old_fill_value
old_fill_back t v n bytes sound fit same =
    let some : 1 ≤ t.size = grind (arith, nat_tests, sound.size) in
    let long = long_old_fill t v n in
    let four : nat_le 4 (length (old_body t v n)) ≡ true = grind (arith, nat_tests) in
    let whole : nat_le (4 + t.size) (length (old_body t v n)) ≡ true = grind (arith, nat_tests) in
    let none : (t.size == 0) ≡ false = grind (arith, nat_tests) in
    let own : (t.size == t.size) ≡ true = eq-eqb t.size t.size refl in
    rw (same, four, old_size_read t v n, none, own, whole, old_value_read t v n some fit) refl
