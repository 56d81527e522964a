-- How many nodes a row has, and how many stand over it.
use Rattle.std.proofs.Common.{◌≡◌, ℕ, zero, suc, ◌+◌, ◌-◌, ◌*◌, ◌/◌, ◌%◌, ◌<◌, ◌≤◌, true, false, refl, sym, arith}
use Rattle.std.specs.Prelude.{min, nat_le}
use Rattle.std.proofs.Math.Nat.{div-eq_of_lt-le, mul-le-mul_left}
use Rattle.std.proofs.lemmas.Bool.Decides.{nat_tests}
use Rattle.std.proofs.lemmas.Grind.{div_ceil_times}
use Rattle.h5_model.specs.Format.PlainLength.{rows_of, nodes_over}
use Rattle.h5_btree.specs.Writing.Written.{level_over, root_level}

-- as many rows as the quotient rounded up
pub rows_ceil : (m n : ℕ) → 1 ≤ m → n / m + min 1 (n % m) ≡ rows_of m n
rows_ceil m n some =
    let c : ℕ = n / m + min 1 (n % m) in
    let bounds : (n ≤ c * m) × (c * m < n + m) = div_ceil_times n m some in
    let above : n + m - 1 < (c + 1) * m = omega arith in
    sym (div-eq_of_lt-le m (omega arith) above)

-- the rows have room for all, and the last has at least one
pub rows_bounds : (m n : ℕ) → 1 ≤ m → (n ≤ rows_of m n * m) × (rows_of m n * m < n + m)
rows_bounds m n some = rw (← rows_ceil m n some) (div_ceil_times n m some)

pub rows_few : (m n : ℕ) → 1 ≤ m → rows_of m n ≤ n
rows_few m n some = few n (rows_of m n) (rows_bounds m n some).1 where
  few : (n r : ℕ) → r * m < n + m → r ≤ n
  few n zero h = omega arith
  few n (suc r) h =
      let more : r * 1 ≤ r * m = mul-le-mul_left r some in
      omega arith

-- rows of two or more are fewer than what stands in them
pub rows_half : (m n : ℕ) → 2 ≤ m → 3 ≤ n → 3 * rows_of m n ≤ 2 * n
rows_half m n two many = half (rows_of m n) (rows_bounds m n (omega arith)).1 where
  half : (r : ℕ) → r * m < n + m → 3 * r ≤ 2 * n
  half zero h = omega arith
  half (suc r) h =
      let more : r * 2 ≤ r * m = mul-le-mul_left r two in
      omega arith

pub rows_some : (m n : ℕ) → 1 ≤ m → 1 ≤ n → 1 ≤ rows_of m n
rows_some m n some one = more (rows_of m n) (rows_bounds m n some).0 where
  more : (r : ℕ) → n ≤ r * m → 1 ≤ r
  more zero h = absurd (omega arith)
  more (suc r) h = omega arith

-- ---- level by level

-- too many for one node, or not
pub is_over : (n m : ℕ) → m < n → nat_le n m ≡ false
is_over n m h = grind (arith, nat_tests)

pub is_within : (n m : ℕ) → n ≤ m → nat_le n m ≡ true
is_within n m h = grind (arith, nat_tests)

pub nodes_none : (levels m n : ℕ) → levels ≡ 0 → nodes_over levels m n ≡ 0
nodes_none zero m n e = refl
nodes_none (suc levels) m n e = absurd (omega arith)

pub nodes_one : (levels m n : ℕ) → 1 ≤ levels → n ≤ m → nodes_over levels m n ≡ 1
nodes_one zero m n some few = absurd (omega arith)
nodes_one (suc levels) m n some few = rw (is_within n m few) refl

pub nodes_more : (levels m n : ℕ) → 1 ≤ levels → m < n → nodes_over levels m n ≡ rows_of m n + nodes_over (levels - 1) m (rows_of m n)
nodes_more zero m n some many = absurd (omega arith)
nodes_more (suc levels) m n some many =
    let one : suc levels - 1 ≡ levels = omega arith in
    rw (is_over n m many, one) refl

pub level_none : (levels m n : ℕ) → levels ≡ 0 → level_over levels m n ≡ 0
level_none zero m n e = refl
level_none (suc levels) m n e = absurd (omega arith)

pub level_one : (levels m n : ℕ) → n ≤ m → level_over levels m n ≡ 0
level_one zero m n few = refl
level_one (suc levels) m n few = rw (is_within n m few) refl

pub level_more : (levels m n : ℕ) → 1 ≤ levels → m < n → level_over levels m n ≡ 1 + level_over (levels - 1) m (rows_of m n)
level_more zero m n some many = absurd (omega arith)
level_more (suc levels) m n some many =
    let one : suc levels - 1 ≡ levels = omega arith in
    rw (is_over n m many, one) refl

pub root_level_is : (k n : ℕ) → root_level k n ≡ level_over 64 (2 * k) n
unfolding root_level
root_level_is k n = refl
