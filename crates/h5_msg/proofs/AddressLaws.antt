-- A pair of numbers that was written reads as that pair.
use Rattle.std.proofs.Common.{◌≡◌, ℕ, ◌^◌, ◌<◌, List, ◌++◌, length, replicate}
use Rattle.std.specs.Prelude.{◌-◌}
use Rattle.byteorder.specs.Numbers.{little_number-reads_back}
use Rattle.h5_bytes.specs.Bytes.{number_at, little_bytes}
use Rattle.h5_model.specs.Format.Bodies.{pair_bytes}
use Rattle.h5_model.specs.Format.Plain.{with_zeros}

pub first_back : (a b n : ℕ) (bytes : List ℕ) → a < 2 ^ 64 → bytes ≡ with_zeros (pair_bytes a b) n → number_at bytes 0 8 ≡ a
unfolding number_at
first_back a b n bytes small same = rw same (little_number-reads_back 8 a (little_bytes 8 b ++ replicate (n - length (pair_bytes a b)) 0) small)

pub second_back : (a b n : ℕ) (bytes : List ℕ) → b < 2 ^ 64 → bytes ≡ with_zeros (pair_bytes a b) n → number_at bytes 8 8 ≡ b
unfolding number_at
second_back a b n bytes small same = rw same (little_number-reads_back 8 b (replicate (n - length (pair_bytes a b)) 0) small)
