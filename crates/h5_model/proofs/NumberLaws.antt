-- A number behind other bytes, and one that was written, are read.
use Rattle.std.proofs.Common.{◌≡◌, ℕ, ◌+◌, ◌^◌, ◌<◌, List, ◌++◌, length}
use Rattle.byteorder.specs.Numbers.{little_number-reads_back}
use Rattle.h5_bytes.specs.Bytes.{number_at, little_bytes}
use Rattle.h5_model.proofs.ValueLaws.{little_moved, moved-behind}

-- a number behind some bytes
pub number_at-append : (xs ys : List ℕ) (k n : ℕ) → number_at (xs ++ ys) (length xs + k) n ≡ number_at ys k n
unfolding number_at
number_at-append xs ys k n = little_moved n ys (xs ++ ys) k (length xs + k) (moved-behind xs ys k n)

-- a number written in n bytes, with anything behind
pub reads_back : (n x : ℕ) (rest : List ℕ) → x < 256 ^ n → number_at (little_bytes n x ++ rest) 0 n ≡ x
unfolding number_at
reads_back n x rest small = little_number-reads_back n x rest small
