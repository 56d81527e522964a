-- Dataspace messages, version 1 (File Format Specification 3.0, section IV.A.2.b).
use Rattle.std.specs.Prelude.{ℕ, ◌+◌, ◌*◌, ◌==◌, ◌&&◌, ◌||◌, Bool, nat_le, if◌then◌else◌, Option, Some, None, List, map, length}
use Rattle.std.specs.List.{range_with_len}
use Rattle.h5_model.specs.Scripts.Tests.{each_below}
use Rattle.h5_bytes.specs.Bytes.{number_at, byte_at, undefined_address}
use Rattle.h5_model.specs.Format.Limits.{most_dimensions}

-- sizes, and maxima, of which None is unlimited
pub record Extent : Type 0 where
  pub sizes : List ℕ
  pub maxima : List (Option ℕ)

-- so many numbers of 8 bytes, one after another
abbrev pub numbers_at : List ℕ → ℕ → ℕ → List ℕ
numbers_at bytes at n = map (λ i. number_at bytes (at + 8 * i) 8) (range_with_len 0 n)

-- a maximum in the message: all ones say unlimited
abbrev pub maximum_from : ℕ → Option ℕ
maximum_from n = if n == undefined_address then None else Some n

abbrev pub rank_in : List ℕ → ℕ
rank_in body = byte_at body 1

abbrev pub has_maxima : List ℕ → Bool
has_maxima body = byte_at body 2 == 1

-- size k
abbrev pub size_in : List ℕ → ℕ → ℕ
size_in body k = number_at body (8 + 8 * k) 8

-- maximum k, which is size k where no maxima stand
abbrev pub maximum_in : List ℕ → ℕ → Option ℕ
maximum_in body k = if has_maxima body then maximum_from (number_at body (8 + 8 * rank_in body + 8 * k) 8) else Some (size_in body k)

-- maximum k is not below size k
unfoldable pub maximum_fits : List ℕ → ℕ → Bool
maximum_fits body k = nat_le (number_at body (8 + 8 * k) 8) (number_at body (8 + 8 * rank_in body + 8 * k) 8)

-- version 1, a rank of at most `most_dimensions`, no flag but that for maxima, all its numbers there, and no maximum below its size
abbrev pub is_dataspace : List ℕ → Bool
is_dataspace body =
    nat_le 8 (length body) && byte_at body 0 == 1 && nat_le (rank_in body) most_dimensions && nat_le (byte_at body 2) 1
    && nat_le (8 + 8 * (rank_in body * (1 + byte_at body 2))) (length body)
    && (byte_at body 2 == 0 || each_below (rank_in body) (maximum_fits body))

-- what such a body says
abbrev pub extent_in : List ℕ → Extent
extent_in body = record {
  sizes = map (size_in body) (range_with_len 0 (rank_in body));
  maxima = map (maximum_in body) (range_with_len 0 (rank_in body));
}

-- what a dataspace message says
unfoldable pub extent_of : List ℕ → Option Extent
extent_of body = if is_dataspace body then Some (extent_in body) else None
