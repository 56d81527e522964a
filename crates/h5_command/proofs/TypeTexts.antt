-- The types by their texts.
use Rattle.std.proofs.Common.{◌≡◌, ℕ, Bool, true, false, List, Option, Some, None, cond, codes, refl}
use Rattle.std.specs.Fmt.{digits}
use Rattle.std.specs.Str.{bytes_eq}
use Rattle.h5_model.specs.Format.Fixed.{Fixed}
use Rattle.h5_model.specs.Scripts.Lines.{type_from}

abbrev pub fixed_point : ℕ → Bool → Bool → Fixed
fixed_point size signed big = record { size = size; signed = signed; big = big }

-- the tests, one text after the other
abbrev pub type_tests : List ℕ → Option Fixed
type_tests word =
    cond (bytes_eq (codes "i8") word) (Some (fixed_point 1 true false)) (
    cond (bytes_eq (codes "u8") word) (Some (fixed_point 1 false false)) (
    cond (bytes_eq (codes "i8") word) (Some (fixed_point 1 true false)) (
    cond (bytes_eq (codes "u8") word) (Some (fixed_point 1 false false)) (
    cond (bytes_eq (codes "i16le") word) (Some (fixed_point 2 true false)) (
    cond (bytes_eq (codes "u16le") word) (Some (fixed_point 2 false false)) (
    cond (bytes_eq (codes "i16be") word) (Some (fixed_point 2 true true)) (
    cond (bytes_eq (codes "u16be") word) (Some (fixed_point 2 false true)) (
    cond (bytes_eq (codes "i32le") word) (Some (fixed_point 4 true false)) (
    cond (bytes_eq (codes "u32le") word) (Some (fixed_point 4 false false)) (
    cond (bytes_eq (codes "i32be") word) (Some (fixed_point 4 true true)) (
    cond (bytes_eq (codes "u32be") word) (Some (fixed_point 4 false true)) (
    cond (bytes_eq (codes "i64le") word) (Some (fixed_point 8 true false)) (
    cond (bytes_eq (codes "u64le") word) (Some (fixed_point 8 false false)) (
    cond (bytes_eq (codes "i64be") word) (Some (fixed_point 8 true true)) (
    cond (bytes_eq (codes "u64be") word) (Some (fixed_point 8 false true)) (
    None))))))))))))))))

pub type_from_is : (word : List ℕ) → type_from word ≡ type_tests word
unfolding type_from digits
type_from_is word = refl
