-- Datatype messages of class 0, fixed-point, version 1 (File Format Specification 3.0, section IV.A.2.d).
use Rattle.std.specs.Prelude.{ℕ, ◌*◌, ◌==◌, ◌&&◌, Bool, nat_lt, nat_le, bit_and, if◌then◌else◌, Option, None, List, length}
use Rattle.h5_bytes.specs.Bytes.{number_at, byte_at}
use Rattle.h5_model.specs.Format.Fixed.{Fixed, fixed_from}

abbrev pub type_size : List ℕ → ℕ
type_size body = number_at body 4 4

-- bits 0 and 3 of the class bits: high byte first, two's complement
abbrev pub is_high_first : List ℕ → Bool
is_high_first body = bit_and (byte_at body 1) 1 == 1

abbrev pub is_signed : List ℕ → Bool
is_signed body = bit_and (byte_at body 1) 8 == 8

-- class and version, no other class bits but those for padding, no bit offset, and full precision
abbrev pub is_fixed_point : List ℕ → Bool
is_fixed_point body =
    nat_le 12 (length body) && byte_at body 0 == 16 && nat_lt (byte_at body 1) 16 && number_at body 2 2 == 0
    && number_at body 8 2 == 0 && number_at body 10 2 == 8 * type_size body

-- what a datatype message says
unfoldable pub fixed_of : List ℕ → Option Fixed
fixed_of body =
    if is_fixed_point body then fixed_from (type_size body) (is_signed body) (is_high_first body) else None
