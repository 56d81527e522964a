-- Fill values (File Format Specification 3.0, sections IV.A.2.e and IV.A.2.f).
use Rattle.std.specs.Prelude.{ℕ, ◌+◌, ◌==◌, ◌&&◌, not, nat_le, bit_and, if◌then◌else◌, ℤ, pos, Option, Some, None, List, length}
use Rattle.h5_bytes.specs.Bytes.{number_at, byte_at}
use Rattle.h5_model.specs.Format.Fixed.{Fixed, value_at}

-- a size and that many bytes: none, which stands for 0, or a value of the type
abbrev pub sized_value : Fixed → List ℕ → ℕ → Option ℤ
sized_value t body at =
    if nat_le (at + 4) (length body)
    then (if number_at body at 4 == 0 then Some (pos 0)
    else (if number_at body at 4 == t.size && nat_le (at + 4 + t.size) (length body) then Some (value_at t body (at + 4)) else None))
    else None

-- version 2: undefined, which stands for 0, or a sized value
abbrev pub marked_value : Fixed → List ℕ → Option ℤ
marked_value t body =
    if nat_le 4 (length body)
    then (if byte_at body 3 == 0 then Some (pos 0) else (if byte_at body 3 == 1 then sized_value t body 4 else None))
    else None

-- version 3: of the flags, bit 4 says that it is undefined, and bit 5 that a sized value follows; not both
abbrev pub flagged_value : Fixed → List ℕ → Option ℤ
flagged_value t body =
    if nat_le 2 (length body) && not (bit_and (byte_at body 1) 48 == 48)
    then (if bit_and (byte_at body 1) 32 == 32 then sized_value t body 2 else Some (pos 0))
    else None

-- a Fill Value message
unfoldable pub fill_value : Fixed → List ℕ → Option ℤ
fill_value t body = if byte_at body 0 == 2 then marked_value t body else (if byte_at body 0 == 3 then flagged_value t body else None)

-- an old Fill Value message
unfoldable pub old_fill_value : Fixed → List ℕ → Option ℤ
old_fill_value t body = sized_value t body 0

-- the fill value of a dataset with these messages; the new one decides, and with neither it is 0
abbrev pub chosen_fill : Option ℤ → Option ℤ → ℤ
chosen_fill (Some new) old = new
chosen_fill None (Some old) = old
chosen_fill None None = pos 0
