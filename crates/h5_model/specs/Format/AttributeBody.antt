-- Attribute messages, versions 1 to 3 (File Format Specification 3.0, section IV.A.2.m).
use Rattle.std.specs.Prelude.{ℕ, ◌+◌, ◌*◌, ◌==◌, ◌&&◌, ◌||◌, Bool, nat_le, nat_lt, if◌then◌else◌, ℤ, Option, Some, None, List, map, length, slice_range}
use Rattle.std.specs.List.{range_with_len}
use Rattle.std.specs.Option.{option_and_then}
use Rattle.h5_bytes.specs.Bytes.{number_at, byte_at}
use Rattle.h5_bytes.specs.Texts.{pad8, until_zero}
use Rattle.h5_model.specs.Tree.Places.{cells}
use Rattle.h5_model.specs.Format.Fixed.{Fixed, value_at}
use Rattle.h5_model.specs.Format.Extent.{Extent, extent_of}
use Rattle.h5_model.specs.Format.Datatype.{fixed_of}
use Rattle.h5_model.specs.Tree.Objects.{Attribute}

-- the values of so many cells that stand one after another from a place on
abbrev pub values_at : Fixed → List ℕ → ℕ → ℕ → List ℤ
values_at t bytes at n = map (λ k. value_at t bytes (at + k * t.size)) (range_with_len 0 n)

-- the lengths of the name with its zero, of the datatype and of the dataspace
abbrev pub name_size : List ℕ → ℕ
name_size body = number_at body 2 2

abbrev pub datatype_size : List ℕ → ℕ
datatype_size body = number_at body 4 2

abbrev pub dataspace_size : List ℕ → ℕ
dataspace_size body = number_at body 6 2

-- version 1 pads each of these parts to a multiple of 8
abbrev pub part_size : List ℕ → ℕ → ℕ
part_size body n = if byte_at body 0 == 1 then pad8 n else n

-- where they and the data begin; version 3 has the name's character set before them
abbrev pub name_start : List ℕ → ℕ
name_start body = if byte_at body 0 == 3 then 9 else 8

abbrev pub datatype_place : List ℕ → ℕ
datatype_place body = name_start body + part_size body (name_size body)

abbrev pub dataspace_place : List ℕ → ℕ
dataspace_place body = datatype_place body + part_size body (datatype_size body)

abbrev pub data_place : List ℕ → ℕ
data_place body = dataspace_place body + part_size body (dataspace_size body)

-- the bytes before the first zero
abbrev pub name_in : List ℕ → List ℕ
name_in body = until_zero (slice_range body (name_start body) (name_start body + name_size body))

-- version 1, where the byte behind is reserved; or 2 or 3, where it has flags, of which none is set
abbrev pub is_version : List ℕ → Bool
is_version body = byte_at body 0 == 1 || ((byte_at body 0 == 2 || byte_at body 0 == 3) && byte_at body 1 == 0)

-- all parts are there, and the name has at least one byte before its zero
abbrev pub is_attribute : List ℕ → Bool
is_attribute body =
    nat_le 8 (length body) && is_version body && nat_le (data_place body) (length body)
    && nat_le 1 (length (name_in body)) && nat_lt (length (name_in body)) (name_size body)

-- what is kept of the body beside what it says: all of it in versions 2 and 3
abbrev pub kept_body : List ℕ → Option (List ℕ)
kept_body body = if byte_at body 0 == 1 then None else Some body

-- the attribute of this type and extent, where its data are there
abbrev pub attribute_with : List ℕ → Fixed → Extent → Option (List ℕ × Attribute)
attribute_with body t extent =
    if nat_le (data_place body + cells extent.sizes * t.size) (length body)
    then Some (
      name_in body,
      record {
        fixed = t;
        sizes = extent.sizes;
        values = values_at t body (data_place body) (cells extent.sizes);
        body = kept_body body;
      },
    )
    else None

-- what an attribute message says: a name and an attribute
unfoldable pub attribute_of : List ℕ → Option (List ℕ × Attribute)
attribute_of body =
    if is_attribute body
    then option_and_then (λ t. option_and_then (attribute_with body t) (extent_of (slice_range body (dataspace_place body) (dataspace_place body + dataspace_size body))))
    (fixed_of (slice_range body (datatype_place body) (datatype_place body + datatype_size body)))
    else None
