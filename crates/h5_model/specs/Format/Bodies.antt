-- Bodies of messages as they are written (File Format Specification 3.0, section IV.A.2).
use Rattle.std.specs.Prelude.{ℕ, ℤ, ◌+◌, ◌-◌, ◌*◌, if◌then◌else◌, Option, Some, None, List, [], ◌∷◌, ◌++◌, length, map, replicate}
use Rattle.std.specs.List.{flat_map}
use Rattle.h5_bytes.specs.Bytes.{little_bytes, undefined_address}
use Rattle.h5_bytes.specs.Texts.{pad8}
use Rattle.h5_model.specs.Format.Sizes.{attribute_size, dataspace_length as dataspace_size}
use Rattle.h5_model.specs.Format.Fixed.{Fixed, bytes_of}
use Rattle.h5_model.specs.Format.Plain.{with_zeros, padded_text, cells_bytes}

-- a body as a message has it, with zeros up to a multiple of 8 (section IV.A.1.a)
abbrev pub padded_body : List ℕ → List ℕ
padded_body body = with_zeros body (pad8 (length body))

-- two numbers of 8 bytes: a Symbol Table's tree and heap, a Continuation's address and length
abbrev pub pair_bytes : ℕ → ℕ → List ℕ
pair_bytes first second = little_bytes 8 first ++ little_bytes 8 second

-- bit 0 of the class bits: the high byte first; bit 3: signed
abbrev pub class_bits : Fixed → ℕ
class_bits t = (if t.big then 1 else 0) + (if t.signed then 8 else 0)

-- class and version, class bits, size, bit offset and precision
abbrev pub datatype_bytes : Fixed → List ℕ
datatype_bytes t = 16 ∷ class_bits t ∷ 0 ∷ 0 ∷ t.size ∷ 0 ∷ 0 ∷ 0 ∷ 0 ∷ 0 ∷ (8 * t.size) ∷ 0 ∷ []

-- version 2, when storage is allocated, when the fill is written (if it was set), defined, size and value
abbrev pub fill_bytes : ℕ → Fixed → ℤ → List ℕ
fill_bytes time t value = 2 ∷ time ∷ 2 ∷ 1 ∷ t.size ∷ 0 ∷ 0 ∷ 0 ∷ bytes_of t value

-- the old form: size and value
abbrev pub old_fill_bytes : Fixed → ℤ → List ℕ
old_fill_bytes t value = t.size ∷ 0 ∷ 0 ∷ 0 ∷ bytes_of t value

-- numbers of 8 bytes, one after another
abbrev pub words : List ℕ → List ℕ
words numbers = flat_map (little_bytes 8) numbers

-- a number, or all ones where there is none: an unlimited maximum, the undefined address
abbrev pub or_undefined : Option ℕ → ℕ
or_undefined None = undefined_address
or_undefined (Some n) = n

-- version 1, rank, no flag, and the sizes
abbrev pub dataspace_bytes : List ℕ → List ℕ
dataspace_bytes sizes = 1 ∷ length sizes ∷ 0 ∷ 0 ∷ 0 ∷ 0 ∷ 0 ∷ 0 ∷ words sizes

-- the same with the flag for maxima, and these behind the sizes
abbrev pub bounded_bytes : List ℕ → List (Option ℕ) → List ℕ
bounded_bytes sizes maxima = 1 ∷ length sizes ∷ 1 ∷ 0 ∷ 0 ∷ 0 ∷ 0 ∷ 0 ∷ (words sizes ++ words (map or_undefined maxima))

-- version 3, class 0, how many bytes of data there are, and these
abbrev pub compact_bytes : List ℕ → List ℕ
compact_bytes bytes = 3 ∷ 0 ∷ (little_bytes 2 (length bytes) ++ bytes)

-- version 3, class 1, the address and how many bytes of data there are
abbrev pub contiguous_bytes : Option ℕ → ℕ → List ℕ
contiguous_bytes address len = 3 ∷ 1 ∷ (little_bytes 8 (or_undefined address) ++ little_bytes 8 len)

-- numbers of 4 bytes, one after another
abbrev pub short_words : List ℕ → List ℕ
short_words numbers = flat_map (little_bytes 4) numbers

-- version 3, class 2, one more than the rank, the tree's address, the chunk sizes and the size of an element
abbrev pub chunked_bytes : List ℕ → Option ℕ → ℕ → List ℕ
chunked_bytes chunk tree size = 3 ∷ 2 ∷ (length chunk + 1) ∷ (little_bytes 8 (or_undefined tree) ++ (short_words chunk ++ little_bytes 4 size))

-- version 1, the lengths of the name with its zero, of the datatype and of the dataspace
abbrev pub attribute_head : ℕ → ℕ → List ℕ
attribute_head name rank = 1 ∷ 0 ∷ (little_bytes 2 (name + 1) ++ (12 ∷ 0 ∷ little_bytes 2 (dataspace_size rank)))

-- the same, then name, datatype and dataspace, each padded to a multiple of 8
abbrev pub attribute_front : List ℕ → Fixed → List ℕ → List ℕ
attribute_front name t sizes =
    attribute_head (length name) (length sizes) ++ (padded_text name ++ (with_zeros (datatype_bytes t) 16 ++ dataspace_bytes sizes))

-- the same, these bytes of the values, and zeros, so many bytes in all
abbrev pub stored_attribute_bytes : List ℕ → Fixed → List ℕ → List ℕ → ℕ → List ℕ
stored_attribute_bytes name t sizes stored n =
    attribute_front name t sizes ++ (stored ++ replicate (n - attribute_size (length name) sizes t.size) 0)

-- with these values
abbrev pub attribute_bytes : List ℕ → Fixed → List ℕ → List ℤ → ℕ → List ℕ
attribute_bytes name t sizes values n = stored_attribute_bytes name t sizes (cells_bytes t values) n
