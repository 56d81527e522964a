-- Data Layout messages, version 3 (File Format Specification 3.0, section IV.A.2.i).
use Rattle.std.specs.Prelude.{ℕ, ◌+◌, ◌*◌, ◌==◌, ◌&&◌, not, nat_le, if◌then◌else◌, Option, Some, None, List, map, length, slice_range}
use Rattle.std.specs.List.{range_with_len, list_any}
use Rattle.h5_bytes.specs.Bytes.{number_at, byte_at, undefined_address}
use Rattle.h5_bytes.specs.Blocks.{block}
use Rattle.h5_bytes.specs.declared.Block.{Block}
use Rattle.h5_model.specs.Tree.Places.{cells}

-- data in the message; a block of data, or none; chunk sizes with the address of a tree, or none
pub data Layout : Type 0 where
  InMessage : List ℕ → Layout
  InBlock : Option Block → Layout
  InChunks : List ℕ → Option ℕ → Layout

-- so many numbers of 4 bytes, one after another
abbrev pub short_numbers_at : List ℕ → ℕ → ℕ → List ℕ
short_numbers_at bytes at n = map (λ i. number_at bytes (at + 4 * i) 4) (range_with_len 0 n)

abbrev pub address_from : ℕ → Option ℕ
address_from n = if n == undefined_address then None else Some n

-- the bytes that the cells in a message have at most: its body has at most 65528, and these stand behind 4 of them
abbrev pub most_compact_bytes : ℕ
most_compact_bytes = 65524

-- class 0: a size and that many bytes, in which the cells have room
abbrev pub compact_layout : ℕ → List ℕ → Option Layout
compact_layout need body =
    if nat_le 4 (length body) && nat_le (4 + number_at body 2 2) (length body) && nat_le need (number_at body 2 2)
    then Some (InMessage (slice_range body 4 (4 + need))) else None

-- class 1: an address and a size; the size counts where there is an address
abbrev pub contiguous_layout : ℕ → List ℕ → Option Layout
contiguous_layout need body =
    if nat_le 18 (length body)
    then (if number_at body 2 8 == undefined_address then Some (InBlock None)
    else (if nat_le need (number_at body 10 8) then Some (InBlock (Some (block (number_at body 2 8) (number_at body 10 8)))) else None))
    else None

-- class 2: one more than the rank, the tree's address, the chunk sizes and last the size of an element
abbrev pub chunked_layout : ℕ → ℕ → List ℕ → Option Layout
chunked_layout rank size body =
    if nat_le (11 + 4 * (rank + 1)) (length body) && byte_at body 2 == rank + 1 && nat_le 1 rank
    && not (list_any (λ n. n == 0) (short_numbers_at body 11 rank)) && number_at body (11 + 4 * rank) 4 == size
    then Some (InChunks (short_numbers_at body 11 rank) (address_from (number_at body 3 8))) else None

-- what a layout message says of an array of these sizes, whose elements have so many bytes
unfoldable pub layout_of : List ℕ → ℕ → List ℕ → Option Layout
layout_of sizes size body =
    if nat_le 2 (length body) && byte_at body 0 == 3
    then (if byte_at body 1 == 0 then compact_layout (cells sizes * size) body
    else (if byte_at body 1 == 1 then contiguous_layout (cells sizes * size) body
    else (if byte_at body 1 == 2 then chunked_layout (length sizes) size body else None)))
    else None
