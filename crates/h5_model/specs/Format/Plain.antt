-- The plain layout: the bytes of each structure as an image that is written anew has them (File Format Specification 3.0, sections
-- II.A, III and IV.A). Its blocks follow each other without gaps.
use Rattle.std.specs.Prelude.{ℕ, ◌-◌, nat_le, if◌then◌else◌, ℤ, Option, Some, None, is_some, List, [], ◌∷◌, ◌++◌, length, replicate}
use Rattle.std.specs.List.{flat_map}
use Rattle.h5_bytes.specs.Bytes.{undefined_address}
use Rattle.h5_bytes.specs.Numbers.{short, middle, word, zeros}
use Rattle.h5_model.specs.Format.Superblock.{signature, length_with}
use Rattle.h5_model.specs.Format.Heap.{heap_signature}
use Rattle.h5_model.specs.Format.Nodes.{Kind, node_signature, node_length}
use Rattle.h5_model.specs.Format.Fixed.{Fixed, bytes_of}
use Rattle.h5_model.specs.Format.Sizes.{text_span}
use Rattle.h5_model.specs.declared.k_values.KValues.{KValues}

-- bytes with zeros behind them, so many in all
abbrev pub with_zeros : List ℕ → ℕ → List ℕ
with_zeros bytes n = bytes ++ replicate (n - length bytes) 0

-- the version, and the field of chunk K, which is there in version 1
abbrev pub version_of : Option ℕ → ℕ
version_of chunk = if is_some chunk then 1 else 0

abbrev pub chunk_k_bytes : Option ℕ → List ℕ
chunk_k_bytes None = []
chunk_k_bytes (Some k) = short k ++ zeros 2

abbrev pub plain_superblock_length : KValues → ℕ
plain_superblock_length k = length_with (is_some k.chunk)

-- the version, versions 0, sizes of 8 bytes, the K values, base address 0, and the root entry with its tree and heap
abbrev pub superblock_bytes : KValues → ℕ → ℕ → ℕ → ℕ → List ℕ
superblock_bytes k end root tree heap =
    signature ++ (version_of k.chunk ∷ (zeros 4 ++ (8 ∷ 8 ∷ 0 ∷ (short k.leaf ++ (short k.internal ++ (zeros 4 ++ (chunk_k_bytes k.chunk
    ++ (zeros 8 ++ (word undefined_address ++ (word end ++ (word undefined_address ++ (word 0 ++ (word root ++ (word 1 ++ (word tree ++ word heap)))))))))))))))

-- ---- headers

-- a message: its type, and a body of a multiple of 8 bytes
abbrev pub message_bytes : (ℕ × List ℕ) → List ℕ
message_bytes m = short m.0 ++ (short (length m.1) ++ (zeros 4 ++ m.1))

abbrev pub messages_bytes : List (ℕ × List ℕ) → List ℕ
messages_bytes ms = flat_map message_bytes ms

-- a header of this reference count, with all its messages in one block
abbrev pub header_bytes : ℕ → List (ℕ × List ℕ) → List ℕ
header_bytes count ms = 1 ∷ 0 ∷ (short (length ms) ++ (middle count ++ (middle (length (messages_bytes ms)) ++ (zeros 4 ++ messages_bytes ms))))

-- ---- groups

-- key 0, child 0, key 1, .., the last key
abbrev pub keys_and_children : List (List ℕ) → List ℕ → List ℕ
keys_and_children [] children = []
keys_and_children (key ∷ keys) [] = key
keys_and_children (key ∷ keys) (child ∷ children) = key ++ (word child ++ keys_and_children keys children)

abbrev pub node_bytes_of : Kind → ℕ → ℕ → ℕ → List (List ℕ) → List ℕ → List ℕ
node_bytes_of kind level left right keys children = with_zeros
    (node_signature ++ (kind.type_byte ∷ level ∷ (short (length children) ++ (word left ++ (word right ++ keys_and_children keys children)))))
    (node_length kind)

abbrev pub heap_header_bytes : ℕ → ℕ → ℕ → List ℕ
heap_header_bytes size head segment = heap_signature ++ (zeros 4 ++ (word size ++ (word head ++ word segment)))

-- a text with its zero, padded
abbrev pub padded_text : List ℕ → List ℕ
padded_text text = text ++ zeros (text_span text - length text)

-- the empty name, and then these texts
abbrev pub texts_bytes : List (List ℕ) → List ℕ
texts_bytes texts = zeros 8 ++ flat_map padded_text texts

-- a segment has 88 bytes, with a free block at the end, where at most 72 are used
abbrev pub segment_with : List ℕ → List ℕ
segment_with used = if nat_le (length used) 72 then used ++ (word 1 ++ (word (88 - length used) ++ zeros (72 - length used))) else used

abbrev pub segment_bytes : List (List ℕ) → List ℕ
segment_bytes texts = segment_with (texts_bytes texts)

abbrev pub head_of : List ℕ → ℕ
head_of used = if nat_le (length used) 72 then length used else 1

abbrev pub free_head_of : List (List ℕ) → ℕ
free_head_of texts = head_of (texts_bytes texts)

-- ---- arrays

-- the bytes of cells, one after another
abbrev pub cells_bytes : Fixed → List ℤ → List ℕ
cells_bytes t cells = flat_map (bytes_of t) cells
