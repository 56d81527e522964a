-- Object headers, version 1 (File Format Specification 3.0, section IV.A.1.a), with Continuation messages (IV.A.2.q).
use Rattle.std.specs.Prelude.{◌≡◌, ℕ, ◌+◌, ◌%◌, ◌≤◌, ◌==◌, if◌then◌else◌, bit_and, List, [], ◌∷◌, ◌++◌, length, Option, IsSome, option_map}
use Rattle.std.specs.Option.{option_map_or}
use Rattle.std.specs.List.{flat_map, find, AllByRecursion}
use Rattle.h5_bytes.specs.Bytes.{number_at, byte_at, part}
use Rattle.h5_bytes.specs.Blocks.{block}
use Rattle.h5_bytes.specs.declared.Block.{Block}
use Rattle.h5_model.specs.Format.Addresses.{continuation_of}
use Rattle.h5_model.specs.Format.MessageTypes.{continuation_kind}

-- a message: its type, where its body stands in the image, and the body
pub record Message : Type 0 where
  pub kind : ℕ
  pub at : ℕ
  pub body : List ℕ

-- the message whose head of 8 bytes begins at this place of a block; flag bit 1 would say that it is shared
pub record IsMessage (block_at : ℕ) (bytes : List ℕ) (at : ℕ) (m : Message) : Type 0 where
  pub kind : m.kind ≡ number_at bytes at 2
  pub place : m.at ≡ block_at + at + 8
  pub body : m.body ≡ part (at + 8) (number_at bytes (at + 2) 2) bytes
  pub whole : at + 8 + number_at bytes (at + 2) 2 ≤ length bytes
  pub padded : number_at bytes (at + 2) 2 % 8 ≡ 0
  pub own : bit_and (byte_at bytes (at + 4)) 2 ≡ 0

-- the most messages that a header has: its prefix counts them in two bytes
abbrev pub most_messages : ℕ
most_messages = 65535

-- the most bytes of a message's body: two bytes count them, and they are a multiple of 8
abbrev pub most_body_bytes : ℕ
most_body_bytes = 65528

-- these messages fill a block's bytes, one after another from this place on
abbrev pub Fills : ℕ → List ℕ → ℕ → List Message → Type 0
Fills block_at bytes at [] = at ≡ length bytes
Fills block_at bytes at (m ∷ ms) = IsMessage block_at bytes at m × Fills block_at bytes (at + 8 + number_at bytes (at + 2) 2) ms

-- the block that a Continuation message names; other messages name none
abbrev pub continuation : Message → List Block
continuation m = if m.kind == continuation_kind then option_map_or (λ b. b ∷ []) (continuation_of m.body) [] else []

abbrev pub continuations : List Message → List Block
continuations ms = flat_map continuation ms

-- Each part fills its block: first the blocks that wait, then those that Continuations name, in the order in which they are met.
abbrev pub FillBlocks : List ℕ → List Block → List (List Message) → Type 0
FillBlocks image [] [] = Unit {0}
FillBlocks image [] (ms ∷ parts) = ⊥
FillBlocks image (b ∷ waiting) [] = ⊥
FillBlocks image (b ∷ waiting) (ms ∷ parts) =
    Fills b.at (part b.at b.len image) 0 ms × FillBlocks image (waiting ++ continuations ms) parts

-- the prefix of an object header: 16 bytes, of which 4 are padding
abbrev pub prefix_at : List ℕ → ℕ → List ℕ
prefix_at image header = part header 16 image

-- the total of messages, the reference count, and the size of the first block
abbrev pub total_in : List ℕ → ℕ
total_in prefix = number_at prefix 2 2

abbrev pub reference_count : List ℕ → ℕ
reference_count prefix = number_at prefix 4 4

abbrev pub first_size : List ℕ → ℕ
first_size prefix = number_at prefix 8 4

-- the first block of messages, behind the prefix
abbrev pub first_block : List ℕ → ℕ → Block
first_block image header = block (header + 16) (first_size (prefix_at image header))

-- a Continuation names a block
abbrev pub IsContinued : Message → Type 0
IsContinued m = m.kind ≡ continuation_kind → IsSome (continuation_of m.body)

-- The object header at this place has these messages, in these blocks. Its prefix lies with the first block.
pub record HasMessages (image : List ℕ) (header : ℕ) (messages : List Message) (blocks : List Block) : Type 0 where
  pub version : byte_at (prefix_at image header) 0 ≡ 1
  pub parts : List (List Message)
  pub filled : FillBlocks image (first_block image header ∷ []) parts
  pub all : messages ≡ flat_map (λ ms. ms) parts
  pub total : total_in (prefix_at image header) ≡ length messages
  pub continued : AllByRecursion IsContinued messages
  pub laid : blocks ≡ block header (16 + first_size (prefix_at image header)) ∷ continuations messages

-- how many messages are of this type
abbrev pub count_of : ℕ → List Message → ℕ
count_of kind [] = 0
count_of kind (m ∷ ms) = (if m.kind == kind then 1 else 0) + count_of kind ms

-- the body of the first message of this type
abbrev pub first_body : ℕ → List Message → Option (List ℕ)
first_body kind messages = option_map (λ m. m.body) (find (λ m. m.kind == kind) messages)
