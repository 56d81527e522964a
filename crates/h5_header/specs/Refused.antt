-- Why an object header is refused, and at which address (File Format Specification 3.0, section IV.A.1.a).
use Rattle.std.specs.Prelude.{◌≡◌, ◌≢◌, ℕ, ◌+◌, ◌<◌, ◌≤◌, ◌⊎◌, IsTrue, List, [], ◌∷◌, length}
use Rattle.std.specs.List.{AllByRecursion}
use Rattle.h5_bytes.specs.Bytes.{number_at}
use Rattle.h5_bytes.specs.Blocks.{block, cover, Inside}
use Rattle.h5_bytes.specs.declared.Block.{Block}
use Rattle.h5_model.specs.Format.MessageTypes.{continuation_kind}
use Rattle.h5_model.specs.Format.Messages.{Message, HasMessages, prefix_at, first_size}
use Rattle.h5_model.specs.Format.Reached.{FittingAt, kind_at, size_at}
use Rattle.h5_model.specs.Faults.HeaderFaults.{HeaderBreach}
use Rattle.h5_model.specs.declared.open_fault.Cause.{Cause}
use Rattle.h5_model.specs.declared.open_fault.Cause.TheVariants.{Truncated, Overlap, NoMemory}
use Rattle.h5_space.specs.Claimed.{Shares}
use Rattle.h5_header.specs.Heads.{is_read}

-- the block of a header: its prefix with the first block of messages
abbrev pub header_block : List ℕ → ℕ → Block
header_block image header = block header (16 + first_size (prefix_at image header))

-- a Continuation message at this place of a header names the block; its address and length lie in the image
pub record NamesBlock (image : List ℕ) (header at : ℕ) (b : Block) : Type 0 where
  pub fits : FittingAt image header at
  pub kind : kind_at image at ≡ continuation_kind
  pub long : 16 ≤ size_at image at
  pub there : at + 24 ≤ length image
  pub named : b ≡ block (number_at image (at + 8) 8) (number_at image (at + 16) 8)

-- the header's own block, or one that a Continuation names
abbrev pub IsBlockOf : List ℕ → ℕ → Block → Type 0
IsBlockOf image header b = (b ≡ header_block image header) ⊎ ((at : ℕ) × NamesBlock image header at b)

-- a byte of the block that is named at a place was claimed before, or is of the header's own block, or of one that is named elsewhere
abbrev pub Crosses : List ℕ → ℕ → List Block → ℕ → Block → Type 0
Crosses image header held at b = Shares held b.at b.len
    ⊎ (Shares (header_block image header ∷ []) b.at b.len
    ⊎ ((other : ℕ) × (c : Block) × (other ≢ at) × NamesBlock image header other c × Shares (c ∷ []) b.at b.len))

-- The cause holds of the header or of one of its blocks, and the address is that block's. A message that names a block stands in none
-- that was claimed before; a header of which a rule is broken has its prefix in the image.
abbrev pub IsHeaderRefused : List ℕ → ℕ → List Block → Cause → ℕ → Type 0
IsHeaderRefused image header held Truncated address = (b : Block) × IsBlockOf image header b × (address ≡ b.at) × (length image < b.at + b.len)
IsHeaderRefused image header held Overlap address = ((address ≡ header) × Shares held header (16 + first_size (prefix_at image header)))
    ⊎ ((at : ℕ) × (b : Block) × NamesBlock image header at b × (address ≡ b.at) × (cover at held ≡ 0) × Crosses image header held at b)
IsHeaderRefused image header held NoMemory address = Unit {0}
IsHeaderRefused image header held cause address = (address ≡ header) × (header + 16 ≤ length image) × HeaderBreach image header cause

-- the header has messages of types that are read, in blocks that lie in the image and share no byte with each other or with those
-- that were claimed before
pub record IsHeaderReadable (image : List ℕ) (header : ℕ) (held : List Block) : Type 0 where
  pub messages : List Message
  pub blocks : List Block
  pub has : HasMessages image header messages blocks
  pub read : AllByRecursion (λ m. IsTrue (is_read m.kind)) messages
  pub inside : Inside (length image) blocks
  pub separate : (p : ℕ) → cover p held + cover p blocks ≤ 1
