-- The prefix of a header, read at its place in the image.
use Rattle.std.proofs.Common.{◌≡◌, ℕ, ◌+◌, List, length, ap, ◌∙◌, arith, lit≤}
use Rattle.h5_bytes.specs.Bytes.{number_at, byte_at}
use Rattle.h5_bytes.specs.declared.Block.{Block}
use Rattle.h5_bytes.proofs.FieldLaws.{number_at-part}
use Rattle.h5_model.specs.Format.Messages.{prefix_at, first_size, total_in, reference_count}
use Rattle.h5_model.specs.declared.open_fault.Cause.{Cause}
use Rattle.h5_model.specs.declared.open_fault.Cause.TheVariants.{Truncated, Overlap, NoMemory}
use Rattle.h5_model.proofs.BodyLaws.{byte_at-part}
use Rattle.h5_space.specs.Claimed.{ClaimBreach}
use Rattle.h5_header.specs.Refused.{header_block}
use Rattle.h5_header.specs.Progress.{PrefixBreach}

pub first_size-is : (image : List ℕ) (header : ℕ) → first_size (prefix_at image header) ≡ number_at image (header + 8) 4
first_size-is image header = number_at-part 8 4 header 16 image (lit≤ tt)

pub total-is : (image : List ℕ) (header : ℕ) → total_in (prefix_at image header) ≡ number_at image (header + 2) 2
total-is image header = number_at-part 2 2 header 16 image (lit≤ tt)

pub reference_count-is : (image : List ℕ) (header : ℕ) → reference_count (prefix_at image header) ≡ number_at image (header + 4) 4
reference_count-is image header = number_at-part 4 4 header 16 image (lit≤ tt)

pub version-is : (image : List ℕ) (header : ℕ) → byte_at (prefix_at image header) 0 ≡ byte_at image header
version-is image header = let none : header + 0 ≡ header = omega arith in byte_at-part 0 header 16 image (omega arith) ∙ ap (byte_at image) none

-- a prefix that cannot be claimed with its first block
pub prefix_breach : (image : List ℕ) (header : ℕ) (held : List Block) (cause : Cause) (address : ℕ)
    → ClaimBreach (length image) held (header_block image header) cause address → PrefixBreach image header held cause address
prefix_breach image header held Truncated address h = h
prefix_breach image header held Overlap address h = h
prefix_breach image header held NoMemory address h = tt
prefix_breach image header held _ address h = absurd h
