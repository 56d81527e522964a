-- What the bodies of messages say, and what is read in a part.
use Rattle.std.proofs.Common.{◌≡◌, ℕ, ◌+◌, ◌<◌, ◌≤◌, List, length, drop, refl, ◌∙◌, arith, Some, None, Bool, true, false}
use Rattle.std.specs.Prelude.{◌&&◌, nat_le, if◌then◌else◌, slice_range}
use Rattle.std.proofs.lemmas.List.{get_or-take, get_or-drop}
use Rattle.std.proofs.lemmas.Option.{same_Some}
use Rattle.std.proofs.lemmas.Bool.Decides.{nat_tests}
use Rattle.h5_bytes.specs.Bytes.{byte_at, number_at, part}
use Rattle.h5_bytes.specs.Blocks.{block}
use Rattle.h5_bytes.specs.declared.Block.{Block}
use Rattle.h5_model.specs.Format.Addresses.{continuation_of}
use Rattle.h5_model.specs.Format.Layout.{InMessage, InBlock, compact_layout}

-- a byte of a part
pub byte_at-part : (k at len : ℕ) (bytes : List ℕ) → k < len → byte_at (part at len bytes) k ≡ byte_at bytes (at + k)
unfolding part
byte_at-part k at len bytes low = get_or-take len (drop at bytes) k 0 low ∙ get_or-drop at bytes k 0

-- a Continuation that names a block has 16 bytes, the address and the size
pub long_body : (body : List ℕ) (b : Block) → continuation_of body ≡ Some b → (16 ≤ length body) × (b ≡ block (number_at body 0 8) (number_at body 8 8))
unfolding continuation_of
long_body body b is = go (nat_le 16 (length body)) refl is where
  go : (t : Bool) → nat_le 16 (length body) ≡ t → (if t then Some (block (number_at body 0 8) (number_at body 8 8)) else None) ≡ Some b
      → (16 ≤ length body) × (b ≡ block (number_at body 0 8) (number_at body 8 8))
  go true holds named = (grind (arith, nat_tests, holds), cc)
  go false holds named = cc

-- a compact layout names no block
pub no_compact : (need : ℕ) (body : List ℕ) (b : Block) → compact_layout need body ≡ Some (InBlock (Some b)) → ⊥
no_compact need body b is = go (nat_le 4 (length body) && nat_le (4 + number_at body 2 2) (length body) && nat_le need (number_at body 2 2)) is where
  go : (x : Bool) → (if x then Some (InMessage (slice_range body 4 (4 + need))) else None) ≡ Some (InBlock (Some b)) → ⊥
  go true e = let no : InMessage (slice_range body 4 (4 + need)) ≡ InBlock (Some b) = same_Some (InMessage (slice_range body 4 (4 + need))) (InBlock (Some b)) e in cc
  go false e = cc
