-- What an image is after a part of it was lent for writing.
use Rattle.std.specs.Prelude.{ℕ, ◌+◌, ◌-◌, ◌≤◌, List, ◌++◌, Option, if◌then◌else◌, nat_le}
use Rattle.std.specs.Borrow.{Lends, LendsIf, LendsBoth, LendsBothIf, MutBor, Fml, u8, Array}
use Rattle.h5_bytes.specs.Bytes.{part, with_part}
use Rattle.h5_bytes.specs.Blocks.{holds}
use Rattle.h5_bytes.specs.declared.Block.{Block}
use Rattle.h5_space.specs.Space.{Space}
use Rattle.h5_space.specs.contracts.image.Image.{the_row}

-- the image with its bytes from place at replaced
abbrev pub with_bytes_at : Space → ℕ → List ℕ → Space
with_bytes_at s at new = record s { bytes = with_part at new s.bytes }

-- the image ends with the bytes from place at set to what the borrower leaves, and is else as it was
abbrev pub LendsPart : MutBor Space → ℕ → MutBor (List ℕ) → Fml
LendsPart s at r = Lends the_row (Array u8 0) s r (with_bytes_at s.now at)

-- the same where the part is in the image; else the image stays as it is
abbrev pub LendsPartIf : MutBor Space → ℕ → Option (MutBor (List ℕ)) → Fml
LendsPartIf s at r = LendsIf the_row (Array u8 0) s r (with_bytes_at s.now at) s.now

-- the image with x from place at, and with y behind the gap bytes that stand behind the len bytes there
abbrev pub with_bytes_around : Space → ℕ → ℕ → ℕ → List ℕ → List ℕ → Space
with_bytes_around s at len gap x y = with_bytes_at s at (x ++ (part (at + len) gap s.bytes ++ y))

abbrev pub LendsAround : MutBor Space → ℕ → ℕ → ℕ → MutBor (List ℕ) × MutBor (List ℕ) → Fml
LendsAround s at len gap r = LendsBoth the_row (Array u8 0) (Array u8 0) s r (with_bytes_around s.now at len gap)

-- two blocks end by this end, and share no byte
abbrev pub StandApart : ℕ → ℕ → ℕ → ℕ → ℕ → Type 0
StandApart at len other size end = (at + len ≤ end) × (other + size ≤ end) × ((p : ℕ) → holds p at len + holds p other size ≤ 1)

-- how many bytes stand between two blocks that share none
abbrev pub gap : ℕ → ℕ → ℕ → ℕ → ℕ
gap at len other size = if nat_le at other then other - (at + len) else at - (other + size)

-- the image with the bytes of two blocks replaced
abbrev pub with_two_parts : Space → Block → Block → List ℕ → List ℕ → Space
with_two_parts s first second x y = if nat_le first.at second.at
    then with_bytes_around s first.at first.len (gap first.at first.len second.at second.len) x y
    else with_bytes_around s second.at second.len (gap first.at first.len second.at second.len) y x

abbrev pub LendsTwoPartsIf : MutBor Space → Block → Block → Option (MutBor (List ℕ) × MutBor (List ℕ)) → Fml
LendsTwoPartsIf s first second r = LendsBothIf the_row (Array u8 0) (Array u8 0) s r (with_two_parts s.now first second) s.now
