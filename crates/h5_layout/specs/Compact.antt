-- Where the cells of an array stand whose header has these messages, a compact one's in its Data Layout message (File Format
-- Specification 3.0, section IV.A.2.i).
use Rattle.std.specs.Prelude.{◌≡◌, ℕ, ◌+◌, ◌*◌, ◌==◌, ◌⊎◌, Option, Some, option_map, List}
use Rattle.std.specs.List.{find}
use Rattle.h5_model.specs.Format.Layout.{InMessage}
use Rattle.h5_model.specs.Format.MessageTypes.{data_layout_kind}
use Rattle.h5_model.specs.Format.Described.{Described}
use Rattle.h5_header.specs.declared.message.Message.{Message as Placed}
use Rattle.h5_layout.specs.Standing.{IsStandingAt}

-- the data of a compact layout: in the body of the first Data Layout message, behind its version, its class and the size
abbrev pub compact_at : List Placed → Option ℕ
compact_at list = option_map (λ (m : Placed). m.at + 4) (find (λ (m : Placed). m.kind == data_layout_kind) list)

-- the cells of a compact array from this place on stand one behind another, the first at this address
abbrev pub IsCompactAt : List Placed → Described → ℕ → ℕ → Type 0
IsCompactAt list a place at =
    (bytes : List ℕ) × (a.layout ≡ InMessage bytes) × ((base : ℕ) × (compact_at list ≡ Some base) × (at ≡ base + place * a.fixed.size))

-- so many cells from this place on stand one behind another, the first at this address: in the message, in a block or in a chunk
abbrev pub IsRunAt : List ℕ → List Placed → Described → ℕ → ℕ → ℕ → Type 0
IsRunAt image list a place n at = IsCompactAt list a place at ⊎ IsStandingAt image a place n at
