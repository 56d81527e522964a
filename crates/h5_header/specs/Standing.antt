-- A header as it stands in an image, with the messages that are kept of it (File Format Specification 3.0, section IV.A.1.a).
use Rattle.std.specs.Prelude.{ℕ, ◌+◌, ◌-◌, nat_lt, if◌then◌else◌, List, length, drop, slice_set, slice_index_or, [], ◌∷◌}
use Rattle.h5_bytes.specs.Blocks.{Separate, Inside}
use Rattle.h5_model.specs.Format.MessageTypes.{nil_kind}
use Rattle.h5_model.specs.Format.Messages.{Message, HasMessages}
use Rattle.h5_header.specs.Listed.{Listed, messages_in, IsWithin}
use Rattle.h5_header.specs.declared.message.Message.{Message as Placed}

-- the header stands in the image with the messages that are kept of it
pub record IsStanding (image : List ℕ) (m : Listed) : Type 0 where
  pub has : HasMessages image m.header (messages_in image m.list) m.blocks
  pub inside : Inside (length image) m.blocks
  pub within : IsWithin (length image) m.list
  pub separate : Separate m.blocks

abbrev pub nowhere : Placed
nowhere = record { kind = nil_kind; at = 0; size = 0 }

-- message k of those that are kept
abbrev pub kept_at : List Placed → ℕ → Placed
kept_at list k = slice_index_or list k nowhere

abbrev pub none : Message
none = record { kind = nil_kind; at = 0; body = [] }

-- one message less: it is NIL from now on
abbrev pub with_nil : List Message → ℕ → List Message
with_nil ms k = slice_set ms k (record (slice_index_or ms k none) { kind = nil_kind })

-- the messages with another body for one of them
abbrev pub with_body : List Message → ℕ → List ℕ → List Message
with_body ms k body = slice_set ms k (record (slice_index_or ms k none) { body = body })

-- a message of so many bytes in the place of another, and the NIL message that is left behind it
abbrev pub kept_with_nil : ℕ → ℕ → Placed → List Placed
kept_with_nil kind size m = record { kind = kind; at = m.at; size = size }
    ∷ (if nat_lt size m.size then record { kind = nil_kind; at = m.at + size + 8; size = m.size - size - 8 } ∷ [] else [])

-- what these messages say, in bytes: one of this type and body, and the NIL message that is left, whose body keeps its bytes
abbrev pub said_in : ℕ → List ℕ → List ℕ → List (ℕ × List ℕ)
said_in kind body bytes = (kind, body) ∷ (if nat_lt (8 + length body) (length bytes) then (nil_kind, drop 8 (drop (8 + length body) bytes)) ∷ [] else [])
