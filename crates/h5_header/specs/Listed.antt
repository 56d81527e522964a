-- Messages of an object header as places of the image, beside those of the definition (File Format Specification 3.0, section
-- IV.A.1.a).
use Rattle.std.specs.Prelude.{ℕ, ◌+◌, ◌≤◌, List, map}
use Rattle.std.specs.List.{AllByRecursion}
use Rattle.h5_bytes.specs.Bytes.{part}
use Rattle.h5_bytes.specs.declared.Block.{Block}
use Rattle.h5_model.specs.Format.Messages.{Message}
use Rattle.h5_header.specs.declared.message.Message.{Message as Placed}

-- what is kept of a header: its address, its messages in order, and the blocks in which they stand, its own first
pub record Listed : Type 0 where
  pub header : ℕ
  pub list : List Placed
  pub blocks : List Block
  -- for how many messages more there is room without memory
  pub room : ℕ

-- the message whose body stands at a place of the image
abbrev pub message_in : List ℕ → Placed → Message
message_in image m = record { kind = m.kind; at = m.at; body = part m.at m.size image }

abbrev pub messages_in : List ℕ → List Placed → List Message
messages_in image ms = map (message_in image) ms

-- the bodies of these messages lie below an end
abbrev pub IsWithin : ℕ → List Placed → Type 0
IsWithin end ms = AllByRecursion (λ m. m.at + m.size ≤ end) ms

-- a header in its image: the image's bytes, where the header begins, and its messages, by their places and with their bodies
pub record HeaderIn : Type 0 where
  pub image : List ℕ
  pub address : ℕ
  pub list : List Placed
  pub messages : List Message

abbrev pub header_told : List ℕ → Listed → HeaderIn
header_told image m = record { image = image; address = m.header; list = m.list; messages = messages_in image m.list }
