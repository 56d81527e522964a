-- A message more in a header (File Format Specification 3.0, section IV.A.1.a).
use Rattle.std.specs.Prelude.{◌≡◌, ◌⊎◌, ℕ, ◌+◌, ◌-◌, ◌≤◌, ◌==◌, ◌&&◌, ◌||◌, Bool, IsTrue, nat_le, List, [], ◌∷◌, ◌++◌, length, sum_by}
use Rattle.std.specs.List.{AllByRecursion, list_any}
use Rattle.h5_bytes.specs.Bytes.{part, with_part}
use Rattle.h5_bytes.specs.Numbers.{short, word}
use Rattle.h5_bytes.specs.declared.Block.{Block}
use Rattle.h5_model.specs.Format.MessageTypes.{nil_kind, datatype_kind, continuation_kind, symbol_table_kind}
use Rattle.h5_model.specs.Format.Messages.{Message}
use Rattle.h5_model.specs.Format.Plain.{messages_bytes}
use Rattle.h5_header.specs.declared.message.Message.{Message as Placed}

-- a message that may move into a new block: a Symbol Table or a Datatype with the 16 bytes that count
abbrev pub is_movable : Message → Bool
is_movable m = (m.kind == symbol_table_kind || m.kind == datatype_kind) && nat_le 16 (length m.body)

abbrev pub HasMovable : List Message → Type 0
HasMovable ms = IsTrue (list_any is_movable ms)

-- the same of a message that is kept
abbrev pub may_move : Placed → Bool
may_move m = (m.kind == symbol_table_kind || m.kind == datatype_kind) && nat_le 16 m.size

-- it stands in the place of a NIL message, and what that leaves is NIL
pub record IsPutInNil (ms ms' : List Message) (kind : ℕ) (body : List ℕ) : Type 0 where
  pub front : List Message
  pub nil : Message
  pub back : List Message
  pub rest : List Message
  pub is_nil : nil.kind ≡ nil_kind
  pub left : AllByRecursion (λ m. m.kind ≡ nil_kind) rest
  pub before : ms ≡ front ++ nil ∷ back
  pub after : ms' ≡ front ++ record { kind = kind; at = nil.at; body = body } ∷ (rest ++ back)

-- It stands in a new block, behind a Symbol Table or a Datatype that has moved there, with the 16 bytes of its body that count. Where
-- that stood a Continuation names the block, which is met behind blocks that were named before.
pub record IsPutInBlock (ms ms' : List Message) (kind : ℕ) (body : List ℕ) : Type 0 where
  pub front : List Message
  pub moved : Message
  pub middle : List Message
  pub back : List Message
  pub place : ℕ
  pub named : Message
  pub may_move : (moved.kind ≡ symbol_table_kind) ⊎ (moved.kind ≡ datatype_kind)
  pub wide : 16 ≤ length moved.body
  pub names : named.kind ≡ continuation_kind
  pub before : ms ≡ front ++ moved ∷ (middle ++ back)
  pub after : ms' ≡ front ++ named ∷ (middle ++ (record { kind = moved.kind; at = place + 8; body = part 0 16 moved.body }
      ∷ record { kind = kind; at = place + 32; body = body } ∷ back))

-- the header has a message more, of this type and body
abbrev pub AddsMessage : List Message → List Message → ℕ → List ℕ → Type 0
AddsMessage ms ms' kind body = IsPutInNil ms ms' kind body ⊎ IsPutInBlock ms ms' kind body

-- the bytes of messages with their heads, and those of blocks
abbrev pub spans : List Placed → ℕ
spans ms = sum_by (λ m. 8 + m.size) ms

abbrev pub lengths : List Block → ℕ
lengths bs = sum_by (λ b. b.len) bs

-- an image with a message in a block, behind one that has moved there with these first bytes of its body: where that stood a
-- Continuation names the block
abbrev pub named_in : Placed → List ℕ → Block → ℕ → List ℕ → List ℕ → List ℕ
named_in moved first b kind body image = with_part (moved.at - 8) (short 16) (with_part moved.at (word b.at ++ word b.len)
    (with_part b.at (messages_bytes ((moved.kind, first) ∷ (kind, body) ∷ [])) image))
