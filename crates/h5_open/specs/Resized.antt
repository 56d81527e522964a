-- An array of an opened image that was given other sizes (File Format Specification 3.0, sections III.A.1, IV.A.1.a and IV.A.2.b).
use Rattle.std.specs.Prelude.{◌≡◌, ℕ, ◌+◌, ◌*◌, ◌&&◌, Bool, true, false, nat_lt, if◌then◌else◌, Option, Some, None, List, length}
use Rattle.h5_bytes.specs.declared.Block.{Block}
use Rattle.h5_model.specs.Format.Messages.{Message, HasMessages, most_messages}
use Rattle.h5_model.specs.Format.Described.{Described}
use Rattle.h5_space.specs.Space.{Space}
use Rattle.h5_header.specs.Listed.{Listed, messages_in}
use Rattle.h5_open.specs.declared.opened.object.OpenedObject.{OpenedObject}
use Rattle.h5_layout.specs.Extents.{lacks_maxima}
use Rattle.h5_layout.specs.Resized.{IsArrayResized}
use Rattle.h5_layout.specs.Trimmed.{IsTrimmed}
use Rattle.h5_open.specs.Opened.State.{FileState}
use Rattle.h5_open.specs.Written.{IsArrayThere}

-- whether the header that stands there, if one does, has a Dataspace message without maxima
abbrev pub LacksMaxima : List ℕ → Option ℕ → Bool → Type 0
LacksMaxima image None lacks = lacks ≡ false
LacksMaxima image (Some header) lacks =
    (messages : List Message) × (blocks : List Block) × HasMessages image header messages blocks × (lacks ≡ lacks_maxima messages)

-- how many bytes a Dataspace message with maxima may take that is new
abbrev pub extent_bytes : Bool → List ℕ → ℕ
extent_bytes lacks sizes = if lacks then 40 + 16 * length sizes else 0

-- The array of this number stores nothing outside its sizes: each stored chunk holds one of its cells, and each cell of a chunk that is
-- outside of them is the fill.
abbrev pub IsArrayTrimmed : FileState → ℕ → Type 0
IsArrayTrimmed f number = (a : Described) → IsArrayThere f number a → IsTrimmed f.image a a.sizes

-- The object has these sizes now: of its header with room for any number of messages more, and of an image with any room, an array was
-- made that has them. Nothing is stored outside of them, and that is known.
pub record IsObjectResized (old new : Space) (o o' : OpenedObject) (sizes : List ℕ) : Type 0 where
  pub ready : Space
  pub image : ready ≡ record old { room_bytes = ready.room_bytes; room_blocks = ready.room_blocks }
  pub room : ℕ
  pub resized : IsArrayResized ready new (record o.messages { room = room }) o'.messages sizes
  pub content : o'.content ≡ o.content
  pub known : o'.tidy ≡ true

-- a new Dataspace message is needed, and the header's total of messages has no place for it
abbrev pub has_no_place : List ℕ → Listed → Bool
has_no_place image m = lacks_maxima (messages_in image m.list) && nat_lt most_messages (length m.list + 2)
