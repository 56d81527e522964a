-- A header that is kept of an opened image, and the object that its messages tell (File Format Specification 3.0, section IV.A.1).
use Rattle.std.specs.Prelude.{ℕ, List, map, length}
use Rattle.std.specs.List.{filter}
use Rattle.h5_bytes.specs.Blocks.{Inside}
use Rattle.h5_model.specs.Format.Messages.{Message, HasMessages}
use Rattle.h5_model.specs.Format.Reads.{HasAttributes, is_kept, kept_of}
use Rattle.h5_model.specs.Tree.Objects.{Object, Content}
use Rattle.h5_header.specs.Listed.{Listed, messages_in, IsWithin}
use Rattle.h5_attr.specs.Attributes.{HasNamesOnce, attributes_of}

-- the header stands in the image with these messages, whose bodies are there, and whose attributes can be read
pub record IsHeaderKept (image : List ℕ) (m : Listed) : Type 0 where
  pub has : HasMessages image m.header (messages_in image m.list) m.blocks
  pub inside : Inside (length image) m.blocks
  pub within : IsWithin (length image) m.list
  pub names : HasNamesOnce (messages_in image m.list)
  pub attributes : HasAttributes (messages_in image m.list) (attributes_of (messages_in image m.list))

-- an object with this content, and the attributes and kept messages of its header
abbrev pub object_with : Content → List Message → Object
object_with content ms = record { content = content; attributes = attributes_of ms; kept = map kept_of (filter is_kept ms) }
