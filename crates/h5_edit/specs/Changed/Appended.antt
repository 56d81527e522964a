-- Messages that are appended to those that are to be written behind an object's content (File Format Specification 3.0, section
-- IV.A.2).
use Rattle.std.specs.Prelude.{◌≡◌, ℕ, ◌+◌, ◌≤◌, List, ◌++◌, map, length}
use Rattle.std.specs.List.{filter}
use Rattle.h5_model.specs.Format.Messages.{Message, most_messages}
use Rattle.h5_model.specs.Format.Reads.{is_kept, kept_of}
use Rattle.h5_model.specs.Tree.Objects.{Attribute, Kept}
use Rattle.h5_repack.specs.Bodies.Bodies.{kept_message, attribute_message}
use Rattle.h5_repack.specs.Blocks.Others.{OthersBytes}
use Rattle.h5_repack.specs.Blocks.Written.{AreOthers}

-- these messages were appended
abbrev pub Appends : OthersBytes → OthersBytes → List (ℕ × List ℕ) → Type 0
Appends old new ms = (before : List (ℕ × List ℕ)) → AreOthers before old → AreOthers (before ++ ms) new

-- so many more messages can be counted
pub record HasPlaces (o : OthersBytes) (more : ℕ) : Type 0 where
  pub begun : List (ℕ × List ℕ)
  pub are : AreOthers begun o
  pub few : length begun + more ≤ most_messages

-- the kept messages of a header
abbrev pub kept_in : List Message → List Kept
kept_in ms = map kept_of (filter is_kept ms)

abbrev pub kept_messages : List Message → List (ℕ × List ℕ)
kept_messages ms = map kept_message (kept_in ms)

-- attributes by their names
abbrev pub NamedAttributes : Type 0
NamedAttributes = List (List ℕ × Attribute)

abbrev pub attribute_messages : NamedAttributes → List (ℕ × List ℕ)
attribute_messages es = map attribute_message es

-- Of these messages some were appended, and the rest are to come.
pub record IsPushing (old now : OthersBytes) (rest all : List (ℕ × List ℕ)) : Type 0 where
  pub pushed : List (ℕ × List ℕ)
  pub split : all ≡ pushed ++ rest
  pub appended : Appends old now pushed
