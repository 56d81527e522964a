-- What is known of an opened image: what is kept of its objects tells all that it holds (File Format Specification 3.0, section
-- IV.A).
use Rattle.std.specs.Prelude.{◌≡◌, ℕ, ◌≤◌, IsTrue, true, Option, Some, List, length, MatchOption, option_and_then}
use Rattle.std.specs.List.{AllByRecursion}
use Rattle.std.specs.Ordering.{nat_cmp}
use Rattle.std.specs.BTreeMap.{BTreeMap, get as lookup}
use Rattle.std.specs.FinMap.{FinMap, get}
use Rattle.h5_model.specs.Format.Limits.{most_numbers}
use Rattle.h5_model.specs.Edits.Refusal.{is_chunked}
use Rattle.h5_model.specs.Format.Addresses.{symbol_table_of}
use Rattle.h5_model.specs.Format.MessageTypes.{symbol_table_kind}
use Rattle.h5_model.specs.Format.Messages.{Message, first_body}
use Rattle.h5_model.specs.Format.Reads.{Reads}
use Rattle.h5_model.specs.Format.Described.{storage_of, Described}
use Rattle.h5_space.specs.Space.{Space}
use Rattle.h5_space.specs.Whole.{IsApart}
use Rattle.h5_header.specs.Heads.{is_read}
use Rattle.h5_header.specs.Kinds.{IsOfGroup}
use Rattle.h5_header.specs.Listed.{messages_in}
use Rattle.h5_group.specs.Exact.{HasExactKeys}
use Rattle.h5_group.specs.Links.{IsGroupRead}
use Rattle.h5_layout.specs.Data.{AreDataRead}
use Rattle.h5_layout.specs.Told.{array_told, layout_told, type_told}
use Rattle.h5_layout.specs.Trimmed.{IsTrimmed}
use Rattle.h5_open.specs.declared.opened.object.OpenedObject.{OpenedObject}
use Rattle.h5_open.specs.declared.opened.object.OpenedContent.{OpenedContent}
use Rattle.h5_open.specs.declared.opened.object.OpenedContent.TheVariants as content
use Rattle.h5_open.specs.Opened.Headers.{IsHeaderKept}
use Rattle.h5_open.specs.Opened.Judged.{IsArrayList}
use Rattle.h5_open.specs.Opened.Objects.{objects_of, opened_blocks, table_of, tree_of}

-- the messages are those of this group, which stands in the image; or those of an array, whose data do
abbrev pub IsContentKept : List ℕ → List Message → OpenedContent → Type 0
IsContentKept image ms (content.Group table) =
    IsOfGroup ms × (option_and_then symbol_table_of (first_body symbol_table_kind ms) ≡ Some table) × IsGroupRead image table
IsContentKept image ms content.Array = IsArrayList ms × AreDataRead image (type_told ms) (layout_told ms)

-- an array in chunks stores nothing outside its sizes
abbrev pub AreChunksTrimmed : List ℕ → Described → Type 0
AreChunksTrimmed image a = is_chunked (storage_of a.sizes a.layout) ≡ true → IsTrimmed image a a.sizes

-- so does an array that is tidy; and a group that is tidy has exact keys
abbrev pub IsContentTidy : List ℕ → List Message → OpenedContent → Type 0
IsContentTidy image ms (content.Group table) = HasExactKeys image table
IsContentTidy image ms content.Array = AreChunksTrimmed image (array_told ms)

-- the object stands in the image
pub record IsObjectKept (image : List ℕ) (o : OpenedObject) : Type 0 where
  pub header : IsHeaderKept image o.messages
  pub known : AllByRecursion (λ x. IsTrue (is_read x.kind)) o.messages.list
  pub content : IsContentKept image (messages_in image o.messages.list) o.content
  pub tidy : o.tidy ≡ true → IsContentTidy image (messages_in image o.messages.list) o.content

-- each header of the table has the number under which it stands there
abbrev pub IsIndex : FinMap nat_cmp ℕ → BTreeMap ℕ ℕ → Type 0
IsIndex table numbers = (header : ℕ) → MatchOption (lookup nat_cmp numbers header)
    ((number : ℕ) → get table number ≡ Some header → ⊥) (λ number. get table number ≡ Some header)

-- The image reads as the tree that is told by what is kept of its objects, and no free block shares a byte with one of theirs.
pub record IsOpened (image : Space) (slots : List (Option OpenedObject)) (numbers : BTreeMap ℕ ℕ) : Type 0 where
  pub reads : Reads image.bytes (table_of slots) (tree_of image.bytes slots)
  pub each : AllByRecursion (IsObjectKept image.bytes) (objects_of slots)
  pub index : IsIndex (table_of slots) numbers
  pub low : length slots ≤ most_numbers
  pub apart : IsApart (opened_blocks image.bytes (objects_of slots)) image.free (length image.bytes)
