-- The tree that an opened image holds, by what is kept of its objects (File Format Specification 3.0, section IV.A).
use Rattle.std.specs.Prelude.{◌≡◌, ℕ, ◌+◌, ◌==◌, if◌then◌else◌, Option, Some, None, option_map, List, [], ◌∷◌, ◌++◌, map}
use Rattle.std.specs.Ordering.{nat_cmp}
use Rattle.std.specs.FinMap.{FinMap, entries, from_entries}
use Rattle.std.specs.List.{filter_map, flat_map}
use Rattle.h5_bytes.specs.Blocks.{block}
use Rattle.h5_bytes.specs.declared.Block.{Block}
pub use Rattle.h5_laws.specs.Numbered.{numbered_from}
use Rattle.h5_model.specs.Format.Messages.{Message}
use Rattle.h5_model.specs.Format.Superblock.{superblock_length}
use Rattle.h5_model.specs.Format.Symbols.{Target, Header, Text}
use Rattle.h5_model.specs.Tree.Objects.{Tree, Object, Content, Group, Array, Link, Links, ToObject, Soft}
use Rattle.h5_header.specs.Listed.{messages_in}
use Rattle.h5_layout.specs.Data.{data_blocks, dataset_told}
use Rattle.h5_layout.specs.Told.{array_told, layout_told, type_told}
use Rattle.h5_group.specs.Told.{links_told, blocks_told}
use Rattle.h5_open.specs.declared.opened.object.OpenedObject.{OpenedObject}
use Rattle.h5_open.specs.declared.opened.object.OpenedContent.{OpenedContent}
use Rattle.h5_open.specs.declared.opened.object.OpenedContent.TheVariants as content
use Rattle.h5_open.specs.Opened.Headers.{object_with}

-- ---- numbers

-- There is a slot for each number that was given out, with the object that has it. A slot whose object is no more stays empty.
abbrev pub objects_of : List (Option OpenedObject) → List OpenedObject
objects_of slots = filter_map (λ o. o) slots

-- what the slots have, by their numbers, from n on
abbrev pub numbered_objects : {X : Type 0} → ℕ → List (Option X) → List (ℕ × X)
numbered_objects n [] = []
numbered_objects n (None ∷ slots) = numbered_objects (n + 1) slots
numbered_objects n (Some x ∷ slots) = (n, x) ∷ numbered_objects (n + 1) slots

-- a slot for each of these objects, in their order
abbrev pub slots_of : List OpenedObject → List (Option OpenedObject)
slots_of objects = map (λ o. Some o) objects

-- no slot is empty
abbrev pub IsDense : List (Option OpenedObject) → Type 0
IsDense slots = slots ≡ slots_of (objects_of slots)

-- ---- headers

abbrev pub header_of : OpenedObject → ℕ
header_of o = o.messages.header

-- where the headers stand
abbrev pub headers : List OpenedObject → List ℕ
headers objects = map header_of objects

-- each object's header by its number
abbrev pub table_of : List (Option OpenedObject) → FinMap nat_cmp ℕ
table_of slots = from_entries (numbered_objects 0 (map (option_map header_of) slots))

-- the number of the object whose header stands at this address: the first in the table that has it
abbrev pub number_by : List (ℕ × ℕ) → ℕ → ℕ
number_by [] header = 0
number_by ((n, h) ∷ others) header = if h == header then n else number_by others header

abbrev pub number_in : FinMap nat_cmp ℕ → ℕ → ℕ
number_in table header = number_by (entries table) header

-- ---- objects

-- the links that the file has, and those of the tree
abbrev pub content_links : List ℕ → OpenedContent → List (List ℕ × Target)
content_links image (content.Group table) = links_told image table
content_links image content.Array = []

abbrev pub link_to : FinMap nat_cmp ℕ → Target → Link
link_to table (Header header) = ToObject (number_in table header)
link_to table (Text text) = Soft text

abbrev pub links_by : FinMap nat_cmp ℕ → List (List ℕ × Target) → Links
links_by table found = from_entries (map (λ (l : List ℕ × Target). (l.0, link_to table l.1)) found)

-- a group with these links, whose headers the table has; or the array that the messages tell
abbrev pub content_in : List ℕ → FinMap nat_cmp ℕ → List Message → OpenedContent → Content
content_in image table ms (content.Group group) = Group (links_by table (links_told image group))
content_in image table ms content.Array = Array (dataset_told image (array_told ms))

abbrev pub object_in : List ℕ → FinMap nat_cmp ℕ → OpenedObject → Object
object_in image table o =
    object_with (content_in image table (messages_in image o.messages.list) o.content) (messages_in image o.messages.list)

-- the blocks of what an object is, and all of its own blocks
abbrev pub content_blocks : List ℕ → List Message → OpenedContent → List Block
content_blocks image ms (content.Group table) = blocks_told image table
content_blocks image ms content.Array = data_blocks image (type_told ms) (layout_told ms)

abbrev pub object_blocks : List ℕ → OpenedObject → List Block
object_blocks image o = o.messages.blocks ++ content_blocks image (messages_in image o.messages.list) o.content

-- ---- the image

-- the superblock's block, and those of the objects
abbrev pub opened_blocks : List ℕ → List OpenedObject → List Block
opened_blocks image objects = block 0 (superblock_length image) ∷ flat_map (object_blocks image) objects

-- the objects by their numbers
abbrev pub tree_of : List ℕ → List (Option OpenedObject) → Tree
tree_of image slots = from_entries (numbered_objects 0 (map (option_map (object_in image (table_of slots))) slots))
