-- An object that is added to an opened image where it stands: its bytes, and what they have to be at the place where they will stand (File
-- Format Specification 3.0, sections III.A.1, III.D and IV.A).
use Rattle.std.specs.Prelude.{◌≡◌, ℕ, ◌+◌, ◌≤◌, IsTrue, true, List, [], ◌∷◌, ◌++◌, ⊤, length, replicate}
use Rattle.std.specs.Ordering.{nat_cmp}
use Rattle.std.specs.FinMap.{FinMap, insert}
use Rattle.std.specs.List.{AllByRecursion}
use Rattle.h5_model.specs.Format.Limits.{most_bytes}
use Rattle.h5_bytes.specs.Blocks.{Run, block}
use Rattle.h5_bytes.specs.Bytes.{part}
use Rattle.h5_model.specs.Format.Fixed.{fits}
use Rattle.h5_model.specs.Format.Messages.{Message, prefix_at, reference_count}
use Rattle.h5_model.specs.Format.Plain.{cells_bytes}
use Rattle.h5_model.specs.Format.Reads.{HasAttributes}
use Rattle.h5_model.specs.Format.Addresses.{SymbolTable}
use Rattle.h5_model.specs.Format.Superblock.{leaf_k, internal_k, k_values, end_of_file, end_field}
use Rattle.h5_model.specs.Format.Symbols.{Header}
use Rattle.h5_model.specs.Tree.Objects.{Content, Object, Tree, ToObject}
use Rattle.h5_header.specs.Heads.{is_read}
use Rattle.h5_header.specs.Laid.{IsHeaderBytes}
use Rattle.h5_header.specs.Listed.{messages_in, IsWithin}
use Rattle.h5_attr.specs.Attributes.{HasNamesOnce, attributes_of}
use Rattle.h5_space.specs.Moves.{Moves}
use Rattle.h5_space.specs.Space.{Space, next_place}
use Rattle.h5_group.specs.Exact.{HasExactKeys}
use Rattle.h5_group.specs.Edited.{IsLinkPut}
use Rattle.h5_group.specs.Heap.Links.{Leads, ToArray, ToGroup}
use Rattle.h5_group.specs.LinkEdits.{IsGroupApart}
use Rattle.h5_group.specs.Told.{blocks_told, links_told}
use Rattle.h5_open.specs.declared.opened.added.ContentBytes.{ContentBytes}
use Rattle.h5_open.specs.declared.opened.added.ContentBytes.TheVariants as bytes
use Rattle.h5_open.specs.declared.opened.added.ObjectBytes.{ObjectBytes}
use Rattle.h5_open.specs.declared.opened.object.OpenedObject.{OpenedObject}
use Rattle.h5_open.specs.declared.opened.object.OpenedContent.{OpenedContent}
use Rattle.h5_open.specs.declared.opened.object.OpenedContent.TheVariants as content
use Rattle.h5_open.specs.LinkAdded.{with_link}
use Rattle.h5_open.specs.Opened.Headers.{object_with}
use Rattle.h5_open.specs.Opened.Kept.{IsContentKept}
use Rattle.h5_open.specs.Opened.Objects.{content_blocks, content_in, content_links, header_of}
use Rattle.h5_open.specs.Opened.State.{FileState}

-- ---- bytes

-- the tree and the heap of a group; or cells of one value
abbrev pub stored_content : ContentBytes → List ℕ
stored_content (bytes.Group table bs) = bs.now
stored_content (bytes.Cells fixed fill count) = cells_bytes fixed (replicate count fill)

-- the header, and behind it what it leads to
abbrev pub object_bytes : ObjectBytes → List ℕ
object_bytes b = b.header.now ++ stored_content b.content

-- what is kept of it
abbrev pub content_of : ContentBytes → OpenedContent
content_of (bytes.Group table bs) = content.Group table
content_of (bytes.Cells fixed fill count) = content.Array

-- where a link to it leads, whose header stands at this place
abbrev pub lead_at : ℕ → ContentBytes → Leads
lead_at at (bytes.Group table bs) = ToGroup at table.tree table.heap
lead_at at (bytes.Cells fixed fill count) = ToArray at

-- the value of each cell is one of its type
abbrev pub IsOfType : ContentBytes → Type 0
IsOfType (bytes.Group table bs) = ⊤
IsOfType (bytes.Cells fixed fill count) = fits fixed fill ≡ true

-- where a block of so many bytes stands that is taken next
abbrev pub place_in : FileState → ℕ → ℕ
place_in f len = next_place len (record { bytes = f.image; free = f.free; room_bytes = 0; room_blocks = 0 })

abbrev pub object_place : FileState → ObjectBytes → ℕ
object_place f b = place_in f (length (object_bytes b))

-- ---- an object without links

-- a group has exact keys
abbrev pub HasExactContent : List ℕ → OpenedContent → Type 0
HasExactContent image (content.Group table) = HasExactKeys image table
HasExactContent image content.Array = ⊤

-- With these messages the content stands in the image, from one place to another: it is this one, has no links, and has exact keys if it is a
-- group.
pub record IsContentMade (image : List ℕ) (ms : List Message) (c : OpenedContent) (from to : ℕ) (made : Content) : Type 0 where
  pub kept : IsContentKept image ms c
  pub none : content_links image c ≡ []
  pub exact : HasExactContent image c
  pub told : (table : FinMap nat_cmp ℕ) → content_in image table ms c ≡ made
  pub blocks : Run from (content_blocks image ms c) to

-- Wherever these bytes are at the place where the file has room for them, in an image with its K values, they are this object: its header,
-- with one link counted, and then its content.
pub record IsToBeMade (f : FileState) (b : ObjectBytes) (object : Object) : Type 0 where
  pub low : object_place f b + length (object_bytes b) ≤ most_bytes
  pub of_type : IsOfType b.content
  pub messages : List Message
  pub header : IsHeaderBytes b.header.now (object_place f b) messages
  pub counted : (image : List ℕ) → part (object_place f b) (length b.header.now) image ≡ b.header.now
      → reference_count (prefix_at image (object_place f b)) ≡ 1
  pub known : AllByRecursion (λ (m : Message). IsTrue (is_read m.kind)) messages
  pub names : HasNamesOnce messages
  pub attributes : HasAttributes messages (attributes_of messages)
  pub told : object ≡ object_with object.content messages
  pub content : (image : List ℕ) → leaf_k image ≡ leaf_k f.image → internal_k image ≡ internal_k f.image
      → part (object_place f b) (length (object_bytes b)) image ≡ object_bytes b
      → IsContentMade image messages (content_of b.content) (object_place f b + length b.header.now) (object_place f b + length (object_bytes b))
      object.content

-- what is known to be tidy without a look: a group, and an array without bytes behind its header
abbrev pub IsTidyNew : ContentBytes → Type 0
IsTidyNew (bytes.Group table bs) = ⊤
IsTidyNew (bytes.Cells fixed fill count) = stored_content (bytes.Cells fixed fill count) ≡ []

-- what is kept of an object whose bytes will stand at this place
pub record IsKeptFor (at : ℕ) (b : ObjectBytes) (o : OpenedObject) : Type 0 where
  pub header : header_of o ≡ at
  pub blocks : o.messages.blocks ≡ block at (length b.header.now) ∷ []
  pub within : IsWithin (at + length b.header.now) o.messages.list
  pub messages : (ms : List Message) → IsHeaderBytes b.header.now at ms → (image : List ℕ) → part at (length b.header.now) image ≡ b.header.now
      → messages_in image o.messages.list ≡ ms
  pub content : o.content ≡ content_of b.content
  pub tidy : o.tidy ≡ true → IsTidyNew b.content

-- A block was taken for its bytes, which were written there; a link to it was put into the group at this tree and heap; and the end of file
-- address was written.
pub record IsObjectStored (old taken linked new : Space) (t : SymbolTable) (name : List ℕ) (at : ℕ) (b : ObjectBytes) : Type 0 where
  pub took : Moves old taken [] (block at (length (object_bytes b)) ∷ [])
  pub there : part at (length (object_bytes b)) taken.bytes ≡ object_bytes b
  pub inside : at + length (object_bytes b) ≤ length taken.bytes
  pub put : IsLinkPut (name, Header at) (links_told taken.bytes t) (links_told linked.bytes t)
  pub apart : IsGroupApart linked t
  pub exact : HasExactKeys taken.bytes t → HasExactKeys linked.bytes t
  pub moves : Moves taken linked (blocks_told taken.bytes t) (blocks_told linked.bytes t)
  pub k : k_values linked.bytes ≡ k_values taken.bytes
  pub later : Moves linked new (end_field linked.bytes ∷ []) (end_field new.bytes ∷ [])
  pub end : end_of_file new.bytes ≡ length new.bytes
  pub small : length new.bytes ≤ most_bytes

-- the tree with an object of this number more, to which a link in one of its groups leads
abbrev pub tree_with : Tree → ℕ → List ℕ → ℕ → Object → Tree
tree_with tree parent name number object = insert (with_link tree parent name (ToObject number)) number object
