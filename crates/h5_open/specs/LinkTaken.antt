-- A link taken out of a group of an opened image where the group stands, and with it each object that no path reaches then (File Format
-- Specification 3.0, sections III.C and IV.A.1.a).
use Rattle.std.specs.Prelude.{◌≡◌, ℕ, Option, Some, None, List, [], ◌∷◌, length, slice_get}
use Rattle.std.specs.FinMap.{FinMap, get}
use Rattle.std.specs.List.{Contains, flat_map}
use Rattle.std.specs.Option.{option_flatten, option_map_or}
use Rattle.std.specs.Ordering.{nat_cmp}
use Rattle.h5_bytes.specs.declared.Block.{Block}
use Rattle.h5_model.specs.Format.Limits.{most_names}
use Rattle.h5_model.specs.Format.Addresses.{SymbolTable}
use Rattle.h5_model.specs.Format.Messages.{prefix_at, reference_count}
use Rattle.h5_model.specs.Format.Superblock.{k_values}
use Rattle.h5_model.specs.Format.Symbols.{Target}
use Rattle.h5_model.specs.Tree.Objects.{Tree, Link, link_in, object_of, within_names}
use Rattle.h5_space.specs.Moves.{Moves}
use Rattle.h5_space.specs.Space.{Space}
use Rattle.h5_header.specs.Listed.{messages_in}
use Rattle.h5_header.specs.Standing.{IsStanding}
use Rattle.h5_group.specs.Edited.{IsLinkPut}
use Rattle.h5_group.specs.Exact.{HasExactKeys}
use Rattle.h5_group.specs.LinkEdits.{IsGroupApart}
use Rattle.h5_group.specs.Told.{blocks_told, links_told}
use Rattle.h5_open.specs.declared.opened.object.OpenedObject.{OpenedObject}
use Rattle.h5_open.specs.Opened.Objects.{header_of}

-- A link of this name leads from the group to this object, or to a text.
pub record IsLinkTo (tree : Tree) (parent : ℕ) (name : List ℕ) (object : Option ℕ) : Type 0 where
  pub link : Link
  pub stands : link_in tree parent name ≡ Some link
  pub leads : object ≡ object_of link

-- the objects that are touched where a link goes: the group, the object to which it leads, and all below
abbrev pub touched_below : Tree → ℕ → Option ℕ → List ℕ
touched_below tree parent object = parent ∷ flat_map (within_names tree most_names) (option_map_or (λ n. n ∷ []) object [])

-- The group at this tree and heap has the link of this name no more; all its other links stay, its keys are exact where they were, and the image is
-- as long as it was.
pub record IsLinkTaken (old new : Space) (table : SymbolTable) (name : List ℕ) : Type 0 where
  pub links : (target : Target) → Contains (links_told old.bytes table) (name, target)
      → IsLinkPut (name, target) (links_told new.bytes table) (links_told old.bytes table)
  pub group : IsGroupApart new table
  pub exact : HasExactKeys old.bytes table → HasExactKeys new.bytes table
  pub moves : Moves old new (blocks_told old.bytes table) (blocks_told new.bytes table)
  pub k : k_values new.bytes ≡ k_values old.bytes
  pub as_long : length new.bytes ≡ length old.bytes

-- ---- the arrays to which links are left

-- each of these objects has its slot, and its header stands in the image
abbrev pub AreHeadersStanding : List ℕ → List (Option OpenedObject) → List (ℕ × ℕ) → Type 0
AreHeadersStanding image slots less = (n left : ℕ) → Contains less (n, left) → (o : OpenedObject) × (slice_get slots n ≡ Some (Some o)) × IsStanding image o.messages

-- the blocks of the header of the object of a number, if there is one
abbrev pub header_blocks_at : List (Option OpenedObject) → ℕ → List Block
header_blocks_at slots n = option_map_or (λ o. o.messages.blocks) (option_flatten (slice_get slots n)) []

-- those of the headers of these objects
abbrev pub lowered_blocks : List (Option OpenedObject) → List (ℕ × ℕ) → List Block
lowered_blocks slots less = flat_map (λ (l : ℕ × ℕ). header_blocks_at slots l.0) less

-- The header of an object counts so many links; all else in it stays.
pub record IsCountLeft (old new : List ℕ) (o : OpenedObject) (left : ℕ) : Type 0 where
  pub standing : IsStanding new o.messages
  pub messages : messages_in new o.messages.list ≡ messages_in old o.messages.list
  pub count : reference_count (prefix_at new (header_of o)) ≡ left

-- The header of each of these objects counts the links that are left to it; nothing else is written, and the image is as long as it was.
pub record AreCountsLowered (old new : Space) (slots : List (Option OpenedObject)) (less : List (ℕ × ℕ)) : Type 0 where
  pub each : (n left : ℕ) (o : OpenedObject) → Contains less (n, left) → slice_get slots n ≡ Some (Some o) → IsCountLeft old.bytes new.bytes o left
  pub moves : Moves old new (lowered_blocks slots less) (lowered_blocks slots less)
  pub as_long : length new.bytes ≡ length old.bytes

-- ---- the objects that go

-- no two objects have their headers at one place
abbrev pub IsOwnTable : FinMap nat_cmp ℕ → Type 0
IsOwnTable table = (a b h : ℕ) → get table a ≡ Some h → get table b ≡ Some h → a ≡ b

-- The slots of these numbers are empty; all others stay.
pub record AreSlotsCleared (slots slots' : List (Option OpenedObject)) (gone : List ℕ) : Type 0 where
  pub cleared : (n : ℕ) → Contains gone n → slice_get slots' n ≡ Some None
  pub others : (n : ℕ) → (Contains gone n → ⊥) → slice_get slots' n ≡ slice_get slots n
  pub as_many : length slots' ≡ length slots
