-- An edit in place by what is kept of the objects: what it has to show of those that it touches (File Format Specification 3.0, section
-- IV.A).
use Rattle.std.specs.Prelude.{◌≡◌, ℕ, ◌+◌, ◌==◌, ◌<◌, ◌≤◌, ◌++◌, if◌then◌else◌, Bool, true, false, IsSome, Option, Some, None, List, [], ◌∷◌, length, slice_get}
use Rattle.std.specs.Option.{option_flatten, option_map_or}
use Rattle.std.specs.Ordering.{nat_cmp}
use Rattle.std.specs.FinMap.{FinMap, get}
use Rattle.std.specs.List.{flat_map}
use Rattle.h5_model.specs.Format.Limits.{most_bytes, most_numbers}
use Rattle.h5_bytes.specs.declared.Block.{Block}
use Rattle.h5_model.specs.Format.Messages.{prefix_at, reference_count}
use Rattle.h5_model.specs.Format.Superblock.{end_of_file, end_field}
use Rattle.h5_model.specs.Format.Reads.{HasObject}
use Rattle.h5_model.specs.Tree.Objects.{Object, Tree, hard_links}
use Rattle.h5_space.specs.Space.{Space}
use Rattle.h5_space.specs.Moves.{Moves}
use Rattle.h5_group.specs.Told.{links_told}
use Rattle.h5_open.specs.declared.opened.object.OpenedObject.{OpenedObject}
use Rattle.h5_open.specs.declared.opened.object.OpenedContent.{OpenedContent}
use Rattle.h5_open.specs.declared.opened.object.OpenedContent.TheVariants as content
use Rattle.h5_open.specs.ChangedInPlace.{AreSlotsMoved, is_among}
use Rattle.h5_open.specs.Opened.Kept.{IsObjectKept}
use Rattle.h5_open.specs.Opened.Objects.{header_of, object_blocks, table_of}

-- the objects with these numbers, in slots that are numbered from n on
abbrev pub chosen_slots : (ℕ → Bool) → ℕ → List (Option OpenedObject) → List OpenedObject
chosen_slots touched n [] = []
chosen_slots touched n (None ∷ slots) = chosen_slots touched (n + 1) slots
chosen_slots touched n (Some o ∷ slots) = if touched n then o ∷ chosen_slots touched (n + 1) slots else chosen_slots touched (n + 1) slots

-- and their blocks
abbrev pub slot_blocks : List ℕ → (ℕ → Bool) → List (Option OpenedObject) → List Block
slot_blocks image touched slots = flat_map (object_blocks image) (chosen_slots touched 0 slots)

-- An object that is touched: what is kept of it stands in the new image, where it is the object that the new tree has, and its header
-- counts the links to it.
pub record IsTouchedObject (new : List ℕ) (table' : FinMap nat_cmp ℕ) (tree' : Tree) (n : ℕ) (o : OpenedObject) : Type 0 where
  pub kept : IsObjectKept new o
  pub object : Object
  pub there : get tree' n ≡ Some object
  pub blocks : List Block
  pub has : HasObject new table' (header_of o) object blocks
  pub counted : reference_count (prefix_at new (header_of o)) ≡ hard_links tree' n + (if n == 0 then 1 else 0)

-- The edit moves the blocks of the objects that it touches, and the end of file address; the image ends where that says. The others are
-- in the new tree what they were, with as many links to them; and a number whose slot is empty now is none of the new tree.
pub record IsSlotsInPlace (old new : Space) (slots slots' : List (Option OpenedObject)) (tree tree' : Tree) (touched : ℕ → Bool) : Type 0 where
  pub moves : Moves old new (end_field old.bytes ∷ slot_blocks old.bytes touched slots) (end_field new.bytes ∷ slot_blocks new.bytes touched slots')
  pub end : end_of_file new.bytes ≡ length new.bytes
  pub small : length new.bytes ≤ most_bytes
  pub slots_moved : AreSlotsMoved slots slots' touched
  pub same : (n : ℕ) → touched n ≡ false → get tree' n ≡ get tree n
  pub counts : (n : ℕ) → touched n ≡ false → IsSome (get tree' n) → hard_links tree' n ≡ hard_links tree n
  pub remade : (n : ℕ) (o : OpenedObject) → touched n ≡ true → slice_get slots' n ≡ Some (Some o) → IsTouchedObject new.bytes (table_of slots') tree' n o
  pub gone : (n : ℕ) → touched n ≡ true → option_flatten (slice_get slots' n) ≡ None → get tree' n ≡ None

-- what is kept of a group and of what it became tells the same links; and an array became an array
abbrev pub AreLinksKept : List ℕ → List ℕ → OpenedContent → OpenedContent → Type 0
AreLinksKept old new (content.Group t) (content.Group t') = links_told new t' ≡ links_told old t
AreLinksKept old new content.Array content.Array = Unit {0}
AreLinksKept old new (content.Group t) content.Array = ⊥
AreLinksKept old new content.Array (content.Group t) = ⊥

-- One object is made anew, and its links stay: its header stands where it stood, has as many links counted, and what is kept of the
-- object now stands in the new image. The edit moves its blocks and the end of file address. All other slots stay.
pub record IsOneRemade (old new : Space) (slots slots' : List (Option OpenedObject)) (number : ℕ) (p p' : OpenedObject) : Type 0 where
  pub before : slice_get slots number ≡ Some (Some p)
  pub after : slice_get slots' number ≡ Some (Some p')
  pub others : (n : ℕ) → (number == n) ≡ false → option_flatten (slice_get slots' n) ≡ option_flatten (slice_get slots n)
  pub as_many : length slots' ≡ length slots
  pub header : header_of p' ≡ header_of p
  pub kept : IsObjectKept new.bytes p'
  pub links : AreLinksKept old.bytes new.bytes p.content p'.content
  pub counted : reference_count (prefix_at new.bytes (header_of p)) ≡ reference_count (prefix_at old.bytes (header_of p))
  pub moves : Moves old new (end_field old.bytes ∷ object_blocks old.bytes p) (end_field new.bytes ∷ object_blocks new.bytes p')
  pub end : end_of_file new.bytes ≡ length new.bytes
  pub small : length new.bytes ≤ most_bytes

-- the blocks of the object of a number, if there is one
abbrev pub blocks_at : List ℕ → List (Option OpenedObject) → ℕ → List Block
blocks_at image slots n = option_map_or (object_blocks image) (option_flatten (slice_get slots n)) []

-- no number stands twice
abbrev pub AreOnce : List ℕ → Type 0
AreOnce [] = Unit {0}
AreOnce (n ∷ numbers) = (is_among numbers n ≡ false) × AreOnce numbers

-- An object is made and a link to it is put into a group: it has the next number and the last slot, and both stand in the new image as
-- the new tree has them. All other objects are what they were. The edit moves the blocks of the group and the end of file address.
pub record IsObjectMade (old new : Space) (slots : List (Option OpenedObject)) (tree tree' : Tree) (a : ℕ) (p o : OpenedObject) : Type 0 where
  pub group : slice_get slots a ≡ Some (Some p)
  pub few : length slots < most_numbers
  pub same : (n : ℕ) → (length slots == n) ≡ false → (a == n) ≡ false → get tree' n ≡ get tree n
  pub counts : (n : ℕ) → (length slots == n) ≡ false → (a == n) ≡ false → hard_links tree' n ≡ hard_links tree n
  pub remade : IsTouchedObject new.bytes (table_of (slots ++ Some o ∷ [])) tree' a p
  pub made : IsTouchedObject new.bytes (table_of (slots ++ Some o ∷ [])) tree' (length slots) o
  pub moves : Moves old new (end_field old.bytes ∷ object_blocks old.bytes p) (end_field new.bytes ∷ object_blocks new.bytes o ++ object_blocks new.bytes p)
  pub end : end_of_file new.bytes ≡ length new.bytes
  pub small : length new.bytes ≤ most_bytes
