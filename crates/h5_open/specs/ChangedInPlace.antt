-- What an edit in place made of an opened file: the tree that it holds now, and what stayed of its bytes and its objects (File Format
-- Specification 3.0, sections II.A, III and IV.A).
use Rattle.std.specs.Prelude.{◌≡◌, ℕ, ◌+◌, ◌==◌, ◌<◌, ◌≤◌, Bool, true, false, IsSome, Option, Some, List, ◌∷◌, length, slice_get}
use Rattle.std.specs.Option.{option_flatten}
use Rattle.std.specs.List.{list_any}
use Rattle.std.specs.FinMap.{get}
use Rattle.h5_bytes.specs.Bytes.{byte_at}
use Rattle.h5_bytes.specs.Blocks.{cover}
use Rattle.h5_model.specs.Format.Limits.{most_numbers}
use Rattle.h5_model.specs.Format.Reads.{Placed, ReadsAs, all_blocks}
use Rattle.h5_model.specs.Format.Superblock.{k_values, end_field}
use Rattle.h5_model.specs.Tree.Objects.{Tree}
use Rattle.h5_open.specs.declared.opened.object.OpenedObject.{OpenedObject}
use Rattle.h5_open.specs.InPlace.{other_objects, touched_blocks}
use Rattle.h5_open.specs.Opened.Objects.{header_of}
use Rattle.h5_open.specs.Opened.Sound.{IsSound, IsWholeFile}
use Rattle.h5_open.specs.Opened.State.{FileState}

-- the number is one of these
abbrev pub is_among : List ℕ → ℕ → Bool
is_among numbers n = list_any (λ m. m == n) numbers

-- The file holds this tree now, and so many numbers were given out. Only objects of these numbers were touched: the others have the
-- headers, the blocks and all that is in them that they had. An object that was there has its header where it was, or is no more; a
-- number that was given out before is given to no other object. The superblock has its version and all K values still, and the image has
-- grown by no more than so many bytes.
pub record IsChangedInPlace (old new : FileState) (tree' : Tree) (next' : ℕ) (touched : List ℕ) (bytes : ℕ) : Type 0 where
  pub state : (new.tree ≡ tree') × (new.next ≡ next')
  pub sound : IsSound new
  pub whole : IsWholeFile old → IsWholeFile new
  pub k : k_values new.image ≡ k_values old.image
  pub headers : (n h : ℕ) → get old.table n ≡ Some h → IsSome (get new.table n) → get new.table n ≡ Some h
  pub given : (n : ℕ) → n < old.next → IsSome (get new.table n) → IsSome (get old.table n)
  pub more : old.next ≤ new.next
  pub others : (placed placed' : List Placed) → ReadsAs old.image old.table old.tree placed → ReadsAs new.image new.table new.tree placed'
      → other_objects (is_among touched) placed' ≡ other_objects (is_among touched) placed
  pub local : (placed : List Placed) → ReadsAs old.image old.table old.tree placed → (p : ℕ) → p < length old.image
      → cover p (end_field old.image ∷ touched_blocks (is_among touched) placed) ≡ 0 → 1 ≤ cover p (all_blocks old.image placed)
      → byte_at new.image p ≡ byte_at old.image p
  pub grown : (length old.image ≤ length new.image) × (length new.image ≤ length old.image + bytes)

-- What becomes of the slots: those whose numbers are not touched stay; of the others each is as it was, or empty, or has another object
-- whose header stands where it stood; an empty slot stays empty, and new slots come behind.
pub record AreSlotsMoved (slots slots' : List (Option OpenedObject)) (touched : ℕ → Bool) : Type 0 where
  pub same : (n : ℕ) → touched n ≡ false → option_flatten (slice_get slots' n) ≡ option_flatten (slice_get slots n)
  pub remains : (n : ℕ) (o' : OpenedObject) → touched n ≡ true → n < length slots → slice_get slots' n ≡ Some (Some o')
      → (o : OpenedObject) × (slice_get slots n ≡ Some (Some o)) × (header_of o' ≡ header_of o)
  pub more : length slots ≤ length slots'
  pub few : length slots' ≤ most_numbers
