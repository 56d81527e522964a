-- What an edit in place leaves of a reading, and what it makes (File Format Specification 3.0, sections II.A and IV.A): each object
-- of the tree that the edit gives is untouched, or stands in the new image as that tree has it.
use Rattle.std.specs.Prelude.{◌≡◌, ℕ, ◌+◌, ◌==◌, ◌⊎◌, if◌then◌else◌, List, map, length, Some}
use Rattle.std.specs.Ordering.{nat_cmp}
use Rattle.std.specs.FinMap.{FinMap, get, entries}
use Rattle.std.specs.List.{AllByRecursion, Contains}
use Rattle.h5_bytes.specs.Blocks.{Separate, Inside, Keeps}
use Rattle.h5_model.specs.Format.Messages.{prefix_at, reference_count}
use Rattle.h5_model.specs.Format.Superblock.{IsSuperblock, k_values, end_of_file, root_header}
use Rattle.h5_model.specs.Format.Reads.{Placed, IsPlaced, all_blocks}
use Rattle.h5_model.specs.Tree.Objects.{Tree, Content, Group, Array, Link, ToObject, Soft, hard_links}

-- the object that a link leads to has its header where it had it; a soft link leads to none
abbrev pub IsStillThere : FinMap nat_cmp ℕ → FinMap nat_cmp ℕ → (List ℕ × Link) → Type 0
IsStillThere table table' (name, ToObject number) = get table' number ≡ get table number
IsStillThere table table' (name, Soft text) = Unit {0}

-- and so has the object of each link of a group
abbrev pub AreStillThere : FinMap nat_cmp ℕ → FinMap nat_cmp ℕ → Content → Type 0
AreStillThere table table' (Group links) = AllByRecursion (IsStillThere table table') (entries links)
AreStillThere table table' (Array d) = Unit {0}

-- the object was in the file, and its bytes, the headers that its links lead to and the count of links to it are as before
pub record IsUntouched (old new : List ℕ) (table table' : FinMap nat_cmp ℕ) (tree tree' : Tree) (placed : List Placed) (x : Placed) : Type 0 where
  pub before : Contains placed x
  pub kept : Keeps old new x.blocks
  pub linked : AreStillThere table table' x.object.content
  pub counts : hard_links tree' x.number ≡ hard_links tree x.number

-- the object stands in the new image as the new tree has it, and its header counts the links to it
pub record IsMade (new : List ℕ) (table' : FinMap nat_cmp ℕ) (tree' : Tree) (x : Placed) : Type 0 where
  pub there : IsPlaced new table' x
  pub counted : reference_count (prefix_at new x.header) ≡ hard_links tree' x.number + (if x.number == 0 then 1 else 0)

-- The new image has a superblock with the version and all K values of the old one, its blocks share no byte, and it has the objects
-- of the new tree, of which each is untouched or made.
pub record IsStep (old new : List ℕ) (table table' : FinMap nat_cmp ℕ) (tree tree' : Tree) (placed placed' : List Placed) : Type 0 where
  pub superblock : IsSuperblock new
  pub whole : end_of_file new ≡ length new
  pub k : k_values new ≡ k_values old
  pub root : get table' 0 ≡ Some (root_header new)
  pub numbered : entries table' ≡ map (λ x. (x.number, x.header)) placed'
  pub objects : entries tree' ≡ map (λ x. (x.number, x.object)) placed'
  pub each : AllByRecursion (λ x. IsUntouched old new table table' tree tree' placed x ⊎ IsMade new table' tree' x) placed'
  pub apart : Separate (all_blocks new placed')
  pub within : Inside (length new) (all_blocks new placed')
