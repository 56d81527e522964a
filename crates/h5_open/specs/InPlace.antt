-- An edit in place: what it moves in the image, and what it leaves of the objects (File Format Specification 3.0, sections II.A, III and
-- IV.A).
use Rattle.std.specs.Prelude.{◌≡◌, ℕ, ◌≤◌, Bool, not, List, ◌∷◌, map, length}
use Rattle.std.specs.Ordering.{nat_cmp}
use Rattle.std.specs.FinMap.{FinMap, get, entries}
use Rattle.std.specs.List.{AllByRecursion, filter, flat_map}
use Rattle.h5_model.specs.Format.Limits.{most_bytes}
use Rattle.h5_bytes.specs.Blocks.{Inside}
use Rattle.h5_bytes.specs.declared.Block.{Block}
use Rattle.h5_model.specs.Format.Superblock.{end_of_file, end_field}
use Rattle.h5_model.specs.Format.Reads.{Placed}
use Rattle.h5_model.specs.Tree.Objects.{Tree, hard_links}
use Rattle.h5_space.specs.Space.{Space}
use Rattle.h5_space.specs.Moves.{Moves}
use Rattle.h5_laws.specs.InPlace.{AreStillThere, IsMade}

-- the objects with these numbers, and the others
abbrev pub chosen_objects : (ℕ → Bool) → List Placed → List Placed
chosen_objects touched placed = filter (λ x. touched x.number) placed

abbrev pub other_objects : (ℕ → Bool) → List Placed → List Placed
other_objects touched placed = filter (λ x. not (touched x.number)) placed

abbrev pub touched_blocks : (ℕ → Bool) → List Placed → List Block
touched_blocks touched placed = flat_map (λ x. x.blocks) (chosen_objects touched placed)

-- an object that is not touched: its links lead to the headers to which they led, and as many links lead to it
pub record IsLeft (table table' : FinMap nat_cmp ℕ) (tree tree' : Tree) (x : Placed) : Type 0 where
  pub linked : AreStillThere table table' x.object.content
  pub counts : hard_links tree' x.number ≡ hard_links tree x.number

-- an object that is touched: it stands in the new image as the new tree has it
pub record IsRemade (new : List ℕ) (table' : FinMap nat_cmp ℕ) (tree' : Tree) (x : Placed) : Type 0 where
  pub made : IsMade new table' tree' x
  pub inside : Inside (length new) x.blocks

-- The edit moves the blocks of the objects with these numbers, and the end of file address; the image ends where that says. The new
-- table and tree are of the objects that were not touched, and of those that were, made anew.
pub record IsInPlace (old new : Space) (table table' : FinMap nat_cmp ℕ) (tree tree' : Tree) (placed placed' : List Placed) (touched : ℕ → Bool) : Type 0 where
  pub moves : Moves old new (end_field old.bytes ∷ touched_blocks touched placed) (end_field new.bytes ∷ touched_blocks touched placed')
  pub end : end_of_file new.bytes ≡ length new.bytes
  pub small : length new.bytes ≤ most_bytes
  pub root : get table' 0 ≡ get table 0
  pub numbered : entries table' ≡ map (λ x. (x.number, x.header)) placed'
  pub objects : entries tree' ≡ map (λ x. (x.number, x.object)) placed'
  pub others : other_objects touched placed' ≡ other_objects touched placed
  pub left : AllByRecursion (IsLeft table table' tree tree') (other_objects touched placed')
  pub remade : AllByRecursion (IsRemade new.bytes table' tree') (chosen_objects touched placed')
