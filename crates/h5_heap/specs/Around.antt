-- What a list of free blocks has around some bytes of a heap's segment (File Format Specification 3.0, section III.D).
use Rattle.std.specs.Prelude.{◌≡◌, ℕ, not, List, Bool, Option, Some, None}
use Rattle.std.specs.List.{find, filter}
use Rattle.std.specs.Option.{IfSome}
use Rattle.h5_bytes.specs.declared.Block.{Block}
use Rattle.h5_heap.specs.Chain.{Stands, ComesBehind, IsGreatestBelow}
use Rattle.h5_heap.specs.Sought.{begins_at, ends_at}
use Rattle.h5_heap.specs.declared.around.Around.{Around}
use Rattle.h5_heap.specs.declared.around.Neighbour.{Neighbour}

-- the first block of the list that is looked for, and the place that leads to it; or there is none
abbrev pub IsNeighbour : (Block → Bool) → List Block → Option Neighbour → Type 0
IsNeighbour test free None = find test free ≡ None
IsNeighbour test free (Some n) = (find test free ≡ Some n.block) × ComesBehind free n.place n.block

-- the free blocks that do not end before a place
abbrev pub not_ending : ℕ → List Block → List Block
not_ending at free = filter (λ b. not (ends_at at b)) free

-- of all blocks the one that ends where these bytes begin; of the others the one that begins where they end, and the greatest below
pub record IsAround (free : List Block) (at end : ℕ) (around : Around) : Type 0 where
  pub left : IsNeighbour (ends_at at) free around.left
  pub right : IsNeighbour (begins_at end) (not_ending at free) around.right
  pub listed : IfSome around.below (λ place. Stands place (not_ending at free))
  pub greatest : IsGreatestBelow (not_ending at free) at around.below
