-- The list of free blocks in a heap's segment, followed from an offset on (File Format Specification 3.0, section III.D).
use Rattle.std.specs.Prelude.{◌≡◌, ℕ, zero, suc, ◌+◌, ◌<◌, ◌≤◌, ◌⊎◌, ◌==◌, if◌then◌else◌, List, [], ◌∷◌, ◌++◌, Option, Some, None, length}
use Rattle.std.specs.List.{AllByRecursion}
use Rattle.h5_bytes.specs.Bytes.{number_at, byte_at}
use Rattle.h5_bytes.specs.Blocks.{block, cover, Separate, Inside}
use Rattle.h5_bytes.specs.declared.Block.{Block}
use Rattle.h5_model.specs.Format.Heap.{FreeFrom, IsFree}

-- the free blocks from the one at this offset on, at most so many
unfoldable pub chain : ℕ → List ℕ → ℕ → List Block
chain zero segment next = []
chain (suc n) segment next = if next == 1 then [] else block next (number_at segment (next + 8) 8) ∷ chain n segment (number_at segment next 8)

-- all of them: there are fewer than bytes
abbrev pub free_from : List ℕ → ℕ → List Block
free_from segment first = chain (length segment) segment first

-- these blocks are free, from this offset on
pub record IsChain (segment : List ℕ) (first : ℕ) (free : List Block) : Type 0 where
  pub listed : FreeFrom segment first free
  pub each : AllByRecursion IsFree free
  pub apart : Separate free
  pub within : Inside (length segment) free

abbrev pub HasChain : List ℕ → ℕ → Type 0
HasChain segment first = IsChain segment first (free_from segment first)

-- one of the blocks begins at this offset
abbrev pub Stands : ℕ → List Block → Type 0
Stands at [] = ⊥
Stands at (b ∷ bs) = (b.at ≡ at) ⊎ Stands at bs

-- the list has a block at this offset
pub record ListsAt (segment : List ℕ) (first place : ℕ) : Type 0 where
  pub front : List Block
  pub back : List Block
  pub split : free_from segment first ≡ front ++ block place (number_at segment (place + 8) 8) ∷ back

-- The list was edited: the bytes of the first blocks are free no more, and those of the second are free now. Bytes that were in no
-- free block, and are not made free, have their values still.
pub record Relists (old new : List ℕ) (first first' : ℕ) (taken given : List Block) : Type 0 where
  pub chain : HasChain new first'
  pub covered : (p : ℕ) → cover p (free_from new first') + cover p taken ≡ cover p (free_from old first) + cover p given
  pub kept : (p : ℕ) → cover p (free_from old first) ≡ 0 → cover p given ≡ 0 → byte_at new p ≡ byte_at old p
  pub size : length new ≡ length old

-- ---- the list in its order

-- each block begins before those behind it in the list
abbrev pub Ascends : List Block → Type 0
Ascends [] = Unit {0}
Ascends (b ∷ bs) = AllByRecursion (λ c. b.at < c.at) bs × Ascends bs

-- the blocks with one more, somewhere in the list
pub record IsPutIn (b : Block) (old new : List Block) : Type 0 where
  pub front : List Block
  pub back : List Block
  pub before : old ≡ front ++ back
  pub after : new ≡ front ++ b ∷ back

-- the blocks with one more: behind the one that begins at this place, or before all
abbrev pub put_behind : Option ℕ → Block → List Block → List Block
put_behind None b bs = b ∷ bs
put_behind (Some place) b [] = b ∷ []
put_behind (Some place) b (c ∷ bs) = c ∷ (if c.at == place then b ∷ bs else put_behind (Some place) b bs)

-- the greatest offset below a place at which one of the blocks begins, if one does
abbrev pub IsGreatestBelow : List Block → ℕ → Option ℕ → Type 0
IsGreatestBelow free at None = AllByRecursion (λ b. at ≤ b.at) free
IsGreatestBelow free at (Some place) = (place < at) × AllByRecursion (λ b. (b.at ≤ place) ⊎ (at ≤ b.at)) free

-- where the last of these blocks begins, if there is one
abbrev pub last_place : List Block → Option ℕ
last_place [] = None
last_place (b ∷ []) = Some b.at
last_place (b ∷ c ∷ cs) = last_place (c ∷ cs)

-- the list has this block, behind the one at the place or before all
pub record ComesBehind (free : List Block) (place : Option ℕ) (b : Block) : Type 0 where
  pub front : List Block
  pub back : List Block
  pub split : free ≡ front ++ b ∷ back
  pub before : last_place front ≡ place
