-- What a heap keeps of the bytes of its segment, 8 together: a unit (File Format Specification 3.0, section III.D).
use Rattle.std.specs.Prelude.{◌≡◌, ◌≢◌, ℕ, ◌+◌, ◌*◌, ◌<◌, ◌≤◌, ◌⊎◌, ◌↔◌, ◌==◌, if◌then◌else◌, List, [], ◌∷◌, ◌++◌, length, get_or}
use Rattle.std.specs.List.{AllByRecursion}
use Rattle.h5_bytes.specs.Blocks.{block, cover, Separate}
use Rattle.h5_bytes.specs.declared.Block.{Block}
use Rattle.h5_model.specs.Format.Heap.{IsFree}
use Rattle.h5_heap.specs.declared.units.UnitState.{UnitState}
use Rattle.h5_heap.specs.declared.units.UnitState.TheVariants.{Open, Free, Begin, Taken}

-- the unit at a place; behind the last one all are open
abbrev pub unit_at : List UnitState → ℕ → UnitState
unit_at units k = get_or units k Open

-- ---- what units say

-- the bytes of the unit at this offset that a text has
abbrev pub text_block : ℕ → UnitState → List Block
text_block at Begin = block at 8 ∷ []
text_block at Taken = block at 8 ∷ []
text_block at _ = []

-- the offset of the text that begins there
abbrev pub text_begin : ℕ → UnitState → List ℕ
text_begin at Begin = at ∷ []
text_begin at _ = []

-- the same of all units from an offset on
abbrev pub text_blocks : ℕ → List UnitState → List Block
text_blocks at [] = []
text_blocks at (unit ∷ units) = text_block at unit ++ text_blocks (at + 8) units

abbrev pub text_begins : ℕ → List UnitState → List ℕ
text_begins at [] = []
text_begins at (unit ∷ units) = text_begin at unit ++ text_begins (at + 8) units

-- The units of a segment of this length with these free blocks, which begin at multiples of 8: those are free of which the first byte is.
pub record AreUnits (len : ℕ) (free : List Block) (units : List UnitState) : Type 0 where
  pub long : len ≤ 8 * length units
  pub free_is : (k : ℕ) → (unit_at units k ≡ Free) ↔ (cover (8 * k) free ≡ 1)
  pub each : AllByRecursion IsFree free
  pub apart : Separate free

-- as it is where no text is taken
abbrev pub fresh_unit : List Block → ℕ → UnitState
fresh_unit free k = if cover (8 * k) free == 0 then Open else Free

-- ---- how they change

-- those from begin to end have this state, and the others are as before
pub record FillsUnits (old new : List UnitState) (begin end : ℕ) (state : UnitState) : Type 0 where
  pub long : length new ≡ length old
  pub filled : (k : ℕ) → begin ≤ k → k < end → unit_at new k ≡ state
  pub others : (k : ℕ) → (k < begin) ⊎ (end ≤ k) → unit_at new k ≡ unit_at old k

abbrev pub AreOpen : List UnitState → ℕ → ℕ → Type 0
AreOpen units begin end = (k : ℕ) → begin ≤ k → k < end → unit_at units k ≡ Open

-- one of them is not open
abbrev pub IsShut : List UnitState → ℕ → ℕ → Type 0
IsShut units begin end = (k : ℕ) × (begin ≤ k) × (k < end) × (unit_at units k ≢ Open)

-- all were open, and a text has them now
pub record TakesUnits (old new : List UnitState) (begin end : ℕ) (first : UnitState) : Type 0 where
  pub were_open : AreOpen old begin end
  pub long : length new ≡ length old
  pub first_is : unit_at new begin ≡ first
  pub rest : (k : ℕ) → begin < k → k < end → unit_at new k ≡ Taken
  pub others : (k : ℕ) → (k < begin) ⊎ (end ≤ k) → unit_at new k ≡ unit_at old k
