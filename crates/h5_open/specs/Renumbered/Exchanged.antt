-- Places of which two exchanged what they have, and objects of which one got a number.
use Rattle.std.specs.Prelude.{◌≡◌, ℕ, Option, Some, List, slice_get}
use Rattle.std.specs.FinMap.{get}
use Rattle.h5_open.specs.declared.opened.object.OpenedObject.{OpenedObject}
use Rattle.h5_open.specs.Opened.Objects.{table_of}

-- what is at i and j is exchanged, all else is where it was
pub record IsExchanged {X : Type 0} (before after : ℕ → X) (i j : ℕ) : Type 0 where
  pub first : after i ≡ before j
  pub second : after j ≡ before i
  pub others : (k : ℕ) → (k ≡ i → ⊥) → (k ≡ j → ⊥) → after k ≡ before k

-- the object with this header and what is in the slot of this number have exchanged their slots
abbrev pub IsGivenNumber : List (Option OpenedObject) → List (Option OpenedObject) → ℕ → ℕ → Type 0
IsGivenNumber before after header number =
    (j : ℕ) × (get (table_of before) j ≡ Some header) × IsExchanged (slice_get before) (slice_get after) number j
