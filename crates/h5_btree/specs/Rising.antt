-- What rises from one item to the next along a row of a tree, by something that each item has, as names or offsets (File Format
-- Specification 3.0, sections III.A.1 and III.B).
use Rattle.std.specs.Prelude.{◌≡◌, ℕ, ◌<◌, List, [], ◌∷◌, ◌++◌, Option, Some, IfSome, take, length, slice_index_or}
use Rattle.std.specs.List.{flat_map}
use Rattle.h5_model.specs.Faults.TreeFaults.{Falls}

-- what the last of these items has, or where there are none what the one before them has
abbrev pub last_value : {X Y : Type 0} → (X → Y) → Option Y → List X → Option Y
last_value value last [] = last
last_value value last (x ∷ xs) = last_value value (Some (value x)) xs

-- it is above the last one, where there is one
abbrev pub IsAbove : {Y : Type 0} → (Y → Y → Type 0) → Option Y → Y → Type 0
IsAbove Below last y = IfSome last (λ before. Below before y)

-- what each of these items has is above what the one before it has
abbrev pub RiseFrom : {X Y : Type 0} → (X → Y) → (Y → Y → Type 0) → Option Y → List X → Type 0
RiseFrom value Below last [] = Unit {0}
RiseFrom value Below last (x ∷ xs) = IsAbove Below last (value x) × RiseFrom value Below (Some (value x)) xs

-- what one of them has is not
abbrev pub FallFrom : {X Y : Type 0} → (X → Y) → (Y → Y → Type 0) → Option Y → List X → Type 0
FallFrom {X} {Y} value Below last xs = (i : ℕ) × (x : X) × (before : Y) × (i < length xs) × (slice_index_or xs i x ≡ x)
    × (last_value value last (take i xs) ≡ Some before) × (Below before (value x) → ⊥)

-- an item at this address, which is one of a row, has something that is not above what an item has that stands before it in the row
abbrev pub FallAt : {X Y : Type 0} → (X → Y) → (Y → Y → Type 0) → (ℕ → List X) → List ℕ → ℕ → Type 0
FallAt {X} value Below items row at = (before : List ℕ) × (after : List ℕ) × (row ≡ before ++ at ∷ after)
    × Falls (λ (x : X) (y : X). Below (value x) (value y)) (flat_map items before) (items at)
