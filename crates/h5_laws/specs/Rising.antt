-- Items with numbers that rise.
use Rattle.std.specs.Prelude.{ℕ, ◌+◌, ◌≤◌, List, [], ◌∷◌}

-- the numbers of the items rise, the first from `low` on, and are below `end`
abbrev pub RiseWithin : {X : Type 0} → (X → ℕ) → ℕ → List X → ℕ → Type 0
RiseWithin number low [] end = low ≤ end
RiseWithin number low (x ∷ xs) end = (low ≤ number x) × RiseWithin number (number x + 1) xs end
