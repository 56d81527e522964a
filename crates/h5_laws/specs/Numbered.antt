-- A list with numbers.
use Rattle.std.specs.Prelude.{ℕ, ◌+◌, List, [], ◌∷◌}

-- a list with the numbers from n on
abbrev pub numbered_from : {X : Type 0} → ℕ → List X → List (ℕ × X)
numbered_from n [] = []
numbered_from n (x ∷ xs) = (n, x) ∷ numbered_from (n + 1) xs
