-- Lists that stand in bytes place by place.
use Rattle.std.specs.Prelude.{ℕ, List, map}
use Rattle.std.specs.List.{range_with_len}

-- the values of f at the first n places
abbrev pub table : {X : Type 0} → (ℕ → X) → ℕ → List X
table f n = map f (range_with_len 0 n)
