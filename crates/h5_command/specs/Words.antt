-- Parts of a line round a byte.
use Rattle.std.specs.Prelude.{ℕ, ◌==◌, Option, List, []}
use Rattle.std.specs.List.{slice_split}
use Rattle.std.specs.Option.{option_map_or}
use Rattle.std.specs.Borrow.{Bor}

-- the parts between bytes of this value
abbrev pub parts : ℕ → List ℕ → List (List ℕ)
parts at bytes = slice_split (λ b. b == at) bytes

-- the parts behind the first, where there are any
abbrev pub parts_left : ℕ → Option (Bor (List ℕ)) → List (List ℕ)
parts_left at left = option_map_or (λ bytes. parts at bytes.now) left []
