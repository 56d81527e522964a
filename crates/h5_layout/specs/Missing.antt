-- The parts of a selection, gone through box by box, and the corners of those at which no chunk is stored (File Format Specification
-- 3.0, section III.A.1).
use Rattle.std.specs.Prelude.{◌≡◌, ℕ, Bool, true, false, not, is_some, List, [], ◌∷◌}
use Rattle.std.specs.FinMap.{get}
use Rattle.std.specs.List.{filter}
use Rattle.h5_model.specs.Format.Chunks.{Chunks}
use Rattle.h5_shape.specs.PartCells.{part_corner}
use Rattle.h5_shape.specs.declared.parts.Span.{Span}

-- the corner of the first part is there, and the others are left; or there is no part
abbrev pub HasNextCorner : List (List Span) → Bool → List (List Span) → List ℕ → Type 0
HasNextCorner parts true left corner = (part : List Span) × (parts ≡ part ∷ left) × (corner ≡ part_corner part)
HasNextCorner parts false left corner = parts ≡ []

-- of these corners those at which no chunk is stored
abbrev pub corners_missing : Chunks → List (List ℕ) → List (List ℕ)
corners_missing stored corners = filter (λ corner. not (is_some (get stored corner))) corners
