-- Where an iterator over the parts of a selection stands (File Format Specification 3.0, section III.A.1, chunked raw data).
use Rattle.std.specs.Prelude.{◌≡◌, ℕ, Bool, true, false, ⊤, List, []}
use Rattle.h5_model.specs.Views.Selection.{Slab}
use Rattle.h5_shape.specs.declared.parts.Span.{Span}
use Rattle.h5_shape.specs.declared.parts.Progress.{Progress}
use Rattle.h5_shape.specs.declared.parts.Progress.TheVariants.{Before, At, Behind}
use Rattle.h5_shape.specs.PartsLeft.{parts_after, parts_from, AreOnAxes}

-- the parts that are left: from this one on, behind it, or none
abbrev pub left_parts : Slab → List ℕ → List Span → Progress → List (List Span)
left_parts slab boxes part Before = parts_from slab boxes part
left_parts slab boxes part At = parts_after slab boxes part
left_parts slab boxes part Behind = []

-- a part stands there, unless it is behind the last
abbrev pub IsAtPart : Slab → List ℕ → List Span → Progress → Type 0
IsAtPart slab boxes part Before = AreOnAxes slab boxes part
IsAtPart slab boxes part At = AreOnAxes slab boxes part
IsAtPart slab boxes part Behind = ⊤

-- the first of the parts that are left is given, or there is none
abbrev pub GivesPart : Slab → List ℕ → List (List Span) → Bool → List Span → Type 0
GivesPart slab boxes left true part = left ≡ parts_from slab boxes part
GivesPart slab boxes left false part = left ≡ []
