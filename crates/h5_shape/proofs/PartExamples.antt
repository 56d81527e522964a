-- Parts of small selections, counted by hand.
use Rattle.std.proofs.Common.{◌≡◌, ℕ, [], ◌∷◌, refl}
use Rattle.h5_model.specs.declared.Axis.{Axis}
use Rattle.h5_shape.specs.declared.parts.Span.{Span}
use Rattle.h5_shape.specs.Parts.{parts_of}

-- 1, 2, 4 and 5
abbrev pairs : Axis
pairs = record { start = 1; stride = 3; count = 2; block = 2 }

-- 0 to 4
abbrev five : Axis
five = record { start = 0; stride = 1; count = 1; block = 5 }

abbrev span : ℕ → ℕ → ℕ → Span
span corner from length = record { corner = corner; from = from; length = length }

-- boxes of 2 by 4: three rows of boxes, of which the last holds two numbers, and two boxes in each
pub two_dimensions : parts_of (pairs ∷ five ∷ []) (2 ∷ 4 ∷ [])
    ≡ (span 0 0 1 ∷ span 0 0 4 ∷ []) ∷ (span 0 0 1 ∷ span 4 4 1 ∷ [])
    ∷ (span 2 1 1 ∷ span 0 0 4 ∷ []) ∷ (span 2 1 1 ∷ span 4 4 1 ∷ [])
    ∷ (span 4 2 2 ∷ span 0 0 4 ∷ []) ∷ (span 4 2 2 ∷ span 4 4 1 ∷ []) ∷ []
two_dimensions = refl

-- boxes between the blocks are left out
pub far_apart : parts_of (record { start = 7; stride = 100; count = 2; block = 1 } ∷ []) (10 ∷ []) ≡ (span 0 0 1 ∷ []) ∷ (span 100 1 1 ∷ []) ∷ []
far_apart = refl

-- a scalar is one part, and a selection of no cell none
pub scalar : parts_of [] [] ≡ [] ∷ []
scalar = refl

pub nothing : parts_of (pairs ∷ record { start = 0; stride = 1; count = 0; block = 5 } ∷ []) (2 ∷ 4 ∷ []) ≡ []
nothing = refl
