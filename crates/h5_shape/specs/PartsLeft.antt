-- The parts of a selection from one of them on, in row-major order (File Format Specification 3.0, section III.A.1, chunked raw data).
use Rattle.std.specs.Prelude.{◌≡◌, ℕ, ◌+◌, ◌*◌, ◌^◌, ◌<◌, ◌≤◌, Bool, true, false, ⊤, List, [], ◌∷◌, ◌++◌, drop, map}
use Rattle.std.specs.List.{flat_map}
use Rattle.h5_model.specs.declared.hyperslab.Axis.{Axis}
use Rattle.h5_model.specs.Views.Selection.{Slab, has_no_cell, overlaps, fits_along}
use Rattle.h5_shape.specs.declared.parts.Span.{Span}
use Rattle.h5_shape.specs.Parts.{numbers_along, spans_from, parts_of}

-- the spans behind this one
abbrev pub spans_after : Axis → ℕ → Span → List Span
spans_after a box s = spans_from box (s.from + s.length) (drop (s.from + s.length) (numbers_along a))

-- the parts behind this one
abbrev pub parts_after : Slab → List ℕ → List Span → List (List Span)
parts_after (a ∷ rest) (b ∷ bs) (s ∷ ss) =
    map (λ part. s ∷ part) (parts_after rest bs ss)
    ++ flat_map (λ t. map (λ part. t ∷ part) (parts_of rest bs)) (spans_after a b s)
parts_after _ _ _ = []

-- this part and those behind it
abbrev pub parts_from : Slab → List ℕ → List Span → List (List Span)
parts_from slab boxes part = part ∷ parts_after slab boxes part

-- the next part stands in the place of one, or where that was the last, the first of all
abbrev pub GoesOnTo : Slab → List ℕ → List Span → Bool → List Span → Type 0
GoesOnTo slab boxes part true next = parts_after slab boxes part ≡ parts_from slab boxes next
GoesOnTo slab boxes part false next = (parts_after slab boxes part ≡ []) × (parts_from slab boxes next ≡ parts_of slab boxes)

-- an axis with a selected number, all of them below 2^64, and the size of a box
pub record IsBoxed (a : Axis) (box : ℕ) : Type 0 where
  pub sized : 1 ≤ box
  pub some : has_no_cell a ≡ false
  pub apart : overlaps a ≡ false
  pub top : fits_along (2 ^ 64) a ≡ true

-- a span of numbers that the axis selects
pub record IsOnAxis (a : Axis) (box : ℕ) (s : Span) : Type 0 where
  pub boxed : IsBoxed a box
  pub some : 0 < s.length
  pub inside : s.from + s.length ≤ a.count * a.block

-- the same of each axis and its size
abbrev pub AreBoxed : Slab → List ℕ → Type 0
AreBoxed [] [] = ⊤
AreBoxed (a ∷ rest) (b ∷ bs) = IsBoxed a b × AreBoxed rest bs
AreBoxed _ _ = ⊥

-- the same of each span of a part
abbrev pub AreOnAxes : Slab → List ℕ → List Span → Type 0
AreOnAxes [] [] [] = ⊤
AreOnAxes (a ∷ rest) (b ∷ bs) (s ∷ ss) = IsOnAxis a b s × AreOnAxes rest bs ss
AreOnAxes _ _ _ = ⊥
