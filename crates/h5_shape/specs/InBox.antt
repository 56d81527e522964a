-- Which of the numbers that axes select lie in one box of a chunk grid, by their positions (File Format Specification 3.0, section
-- III.A.1, chunked raw data; HDF5 dataspace reference, H5Sselect_hyperslab).
use Rattle.std.specs.Prelude.{◌≡◌, ℕ, ◌+◌, ◌*◌, ◌/◌, ◌%◌, ◌^◌, ◌<◌, ◌≤◌, ◌↔◌, ⊤, true, false, List, [], ◌∷◌}
use Rattle.h5_model.specs.declared.hyperslab.Axis.{Axis}
use Rattle.h5_model.specs.Views.Selection.{Slab, fits_along, overlaps}
use Rattle.h5_shape.specs.declared.parts.Span.{Span}

-- the number that an axis selects at a position
abbrev pub number_along : Axis → ℕ → ℕ
number_along a t = a.start + t / a.block * a.stride + t % a.block

-- at just the positions below n stand numbers below x
abbrev pub IsBelow : Axis → ℕ → ℕ → Type 0
IsBelow a x n = (n ≤ a.count * a.block) × ((t : ℕ) → t < a.count * a.block → (number_along a t < x) ↔ (t < n))

-- a span of positions of an axis whose blocks share no number and whose numbers are below 2^63
pub record IsSpan (a : Axis) (s : Span) : Type 0 where
  pub some : 0 < s.length
  pub apart : overlaps a ≡ false
  pub inside : s.from + s.length ≤ a.count * a.block
  pub top : fits_along (2 ^ 63) a ≡ true

-- a span has just the positions of those numbers that lie in a box along an axis
abbrev pub IsSpanIn : Axis → ℕ → ℕ → Span → Type 0
IsSpanIn a corner size s = (s.from + s.length ≤ a.count * a.block) × (s.corner ≡ corner)
    × ((t : ℕ) → t < a.count * a.block → ((corner ≤ number_along a t) × (number_along a t < corner + size)) ↔ ((s.from ≤ t) × (t < s.from + s.length)))

-- the same of each axis
abbrev pub AreSpansIn : Slab → List ℕ → List ℕ → List Span → Type 0
AreSpansIn [] corner sizes [] = ⊤
AreSpansIn (a ∷ rest) (c ∷ cs) (b ∷ bs) (s ∷ ss) = IsSpanIn a c b s × AreSpansIn rest cs bs ss
AreSpansIn _ _ _ _ = ⊥

abbrev pub AreSpans : Slab → List Span → Type 0
AreSpans [] [] = ⊤
AreSpans (a ∷ rest) (s ∷ ss) = IsSpan a s × AreSpans rest ss
AreSpans _ _ = ⊥

-- the blocks of each axis share no number, and their numbers are below 2^63
abbrev pub AreApart : Slab → Type 0
AreApart [] = ⊤
AreApart (a ∷ rest) = ((overlaps a ≡ false) × (fits_along (2 ^ 63) a ≡ true)) × AreApart rest

-- the first index of a box of the grid of such boxes
abbrev pub IsCorner : List ℕ → List ℕ → Type 0
IsCorner [] [] = ⊤
IsCorner (b ∷ bs) (c ∷ cs) = ((0 < b) × (c / b * b ≡ c)) × IsCorner bs cs
IsCorner _ _ = ⊥
