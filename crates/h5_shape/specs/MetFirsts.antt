-- The boxes of a grid that an edit and a view both meet, by their first indexes (File Format Specification 3.0, section III.A.1, chunked
-- raw data).
use Rattle.std.specs.Prelude.{◌≡◌, ◌≢◌, ℕ, ◌+◌, ◌-◌, ◌*◌, ◌/◌, ◌⊎◌, ◌&&◌, ◌||◌, Bool, true, false, not, nat_lt, min, ◌≤◌, List, [], ◌∷◌, length, map}
use Rattle.std.specs.List.{AllByRecursion, filter, list_any, range_with_len}
use Rattle.h5_model.specs.declared.hyperslab.Axis.{Axis}
use Rattle.h5_model.specs.Format.Limits.{most_dimensions}
use Rattle.h5_model.specs.Tree.Grid.{first_of_box}
use Rattle.h5_model.specs.Tree.Places.{is_inside}
use Rattle.h5_model.specs.Views.Selection.{Slab, is_selected, is_selected_along, overlaps}
use Rattle.h5_model.specs.Views.Shown.{met_boxes}
use Rattle.h5_shape.specs.PartCells.{AreParted, part_corner}
use Rattle.h5_shape.specs.declared.met.MetTest.{MetTest}
use Rattle.h5_shape.specs.declared.met.MetTest.TheVariants.{Selects, Loses}
use Rattle.h5_shape.specs.declared.parts.Span.{Span}

-- the first indexes of the boxes that are met
abbrev pub met_firsts : List ℕ → List ℕ → (List ℕ → Bool) → Slab → List (List ℕ)
met_firsts sizes box touched slab = map (first_of_box box) (met_boxes sizes box touched slab)

-- the indexes of an array that a write selects, and those that it loses where these sizes are kept
abbrev pub is_written_at : List ℕ → Slab → List ℕ → Bool
is_written_at sizes slab index = is_inside sizes index && is_selected slab index

abbrev pub is_lost_at : List ℕ → List ℕ → List ℕ → Bool
is_lost_at sizes kept index = is_inside sizes index && not (is_inside kept index)

-- ---- one box, by its first index

-- some number of the box is selected
abbrev pub meets_along : Axis → ℕ → ℕ → Bool
meets_along a corner size = list_any (is_selected_along a) (range_with_len corner size)

-- in every dimension
abbrev pub meets_box : Slab → List ℕ → List ℕ → Bool
meets_box [] grid corner = true
meets_box (a ∷ rest) [] corner = true
meets_box (a ∷ rest) (b ∷ bs) [] = true
meets_box (a ∷ rest) (b ∷ bs) (c ∷ cs) = meets_along a c b && meets_box rest bs cs

-- what lies inside the sizes of it reaches past those kept in some dimension
abbrev pub reaches_past : List ℕ → List ℕ → List ℕ → List ℕ → Bool
reaches_past (d ∷ ds) (k ∷ ks) (b ∷ bs) (c ∷ cs) = nat_lt k (min d (c + b)) || reaches_past ds ks bs cs
reaches_past _ _ _ _ = false

-- it holds an index that is lost
abbrev pub loses_box : List ℕ → List ℕ → List ℕ → List ℕ → Bool
loses_box sizes kept grid corner = is_inside sizes corner && reaches_past sizes kept grid corner

-- some size is kept in part
abbrev pub is_reduced : List ℕ → List ℕ → Bool
is_reduced (d ∷ ds) (k ∷ ks) = nat_lt k d || is_reduced ds ks
is_reduced _ _ = false

-- ---- selections that share no box

-- the last number of an axis that has one
abbrev pub last_along : Axis → ℕ
last_along a = a.start + (a.count - 1) * a.stride + (a.block - 1)

-- no box of this size along an axis holds a number of both
abbrev pub ShareNoBox : ℕ → Axis → Axis → Type 0
ShareNoBox size a b = (x y : ℕ) → is_selected_along a x ≡ true → is_selected_along b y ≡ true → x / size ≢ y / size

-- so it is in some dimension
abbrev pub LieBeside : List ℕ → Slab → Slab → Type 0
LieBeside (size ∷ sizes) (a ∷ one) (b ∷ other) = ShareNoBox size a b ⊎ LieBeside sizes one other
LieBeside _ _ _ = ⊥

-- ---- boxes that are left

-- the box passes a test
abbrev pub passes_box : MetTest → List ℕ → List ℕ → Bool
passes_box (Selects axes) grid corner = meets_box axes.now grid corner
passes_box (Loses sizes kept) grid corner = loses_box sizes.now kept.now grid corner

-- the test is of as many dimensions, and no blocks overlap
abbrev pub IsTestOf : MetTest → List ℕ → Type 0
IsTestOf (Selects axes) grid = (length axes.now ≡ length grid) × (list_any overlaps axes.now ≡ false)
IsTestOf (Loses sizes kept) grid = (length sizes.now ≡ length grid) × (length kept.now ≡ length grid)

-- the first indexes of those parts whose boxes pass
abbrev pub firsts_left : MetTest → List ℕ → List (List Span) → List (List ℕ)
firsts_left test grid parts = filter (passes_box test grid) (map part_corner parts)

-- parts of as many dimensions
abbrev pub AreRanked : List ℕ → List (List Span) → Type 0
AreRanked grid parts = AllByRecursion (λ (part : List Span). length part ≡ length grid) parts

-- boxes of this rank are left to be tested
pub record AreTested (test : MetTest) (grid : List ℕ) (parts : List (List Span)) : Type 0 where
  pub few : length grid ≤ most_dimensions
  pub test_of : IsTestOf test grid
  pub ranks : AreRanked grid parts

-- the first indexes of those boxes of a selection's parts that pass
abbrev pub AreTestedOf : Slab → List ℕ → MetTest → List (List ℕ) → Type 0
AreTestedOf slab grid test firsts = (parts : List (List Span)) × AreParted slab grid parts × (firsts ≡ firsts_left test grid parts)

-- the first part's corner is given and the others are left, or there is none
abbrev pub HasCorner : List (List Span) → Bool → List (List Span) → List ℕ → Type 0
HasCorner parts true left corner = (part : List Span) × (parts ≡ part ∷ left) × (corner ≡ part_corner part)
HasCorner parts false left corner = (parts ≡ []) × (left ≡ [])

-- the first box is given and the others are left, or there is none
abbrev pub HasNextBox : List (List ℕ) → Bool → List (List ℕ) → List ℕ → Type 0
HasNextBox boxes true left first = boxes ≡ first ∷ left
HasNextBox boxes false left first = (boxes ≡ []) × (left ≡ [])
