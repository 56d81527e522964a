-- Places a step apart, and the places of selected cells made of them: for each dimension the blocks, and the cells of a block (HDF5
-- dataspace reference, H5Sselect_hyperslab).
use Rattle.std.specs.Prelude.{ℕ, zero, suc, ◌+◌, ◌*◌, ◌<◌, List, [], ◌∷◌, ⊤}
use Rattle.std.specs.List.{flat_map}
use Rattle.h5_model.specs.Tree.Places.{cells}
use Rattle.h5_model.specs.Views.Selection.{Slab}

-- so many places, a step apart
abbrev pub spaced_places : ℕ → ℕ → ℕ → List ℕ
spaced_places zero step place = []
spaced_places (suc n) step place = place ∷ spaced_places n step (place + step)

-- each number is below the bound
abbrev pub ArePlacesBelow : ℕ → List ℕ → Type 0
ArePlacesBelow bound [] = ⊤
ArePlacesBelow bound (p ∷ ps) = (p < bound) × ArePlacesBelow bound ps

-- the place of the first selected cell
abbrev pub first_place : List ℕ → Slab → ℕ
first_place [] slab = 0
first_place (d ∷ ds) [] = 0
first_place (d ∷ ds) (a ∷ rest) = a.start * cells ds + first_place ds rest

-- the places of the selected cells, where the first stands at this one
abbrev pub selected_from : List ℕ → Slab → ℕ → List ℕ
selected_from [] slab place = place ∷ []
selected_from (d ∷ ds) [] place = place ∷ []
selected_from (d ∷ ds) (a ∷ rest) place =
    flat_map (selected_from ds rest) (flat_map (spaced_places a.block (cells ds)) (spaced_places a.count (a.stride * cells ds) place))
