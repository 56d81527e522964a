-- Places of cells as runs of consecutive ones (HDF5 dataspace reference, H5Sselect_hyperslab).
use Rattle.std.specs.Prelude.{ℕ, ◌+◌, ◌==◌, ◌<◌, ◌≢◌, ⊤, if◌then◌else◌, List, [], ◌∷◌}
use Rattle.std.specs.List.{flat_map, range_with_len}
use Rattle.h5_shape.specs.declared.runs.CellRun.{CellRun}

-- a place before runs: one with the first run, where that is the next place
abbrev pub runs_with : ℕ → List CellRun → List CellRun
runs_with place [] = record { place = place; length = 1 } ∷ []
runs_with place (r ∷ rs) =
    if r.place == place + 1 then record { place = place; length = r.length + 1 } ∷ rs
    else record { place = place; length = 1 } ∷ r ∷ rs

-- the maximal runs of consecutive places
abbrev pub cell_runs : List ℕ → List CellRun
cell_runs [] = []
cell_runs (p ∷ ps) = runs_with p (cell_runs ps)

-- the places of runs
abbrev pub places_in : List CellRun → List ℕ
places_in runs = flat_map (λ r. range_with_len r.place r.length) runs

-- no run is empty, and none begins where the one before it ends
abbrev pub AreMaximal : List CellRun → Type 0
AreMaximal [] = ⊤
AreMaximal (r ∷ []) = 0 < r.length
AreMaximal (r ∷ s ∷ rs) = (0 < r.length) × (s.place ≢ r.place + r.length) × AreMaximal (s ∷ rs)
