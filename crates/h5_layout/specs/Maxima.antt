-- The largest sizes of an array (File Format Specification 3.0, section IV.A.2.b).
use Rattle.std.specs.Prelude.{◌≡◌, ℕ, Option, List, length}
use Rattle.h5_layout.specs.declared.array.Maxima.{Maxima}
use Rattle.h5_layout.specs.declared.array.Maxima.TheVariants.{Given, Read}

-- as they were read or handed over; None is unlimited
abbrev pub maxima_in : Maxima → List (Option ℕ)
maxima_in (Read extent) = extent.maxima
maxima_in (Given maxima) = maxima.now

-- there are as many as these sizes
abbrev pub AreMaximaOf : Maxima → List ℕ → Type 0
AreMaximaOf (Read extent) sizes = length extent.sizes ≡ length sizes
AreMaximaOf (Given maxima) sizes = length maxima.now ≡ length sizes
