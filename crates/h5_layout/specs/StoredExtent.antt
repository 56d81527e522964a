-- How large an array is and may become, and whether its cells are in chunks (File Format Specification 3.0, sections IV.A.2.b and
-- IV.A.2.i).
use Rattle.std.specs.Prelude.{ℕ, Bool, Option, List}

-- a maximum of None is unlimited
pub record StoredExtent : Type 0 where
  pub sizes : List ℕ
  pub maxima : List (Option ℕ)
  pub chunked : Bool

-- of these sizes and maxima, in chunks or not
abbrev pub stored_extent : List ℕ → List (Option ℕ) → Bool → StoredExtent
stored_extent sizes maxima chunked = record { sizes = sizes; maxima = maxima; chunked = chunked }
