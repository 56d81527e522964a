-- What the parts of every tree keep to.
use Rattle.std.specs.Prelude.{◌≡◌, ℕ, true, ℤ, length, List}
use Rattle.std.specs.List.{AllByRecursion}
use Rattle.h5_model.specs.Format.Fixed.{Fixed, fits}
use Rattle.h5_model.specs.Tree.Places.{cells}
use Rattle.h5_model.specs.Tree.Objects.{Dataset, Chunked}

-- each value is one of the type's
abbrev pub AreOf : Fixed → List ℤ → Type 0
AreOf t values = AllByRecursion (λ v. fits t v ≡ true) values

-- one value of the type for each cell, and one maximum and one chunk size for each dimension
pub record IsDataset (d : Dataset) : Type 0 where
  pub counted : length d.cells ≡ cells d.sizes
  pub fill : fits d.fixed d.fill ≡ true
  pub values : AreOf d.fixed d.cells
  pub bounded : length d.maxima ≡ length d.sizes
  pub boxed : (chunk : List ℕ) → d.storage ≡ Chunked chunk → length chunk ≡ length d.sizes
