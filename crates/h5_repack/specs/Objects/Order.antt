-- An order in which all objects of a tree are written: the root first, and with a group all to which its links lead.
use Rattle.std.specs.Prelude.{◌≡◌, ℕ, IsSome, Some, List, ◌∷◌}
use Rattle.std.specs.Ordering.{nat_cmp, eq_by_cmp}
use Rattle.std.specs.FinMap.{get}
use Rattle.std.specs.List.{AllByRecursion, Contains, IsDistinct}
use Rattle.h5_model.specs.Tree.Objects.{Tree, ToObject, link_in}

pub record AreMet (tree : Tree) (order : List ℕ) : Type 0 where
  pub others : List ℕ
  pub first : order ≡ 0 ∷ others
  pub there : AllByRecursion (λ number. IsSome (get tree number)) order
  pub distinct : IsDistinct (eq_by_cmp nat_cmp) order
  pub closed : (number other : ℕ) (name : List ℕ) → Contains order number → link_in tree number name ≡ Some (ToObject other) → Contains order other
