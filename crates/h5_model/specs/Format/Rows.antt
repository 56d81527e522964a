-- B-trees, version 1, by their rows: the nodes of one level from left to right, each of which names its neighbours (File Format
-- Specification 3.0, section III.A.1).
use Rattle.std.specs.Prelude.{◌≡◌, ℕ, zero, suc, ◌==◌, if◌then◌else◌, List, [], ◌∷◌, ◌++◌, ⊤}
use Rattle.std.specs.List.{flat_map, list_any}
use Rattle.h5_bytes.specs.Bytes.{undefined_address}

-- what a node says; it has one key more than it has children
pub record Node : Type 0 where
  pub level : ℕ
  pub left : ℕ
  pub right : ℕ
  pub keys : List (List ℕ)
  pub children : List ℕ

-- what is read at each address
abbrev pub Reading : Type 0
Reading = ℕ → Node

-- what is read where a tree owns nothing: a level that no node has
abbrev pub blank : Node
blank = record { level = 16; left = undefined_address; right = undefined_address; keys = []; children = [] }

-- what f reads at these addresses, and x elsewhere
abbrev pub only : {X : Type 0} → X → (ℕ → X) → List ℕ → ℕ → X
only x f owned = λ at. if list_any (λ n. n == at) owned then f at else x

-- the children of a row, in order: the next row
abbrev pub next_row : Reading → List ℕ → List ℕ
next_row V row = flat_map (λ n. (V n).children) row

-- the first node of what stands to the right
abbrev pub first_or_undefined : List ℕ → ℕ
first_or_undefined [] = undefined_address
first_or_undefined (n ∷ row) = n

-- the nodes of a row are of this level, and each names its neighbours; `left` stands before the row
abbrev pub IsRow : Reading → ℕ → ℕ → List ℕ → Type 0
IsRow V level left [] = ⊤
IsRow V level left (n ∷ row) =
    ((V n).level ≡ level) × ((V n).left ≡ left) × ((V n).right ≡ first_or_undefined row) × IsRow V level n row

-- this row of the level, and each row below it
abbrev pub AreRows : Reading → ℕ → List ℕ → Type 0
AreRows V zero row = IsRow V 0 undefined_address row
AreRows V (suc level) row = IsRow V (suc level) undefined_address row × AreRows V level (next_row V row)

-- the row so many levels below a row
abbrev pub row_below : Reading → ℕ → List ℕ → List ℕ
row_below V zero row = row
row_below V (suc depth) row = row_below V depth (next_row V row)

-- the children of the nodes at level 0, below a row of this level
abbrev pub leaves : Reading → ℕ → List ℕ → List ℕ
leaves V level row = next_row V (row_below V level row)

-- all nodes from a row of this level down
abbrev pub nodes : Reading → ℕ → List ℕ → List ℕ
nodes V zero row = row
nodes V (suc level) row = row ++ nodes V level (next_row V row)
