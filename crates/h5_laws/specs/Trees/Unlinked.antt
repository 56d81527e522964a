-- What an unlink takes out of a sound tree: a link, and with it each object that no path reaches any more (File Format Specification 3.0,
-- sections III.C and IV.A.1.a).
use Rattle.std.specs.Prelude.{◌≡◌, ◌↔◌, ℕ, ◌+◌, ◌≤◌, if◌then◌else◌, IsSome, Some, None, List}
use Rattle.std.specs.FinMap.{get, remove}
use Rattle.std.specs.List.{Contains, IsDistinct, sum_by}
use Rattle.std.specs.Option.{option_map_or}
use Rattle.std.specs.Ordering.{nat_cmp, eq_by_cmp}
use Rattle.h5_laws.specs.Trees.Sound.{IsSoundTree}
use Rattle.h5_model.specs.Edits.Applied.{with_links}
use Rattle.h5_model.specs.Format.Limits.{most_names}
use Rattle.h5_model.specs.Tree.Objects.{Tree, Link, ToObject, follow, hard_links, leads_to, links_of, links_to, only_reached, with_object, within_names}

abbrev pub without_link : Tree → ℕ → List ℕ → Tree
without_link tree parent name = with_object tree parent (with_links (λ links. remove links name))

-- the tree without a link, and without what no path reaches then
abbrev pub tree_left : Tree → ℕ → List ℕ → Tree
tree_left tree parent name = only_reached (without_link tree parent name)

-- how many hard links of these objects lead to an object
abbrev pub links_from : Tree → List ℕ → ℕ → ℕ
links_from tree numbers n = sum_by (λ k. option_map_or (λ o. links_to n o.content) (get tree k) 0) numbers

-- how many hard links to an object are lost with a link, and with the links of these objects
abbrev pub lost_links : Tree → Link → List ℕ → ℕ → ℕ
lost_links tree link numbers n = (if leads_to n link then 1 else 0) + links_from tree numbers n

-- These are the objects to which paths lead from a link, each once: those to which the link leads, or a link of one of them.
pub record AreReachedFrom (tree : Tree) (link : Link) (numbers : List ℕ) : Type 0 where
  pub once : IsDistinct (eq_by_cmp nat_cmp) numbers
  pub each : (n : ℕ) → Contains numbers n ↔ (1 ≤ lost_links tree link numbers n)
  pub led : (n : ℕ) → Contains numbers n → (path : List (List ℕ)) × (follow tree link path ≡ Some (ToObject n))

-- What is left of a tree where a link goes from which paths lead to these objects. One that loses all its hard links goes, as each group
-- of them does; all others stay, but for the link. To each object those links are left that are not lost.
pub record IsTreeLeft (tree : Tree) (parent : ℕ) (name : List ℕ) (link : Link) (numbers : List ℕ) : Type 0 where
  pub good : IsSoundTree (tree_left tree parent name)
  pub goes : (n : ℕ) → Contains numbers n → lost_links tree link numbers n ≡ hard_links tree n → get (tree_left tree parent name) n ≡ None
  pub stays : (n : ℕ) → (Contains numbers n → lost_links tree link numbers n ≡ hard_links tree n → ⊥)
      → get (tree_left tree parent name) n ≡ get (without_link tree parent name) n
  pub groups : (n : ℕ) → Contains numbers n → IsSome (links_of tree n) → lost_links tree link numbers n ≡ hard_links tree n
  pub counts : (n : ℕ) → hard_links (tree_left tree parent name) n + lost_links tree link numbers n ≡ hard_links tree n
  pub there : (n : ℕ) → Contains numbers n → IsSome (get tree n)
  pub not_parent : Contains numbers parent → ⊥
  pub not_root : Contains numbers 0 → ⊥
  pub within : (m n : ℕ) → link ≡ ToObject m → Contains numbers n → Contains (within_names tree most_names m) n
