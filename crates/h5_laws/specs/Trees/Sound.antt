-- What every tree keeps to that an image reads as, or that an accepted edit gives (groups and links: File Format Specification 3.0,
-- sections III.B, III.C and IV.A.2.r).
use Rattle.std.specs.Prelude.{◌≡◌, ℕ, ◌+◌, ◌≤◌, ◌==◌, true, false, IsSome, Some, if◌then◌else◌, List, length}
use Rattle.std.specs.FinMap.{get}
use Rattle.h5_model.specs.Format.Limits.{most_hard_links, most_names}
use Rattle.h5_model.specs.Tree.Paths.{is_name}
use Rattle.h5_model.specs.Edits.Refusal.{has_zero}
use Rattle.h5_model.specs.Tree.Objects.{Tree, ToObject, Soft, follow, hard_links, link_in, links_of}

-- The root is a group; each link has a name and leads to an object or a text; a path of at most `most_names` leads to each object, and none
-- is longer; a group has one link, the root none, and no object more than `most_hard_links`.
pub record IsSoundTree (tree : Tree) : Type 0 where
  pub rooted : IsSome (links_of tree 0)
  pub named : (number : ℕ) (name : List ℕ) → IsSome (link_in tree number name) → is_name name ≡ true
  pub linked : (number other : ℕ) (name : List ℕ) → link_in tree number name ≡ Some (ToObject other) → IsSome (get tree other)
  pub spelled : (number : ℕ) (name text : List ℕ) → link_in tree number name ≡ Some (Soft text) → has_zero text ≡ false
  pub reached : (number : ℕ) → IsSome (get tree number) → (path : List (List ℕ)) × (follow tree (ToObject 0) path ≡ Some (ToObject number))
  pub shallow : (path : List (List ℕ)) → IsSome (follow tree (ToObject 0) path) → length path ≤ most_names
  pub once : (number : ℕ) → IsSome (links_of tree number) → hard_links tree number + (if number == 0 then 1 else 0) ≡ 1
  pub few : (number : ℕ) → IsSome (get tree number) → hard_links tree number ≤ most_hard_links
