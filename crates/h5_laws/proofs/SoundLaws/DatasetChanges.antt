-- A change of a dataset leaves the links of a tree, so it keeps a sound tree sound.
use Rattle.std.proofs.Common.{◌≡◌, ℕ, List, refl, Option, Some, None}
use Rattle.std.specs.Option.{option_map_or}
use Rattle.std.specs.FinMap.{get, insert}
use Rattle.h5_model.specs.Edits.Applied.{with_object_at, with_dataset}
use Rattle.h5_model.specs.Tree.Paths.{object_at}
use Rattle.h5_model.specs.Tree.Objects.{Tree, Object, Content, Group, Array, Dataset, links_in, links_to, with_object}
use Rattle.h5_laws.specs.Trees.Sound.{IsSoundTree}
use Rattle.h5_laws.proofs.SoundLaws.Alike.{sound_alike, alike_links}

kept_links : (change : Dataset → Dataset) (o : Object) → links_in (with_dataset change o).content ≡ links_in o.content
kept_links change o = go o.content where
  go : (c : Content) → links_in (with_dataset change (record o { content = c })).content ≡ links_in c
  go (Group links) = refl
  go (Array d) = refl

kept_counts : (change : Dataset → Dataset) (o : Object) (n : ℕ) → links_to n (with_dataset change o).content ≡ links_to n o.content
kept_counts change o n = go o.content where
  go : (c : Content) → links_to n (with_dataset change (record o { content = c })).content ≡ links_to n c
  go (Group links) = refl
  go (Array d) = refl

-- whatever becomes of a dataset, the tree is as sound
pub sound_dataset : (tree : Tree) (path : List ℕ) (change : Dataset → Dataset) → IsSoundTree tree → IsSoundTree (with_object_at tree path (with_dataset change))
sound_dataset tree path change sound = at_path (object_at tree path) where
  at_number : (number : ℕ) (found : Option Object) → get tree number ≡ found → IsSoundTree (option_map_or (λ o. insert tree number (with_dataset change o)) found tree)
  at_number number None is = sound
  at_number number (Some o) is =
      sound_alike tree (insert tree number (with_dataset change o)) (alike_links tree number o (with_dataset change o) is (kept_links change o) (kept_counts change o)) sound

  at_path : (found : Option ℕ) → IsSoundTree (option_map_or (λ number. with_object tree number (with_dataset change)) found tree)
  at_path None = sound
  at_path (Some number) = at_number number (get tree number) refl
