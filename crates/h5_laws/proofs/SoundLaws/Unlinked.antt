-- An unlink keeps a sound tree sound: a group has a link less, and what no path reaches any more is left out.
use Rattle.std.proofs.Common.{◌≡◌, ℕ, ◌≤◌, List, refl, ap, Option, Some, None, arith}
use Rattle.std.specs.Prelude.{is_some}
use Rattle.std.specs.Option.{option_and_then, option_map_or}
use Rattle.std.specs.FinMap.{get, insert, remove}
use Rattle.h5_model.specs.Edits.Applied.{with_links, without_link_at}
use Rattle.h5_model.specs.Tree.Paths.{parent_at}
use Rattle.h5_model.specs.Tree.Objects.{Tree, Object, Content, Group, Array, Links, Link, links_in, links_to, only_reached}
use Rattle.h5_laws.specs.Trees.Sound.{IsSoundTree}
use Rattle.h5_laws.specs.Trees.Unlinked.{without_link}
use Rattle.h5_laws.proofs.SoundLaws.Alike.{links_at}
use Rattle.h5_laws.proofs.SoundLaws.Counts.{fewer_removed}
use Rattle.h5_laws.proofs.SoundLaws.Fewer.{IsFewer, sound_fewer}
use Rattle.h5_laws.proofs.SoundLaws.Inserted.{put_cases, removed_was}
use Rattle.h5_laws.proofs.SoundLaws.Sums.{weight}

abbrev link_by : List ℕ → Option Links → Option Link
link_by x = option_and_then (λ (ls : Links). get ls x)

fewer_itself : (tree : Tree) → IsFewer tree tree
fewer_itself tree = record {
  objects = λ n. refl;
  groups = λ n. refl;
  links = λ n x l is. is;
  counts = λ n k o is. let same = ap (weight (λ (p : Object). links_to n p.content)) is in omega (arith, same);
}

-- an object that has fewer links
module _ (tree : Tree) (number : ℕ) (o new : Object) (stands : get tree number ≡ Some o) (group : is_some (links_in new.content) ≡ is_some (links_in o.content))
    (links : (x : List ℕ) (l : Link) → link_by x (links_in new.content) ≡ Some l → link_by x (links_in o.content) ≡ Some l)
    (counts : (n : ℕ) → links_to n new.content ≤ links_to n o.content) where
  fewer_put : IsFewer tree (insert tree number new)
  fewer_put = record {
    objects = put_cases tree number o new stands (λ x y. is_some x ≡ is_some y) refl (λ x. refl);
    groups = put_cases tree number o new stands (λ x y. is_some (links_at x) ≡ is_some (links_at y)) group (λ x. refl);
    links = λ n name l. put_cases tree number o new stands (λ x y. link_by name (links_at x) ≡ Some l → link_by name (links_at y) ≡ Some l) (links name l) (λ x is. is) n;
    counts = λ n k p. put_cases tree number o new stands (λ x y. x ≡ Some p → links_to n p.content ≤ weight (λ (q : Object). links_to n q.content) y)
        (λ is. let same : new ≡ p = cc in let low = counts n in let here = ap (λ (q : Object). links_to n q.content) same in omega (arith, low, here))
        (λ x is. let same = ap (weight (λ (q : Object). links_to n q.content)) is in omega (arith, same)) k;
  }

-- ---- one link taken away

abbrev without : List ℕ → Object → Object
without name = with_links (λ links. remove links name)

still_group : (name : List ℕ) (o : Object) → is_some (links_in (without name o).content) ≡ is_some (links_in o.content)
still_group name o = go o.content where
  go : (c : Content) → is_some (links_in (without name (record o { content = c })).content) ≡ is_some (links_in c)
  go (Group links) = refl
  go (Array d) = refl

old_links : (name : List ℕ) (o : Object) (x : List ℕ) (l : Link) → link_by x (links_in (without name o).content) ≡ Some l → link_by x (links_in o.content) ≡ Some l
old_links name o x l = go o.content where
  go : (c : Content) → link_by x (links_in (without name (record o { content = c })).content) ≡ Some l → link_by x (links_in c) ≡ Some l
  go (Group links) is = removed_was links name x l is
  go (Array d) is = is

no_more_links : (name : List ℕ) (o : Object) (n : ℕ) → links_to n (without name o).content ≤ links_to n o.content
no_more_links name o n = go o.content where
  go : (c : Content) → links_to n (without name (record o { content = c })).content ≤ links_to n c
  go (Group links) = fewer_removed n links name
  go (Array d) = omega arith

-- a tree without one of a group's links
pub fewer_without : (tree : Tree) (parent : ℕ) (name : List ℕ) → IsFewer tree (without_link tree parent name)
fewer_without tree parent name = go (get tree parent) refl where
  go : (found : Option Object) → get tree parent ≡ found → IsFewer tree (option_map_or (λ o. insert tree parent (without name o)) found tree)
  go None is = fewer_itself tree
  go (Some o) is = fewer_put tree parent o (without name o) is (still_group name o) (old_links name o) (no_more_links name o)

fewer_unlinked : (tree : Tree) (path : List ℕ) → IsFewer tree (without_link_at tree path)
fewer_unlinked tree path = go (parent_at tree path) where
  go : (found : Option (ℕ × List ℕ)) → IsFewer tree (option_map_or (λ p. without_link tree p.0 p.1) found tree)
  go None = fewer_itself tree
  go (Some p) = fewer_without tree p.0 p.1

-- whichever link it is
pub sound_unlinked : (tree : Tree) (path : List ℕ) → IsSoundTree tree → IsSoundTree (only_reached (without_link_at tree path))
sound_unlinked tree path sound = sound_fewer tree (without_link_at tree path) (fewer_unlinked tree path) sound
