-- What an unlink of a path takes out of a tree: the link in the group before the last name, and what no path reaches then.
use Rattle.std.proofs.Common.{◌≡◌, ℕ, List, refl, sym, ap, ◌∙◌, Option, Some, None}
use Rattle.std.specs.Option.{option_and_then, option_map_or}
use Rattle.std.specs.FinMap.{get}
use Rattle.h5_model.specs.Edits.Applied.{with_edit}
use Rattle.h5_model.specs.Tree.Paths.{Here, Missing, NoGroup, NoPath, names_of, locate, location_of, parent_from, parent_at}
use Rattle.h5_model.specs.declared.edits.Edit.TheVariants.{Unlink}
use Rattle.h5_model.proofs.PathLaws.{beside, locate-beside}
use Rattle.h5_model.specs.Tree.Objects.{Tree, Links, Link, ToObject, links_of, link_in, only_reached}
use Rattle.h5_laws.specs.Trees.Unlinked.{tree_left, without_link}
use Rattle.h5_laws.proofs.SoundLaws.LinksThere.{GroupAt, group_of, link_is}

-- what stands at a path stands in the group before its last name
there_beside : (tree : Tree) (p : ℕ × List ℕ) (link : Link) → beside tree p ≡ Here link → (g : GroupAt tree p.0) × (get g.links p.1 ≡ Some link)
there_beside tree p link is = go (links_of tree p.0) refl is where
  at_name : (links : Links) (o : Option Link) → links_of tree p.0 ≡ Some links → get links p.1 ≡ o → option_map_or (λ l. Here l) o Missing ≡ Here link
      → (g : GroupAt tree p.0) × (get g.links p.1 ≡ Some link)
  at_name links None there none here = absurd (let never : Missing ≡ Here link = here in cc)
  at_name links (Some l) there some here =
      let g = group_of tree p.0 links there in
      let same : l ≡ link = cc in
      (g.0, ap (λ (ls : Links). get ls p.1) g.1 ∙ some ∙ ap (λ (x : Link). Some x) same)

  go : (o : Option Links) → links_of tree p.0 ≡ o → option_map_or (λ links. option_map_or (λ l. Here l) (get links p.1) Missing) o NoGroup ≡ Here link
      → (g : GroupAt tree p.0) × (get g.links p.1 ≡ Some link)
  go None there here = absurd (let never : NoGroup ≡ Here link = here in cc)
  go (Some links) there here = at_name links (get links p.1) there refl here

located_beside : (tree : Tree) (path : List ℕ) (p : ℕ × List ℕ) → parent_at tree path ≡ Some p → location_of tree path ≡ beside tree p
located_beside tree path p found = go (names_of path) found where
  go : (o : Option (List (List ℕ))) → option_and_then (parent_from tree (ToObject 0)) o ≡ Some p → option_map_or (λ names. locate tree (ToObject 0) names) o NoPath ≡ beside tree p
  go None none = absurd (let never : None ≡ Some p = none in cc)
  go (Some names) is = locate-beside tree (ToObject 0) names p is

module _ (tree : Tree) (path : List ℕ) (parent : ℕ) (name : List ℕ) (found : parent_at tree path ≡ Some (parent, name)) where
  pub unlinked_gives : (number : ℕ) → with_edit tree (Unlink path) number ≡ tree_left tree parent name
  unfolding with_edit
  unlinked_gives number = ap (λ (o : Option (ℕ × List ℕ)). only_reached (option_map_or (λ p. without_link tree p.0 p.1) o tree)) found

  module _ (link : Link) (here : location_of tree path ≡ Here link) where
    there : (g : GroupAt tree parent) × (get g.links name ≡ Some link)
    there = there_beside tree (parent, name) link (sym (located_beside tree path (parent, name) found) ∙ here)

    pub unlinked_is : link_in tree parent name ≡ Some link
    unlinked_is = let at = there in link_is tree parent at.0 name ∙ at.1
