-- The group that a link stands in.
use Rattle.std.proofs.Common.{◌≡◌, ℕ, List, refl, ap, ◌∙◌, Option, Some, None}
use Rattle.std.specs.Prelude.{IsSome, is_some}
use Rattle.std.specs.Option.{option_and_then}
use Rattle.std.specs.FinMap.{get}
use Rattle.h5_model.specs.Tree.Objects.{Tree, Object, Content, Group, Array, Links, Link, links_in, links_of, link_in}

-- a group of the tree, with its links
pub record GroupAt (tree : Tree) (number : ℕ) : Type 0 where
  pub object : Object
  pub links : Links
  pub stands : get tree number ≡ Some object
  pub is : object.content ≡ Group links

-- a link in a group of the tree
pub record LinkAt (tree : Tree) (number : ℕ) (name : List ℕ) (link : Link) : Type 0 where
  pub group : GroupAt tree number
  pub is : get group.links name ≡ Some link

of_content : (c : Content) (links : Links) → links_in c ≡ Some links → c ≡ Group links
of_content (Group ls) links is = let same : ls ≡ links = cc in ap (λ (x : Links). Group x) same
of_content (Array d) links is = absurd (let never : None ≡ Some links = is in cc)

pub group_of : (tree : Tree) (number : ℕ) (links : Links) → links_of tree number ≡ Some links → (g : GroupAt tree number) × (g.links ≡ links)
group_of tree number links is = go (get tree number) refl is where
  go : (found : Option Object) → get tree number ≡ found → option_and_then (λ (o : Object). links_in o.content) found ≡ Some links
      → (g : GroupAt tree number) × (g.links ≡ links)
  go None there here = absurd (let never : None ≡ Some links = here in cc)
  go (Some o) there here = (record { object = o; links = links; stands = there; is = of_content o.content links here }, refl)

pub links_are : (tree : Tree) (number : ℕ) (g : GroupAt tree number) → links_of tree number ≡ Some g.links
links_are tree number g = ap (option_and_then (λ (o : Object). links_in o.content)) g.stands ∙ ap links_in g.is

pub some_group : (tree : Tree) (number : ℕ) → IsSome (links_of tree number) → GroupAt tree number
some_group tree number is = go (links_of tree number) refl is where
  go : (found : Option Links) → links_of tree number ≡ found → IsSome found → GroupAt tree number
  go None there some = absurd (let never : IsSome {T = Links} None = some in cc)
  go (Some links) there some = (group_of tree number links there).0

pub link_at : (tree : Tree) (number : ℕ) (name : List ℕ) (link : Link) → link_in tree number name ≡ Some link → LinkAt tree number name link
link_at tree number name link is = go (links_of tree number) refl is where
  go : (found : Option Links) → links_of tree number ≡ found → option_and_then (λ (links : Links). get links name) found ≡ Some link → LinkAt tree number name link
  go None there here = absurd (let never : None ≡ Some link = here in cc)
  go (Some links) there here =
      let g = group_of tree number links there in
      record { group = g.0; is = ap (λ (ls : Links). get ls name) g.1 ∙ here }

pub link_is : (tree : Tree) (number : ℕ) (g : GroupAt tree number) (name : List ℕ) → link_in tree number name ≡ get g.links name
link_is tree number g name = ap (option_and_then (λ (links : Links). get links name)) (links_are tree number g)

-- what has a link is a group
pub holds_links : (tree : Tree) (number : ℕ) (name : List ℕ) (link : Link) → link_in tree number name ≡ Some link → IsSome (links_of tree number)
holds_links tree number name link is = let l = link_at tree number name link is in ap (λ (o : Option Links). is_some o) (links_are tree number l.group)

-- a group is an object
pub group_stands : (tree : Tree) (number : ℕ) → IsSome (links_of tree number) → IsSome (get tree number)
group_stands tree number is =
    let g = some_group tree number is in ap (λ (o : Option Object). is_some o) g.stands
