-- What `ls` prints of links.
use Rattle.std.proofs.Common.{◌≡◌, ℕ, zero, suc, Option, Some, None, List, [], ◌++◌, map, codes, refl, sym, ap, ◌∙◌, append-nil}
use Rattle.std.specs.FinMap.{get, entries}
use Rattle.std.specs.List.{flat_map}
use Rattle.std.specs.Option.{option_and_then, option_map_or}
use Rattle.h5_model.specs.Format.Limits.{most_names}
use Rattle.h5_model.specs.Scripts.Text.{content_text, joined_path, line_of, lines_below, link_line, list_text}
use Rattle.h5_model.specs.Tree.Objects.{Tree, Links, Object, Content, Group, Array, Dataset, ToObject, dataset_of, dataset_in, links_in, links_of}
use Rattle.h5_model.specs.Tree.Links.{tree_link}
use Rattle.h5_file.specs.Listed.{AreGroupLinks}
use Rattle.h5_model.specs.declared.link.Link.{Link as LinkOf}
use Rattle.h5_model.specs.declared.object_no.ObjectNo.{ObjectNo}
use Rattle.h5_dump.specs.Listing.{lines_of_link}

-- ---- the lines of a group's links

-- the lines of the links, one name further down
pub lines_of_group : (tree : Tree) (depth : ℕ) (path : List ℕ) (number : ℕ) (links : Links) → links_of tree number ≡ Some links
    → lines_below tree (suc depth) path number ≡ flat_map (lines_of_link tree depth path) (entries links)
unfolding lines_below
lines_of_group tree depth path number links is =
    ap (λ found. option_map_or (λ all. flat_map (lines_of_link tree depth path) (entries all)) found []) is

pub lines_of_none : (tree : Tree) (depth : ℕ) (path : List ℕ) (number : ℕ) → links_of tree number ≡ None → lines_below tree depth path number ≡ []
unfolding lines_below
lines_of_none tree zero path number is = refl
lines_of_none tree (suc depth) path number is =
    ap (λ found. option_map_or (λ all. flat_map (lines_of_link tree depth path) (entries all)) found []) is

pub lines_of_no_depth : (tree : Tree) (path : List ℕ) (number : ℕ) → lines_below tree 0 path number ≡ []
unfolding lines_below
lines_of_no_depth tree path number = refl

-- the links as they are listed
pub lines_of_listed : (tree : Tree) (depth : ℕ) (path : List ℕ) (number : ℕ) (links : List (LinkOf ObjectNo)) → AreGroupLinks tree number links
    → flat_map (lines_of_link tree depth path) (map tree_link links) ≡ lines_below tree (suc depth) path number
lines_of_listed tree depth path number links (all, is, listed) =
    ap (flat_map (lines_of_link tree depth path)) listed ∙ sym (lines_of_group tree depth path number all is)

-- ---- the lines of one link

-- the object of a number, by what it holds
data Holds (tree : Tree) (number : ℕ) : Type 0 where
  Nothing : get tree number ≡ None → Holds tree number
  OfGroup : (o : Object) (links : Links) → get tree number ≡ Some o → o.content ≡ Group links → Holds tree number
  OfArray : (o : Object) (d : Dataset) → get tree number ≡ Some o → o.content ≡ Array d → Holds tree number

holds : (tree : Tree) (number : ℕ) → Holds tree number
holds tree number = by (get tree number) refl where
  of_content : (o : Object) → get tree number ≡ Some o → (c : Content) → o.content ≡ c → Holds tree number
  of_content o there (Group links) is = OfGroup o links there is
  of_content o there (Array d) is = OfArray o d there is

  by : (x : Option Object) → get tree number ≡ x → Holds tree number
  by None none = Nothing none
  by (Some o) there = of_content o there o.content refl

pub group_line : (tree : Tree) (path : List ℕ) (number : ℕ) (links : Links) → links_of tree number ≡ Some links
    → link_line tree path (ToObject number) ≡ line_of path (codes "group")
group_line tree path number links is = by (holds tree number) where
  by : Holds tree number → link_line tree path (ToObject number) ≡ line_of path (codes "group")
  by (Nothing none) =
      let never : None ≡ Some links = sym (ap (option_and_then (λ (x : Object). links_in x.content)) none) ∙ is in absurd (cc)
  by (OfGroup o found there content) = rw (there, content) refl
  by (OfArray o d there content) =
      let never : None ≡ Some links = sym (ap (option_and_then (λ (x : Object). links_in x.content)) there ∙ ap links_in content) ∙ is in absurd (cc)

pub array_line : (tree : Tree) (path : List ℕ) (number : ℕ) (d : Dataset) → dataset_of tree number ≡ Some d
    → (link_line tree path (ToObject number) ≡ line_of path (content_text (Array d))) × (links_of tree number ≡ None)
array_line tree path number d is = by (holds tree number) where
  by : Holds tree number → (link_line tree path (ToObject number) ≡ line_of path (content_text (Array d))) × (links_of tree number ≡ None)
  by (Nothing none) =
      let never : None ≡ Some d = sym (ap (option_and_then (λ (x : Object). dataset_in x.content)) none) ∙ is in absurd (cc)
  by (OfGroup o found there content) =
      let never : None ≡ Some d = sym (ap (option_and_then (λ (x : Object). dataset_in x.content)) there ∙ ap dataset_in content) ∙ is in absurd (cc)
  by (OfArray o e there content) =
      let found : Some e ≡ Some d = sym (ap (option_and_then (λ (x : Object). dataset_in x.content)) there ∙ ap dataset_in content) ∙ is in
      let same : e ≡ d = cc in
      (rw (there, content, same) refl, rw (there, content) refl)

pub no_line : (tree : Tree) (path : List ℕ) (number : ℕ) → dataset_of tree number ≡ None → links_of tree number ≡ None
    → link_line tree path (ToObject number) ≡ []
no_line tree path number no_array no_group = by (holds tree number) where
  by : Holds tree number → link_line tree path (ToObject number) ≡ []
  by (Nothing none) = rw none refl
  by (OfGroup o links there content) =
      let never : Some links ≡ None = sym (ap (option_and_then (λ (x : Object). links_in x.content)) there ∙ ap links_in content) ∙ no_group in absurd (cc)
  by (OfArray o d there content) =
      let never : Some d ≡ None = sym (ap (option_and_then (λ (x : Object). dataset_in x.content)) there ∙ ap dataset_in content) ∙ no_array in absurd (cc)

-- nothing stands there
pub lines_of_nothing : (tree : Tree) (depth : ℕ) (path name : List ℕ) (number : ℕ) → dataset_of tree number ≡ None → links_of tree number ≡ None
    → lines_of_link tree depth path (name, ToObject number) ≡ []
lines_of_nothing tree depth path name number no_array no_group =
    let place = joined_path path name in
    ap (λ t. t ++ lines_below tree depth place number) (no_line tree place number no_array no_group) ∙ lines_of_none tree depth place number no_group

-- an array, which holds no link
pub lines_of_array : (tree : Tree) (depth : ℕ) (path name : List ℕ) (number : ℕ) (d : Dataset) → dataset_of tree number ≡ Some d
    → line_of (joined_path path name) (content_text (Array d)) ≡ lines_of_link tree depth path (name, ToObject number)
lines_of_array tree depth path name number d is =
    let place = joined_path path name in
    let line = array_line tree place number d is in
    let shown = line_of place (content_text (Array d)) in
    sym (ap (λ t. t ++ lines_below tree depth place number) line.0 ∙ ap (λ t. shown ++ t) (lines_of_none tree depth place number line.1) ∙ append-nil shown)

-- a group, and what it holds
pub lines_of_inner : (tree : Tree) (depth : ℕ) (path name : List ℕ) (number : ℕ) (links : List (LinkOf ObjectNo)) → AreGroupLinks tree number links
    → line_of (joined_path path name) (codes "group") ++ lines_below tree depth (joined_path path name) number ≡ lines_of_link tree depth path (name, ToObject number)
lines_of_inner tree depth path name number links are =
    let place = joined_path path name in
    ap (λ t. t ++ lines_below tree depth place number) (sym (group_line tree place number are.0 are.1))

-- a group, of whose links nothing is told
pub lines_of_last : (tree : Tree) (depth : ℕ) (path name : List ℕ) (number : ℕ) (links : List (LinkOf ObjectNo)) → AreGroupLinks tree number links → depth ≡ 0
    → line_of (joined_path path name) (codes "group") ≡ lines_of_link tree depth path (name, ToObject number)
lines_of_last tree depth path name number links are last =
    let place = joined_path path name in
    let line = line_of place (codes "group") in
    sym (append-nil line) ∙ ap (λ t. line ++ t) (sym (ap (λ n. lines_below tree n place number) last ∙ lines_of_no_depth tree place number))
    ∙ lines_of_inner tree depth path name number links are

-- a group and its links
pub lines_of_next : (tree : Tree) (depth down : ℕ) (path name below : List ℕ) (number : ℕ) (links : List (LinkOf ObjectNo)) (listed : List (LinkOf ObjectNo)) → AreGroupLinks tree number links → suc down ≡ depth
    → below ≡ joined_path path name → listed ≡ links
    → line_of (joined_path path name) (codes "group") ++ flat_map (lines_of_link tree down below) (map tree_link listed) ≡ lines_of_link tree depth path (name, ToObject number)
lines_of_next tree depth down path name below number links listed are next joined same =
    let place = joined_path path name in
    let line = line_of place (codes "group") in
    ap (λ p. line ++ flat_map (lines_of_link tree down p) (map tree_link listed)) joined
    ∙ ap (λ ls. line ++ flat_map (lines_of_link tree down place) (map tree_link ls)) same
    ∙ ap (λ t. line ++ t) (lines_of_listed tree down place number links are ∙ ap (λ n. lines_below tree n place number) next)
    ∙ lines_of_inner tree depth path name number links are

-- ---- the whole list

pub list_of_none : (tree : Tree) → links_of tree 0 ≡ None → codes "/ group\n" ≡ list_text tree
list_of_none tree is = sym (ap (λ t. codes "/ group\n" ++ t) (lines_of_none tree most_names [] 0 is))

pub list_of_links : (tree : Tree) (depth : ℕ) (path : List ℕ) (links listed : List (LinkOf ObjectNo)) → AreGroupLinks tree 0 links → suc depth ≡ most_names → path ≡ [] → listed ≡ links
    → codes "/ group\n" ++ flat_map (lines_of_link tree depth path) (map tree_link listed) ≡ list_text tree
list_of_links tree depth path links listed are deep none same =
    ap (λ p. codes "/ group\n" ++ flat_map (lines_of_link tree depth p) (map tree_link listed)) none
    ∙ ap (λ ls. codes "/ group\n" ++ flat_map (lines_of_link tree depth []) (map tree_link ls)) same
    ∙ ap (λ t. codes "/ group\n" ++ t) (lines_of_listed tree depth [] 0 links are ∙ ap (λ n. lines_below tree n [] 0) deep)
