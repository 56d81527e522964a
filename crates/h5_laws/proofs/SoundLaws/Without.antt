-- A tree without one of its links, and what a path reaches then.
use Rattle.std.proofs.Common.{◌≡◌, ℕ, ◌+◌, Bool, true, false, cond, List, [], ◌∷◌, refl, sym, ap, ◌∙◌, subst, Option, Some, None, inl, inr, arith}
use Rattle.std.proofs.lemmas.Bool.{cases_eq}
use Rattle.std.specs.Prelude.{IsSome, is_some}
use Rattle.std.specs.Cmp.Lexicographic.{nat_list_cmp_total}
use Rattle.std.specs.Option.{option_and_then, option_map_or}
use Rattle.std.specs.FinMap.{get, insert, remove, get-retain_keys, nat_cmp-IsAntisymmetric}
use Rattle.h5_model.specs.Edits.Applied.{with_links}
use Rattle.h5_model.specs.Tree.Objects.{Tree, Object, Content, Group, Links, Link, ToObject, Soft, links_in, link_in, links_to, hard_links, follow, is_reached, only_reached}
use Rattle.h5_model.proofs.ReachLaws.{is_reached-from_path}
use Rattle.h5_laws.specs.Trees.Sound.{IsSoundTree}
use Rattle.h5_laws.specs.Trees.Unlinked.{without_link}
use Rattle.h5_laws.proofs.SoundLaws.Counts.{adds, less_links, object_put}
use Rattle.h5_laws.proofs.SoundLaws.Fewer.{IsFewer}
use Rattle.h5_laws.proofs.SoundLaws.Inserted.{names_differ, number_here, number_other, removed_other}
use Rattle.h5_laws.proofs.SoundLaws.LinksThere.{GroupAt, LinkAt, link_at, link_is}
use Rattle.h5_laws.proofs.SoundLaws.Paths.{same_way}
use Rattle.h5_laws.proofs.SoundLaws.Sums.{weight}
use Rattle.h5_laws.proofs.SoundLaws.Unlinked.{fewer_without}

-- The second tree is the first without a link of a group: other objects and links are as before, and of the hard links to an object there
-- is one less, where it was one of them.
pub record IsWithout (tree rest : Tree) (parent : ℕ) (name : List ℕ) (link : Link) : Type 0 where
  pub was : link_in tree parent name ≡ Some link
  pub objects : (k : ℕ) → (k ≡ parent → ⊥) → get rest k ≡ get tree k
  pub links : (a : ℕ) (x : List ℕ) → (a ≡ parent → x ≡ name → ⊥) → link_in rest a x ≡ link_in tree a x
  pub counts : (n : ℕ) → hard_links rest n + adds n link ≡ hard_links tree n
  pub fewer : IsFewer tree rest

module _ (tree : Tree) (parent : ℕ) (name : List ℕ) (link : Link) (at : LinkAt tree parent name link) where
  abbrev less : Links
  less = remove (at.group).links name

  abbrev new : Object
  new = with_links (λ links. remove links name) (at.group).object

  abbrev put : Tree
  put = insert tree parent new

  new_content : new.content ≡ Group less
  new_content = ap (λ (c : Content). (with_links (λ links. remove links name) (record (at.group).object { content = c })).content) (at.group).is

  abbrev new_group : GroupAt put parent
  new_group = record { object = new; links = less; stands = number_here tree parent new; is = new_content }

  same_link : (a : ℕ) (x : List ℕ) → (a ≡ parent → x ≡ name → ⊥) → link_in put a x ≡ link_in tree a x
  same_link a x other = elim (cases_eq a parent) [
    | inr elsewhere ↦ ap (λ (o : Option Object). option_and_then (λ (ls : Links). get ls x) (option_and_then (λ (p : Object). links_in p.content) o)) (number_other tree parent new a elsewhere)
    | inl here ↦
        let there : link_in put parent x ≡ link_in tree parent x
        = link_is put parent new_group x ∙ removed_other nat_list_cmp_total names_differ (at.group).links name x (other here) ∙ sym (link_is tree parent at.group x) in
        subst (λ (k : ℕ). link_in put k x ≡ link_in tree k x) (sym here) there
  ]

  counted : (n : ℕ) → hard_links put n + adds n link ≡ hard_links tree n
  counted n =
      let one_put = object_put n tree parent new in
      let before = ap (weight (λ (o : Object). links_to n o.content)) (at.group).stands in
      let was = ap (links_to n) (at.group).is in
      let is = ap (links_to n) new_content in
      let one = less_links n (at.group).links name link at.is in
      omega (arith, one_put, before, was, is, one)

  put_is : without_link tree parent name ≡ put
  put_is = ap (λ (o : Option Object). option_map_or (λ x. insert tree parent (with_links (λ links. remove links name) x)) o tree) (at.group).stands

  is_put : IsWithout tree put parent name link
  is_put = record {
    was = link_is tree parent at.group name ∙ at.is;
    objects = λ k other. number_other tree parent new k other;
    links = same_link;
    counts = counted;
    fewer = subst (IsFewer tree) put_is (fewer_without tree parent name);
  }

pub is_without : (tree : Tree) (parent : ℕ) (name : List ℕ) (link : Link) → link_in tree parent name ≡ Some link → IsWithout tree (without_link tree parent name) parent name link
is_without tree parent name link is =
    let at = link_at tree parent name link is in
    subst (λ (t : Tree). IsWithout tree t parent name link) (sym (put_is tree parent name link at)) (is_put tree parent name link at)

module _ (tree rest : Tree) (parent : ℕ) (name : List ℕ) (link : Link) (w : IsWithout tree rest parent name link) (sound : IsSoundTree tree) where
  -- a path to an object to which none leads from the link is as before
  way_left : (k : ℕ) → ((names : List (List ℕ)) → follow tree link names ≡ Some (ToObject k) → ⊥) → (names : List (List ℕ)) (from : Link)
      → follow tree from names ≡ Some (ToObject k) → follow rest from names ≡ Some (ToObject k)
  way_left k dead [] from is = is
  way_left k dead (x ∷ names) (Soft text) is = is
  way_left k dead (x ∷ names) (ToObject n) is = elim (link_in tree n x) as (λ o. link_in tree n x ≡ o → option_and_then (λ l. follow tree l names) o ≡ Some (ToObject k)
      → follow rest (ToObject n) (x ∷ names) ≡ Some (ToObject k)) [
        | None ↦ λ there no. absurd (let never : None ≡ Some (ToObject k) = no in cc)
        | Some l ↦ λ there more.
            let other : n ≡ parent → x ≡ name → ⊥ = λ same_number same_name.
            let taken : link_in tree n x ≡ Some link
            = ap (λ (a : ℕ). link_in tree a x) same_number ∙ ap (link_in tree parent) same_name ∙ w.was in
            let same : l ≡ link = (let both : Some l ≡ Some link = sym there ∙ taken in cc) in
            dead names (ap (λ (y : Link). follow tree y names) (sym same) ∙ more) in
            ap (option_and_then (λ (y : Link). follow rest y names)) (w.links n x other ∙ there) ∙ way_left k dead names l more
      ] refl is

  abbrev pub IsPathTo : ℕ → Type 0
  IsPathTo k = (names : List (List ℕ)) × (follow rest (ToObject 0) names ≡ Some (ToObject k))

  pub path_left : (k : ℕ) → IsSome (get tree k) → ((names : List (List ℕ)) → follow tree link names ≡ Some (ToObject k) → ⊥) → IsPathTo k
  path_left k some dead = let path = sound.reached k some in (path.0, way_left k dead path.0 (ToObject 0) path.1)

  reached_by : (k : ℕ) → IsPathTo k → is_reached rest k ≡ true
  reached_by k path =
      let there = same_way rest tree w.fewer.links path.0 (ToObject 0) (ToObject k) path.1 in
      is_reached-from_path rest k (path.0, sound.shallow path.0 (ap (λ (o : Option Link). is_some o) there), path.1)

  pub got_left : (k : ℕ) → get (only_reached rest) k ≡ cond (is_reached rest k) (get rest k) None
  got_left k = get-retain_keys rest (is_reached rest) k (λ x tied. ap (is_reached rest) (sym (nat_cmp-IsAntisymmetric k x tied)))

  -- an object to which a path leads stays
  pub stays_left : (k : ℕ) → (IsSome (get tree k) → IsPathTo k) → get (only_reached rest) k ≡ get rest k
  stays_left k path = go (get rest k) refl where
    nothing : (b : Bool) → ◌≡◌ {A = Option Object} (cond b None None) None
    nothing true = refl
    nothing false = refl

    go : (o : Option Object) → get rest k ≡ o → get (only_reached rest) k ≡ get rest k
    go None none = got_left k ∙ ap (λ (x : Option Object). cond (is_reached rest k) x None) none ∙ nothing (is_reached rest k) ∙ sym none
    go (Some o) some =
        let there = path (sym (w.fewer.objects k) ∙ ap (λ (x : Option Object). is_some x) some) in
        got_left k ∙ ap (λ (b : Bool). cond b (get rest k) None) (reached_by k there)
