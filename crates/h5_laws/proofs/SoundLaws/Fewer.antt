-- A sound tree stays sound with fewer links, where the objects that no path reaches any more are left out.
use Rattle.std.proofs.Common.{◌≡◌, ℕ, ◌+◌, ◌≤◌, Bool, true, false, cond, List, [], ◌∷◌, ◌++◌, length, refl, sym, ap, ◌∙◌, Option, Some, None, inl, inr, arith}
use Rattle.std.proofs.lemmas.Bool.Decides.{nat_tests}
use Rattle.std.specs.Prelude.{IsSome, is_some, ◌==◌, if◌then◌else◌}
use Rattle.std.specs.Option.{option_and_then}
use Rattle.std.specs.FinMap.{get, get-retain_keys, nat_cmp-IsAntisymmetric}
use Rattle.h5_model.specs.Format.Limits.{most_hard_links, most_names}
use Rattle.h5_model.specs.Tree.Paths.{is_name}
use Rattle.h5_model.specs.Edits.Refusal.{has_zero}
use Rattle.h5_model.specs.Tree.Objects.{Tree, Object, Links, Link, ToObject, Soft, links_in, links_of, link_in, links_to, hard_links, follow, is_reached, only_reached}
use Rattle.h5_model.proofs.ReachLaws.{is_reached-from_path, path-from_is_reached}
use Rattle.h5_laws.proofs.Maps.{value_of}
use Rattle.h5_laws.proofs.Objects.{follow-more}
use Rattle.h5_laws.specs.Trees.Sound.{IsSoundTree}
use Rattle.h5_laws.proofs.SoundLaws.Counts.{fewer_links, link_counts}
use Rattle.h5_laws.proofs.SoundLaws.LinksThere.{GroupAt, some_group, link_at, links_are, link_is, group_stands}
use Rattle.h5_laws.proofs.SoundLaws.Paths.{same_way, last_link}
use Rattle.h5_laws.proofs.SoundLaws.Sums.{weight}

-- the second tree has the same objects and groups, and no link that the first has not
pub record IsFewer (tree fewer : Tree) : Type 0 where
  pub objects : (n : ℕ) → is_some (get fewer n) ≡ is_some (get tree n)
  pub groups : (n : ℕ) → is_some (links_of fewer n) ≡ is_some (links_of tree n)
  pub links : (n : ℕ) (x : List ℕ) (l : Link) → link_in fewer n x ≡ Some l → link_in tree n x ≡ Some l
  pub counts : (n k : ℕ) (o : Object) → get fewer k ≡ Some o → links_to n o.content ≤ weight (λ (p : Object). links_to n p.content) (get tree k)

module _ (tree fewer : Tree) (is_fewer : IsFewer tree fewer) (sound : IsSoundTree tree) where
  abbrev left : Tree
  left = only_reached fewer

  -- ---- what is left

  -- what a path leads to is reached, since no path has more than 64 names
  led_to : (path : List (List ℕ)) (n : ℕ) → follow fewer (ToObject 0) path ≡ Some (ToObject n) → is_reached fewer n ≡ true
  led_to path n is =
      let there = same_way fewer tree is_fewer.links path (ToObject 0) (ToObject n) is in
      is_reached-from_path fewer n (path, sound.shallow path (ap (λ (o : Option Link). is_some o) there), is)

  got : (n : ℕ) → get left n ≡ cond (is_reached fewer n) (get fewer n) None
  got n = get-retain_keys fewer (is_reached fewer) n (λ x tied. ap (is_reached fewer) (sym (nat_cmp-IsAntisymmetric n x tied)))

  stays : (n : ℕ) → is_reached fewer n ≡ true → get left n ≡ get fewer n
  stays n reached = got n ∙ ap (λ (b : Bool). cond b (get fewer n) None) reached

  was : (n : ℕ) (o : Object) → get left n ≡ Some o → (is_reached fewer n ≡ true) × (get fewer n ≡ Some o)
  was n o is = go (is_reached fewer n) refl (sym (got n) ∙ is) where
    go : (b : Bool) → is_reached fewer n ≡ b → cond b (get fewer n) None ≡ Some o → (is_reached fewer n ≡ true) × (get fewer n ≡ Some o)
    go true reached there = (reached, there)
    go false reached there = absurd (let never : None ≡ Some o = there in cc)

  was_object : (n : ℕ) → IsSome (get left n) → (is_reached fewer n ≡ true) × IsSome (get tree n)
  was_object n some =
      let o = value_of (get left n) some in
      let before = was n o.0 o.1 in
      (before.0, sym (is_fewer.objects n) ∙ ap (λ (x : Option Object). is_some x) before.1)

  was_group : (n : ℕ) → IsSome (links_of left n) → IsSome (links_of tree n)
  was_group n some =
      let g = some_group left n some in
      let before : GroupAt fewer n = record { object = g.object; links = g.links; stands = (was n g.object g.stands).1; is = g.is } in
      sym (is_fewer.groups n) ∙ ap (λ (o : Option Links). is_some o) (links_are fewer n before)

  was_link : (n : ℕ) (x : List ℕ) (l : Link) → link_in left n x ≡ Some l → (is_reached fewer n ≡ true) × (link_in fewer n x ≡ Some l)
  was_link n x l is =
      let there = link_at left n x l is in
      let g = there.group in
      let before = was n g.object g.stands in
      let group : GroupAt fewer n = record { object = g.object; links = g.links; stands = before.1; is = g.is } in
      (before.0, link_is fewer n group x ∙ there.is)

  old_link : (n : ℕ) (x : List ℕ) (l : Link) → link_in left n x ≡ Some l → link_in tree n x ≡ Some l
  old_link n x l is = is_fewer.links n x l (was_link n x l is).1

  -- ---- paths

  -- from what a path leads to, each path leads where it led to
  ways_stay : (path : List (List ℕ)) (from to : Link)
      → ((n : ℕ) → from ≡ ToObject n → (before : List (List ℕ)) × (follow fewer (ToObject 0) before ≡ Some (ToObject n)))
      → follow fewer from path ≡ Some to → follow left from path ≡ Some to
  ways_stay [] from to comes is = is
  ways_stay (x ∷ path) (Soft text) to comes is = is
  ways_stay (x ∷ path) (ToObject n) to comes is = elim (link_in fewer n x) as (λ o. link_in fewer n x ≡ o → option_and_then (λ l. follow fewer l path) o ≡ Some to
      → follow left (ToObject n) (x ∷ path) ≡ Some to) [
        | None ↦ λ there no. absurd (let never : None ≡ Some to = no in cc)
        | Some l ↦ λ there rest.
            let before = comes n refl in
            let here : link_in left n x ≡ Some l
            = ap (λ (o : Option Object). option_and_then (λ (ls : Links). get ls x) (option_and_then (λ (p : Object). links_in p.content) o)) (stays n (led_to before.0 n before.1)) ∙ there in
            let next : (m : ℕ) → l ≡ ToObject m → (names : List (List ℕ)) × (follow fewer (ToObject 0) names ≡ Some (ToObject m))
            = λ m e. (before.0 ++ x ∷ [], follow-more fewer (ToObject 0) (ToObject m) before.0 x n before.1 (there ∙ ap (λ (y : Link). Some y) e)) in
            ap (option_and_then (λ (y : Link). follow left y path)) here ∙ ways_stay path l to next rest
      ] refl is

  at_root : (n : ℕ) → ToObject 0 ≡ ToObject n → (before : List (List ℕ)) × (follow fewer (ToObject 0) before ≡ Some (ToObject n))
  at_root n e = ([], ap (λ (y : Link). Some y) e)

  reached : (n : ℕ) → IsSome (get left n) → (path : List (List ℕ)) × (follow left (ToObject 0) path ≡ Some (ToObject n))
  reached n some =
      let path = path-from_is_reached fewer n (was_object n some).0 in
      (path.0, ways_stay path.0 (ToObject 0) (ToObject n) at_root path.2)

  shallow : (path : List (List ℕ)) → IsSome (follow left (ToObject 0) path) → length path ≤ most_names
  shallow path some =
      let to = value_of (follow left (ToObject 0) path) some in
      sound.shallow path (ap (λ (o : Option Link). is_some o) (same_way left tree old_link path (ToObject 0) to.0 to.1))

  -- ---- counts

  no_more : (n : ℕ) → hard_links left n ≤ hard_links tree n
  no_more n = fewer_links n tree left (λ k o is. is_fewer.counts n k o (was k o is).1)

  -- a link still leads to what is left, the root aside
  still_one : (n : ℕ) → IsSome (get left n) → (n == 0) ≡ false → 1 ≤ hard_links left n
  still_one n some other = let path = reached n some in elim (last_link left path.0 0 n path.1) [
    | inl root ↦ absurd (grind (arith, nat_tests, root, other))
    | inr last ↦ link_counts left n last.0 last.1 last.2
  ]

  once : (n : ℕ) → IsSome (links_of left n) → hard_links left n + (if n == 0 then 1 else 0) ≡ 1
  once n some = go (n == 0) refl (sound.once n (was_group n some)) where
    go : (b : Bool) → (n == 0) ≡ b → hard_links tree n + (if b then 1 else 0) ≡ 1 → hard_links left n + (if b then 1 else 0) ≡ 1
    go true is count = let low = no_more n in omega (arith, count, low)
    go false is count =
        let low = no_more n in
        let least = still_one n (group_stands left n some) is in
        omega (arith, count, low, least)

  few : (n : ℕ) → IsSome (get left n) → hard_links left n ≤ most_hard_links
  few n some = let low = no_more n in let before = sound.few n (was_object n some).1 in omega (arith, low, before)

  -- ---- the whole tree

  named : (n : ℕ) (x : List ℕ) → IsSome (link_in left n x) → is_name x ≡ true
  named n x some =
      let l = value_of (link_in left n x) some in sound.named n x (ap (λ (o : Option Link). is_some o) (old_link n x l.0 l.1))

  linked : (n other : ℕ) (x : List ℕ) → link_in left n x ≡ Some (ToObject other) → IsSome (get left other)
  linked n other x is =
      let before = was_link n x (ToObject other) is in
      let path = path-from_is_reached fewer n before.0 in
      let there = led_to (path.0 ++ x ∷ []) other (follow-more fewer (ToObject 0) (ToObject other) path.0 x n path.2 before.1) in
      ap (λ (o : Option Object). is_some o) (stays other there) ∙ is_fewer.objects other ∙ sound.linked n other x (old_link n x (ToObject other) is)

  spelled : (n : ℕ) (x text : List ℕ) → link_in left n x ≡ Some (Soft text) → has_zero text ≡ false
  spelled n x text is = sound.spelled n x text (old_link n x (Soft text) is)

  pub sound_fewer : IsSoundTree left
  sound_fewer = record {
    rooted =
        ap (λ (o : Option Object). is_some (option_and_then (λ (p : Object). links_in p.content) o)) (stays 0 (led_to [] 0 refl)) ∙ is_fewer.groups 0 ∙ sound.rooted;
    named = named;
    linked = linked;
    spelled = spelled;
    reached = reached;
    shallow = shallow;
    once = once;
    few = few;
  }
