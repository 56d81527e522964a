-- What is left of a sound tree without a link: an object goes where it loses all its hard links, as each group does to which a path leads
-- from the link.
use Rattle.std.proofs.Common.{◌≡◌, ℕ, zero, suc, ◌+◌, ◌≤◌, ◌<◌, Bool, true, false, cond, List, [], ◌∷◌, ◌++◌, length, length-append, refl, sym, ap, ◌∙◌, subst, Option, Some, None, inl, inr, arith}
use Rattle.std.proofs.lemmas.Bool.{cases_eq, cases_lt, or_cases}
use Rattle.std.specs.Prelude.{IsSome, is_some, ◌==◌, ◌↔◌}
use Rattle.std.specs.Option.{option_and_then}
use Rattle.std.specs.Ordering.{nat_cmp, eq_by_cmp}
use Rattle.std.specs.List.{Contains, IsDistinct, list_any}
use Rattle.std.specs.FinMap.{get}
use Rattle.h5_model.specs.Format.Limits.{most_names}
use Rattle.h5_model.specs.Tree.Objects.{Tree, Object, Content, Group, Array, Links, Link, ToObject, Soft, links_of, link_in, links_to, hard_links, follow, is_reached, only_reached, within_names}
use Rattle.h5_model.proofs.RowLaws.{equal_number}
use Rattle.h5_model.proofs.ReachLaws.{path-from_is_reached, same_object, within_names-follow}
use Rattle.h5_laws.proofs.AllReached.{first_link, soft_leads}
use Rattle.h5_laws.proofs.Lists.{In, in_contains, contains_in}
use Rattle.h5_laws.proofs.Objects.{follow-more}
use Rattle.h5_laws.proofs.Pigeonhole.{Apart, apart_of_distinct}
use Rattle.h5_laws.specs.Trees.Sound.{IsSoundTree}
use Rattle.h5_laws.specs.Trees.Unlinked.{AreReachedFrom, IsTreeLeft, links_from, lost_links, without_link}
use Rattle.h5_laws.proofs.SoundLaws.Counts.{adds, fewer_links, group_counts, leads_itself, no_links, some_named}
use Rattle.h5_laws.proofs.SoundLaws.Fewer.{sound_fewer}
use Rattle.h5_laws.proofs.SoundLaws.LinksThere.{GroupAt, group_stands, holds_links, link_at, links_are}
use Rattle.h5_laws.proofs.SoundLaws.Lost.{emptied, emptied_counts, emptied_here, emptied_other, from_least, from_more, from_same, held, in_or_out, named_outside}
use Rattle.h5_laws.proofs.SoundLaws.Paths.{follow-append}
use Rattle.h5_laws.proofs.SoundLaws.Sums.{weight}
use Rattle.h5_laws.proofs.SoundLaws.Unlinked.{fewer_without}
use Rattle.h5_laws.proofs.SoundLaws.Without.{IsWithout, IsPathTo, got_left, is_without, path_left, stays_left}

-- a link of a group that a path to an object begins with, as a link of the object that the path goes on from
next_link : (tree : Tree) (a b : ℕ) (x : List ℕ) (path : List (List ℕ)) → follow tree (ToObject a) (x ∷ path) ≡ Some (ToObject b)
    → (k : ℕ) × (link_in tree a x ≡ Some (ToObject k)) × (follow tree (ToObject k) path ≡ Some (ToObject b))
next_link tree a b x path is =
    let first = first_link tree a b x path is in
    (first.1, ap (option_and_then (λ (ls : Links). get ls x)) first.2 ∙ first.3, first.4)

-- a link counts among those of an object
link_held : (tree : Tree) (n a : ℕ) (x : List ℕ) → link_in tree a x ≡ Some (ToObject n) → 1 ≤ held tree n a
link_held tree n a x is =
    let l = link_at tree a x (ToObject n) is in
    let stands = ap (weight (λ (o : Object). links_to n o.content)) (l.group).stands in
    omega (arith, stands, group_counts tree n a x l)

passes_in : (n : ℕ) (xs : List ℕ) → list_any (λ x. x == n) xs ≡ true → In n xs
passes_in n [] is = absurd (let never : false ≡ true = is in cc)
passes_in n (x ∷ xs) is = elim (or_cases (x == n) (list_any (λ y. y == n) xs) is) [
  | inl here ↦ inl (equal_number x n here)
  | inr later ↦ inr (passes_in n xs later)
]

-- ---- paths from a link

module _ (tree : Tree) (parent : ℕ) (name : List ℕ) (link : Link) (numbers : List ℕ) (sound : IsSoundTree tree) (there : link_in tree parent name ≡ Some link) where
  abbrev rest : Tree
  rest = without_link tree parent name

  w : IsWithout tree rest parent name link
  w = is_without tree parent name link there

  -- the group of the link is reached
  to_parent : (path : List (List ℕ)) × (follow tree (ToObject 0) path ≡ Some (ToObject parent))
  to_parent = sound.reached parent (group_stands tree parent (holds_links tree parent name link there))

  -- with a way from the link back to its group there are paths of any length
  longer_ways : (path : List (List ℕ)) → follow tree link path ≡ Some (ToObject parent) → (k : ℕ)
      → (way : List (List ℕ)) × (k ≤ length way) × (follow tree (ToObject 0) way ≡ Some (ToObject parent))
  longer_ways path back zero = (to_parent.0, omega arith, to_parent.1)
  longer_ways path back (suc k) =
      let way = longer_ways path back k in
      let round : follow tree (ToObject parent) (name ∷ path) ≡ Some (ToObject parent) = ap (option_and_then (λ (l : Link). follow tree l path)) there ∙ back in (
        way.0 ++ name ∷ path,
        omega (arith, way.1, length-append way.0 (name ∷ path)),
        follow-append tree way.0 (name ∷ path) (ToObject 0) (ToObject parent) (ToObject parent) way.2 round,
      )

  -- no path leads from the link back to its group
  no_way_back : (path : List (List ℕ)) → follow tree link path ≡ Some (ToObject parent) → ⊥
  no_way_back path back =
      let way = longer_ways path back (most_names + 1) in
      let low = sound.shallow way.0 (ap (λ (o : Option Link). is_some o) way.2) in
      omega (arith, way.1, low)

  -- a path from the link is short
  short_way : (path : List (List ℕ)) (to : Link) → follow tree link path ≡ Some to → length path ≤ most_names
  short_way path to is =
      let on : follow tree (ToObject parent) (name ∷ path) ≡ Some to = ap (option_and_then (λ (l : Link). follow tree l path)) there ∙ is in
      let whole = follow-append tree to_parent.0 (name ∷ path) (ToObject 0) (ToObject parent) to to_parent.1 on in
      let low = sound.shallow (to_parent.0 ++ name ∷ path) (ap (λ (o : Option Link). is_some o) whole) in
      omega (arith, low, length-append to_parent.0 (name ∷ path))

  -- ---- objects to which paths lead from the link

  module _ (once : IsDistinct (eq_by_cmp nat_cmp) numbers) (led : (n : ℕ) → Contains numbers n → (path : List (List ℕ)) × (follow tree link path ≡ Some (ToObject n))) where
    apart : Apart numbers
    apart = apart_of_distinct numbers once

    not_parent : Contains numbers parent → ⊥
    not_parent at = let path = led parent at in no_way_back path.0 path.1

    -- the link is none of theirs
    same_from : (n : ℕ) → links_from rest numbers n ≡ links_from tree numbers n
    same_from n = from_same rest tree n numbers (λ k at. w.objects k (λ e. not_parent (contains_in parent numbers (subst (λ (q : ℕ). In q numbers) e at))))

    -- no more links are lost than there are
    pub lost_fits : (n : ℕ) → lost_links tree link numbers n ≤ hard_links tree n
    lost_fits n =
        let split = emptied_counts rest n numbers apart in
        omega (arith, split, same_from n, w.counts n)

    -- what loses all its links keeps those of these objects alone
    all_theirs : (n : ℕ) → lost_links tree link numbers n ≡ hard_links tree n → links_from rest numbers n ≡ hard_links rest n
    all_theirs n all = omega (arith, all, same_from n, w.counts n)

    module _ (each : (n : ℕ) → Contains numbers n ↔ (1 ≤ lost_links tree link numbers n)) where
      lost : (n : ℕ) → In n numbers → 1 ≤ lost_links tree link numbers n
      lost n at = (each n).0 (contains_in n numbers at)

      loses : (n : ℕ) → 1 ≤ lost_links tree link numbers n → In n numbers
      loses n some = in_contains n numbers ((each n).1 some)

      abbrev left : Tree
      left = only_reached rest

      abbrev IsGone : ℕ → Type 0
      IsGone n = In n numbers × (lost_links tree link numbers n ≡ hard_links tree n)

      -- a group has one hard link, which is lost
      groups_go : (n : ℕ) → In n numbers → IsSome (links_of tree n) → lost_links tree link numbers n ≡ hard_links tree n
      groups_go n at group =
          let once = sound.once n group in
          let some = lost n at in
          let low = lost_fits n in
          omega (arith, once, some, low)

      -- the root has none
      not_root : In 0 numbers → ⊥
      not_root at =
          let once = sound.once 0 sound.rooted in
          let some = lost 0 at in
          let low = lost_fits 0 in
          omega (arith, once, some, low)

      -- an object that goes is one
      stands : (n : ℕ) → In n numbers → IsSome (get tree n)
      stands n at =
          let some = lost n at in
          let low = lost_fits n in
          let named = some_named tree n (omega (arith, some, low)) in
          sound.linked named.0 n named.1 named.2

      -- ---- what goes

      -- a link that is left to an object that goes is one of an object that goes
      from_gone : (n a : ℕ) (x : List ℕ) → IsGone n → link_in rest a x ≡ Some (ToObject n) → IsGone a
      from_gone n a x gone is = elim (in_or_out cases_eq a numbers) [
        | inl at ↦ (at, groups_go a at (holds_links tree a x (ToObject n) (w.fewer.links a x (ToObject n) is)))
        | inr out ↦
            let all = all_theirs n gone.1 in
            let split = emptied_counts rest n (a ∷ numbers) (out, apart) in
            let more = from_more rest n a numbers in
            let one = link_held rest n a x is in
            absurd (omega (arith, all, split, more, one))
      ]

      -- so no path leads there from one that does not go
      stays_alive : (names : List (List ℕ)) (m n : ℕ) → (IsGone m → ⊥) → follow rest (ToObject m) names ≡ Some (ToObject n) → IsGone n → ⊥
      stays_alive [] m n alive is gone = alive (subst IsGone (sym (same_object m n is)) gone)
      stays_alive (x ∷ names) m n alive is gone =
          let next = next_link rest m n x names is in
          stays_alive names next.0 n (λ g. alive (from_gone next.0 m x g next.1)) next.2 gone

      goes : (n : ℕ) → IsGone n → get left n ≡ None
      goes n gone = got_left tree rest parent name link w sound n ∙ go (is_reached rest n) refl where
        go : (b : Bool) → is_reached rest n ≡ b → cond b (get rest n) None ≡ None
        go true reached =
            let path = path-from_is_reached rest n reached in
            absurd (stays_alive path.0 0 n (λ root. not_root root.0) path.2 gone)
        go false never = refl

      -- ---- what stays

      -- a path from the link leads to these objects alone
      led_in : (names : List (List ℕ)) (m n : ℕ) → In m numbers → follow tree (ToObject m) names ≡ Some (ToObject n) → In n numbers
      led_in [] m n at is = subst (λ (k : ℕ). In k numbers) (same_object m n is) at
      led_in (x ∷ names) m n at is =
          let next = next_link tree m n x names is in
          let one = link_held tree next.0 m x next.1 in
          let counted = from_least tree next.0 m numbers at in
          led_in names next.0 n (loses next.0 (omega (arith, one, counted))) next.2

      from_link : (l : Link) → link ≡ l → (names : List (List ℕ)) (n : ℕ) → follow tree l names ≡ Some (ToObject n) → In n numbers
      from_link (Soft text) leads names n is = absurd (soft_leads tree text names n is)
      from_link (ToObject m) leads names n is =
          let one = ap (adds m) leads ∙ leads_itself m in
          led_in names m n (loses m (omega (arith, one))) is

      abbrev IsLed : ℕ → Type 0
      IsLed k = IsPathTo tree rest parent name link w sound k

      others_led : (k : ℕ) → (In k numbers → ⊥) → IsSome (get tree k) → IsLed k
      others_led k out some = path_left tree rest parent name link w sound k some (λ names is. out (from_link link refl names k is))

      -- another object has a link to one of these that does not lose all
      by_another : (n : ℕ) → lost_links tree link numbers n < hard_links tree n → IsLed n
      by_another n low =
          let named = named_outside rest n numbers apart (omega (arith, low, same_from n, w.counts n)) in
          let was = w.fewer.links named.0 named.1 (ToObject n) named.3 in
          let path = others_led named.0 named.2 (group_stands tree named.0 (holds_links tree named.0 named.1 (ToObject n) was)) in
          (path.0 ++ named.1 ∷ [], follow-more rest (ToObject 0) (ToObject n) path.0 named.1 named.0 path.1 named.3)

      still_led : (n : ℕ) → (IsGone n → ⊥) → IsSome (get tree n) → IsLed n
      still_led n alive some = elim (in_or_out cases_eq n numbers) [
        | inr out ↦ others_led n out some
        | inl at ↦ elim (cases_lt (lost_links tree link numbers n) (hard_links tree n)) [
          | inl low ↦ by_another n low
          | inr high ↦ absurd (alive (at, omega (arith, high, lost_fits n)))
        ]
      ]

      stays : (n : ℕ) → (IsGone n → ⊥) → get left n ≡ get rest n
      stays n alive = stays_left tree rest parent name link w sound n (still_led n alive)

      -- ---- counts

      was_left : (k : ℕ) (o : Object) → get left k ≡ Some o → get rest k ≡ Some o
      was_left k o is = go (is_reached rest k) (sym (got_left tree rest parent name link w sound k) ∙ is) where
        go : (b : Bool) → cond b (get rest k) None ≡ Some o → get rest k ≡ Some o
        go true there = there
        go false none = absurd (let never : None ≡ Some o = none in cc)

      -- what is left of these objects has no links
      bare : (n k : ℕ) (o : Object) → In k numbers → get left k ≡ Some o → links_to n o.content ≡ 0
      bare n k o at is = go o.content refl where
        go : (c : Content) → o.content ≡ c → links_to n c ≡ 0
        go (Array d) e = refl
        go (Group links) e =
            let group : GroupAt rest k = record { object = o; links = links; stands = was_left k o is; is = e } in
            let some : IsSome (links_of tree k) = sym (w.fewer.groups k) ∙ ap (λ (x : Option Links). is_some x) (links_are rest k group) in
            let never : None ≡ Some o = sym (goes k (at, groups_go k at some)) ∙ is in
            absurd (cc)

      same_out : (k : ℕ) → (In k numbers → ⊥) → get left k ≡ get (emptied rest numbers) k
      same_out k out = stays k (λ gone. out gone.0) ∙ sym (emptied_other rest numbers k out)

      no_more : (n k : ℕ) (o : Object) → get left k ≡ Some o → links_to n o.content ≤ held (emptied rest numbers) n k
      no_more n k o is = elim (in_or_out cases_eq k numbers) [
        | inl at ↦ omega (arith, bare n k o at is)
        | inr out ↦ let same = ap (weight (λ (p : Object). links_to n p.content)) (sym (same_out k out) ∙ is) in omega (arith, same)
      ]

      no_fewer : (n k : ℕ) (o : Object) → get (emptied rest numbers) k ≡ Some o → links_to n o.content ≤ held left n k
      no_fewer n k o is = elim (in_or_out cases_eq k numbers) [
        | inl at ↦
            let none = ap (weight (λ (p : Object). links_to n p.content)) (sym (emptied_here rest numbers k at) ∙ is) in
            omega (arith, none, no_links n)
        | inr out ↦ let same = ap (weight (λ (p : Object). links_to n p.content)) (same_out k out ∙ is) in omega (arith, same)
      ]

      counts : (n : ℕ) → hard_links left n + lost_links tree link numbers n ≡ hard_links tree n
      counts n =
          let low = fewer_links n (emptied rest numbers) left (no_more n) in
          let high = fewer_links n left (emptied rest numbers) (no_fewer n) in
          let split = emptied_counts rest n numbers apart in
          omega (arith, low, high, split, same_from n, w.counts n)

      is_left : IsTreeLeft tree parent name link numbers
      is_left = record {
        good = sound_fewer tree rest (fewer_without tree parent name) sound;
        goes = λ n at all. goes n (in_contains n numbers at, all);
        stays = λ n alive. stays n (λ gone. alive (contains_in n numbers gone.0) gone.1);
        groups = λ n at. groups_go n (in_contains n numbers at);
        counts = counts;
        there = λ n at. stands n (in_contains n numbers at);
        not_parent = not_parent;
        not_root = λ at. not_root (in_contains 0 numbers at);
        within = λ m n leads at.
            let path = led n at in
            let way : follow tree (ToObject m) path.0 ≡ Some (ToObject n) = ap (λ (l : Link). follow tree l path.0) (sym leads) ∙ path.1 in
            let short = short_way path.0 (ToObject n) path.1 in
            contains_in n (within_names tree most_names m) (passes_in n (within_names tree most_names m) (within_names-follow tree path.0 most_names m n short way));
      }

  pub left_is : AreReachedFrom tree link numbers → IsTreeLeft tree parent name link numbers
  left_is are = is_left are.once are.led are.each
