-- Edits keep a state: object 0 stays a group, and each object's number was given out.
use Rattle.std.proofs.Common.{◌≡◌, ℕ, ◌+◌, ◌<◌, ◌≤◌, Bool, true, false, cond, List, refl, sym, ◌∙◌, ap, Some, None, is_some, nat_le, arith}
use Rattle.std.proofs.lemmas.Bool.Decides.{nat_tests}
use Rattle.std.specs.Ordering.{nat_cmp, eq_by_cmp}
use Rattle.std.specs.Cmp.{nat_cmp_total}
use Rattle.std.specs.declared.cmp.Ordering.TheVariants.{Less, Equal, Greater}
use Rattle.std.specs.FinMap.{get, insert, remove, empty, get-insert, get_tied, get-retain_keys, nat_cmp-IsAntisymmetric}
use Rattle.std.specs.Option.{option_map_or, option_and_then}
use Rattle.h5_model.specs.Format.Limits.{most_numbers}
use Rattle.h5_model.specs.Tree.Objects.{Tree, Link, ToObject, Soft, Links, Object, Group, Array, Dataset, links_in, with_object, only_reached, is_reached, within_names}
use Rattle.h5_model.specs.Tree.Paths.{parent_at, object_at}
use Rattle.h5_model.specs.Edits.Applied.{State, state_after, with_edit, with_link_at, without_link_at, with_hard_link, with_links, with_dataset, with_attributes, with_object_at, new_object, new_dataset, attribute_from, with_selection, with_sizes, makes_object}
use Rattle.h5_model.specs.Views.Selection.{axes_of}
use Rattle.h5_model.specs.Edits.Refusal.{has_many_objects}
use Rattle.h5_model.specs.Scripts.Sessions.{IsState}
use Rattle.h5_model.specs.declared.edits.Edit.{Edit}
use Rattle.h5_model.specs.declared.edits.Edit.TheVariants.{CreateGroup, CreateDataset, HardLink, SoftLink, Unlink, SetAttr, RemoveAttr, Write, Resize}

-- an object of this number passes
abbrev pub passes : (Object → Bool) → Tree → ℕ → Bool
passes test tree number = option_map_or test (get tree number) false

abbrev stands : Object → Bool
stands o = true

abbrev is_group : Object → Bool
is_group o = is_some (links_in o.content)

pub same_number : (x y : ℕ) → eq_by_cmp nat_cmp x y ≡ true → nat_cmp x y ≡ Equal
same_number x y h = elim (nat_cmp x y) as (λ r. Rattle.std.specs.Ordering.is_eq r ≡ true → r ≡ Equal) [
  | Less ↦ λ no. absurd (cc)
  | Equal ↦ λ _. refl
  | Greater ↦ λ no. absurd (cc)
] h

-- a change that keeps a test of the object changed
pub passes-with_object : (test : Object → Bool) (change : Object → Object) (tree : Tree) (number m : ℕ) → ((o : Object) → get tree number ≡ Some o → test (change o) ≡ test o)
    → passes test (with_object tree number change) m ≡ passes test tree m
passes-with_object test change tree number m keeps = elim (get tree number) as (λ found. get tree number ≡ found
    → option_map_or test (get (option_map_or (λ o. insert tree number (change o)) found tree) m) false ≡ passes test tree m) [
      | None ↦ λ _. refl
      | Some o ↦ λ there. ap (λ found. option_map_or test found false) (get-insert nat_cmp_total tree number (change o) m)
          ∙ elim (eq_by_cmp nat_cmp m number) as (λ b. eq_by_cmp nat_cmp m number ≡ b → option_map_or test (cond b (Some (change o)) (get tree m)) false ≡ passes test tree m) [
            | true ↦ λ same. keeps o there ∙ ap (λ found. option_map_or test found false) (sym there ∙ get_tied nat_cmp_total tree m number (same_number m number same))
            | false ↦ λ _. refl
          ] refl
    ] refl

group-with_links : (change : Links → Links) (o : Object) → is_group (with_links change o) ≡ is_group o
group-with_links change o = elim (o.content) as (λ content. is_some (links_in ((with_links change (record o { content = content })).content)) ≡ is_some (links_in content)) [
  | Group links ↦ refl
  | Array d ↦ refl
]

group-with_dataset : (change : Dataset → Dataset) (o : Object) → is_group (with_dataset change o) ≡ is_group o
group-with_dataset change o = elim (o.content) as (λ content. is_some (links_in ((with_dataset change (record o { content = content })).content)) ≡ is_some (links_in content)) [
  | Group links ↦ refl
  | Array d ↦ refl
]

-- ---- trees of the same objects and groups

record Alike (old new : Tree) : Type 0 where
  objects : (m : ℕ) → passes stands new m ≡ passes stands old m
  groups : (m : ℕ) → passes is_group new m ≡ passes is_group old m

Alike-with_object : (change : Object → Object) → ((o : Object) → is_group (change o) ≡ is_group o) → (tree : Tree) (number : ℕ) → Alike tree (with_object tree number change)
Alike-with_object change keeps tree number = record {
  objects = λ m. passes-with_object stands change tree number m (λ o there. refl);
  groups = λ m. passes-with_object is_group change tree number m (λ o there. keeps o);
}

Alike-itself : (tree : Tree) → Alike tree tree
Alike-itself tree = record { objects = λ m. refl; groups = λ m. refl }

Alike-linked : (tree : Tree) (path : List ℕ) (link : Link) → Alike tree (with_link_at tree path link)
Alike-linked tree path link = elim (parent_at tree path) as (λ p. Alike tree (option_map_or (λ p. with_object tree p.0 (with_links (λ links. insert links p.1 link))) p tree)) [
  | None ↦ Alike-itself tree
  | Some p ↦ Alike-with_object (with_links (λ links. insert links p.1 link)) (group-with_links (λ links. insert links p.1 link)) tree p.0
]

Alike-unlinked : (tree : Tree) (path : List ℕ) → Alike tree (without_link_at tree path)
Alike-unlinked tree path = elim (parent_at tree path) as (λ p. Alike tree (option_map_or (λ p. with_object tree p.0 (with_links (λ links. remove links p.1))) p tree)) [
  | None ↦ Alike-itself tree
  | Some p ↦ Alike-with_object (with_links (λ links. remove links p.1)) (group-with_links (λ links. remove links p.1)) tree p.0
]

Alike-linked_to : (tree : Tree) (target path : List ℕ) → Alike tree (with_hard_link tree target path)
Alike-linked_to tree target path = elim (object_at tree target) as (λ o. Alike tree (option_map_or (λ number. with_link_at tree path (ToObject number)) o tree)) [
  | None ↦ Alike-itself tree
  | Some number ↦ Alike-linked tree path (ToObject number)
]

Alike-with_object_at : (change : Object → Object) → ((o : Object) → is_group (change o) ≡ is_group o) → (tree : Tree) (path : List ℕ) → Alike tree (with_object_at tree path change)
Alike-with_object_at change keeps tree path = elim (object_at tree path) as (λ o. Alike tree (option_map_or (λ number. with_object tree number change) o tree)) [
  | None ↦ Alike-itself tree
  | Some number ↦ Alike-with_object change keeps tree number
]

-- ---- states

-- the same as `IsState`, by tests
record IsRooted (tree : Tree) (next : ℕ) : Type 0 where
  rooted : passes is_group tree 0 ≡ true
  given : (m : ℕ) → passes stands tree m ≡ true → m < next

IsRooted-alike : (old new : Tree) (next : ℕ) → Alike old new → IsRooted old next → IsRooted new next
IsRooted-alike old new next alike kept = record {
  rooted = alike.groups 0 ∙ kept.rooted;
  given = λ m h. kept.given m (sym (alike.objects m) ∙ h);
}

-- the root has a number that was given out
some_given : (tree : Tree) (next : ℕ) → IsRooted tree next → 0 < next
some_given tree next kept = kept.given 0 (elim (get tree 0) as (λ found. option_map_or is_group found false ≡ true → option_map_or stands found false ≡ true) [
  | None ↦ λ no. absurd (cc)
  | Some o ↦ λ _. refl
] kept.rooted)

IsRooted-insert : (tree : Tree) (next : ℕ) (o : Object) → IsRooted tree next → IsRooted (insert tree next o) (next + 1)
IsRooted-insert tree next o kept = record {
  rooted = ap (λ found. option_map_or is_group found false) (get-insert nat_cmp_total tree next o 0)
      ∙ elim (eq_by_cmp nat_cmp 0 next) as (λ b. eq_by_cmp nat_cmp 0 next ≡ b → option_map_or is_group (cond b (Some o) (get tree 0)) false ≡ true) [
        | true ↦ λ same. let zero_next : 0 ≡ next = nat_cmp-IsAntisymmetric 0 next (same_number 0 next same) in absurd (omega (arith, zero_next, some_given tree next kept))
        | false ↦ λ _. kept.rooted
      ] refl;
  given = λ m h. elim (eq_by_cmp nat_cmp m next) as (λ b. eq_by_cmp nat_cmp m next ≡ b → option_map_or stands (cond b (Some o) (get tree m)) false ≡ true → m < next + 1) [
    | true ↦ λ same _. let here : m ≡ next = nat_cmp-IsAntisymmetric m next (same_number m next same) in omega (arith, here)
    | false ↦ λ _ old. omega (arith, kept.given m old)
  ] refl (sym (ap (λ found. option_map_or stands found false) (get-insert nat_cmp_total tree next o m)) ∙ h);
}

root_is_reached : (tree : Tree) → is_reached tree 0 ≡ true
unfolding is_reached within_names
root_is_reached tree = refl

IsRooted-only_reached : (tree : Tree) (next : ℕ) → IsRooted tree next → IsRooted (only_reached tree) next
IsRooted-only_reached tree next kept =
    let same = λ (q x : ℕ) (tied : nat_cmp q x ≡ Equal). ap (is_reached tree) (sym (nat_cmp-IsAntisymmetric q x tied)) in
    let found = λ (m : ℕ). get-retain_keys tree (is_reached tree) m (same m) in
    record {
      rooted = ap (λ o. option_map_or is_group o false) (found 0 ∙ ap (λ b. cond b (get tree 0) None) (root_is_reached tree)) ∙ kept.rooted;
      given = λ m h. elim (is_reached tree m) as (λ b. option_map_or stands (cond b (get tree m) None) false ≡ true → m < next) [
        | true ↦ λ there. kept.given m there
        | false ↦ λ no. absurd (cc)
      ] (sym (ap (λ o. option_map_or stands o false) (found m)) ∙ h);
    }

from_IsState : (s : State) → IsState s → IsRooted s.tree s.next
from_IsState s is = record {
  rooted = elim (get s.tree 0) as (λ found. is_some (option_and_then (λ (o : Object). links_in o.content) found) ≡ true → option_map_or is_group found false ≡ true) [
    | None ↦ λ no. absurd (cc)
    | Some o ↦ λ yes. yes
  ] is.rooted;
  given = λ m h. is.given m (elim (get s.tree m) as (λ found. option_map_or stands found false ≡ true → is_some found ≡ true) [
    | None ↦ λ no. absurd (cc)
    | Some o ↦ λ _. refl
  ] h);
}

to_IsState : (s : State) → IsRooted s.tree s.next → s.next ≤ most_numbers → IsState s
to_IsState s kept low = record {
  rooted = elim (get s.tree 0) as (λ found. option_map_or is_group found false ≡ true → is_some (option_and_then (λ (o : Object). links_in o.content) found) ≡ true) [
    | None ↦ λ no. absurd (cc)
    | Some o ↦ λ yes. yes
  ] kept.rooted;
  given = λ m h. kept.given m (elim (get s.tree m) as (λ found. is_some found ≡ true → option_map_or stands found false ≡ true) [
    | None ↦ λ no. absurd (cc)
    | Some o ↦ λ _. refl
  ] h);
  low = low;
}

-- an edit that makes no object, and one that does
IsState-alike : (s : State) (tree : Tree) → IsState s → Alike s.tree tree → IsState (record { tree = tree; next = s.next })
IsState-alike s tree is alike = to_IsState (record { tree = tree; next = s.next }) (IsRooted-alike s.tree tree s.next alike (from_IsState s is)) is.low

IsState-made : (s : State) (path : List ℕ) (o : Object) → IsState s → nat_le most_numbers s.next ≡ false
    → IsState (record { tree = insert (with_link_at s.tree path (ToObject s.next)) s.next o; next = s.next + 1 })
IsState-made s path o is room =
    to_IsState (record { tree = insert (with_link_at s.tree path (ToObject s.next)) s.next o; next = s.next + 1 })
    (IsRooted-insert (with_link_at s.tree path (ToObject s.next)) s.next o
    (IsRooted-alike s.tree (with_link_at s.tree path (ToObject s.next)) s.next (Alike-linked s.tree path (ToObject s.next)) (from_IsState s is)))
    (grind (arith, nat_tests))

-- an edit keeps a state, where a number is left for what it makes
pub IsState-state_after : (s : State) (edit : Edit) → IsState s → has_many_objects s.next edit ≡ false → IsState (state_after s edit)
unfolding with_edit
IsState-state_after s (CreateGroup path) is room = IsState-made s path (new_object (Group empty)) is room
IsState-state_after s (CreateDataset path spec) is room = IsState-made s path (new_object (Array (new_dataset spec))) is room
IsState-state_after s (HardLink target path) is room = IsState-alike s (with_hard_link s.tree target path) is (Alike-linked_to s.tree target path)
IsState-state_after s (SoftLink text path) is room = IsState-alike s (with_link_at s.tree path (Soft text)) is (Alike-linked s.tree path (Soft text))
IsState-state_after s (Unlink path) is room =
    to_IsState (record { tree = only_reached (without_link_at s.tree path); next = s.next })
    (IsRooted-only_reached (without_link_at s.tree path) s.next (IsRooted-alike s.tree (without_link_at s.tree path) s.next (Alike-unlinked s.tree path) (from_IsState s is))) is.low
IsState-state_after s (SetAttr path attr) is room =
    IsState-alike s _ is (Alike-with_object_at (with_attributes (λ m. insert m attr.name (attribute_from attr))) (λ o. refl) s.tree path)
IsState-state_after s (RemoveAttr path name) is room =
    IsState-alike s _ is (Alike-with_object_at (with_attributes (λ m. remove m name)) (λ o. refl) s.tree path)
IsState-state_after s (Write path hyper values) is room =
    IsState-alike s _ is (Alike-with_object_at (with_dataset (with_selection (axes_of hyper) values)) (group-with_dataset (with_selection (axes_of hyper) values)) s.tree path)
IsState-state_after s (Resize path dims) is room =
    IsState-alike s _ is (Alike-with_object_at (with_dataset (with_sizes dims)) (group-with_dataset (with_sizes dims)) s.tree path)

-- the next number never falls
pub next-state_after : (s : State) (edit : Edit) → s.next ≤ (state_after s edit).next
next-state_after s edit = elim (makes_object edit) as (λ b. s.next ≤ cond b (s.next + 1) s.next) [ true ↦ omega arith | false ↦ omega arith ]
