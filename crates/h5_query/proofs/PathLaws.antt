-- Where a name leads in any tree, and the names of a path.
use Rattle.std.proofs.Common.{◌≡◌, ℕ, ◌≤◌, List, [], ◌∷◌, length, drop, refl, ap, ◌∙◌, sym, Option, Some, None, Bool, true, false, not, arith}
use Rattle.std.specs.Prelude.{◌==◌, ◌&&◌, if◌then◌else◌, slice_index, option_map}
use Rattle.std.specs.List.{slice_split, list_all}
use Rattle.std.specs.Option.{option_map_or, option_and_then}
use Rattle.std.specs.FinMap.{get}
use Rattle.std.proofs.lemmas.Option.{same_Some}
use Rattle.h5_model.specs.Tree.Objects.{Tree, Link, Links, ToObject, Soft, links_of, link_in}
use Rattle.h5_query.proofs.Parts.{is_slash}
use Rattle.h5_model.specs.Tree.Paths.{Located, NoGroup, is_name, names_of, last_of, locate, missing_before, parent_from}

-- ---- a name

module _ (tree : Tree) (number : ℕ) (name : List ℕ) (names : List (List ℕ)) where
  abbrev behind : Option Link → Located
  behind link = option_map_or (λ l. locate tree l names) link (missing_before names)

  pub locate-no_group : links_of tree number ≡ None → locate tree (ToObject number) (name ∷ names) ≡ NoGroup
  locate-no_group none = ap (λ (o : Option Links). option_map_or (λ (ls : Links). behind (get ls name)) o NoGroup) none

  pub locate-missing : (links : Links) → links_of tree number ≡ Some links → get links name ≡ None → locate tree (ToObject number) (name ∷ names) ≡ missing_before names
  locate-missing links has none = ap (λ (o : Option Links). option_map_or (λ (ls : Links). behind (get ls name)) o NoGroup) has ∙ ap behind none

  pub locate-linked : (link : Link) → link_in tree number name ≡ Some link → locate tree (ToObject number) (name ∷ names) ≡ locate tree link names
  locate-linked link there = elim (links_of tree number) as (λ o. option_and_then (λ (ls : Links). get ls name) o ≡ Some link
      → option_map_or (λ (ls : Links). behind (get ls name)) o NoGroup ≡ locate tree link names) [
        | None ↦ λ no. absurd (cc)
        | Some links ↦ λ is. ap behind is
      ] there

  -- where other names stand behind it, the group before the last of them is found from its link
  pub parent-linked : (next : List ℕ) (link : Link) → link_in tree number name ≡ Some link
      → parent_from tree (ToObject number) (name ∷ next ∷ names) ≡ parent_from tree link (next ∷ names)
  parent-linked next link there = ap (option_and_then (λ l. parent_from tree l (next ∷ names))) there

-- the name in the group before the last name is the last one
pub last-parent : (tree : Tree) (link : Link) (names : List (List ℕ)) (number : ℕ) (name : List ℕ) → parent_from tree link names ≡ Some (number, name) → last_of names ≡ name
last-parent tree link [] number name h = absurd (cc)
last-parent tree (Soft text) (x ∷ names) number name h = absurd (cc)
last-parent tree (ToObject n) (x ∷ []) number name h = let same : (n, x) ≡ (number, name) = cc in ap (λ (p : ℕ × List ℕ). p.1) same
last-parent tree (ToObject n) (x ∷ next ∷ names) number name h = elim (link_in tree n x) as (λ o.
    option_and_then (λ l. parent_from tree l (next ∷ names)) o ≡ Some (number, name) → last_of (next ∷ names) ≡ name) [
      | None ↦ λ no. absurd (cc)
      | Some link ↦ λ is. last-parent tree link (next ∷ names) number name is
    ] h

-- ---- a path

some_names : (b c d : Bool) (ps : List (List ℕ)) (x : List ℕ) (xs : List (List ℕ)) → (if b then (if c then Some [] else (if d then Some ps else None)) else None) ≡ Some (x ∷ xs) → ps ≡ x ∷ xs
some_names true true d ps x xs h = absurd (cc)
some_names true false true ps x xs h = same_Some ps (x ∷ xs) h
some_names true false false ps x xs h = absurd (cc)
some_names false c d ps x xs h = absurd (cc)

-- the names of a path stand between its slashes
pub names-split : (path x : List ℕ) (xs : List (List ℕ)) → names_of path ≡ Some (x ∷ xs) → slice_split is_slash (drop 1 path) ≡ x ∷ xs
unfolding names_of
names-split path x xs h =
    some_names (not (length path == 0) && slice_index path 0 == 47) (length path == 1) (list_all is_name (slice_split is_slash (drop 1 path))) (slice_split is_slash (drop 1 path)) x xs h

pub path-long : (path : List ℕ) (names : List (List ℕ)) → names_of path ≡ Some names → 1 ≤ length path
unfolding names_of
path-long [] names h = absurd (cc)
path-long (c ∷ path) names h = omega arith

-- a path that was counted has names
pub counted : (path : List ℕ) (n : ℕ) → Some n ≡ option_map length (names_of path) → (names : List (List ℕ)) × (names_of path ≡ Some names) × (length names ≡ n)
counted path n h = elim (names_of path) as (λ o. names_of path ≡ o → Some n ≡ option_map length o → (names : List (List ℕ)) × (names_of path ≡ Some names) × (length names ≡ n)) [
  | None ↦ λ _ no. absurd (cc)
  | Some names ↦ λ is same. (names, is, sym (same_Some n (length names) same))
] refl h

pub none_counted : (path : List ℕ) → None ≡ option_map length (names_of path) → names_of path ≡ None
none_counted path h = elim (names_of path) as (λ o. None ≡ option_map length o → o ≡ None) [
  | None ↦ λ _. refl
  | Some names ↦ λ no. absurd (cc)
] h
