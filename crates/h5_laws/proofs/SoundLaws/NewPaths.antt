-- The path of a link that an accepted edit makes: where it stands, how deep, and under which name.
use Rattle.std.proofs.Common.{◌≡◌, ℕ, suc, ◌+◌, ◌≤◌, Bool, true, false, cond, List, [], ◌∷◌, length, refl, sym, ap, ◌∙◌, subst, Option, Some, None, inl, inr, arith, not, ◌&&◌, nat_lt}
use Rattle.std.proofs.lemmas.Bool.Decides.{nat_tests}
use Rattle.std.specs.Prelude.{is_some, is_none, ◌==◌, slice_index, drop}
use Rattle.std.specs.List.{list_any, list_all, slice_split}
use Rattle.std.specs.Option.{option_and_then, option_map_or}
use Rattle.std.specs.FinMap.{get}
use Rattle.std.proofs.lemmas.Bool.{and_parts, or_parts}
use Rattle.h5_model.specs.Format.Limits.{most_names}
use Rattle.h5_model.specs.declared.edits.Edit.{Edit}
use Rattle.h5_model.specs.Tree.Paths.{is_name, checked_names, names_of, Located, Here, Missing, NoParent, NoGroup, NoPath, locate, location_of, parent_from, parent_at}
use Rattle.h5_model.specs.Edits.Refusal.{new_path, is_deep, is_root, has_no_parent, has_no_group, is_here, refusal_of, rules_of}
use Rattle.h5_model.specs.Tree.Objects.{Tree, Links, Link, ToObject, Soft, links_of, link_in}
use Rattle.h5_model.proofs.PathLaws.{is_place, locate-is_place, beside, locate-beside, has_parent, parent_of-has_parent}
use Rattle.h5_model.proofs.RefusalLaws.{none_holds}
use Rattle.h5_laws.proofs.Lists.{In}
use Rattle.h5_laws.proofs.SoundLaws.Depths.{Depth, at_root, deeper}
use Rattle.h5_laws.proofs.SoundLaws.LinksThere.{GroupAt, group_of}

-- a group so deep, and a name that is free in it
pub record IsFree (tree : Tree) (path : List ℕ) : Type 0 where
  pub parent : ℕ
  pub name : List ℕ
  pub found : parent_at tree path ≡ Some (parent, name)
  pub group : GroupAt tree parent
  pub free : get group.links name ≡ None
  pub named : is_name name ≡ true
  pub depth : ℕ
  pub above : Depth tree depth parent
  pub low : depth + 1 ≤ most_names

-- ---- names

checked : (names given : List (List ℕ)) → checked_names names ≡ Some given → list_all is_name given ≡ true
checked names given is = go (list_all is_name names) refl is where
  go : (b : Bool) → list_all is_name names ≡ b → cond b (Some names) None ≡ Some given → list_all is_name given ≡ true
  go true good here = let same : names ≡ given = cc in ap (list_all is_name) (sym same) ∙ good
  go false bad here = absurd (let never : None ≡ Some given = here in cc)

at_root_or : (b : Bool) (names given : List (List ℕ)) → cond b (Some []) (checked_names names) ≡ Some given → list_all is_name given ≡ true
at_root_or true names given is = let none : [] ≡ given = cc in ap (list_all is_name) (sym none)
at_root_or false names given is = checked names given is

slash_or : (b c : Bool) (names given : List (List ℕ)) → cond b (cond c (Some []) (checked_names names)) None ≡ Some given → list_all is_name given ≡ true
slash_or true c names given is = at_root_or c names given is
slash_or false c names given is = absurd (let never : None ≡ Some given = is in cc)

-- the names of a path are names
all_names : (path : List ℕ) (given : List (List ℕ)) → names_of path ≡ Some given → list_all is_name given ≡ true
unfolding names_of
all_names path given is =
    slash_or (not (length path == 0) && slice_index path 0 == 47) (length path == 1) (slice_split (λ c. c == 47) (drop 1 path)) given is

-- ---- the group before the last name

abbrev Above : Tree → ℕ → List (List ℕ) → (ℕ × List ℕ) → Type 0
Above tree k names p = (d : ℕ) × Depth tree d p.0 × (d + 1 ≡ k + length names) × (list_all is_name names ≡ true → is_name p.1 ≡ true)

last_name : (tree : Tree) (k n : ℕ) (name : List ℕ) (p : ℕ × List ℕ) → Depth tree k n → Some (n, name) ≡ Some p → Above tree k (name ∷ []) p
last_name tree k n name p deep is =
    let same : (n, name) ≡ p = cc in
    let number : n ≡ p.0 = ap (λ (q : ℕ × List ℕ). q.0) same in
    let named : name ≡ p.1 = ap (λ (q : ℕ × List ℕ). q.1) same in
    (k, subst (Depth tree k) number deep, refl, λ all. subst (λ (x : List ℕ). is_name x ≡ true) named (and_parts (is_name name) true all).0)

parent_above : (tree : Tree) (names : List (List ℕ)) (link : Link) (k : ℕ) (p : ℕ × List ℕ) → ((n : ℕ) → link ≡ ToObject n → Depth tree k n)
    → parent_from tree link names ≡ Some p → Above tree k names p
parent_above tree [] link k p deep is = absurd (let never : None ≡ Some p = is in cc)
parent_above tree (name ∷ names) (Soft text) k p deep is = absurd (let never : None ≡ Some p = is in cc)
parent_above tree (name ∷ []) (ToObject n) k p deep is = last_name tree k n name p (deep n refl) is
parent_above tree (name ∷ next ∷ names) (ToObject n) k p deep is = elim (link_in tree n name) as (λ o. link_in tree n name ≡ o
    → option_and_then (λ l. parent_from tree l (next ∷ names)) o ≡ Some p → Above tree k (name ∷ next ∷ names) p) [
      | None ↦ λ there no. absurd (let never : None ≡ Some p = no in cc)
      | Some l ↦ λ there rest.
          let below = parent_above tree (next ∷ names) l (suc k) p (λ m e. deeper tree k n m name (deep n refl) (there ∙ ap (λ (x : Link). Some x) e)) rest in
          (below.0, below.1, omega (arith, below.2), λ all. below.3 (and_parts (is_name name) (list_all is_name (next ∷ names)) all).1)
    ] refl is

-- ---- a path that leads nowhere yet

missing : (at : Located) → is_place at ≡ true → has_no_parent at ≡ false → has_no_group at ≡ false → is_here at ≡ false → at ≡ Missing
missing (Here link) place parent group here = absurd (cc)
missing Missing place parent group here = refl
missing NoParent place parent group here = absurd (cc)
missing NoGroup place parent group here = absurd (cc)
missing NoPath place parent group here = absurd (cc)

free_beside : (tree : Tree) (p : ℕ × List ℕ) → beside tree p ≡ Missing → (g : GroupAt tree p.0) × (get g.links p.1 ≡ None)
free_beside tree p is = go (links_of tree p.0) refl is where
  at_name : (links : Links) (o : Option Link) → links_of tree p.0 ≡ Some links → get links p.1 ≡ o → option_map_or (λ link. Here link) o Missing ≡ Missing
      → (g : GroupAt tree p.0) × (get g.links p.1 ≡ None)
  at_name links None there none yet = let g = group_of tree p.0 links there in (g.0, ap (λ (ls : Links). get ls p.1) g.1 ∙ none)
  at_name links (Some l) there some yet = absurd (let never : Here l ≡ Missing = yet in cc)

  go : (o : Option Links) → links_of tree p.0 ≡ o → option_map_or (λ links. option_map_or (λ link. Here link) (get links p.1) Missing) o NoGroup ≡ Missing
      → (g : GroupAt tree p.0) × (get g.links p.1 ≡ None)
  go None there yet = absurd (let never : NoGroup ≡ Missing = yet in cc)
  go (Some links) there yet = at_name links (get links p.1) there refl yet

module _ (tree : Tree) (path : List ℕ) where
  with_parent : (names : List (List ℕ)) (p : ℕ × List ℕ) → names_of path ≡ Some names → length names ≤ most_names → parent_from tree (ToObject 0) names ≡ Some p
      → locate tree (ToObject 0) names ≡ Missing → IsFree tree path
  with_parent names p form short from yet =
      let stands = free_beside tree p (sym (locate-beside tree (ToObject 0) names p from) ∙ yet) in
      let root : (n : ℕ) → ToObject 0 ≡ ToObject n → Depth tree 0 n = λ n e. let same : 0 ≡ n = cc in subst (Depth tree 0) same (at_root tree) in
      let up = parent_above tree names (ToObject 0) 0 p root from in
      record {
        parent = p.0;
        name = p.1;
        found = ap (option_and_then (parent_from tree (ToObject 0))) form ∙ from;
        group = stands.0;
        free = stands.1;
        named = up.3 (all_names path names form);
        depth = up.0;
        above = up.1;
        low = omega (arith, up.2, short);
      }

  by_parent : (names : List (List ℕ)) (o : Option (ℕ × List ℕ)) → is_some o ≡ true → names_of path ≡ Some names → length names ≤ most_names
      → parent_from tree (ToObject 0) names ≡ o → locate tree (ToObject 0) names ≡ Missing → IsFree tree path
  by_parent names None some form short from yet = absurd (let never : false ≡ true = some in cc)
  by_parent names (Some p) some form short from yet = with_parent names p form short from yet

  by_names : (o : Option (List (List ℕ))) → names_of path ≡ o → is_none o ≡ false → option_map_or (λ names. nat_lt most_names (length names)) o false ≡ false
      → option_map_or (λ names. length names == 0) o false ≡ false
      → (at : Located) → at ≡ option_map_or (λ names. locate tree (ToObject 0) names) o NoPath → has_no_parent at ≡ false → has_no_group at ≡ false → is_here at ≡ false
      → IsFree tree path
  by_names None form some deep root at is parent group here = absurd (cc)
  by_names (Some []) form some deep root at is parent group here = absurd (cc)
  by_names (Some (name ∷ names)) form some deep root at is parent group here =
      let place : is_place at ≡ true = ap is_place is ∙ locate-is_place tree (ToObject 0) (name ∷ names) in
      let yet : locate tree (ToObject 0) (name ∷ names) ≡ Missing = sym is ∙ missing at place parent group here in
      let short : length (name ∷ names) ≤ most_names = grind (arith, nat_tests, deep) in
      by_parent (name ∷ names) (parent_from tree (ToObject 0) (name ∷ names)) (parent_of-has_parent tree (ToObject 0) name names (ap has_parent yet)) form short refl yet

  pub free_path : is_none (names_of path) ≡ false → is_deep path ≡ false → is_root path ≡ false → has_no_parent (location_of tree path) ≡ false
      → has_no_group (location_of tree path) ≡ false → is_here (location_of tree path) ≡ false → IsFree tree path
  free_path some deep root parent group here = by_names (names_of path) refl some deep root (location_of tree path) refl parent group here

-- ---- the rules

pub none_any : {X : Type 0} (test : X → Bool) (xs : List X) (x : X) → list_any test xs ≡ false → In x xs → test x ≡ false
none_any test [] x none at = absurd at
none_any test (y ∷ xs) x none (inl e) = ap test (sym e) ∙ (or_parts (test y) (list_any test xs) none).0
none_any test (y ∷ xs) x none (inr at) = none_any test xs x (or_parts (test y) (list_any test xs) none).1 at

-- the new path of an accepted edit is free
pub new_is_free : (tree : Tree) (next : ℕ) (edit : Edit) (path : List ℕ) → In path (new_path edit) → refusal_of tree next edit ≡ None → IsFree tree path
unfolding refusal_of
new_is_free tree next edit path at accepted =
    let rules = none_holds (rules_of tree next edit) accepted in
    let later = rules.1.1.1 in
    free_path tree path
    (none_any (λ p. is_none (names_of p)) (new_path edit) path (or_parts _ _ (or_parts _ _ rules.0).0).1 at)
    (none_any is_deep (new_path edit) path (or_parts _ _ rules.1.0).1 at)
    (none_any is_root (new_path edit) path (or_parts _ _ rules.1.1.0).0 at)
    (none_any (λ p. has_no_parent (location_of tree p)) (new_path edit) path (or_parts _ _ later.0).1 at)
    (none_any (λ p. has_no_group (location_of tree p)) (new_path edit) path (or_parts _ _ later.1.0).1 at)
    (none_any (λ p. is_here (location_of tree p)) (new_path edit) path later.1.1.1.0 at)
