-- The links of a group with one link less, whose names ascend: the map that they tell is without its name.
use Rattle.std.proofs.Common.{◌≡◌, inl, inr, ℕ, Bool, true, false, cond, List, [], ◌∷◌, ◌++◌, refl, sym, ap, ◌∙◌, subst, Option, Some, None}
use Rattle.std.specs.Ordering.{nat_cmp, is_lt, eq_by_cmp}
use Rattle.std.specs.Cmp.{tied_itself}
use Rattle.std.specs.Cmp.Lexicographic.{slice_cmp, nat_list_cmp_total}
use Rattle.std.specs.FinMap.{FinMap, find, get, get-entries, remove, same_map}
use Rattle.h5_model.specs.Format.Symbols.{Target}
use Rattle.h5_model.specs.Format.Links.{Before, Ascend}
use Rattle.h5_model.specs.Tree.Objects.{Link, Links}
use Rattle.h5_laws.proofs.Ascending.{ascends, before_trans}
use Rattle.h5_laws.proofs.Lists.{In, from_map}
use Rattle.h5_laws.proofs.Maps.{found_entry}
use Rattle.h5_laws.proofs.SoundLaws.Inserted.{names_differ, name_other, removed_here, removed_other, same_name_or_other}
use Rattle.h5_open.specs.Opened.Objects.{link_to, links_by}
use Rattle.h5_open.proofs.LinksPut.{links_put, untied_name}
use Rattle.h5_open.proofs.OpenedLaws.Entries.{link_entries, named_links}

before_differs : (a b : List ℕ) → Before a b → a ≡ b → ⊥
before_differs a b before same =
    let never : true ≡ false = sym before ∙ ap (λ (x : List ℕ). is_lt (slice_cmp nat_cmp x b)) same ∙ ap is_lt (tied_itself nat_list_cmp_total b) in
    absurd (cc)

-- what stands under a name is the link of this name
pub link_named : (table : FinMap nat_cmp ℕ) (found : List (List ℕ × Target)) → Ascend found → (name : List ℕ) (link : Link) → get (links_by table found) name ≡ Some link
    → (t : Target) × In (name, t) found × (link_to table t ≡ link)
link_named table found rise name link is =
    let entry : In (name, link) (named_links table found)
    = found_entry names_differ (named_links table found) name link
    (sym (get-entries (links_by table found) name ∙ ap (λ (es : List (List ℕ × Link)). find (slice_cmp nat_cmp) name es) (link_entries table found rise)) ∙ is) in
    let one = from_map (λ (l : List ℕ × Target). (l.0, link_to table l.1)) (name, link) found entry in
    let here : one.0.0 ≡ name = ap (λ (e : List ℕ × Link). e.0) one.2 in
    (one.0.1, subst (λ (n : List ℕ). In (n, one.0.1) found) here one.1, ap (λ (e : List ℕ × Link). e.1) one.2)

module _ (table : FinMap nat_cmp ℕ) (name : List ℕ) (t : Target) where
  abbrev found : List (List ℕ × Target) → Option Link
  found links = find (slice_cmp nat_cmp) name (named_links table links)

  -- a link with another name is none of this name
  passed : (l : List ℕ × Target) (links : List (List ℕ × Target)) → (name ≡ l.0 → ⊥) → found (l ∷ links) ≡ found links
  passed (k, x) links other =
      ap (λ (b : Bool). cond b (Some (link_to table x)) (found links)) (untied_name (eq_by_cmp (slice_cmp nat_cmp) name k) name k refl other)

  behind : (l : List ℕ × Target) (links : List (List ℕ × Target)) → Before name l.0 → Ascend (l ∷ links) → found (l ∷ links) ≡ None
  behind l [] before rise = passed l [] (before_differs name l.0 before)
  behind l (m ∷ links) before rise = passed l (m ∷ links) (before_differs name l.0 before) ∙ behind m links (before_trans name l.0 m.0 before rise.0) rise.1

  -- the others have other names
  others : (front back : List (List ℕ × Target)) → Ascend (front ++ (name, t) ∷ back) → found (front ++ back) ≡ None
  others [] [] rise = refl
  others [] (l ∷ back) rise = behind l back rise.0 rise.1
  others (l ∷ []) back rise = passed l back (λ same. before_differs l.0 name rise.0 (sym same)) ∙ others [] back rise.1
  others (l ∷ m ∷ front) back rise =
      passed l ((m ∷ front) ++ back) (λ same. before_differs l.0 name (ascends l (name, t) (l ∷ m ∷ front) back rise (inl refl)) (sym same))
      ∙ others (m ∷ front) back rise.1

  module _ (front back : List (List ℕ × Target)) (before : Ascend (front ++ (name, t) ∷ back)) (after : Ascend (front ++ back)) where
    abbrev was : Links
    was = links_by table (front ++ (name, t) ∷ back)

    abbrev now : Links
    now = links_by table (front ++ back)

    pub links_taken : now ≡ remove was name
    links_taken = same_map nat_list_cmp_total names_differ now (remove was name) (λ q. elim (same_name_or_other q name) [
      | inl here ↦
          ap (get now) here
          ∙ get-entries now name ∙ ap (λ (es : List (List ℕ × Link)). find (slice_cmp nat_cmp) name es) (link_entries table (front ++ back) after) ∙ others front back before
          ∙ sym (ap (get (remove was name)) here ∙ removed_here nat_list_cmp_total names_differ was name)
      | inr other ↦
          sym (removed_other nat_list_cmp_total names_differ was name q other ∙ ap (λ (links : Links). get links q) (links_put table name t front back after before)
          ∙ name_other now name (link_to table t) q other)
    ])
