-- The links of a group with one link more, whose names ascend: the map that they tell has it under its name.
use Rattle.std.proofs.Common.{◌≡◌, inl, inr, ℕ, Bool, true, false, cond, List, [], ◌∷◌, ◌++◌, refl, sym, ap, ◌∙◌, Option, Some}
use Rattle.std.specs.Ordering.{nat_cmp, eq_by_cmp}
use Rattle.std.specs.Cmp.{Equal-is}
use Rattle.std.specs.Cmp.Lexicographic.{slice_cmp, nat_list_cmp_total}
use Rattle.std.specs.FinMap.{FinMap, find, get, insert, get-entries, same_map}
use Rattle.h5_model.specs.Format.Symbols.{Target}
use Rattle.h5_model.specs.Format.Links.{Ascend}
use Rattle.h5_model.specs.Tree.Objects.{Link, Links}
use Rattle.h5_laws.proofs.Lists.{In}
use Rattle.h5_laws.proofs.SoundLaws.Inserted.{names_differ, name_here, name_other, same_name_or_other}
use Rattle.h5_open.specs.Opened.Objects.{link_to, links_by}
use Rattle.h5_open.proofs.OpenedLaws.Entries.{get_link, link_entries, named_links}

pub untied_name : (b : Bool) (q k : List ℕ) → eq_by_cmp (slice_cmp nat_cmp) q k ≡ b → (q ≡ k → ⊥) → b ≡ false
untied_name true q k h other = absurd (other (names_differ q k ((Equal-is (slice_cmp nat_cmp q k)).0 h)))
untied_name false q k h other = refl

-- the link that was put
pub put_in : (l : List ℕ × Target) (front back : List (List ℕ × Target)) → In l (front ++ l ∷ back)
put_in l [] back = inl refl
put_in l (x ∷ front) back = inr (put_in l front back)

module _ (table : FinMap nat_cmp ℕ) (name : List ℕ) (t : Target) where
  find_other : (q : List ℕ) → (q ≡ name → ⊥) → (front back : List (List ℕ × Target))
      → find (slice_cmp nat_cmp) q (named_links table (front ++ (name, t) ∷ back)) ≡ find (slice_cmp nat_cmp) q (named_links table (front ++ back))
  find_other q other [] back =
      ap (λ (b : Bool). cond b (Some (link_to table t)) (find (slice_cmp nat_cmp) q (named_links table back))) (untied_name (eq_by_cmp (slice_cmp nat_cmp) q name) q name refl other)
  find_other q other ((k, x) ∷ front) back =
      ap (λ (found : Option Link). cond (eq_by_cmp (slice_cmp nat_cmp) q k) (Some (link_to table x)) found) (find_other q other front back)

  module _ (front back : List (List ℕ × Target)) (before : Ascend (front ++ back)) (after : Ascend (front ++ (name, t) ∷ back)) where
    abbrev was : Links
    was = links_by table (front ++ back)

    abbrev now : Links
    now = links_by table (front ++ (name, t) ∷ back)

    abbrev put : Links
    put = insert was name (link_to table t)

    found : (q : List ℕ) → (q ≡ name → ⊥) → get now q ≡ get was q
    found q other =
        get-entries now q
        ∙ ap (λ (es : List (List ℕ × Link)). find (slice_cmp nat_cmp) q es) (link_entries table (front ++ (name, t) ∷ back) after)
        ∙ find_other q other front back
        ∙ sym (get-entries was q ∙ ap (λ (es : List (List ℕ × Link)). find (slice_cmp nat_cmp) q es) (link_entries table (front ++ back) before))

    pub links_put : now ≡ put
    links_put = same_map nat_list_cmp_total names_differ now put (λ q. elim (same_name_or_other q name) [
      | inl here ↦
          ap (get now) here ∙ get_link table (front ++ (name, t) ∷ back) after name t (put_in (name, t) front back)
          ∙ sym (ap (get put) here ∙ name_here was name (link_to table t))
      | inr other ↦ found q other ∙ sym (name_other was name (link_to table t) q other)
    ])
