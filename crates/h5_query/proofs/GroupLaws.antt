-- The links of a group that was read, as the tree has them.
use Rattle.std.proofs.Common.{◌≡◌, ◌≢◌, ℕ, List, [], ◌∷◌, map, refl, sym, ap, ◌∙◌, subst, Some, None, cond, true, false, nat_eq, inl, inr}
use Rattle.std.specs.Ordering.{nat_cmp, eq_by_cmp}
use Rattle.std.specs.Cmp.Lexicographic.{slice_cmp, nat_list_cmp_total, pointwise, texts_ties, same_text as same_texts}
use Rattle.std.specs.FinMap.{FinMap, get, keys, find, get-from_entries}
use Rattle.h5_model.specs.Format.Symbols.{Target}
use Rattle.h5_model.specs.Tree.Objects.{Link}
use Rattle.h5_laws.proofs.Lists.{In, in_contains, contains_in}
use Rattle.h5_open.specs.GroupTold.{links_told}
use Rattle.h5_open.specs.Links.{IsGroupRead, IsLinkNamed, HasNone, lent_target, lent_link}
use Rattle.h5_model.specs.Format.Addresses.{SymbolTable}
use Rattle.h5_model.specs.declared.link.Link.{Link as LinkOf}
use Rattle.h5_open.specs.Opened.Objects.{link_to, links_by}
use Rattle.h5_open.proofs.OpenedLaws.Entries.{get_link, names_ascend, group_entries}

untied : (x name : List ℕ) → x ≢ name → eq_by_cmp (slice_cmp nat_cmp) x name ≡ false
untied x name other = sym (texts_ties x name) ∙ elim (pointwise nat_eq x name) as (λ b. b ≡ pointwise nat_eq x name → b ≡ false) [
  | true ↦ λ same. absurd (other (same_texts x name same))
  | false ↦ λ _. refl
] refl

none_found : (table : FinMap nat_cmp ℕ) (found : List (List ℕ × Target)) (name : List ℕ) → ((t : Target) → In (name, t) found → ⊥)
    → find (slice_cmp nat_cmp) name (map (λ (l : List ℕ × Target). (l.0, link_to table l.1)) found) ≡ None
none_found table [] name none = refl
none_found table ((x, t) ∷ found) name none =
    let other : eq_by_cmp (slice_cmp nat_cmp) name x ≡ false = untied name x (λ same. none t (inl (ap (λ (n : List ℕ). (n, t)) (sym same)))) in
    ap (λ b. cond b (Some (link_to table t)) (find (slice_cmp nat_cmp) name (map (λ (l : List ℕ × Target). (l.0, link_to table l.1)) found))) other
    ∙ none_found table found name (λ u at. none u (inr at))

module _ (image : List ℕ) (table : FinMap nat_cmp ℕ) (g : SymbolTable) (read : IsGroupRead image g) where
  -- the link of a name
  pub link_named : (name : List ℕ) (l : LinkOf ℕ) → IsLinkNamed image g name l → get (links_by table (links_told image g)) name ≡ Some (link_to table (lent_target l.to))
  link_named name l is =
      subst (λ (n : List ℕ). get (links_by table (links_told image g)) n ≡ Some (link_to table (lent_target l.to))) is.1
      (get_link table (links_told image g) (names_ascend image g read) l.name.now (lent_target l.to) (in_contains (lent_link l) (links_told image g) is.0))

  pub none_named : (name : List ℕ) → HasNone image g name → get (links_by table (links_told image g)) name ≡ None
  none_named name none =
      get-from_entries nat_list_cmp_total (map (λ (l : List ℕ × Target). (l.0, link_to table l.1)) (links_told image g)) name
      ∙ none_found table (links_told image g) name (λ t at. none t (contains_in (name, t) (links_told image g) at))

names_alike : (table : FinMap nat_cmp ℕ) (found : List (List ℕ × Target)) → map (λ (l : List ℕ × Link). l.0) (map (λ (l : List ℕ × Target). (l.0, link_to table l.1)) found) ≡ map (λ (l : List ℕ × Target). l.0) found
names_alike table [] = refl
names_alike table (l ∷ found) = ap (λ (names : List (List ℕ)). l.0 ∷ names) (names_alike table found)

-- the names of the links, ascending
pub keys_are : (image : List ℕ) (table : FinMap nat_cmp ℕ) (g : SymbolTable) → IsGroupRead image g → keys (links_by table (links_told image g)) ≡ map (λ (l : List ℕ × Target). l.0) (links_told image g)
keys_are image table g read = ap (λ (es : List (List ℕ × Link)). map (λ (l : List ℕ × Link). l.0) es) (group_entries image table g read) ∙ names_alike table (links_told image g)
