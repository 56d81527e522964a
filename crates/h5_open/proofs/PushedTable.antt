-- The table of an opened image with one object more: its header has the next number, and each other header the one that it had.
use Rattle.std.proofs.Common.{◌≡◌, inl, inr, ℕ, List, [], ◌∷◌, ◌++◌, length, refl, sym, ap, ◌∙◌, arith, Option, Some}
use Rattle.std.proofs.lemmas.Bool.{cases_eq}
use Rattle.std.specs.Prelude.{option_map}
use Rattle.std.specs.Option.{option_flatten}
use Rattle.std.specs.Ordering.{nat_cmp}
use Rattle.std.specs.FinMap.{FinMap, from_entries, get}
use Rattle.std.proofs.lemmas.Option.{same_Some, slice_get_within}
use Rattle.h5_model.specs.Format.Symbols.{Target, Header, Text}
use Rattle.h5_model.specs.Tree.Objects.{Link, ToObject}
use Rattle.h5_laws.proofs.Lists.{In}
use Rattle.h5_open.specs.declared.opened.object.OpenedObject.{OpenedObject}
use Rattle.h5_open.specs.Opened.Objects.{header_of, link_to, links_by, number_in, table_of}
use Rattle.h5_open.specs.Opened.Sound.{IsHeaderIn}
use Rattle.h5_open.proofs.OpenedLaws.Entries.{get_table, named_links, slot_of}
use Rattle.h5_open.proofs.OpenedLaws.HeaderNumbers.{number_is}
use Rattle.h5_open.proofs.PlacedLaws.Places.{place_next}
use Rattle.h5_open.proofs.SlotEdits.{pushed_past, table_same}

module _ (slots : List (Option OpenedObject)) (o : OpenedObject) where
  abbrev slots' : List (Option OpenedObject)
  slots' = slots ++ Some o ∷ []

  abbrev table : FinMap nat_cmp ℕ
  table = table_of slots

  abbrev table' : FinMap nat_cmp ℕ
  table' = table_of slots'

  abbrev next : ℕ
  next = length slots

  pub pushed_new : get table' next ≡ Some (header_of o)
  pushed_new = get_table slots' next ∙ ap (λ (s : Option (Option OpenedObject)). option_map header_of (option_flatten s)) (place_next slots (Some o) [])

  others : (n : ℕ) → (n ≡ next → ⊥) → get table' n ≡ get table n
  others n other = table_same slots slots' n (ap option_flatten (pushed_past slots (Some o) n other))

  -- what was there is there still
  still : (n h : ℕ) → get table n ≡ Some h → get table' n ≡ Some h
  still n h at =
      let slot = slot_of slots n h at in
      let low = slice_get_within slots n (Some slot.0) slot.1 in
      others n (λ e. omega (arith, low, e)) ∙ at

  pub pushed_led : (h : ℕ) → IsHeaderIn table h → IsHeaderIn table' h
  pushed_led h there = (there.0, still there.0 h there.1)

  -- each header was that of one object, and the new one that of none
  module _ (own : (a b h : ℕ) → get table a ≡ Some h → get table b ≡ Some h → a ≡ b) (new : (n : ℕ) → get table n ≡ Some (header_of o) → ⊥) where
    -- so the header of another object is not the new one
    not_new : (n h : ℕ) → (n ≡ next → ⊥) → get table' n ≡ Some h → header_of o ≡ h → ⊥
    not_new n h other at is = new n (sym (others n other) ∙ at ∙ ap (λ (x : ℕ). Some x) (sym is))

    at_next : (n h : ℕ) → n ≡ next → get table' n ≡ Some h → header_of o ≡ h
    at_next n h here at = same_Some (header_of o) h (sym pushed_new ∙ ap (get table') (sym here) ∙ at)

    own' : (a b h : ℕ) → get table' a ≡ Some h → get table' b ≡ Some h → a ≡ b
    own' a b h first second = elim (cases_eq a next) [
      | inl here ↦ elim (cases_eq b next) [
        | inl there ↦ here ∙ sym there
        | inr other ↦ absurd (not_new b h other second (at_next a h here first))
      ]
      | inr other ↦ elim (cases_eq b next) [
        | inl there ↦ absurd (not_new a h other first (at_next b h there second))
        | inr apart ↦ own a b h (sym (others a other) ∙ first) (sym (others b apart) ∙ second)
      ]
    ]

    pub pushed_number : number_in table' (header_of o) ≡ next
    pushed_number = number_is table' own' next (header_of o) pushed_new

    same_number : (h : ℕ) → IsHeaderIn table h → number_in table' h ≡ number_in table h
    same_number h there = number_is table' own' there.0 h (still there.0 h there.1) ∙ sym (number_is table own there.0 h there.1)

    same_names : (found : List (List ℕ × Target)) → ((name : List ℕ) (h : ℕ) → In (name, Header h) found → IsHeaderIn table h) → named_links table' found ≡ named_links table found
    same_names [] led = refl
    same_names ((name, Header h) ∷ found) led =
        let same = same_number h (led name h (inl refl)) in
        let more = same_names found (λ x g at. led x g (inr at)) in
        λ i. (name, ToObject (same i)) ∷ more i
    same_names ((name, Text text) ∷ found) led = ap (λ (ls : List (List ℕ × Link)). (name, link_to table (Text text)) ∷ ls) (same_names found (λ x g at. led x g (inr at)))

    -- links to headers that were there are the same by both tables
    pub pushed_links : (found : List (List ℕ × Target)) → ((name : List ℕ) (h : ℕ) → In (name, Header h) found → IsHeaderIn table h) → links_by table' found ≡ links_by table found
    pushed_links found led = ap (λ (es : List (List ℕ × Link)). from_entries es) (same_names found led)
