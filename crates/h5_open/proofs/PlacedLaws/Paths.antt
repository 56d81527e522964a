-- Where paths of the tree lead: to each object, and through no more names than the height of the one from which they go.
use Rattle.std.proofs.Common.{◌≡◌, ℕ, zero, suc, ◌<◌, ◌≤◌, ◌⊎◌, inl, inr, List, [], ◌∷◌, ◌++◌, length, refl, sym, ap, ◌∙◌, subst, arith, Option, Some, None, IsSome}
use Rattle.std.specs.Prelude.{slice_get, option_and_then}
use Rattle.std.specs.List.{AllByRecursion, IsDistinct}
use Rattle.std.specs.Ordering.{nat_cmp, eq_by_cmp}
use Rattle.std.specs.FinMap.{get}
use Rattle.std.proofs.lemmas.List.{append_assoc, append-nil, length-append}
use Rattle.std.proofs.lemmas.Bool.{cases_lt}
use Rattle.std.proofs.lemmas.Option.{same_Some, slice_get_within}
use Rattle.h5_model.specs.Format.Symbols.{Target, Header, Text}
use Rattle.h5_model.specs.Tree.Objects.{Tree, Link, ToObject, Soft, follow, link_in}
use Rattle.h5_open.specs.declared.opened.object.OpenedObject.{OpenedObject}
use Rattle.h5_open.specs.Opened.Kept.{IsObjectKept}
use Rattle.h5_open.specs.Opened.Objects.{headers, number_in, content_links, link_to, table_of, tree_of, slots_of}
use Rattle.h5_laws.proofs.Lists.{In, in_all, in_contains, in_at}
use Rattle.h5_open.specs.Placed.Whole.{HasHeight, IsLed, HasParent, AreNamed}
use Rattle.h5_open.proofs.PlacedLaws.Places.{place_before, place_next, place_of, at_number, number_at_place}
use Rattle.h5_open.proofs.PlacedLaws.TreeLaws.{number_within, link_there, link_leads}

-- ---- one name more

pub follow_more : (tree : Tree) (name : List ℕ) (k m : ℕ) → link_in tree k name ≡ Some (ToObject m) → (path : List (List ℕ)) (link : Link)
    → follow tree link path ≡ Some (ToObject k) → follow tree link (path ++ name ∷ []) ≡ Some (ToObject m)
follow_more tree name k m named [] link is =
    let same : link ≡ ToObject k = same_Some link (ToObject k) is in
    ap (λ (l : Link). follow tree l (name ∷ [])) same ∙ ap (option_and_then (λ (l : Link). Some l)) named
follow_more tree name k m named (x ∷ path) (Soft text) is = absurd (cc)
follow_more tree name k m named (x ∷ path) (ToObject n) is =
    elim (link_in tree n x) as (λ o. option_and_then (λ (l : Link). follow tree l path) o ≡ Some (ToObject k)
    → option_and_then (λ (l : Link). follow tree l (path ++ name ∷ [])) o ≡ Some (ToObject m)) [
      | None ↦ λ no. absurd (cc)
      | Some l ↦ λ there. follow_more tree name k m named path l there
    ] is

module _ (image : List ℕ) (objects : List OpenedObject) (distinct : IsDistinct (eq_by_cmp nat_cmp) (headers objects)) (each : AllByRecursion (IsObjectKept image) objects) where
  abbrev tree : Tree
  tree = tree_of image (slots_of objects)

  kept_at : (n : ℕ) (o : OpenedObject) → slice_get objects n ≡ Some o → IsObjectKept image o
  kept_at n o is = in_all (IsObjectKept image) o objects each (in_at objects n o is)

  -- ---- each object is reached

  abbrev Leads : ℕ → Type 0
  Leads n = (path : List (List ℕ)) × (follow tree (ToObject 0) path ≡ Some (ToObject n))

  -- a link of an object that is reached leads to another
  leads_on : (k n : ℕ) (p o : OpenedObject) → slice_get objects k ≡ Some p → slice_get objects n ≡ Some o → (name : List ℕ)
      → In (name, Header o.messages.header) (content_links image p.content) → Leads k → Leads n
  leads_on k n p o parent child name there (path, leads) =
      let number : number_in (table_of (slots_of objects)) o.messages.header ≡ n = number_at_place objects distinct n o child in
      let named = link_there image objects k p parent (kept_at k p parent).content name (Header o.messages.header) there in
      (path ++ name ∷ [], follow_more tree name k n (named ∙ ap (λ (m : ℕ). Some (ToObject m)) number) path (ToObject 0) leads)

  next_leads : (before : List OpenedObject) (o : OpenedObject) (more : List OpenedObject) → before ++ o ∷ more ≡ objects
      → (before ≡ []) ⊎ HasParent image before o.messages.header → ((n : ℕ) → n < length before → Leads n) → Leads (length before)
  next_leads before o more all (inl first) earlier = ([], ap (λ (os : List OpenedObject). Some (ToObject (length os))) (sym first))
  next_leads before o more all (inr (p, parent, (name, link))) earlier =
      let at_parent : slice_get objects parent.0 ≡ Some p
      = ap (λ (os : List OpenedObject). slice_get os parent.0) (sym all) ∙ place_before before (o ∷ more) parent.0 p (place_of before p parent) in
      let at_child : slice_get objects (length before) ≡ Some o
      = ap (λ (os : List OpenedObject). slice_get os (length before)) (sym all) ∙ place_next before o more in
      leads_on parent.0 (length before) p o at_parent at_child name (in_contains (name, Header o.messages.header) (content_links image p.content) link) (earlier parent.0 parent.1)

  one_more : (before : List OpenedObject) (o : OpenedObject) → ((n : ℕ) → n < length before → Leads n) → Leads (length before)
      → (n : ℕ) → n < length (before ++ o ∷ []) → Leads n
  one_more before o earlier here n low = elim (cases_lt n (length before)) [
    | inl below ↦ earlier n below
    | inr not_below ↦ let last : length before ≡ n = omega (arith, low, not_below, length-append before (o ∷ [])) in subst Leads last here
  ]

  all_lead : (before rest : List OpenedObject) → before ++ rest ≡ objects → AreNamed image before rest → ((n : ℕ) → n < length before → Leads n)
      → (n : ℕ) → n < length objects → Leads n
  all_lead before [] all named earlier n low = earlier n (subst (λ (os : List OpenedObject). n < length os) (sym all ∙ append-nil before) low)
  all_lead before (o ∷ rest) all named earlier n low =
      all_lead (before ++ o ∷ []) rest (append_assoc before (o ∷ []) rest ∙ all) named.1
      (λ m below. one_more before o earlier (next_leads before o rest all named.0 earlier) m below) n low

  pub all_reached : AreNamed image [] objects → (n : ℕ) → IsSome (get tree n) → (path : List (List ℕ)) × (follow tree (ToObject 0) path ≡ Some (ToObject n))
  all_reached named n some =
      let there = number_within image objects n some in
      all_lead [] objects refl named (λ m below. absurd (omega (arith, below))) n (slice_get_within objects n there.0 there.1)

  -- ---- and no path is longer than the height

  abbrev IsShort : List (List ℕ) → Type 0
  IsShort path = (n : ℕ) (o : OpenedObject) (height : ℕ) → slice_get objects n ≡ Some o → HasHeight image objects height o
      → IsSome (follow tree (ToObject n) path) → length path ≤ height

  behind_link : (names : List (List ℕ)) → IsShort names → (height : ℕ) (l : List ℕ × Target) → IsLed image objects height l → IsSome (follow tree (link_to (table_of (slots_of objects)) l.1) names)
      → length names ≤ height
  behind_link names short height (name, Header header) (o, there, same, high) some =
      let at_header : slice_get objects (number_in (table_of (slots_of objects)) header) ≡ Some o
      = ap (λ (h : ℕ). slice_get objects (number_in (table_of (slots_of objects)) h)) (sym same) ∙ at_number objects distinct o (in_contains o objects there) in
      short (number_in (table_of (slots_of objects)) header) o height at_header high some
  behind_link [] short height (name, Text text) led some = omega arith
  behind_link (x ∷ names) short height (name, Text text) led some = absurd (cc)

  from_link : (names : List (List ℕ)) → IsShort names → (height : ℕ) (o : OpenedObject) (l : List ℕ × Target) → HasHeight image objects height o → In l (content_links image o.content)
      → IsSome (follow tree (link_to (table_of (slots_of objects)) l.1) names) → suc (length names) ≤ height
  from_link names short zero o l none there some = absurd (subst (In l) none there)
  from_link names short (suc height) o l high there some =
      let rest = behind_link names short height l (in_all (IsLed image objects height) l (content_links image o.content) high there) some in
      omega (arith, rest)

  from_object : (name : List ℕ) (names : List (List ℕ)) → IsShort names → IsShort (name ∷ names)
  from_object name names short n o height is high some = go (link_in tree n name) refl some where
    go : (x : Option Link) → link_in tree n name ≡ x → IsSome (option_and_then (λ (l : Link). follow tree l names) x) → length (name ∷ names) ≤ height
    go None found there = absurd (cc)
    go (Some link) found there =
        let l = link_leads image objects n o is (kept_at n o is).content name link found in
        from_link names short height o l.0 high l.1 (subst (λ (y : Link). IsSome (follow tree y names)) (sym l.2) there)

  pub all_short : (path : List (List ℕ)) → IsShort path
  all_short [] n o height is high some = omega arith
  all_short (name ∷ names) n o height is high some = from_object name names (all_short names) n o height is high some
