-- What is reached is what a path of at most 64 names leads to.
use Rattle.std.proofs.Common.{◌≡◌, ℕ, zero, suc, ◌≤◌, ◌==◌, Bool, true, false, ◌||◌, cond, List, [], ◌∷◌, map, length, refl, sym, ◌∙◌, ap, subst, Some, None, arith, ◌⊎◌, inl, inr}
use Rattle.std.specs.Prelude.{T, ◌&&◌}
use Rattle.std.specs.Ordering.{nat_cmp, eq_by_cmp, is_eq, is_lt, ordering_reverse}
use Rattle.std.specs.Cmp.{IsTotalOrder, tied_itself}
use Rattle.std.specs.Cmp.Lexicographic.{slice_cmp, nat_list_cmp_total}
use Rattle.std.specs.declared.cmp.Ordering.{Ordering}
use Rattle.std.specs.declared.cmp.Ordering.TheVariants.{Less, Equal, Greater}
use Rattle.std.specs.FinMap.{get, entries, values, find, is_sorted, get-entries, entries_sorted}
use Rattle.std.specs.FinMap.Entries.{below_all}
use Rattle.std.specs.List.{list_any, flat_map, filter_map}
use Rattle.std.specs.Option.{option_map_or, option_and_then}
use Rattle.std.proofs.lemmas.List.Folds.{list_any-append}
use Rattle.std.proofs.lemmas.List.Concat.{flat_map-cons}
use Rattle.std.proofs.lemmas.Bool.{or_right, or_cases}
use Rattle.h5_model.specs.Format.Limits.{most_names}
use Rattle.h5_model.specs.Tree.Objects.{Tree, Link, ToObject, Soft, Links, links_of, follow, object_of, named_by, within_names, is_reached}
use Rattle.h5_model.proofs.Members.{In}
use Rattle.h5_model.proofs.RowLaws.{same_number, equal_number}

-- ---- entries and look-ups

both : (b c : Bool) → T (b && c) → (b ≡ true) × T c
both true c h = (refl, h)
both false c h = absurd h

pub halves : (b c : Bool) → T (b && c) → T b × T c
halves true c h = (tt, h)
halves false c h = absurd h

-- a look-up gives the value of some entry, and every entry's value is looked up by its key
abbrev pub Entry : {K X : Type 0} → List (K × X) → K → X → Type 0
Entry [] k v = ⊥
Entry (e ∷ es) k v = ((e.0 ≡ k) × (e.1 ≡ v)) ⊎ Entry es k v

pub below_entry : {K X : Type 0} (R : K → K → Ordering) (x k : K) (v : X) (es : List (K × X)) → T (below_all R x es) → Entry es k v → is_lt (R x k) ≡ true
below_entry R x k v [] below at = absurd at
below_entry R x k v (e ∷ es) below at =
    let split : (is_lt (R x e.0) ≡ true) × T (below_all R x es) = both _ _ below in
    elim at [
      | inl here ↦ subst (λ y. is_lt (R x y) ≡ true) here.0 split.0
      | inr later ↦ below_entry R x k v es split.1 later
    ]

apart : (r : Ordering) → is_lt r ≡ true → is_eq (ordering_reverse r) ≡ false
apart Less h = refl
apart Equal h = absurd (cc)
apart Greater h = refl

pub find_entry : {K X : Type 0} {R : K → K → Ordering} → IsTotalOrder R → (es : List (K × X)) (k : K) (v : X) → T (is_sorted R es) → Entry es k v → find R k es ≡ Some v
find_entry o [] k v sorted at = absurd at
find_entry {R = R} o (e ∷ es) k v sorted at =
    let split : T (below_all R e.0 es) × T (is_sorted R es) = halves _ _ sorted in
    elim at [
      | inl here ↦ ap (λ y. cond (eq_by_cmp R k y) (Some e.1) (find R k es)) here.0 ∙ ap (λ r. cond (is_eq r) (Some e.1) (find R k es)) (tied_itself o k) ∙ ap (λ w. Some w) here.1
      | inr later ↦ ap (λ b. cond b (Some e.1) (find R k es)) (ap is_eq (o.antisymm k e.0) ∙ apart (R e.0 k) (below_entry R e.0 k v es split.0 later))
          ∙ find_entry o es k v split.1 later
    ]

-- ---- members of lists of numbers

any_there : (p : ℕ → Bool) (f : ℕ → List ℕ) (x : ℕ) (xs : List ℕ) → In x xs → list_any p (f x) ≡ true → list_any p (flat_map f xs) ≡ true
any_there p f x [] at h = absurd at
any_there p f x (y ∷ ys) at h = ap (list_any p) (flat_map-cons f y ys) ∙ list_any-append p (f y) (flat_map f ys) ∙ elim at [
  | inl here ↦ ap (λ b. b || list_any p (flat_map f ys)) (ap (λ z. list_any p (f z)) here ∙ h)
  | inr later ↦ ap (λ b. list_any p (f y) || b) (any_there p f x ys later h) ∙ or_true (list_any p (f y))
] where
  or_true : (b : Bool) → (b || true) ≡ true
  or_true true = refl
  or_true false = refl

any_from : (p : ℕ → Bool) (f : ℕ → List ℕ) (xs : List ℕ) → list_any p (flat_map f xs) ≡ true → (x : ℕ) × In x xs × (list_any p (f x) ≡ true)
any_from p f [] h = absurd (cc)
any_from p f (y ∷ ys) h = elim (or_cases (list_any p (f y)) (list_any p (flat_map f ys)) (sym (ap (list_any p) (flat_map-cons f y ys) ∙ list_any-append p (f y) (flat_map f ys)) ∙ h)) [
  | inl here ↦ (y, inl refl, here)
  | inr later ↦ let rest : (x : ℕ) × In x ys × (list_any p (f x) ≡ true) = any_from p f ys later in (rest.0, inr rest.1, rest.2)
]

-- ---- the objects that links name

pub same_object : (a b : ℕ) → Some (ToObject a) ≡ Some (ToObject b) → a ≡ b
same_object a b h = ap (λ o. option_map_or (λ n. n) (option_and_then object_of o) 0) h

soft_is_none : (text : List ℕ) (next : ℕ) → Some (Soft text) ≡ Some (ToObject next) → ⊥
soft_is_none text next e = let no : None ≡ Some next = ap (λ o. option_and_then object_of o) e in absurd (cc)

named_found : (q : List ℕ) (es : List (List ℕ × Link)) (next : ℕ) → find (slice_cmp nat_cmp) q es ≡ Some (ToObject next) → In next (filter_map object_of (map (λ e. e.1) es))
named_found q [] next h = absurd (cc)
named_found q ((k, ToObject m) ∷ es) next h = elim (eq_by_cmp (slice_cmp nat_cmp) q k) as (λ b. cond b (Some (ToObject m)) (find (slice_cmp nat_cmp) q es) ≡ Some (ToObject next) → In next (m ∷ filter_map object_of (map (λ e. e.1) es))) [
  | true ↦ λ here. inl (same_object m next here)
  | false ↦ λ later. inr (named_found q es next later)
] h
named_found q ((k, Soft text) ∷ es) next h = elim (eq_by_cmp (slice_cmp nat_cmp) q k) as (λ b. cond b (Some (Soft text)) (find (slice_cmp nat_cmp) q es) ≡ Some (ToObject next) → In next (filter_map object_of (map (λ e. e.1) es))) [
  | true ↦ λ no. absurd (soft_is_none text next no)
  | false ↦ λ later. named_found q es next later
] h

entry_named : (es : List (List ℕ × Link)) (next : ℕ) → In next (filter_map object_of (map (λ e. e.1) es)) → (k : List ℕ) × Entry es k (ToObject next)
entry_named [] next at = absurd at
entry_named ((k, ToObject m) ∷ es) next at = elim at [
  | inl here ↦ (k, inl (refl, ap (λ n. ToObject n) here))
  | inr later ↦ let rest : (k : List ℕ) × Entry es k (ToObject next) = entry_named es next later in (rest.0, inr rest.1)
]
entry_named ((k, Soft text) ∷ es) next at = let rest : (k : List ℕ) × Entry es k (ToObject next) = entry_named es next at in (rest.0, inr rest.1)

-- ---- paths

starts : (tree : Tree) (n from number : ℕ) → from ≡ number → list_any (λ x. x == number) (within_names tree n from) ≡ true
unfolding within_names
starts tree zero from number h = rw h (rw (same_number number) refl)
starts tree (suc n) from number h = rw h (rw (same_number number) refl)

-- of a link in a group, what it leads to stands below the group
below_link : (tree : Tree) (names : List (List ℕ)) (n number : ℕ) (name : List ℕ) (links : Links)
    → ((next : ℕ) → follow tree (ToObject next) names ≡ Some (ToObject number) → list_any (λ x. x == number) (within_names tree n next) ≡ true)
    → (link : Link) → get links name ≡ Some link → follow tree link names ≡ Some (ToObject number)
    → list_any (λ x. x == number) (flat_map (within_names tree n) (filter_map object_of (values links))) ≡ true
below_link tree names n number name links rest (ToObject next) there h =
    any_there (λ x. x == number) (within_names tree n) next (filter_map object_of (values links))
    (named_found name (entries links) next (sym (get-entries links name) ∙ there)) (rest next h)
below_link tree [] n number name links rest (Soft text) there h = absurd (soft_is_none text number h)
below_link tree (more ∷ names) n number name links rest (Soft text) there h = absurd (cc)

-- an object that a path of at most n names leads to stands in the list
pub within_names-follow : (tree : Tree) (names : List (List ℕ)) (n from number : ℕ) → length names ≤ n → follow tree (ToObject from) names ≡ Some (ToObject number)
    → list_any (λ x. x == number) (within_names tree n from) ≡ true
unfolding within_names
within_names-follow tree [] n from number low h = starts tree n from number (same_object from number h)
within_names-follow tree (name ∷ names) zero from number low h = absurd (omega (arith, low))
within_names-follow tree (name ∷ names) (suc n) from number low h =
    or_right (from == number) _ (elim (links_of tree from) as (λ o.
    option_and_then (λ link. follow tree link names) (option_and_then (λ links. get links name) o) ≡ Some (ToObject number)
    → list_any (λ x. x == number) (flat_map (within_names tree n) (option_map_or (λ links. filter_map object_of (values links)) o [])) ≡ true) [
      | None ↦ λ no. absurd (cc)
      | Some links ↦ elim (get links name) as (λ o. get links name ≡ o → option_and_then (λ link. follow tree link names) o ≡ Some (ToObject number)
          → list_any (λ x. x == number) (flat_map (within_names tree n) (filter_map object_of (values links))) ≡ true) [
            | None ↦ λ _ no. absurd (cc)
            | Some link ↦ λ there. below_link tree names n number name links (λ next. within_names-follow tree names n next number (omega (arith, low))) link there
          ] refl
    ] h)

-- a path of at most n names from an object to another
abbrev pub Leads : Tree → ℕ → ℕ → ℕ → Type 0
Leads tree n from number = (names : List (List ℕ)) × (length names ≤ n) × (follow tree (ToObject from) names ≡ Some (ToObject number))

at_once : (tree : Tree) (n from number : ℕ) → from ≡ number → Leads tree n from number
at_once tree n from number h = ([], omega arith, ap (λ x. Some (ToObject x)) h)

longer : (tree : Tree) (n from next number : ℕ) → In next (named_by tree from) → Leads tree n next number → Leads tree (suc n) from number
longer tree n from next number named rest = elim (links_of tree from) as (λ o. links_of tree from ≡ o
    → In next (option_map_or (λ links. filter_map object_of (values links)) o []) → Leads tree (suc n) from number) [
      | None ↦ λ _ no. absurd no
      | Some links ↦ λ there at.
          let entry : (k : List ℕ) × Entry (entries links) k (ToObject next) = entry_named (entries links) next at in
          let linked : get links entry.0 ≡ Some (ToObject next)
          = get-entries links entry.0 ∙ find_entry nat_list_cmp_total (entries links) entry.0 (ToObject next) (entries_sorted links) entry.1 in (
            entry.0 ∷ rest.0,
            omega (arith, rest.1),
            ap (λ o. option_and_then (λ link. follow tree link rest.0) (option_and_then (λ links. get links entry.0) o)) there
                ∙ ap (λ o. option_and_then (λ link. follow tree link rest.0) o) linked ∙ rest.2,
          )
    ] refl named

-- and to each that stands there such a path leads
pub follow-within_names : (tree : Tree) (n from number : ℕ) → list_any (λ x. x == number) (within_names tree n from) ≡ true → Leads tree n from number
unfolding within_names
follow-within_names tree zero from number h = elim (or_cases (from == number) false h) [
  | inl same ↦ at_once tree zero from number (equal_number from number same)
  | inr never ↦ absurd (cc)
]
follow-within_names tree (suc n) from number h = elim (or_cases (from == number) _ h) [
  | inl same ↦ at_once tree (suc n) from number (equal_number from number same)
  | inr below ↦ let next : (x : ℕ) × In x (named_by tree from) × (list_any (λ x. x == number) (within_names tree n x) ≡ true)
      = any_from (λ x. x == number) (within_names tree n) (named_by tree from) below in
      longer tree n from next.0 number next.1 (follow-within_names tree n next.0 number next.2)
]

-- an object is reached exactly where a path of at most 64 names leads to it from the root
pub is_reached-from_path : (tree : Tree) (number : ℕ) → Leads tree most_names 0 number → is_reached tree number ≡ true
unfolding is_reached
is_reached-from_path tree number path = within_names-follow tree path.0 most_names 0 number path.1 path.2

pub path-from_is_reached : (tree : Tree) (number : ℕ) → is_reached tree number ≡ true → Leads tree most_names 0 number
unfolding is_reached
path-from_is_reached tree number h = follow-within_names tree most_names 0 number h
