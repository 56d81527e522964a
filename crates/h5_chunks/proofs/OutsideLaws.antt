-- Chunks that hold no cell of an extent are taken out one by one; those that hold one are left.
use Rattle.std.proofs.Common.{◌≡◌, ℕ, ◌+◌, ◌<◌, List, [], ◌∷◌, ◌++◌, length, map, take, get_or, refl, sym, ap, ap₂, ◌∙◌, subst, Bool, true, false, cond, not, Option, Some, None, IsSome, inl}
use Rattle.std.specs.Prelude.{T}
use Rattle.std.specs.Ordering.{nat_cmp, eq_by_cmp, is_lt}
use Rattle.std.specs.Cmp.{Equal-is, tied_itself}
use Rattle.std.specs.Cmp.Lexicographic.{slice_cmp, nat_list_cmp_total}
use Rattle.std.specs.declared.cmp.Ordering.TheVariants.{Equal}
use Rattle.std.specs.FinMap.{entries, entries-from_sorted, entries_sorted, find, get, get-entries, get-from_sorted, get-remove, get-retain_keys, is_sorted, nat_cmp-IsAntisymmetric, remove, retain_keys, same_map, slice_cmp-IsAntisymmetric}
use Rattle.std.proofs.lemmas.List.{map-append, take_more}
use Rattle.std.proofs.lemmas.List.Elements.{filter-append}
use Rattle.std.specs.List.{filter}
use Rattle.std.specs.FinMap.Entries.{below_all, find-append}
use Rattle.std.specs.FinMap.{from_sorted}
use Rattle.std.proofs.lemmas.Bool.{not-true}
use Rattle.h5_model.specs.Format.Chunks.{Chunks}
use Rattle.h5_model.specs.Tree.Places.{is_inside}
use Rattle.h5_model.proofs.ReachLaws.{halves}
use Rattle.h5_laws.proofs.Lists.{In, in_right}
use Rattle.h5_laws.proofs.Maps.{get_of_entry, true_of}
use Rattle.h5_laws.proofs.Numbered.{joined}
use Rattle.h5_chunks.specs.Lists.{offsets_of_outer, offsets_outside}

abbrev order_same : (x y : List ℕ) → slice_cmp nat_cmp x y ≡ Equal → x ≡ y
order_same = slice_cmp-IsAntisymmetric nat_cmp-IsAntisymmetric

abbrev is_same : List ℕ → List ℕ → Bool
is_same q x = eq_by_cmp (slice_cmp nat_cmp) q x

same_of : (q x : List ℕ) → is_same q x ≡ true → q ≡ x
same_of q x tied = order_same q x ((Equal-is (slice_cmp nat_cmp q x)).0 tied)

-- a test answers alike at keys that tie
pub alike : (test : List ℕ → Bool) (q x : List ℕ) → slice_cmp nat_cmp q x ≡ Equal → test x ≡ test q
alike test q x tied = ap test (sym (order_same q x tied))

pub get_kept : (m : Chunks) (test : List ℕ → Bool) (q : List ℕ) → get (retain_keys m test) q ≡ cond (test q) (get m q) None
get_kept m test q = get-retain_keys m test q (alike test q)

-- offsets below others and one more are below the others, and below that one
below_each : (x k : List ℕ) (v : ℕ) (es : List (List ℕ × ℕ)) → T (below_all (slice_cmp nat_cmp) x (es ++ (k, v) ∷ []))
    → T (below_all (slice_cmp nat_cmp) x es) × (is_lt (slice_cmp nat_cmp x k) ≡ true)
below_each x k v [] below = (tt, true_of _ (halves _ _ below).0)
below_each x k v (e ∷ es) below =
    let parts : T (is_lt (slice_cmp nat_cmp x e.0)) × T (below_all (slice_cmp nat_cmp) x (es ++ (k, v) ∷ [])) = halves _ _ below in
    let rest = below_each x k v es parts.1 in
    (joined _ _ parts.0 rest.0, rest.1)

-- offsets are none of those that are below them
other_below : (x k : List ℕ) → is_lt (slice_cmp nat_cmp x k) ≡ true → is_same k x ≡ false
other_below x k less = by_test (is_same k x) refl where
  by_test : (b : Bool) → is_same k x ≡ b → b ≡ false
  by_test false is = refl
  by_test true is =
      let itself : is_lt (slice_cmp nat_cmp k k) ≡ true = subst (λ (y : List ℕ). is_lt (slice_cmp nat_cmp y k) ≡ true) (sym (same_of k x is)) less in
      let never : false ≡ true = ap is_lt (sym (tied_itself nat_list_cmp_total k)) ∙ itself in
      absurd (cc)

-- entries before a last one rise as well, and none of them has its key
before_last : (k : List ℕ) (v : ℕ) (es : List (List ℕ × ℕ)) → T (is_sorted (slice_cmp nat_cmp) (es ++ (k, v) ∷ []))
    → T (is_sorted (slice_cmp nat_cmp) es) × (find (slice_cmp nat_cmp) k es ≡ None)
before_last k v [] sorted = (tt, refl)
before_last k v (e ∷ es) sorted =
    let parts : T (below_all (slice_cmp nat_cmp) e.0 (es ++ (k, v) ∷ [])) × T (is_sorted (slice_cmp nat_cmp) (es ++ (k, v) ∷ [])) = halves _ _ sorted in
    let below = below_each e.0 k v es parts.0 in
    let rest = before_last k v es parts.1 in
    (joined _ _ below.0 rest.0, ap (λ b. cond b (Some e.1) (find (slice_cmp nat_cmp) k es)) (other_below e.0 k below.1) ∙ rest.1)

none_kept : (b : Bool) → ◌≡◌ {A = Option ℕ} (cond b None None) None
none_kept true = refl
none_kept false = refl

module _ (m : Chunks) (test : List ℕ → Bool) where
  abbrev out : List ℕ → Bool
  out offsets = not (test offsets)

  abbrev outer : Chunks
  outer = retain_keys m out

  -- where none is outside, all are inside
  pub kept_all : entries outer ≡ [] → retain_keys m test ≡ m
  kept_all none = same_map nat_list_cmp_total order_same (retain_keys m test) m (λ q. get_kept m test q ∙ by_test q (test q) refl) where
    absent : (q : List ℕ) → cond (not (test q)) (get m q) None ≡ None
    absent q = sym (get_kept m out q) ∙ get-entries outer q ∙ ap (find (slice_cmp nat_cmp) q) none

    by_test : (q : List ℕ) (b : Bool) → test q ≡ b → cond b (get m q) None ≡ get m q
    by_test q true is = refl
    by_test q false is = sym (ap (λ b. cond (not b) (get m q) None) (sym is) ∙ absent q)

  module _ (offsets : List ℕ) (at : ℕ) (others : List (List ℕ × ℕ)) (last : entries outer ≡ others ++ (offsets, at) ∷ []) where
    abbrev less : Chunks
    less = remove m offsets

    found : cond (out offsets) (get m offsets) None ≡ Some at
    found = sym (get_kept m out offsets) ∙ get_of_entry nat_list_cmp_total outer offsets at
        (subst (λ (es : List (List ℕ × ℕ)). In (offsets, at) es) (sym last) (in_right (offsets, at) others ((offsets, at) ∷ []) (inl refl)))

    outside : out offsets ≡ true
    outside = by_test (out offsets) (get m offsets) found where
      by_test : (b : Bool) (o : Option ℕ) → cond b o None ≡ Some at → b ≡ true
      by_test true o is = refl
      by_test false o is = absurd (cc)

    -- the last one that is outside is stored
    pub last_stored : get m offsets ≡ Some at
    last_stored = ap (λ b. cond b (get m offsets) None) (sym outside) ∙ found

    get_less : (q : List ℕ) → get less q ≡ cond (is_same q offsets) None (get m q)
    get_less q = get-remove nat_list_cmp_total m offsets q

    -- without it as many are inside
    pub inside_same : retain_keys less test ≡ retain_keys m test
    inside_same = same_map nat_list_cmp_total order_same (retain_keys less test) (retain_keys m test) (λ q.
        get_kept less test q ∙ ap (λ o. cond (test q) o None) (get_less q) ∙ by_same q (is_same q offsets) refl ∙ sym (get_kept m test q)) where
          inside_not : test offsets ≡ false
          inside_not = not-true (test offsets) outside

          by_same : (q : List ℕ) (b : Bool) → is_same q offsets ≡ b → cond (test q) (cond b None (get m q)) None ≡ cond (test q) (get m q) None
          by_same q false is = refl
          by_same q true is =
              let none : test q ≡ false = ap test (same_of q offsets is) ∙ inside_not in
              ap (λ b. cond b None None) none ∙ ap (λ b. cond b (get m q) None) (sym none)

    -- and the others are outside
    pub outside_rest : entries (retain_keys less out) ≡ others
    outside_rest = ap entries same ∙ entries-from_sorted (slice_cmp nat_cmp) others sorted.0 where
      sorted : T (is_sorted (slice_cmp nat_cmp) others) × (find (slice_cmp nat_cmp) offsets others ≡ None)
      sorted = before_last offsets at others (subst (λ (es : List (List ℕ × ℕ)). T (is_sorted (slice_cmp nat_cmp) es)) last (entries_sorted outer))

      whole : (q : List ℕ) → cond (out q) (get m q) None ≡ cond (is_same q offsets) (Some at) (find (slice_cmp nat_cmp) q others)
      whole q = sym (get_kept m out q) ∙ get-entries outer q ∙ ap (find (slice_cmp nat_cmp) q) last
          ∙ find-append (slice_cmp nat_cmp) nat_list_cmp_total others offsets at q sorted.1

      by_same : (q : List ℕ) (b : Bool) → is_same q offsets ≡ b → cond (out q) (get m q) None ≡ cond b (Some at) (find (slice_cmp nat_cmp) q others)
          → cond (out q) (cond b None (get m q)) None ≡ find (slice_cmp nat_cmp) q others
      by_same q false is here = here
      by_same q true is here =
          none_kept (out q) ∙ sym (ap (λ k. find (slice_cmp nat_cmp) k others) (same_of q offsets is) ∙ sorted.1)

      same : retain_keys less out ≡ from_sorted others
      same = same_map nat_list_cmp_total order_same (retain_keys less out) (from_sorted others) (λ q.
          get_kept less out q ∙ ap (λ o. cond (out q) o None) (get_less q)
          ∙ by_same q (is_same q offsets) refl (whole q) ∙ sym (get-from_sorted (slice_cmp nat_cmp) others q sorted.0))

-- ---- by their offsets

no_entries : (es : List (List ℕ × ℕ)) → map (λ (e : List ℕ × ℕ). e.0) es ≡ [] → es ≡ []
no_entries [] is = refl
no_entries (e ∷ es) is = absurd (cc)

-- entries with these keys, and with these offsets behind them
abbrev Parted : List (List ℕ × ℕ) → List (List ℕ) → List ℕ → Type 0
Parted es others offsets = (front : List (List ℕ × ℕ)) × (at : ℕ) × (es ≡ front ++ (offsets, at) ∷ []) × (map (λ (e : List ℕ × ℕ). e.0) front ≡ others)

parted_more : (e : List ℕ × ℕ) (es : List (List ℕ × ℕ)) (o : List ℕ) (others : List (List ℕ)) (offsets : List ℕ) → e.0 ≡ o → Parted es others offsets
    → Parted (e ∷ es) (o ∷ others) offsets
parted_more e es o others offsets here (front, at, whole, keys) =
    (e ∷ front, at, ap (λ (all : List (List ℕ × ℕ)). e ∷ all) whole, ap₂ (λ (x : List ℕ) (xs : List (List ℕ)). x ∷ xs) here keys)

-- where the keys have a last one, so have the entries
parted : (es : List (List ℕ × ℕ)) (others : List (List ℕ)) (offsets : List ℕ) → map (λ (e : List ℕ × ℕ). e.0) es ≡ others ++ offsets ∷ [] → Parted es others offsets
parted [] [] offsets is = absurd (cc)
parted [] (o ∷ others) offsets is = absurd (cc)
parted ((k, at) ∷ es) [] offsets is =
    let here : k ≡ offsets = cc in
    let none : map (λ (e : List ℕ × ℕ). e.0) es ≡ [] = cc in
    ([], at, ap₂ (λ (o : List ℕ) (rest : List (List ℕ × ℕ)). (o, at) ∷ rest) here (no_entries es none), refl)
parted (e ∷ es) (o ∷ others) offsets is =
    let here : e.0 ≡ o = cc in
    let rest : map (λ (e : List ℕ × ℕ). e.0) es ≡ others ++ offsets ∷ [] = cc in
    parted_more e es o others offsets here (parted es others offsets rest)

module _ (sizes : List ℕ) (chunks : Chunks) where
  -- none is outside
  pub none_outside : offsets_outside sizes chunks ≡ [] → retain_keys chunks (is_inside sizes) ≡ chunks
  none_outside none = kept_all chunks (is_inside sizes) (no_entries (entries (outer chunks (is_inside sizes))) none)

  module _ (others : List (List ℕ)) (offsets : List ℕ) (last : offsets_outside sizes chunks ≡ others ++ offsets ∷ []) where
    -- The last one is stored; without it the others are outside, and as many are inside.
    pub record IsLastOutside : Type 0 where
      pub stored : IsSome (get chunks offsets)
      pub outside : offsets_outside sizes (remove chunks offsets) ≡ others
      pub inside : retain_keys (remove chunks offsets) (is_inside sizes) ≡ retain_keys chunks (is_inside sizes)

    pub last_outside : IsLastOutside
    last_outside =
        let (front, at, own, rest) = parted (entries (outer chunks (is_inside sizes))) others offsets last in
        record {
          stored = subst IsSome (sym (last_stored chunks (is_inside sizes) offsets at front own)) refl;
          outside = ap (map (λ (e : List ℕ × ℕ). e.0)) (outside_rest chunks (is_inside sizes) offsets at front own) ∙ rest;
          inside = inside_same chunks (is_inside sizes) offsets at front own;
        }

-- ---- the chunks of nodes

module _ (sizes : List ℕ) where
  pub outer_append : (xs ys : List (List ℕ × ℕ)) → offsets_of_outer sizes (xs ++ ys) ≡ offsets_of_outer sizes xs ++ offsets_of_outer sizes ys
  outer_append xs ys =
      let outer = λ (e : List ℕ × ℕ). not (is_inside sizes e.0) in
      ap (map (λ (e : List ℕ × ℕ). e.0)) (filter-append outer xs ys) ∙ map-append (λ (e : List ℕ × ℕ). e.0) (filter outer xs) (filter outer ys)

  one_outer : (offsets : List ℕ) (at : ℕ) → offsets_of_outer sizes ((offsets, at) ∷ []) ≡ filter (λ (o : List ℕ). not (is_inside sizes o)) (offsets ∷ [])
  one_outer offsets at = by_test (not (is_inside sizes offsets)) where
    by_test : (b : Bool) → map (λ (e : List ℕ × ℕ). e.0) (cond b ((offsets, at) ∷ []) []) ≡ cond b (offsets ∷ []) []
    by_test true = refl
    by_test false = refl

  -- one chunk more of a node
  pub outer_more : (chunks : List (List ℕ × ℕ)) (i : ℕ) (offsets : List ℕ) (at : ℕ) → i < length chunks → get_or chunks i ([], 0) ≡ (offsets, at)
      → offsets_of_outer sizes (take (i + 1) chunks) ≡ offsets_of_outer sizes (take i chunks) ++ filter (λ (o : List ℕ). not (is_inside sizes o)) (offsets ∷ [])
  outer_more chunks i offsets at low is =
      ap (offsets_of_outer sizes) (take_more chunks i ([], 0) low ∙ ap (λ (e : List ℕ × ℕ). take i chunks ++ e ∷ []) is)
      ∙ outer_append (take i chunks) ((offsets, at) ∷ []) ∙ ap (λ (os : List (List ℕ)). offsets_of_outer sizes (take i chunks) ++ os) (one_outer offsets at)
