-- Items with numbers that rise, as a list and as a map by their numbers.
use Rattle.std.proofs.Common.{◌≡◌, ◌≢◌, ℕ, zero, suc, ◌+◌, ◌<◌, ◌≤◌, true, false, cond, List, [], ◌∷◌, ◌++◌, map, length, get_or, refl, sym, ap, ◌∙◌, subst, inl, inr, Option, Some, None, is_some, Result, Ok, Err, arith}
use Rattle.std.proofs.lemmas.Bool.{cases_lt}
use Rattle.std.proofs.lemmas.Bool.Decides.{nat_tests}
use Rattle.std.proofs.lemmas.Cmp.{ranked}
use Rattle.std.proofs.lemmas.List.{map-append}
use Rattle.std.specs.Prelude.{MatchOption}
use Rattle.std.specs.List.{AllByRecursion}
use Rattle.std.specs.List as list
use Rattle.std.specs.Result.{result_ok}
use Rattle.std.specs.List.Sorted.{IsSearchInRange, IsBinarySearchResult, IsNonDecreasingBy}
use Rattle.std.specs.Ordering.{nat_cmp, eq_by_cmp, ordering_index}
use Rattle.std.specs.Cmp.{nat_cmp_total, eq_by_cmp_equiv}
use Rattle.std.specs.FinMap.{FinMap, get, insert, remove, len, contains_key, find, from_entries, get-from_entries, get-remove, len-insert, len-empty, from_entries_push, same_map, nat_cmp-IsAntisymmetric}
use Rattle.h5_model.proofs.StateLaws.{same_number}
use Rattle.h5_laws.specs.Rising.{RiseWithin}

tie : (x : ℕ) → eq_by_cmp nat_cmp x x ≡ true
tie x = (eq_by_cmp_equiv nat_cmp_total).refl x

differ : (x y : ℕ) → x ≢ y → eq_by_cmp nat_cmp x y ≡ false
differ x y apart = elim (eq_by_cmp nat_cmp x y) as (λ b. eq_by_cmp nat_cmp x y ≡ b → b ≡ false) [
  | true ↦ λ same. absurd (apart (nat_cmp-IsAntisymmetric x y (same_number x y same)))
  | false ↦ λ _. refl
] refl

module _ {X : Type 0} (number : X → ℕ) where
  -- ---- order

  pub rise_low : (xs : List X) (low end : ℕ) → RiseWithin number low xs end → low ≤ end
  rise_low [] low end rise = rise
  rise_low (x ∷ xs) low end rise = omega (arith, rise.0, rise_low xs (number x + 1) end rise.1)

  rise_from : (xs : List X) (low less end : ℕ) → RiseWithin number low xs end → less ≤ low → RiseWithin number less xs end
  rise_from [] low less end rise under = omega (arith, rise, under)
  rise_from (x ∷ xs) low less end rise under = (omega (arith, rise.0, under), rise.1)

  pub rise_push : (xs : List X) (low end : ℕ) (x : X) (after : ℕ) → RiseWithin number low xs end → end ≤ number x → number x < after
      → RiseWithin number low (xs ++ x ∷ []) after
  rise_push [] low end x after rise above under = (omega (arith, rise, above), omega (arith, under))
  rise_push (y ∷ xs) low end x after rise above under = (rise.0, rise_push xs (number y + 1) end x after rise.1 above under)

  pub rise_remove : (xs : List X) (low end k : ℕ) → RiseWithin number low xs end → RiseWithin number low (list.remove xs k) end
  rise_remove [] low end zero rise = rise
  rise_remove [] low end (suc k) rise = rise
  rise_remove (x ∷ xs) low end zero rise = rise_from xs (number x + 1) low end rise.1 (omega (arith, rise.0))
  rise_remove (x ∷ xs) low end (suc k) rise = (rise.0, rise_remove xs (number x + 1) end k rise.1)

  rise_above : (xs : List X) (low end k : ℕ) (d : X) → RiseWithin number low xs end → k < length xs → low ≤ number (get_or xs k d)
  rise_above [] low end k d rise there = absurd (omega arith)
  rise_above (x ∷ xs) low end zero d rise there = rise.0
  rise_above (x ∷ xs) low end (suc k) d rise there = omega (arith, rise.0, rise_above xs (number x + 1) end k d rise.1 (omega arith))

  rise_order : (xs : List X) (low end i j : ℕ) (d : X) → RiseWithin number low xs end → i ≤ j → j < length xs → number (get_or xs i d) ≤ number (get_or xs j d)
  rise_order [] low end i j d rise before there = absurd (omega arith)
  rise_order (x ∷ xs) low end zero zero d rise before there = omega arith
  rise_order (x ∷ xs) low end zero (suc j) d rise before there = omega (arith, rise_above xs (number x + 1) end j d rise.1 (omega arith))
  rise_order (x ∷ xs) low end (suc i) zero d rise before there = absurd (omega arith)
  rise_order (x ∷ xs) low end (suc i) (suc j) d rise before there = rise_order xs (number x + 1) end i j d rise.1 (omega arith) (omega arith)

  -- ---- halving

  comparisons_rise : (xs : List X) (low end q : ℕ) → RiseWithin number low xs end → IsNonDecreasingBy (λ y. ordering_index (nat_cmp (number y) q)) xs
  comparisons_rise xs low end q rise i j d before there =
      let order = rise_order xs low end i j d rise before there in grind (arith, nat_tests, order)

  -- the place of the number, or that no item has it
  pub searched : (xs : List X) (low end q : ℕ) → RiseWithin number low xs end → (r : Result ℕ ℕ) → IsSearchInRange r (length xs)
      → IsBinarySearchResult (λ y. nat_cmp (number y) q) xs r
      → MatchOption (result_ok r) ((k : ℕ) (d : X) → k < length xs → number (get_or xs k d) ≢ q) (λ k. (k < length xs) × ((d : X) → number (get_or xs k d) ≡ q))
  searched xs low end q rise (Ok k) inside equal = (inside, λ d. ranked _ q _ (sym (equal d)))
  searched xs low end q rise (Err i) inside parted = λ k d there same.
      let parts = parted (comparisons_rise xs low end q rise) in
      elim (cases_lt k i) [
        | inl before ↦ (let under : number (get_or xs k d) < q = ranked _ q _ (sym (parts.0 k d (omega arith) before)) in omega (arith, under, same))
        | inr behind ↦ (let over : q < number (get_or xs k d) = ranked _ q _ (sym (parts.1 k d behind there)) in omega (arith, over, same))
      ]

  -- ---- maps

  module _ {V : Type 0} (value : X → V) where
    abbrev entry : X → ℕ × V
    entry x = (number x, value x)

    abbrev pub found : List X → ℕ → Option V
    found xs q = find nat_cmp q (map entry xs)

    -- the map of the items
    abbrev pub map_of : List X → FinMap nat_cmp V
    map_of xs = from_entries (map entry xs)

    here : (x : X) (xs : List X) (q : ℕ) → q ≡ number x → found (x ∷ xs) q ≡ Some (value x)
    here x xs q is = ap (λ b. cond b (Some (value x)) (found xs q)) (ap (λ n. eq_by_cmp nat_cmp q n) (sym is) ∙ tie q)

    past : (x : X) (xs : List X) (q : ℕ) → q ≢ number x → found (x ∷ xs) q ≡ found xs q
    past x xs q apart = ap (λ b. cond b (Some (value x)) (found xs q)) (differ q (number x) apart)

    none_below : (xs : List X) (low end q : ℕ) → RiseWithin number low xs end → q < low → found xs q ≡ None
    none_below [] low end q rise under = refl
    none_below (x ∷ xs) low end q rise under =
        past x xs q (λ same. omega (arith, same, rise.0, under)) ∙ none_below xs (number x + 1) end q rise.1 (omega (arith, rise.0, under))

    none_above : (xs : List X) (low end q : ℕ) → RiseWithin number low xs end → end ≤ q → found xs q ≡ None
    none_above [] low end q rise over = refl
    none_above (x ∷ xs) low end q rise over =
        let top = rise_low xs (number x + 1) end rise.1 in
        past x xs q (λ same. omega (arith, same, top, over)) ∙ none_above xs (number x + 1) end q rise.1 over

    pub get_found : (xs : List X) (q : ℕ) → get (map_of xs) q ≡ found xs q
    get_found xs q = get-from_entries nat_cmp_total (map entry xs) q

    -- the item at a place is what the map has at its number
    found_at : (xs : List X) (low end k : ℕ) (d : X) → RiseWithin number low xs end → k < length xs → found xs (number (get_or xs k d)) ≡ Some (value (get_or xs k d))
    found_at [] low end k d rise there = absurd (omega arith)
    found_at (x ∷ xs) low end zero d rise there = here x xs (number x) refl
    found_at (x ∷ xs) low end (suc k) d rise there =
        let over = rise_above xs (number x + 1) end k d rise.1 (omega arith) in
        past x xs (number (get_or xs k d)) (λ same. omega (arith, same, over)) ∙ found_at xs (number x + 1) end k d rise.1 (omega arith)

    pub get_at : (xs : List X) (low end k : ℕ) (d : X) (q : ℕ) → RiseWithin number low xs end → k < length xs → number (get_or xs k d) ≡ q
        → get (map_of xs) q ≡ Some (value (get_or xs k d))
    get_at xs low end k d q rise there is = get_found xs q ∙ ap (found xs) (sym is) ∙ found_at xs low end k d rise there

    found_none : (xs : List X) (q : ℕ) → ((k : ℕ) (d : X) → k < length xs → number (get_or xs k d) ≢ q) → found xs q ≡ None
    found_none [] q none = refl
    found_none (x ∷ xs) q none = past x xs q (λ same. none 0 x (omega arith) (sym same)) ∙ found_none xs q (λ k d there. none (suc k) d (omega arith))

    pub get_none : (xs : List X) (q : ℕ) → ((k : ℕ) (d : X) → k < length xs → number (get_or xs k d) ≢ q) → get (map_of xs) q ≡ None
    get_none xs q none = get_found xs q ∙ found_none xs q none

    pub get_above : (xs : List X) (low end q : ℕ) → RiseWithin number low xs end → end ≤ q → get (map_of xs) q ≡ None
    get_above xs low end q rise over = get_found xs q ∙ none_above xs low end q rise over

    pub len_map : (xs : List X) (low end : ℕ) → RiseWithin number low xs end → len (map_of xs) ≡ length xs
    len_map [] low end rise = len-empty nat_cmp V
    len_map (x ∷ xs) low end rise =
        let new : contains_key (map_of xs) (number x) ≡ false =
        ap is_some (get_found xs (number x) ∙ none_below xs (number x + 1) end (number x) rise.1 (omega arith)) in
        let rest = len_map xs (number x + 1) end rise.1 in
        len-insert nat_cmp_total (map_of xs) (number x) (value x)
        ∙ ap (λ b. cond b (len (map_of xs)) (len (map_of xs) + 1)) new ∙ omega (arith, rest)

    pub map_push : (xs : List X) (low end : ℕ) (x : X) → RiseWithin number low xs end → end ≤ number x
        → map_of (xs ++ x ∷ []) ≡ insert (map_of xs) (number x) (value x)
    map_push xs low end x rise over = ap (λ es. from_entries {R = nat_cmp} es) (map-append entry xs (x ∷ []))
        ∙ from_entries_push nat_cmp_total nat_cmp-IsAntisymmetric (map entry xs) (number x) (value x) (none_above xs low end (number x) rise over)

    found_remove : (xs : List X) (low end k : ℕ) (d : X) (q : ℕ) → RiseWithin number low xs end → k < length xs
        → found (list.remove xs k) q ≡ cond (eq_by_cmp nat_cmp q (number (get_or xs k d))) None (found xs q)
    found_remove [] low end k d q rise there = absurd (omega arith)
    found_remove (x ∷ xs) low end zero d q rise there = elim (eq_by_cmp nat_cmp q (number x)) as (λ b. eq_by_cmp nat_cmp q (number x) ≡ b
        → found xs q ≡ cond b None (cond b (Some (value x)) (found xs q))) [
          | true ↦ λ same.
              let is : q ≡ number x = nat_cmp-IsAntisymmetric q (number x) (same_number q (number x) same) in
              none_below xs (number x + 1) end q rise.1 (omega (arith, is))
          | false ↦ λ _. refl
        ] refl
    found_remove (x ∷ xs) low end (suc k) d q rise there =
        let rest = found_remove xs (number x + 1) end k d q rise.1 (omega arith) in
        let over = rise_above xs (number x + 1) end k d rise.1 (omega arith) in
        ap (λ o. cond (eq_by_cmp nat_cmp q (number x)) (Some (value x)) o) rest
        ∙ elim (eq_by_cmp nat_cmp q (number x)) as (λ b. eq_by_cmp nat_cmp q (number x) ≡ b
        → cond b (Some (value x)) (cond (eq_by_cmp nat_cmp q (number (get_or xs k d))) None (found xs q))
        ≡ cond (eq_by_cmp nat_cmp q (number (get_or xs k d))) None (cond b (Some (value x)) (found xs q))) [
          | true ↦ λ same.
              let is : q ≡ number x = nat_cmp-IsAntisymmetric q (number x) (same_number q (number x) same) in
              let apart : eq_by_cmp nat_cmp q (number (get_or xs k d)) ≡ false = differ q (number (get_or xs k d)) (λ e. omega (arith, e, is, over)) in
              ap (λ b. cond b None (Some (value x))) (sym apart)
          | false ↦ λ _. refl
        ] refl

    pub map_remove : (xs : List X) (low end k : ℕ) (d : X) (q : ℕ) → RiseWithin number low xs end → k < length xs → number (get_or xs k d) ≡ q
        → map_of (list.remove xs k) ≡ remove (map_of xs) q
    map_remove xs low end k d q rise there is = same_map nat_cmp_total nat_cmp-IsAntisymmetric _ _ (λ p.
        get_found (list.remove xs k) p ∙ found_remove xs low end k d p rise there
        ∙ (λ i. cond (eq_by_cmp nat_cmp p (is i)) None (sym (get_found xs p) i)) ∙ sym (get-remove nat_cmp_total (map_of xs) q p))

    -- what holds of every item, holds of what the map has
    pub found_all : (P : X → Type 0) (Q : V → Type 0) → ((x : X) → P x → Q (value x)) → (xs : List X) (q : ℕ) (v : V) → AllByRecursion P xs
        → get (map_of xs) q ≡ Some v → Q v
    found_all P Q step xs q v all there = go xs all (sym (get_found xs q) ∙ there) where
      go : (xs : List X) → AllByRecursion P xs → found xs q ≡ Some v → Q v
      go [] all there = absurd (let never : None ≡ Some v = there in cc)
      go (x ∷ xs) all there = elim (eq_by_cmp nat_cmp q (number x)) as (λ b. cond b (Some (value x)) (found xs q) ≡ Some v → Q v) [
        | true ↦ λ same. let is : value x ≡ v = cc in subst Q is (step x all.0)
        | false ↦ λ rest. go xs all.1 rest
      ] there
