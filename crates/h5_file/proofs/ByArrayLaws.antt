-- Items by the number of an array and their own, of which some are listed, taken out, or found by halving.
use Rattle.std.proofs.Common.{◌≡◌, ℕ, zero, suc, ◌+◌, ◌-◌, ◌<◌, ◌≤◌, ◌==◌, Bool, true, false, cond, not, List, [], ◌∷◌, ◌++◌, map, length, get_or, refl, sym, ap, ◌∙◌, subst, arith, take, drop}
use Rattle.std.proofs.lemmas.Bool.Decides.{nat_tests}
use Rattle.std.proofs.lemmas.List.{append-nil}
use Rattle.std.specs.List.{filter, insert, remove}
use Rattle.std.specs.List.Sorted.{IsNonDecreasingBy}
use Rattle.h5_laws.specs.Rising.{RiseWithin}
use Rattle.h5_file.specs.ByArray.{AreByArray, DoNotFall, listed_under, numbers_on}
use Rattle.h5_file.specs.declared.by_array.ArrayView.{ArrayView}
use Rattle.h5_file.specs.declared.views.KeptView.{KeptView}

-- ---- the numbers of the items of an array

module _ {X : Type 0} (object number : X → ℕ) where
  abbrev pub under : ℕ → List X → List ℕ
  under o xs = map number (filter (λ x. object x == o) xs)

  pub under_first : (o : ℕ) (x : X) (xs : List X) (b : Bool) → (object x == o) ≡ b → under o (x ∷ xs) ≡ cond b (number x ∷ under o xs) (under o xs)
  under_first o x xs true is = ap (λ b. map number (cond b (x ∷ filter (λ x. object x == o) xs) (filter (λ x. object x == o) xs))) is
  under_first o x xs false is = ap (λ b. map number (cond b (x ∷ filter (λ x. object x == o) xs) (filter (λ x. object x == o) xs))) is

  -- where each item is of a later array
  pub under_none : (o : ℕ) (xs : List X) → ((k : ℕ) (d : X) → k < length xs → o < object (get_or xs k d)) → under o xs ≡ []
  under_none o [] above = refl
  under_none o (x ∷ xs) above =
      let here : o < object x = above 0 x (omega arith) in
      let other : (object x == o) ≡ false = grind (arith, nat_tests, here) in
      under_first o x xs false other ∙ under_none o xs (λ k d there. above (suc k) d (omega (arith, there)))

  -- one more, before all items of later arrays
  pub under_insert : (o : ℕ) (xs : List X) (k : ℕ) (w : X) → k ≤ length xs → ((i : ℕ) (d : X) → k ≤ i → i < length xs → object w < object (get_or xs i d))
      → under o (insert xs k w) ≡ under o xs ++ under o (w ∷ [])
  under_insert o xs zero w there above = by_test (object w == o) refl where
    by_test : (b : Bool) → (object w == o) ≡ b → under o (w ∷ xs) ≡ under o xs ++ under o (w ∷ [])
    by_test true is =
        let same : object w ≡ o = grind (arith, nat_tests, is) in
        let none : under o xs ≡ [] = under_none o xs (λ i d low. let over = above i d (omega arith) low in omega (arith, same, over)) in
        under_first o w xs true is ∙ ap (λ ns. number w ∷ ns) none ∙ (λ i. sym none i ++ sym (under_first o w [] true is) i)
    by_test false is =
        under_first o w xs false is ∙ sym (append-nil (under o xs)) ∙ ap (λ ns. under o xs ++ ns) (sym (under_first o w [] false is))
  under_insert o [] (suc k) w there above = absurd (omega (arith, there))
  under_insert o (x ∷ xs) (suc k) w there above =
      by_test (object x == o) refl (under_insert o xs k w (omega (arith, there)) (λ i d from low. above (suc i) d (omega (arith, from)) (omega (arith, low)))) where
        by_test : (b : Bool) → (object x == o) ≡ b → under o (insert xs k w) ≡ under o xs ++ under o (w ∷ []) → under o (x ∷ insert xs k w) ≡ under o (x ∷ xs) ++ under o (w ∷ [])
        by_test true is rest = under_first o x (insert xs k w) true is ∙ ap (λ ns. number x ∷ ns) rest ∙ ap (λ ns. ns ++ under o (w ∷ [])) (sym (under_first o x xs true is))
        by_test false is rest = under_first o x (insert xs k w) false is ∙ rest ∙ ap (λ ns. ns ++ under o (w ∷ [])) (sym (under_first o x xs false is))

  pub under_append : (o : ℕ) (xs ys : List X) → under o (xs ++ ys) ≡ under o xs ++ under o ys
  under_append o [] ys = refl
  under_append o (x ∷ xs) ys = by_test (object x == o) refl (under_append o xs ys) where
    by_test : (b : Bool) → (object x == o) ≡ b → under o (xs ++ ys) ≡ under o xs ++ under o ys → under o (x ∷ (xs ++ ys)) ≡ under o (x ∷ xs) ++ under o ys
    by_test true is rest = under_first o x (xs ++ ys) true is ∙ ap (λ ns. number x ∷ ns) rest ∙ ap (λ ns. ns ++ under o ys) (sym (under_first o x xs true is))
    by_test false is rest = under_first o x (xs ++ ys) false is ∙ rest ∙ ap (λ ns. ns ++ under o ys) (sym (under_first o x xs false is))

  -- without the items of a number
  abbrev pub others : ℕ → List X → List X
  others n xs = filter (λ x. not (number x == n)) xs

  abbrev but : ℕ → List ℕ → List ℕ
  but n ns = filter (λ m. not (m == n)) ns

  kept_first : {Y : Type 0} (test : Y → Bool) (y : Y) (ys : List Y) (b : Bool) → test y ≡ b → filter test (y ∷ ys) ≡ cond b (y ∷ filter test ys) (filter test ys)
  kept_first test y ys b is = ap (λ b. cond b (y ∷ filter test ys) (filter test ys)) is

  pub under_others : (o n : ℕ) (xs : List X) → under o (others n xs) ≡ but n (under o xs)
  under_others o n [] = refl
  under_others o n (x ∷ xs) = by_tests (object x == o) (not (number x == n)) refl refl (under_others o n xs) where
    by_tests : (b c : Bool) → (object x == o) ≡ b → not (number x == n) ≡ c → under o (others n xs) ≡ but n (under o xs) → under o (others n (x ∷ xs)) ≡ but n (under o (x ∷ xs))
    by_tests true true is kept rest =
        ap (under o) (kept_first (λ x. not (number x == n)) x xs true kept) ∙ under_first o x (others n xs) true is ∙ ap (λ ns. number x ∷ ns) rest
        ∙ sym (ap (but n) (under_first o x xs true is) ∙ kept_first (λ m. not (m == n)) (number x) (under o xs) true kept)
    by_tests true false is gone rest =
        ap (under o) (kept_first (λ x. not (number x == n)) x xs false gone) ∙ rest
        ∙ sym (ap (but n) (under_first o x xs true is) ∙ kept_first (λ m. not (m == n)) (number x) (under o xs) false gone)
    by_tests false true is kept rest =
        ap (under o) (kept_first (λ x. not (number x == n)) x xs true kept) ∙ under_first o x (others n xs) false is ∙ rest
        ∙ sym (ap (but n) (under_first o x xs false is))
    by_tests false false is gone rest =
        ap (under o) (kept_first (λ x. not (number x == n)) x xs false gone) ∙ rest ∙ sym (ap (but n) (under_first o x xs false is))

  -- of items with numbers that rise, the one at a place is the only one of its number
  all_others : (n : ℕ) (xs : List X) (low end : ℕ) → RiseWithin number low xs end → n < low → others n xs ≡ xs
  all_others n [] low end rise under = refl
  all_others n (x ∷ xs) low end rise under =
      let kept : not (number x == n) ≡ true = grind (arith, nat_tests, rise.0, under) in
      kept_first (λ x. not (number x == n)) x xs true kept ∙ ap (λ ys. x ∷ ys) (all_others n xs (number x + 1) end rise.1 (omega (arith, rise.0, under)))

  pub above_low : (xs : List X) (low end k : ℕ) (d : X) → RiseWithin number low xs end → k < length xs → low ≤ number (get_or xs k d)
  above_low [] low end k d rise there = absurd (omega (arith, there))
  above_low (x ∷ xs) low end zero d rise there = rise.0
  above_low (x ∷ xs) low end (suc k) d rise there = let more = above_low xs (number x + 1) end k d rise.1 (omega (arith, there)) in omega (arith, rise.0, more)

  pub removed_others : (n : ℕ) (xs : List X) (low end k : ℕ) (d : X) → RiseWithin number low xs end → k < length xs → number (get_or xs k d) ≡ n → others n xs ≡ remove xs k
  removed_others n [] low end k d rise there is = absurd (omega (arith, there))
  removed_others n (x ∷ xs) low end zero d rise there is =
      let gone : not (number x == n) ≡ false = grind (arith, nat_tests, is) in
      kept_first (λ x. not (number x == n)) x xs false gone ∙ all_others n xs (number x + 1) end rise.1 (omega (arith, is))
  removed_others n (x ∷ xs) low end (suc k) d rise there is =
      let over : number x + 1 ≤ n = let more = above_low xs (number x + 1) end k d rise.1 (omega (arith, there)) in omega (arith, more, is) in
      let kept : not (number x == n) ≡ true = grind (arith, nat_tests, over) in
      kept_first (λ x. not (number x == n)) x xs true kept ∙ ap (λ ys. x ∷ ys) (removed_others n xs (number x + 1) end k d rise.1 (omega (arith, there)) is)

  none_taken : (n : ℕ) (xs : List X) → xs ≡ [] → take n xs ≡ []
  none_taken zero [] is = refl
  none_taken (suc n) [] is = refl
  none_taken n (x ∷ xs) is = absurd (let never : x ∷ xs ≡ [] = is in cc)

  -- the items of an array, found by halving twice
  pub under_range : (o : ℕ) (xs : List X) (from end : ℕ) → from ≤ end
      → ((k : ℕ) (d : X) → k < length xs → k < from → object (get_or xs k d) < o)
      → ((k : ℕ) (d : X) → k < length xs → from ≤ k → o ≤ object (get_or xs k d))
      → ((k : ℕ) (d : X) → k < length xs → k < end → object (get_or xs k d) ≤ o)
      → ((k : ℕ) (d : X) → k < length xs → end ≤ k → o < object (get_or xs k d))
      → map number (take (end - from) (drop from xs)) ≡ under o xs
  under_range o [] zero end order below from_here to_here above = ap (map number) (none_taken (end - 0) [] refl)
  under_range o [] (suc from) zero order below from_here to_here above = absurd (omega (arith, order))
  under_range o [] (suc from) (suc end) order below from_here to_here above = ap (map number) (none_taken (suc end - suc from) [] refl)
  under_range o (x ∷ xs) zero zero order below from_here to_here above = sym (under_none o (x ∷ xs) (λ k d there. above k d there (omega arith)))
  under_range o (x ∷ xs) zero (suc end) order below from_here to_here above =
      let low = from_here 0 x (omega arith) (omega arith) in
      let high = to_here 0 x (omega arith) (omega arith) in
      let is : (object x == o) ≡ true = grind (arith, nat_tests, low, high) in
      let rest : map number (take (end - 0) (drop 0 xs)) ≡ under o xs = under_range o xs zero end (omega arith)
      (λ k d there before. absurd (omega (arith, before)))
      (λ k d there _. from_here (suc k) d (omega (arith, there)) (omega arith))
      (λ k d there before. to_here (suc k) d (omega (arith, there)) (omega (arith, before)))
      (λ k d there behind. above (suc k) d (omega (arith, there)) (omega (arith, behind))) in
      let whole : suc end - 0 ≡ suc end = omega arith in
      let count : end ≡ end - 0 = omega arith in
      ap (λ m. map number (take m (x ∷ xs))) whole ∙ ap (λ ns. number x ∷ ns) (ap (λ m. map number (take m xs)) count ∙ rest) ∙ sym (under_first o x xs true is)
  under_range o (x ∷ xs) (suc from) zero order below from_here to_here above = absurd (omega (arith, order))
  under_range o (x ∷ xs) (suc from) (suc end) order below from_here to_here above =
      let low = below 0 x (omega arith) (omega arith) in
      let is : (object x == o) ≡ false = grind (arith, nat_tests, low) in
      let rest : map number (take (end - from) (drop from xs)) ≡ under o xs = under_range o xs from end (omega (arith, order))
      (λ k d there before. below (suc k) d (omega (arith, there)) (omega (arith, before)))
      (λ k d there behind. from_here (suc k) d (omega (arith, there)) (omega (arith, behind)))
      (λ k d there before. to_here (suc k) d (omega (arith, there)) (omega (arith, before)))
      (λ k d there behind. above (suc k) d (omega (arith, there)) (omega (arith, behind))) in
      let count : suc end - suc from ≡ end - from = omega arith in
      ap (λ m. map number (take m (drop from xs))) count ∙ rest ∙ sym (under_first o x xs false is)

-- ---- the order of arrays

pub fall_above : (xs : List ArrayView) (low k : ℕ) (d : ArrayView) → DoNotFall low xs → k < length xs → low ≤ (get_or xs k d).object
fall_above [] low k d order there = absurd (omega (arith, there))
fall_above (x ∷ xs) low zero d order there = order.0
fall_above (x ∷ xs) low (suc k) d order there = let more = fall_above xs x.object k d order.1 (omega (arith, there)) in omega (arith, order.0, more)

pub fall_order : (xs : List ArrayView) (low : ℕ) → DoNotFall low xs → IsNonDecreasingBy (λ (v : ArrayView). v.object) xs
fall_order [] low order i j d before there = absurd (omega (arith, there))
fall_order (x ∷ xs) low order zero zero d before there = omega arith
fall_order (x ∷ xs) low order zero (suc j) d before there = fall_above xs x.object j d order.1 (omega (arith, there))
fall_order (x ∷ xs) low order (suc i) zero d before there = absurd (omega (arith, before))
fall_order (x ∷ xs) low order (suc i) (suc j) d before there = fall_order xs x.object order.1 i j d (omega (arith, before)) (omega (arith, there))

fall_from : (xs : List ArrayView) (low less : ℕ) → DoNotFall low xs → less ≤ low → DoNotFall less xs
fall_from [] low less order least = tt
fall_from (x ∷ xs) low less order least = (omega (arith, order.0, least), order.1)

pub fall_filter : (test : ArrayView → Bool) (xs : List ArrayView) (low : ℕ) → DoNotFall low xs → DoNotFall low (filter test xs)
fall_filter test [] low order = tt
fall_filter test (x ∷ xs) low order = by_test (test x) (fall_filter test xs x.object order.1) where
  by_test : (b : Bool) → DoNotFall x.object (filter test xs) → DoNotFall low (cond b (x ∷ filter test xs) (filter test xs))
  by_test true rest = (order.0, rest)
  by_test false rest = fall_from (filter test xs) x.object low rest order.0

pub fall_insert : (xs : List ArrayView) (low k : ℕ) (w : ArrayView) → DoNotFall low xs → low ≤ w.object → k ≤ length xs
    → ((i : ℕ) (d : ArrayView) → i < length xs → i < k → (get_or xs i d).object ≤ w.object)
    → ((i : ℕ) (d : ArrayView) → k ≤ i → i < length xs → w.object < (get_or xs i d).object)
    → DoNotFall low (insert xs k w)
fall_insert [] low zero w order least there below above = (least, tt)
fall_insert [] low (suc k) w order least there below above = absurd (omega (arith, there))
fall_insert (x ∷ xs) low zero w order least there below above =
    let over = above 0 x (omega arith) (omega arith) in
    (least, (omega (arith, over), order.1))
fall_insert (x ∷ xs) low (suc k) w order least there below above = (
  order.0,
  fall_insert xs x.object k w order.1 (below 0 x (omega arith) (omega arith)) (omega (arith, there))
      (λ i d here before. below (suc i) d (omega (arith, here)) (omega (arith, before)))
      (λ i d from here. above (suc i) d (omega (arith, from)) (omega (arith, here))),
)

-- ---- the views that are held

-- one more
pub listed_more : (listed new : List ArrayView) (views : List KeptView) (view : KeptView) (entry : ArrayView) → AreByArray listed views → entry.object ≡ view.object → entry.number ≡ view.number
    → DoNotFall 0 new → ((object : ℕ) → listed_under object new ≡ listed_under object listed ++ listed_under object (entry ∷ [])) → AreByArray new (views ++ view ∷ [])
listed_more listed new views view entry are object_is number_is order more = record {
  ordered = order;
  each = λ object. more object ∙ (λ i. are.each object i ++ single object i) ∙ sym (under_append (λ (v : KeptView). v.object) (λ (v : KeptView). v.number) object views (view ∷ []));
} where
  single : (o : ℕ) → listed_under o (entry ∷ []) ≡ numbers_on o (view ∷ [])
  single o = by_test (entry.object == o) refl where
    by_test : (b : Bool) → (entry.object == o) ≡ b → listed_under o (entry ∷ []) ≡ numbers_on o (view ∷ [])
    by_test true is =
        under_first (λ (v : ArrayView). v.object) (λ (v : ArrayView). v.number) o entry [] true is ∙ ap (λ n. n ∷ []) number_is
        ∙ sym (under_first (λ (v : KeptView). v.object) (λ (v : KeptView). v.number) o view [] true (ap (λ n. n == o) (sym object_is) ∙ is))
    by_test false is =
        under_first (λ (v : ArrayView). v.object) (λ (v : ArrayView). v.number) o entry [] false is
        ∙ sym (under_first (λ (v : KeptView). v.object) (λ (v : KeptView). v.number) o view [] false (ap (λ n. n == o) (sym object_is) ∙ is))

-- one less
pub listed_less : (listed new : List ArrayView) (views left : List KeptView) (end at number : ℕ) (d : KeptView) → AreByArray listed views → RiseWithin (λ (v : KeptView). v.number) 0 views end
    → at < length views → (get_or views at d).number ≡ number → new ≡ filter (λ (v : ArrayView). not (v.number == number)) listed → left ≡ remove views at → AreByArray new left
listed_less listed new views left end at number d are rise there is new_is left_is = record {
  ordered = subst (DoNotFall 0) (sym new_is) (fall_filter (λ (v : ArrayView). not (v.number == number)) listed 0 are.ordered);
  each = λ object.
      ap (listed_under object) new_is ∙ under_others (λ (v : ArrayView). v.object) (λ (v : ArrayView). v.number) object number listed
      ∙ ap (filter (λ m. not (m == number))) (are.each object)
      ∙ sym (under_others (λ (v : KeptView). v.object) (λ (v : KeptView). v.number) object number views)
      ∙ ap (numbers_on object) (removed_others (λ (v : KeptView). v.object) (λ (v : KeptView). v.number) number views 0 end at d rise there is ∙ sym left_is);
}
