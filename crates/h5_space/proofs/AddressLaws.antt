-- Entries that ascend by address: what is found among them, and what an edit leaves.
use Rattle.std.proofs.Common.{◌≡◌, ℕ, zero, suc, length, get_or, ◌<◌, ◌≤◌, Bool, true, false, cond, inl, inr, Option, Some, None, List, [], ◌∷◌, ◌++◌, refl, sym, ap, ◌∙◌, subst, arith}
use Rattle.std.specs.BTreeMap.{BTreeMap, Updates, is_at}
use Rattle.std.specs.List.{AllByRecursion}
use Rattle.std.specs.List.Sorted.{IsStrictlySortedBy, IsNonDecreasingBy}
use Rattle.std.specs.Map.{keys_of, lookup, KeepsOthers}
use Rattle.std.specs.Ordering.{nat_cmp}
use Rattle.std.specs.declared.cmp.Ordering.TheVariants.{Less}
use Rattle.std.proofs.lemmas.Bool.{cases_eq}
use Rattle.std.proofs.lemmas.Bool.Decides.{nat_tests}
use Rattle.std.proofs.lemmas.Map.{lookup-none}
use Rattle.h5_bytes.proofs.BlockLaws.{all_append, all_left, all_right, all_so}

-- ---- what holds of each element

module _ {X : Type 0} (P : X → Type 0) where
  -- it holds of the element at each place
  pub all_at : (xs : List X) (i : ℕ) (d : X) → AllByRecursion P xs → i < length xs → P (get_or xs i d)
  all_at [] i d all low = absurd (omega (arith, low))
  all_at (x ∷ xs) zero d all low = all.0
  all_at (x ∷ xs) (suc i) d all low = all_at xs i d all.1 (omega (arith, low))

module _ {V : Type 0} where
  abbrev pub Below : ℕ → List (ℕ × V) → Type 0
  Below k es = AllByRecursion (λ e. e.0 < k) es

  abbrev pub Above : ℕ → List (ℕ × V) → Type 0
  Above k es = AllByRecursion (λ e. k < e.0) es

  abbrev pub Ascends : List (ℕ × V) → Type 0
  Ascends [] = Unit {0}
  Ascends (e ∷ es) = Above e.0 es × Ascends es

  pub below_more : (k q : ℕ) (es : List (ℕ × V)) → k ≤ q → Below k es → Below q es
  below_more k q es le = all_so (λ e. e.0 < k) (λ e. e.0 < q) es (λ e low. omega (arith, le, low))

  pub above_less : (k q : ℕ) (es : List (ℕ × V)) → q ≤ k → Above k es → Above q es
  above_less k q es le = all_so (λ e. k < e.0) (λ e. q < e.0) es (λ e high. omega (arith, le, high))

  -- ---- the order, in the kit's words

  keys_above : (k : ℕ) (es : List (ℕ × V)) → Above k es → AllByRecursion (λ y. nat_cmp k y ≡ Less) (keys_of es)
  keys_above k [] above = tt
  keys_above k (e ∷ es) above = (grind (arith, nat_tests, above.0), keys_above k es above.1)

  above_keys : (k : ℕ) (es : List (ℕ × V)) → AllByRecursion (λ y. nat_cmp k y ≡ Less) (keys_of es) → Above k es
  above_keys k [] above = tt
  above_keys k (e ∷ es) above = (grind (arith, nat_tests, above.0), above_keys k es above.1)

  pub sorted_from_ascends : (es : List (ℕ × V)) → Ascends es → IsStrictlySortedBy nat_cmp (keys_of es)
  unfolding IsStrictlySortedBy
  sorted_from_ascends [] s = tt
  sorted_from_ascends (e ∷ es) s = (keys_above e.0 es s.0, sorted_from_ascends es s.1)

  pub ascends_from_sorted : (es : List (ℕ × V)) → IsStrictlySortedBy nat_cmp (keys_of es) → Ascends es
  unfolding IsStrictlySortedBy
  ascends_from_sorted [] s = tt
  ascends_from_sorted (e ∷ es) s = (above_keys e.0 es s.0, ascends_from_sorted es s.1)

  -- ---- parts of entries in order

  pub ascends_front : (f g : List (ℕ × V)) → Ascends (f ++ g) → Ascends f
  ascends_front [] g s = tt
  ascends_front (e ∷ f) g s = (all_left (λ x. e.0 < x.0) f g s.0, ascends_front f g s.1)

  pub ascends_back : (f g : List (ℕ × V)) → Ascends (f ++ g) → Ascends g
  ascends_back [] g s = s
  ascends_back (e ∷ f) g s = ascends_back f g s.1

  pub ascends_below : (f g : List (ℕ × V)) (x : ℕ × V) → Ascends (f ++ x ∷ g) → Below x.0 f
  ascends_below [] g x s = tt
  ascends_below (e ∷ f) g x s = ((all_right (λ y. e.0 < y.0) f (x ∷ g) s.0).0, ascends_below f g x s.1)

  pub ascends_above : (f g : List (ℕ × V)) (x : ℕ × V) → Ascends (f ++ x ∷ g) → Above x.0 g
  ascends_above [] g x s = s.0
  ascends_above (e ∷ f) g x s = ascends_above f g x s.1

  pub ascends_rise : (es : List (ℕ × V)) → Ascends es → IsNonDecreasingBy (λ e. e.0) es
  ascends_rise [] s i j d le low = absurd (omega (arith, low))
  ascends_rise (e ∷ es) s zero zero d le low = omega arith
  ascends_rise (e ∷ es) s zero (suc j) d le low = let above = all_at (λ x. e.0 < x.0) es j d s.0 (omega (arith, low)) in omega (arith, above)
  ascends_rise (e ∷ es) s (suc i) zero d le low = absurd (omega (arith, le))
  ascends_rise (e ∷ es) s (suc i) (suc j) d le low = ascends_rise es s.1 i j d (omega (arith, le)) (omega (arith, low))

  pub ascends_put : (f g : List (ℕ × V)) (x : ℕ × V) → Ascends (f ++ g) → Below x.0 f → Above x.0 g → Ascends (f ++ x ∷ g)
  ascends_put [] g x s low high = (high, s)
  ascends_put (e ∷ f) g x s low high =
      let above = λ (y : ℕ × V). e.0 < y.0 in
      (all_append above f (x ∷ g) (all_left above f g s.0) (low.0, all_right above f g s.0), ascends_put f g x s.1 low.1 high)

  pub ascends_cut : (f g : List (ℕ × V)) (x : ℕ × V) → Ascends (f ++ x ∷ g) → Ascends (f ++ g)
  ascends_cut [] g x s = s.1
  ascends_cut (e ∷ f) g x s =
      let above = λ (y : ℕ × V). e.0 < y.0 in
      (all_append above f g (all_left above f (x ∷ g) s.0) (all_right above f (x ∷ g) s.0).1, ascends_cut f g x s.1)

  pub ascends_set : (f g : List (ℕ × V)) (x : ℕ × V) (v : V) → Ascends (f ++ x ∷ g) → Ascends (f ++ (x.0, v) ∷ g)
  ascends_set f g x v s = ascends_put f g (x.0, v) (ascends_cut f g x s) (ascends_below f g x s) (ascends_above f g x s)

  -- ---- what is found

  lookup_past : (test : ℕ → Bool) (f g : List (ℕ × V)) → AllByRecursion (λ e. test e.0 ≡ false) f → lookup test (f ++ g) ≡ lookup test g
  lookup_past test [] g none = refl
  lookup_past test (e ∷ f) g none = ap (λ b. cond b (Some e.1) (lookup test (f ++ g))) none.0 ∙ lookup_past test f g none.1

  lookup_other : (test : ℕ → Bool) (f g : List (ℕ × V)) (x : ℕ × V) → test x.0 ≡ false → lookup test (f ++ x ∷ g) ≡ lookup test (f ++ g)
  lookup_other test [] g x fails = ap (λ b. cond b (Some x.1) (lookup test g)) fails
  lookup_other test (e ∷ f) g x fails = ap (λ o. cond (test e.0) (Some e.1) o) (lookup_other test f g x fails)

  none_below : (k : ℕ) (es : List (ℕ × V)) → Below k es → AllByRecursion (λ e. is_at (nat_cmp k) e.0 ≡ false) es
  none_below k es = all_so (λ e. e.0 < k) (λ e. is_at (nat_cmp k) e.0 ≡ false) es (λ e low. grind (arith, nat_tests, low))

  none_above : (k : ℕ) (es : List (ℕ × V)) → Above k es → AllByRecursion (λ e. is_at (nat_cmp k) e.0 ≡ false) es
  none_above k es = all_so (λ e. k < e.0) (λ e. is_at (nat_cmp k) e.0 ≡ false) es (λ e high. grind (arith, nat_tests, high))

  pub lookup_here : (f g : List (ℕ × V)) (x : ℕ × V) → Below x.0 f → lookup (is_at (nat_cmp x.0)) (f ++ x ∷ g) ≡ Some x.1
  lookup_here f g x low =
      let here : is_at (nat_cmp x.0) x.0 ≡ true = grind (arith, nat_tests) in
      lookup_past (is_at (nat_cmp x.0)) f (x ∷ g) (none_below x.0 f low) ∙ ap (λ b. cond b (Some x.1) (lookup (is_at (nat_cmp x.0)) g)) here

  pub lookup_gap : (k : ℕ) (f g : List (ℕ × V)) → Below k f → Above k g → lookup (is_at (nat_cmp k)) (f ++ g) ≡ None
  lookup_gap k f g low high = lookup-none (is_at (nat_cmp k)) (f ++ g) (all_append (λ e. is_at (nat_cmp k) e.0 ≡ false) f g (none_below k f low) (none_above k g high))

  -- ---- what an edit changes

  -- a map where nothing but the look-up of k differs
  updated : (m n : BTreeMap ℕ V) (k : ℕ) (w : Option V) → ((test : ℕ → Bool) → test k ≡ false → lookup test n.entries ≡ lookup test m.entries)
      → lookup (is_at (nat_cmp k)) n.entries ≡ w → Updates nat_cmp m n k w
  unfolding KeepsOthers
  updated m n k w others here = (
    λ q. elim (cases_eq k q) [
      | inl same ↦
          let yes : is_at (nat_cmp k) q ≡ true = grind (arith, nat_tests, same) in
          subst (λ (x : ℕ). lookup (is_at (nat_cmp x)) n.entries ≡ w) same here ∙ sym (ap (λ b. cond b w (lookup (is_at (nat_cmp q)) m.entries)) yes)
      | inr differ ↦
          let other : is_at (nat_cmp k) q ≡ false = grind (arith, nat_tests, differ) in
          others (is_at (nat_cmp q)) (grind (arith, nat_tests, differ)) ∙ sym (ap (λ b. cond b w (lookup (is_at (nat_cmp q)) m.entries)) other)
    ],
    here,
    λ q apart. others (is_at (nat_cmp q)) (grind (arith, nat_tests, apart)),
    λ other test apart. others other (apart k (grind (arith, nat_tests))),
  )

  module _ (m n : BTreeMap ℕ V) (f g : List (ℕ × V)) where
    pub updates_put : (k : ℕ) (v : V) → m.entries ≡ f ++ g → n.entries ≡ f ++ (k, v) ∷ g → Below k f → Updates nat_cmp m n k (Some v)
    updates_put k v before after low = updated m n k (Some v)
        (λ test fails. ap (lookup test) after ∙ lookup_other test f g (k, v) fails ∙ sym (ap (lookup test) before))
        (ap (lookup (is_at (nat_cmp k))) after ∙ lookup_here f g (k, v) low)

    pub updates_set : (x : ℕ × V) (v : V) → m.entries ≡ f ++ x ∷ g → n.entries ≡ f ++ (x.0, v) ∷ g → Below x.0 f → Updates nat_cmp m n x.0 (Some v)
    updates_set x v before after low = updated m n x.0 (Some v)
        (λ test fails. ap (lookup test) after ∙ lookup_other test f g (x.0, v) fails ∙ sym (lookup_other test f g x fails) ∙ sym (ap (lookup test) before))
        (ap (lookup (is_at (nat_cmp x.0))) after ∙ lookup_here f g (x.0, v) low)

    pub updates_cut : (x : ℕ × V) → m.entries ≡ f ++ x ∷ g → n.entries ≡ f ++ g → Below x.0 f → Above x.0 g → Updates nat_cmp m n x.0 None
    updates_cut x before after low high = updated m n x.0 None
        (λ test fails. ap (lookup test) after ∙ sym (lookup_other test f g x fails) ∙ sym (ap (lookup test) before))
        (ap (lookup (is_at (nat_cmp x.0))) after ∙ lookup_gap x.0 f g low high)

    pub updates_none : (k : ℕ) → m.entries ≡ f ++ g → n.entries ≡ f ++ g → Below k f → Above k g → Updates nat_cmp m n k None
    updates_none k before after low high = updated m n k None
        (λ test fails. ap (lookup test) after ∙ sym (ap (lookup test) before))
        (ap (lookup (is_at (nat_cmp k))) after ∙ lookup_gap k f g low high)
