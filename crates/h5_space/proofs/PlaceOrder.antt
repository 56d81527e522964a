-- The blocks in the order of their places: each of them once.
use Rattle.std.proofs.Common.{◌≡◌, ◌≢◌, ℕ, zero, suc, ◌<◌, ◌≤◌, Bool, true, false, cond, inl, inr, Option, Some, None, IfSome, List, [], ◌∷◌, length, get_or, take, refl, sym, ap, ◌∙◌, subst, add-one, arith}
use Rattle.std.specs.BTreeMap.{BTreeMap, get, values, is_at, IsOrdered}
use Rattle.std.specs.Cmp.{nat_cmp_total, eq_by_cmp_equiv}
use Rattle.std.specs.List.{AllByRecursion, IsDistinct, sum_by}
use Rattle.std.specs.Map.{keys_of, values_of, lookup, remove_entry}
use Rattle.std.specs.Ordering.{nat_cmp, eq_by_cmp, is_eq}
use Rattle.std.proofs.lemmas.Bool.{cases_eq}
use Rattle.std.proofs.lemmas.Bool.Decides.{nat_tests}
use Rattle.std.proofs.lemmas.List.{take_all}
use Rattle.std.proofs.lemmas.List.Elements.{recursion_from_All}
use Rattle.std.proofs.lemmas.List.Sums.{sum_by-cons, sum_by_more}
use Rattle.std.proofs.lemmas.Map.{lookup-remove_entry}
use Rattle.std.proofs.lemmas.Map.Entries.{lookup_head, sum_by-remove_entry}
use Rattle.std.proofs.lemmas.Map.Keys.{IsDistinct-head, IsDistinct-tail, IsDistinct-cons, IsDistinct-from_sorted}
use Rattle.std.proofs.lemmas.Map.Views.{All-values_from_lookup}
use Rattle.std.proofs.lemmas.Option.{same_Some, none-some}
use Rattle.h5_bytes.specs.Blocks.{block, cover}
use Rattle.h5_bytes.specs.declared.Block.{Block}
use Rattle.h5_bytes.proofs.CoverLaws.{held_by, cover-sum}
use Rattle.h5_space.specs.Indexed.{IsIndexed}

-- how many of the blocks with these indices hold the byte at p
abbrev pub cover_at : ℕ → List Block → List ℕ → ℕ
cover_at p blocks indices = sum_by (λ i. held_by p (get_or blocks i (block 0 0))) indices

-- where an entry is gone, the others keep what holds of each key, and no two keys are equal
all_left : (P : ℕ → Type 0) (test : ℕ → Bool) (es : List (ℕ × ℕ)) → AllByRecursion P (keys_of es) → AllByRecursion P (keys_of (remove_entry test es))
all_left P test [] all = tt
all_left P test (e ∷ es) all = elim (test e.0) as (λ b. AllByRecursion P (keys_of (cond b es (e ∷ remove_entry test es)))) [ true ↦ all.1 | false ↦ (all.0, all_left P test es all.1) ]

distinct_left : (eq : ℕ → ℕ → Bool) (test : ℕ → Bool) (es : List (ℕ × ℕ)) → IsDistinct eq (keys_of es) → IsDistinct eq (keys_of (remove_entry test es))
distinct_left eq test [] distinct = distinct
distinct_left eq test (e ∷ es) distinct = elim (test e.0) as (λ b. IsDistinct eq (keys_of (cond b es (e ∷ remove_entry test es)))) [
  | true ↦ IsDistinct-tail eq e.0 (keys_of es) distinct
  | false ↦ IsDistinct-cons eq e.0 (keys_of (remove_entry test es)) (all_left (λ y. eq e.0 y ≡ false) test es (IsDistinct-head eq e.0 (keys_of es) distinct))
      (distinct_left eq test es (IsDistinct-tail eq e.0 (keys_of es) distinct))
]

-- what a map leads to where the entry at k is gone
module _ (k : ℕ) (es : List (ℕ × ℕ)) (distinct : IsDistinct (eq_by_cmp nat_cmp) (keys_of es)) where
  abbrev left : List (ℕ × ℕ)
  left = remove_entry (is_at (nat_cmp k)) es

  lookup-left : (q : ℕ) → lookup (is_at (nat_cmp q)) left ≡ cond (is_at (nat_cmp k) q) None (lookup (is_at (nat_cmp q)) es)
  lookup-left q = lookup-remove_entry (eq_by_cmp_equiv nat_cmp_total) (is_at (nat_cmp k))
      (λ x y t. let e : k ≡ x = grind (arith, nat_tests, t) in ap (λ (z : ℕ). is_eq (nat_cmp z y)) e) q es distinct

  left_other : (q : ℕ) → q ≢ k → lookup (is_at (nat_cmp q)) left ≡ lookup (is_at (nat_cmp q)) es
  left_other q differ =
      let other : is_at (nat_cmp k) q ≡ false = grind (arith, nat_tests, differ) in
      lookup-left q ∙ ap (λ b. cond b None (lookup (is_at (nat_cmp q)) es)) other

  left_none : lookup (is_at (nat_cmp k)) left ≡ None
  left_none =
      let same : is_at (nat_cmp k) k ≡ true = grind (arith, nat_tests) in
      lookup-left k ∙ ap (λ b. cond b None (lookup (is_at (nat_cmp k)) es)) same

-- where entries lead to each of the first n blocks, from its place, and to no other one, a sum over them is a sum over these blocks
module _ (g : Block → ℕ) (blocks : List Block) (d : Block) where
  abbrev place_at : ℕ → ℕ
  place_at i = (get_or blocks i d).at

  sum_in_places : (n : ℕ) → n ≤ length blocks → (es : List (ℕ × ℕ)) → IsDistinct (eq_by_cmp nat_cmp) (keys_of es)
      → ((k i : ℕ) → lookup (is_at (nat_cmp k)) es ≡ Some i → (i < n) × (place_at i ≡ k))
      → ((i : ℕ) → i < n → lookup (is_at (nat_cmp (place_at i))) es ≡ Some i)
      → sum_by (λ i. g (get_or blocks i d)) (values_of es) ≡ sum_by g (take n blocks)
  sum_in_places zero long [] distinct leads listed = refl
  sum_in_places zero long (e ∷ es) distinct leads listed =
      let same : is_at (nat_cmp e.0) e.0 ≡ true = grind (arith, nat_tests) in
      let low = (leads e.0 e.1 (lookup_head (is_at (nat_cmp e.0)) e es same)).0 in
      absurd (omega arith)
  sum_in_places (suc m) long es distinct leads listed =
      let k : ℕ = place_at m in
      let here : lookup (is_at (nat_cmp k)) es ≡ Some m = listed m (omega arith) in
      let rest = sum_in_places m (omega arith) (left k es distinct) (distinct_left (eq_by_cmp nat_cmp) (is_at (nat_cmp k)) es distinct)
      (λ q i is. elim (cases_eq q k) [
        | inl same ↦ absurd (none-some i (sym (subst (λ (x : ℕ). lookup (is_at (nat_cmp x)) (left k es distinct) ≡ None) (sym same) (left_none k es distinct)) ∙ is))
        | inr differ ↦
            let before = leads q i (sym (left_other k es distinct q differ) ∙ is) in
            let other : i ≢ m = λ same. differ (sym before.1 ∙ ap place_at same) in
            (omega (arith, before.0), before.1)
      ])
      (λ i low.
      let differ : place_at i ≢ k = λ same. (let index = same_Some i m (sym (listed i (omega arith)) ∙ ap (λ (x : ℕ). lookup (is_at (nat_cmp x)) es) same ∙ here) in omega arith) in
      left_other k es distinct (place_at i) differ ∙ listed i (omega arith)) in
      let all = rw here at (sum_by-remove_entry (λ i. g (get_or blocks i d)) (is_at (nat_cmp k)) es) in
      let more = rw add-one at (sum_by_more g blocks m d (omega arith)) in
      omega (arith, rest, all, more)

-- a sum of ones is a length
ones : {X : Type 0} (xs : List X) → sum_by (λ x. 1) xs ≡ length xs
ones [] = refl
ones (x ∷ xs) = let head = sum_by-cons (λ x. 1) x xs in omega (arith, head, ones xs)

module _ (blocks : List Block) (places : BTreeMap ℕ ℕ) (end : ℕ) (s : IsIndexed blocks places end) (ordered : IsOrdered nat_cmp places) where
  distinct : IsDistinct (eq_by_cmp nat_cmp) (keys_of places.entries)
  distinct = IsDistinct-from_sorted nat_cmp (keys_of places.entries) ordered

  sum_all : (g : Block → ℕ) → sum_by (λ i. g (get_or blocks i (block 0 0))) (values places) ≡ sum_by g blocks
  sum_all g = sum_in_places g blocks (block 0 0) (length blocks) (omega arith) places.entries distinct (λ k i is. ((s.leads k i is).0, (s.leads k i is).1 (block 0 0))) (λ i low. s.listed i (block 0 0) low)
      ∙ ap (sum_by g) (take_all (length blocks) blocks (omega arith))

  pub cover_values : (p : ℕ) → cover_at p blocks (values places) ≡ cover p blocks
  cover_values p = sum_all (held_by p) ∙ sym (cover-sum p blocks)

  pub as_many : length (values places) ≡ length blocks
  as_many = sym (ones (values places)) ∙ sum_all (λ b. 1) ∙ ones blocks

  pub values_within : AllByRecursion (λ i. i < length blocks) (values places)
  values_within = recursion_from_All (λ i. i < length blocks) (values places)
      (All-values_from_lookup (eq_by_cmp_equiv nat_cmp_total) (λ i. i < length blocks) places.entries distinct (λ k. found k (get nat_cmp places k) refl)) where
        found : (k : ℕ) (o : Option ℕ) → get nat_cmp places k ≡ o → IfSome o (λ i. i < length blocks)
        found k None is = tt
        found k (Some i) is = (s.leads k i is).0
