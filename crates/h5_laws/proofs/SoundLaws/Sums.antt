-- Sums over the values of a map.
use Rattle.std.proofs.Common.{◌≡◌, ℕ, ◌+◌, ◌≤◌, true, false, cond, List, [], ◌∷◌, map, refl, sym, ap, ◌∙◌, subst, Option, Some, None, inl, inr, arith}
use Rattle.std.specs.Prelude.{T}
use Rattle.std.specs.List.{sum_by}
use Rattle.std.specs.Option.{option_map_or}
use Rattle.std.specs.Ordering.{is_lt, is_eq}
use Rattle.std.specs.declared.cmp.Ordering.{Ordering}
use Rattle.std.specs.declared.cmp.Ordering.TheVariants.{Less, Equal, Greater}
use Rattle.std.specs.Cmp.{IsTotalOrder, tied_itself}
use Rattle.std.specs.FinMap.{FinMap, IsAntisymmetric, get, insert, remove, entries, values, find, put, is_sorted, get-entries, entries_sorted, entries-insert}
use Rattle.std.specs.FinMap.Entries.{below_all, by_order}
use Rattle.std.proofs.lemmas.Bool.{cases_lt}
use Rattle.std.proofs.lemmas.List.Sums.{sum_by-cons}
use Rattle.h5_model.proofs.ReachLaws.{halves, below_entry}
use Rattle.h5_model.proofs.TextOrder.{is_less}
use Rattle.h5_laws.proofs.Lists.{In}
use Rattle.h5_laws.proofs.Maps.{true_of, to_entry, get_of_entry}
use Rattle.h5_laws.proofs.SoundLaws.Inserted.{insert_other, put_again, removed_here}

abbrev pub weight : {X : Type 0} → (X → ℕ) → Option X → ℕ
weight f o = option_map_or f o 0

module _ {K X : Type 0} {R : K → K → Ordering} (o : IsTotalOrder R) where
  -- a key below those of all entries is not found
  lower : (x k : K) (es : List (K × X)) → R k x ≡ Less → T (below_all R x es) → find R k es ≡ None
  lower x k [] low below = refl
  lower x k (e ∷ es) low below =
      let split : T (is_lt (R x e.0)) × T (below_all R x es) = halves _ _ below in
      ap (λ r. cond (is_eq r) (Some e.1) (find R k es)) (o.trans k x e.0 low (is_less _ (true_of _ split.0))) ∙ lower x k es low split.1

  -- the key of an entry is not that of a later one
  above : (e : K × X) (es : List (K × X)) (k : K) (v : X) → T (below_all R e.0 es) → In (k, v) es → k ≡ e.0 → ⊥
  above e es k v below at same =
      let later : is_lt (R e.0 k) ≡ true = below_entry R e.0 k v es below (to_entry es k v at) in
      let never : false ≡ true = sym (ap is_lt (tied_itself o e.0)) ∙ ap (λ (x : K). is_lt (R e.0 x)) (sym same) ∙ later in absurd (cc)

  module _ (f : X → ℕ) where
    abbrev total : List (K × X) → ℕ
    total es = sum_by f (map (λ e. e.1) es)

    total_cons : (e : K × X) (es : List (K × X)) → total (e ∷ es) ≡ f e.1 + total es
    total_cons e es = sum_by-cons f e.1 (map (λ x. x.1) es)

    total_put : (k : K) (v : X) (es : List (K × X)) → T (is_sorted R es) → total (put R k v es) + weight f (find R k es) ≡ total es + f v
    total_put k v [] sorted = omega (arith, total_cons (k, v) [])
    total_put k v (e ∷ es) sorted = go (R k e.0) refl (total_put k v es (halves _ _ sorted).1) where
      go : (r : Ordering) → R k e.0 ≡ r → total (put R k v es) + weight f (find R k es) ≡ total es + f v
          → total (by_order r ((k, v) ∷ e ∷ es) ((e.0, v) ∷ es) (e ∷ put R k v es)) + weight f (cond (is_eq r) (Some e.1) (find R k es)) ≡ total (e ∷ es) + f v
      go Less is rest = omega (arith, total_cons (k, v) (e ∷ es), ap (weight f) (lower e.0 k es is (halves _ _ sorted).0))
      go Equal is rest = omega (arith, total_cons (e.0, v) es, total_cons e es)
      go Greater is rest = omega (arith, total_cons e (put R k v es), total_cons e es, rest)

    -- the new value is added, and the old one taken away
    pub sum_insert : (m : FinMap R X) (k : K) (v : X) → sum_by f (values (insert m k v)) + weight f (get m k) ≡ sum_by f (values m) + f v
    sum_insert m k v =
        let rest = total_put k v (entries m) (entries_sorted m) in
        let new = ap total (entries-insert o m k v) in
        let old = ap (weight f) (get-entries m k) in
        omega (arith, rest, new, old)

    total_none : (es : List (K × X)) → ((k : K) (v : X) → In (k, v) es → f v ≡ 0) → total es ≡ 0
    total_none [] none = refl
    total_none (e ∷ es) none = omega (arith, total_cons e es, none e.0 e.1 (inl refl), total_none es (λ k v at. none k v (inr at)))

    -- where no value counts, there is no sum
    pub sum_none : (m : FinMap R X) → ((k : K) (v : X) → get m k ≡ Some v → f v ≡ 0) → sum_by f (values m) ≡ 0
    sum_none m none = total_none (entries m) (λ k v at. none k v (get_of_entry o m k v at))

    -- each value is part of the sum; z is a value that does not count
    pub sum_least : (z : X) → f z ≡ 0 → (m : FinMap R X) (k : K) (v : X) → get m k ≡ Some v → f v ≤ sum_by f (values m)
    sum_least z nothing m k v there = omega (arith, sum_insert m k z, nothing, ap (weight f) there)

    -- and so are those of two keys
    pub sum_two : IsAntisymmetric R → (z : X) → f z ≡ 0 → (m : FinMap R X) (a b : K) (u v : X) → (b ≡ a → ⊥) → get m a ≡ Some u → get m b ≡ Some v
        → f u + f v ≤ sum_by f (values m)
    sum_two same z nothing m a b u v other first second =
        let rest : f v ≤ sum_by f (values (insert m a z)) = sum_least z nothing (insert m a z) b v (insert_other o same m a z b other ∙ second) in
        omega (arith, sum_insert m a z, nothing, ap (weight f) first, rest)

    -- where each value counts for no more than what the other map has there, the sum is no more
    total_fewer : IsAntisymmetric R → (z : X) → f z ≡ 0 → (es : List (K × X)) → T (is_sorted R es) → (m : FinMap R X)
        → ((k : K) (v : X) → In (k, v) es → f v ≤ weight f (get m k)) → total es ≤ sum_by f (values m)
    total_fewer same z nothing [] sorted m low = omega arith
    total_fewer same z nothing (e ∷ es) sorted m low =
        let split : T (below_all R e.0 es) × T (is_sorted R es) = halves _ _ sorted in
        let other : (k : K) (v : X) → In (k, v) es → k ≡ e.0 → ⊥ = λ k v at. above e es k v split.0 at in
        let later : (k : K) (v : X) → In (k, v) es → f v ≤ weight f (get (insert m e.0 z) k)
        = λ k v at. subst (λ (x : Option X). f v ≤ weight f x) (sym (insert_other o same m e.0 z k (other k v at))) (low k v (inr at)) in
        let rest : total es ≤ sum_by f (values (insert m e.0 z)) = total_fewer same z nothing es split.1 (insert m e.0 z) later in
        let first : f e.1 ≤ weight f (get m e.0) = low e.0 e.1 (inl refl) in
        omega (arith, total_cons e es, rest, sum_insert m e.0 z, nothing, first)

    pub sum_fewer : IsAntisymmetric R → (z : X) → f z ≡ 0 → (m fewer : FinMap R X) → ((k : K) (v : X) → get fewer k ≡ Some v → f v ≤ weight f (get m k))
        → sum_by f (values fewer) ≤ sum_by f (values m)
    sum_fewer same z nothing m fewer low =
        total_fewer same z nothing (entries fewer) (entries_sorted fewer) m (λ k v at. low k v (get_of_entry o fewer k v at))

    -- a value that is removed is taken away
    pub sum_remove : IsAntisymmetric R → (m : FinMap R X) (k : K) (v : X) → get m k ≡ Some v → sum_by f (values m) ≡ sum_by f (values (remove m k)) + f v
    sum_remove same m k v there =
        let again = ap (λ (n : FinMap R X). sum_by f (values n)) (put_again o same m k v there) in
        let put = sum_insert (remove m k) k v in
        let none = ap (weight f) (removed_here o same m k) in
        omega (arith, again, put, none)

    total_some : (es : List (K × X)) → 1 ≤ total es → (k : K) × (v : X) × In (k, v) es × (1 ≤ f v)
    total_some [] many = absurd (omega (arith, many))
    total_some (e ∷ es) many = elim (cases_lt 0 (f e.1)) [
      | inl some ↦ (e.0, e.1, inl refl, omega (arith, some))
      | inr none ↦ let rest = total_some es (omega (arith, many, none, total_cons e es)) in (rest.0, rest.1, inr rest.2, rest.3)
    ]

    -- where there is a sum, some value counts
    pub sum_some : (m : FinMap R X) → 1 ≤ sum_by f (values m) → (k : K) × (v : X) × (get m k ≡ Some v) × (1 ≤ f v)
    sum_some m many = let e = total_some (entries m) many in (e.0, e.1, get_of_entry o m e.0 e.1 e.2, e.3)
