-- A list with numbers is in the order of these, and what they look up.
use Rattle.std.proofs.Common.{◌≡◌, ℕ, zero, suc, ◌+◌, ◌<◌, List, [], ◌∷◌, refl, sym, ap, ◌∙◌, subst, arith, Bool, true, false, cond, Some, Ordering, Less}
use Rattle.std.specs.Prelude.{T, slice_get, ◌&&◌, ◌==◌}
use Rattle.std.proofs.lemmas.Bool.Decides.{nat_tests}
use Rattle.std.specs.Ordering.{nat_cmp, is_lt}
use Rattle.std.specs.Cmp.{nat_cmp_is, unsigned_tied}
use Rattle.std.specs.FinMap.{find, is_sorted}
use Rattle.std.specs.FinMap.Entries.{below_all}
use Rattle.h5_laws.specs.Numbered.{numbered_from}

pub joined : (a b : Bool) → T a → T b → T (a && b)
joined true b p q = q
joined false b p q = absurd p

pub less_holds : (r : Ordering) → r ≡ Less → T (is_lt r)
less_holds r e = subst (λ (s : Ordering). T (is_lt s)) (sym e) tt

below_numbered : {X : Type 0} (m n : ℕ) (xs : List X) → m < n → T (below_all nat_cmp m (numbered_from n xs))
below_numbered m n [] low = tt
below_numbered m n (x ∷ xs) low = joined _ _ (less_holds (nat_cmp m n) (sym (nat_cmp_is m n Less low))) (below_numbered m (n + 1) xs (omega arith))

pub sorted_numbered : {X : Type 0} (n : ℕ) (xs : List X) → T (is_sorted nat_cmp (numbered_from n xs))
sorted_numbered n [] = tt
sorted_numbered n (x ∷ xs) = joined _ _ (below_numbered n (n + 1) xs (omega arith)) (sorted_numbered (n + 1) xs)

pub found_numbered : {X : Type 0} (m n k : ℕ) (xs : List X) → n + k ≡ m → find nat_cmp m (numbered_from n xs) ≡ slice_get xs k
found_numbered m n k [] is = refl
found_numbered m n zero (x ∷ xs) is =
    let same : (m == n) ≡ true = grind (arith, nat_tests) in
    ap (λ b. cond b (Some x) (find nat_cmp m (numbered_from (n + 1) xs))) (unsigned_tied m n ∙ same)
found_numbered m n (suc k) (x ∷ xs) is =
    let other : (m == n) ≡ false = grind (arith, nat_tests) in
    ap (λ b. cond b (Some x) (find nat_cmp m (numbered_from (n + 1) xs))) (unsigned_tied m n ∙ other) ∙ found_numbered m (n + 1) k xs (omega arith)
