-- The entries of maps by name: those that are put, removed and listed (an object's attributes: File Format Specification 3.0, section
-- IV.A.2.m).
use Rattle.std.proofs.Common.{◌≡◌, ℕ, ◌+◌, ◌≤◌, List, [], ◌∷◌, length, Bool, true, false, cond, refl, sym, ap, subst, arith}
use Rattle.std.specs.List.{AllByRecursion, filter}
use Rattle.std.specs.Ordering.{nat_cmp}
use Rattle.std.specs.Cmp.Lexicographic.{slice_cmp, nat_list_cmp_total}
use Rattle.std.specs.declared.cmp.Ordering.{Ordering}
use Rattle.std.specs.declared.cmp.Ordering.TheVariants.{Less, Equal, Greater}
use Rattle.std.specs.FinMap.{FinMap, nat_cmp-IsAntisymmetric, slice_cmp-IsAntisymmetric, put, insert, entries, from_entries, entries-insert}
use Rattle.std.specs.FinMap.Entries.{by_order}
use Rattle.h5_model.proofs.MapSteps.{entries-empty}

abbrev by_name : List ℕ → List ℕ → Ordering
by_name = slice_cmp nat_cmp

-- ---- an entry that is put

all_put : {X : Type 0} (P : List ℕ × X → Type 0) (name : List ℕ) (v : X) (es : List (List ℕ × X)) → P (name, v) → AllByRecursion P es → AllByRecursion P (put by_name name v es)
all_put P name v [] here all = (here, tt)
all_put P name v (e ∷ es) here all =
    elim (by_name name e.0) as (λ r. by_name name e.0 ≡ r → AllByRecursion P (by_order r ((name, v) ∷ e ∷ es) ((e.0, v) ∷ es) (e ∷ put by_name name v es))) [
      | Less ↦ λ _. (here, all)
      | Equal ↦ λ tied. (subst (λ (n : List ℕ). P (n, v)) (slice_cmp-IsAntisymmetric nat_cmp-IsAntisymmetric name e.0 tied) here, all.1)
      | Greater ↦ λ _. (all.0, all_put P name v es here all.1)
    ] refl

few_put : {X : Type 0} (name : List ℕ) (v : X) (es : List (List ℕ × X)) → length (put by_name name v es) ≤ 1 + length es
few_put name v [] = omega arith
few_put name v (e ∷ es) = elim (by_name name e.0) as (λ r. length (by_order r ((name, v) ∷ e ∷ es) ((e.0, v) ∷ es) (e ∷ put by_name name v es)) ≤ 1 + length (e ∷ es)) [
  | Less ↦ omega arith
  | Equal ↦ omega arith
  | Greater ↦ omega (arith, few_put name v es)
]

module _ {X : Type 0} (m : FinMap by_name X) (name : List ℕ) (v : X) where
  -- each entry is the new one or an old one
  pub all_inserted : (P : List ℕ × X → Type 0) → P (name, v) → AllByRecursion P (entries m) → AllByRecursion P (entries (insert m name v))
  all_inserted P here all = subst (AllByRecursion P) (sym (entries-insert nat_list_cmp_total m name v)) (all_put P name v (entries m) here all)

  -- there is one more at most
  pub few_inserted : length (entries (insert m name v)) ≤ 1 + length (entries m)
  few_inserted = omega (arith, ap length (entries-insert nat_list_cmp_total m name v), few_put name v (entries m))

-- ---- entries that pass a test

pub all_filter : {X : Type 0} (P : X → Type 0) (p : X → Bool) (xs : List X) → AllByRecursion P xs → AllByRecursion P (filter p xs)
all_filter P p [] all = tt
all_filter P p (x ∷ xs) all = elim (p x) as (λ b. AllByRecursion P (cond b (x ∷ filter p xs) (filter p xs))) [
  | true ↦ (all.0, all_filter P p xs all.1)
  | false ↦ all_filter P p xs all.1
]

pub length_filter : {X : Type 0} (p : X → Bool) (x : X) (xs : List X) → length (filter p (x ∷ xs)) ≡ cond (p x) 1 0 + length (filter p xs)
length_filter p x xs = elim (p x) as (λ b. length (cond b (x ∷ filter p xs) (filter p xs)) ≡ cond b 1 0 + length (filter p xs)) [ true ↦ omega arith | false ↦ omega arith ]

-- ---- entries of a list

pub all_entries : {X : Type 0} (P : List ℕ × X → Type 0) (es : List (List ℕ × X)) → AllByRecursion P es → AllByRecursion P (entries (from_entries {R = by_name} es))
all_entries {X = X} P [] all = subst (AllByRecursion P) (sym (entries-empty {X = X} by_name)) tt
all_entries P (e ∷ es) all = all_inserted (from_entries es) e.0 e.1 P all.0 (all_entries P es all.1)

pub few_entries : {X : Type 0} (es : List (List ℕ × X)) → length (entries (from_entries {R = by_name} es)) ≤ length es
few_entries {X = X} [] = omega (arith, ap length (entries-empty {X = X} by_name))
few_entries (e ∷ es) = omega (arith, few_inserted (from_entries {R = by_name} es) e.0 e.1, few_entries es)
