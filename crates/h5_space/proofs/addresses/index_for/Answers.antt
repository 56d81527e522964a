use Rattle.std.proofs.Common.{◌≡◌, ℕ, ◌+◌, ◌-◌, ◌<◌, ◌≤◌, true, false, leb, inl, inr, List, [], ◌∷◌, length, get_or, drop, subst, arith, rules}
use Rattle.std.specs.List.{AllByRecursion}
use Rattle.std.specs.List.Sorted.{IsPartitionPoint}
use Rattle.std.proofs.lemmas.Bool.{cases_lt}
use Rattle.std.proofs.lemmas.Bool.Decides.{nat_tests}
use Rattle.std.proofs.lemmas.List.{get_or-drop, length-drop}
use Rattle.std.proofs.lemmas.List.Elements.{recursion_from_All}
use Rattle.std.proofs.lemmas.List.Sorted.{IsPartitionPoint-from_clause, IsPartitionedBy-leb}
use Rattle.h5_space.specs.Addresses.{BeginsAt}
use Rattle.h5_space.proofs.AddressLaws.{ascends_from_sorted, ascends_rise}
use Rattle.h5_space.proofs.addresses.index_for.Goals as goal
use Rattle.h5_space.proofs.addresses.index_for.Given.{Over}

-- the last of those at the address or before it
module _ {V : Type 0} (es : List (ℕ × V)) (address n : ℕ) (bound : n ≤ length es)
    (parted : IsPartitionPoint (λ (e : ℕ × V). leb e.0 address ≡ true) (λ e. leb e.0 address ≡ false) es n) where
  before : (k : ℕ) (d : ℕ × V) → k < n → (get_or es k d).0 ≤ address
  before k d low = let t = parted.0 k d (omega arith) low in grind (arith, nat_tests)

  behind : (k : ℕ) (d : ℕ × V) → n ≤ k → k < length es → address < (get_or es k d).0
  behind k d high low = let t = parted.1 k d high low in grind (arith, nat_tests)

  above : AllByRecursion (λ e. address < e.0) (drop n es)
  above = recursion_from_All (λ e. address < e.0) (drop n es) (λ i d low. rw (get_or-drop n es i d) (behind (n + i) d (omega arith) (omega (arith, length-drop n es, low))))

-- there is one
some : {V : Type 0} (es : List (ℕ × V)) (address n : ℕ) → ((k : ℕ) (d : ℕ × V) → n ≤ k → k < length es → address < (get_or es k d).0)
    → (first : ℕ) → BeginsAt first es → first ≤ address → 1 ≤ n
some [] address n behind first begins le = absurd begins
some (e ∷ es) address n behind first begins le = elim (cases_lt 0 n) [ inl is ↦ omega (arith, is) | inr not ↦ absurd (let low = behind 0 e not (omega arith) in omega (arith, low, begins, le)) ]

parted : (g : Over) (c : goal.After-partition_point g) → IsPartitionPoint (λ (e : ℕ × g.row.V.Denot). leb e.0 c.args.address ≡ true) (λ e. leb e.0 c.args.address ≡ false) c.args.entries.now c.partition_point.result
parted g c = IsPartitionPoint-from_clause (λ (e : ℕ × g.row.V.Denot). leb e.0 c.args.address) _ _ c.partition_point.ensures.partitioned
    (IsPartitionedBy-leb (λ (e : ℕ × g.row.V.Denot). e.0) c.args.entries.now c.args.address (ascends_rise c.args.entries.now (ascends_from_sorted c.args.entries.now c.requires.ascending))) (λ a r f called. search rules)

one : (g : Over) (c : goal.After-partition_point g) → 1 ≤ c.partition_point.result
one g c = some c.args.entries.now c.args.address c.partition_point.result (behind c.args.entries.now c.args.address c.partition_point.result c.partition_point.ensures.bound (parted g c))
    c.requires.begins.0 c.requires.begins.1 c.requires.begins.2

pub overflow_sub-result : goal.overflow_sub-result
overflow_sub-result g c = one g c

pub returns-clause-low : goal.returns-clause-low
returns-clause-low g c d = before c.args.entries.now c.args.address c.partition_point.result c.partition_point.ensures.bound (parted g c) (c.partition_point.result - 1) d (omega (arith, one g c))

pub returns-clause-high : goal.returns-clause-high
returns-clause-high g c = subst (λ (n : ℕ). AllByRecursion (λ e. c.args.address < e.0) (drop n c.args.entries.now)) (omega (arith, one g c))
    (above c.args.entries.now c.args.address c.partition_point.result c.partition_point.ensures.bound (parted g c))
