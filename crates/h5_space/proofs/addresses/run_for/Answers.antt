use Rattle.std.proofs.Common.{◌≡◌, ℕ, ◌-◌, ◌<◌, ◌≤◌, true, false, leb, Option, Some, None, inl, inr, IfSome, IfNone, List, length, get_or, arith, rules}
use Rattle.std.proofs.lemmas.List.Sorted.{IsPartitionPoint-from_clause, IsPartitionedBy-leb}
use Rattle.std.proofs.lemmas.Bool.{cases_lt}
use Rattle.std.proofs.lemmas.Bool.Decides.{nat_tests}
use Rattle.std.specs.List.Sorted.{IsPartitionPoint}
use Rattle.std.specs.Option.{SomeIff}
use Rattle.h5_space.specs.declared.addresses.Run.{Run}
use Rattle.h5_space.proofs.RunLaws.{ascends, firsts_rise}
use Rattle.h5_space.proofs.addresses.run_for.Goals as goal
use Rattle.h5_space.proofs.addresses.run_for.Given.{Over}

-- the last of those that begin at the address or before it
module _ {V : Type 0} (runs : List (Run V)) (address n : ℕ) (bound : n ≤ length runs)
    (parted : IsPartitionPoint (λ (run : Run V). leb run.first address ≡ true) (λ run. leb run.first address ≡ false) runs n) where
  before : (k : ℕ) (d : Run V) → k < n → (get_or runs k d).first ≤ address
  before k d low = let t = parted.0 k d (omega arith) low in grind (arith, nat_tests)

  behind : (k : ℕ) (d : Run V) → n ≤ k → k < length runs → address < (get_or runs k d).first
  behind k d high low = let t = parted.1 k d high low in grind (arith, nat_tests)

  low : (o : Option ℕ) → SomeIff o (1 ≤ n) (n - 1) → IfSome o (λ r. (d : Run V) → (get_or runs r d).first ≤ address)
  low None is = tt
  low (Some r) is = λ d. before r d (omega (arith, is.0, is.1))

  high : (o : Option ℕ) → SomeIff o (1 ≤ n) (n - 1) → IfSome o (λ r. (k : ℕ) (d : Run V) → r < k → k < length runs → address < (get_or runs k d).first)
  high None is = tt
  high (Some r) is = λ k d after inside. behind k d (omega (arith, is.0, is.1, after)) inside

  none : (o : Option ℕ) → SomeIff o (1 ≤ n) (n - 1) → IfNone o ((k : ℕ) (d : Run V) → k < length runs → address < (get_or runs k d).first)
  none None is = λ k d inside. behind k d (elim (cases_lt 0 n) [ inl some ↦ absurd (is (omega (arith, some))) | inr few ↦ omega (arith, few) ]) inside
  none (Some r) is = tt

parted : (g : Over) (c : goal.After-checked_sub-2 g) → IsPartitionPoint (λ (run : Run g.row.V.Denot). leb run.first c.args.address ≡ true) (λ run. leb run.first c.args.address ≡ false) c.args.runs.now c.partition_point.result
parted g c = IsPartitionPoint-from_clause (λ (run : Run g.row.V.Denot). leb run.first c.args.address) _ _ c.partition_point.ensures.partitioned
    (IsPartitionedBy-leb (λ (run : Run g.row.V.Denot). run.first) c.args.runs.now c.args.address (firsts_rise c.args.runs.now c.requires.filled (ascends c.args.runs.now c.requires))) (λ a r f called. search rules)

pub returns-clause-low : goal.returns-clause-low
returns-clause-low g c = low c.args.runs.now c.args.address c.partition_point.result c.partition_point.ensures.bound (parted g c) c.checked_sub-2.result c.checked_sub-2.ensures

pub returns-clause-high : goal.returns-clause-high
returns-clause-high g c = high c.args.runs.now c.args.address c.partition_point.result c.partition_point.ensures.bound (parted g c) c.checked_sub-2.result c.checked_sub-2.ensures

pub returns-clause-none : goal.returns-clause-none
returns-clause-none g c = none c.args.runs.now c.args.address c.partition_point.result c.partition_point.ensures.bound (parted g c) c.checked_sub-2.result c.checked_sub-2.ensures
