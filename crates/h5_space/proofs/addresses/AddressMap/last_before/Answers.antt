use Rattle.std.proofs.Common.{◌≡◌, ℕ, ◌≤◌, Some, IsSome, arith}
use Rattle.std.specs.BTreeMap.{get}
use Rattle.std.specs.Ordering.{nat_cmp}
use Rattle.h5_space.proofs.RunLaws.{got_last, none_last}
use Rattle.h5_space.proofs.addresses.AddressMap.last_before.Goals as goal
use Rattle.h5_space.proofs.addresses.AddressMap.last_before.Given.{Over}

pub returns-in_err-run-clause-none : goal.returns-in_err-run-clause-none
returns-in_err-run-clause-none g c = rw c.from_residual-in_err-run.ensures (λ q low. none_last c.self.inside.runs.items c.deref.result.now c.args.self.now c.deref.ensures.value c.self.view_is c.in_ok-checked_sub.field-0 q
    c.in_err-run.ensures.none (omega (arith, low, c.in_ok-checked_sub.ensures.0, c.in_ok-checked_sub.ensures.1)))

last : (g : Over) (c : goal.After-entry_at g) → (c.entry_at.result.0 ≤ c.in_ok-checked_sub.field-0) × (get nat_cmp c.args.self.now c.entry_at.result.0 ≡ Some c.entry_at.result.1)
    × ((q : ℕ) → q ≤ c.in_ok-checked_sub.field-0 → IsSome (get nat_cmp c.args.self.now q) → q ≤ c.entry_at.result.0)
last g c = got_last c.self.inside.runs.items c.deref.result.now c.args.self.now c.deref.ensures.value c.self.view_is c.deref-2.result.now c.deref-2.ensures.value
    c.in_ok-checked_sub.field-0 c.in_ok-run.run' c.in_ok-run.index c.entry_at.result c.self.invariant c.in_ok-run.ensures.found c.entry_at.ensures

pub returns-clause-found : goal.returns-clause-found
returns-clause-found g c = (omega (arith, (last g c).0, c.in_ok-checked_sub.ensures.0, c.in_ok-checked_sub.ensures.1), (last g c).1)

pub returns-clause-last : goal.returns-clause-last
returns-clause-last g c q low some = (last g c).2 q (omega (arith, low, c.in_ok-checked_sub.ensures.0, c.in_ok-checked_sub.ensures.1)) some
