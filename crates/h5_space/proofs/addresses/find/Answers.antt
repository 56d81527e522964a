use Rattle.std.proofs.Common.{◌≡◌, ℕ, ◌+◌, ◌<◌, ◌≤◌, List, length, get_or, drop, sym, ap, ◌∙◌, subst}
use Rattle.std.specs.List.{AllByRecursion}
use Rattle.std.specs.List.Sorted.{IsStrictlySortedBy}
use Rattle.std.specs.Map.{keys_of}
use Rattle.std.specs.Ordering.{nat_cmp}
use Rattle.h5_space.specs.Addresses.{BeginsAt}
use Rattle.h5_space.specs.declared.addresses.Run.{Run}
use Rattle.h5_space.proofs.AddressLaws.{sorted_from_ascends}
use Rattle.h5_space.proofs.RunLaws.{ascends, run_at_read, run_filled, run_ascends, above_all, above_back}
use Rattle.h5_space.proofs.addresses.find.Goals as goal
use Rattle.h5_space.proofs.addresses.find.Given.{Over}

pub returns-in_err-run-clause-none : goal.returns-in_err-run-clause-none
returns-in_err-run-clause-none g c = rw c.from_residual.ensures
    (above_all c.args.address c.args.runs.now c.requires.filled (ascends c.args.runs.now c.requires) (λ d some. c.in_err-run.ensures.none 0 d some))

module _ (g : Over) (c : goal.After-deref g) where
  abbrev run : Run g.row.V.Denot
  run = c.index-runs-run.result

  entries_are : c.deref.result.now ≡ run.entries.items
  entries_are = c.deref.ensures.value ∙ sym (ap (λ (x : Run g.row.V.Denot). x.entries.items) c.index-runs-run.is)

pub index_for-requires-clause-ascending : goal.index_for-requires-clause-ascending
index_for-requires-clause-ascending g c = subst (λ (es : List (ℕ × g.row.V.Denot)). IsStrictlySortedBy nat_cmp (keys_of es)) (sym (entries_are g c))
    (sorted_from_ascends (run g c).entries.items (run_ascends c.args.runs.now c.in_ok-run.run' (run g c) (ascends c.args.runs.now c.requires) c.in_ok-run.ensures.inside c.index-runs-run.is))

pub index_for-requires-clause-begins : goal.index_for-requires-clause-begins
index_for-requires-clause-begins g c = (
  (run g c).first,
  subst (λ (es : List (ℕ × g.row.V.Denot)). BeginsAt (run g c).first es) (sym (entries_are g c)) (run_filled c.args.runs.now c.in_ok-run.run' (run g c) c.requires.filled c.in_ok-run.ensures.inside c.index-runs-run.is),
  subst (λ (x : Run g.row.V.Denot). x.first ≤ c.args.address) (sym c.index-runs-run.is) (c.in_ok-run.ensures.low (run g c)),
)

pub returns-clause-found : goal.returns-clause-found
returns-clause-found g c =
    let same = sym (run_at_read c.args.runs.now c.in_ok-run.run' c.index-runs-run.result c.deref.result.now c.in_ok-run.ensures.inside c.index-runs-run.is c.deref.ensures.value) in
    record {
      there = c.in_ok-run.ensures.inside;
      inside = subst (λ (es : List (ℕ × g.row.V.Denot)). c.index_for.result < length es) same c.index_for.ensures.inside;
      low = λ d. subst (λ (es : List (ℕ × g.row.V.Denot)). (get_or es c.index_for.result d).0 ≤ c.args.address) same (c.index_for.ensures.low d);
      high = above_back c.args.address c.args.runs.now c.in_ok-run.run' (c.index_for.result + 1) c.requires.filled (ascends c.args.runs.now c.requires)
          (subst (λ (es : List (ℕ × g.row.V.Denot)). AllByRecursion (λ e. c.args.address < e.0) (drop (c.index_for.result + 1) es)) same c.index_for.ensures.high)
          (λ k d after low. c.in_ok-run.ensures.high k d after low);
    }
