use Rattle.std.proofs.Common.{◌≡◌, ℕ, ◌+◌, ◌<◌, ◌++◌, List, [], length, get_or, take, drop, sym, ap, ◌∙◌, subst, arith}
use Rattle.std.proofs.lemmas.Bool.Decides.{nat_tests}
use Rattle.std.proofs.lemmas.List.{get_or_read, nil_from_length}
use Rattle.h5_space.specs.Addresses.{run_at}
use Rattle.h5_space.specs.declared.addresses.Run.{Run}
use Rattle.h5_space.proofs.RunLaws.{run_at_is}
use Rattle.h5_space.proofs.RunEdits.{begins_at, entries_cut, are_cut, entries_cut_out, are_cut_out}
use Rattle.h5_space.proofs.addresses.take_entry.Goals as goal
use Rattle.h5_space.proofs.addresses.take_entry.Given.{Over}

pub remove-value-requires : goal.remove-value-requires
remove-value-requires g c =
    let x : Run g.row.V.Denot = c.index_mut-giver.result.now in
    let inside : c.args.index < length x.entries.items = subst (λ (es : List (ℕ × g.row.V.Denot)). c.args.index < length es)
    (run_at_is c.args.runs.now.items c.args.run x c.requires.there c.index_mut-giver.ensures.value) c.requires.inside in
    let ok = x.entries.ok.0 in
    omega (arith, inside, ok)

module _ (g : Over) (runs : List (Run g.row.V.Denot)) (r i : ℕ) (x : Run g.row.V.Denot) (low : r < length runs) (is : x ≡ get_or runs r x) where
  read : (e : ℕ × g.row.V.Denot) → e ≡ get_or x.entries.items i e → e ≡ get_or (run_at runs r) i e
  read e was = was ∙ ap (λ (es : List (ℕ × g.row.V.Denot)). get_or es i e) (sym (run_at_is runs r x low is))

  left : (es : List (ℕ × g.row.V.Denot)) → es ≡ take i x.entries.items ++ drop (i + 1) x.entries.items → es ≡ take i (run_at runs r) ++ drop (i + 1) (run_at runs r)
  left es was = was ∙ ap (λ (fs : List (ℕ × g.row.V.Denot)). take i fs ++ drop (i + 1) fs) (sym (run_at_is runs r x low is))

-- ---- the last entry of its run

module _ (g : Over) (c : goal.After-drop-remove g) where
  none : c.remove-value.new.self.items ≡ []
  none = nil_from_length c.remove-value.new.self.items (let ok = c.remove-value.new.self.ok.0 in grind (arith, nat_tests, ok, c.is_empty.ensures, c.if-is_empty.true))

  gone : (e : ℕ × g.row.V.Denot) → e ≡ get_or c.index_mut-giver.result.now.entries.items c.args.index e → e ≡ get_or (run_at c.args.runs.now.items c.args.run) c.args.index e
  gone = read g c.args.runs.now.items c.args.run c.args.index c.index_mut-giver.result.now c.requires.there c.index_mut-giver.ensures.value

  rest : c.remove-value.new.self.items ≡ take c.args.index (run_at c.args.runs.now.items c.args.run) ++ drop (c.args.index + 1) (run_at c.args.runs.now.items c.args.run)
  rest = left g c.args.runs.now.items c.args.run c.args.index c.index_mut-giver.result.now c.requires.there c.index_mut-giver.ensures.value c.remove-value.new.self.items c.remove-value.ensures.by_index.2

pub returns-then-is_empty-clause-value : goal.returns-then-is_empty-clause-value
returns-then-is_empty-clause-value g c d = ap (λ (e : ℕ × g.row.V.Denot). e.1) (get_or_read (run_at c.args.runs.now.items c.args.run) c.args.index c.remove-value.result c.requires.inside (gone g c c.remove-value.result c.remove-value.ensures.value) d)

pub returns-then-is_empty-clause-entries : goal.returns-then-is_empty-clause-entries
returns-then-is_empty-clause-entries g c = entries_cut_out c.args.runs.now.items c.args.run c.args.index c.remove-value.result _ c.requires.runs c.requires.there c.requires.inside
    (gone g c c.remove-value.result c.remove-value.ensures.value) (rest g c) (none g c) c.remove.new.self.items c.remove.ensures.by_index.2

pub returns-then-is_empty-clause-runs : goal.returns-then-is_empty-clause-runs
returns-then-is_empty-clause-runs g c = are_cut_out c.args.runs.now.items c.args.run c.args.index c.remove-value.result _ c.requires.runs c.requires.there c.requires.inside
    (gone g c c.remove-value.result c.remove-value.ensures.value) (rest g c) (none g c) c.remove.new.self.items c.remove.ensures.by_index.2

-- ---- another one

module _ (g : Over) (c : goal.After-runs-else-is_empty-1 g) where
  some : 0 < length c.remove-value.new.self.items
  some = let ok = c.remove-value.new.self.ok.0 in grind (arith, nat_tests, ok, c.is_empty.ensures, c.if-is_empty.false)

  taken : (e : ℕ × g.row.V.Denot) → e ≡ get_or c.index_mut-giver.result.now.entries.items c.args.index e → e ≡ get_or (run_at c.args.runs.now.items c.args.run) c.args.index e
  taken = read g c.args.runs.now.items c.args.run c.args.index c.index_mut-giver.result.now c.requires.there c.index_mut-giver.ensures.value

  others : c.remove-value.new.self.items ≡ take c.args.index (run_at c.args.runs.now.items c.args.run) ++ drop (c.args.index + 1) (run_at c.args.runs.now.items c.args.run)
  others = left g c.args.runs.now.items c.args.run c.args.index c.index_mut-giver.result.now c.requires.there c.index_mut-giver.ensures.value c.remove-value.new.self.items c.remove-value.ensures.by_index.2

pub returns-else-is_empty-clause-value : goal.returns-else-is_empty-clause-value
returns-else-is_empty-clause-value g c d = ap (λ (e : ℕ × g.row.V.Denot). e.1) (get_or_read (run_at c.args.runs.now.items c.args.run) c.args.index c.remove-value.result c.requires.inside (taken g c c.remove-value.result c.remove-value.ensures.value) d)

pub returns-else-is_empty-clause-entries : goal.returns-else-is_empty-clause-entries
returns-else-is_empty-clause-entries g c = entries_cut c.args.runs.now.items c.args.run c.args.index c.remove-value.result _ c.requires.runs c.requires.there c.requires.inside
    (taken g c c.remove-value.result c.remove-value.ensures.value) (others g c)

pub returns-else-is_empty-clause-runs : goal.returns-else-is_empty-clause-runs
returns-else-is_empty-clause-runs g c = are_cut c.args.runs.now.items c.args.run c.args.index c.remove-value.result _ c.requires.runs c.requires.there c.requires.inside
    (taken g c c.remove-value.result c.remove-value.ensures.value) (others g c) (begins_at c.remove-value.new.self.items c.index.result.now (some g c) c.index.ensures)
