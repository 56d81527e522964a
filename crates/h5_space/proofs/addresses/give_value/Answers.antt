use Rattle.std.proofs.Common.{◌≡◌, ℕ, ◌<◌, List, length, get_or, set, sym, ap, ◌∙◌, subst, arith}
use Rattle.std.proofs.lemmas.List.{get_or_read}
use Rattle.h5_space.specs.Addresses.{run_at}
use Rattle.h5_space.specs.declared.addresses.Run.{Run}
use Rattle.h5_space.proofs.RunLaws.{run_at_is, run_filled}
use Rattle.h5_space.proofs.RunEdits.{begins_set, entries_written, are_written}
use Rattle.h5_space.proofs.addresses.give_value.Goals as goal
use Rattle.h5_space.proofs.addresses.give_value.Given.{Over}

pub index_mut-requires-2 : goal.index_mut-requires-2
index_mut-requires-2 g c =
    let here = run_at_is c.args.runs.now.items c.args.run c.index_mut.result.now c.requires.there c.index_mut.ensures.value in
    let inside : c.args.index < length c.index_mut.result.now.entries.items = subst (λ (es : List (ℕ × g.row.V.Denot)). c.args.index < length es) here c.requires.inside in
    let ok = c.index_mut.result.now.entries.ok.0 in
    omega (arith, inside, ok)

module _ (g : Over) (c : goal.After-runs-1 g) where
  abbrev x : Run g.row.V.Denot
  x = c.index_mut.result.now

  abbrev e : ℕ × g.row.V.Denot
  e = c.index_mut-2.result.now

  here : run_at c.args.runs.now.items c.args.run ≡ x.entries.items
  here = run_at_is c.args.runs.now.items c.args.run x c.requires.there c.index_mut.ensures.value

  is : e ≡ get_or (run_at c.args.runs.now.items c.args.run) c.args.index e
  is = c.index_mut-2.ensures.value ∙ ap (λ (es : List (ℕ × g.row.V.Denot)). get_or es c.args.index e) (sym here)

  items : set x.entries.items c.args.index (e.0, c.args.value) ≡ set (run_at c.args.runs.now.items c.args.run) c.args.index (e.0, c.args.value)
  items = ap (λ (es : List (ℕ × g.row.V.Denot)). set es c.args.index (e.0, c.args.value)) (sym here)

pub returns-clause-entries : goal.returns-clause-entries
returns-clause-entries g c f same =
    let address : (e g c).0 ≡ f.0 = ap (λ (x : ℕ × g.row.V.Denot). x.0) (get_or_read (run_at c.args.runs.now.items c.args.run) c.args.index (e g c) c.requires.inside (is g c) f ∙ sym same) in
    rw (← address) (entries_written c.args.runs.now.items c.args.run c.args.index (e g c) c.args.value _ c.requires.runs c.requires.there c.requires.inside (is g c) (items g c))

pub returns-clause-runs : goal.returns-clause-runs
returns-clause-runs g c = are_written c.args.runs.now.items c.args.run c.args.index (e g c) c.args.value _ c.requires.runs c.requires.there c.requires.inside (is g c) (items g c)
    (begins_set (x g c).first (x g c).entries.items c.args.index (e g c) c.args.value (run_filled c.args.runs.now.items c.args.run (x g c) c.requires.runs.filled c.requires.there c.index_mut.ensures.value) c.index_mut-2.ensures.value)
