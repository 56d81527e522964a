use Rattle.std.proofs.Common.{◌≡◌, ℕ, suc, ◌+◌, ◌-◌, ◌<◌, List, length, get_or, set, take, drop, sym, ap, ◌∙◌, subst, add-one, arith}
use Rattle.std.specs.List.{insert}
use Rattle.std.proofs.lemmas.List.{length-take-le, length-drop}
use Rattle.std.proofs.lemmas.List.Edits.{get_or-insert_below}
use Rattle.h5_space.specs.Addresses.{AreRuns, BeginsAt, run_entries, run_at, front}
use Rattle.h5_space.specs.declared.addresses.Run.{Run}
use Rattle.h5_space.proofs.RunLaws.{run_at_is, run_filled}
use Rattle.h5_space.proofs.RunEdits.{halved, entries_halved, are_halved, front_low, front_high, run_head, run_tail, begins_take}
use Rattle.h5_space.proofs.addresses.split.Goals as goal
use Rattle.h5_space.proofs.addresses.split.Given.{Over}

pub second_half-requires : goal.second_half-requires
second_half-requires g c = subst (λ (es : List (ℕ × g.row.V.Denot)). 128 < length es)
    (run_at_is c.args.runs.now.items c.args.run c.index.result.now c.requires.there c.index.ensures ∙ sym c.deref.ensures.value) c.requires.long

module _ (g : Over) (c : goal.After-runs-1 g) where
  abbrev runs : List (Run g.row.V.Denot)
  runs = c.args.runs.now.items

  abbrev x : Run g.row.V.Denot
  x = c.index_mut.result.now

  abbrev head : Run g.row.V.Denot
  head = record { first = x.first; entries = c.truncate.new.self }

  inserted : c.shift_in.new.items.items ≡ insert runs (suc c.args.run) c.in_ok-rest.rest
  inserted = c.in_ok-shift_in.ensures.put ∙ ap (λ k. insert runs k c.in_ok-rest.rest) (add-one c.args.run)

  is : x ≡ get_or runs c.args.run x
  is = c.index_mut.ensures.value ∙ ap (λ (rs : List (Run g.row.V.Denot)). get_or rs c.args.run x) inserted
      ∙ get_or-insert_below runs (suc c.args.run) c.in_ok-rest.rest x c.args.run (omega arith) (omega (arith, c.requires.there))

  new_is : set c.shift_in.new.items.items c.args.run head ≡ halved runs c.args.run head c.in_ok-rest.rest
  new_is = ap (λ (rs : List (Run g.row.V.Denot)). set rs c.args.run head) inserted

  first : head.entries.items ≡ take 128 (run_at runs c.args.run)
  first = c.truncate.ensures.items ∙ ap (λ (es : List (ℕ × g.row.V.Denot)). take 128 es) (sym (run_at_is runs c.args.run x c.requires.there is))

  second : c.in_ok-rest.rest.entries.items ≡ drop 128 (run_at runs c.args.run)
  second = c.in_ok-rest.ensures.entries ∙ ap (λ (es : List (ℕ × g.row.V.Denot)). drop 128 es)
      (c.deref.ensures.value ∙ sym (run_at_is runs c.args.run c.index.result.now c.requires.there c.index.ensures))

  begins : BeginsAt head.first head.entries.items
  begins = subst (λ (es : List (ℕ × g.row.V.Denot)). BeginsAt x.first es) (sym c.truncate.ensures.items) (begins_take x.first x.entries.items 127 (run_filled runs c.args.run x c.requires.runs.filled c.requires.there is))

pub returns-clause-entries : goal.returns-clause-entries
returns-clause-entries g c = ap (λ (rs : List (Run g.row.V.Denot)). run_entries rs) (new_is g c)
    ∙ entries_halved (runs g c) c.args.run 128 (head g c) c.in_ok-rest.rest c.requires.there (first g c) (second g c)

pub returns-clause-runs : goal.returns-clause-runs
returns-clause-runs g c = subst (λ (rs : List (Run g.row.V.Denot)). AreRuns rs) (sym (new_is g c))
    (are_halved (runs g c) c.args.run 128 (head g c) c.in_ok-rest.rest c.requires.there (first g c) (second g c) c.requires.runs (begins g c) c.in_ok-rest.ensures.first)

pub returns-clause-half : goal.returns-clause-half
returns-clause-half g c = ap (λ (rs : List (Run g.row.V.Denot)). length (run_at rs c.args.run)) (new_is g c) ∙ ap (λ (es : List (ℕ × g.row.V.Denot)). length es) (run_head (runs g c) c.args.run (head g c) c.in_ok-rest.rest c.requires.there ∙ first g c)
    ∙ length-take-le 128 (run_at (runs g c) c.args.run) (omega (arith, c.requires.long))

pub returns-clause-rest : goal.returns-clause-rest
returns-clause-rest g c =
    let tail = ap (λ (rs : List (Run g.row.V.Denot)). length (run_at rs (c.args.run + 1))) (new_is g c) ∙ ap (λ k. length (run_at (halved (runs g c) c.args.run (head g c) c.in_ok-rest.rest) k)) (add-one c.args.run)
    ∙ ap (λ (es : List (ℕ × g.row.V.Denot)). length es) (run_tail (runs g c) c.args.run (head g c) c.in_ok-rest.rest c.requires.there ∙ second g c) in
    omega (arith, tail, length-drop 128 (run_at (runs g c) c.args.run), c.requires.long)

pub returns-clause-low : goal.returns-clause-low
returns-clause-low g c i le = ap (λ (rs : List (Run g.row.V.Denot)). front rs c.args.run i) (new_is g c) ∙ front_low (runs g c) c.args.run 128 i (head g c) c.in_ok-rest.rest c.requires.there (first g c) le

pub returns-clause-high : goal.returns-clause-high
returns-clause-high g c i le =
    let sum : 128 + (i - 128) ≡ i = omega (arith, le) in
    ap (λ (rs : List (Run g.row.V.Denot)). front rs (c.args.run + 1) (i - 128)) (new_is g c) ∙ ap (λ k. front (halved (runs g c) c.args.run (head g c) c.in_ok-rest.rest) k (i - 128)) (add-one c.args.run)
    ∙ front_high (runs g c) c.args.run 128 (i - 128) (head g c) c.in_ok-rest.rest c.requires.there (first g c) (second g c) ∙ ap (λ k. front (runs g c) c.args.run k) sum
