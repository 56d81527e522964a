use Rattle.std.proofs.Common.{◌≡◌, ℕ, ◌++◌, ◌∷◌, List, [], refl, sym, ap, ◌∙◌, subst}
use Rattle.h5_space.specs.Addresses.{AreRuns, run_entries}
use Rattle.h5_space.specs.declared.addresses.Run.{Run}
use Rattle.h5_space.proofs.RunEdits.{entries_more, are_more}
use Rattle.h5_space.proofs.addresses.begin.Goals as goal
use Rattle.h5_space.proofs.addresses.begin.Given.{Over}

one : (g : Over) (c : goal.In_ok-push g) → c.push_reserved.new.self.items ≡ c.args.entry ∷ []
one g c = c.push_reserved.ensures.items ∙ ap (λ (es : List (ℕ × g.row.V.Denot)). es ++ c.args.entry ∷ []) c.in_ok-entries.ensures.items

pub returns-clause-put : goal.returns-clause-put
returns-clause-put g c = ap (λ (rs : List (Run g.row.V.Denot)). run_entries rs) c.in_ok-push.ensures.items ∙ entries_more c.args.runs.now.items _ ∙ ap (λ (es : List (ℕ × g.row.V.Denot)). run_entries c.args.runs.now.items ++ es) (one g c)

pub returns-clause-runs : goal.returns-clause-runs
returns-clause-runs g c = subst (λ (rs : List (Run g.row.V.Denot)). AreRuns rs) (sym c.in_ok-push.ensures.items) (are_more c.args.runs.now.items _ c.args.entry c.requires.runs refl (one g c) c.requires.behind)
