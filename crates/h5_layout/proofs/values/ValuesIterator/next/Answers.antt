use Rattle.std.proofs.Common.{rules, ◌≡◌, ◌<◌, ◌∷◌, ◌++◌, ℤ, List, length, to_z, of_z, sym, ap, ◌∙◌, arith}
use mir.Syntax.{w128}
use Rattle.h5_layout.specs.Values.{value_in_part, values_behind, values_left}
use Rattle.h5_layout.proofs.ValueSteps.{behind, first_of}
use Rattle.h5_layout.proofs.values.ValuesIterator.next.Goals as goal
use Rattle.h5_layout.proofs.values.ValuesIterator.next.Goals.{After-first_value}

-- the first of what is left, and what is left behind it
step : (c : After-first_value)
    → c.args.self.now ≡ to_z w128 (of_z w128 c.first_value.result) ∷ values_left c.self.inside.fixed c.self.inside.fill (behind c.self.inside.fixed c.self.inside.fill c.in_ok-part.part) c.part_under_way.new.pieces
step c =
    let s = c.self.inside in
    let part = c.in_ok-part.part in
    let pieces = c.part_under_way.new.pieces in
    let exact : to_z w128 (of_z w128 c.first_value.result) ≡ c.first_value.result = search rules in
    let filled : to_z w128 (of_z w128 s.fill) ≡ s.fill = search rules in
    sym c.self.view_is ∙ c.in_ok-part.ensures.step s.fill c.self.invariant.1
    ∙ ap (λ (vs : List ℤ). vs ++ values_behind pieces) (first_of s.fixed s.fill part c.in_ok-part.ensures.part.0)
    ∙ ap (λ (v : ℤ). v ∷ values_left s.fixed s.fill (behind s.fixed s.fill part) pieces) (sym (exact ∙ c.first_value.ensures ∙ ap (λ (v : ℤ). value_in_part s.fixed v part part.place) filled))

pub returns-clause-steps : goal.returns-clause-steps
returns-clause-steps c = step (goal.at.returns-clause-steps c).After-first_value

pub returns-clause-goes : goal.returns-clause-goes
returns-clause-goes c =
    let b = (goal.at.returns-clause-goes c).After-first_value in
    let s = c.self.inside in
    let long = ap length (step b) in
    let less : length (values_left s.fixed s.fill (behind s.fixed s.fill c.in_ok-part.part) c.part_under_way.new.pieces) < length c.args.self.now = omega (arith, long) in
    search rules
