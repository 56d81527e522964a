use Rattle.std.proofs.Common.{◌≡◌, ℕ, ◌+◌, ◌-◌, ◌<◌, length, sym, ap, ◌∙◌, subst, arith, rules}
use Rattle.h5_shape.specs.declared.runs.CellRun.{CellRun}
use Rattle.h5_layout.specs.Pieces.{CellsLeft, IsPieceTaken}
use Rattle.h5_layout.specs.Runs.{AreRunsBelow, cells_left, places_left}
use Rattle.h5_layout.proofs.PieceLaws.{below_behind, fewer, taken}
use Rattle.h5_layout.proofs.pieces.RunsIterator.next.Goals as goal

pub piece-cells-requires-clause-some : goal.piece-cells-requires-clause-some
piece-cells-requires-clause-some c = (c.in_ok-run.ensures.below (length c.self.inside.cells.values) c.self.invariant).0

pub piece-cells-requires-clause-below : goal.piece-cells-requires-clause-below
piece-cells-requires-clause-below c = (c.in_ok-run.ensures.below (length c.self.inside.cells.values) c.self.invariant).1.first

pub overflow_add-self : goal.overflow_add-self
overflow_add-self c =
    let below = (c.in_ok-run.ensures.below (length c.self.inside.cells.values) c.self.invariant).1 in
    omega (arith, below.first, c.piece-cells.ensures.piece.few, c.piece-cells.ensures.small)

pub invariant_of-self-2 : goal.invariant_of-self-2
invariant_of-self-2 c =
    let all : CellsLeft = c.self.inside.cells in
    let run : CellRun = c.in_ok-run.run' in
    let left : CellRun = record { place = run.place + c.piece-cells.result.1; length = run.length - c.piece-cells.result.1 } in
    subst (λ (x : CellsLeft). AreRunsBelow (length x.values) left c.run_under_way.new.runs) (sym c.piece-cells.ensures.same)
    (below_behind all run c.run_under_way.new.runs c.piece-cells.result.0 c.piece-cells.result.1 c.piece-cells.ensures.piece (length all.values)
    (c.in_ok-run.ensures.below (length all.values) c.self.invariant).1)

pub returns-clause-steps : goal.returns-clause-steps
returns-clause-steps c =
    let all : CellsLeft = c.self.inside.cells in
    let run : CellRun = c.in_ok-run.run' in
    let runs = c.run_under_way.new.runs in
    let piece = c.piece-cells.result.0 in
    let k : ℕ = c.piece-cells.result.1 in
    let left : CellRun = record { place = run.place + k; length = run.length - k } in
    let before : cells_left all (places_left run runs) ≡ c.args.self.now = ap (cells_left all) (sym c.in_ok-run.ensures.step) ∙ c.self.view_is in
    subst (λ (x : CellsLeft). IsPieceTaken c.args.self.now piece (cells_left x (places_left left runs))) (sym c.piece-cells.ensures.same)
    (subst (λ (b : CellsLeft). IsPieceTaken b piece (cells_left all (places_left left runs))) before (taken all run runs piece k c.piece-cells.ensures.piece))

pub returns-clause-goes : goal.returns-clause-goes
returns-clause-goes c =
    let all : CellsLeft = c.self.inside.cells in
    let run : CellRun = c.in_ok-run.run' in
    let runs = c.run_under_way.new.runs in
    let piece = c.piece-cells.result.0 in
    let k : ℕ = c.piece-cells.result.1 in
    let behind : CellRun = record { place = run.place + k; length = run.length - k } in
    let before : cells_left all (places_left run runs) ≡ c.args.self.now = ap (cells_left all) (sym c.in_ok-run.ensures.step) ∙ c.self.view_is in
    let long = ap (λ (b : CellsLeft). length b.values) before in
    let same = ap (λ (x : CellsLeft). length (cells_left x (places_left behind runs)).values) c.piece-cells.ensures.same in
    let left : ℕ = length (cells_left c.piece-cells.new.self (places_left behind runs)).values in
    let less : left < length c.args.self.now.values = omega (arith, same, long, fewer all run runs piece k c.piece-cells.ensures.piece, c.piece-cells.ensures.piece.some) in
    search rules
