use Rattle.std.proofs.Common.{◌≡◌, ℕ, ◌+◌, ◌*◌, ◌≤◌, List, length, refl, sym, ap, ◌∙◌, subst, arith}
use Rattle.h5_model.specs.Format.Fixed.{Fixed}
use Rattle.h5_model.specs.Tree.Objects.{Dataset}
use Rattle.h5_model.specs.Tree.Places.{cells}
use Rattle.h5_model.specs.Views.Selection.{axes_of}
use Rattle.h5_msg.proofs.ValueBytes.{AreBytes}
use Rattle.h5_shape.specs.OneRun.{IsOneRun}
use Rattle.h5_layout.specs.Pieces.{CellsLeft}
use Rattle.h5_layout.specs.Runs.{HasBytes, IsPieceAt}
use Rattle.h5_layout.specs.declared.pieces.Piece.{Piece}
use Rattle.h5_layout.specs.Runs.{AreCellBytes}
use Rattle.h5_layout.proofs.LentLaws.{run_room}
use Rattle.h5_layout.proofs.StandingSelected.{standing_below, standing_line, standing_selected}
use Rattle.h5_layout.proofs.stored.StoredArray.standing.Goals as goal
use Rattle.h5_layout.proofs.stored.StoredArray.standing.Goals.{After-line, After-fixed}

-- the run is one of the selected cells of the array
one : (c : After-line) → IsOneRun c.args.self.now.sizes c.args.hyper.now c.in_ok-run.run'
one c = subst (λ (sizes : List ℕ). IsOneRun sizes c.args.hyper.now c.in_ok-run.run') (c.dims.ensures.sizes ∙ c.array.ensures.sizes) c.in_ok-run.ensures.run

-- so it is where all cells of the array stand one behind another
in_line : (c : After-fixed) → IsOneRun c.args.self.now.sizes c.args.hyper.now c.in_ok-run.run'
in_line c = subst (λ (sizes : List ℕ). IsOneRun sizes c.args.hyper.now c.in_ok-run.run') (c.dims.ensures.sizes ∙ c.array.ensures.sizes) c.in_ok-run.ensures.run

type-is : (c : After-fixed) → c.fixed.result ≡ c.args.self.now.fixed
type-is c = c.fixed.ensures ∙ ap (λ (d : Dataset). d.fixed) c.self.view_is

pub run_bytes-requires : goal.run_bytes-requires
run_bytes-requires c =
    let b = (goal.at.run_bytes-requires c).After-fixed in
    let run = c.in_ok-run.run' in
    subst (λ (t : Fixed). (run.place + run.length) * t.size ≤ length c.in-Some.bytes.now) (sym (type-is b))
    (run_room c.args.self.now (axes_of c.args.hyper.now) run (in_line b).runs c.in-Some.bytes.now c.in-Some.ensures)

pub returns-in-Some-clause-bytes : goal.returns-in-Some-clause-bytes
returns-in-Some-clause-bytes c =
    let b = (goal.at.returns-in-Some-clause-bytes c).After-fixed in
    let run = c.in_ok-run.run' in
    standing_line c.args.self.now c.args.hyper.now run (in_line b) c.array.ensures.sound.fixed c.in-Some.bytes.now c.run_bytes.result.now c.in-Some.ensures
    (subst (λ (t : Fixed). AreCellBytes t c.in-Some.bytes.now run.place run.length c.run_bytes.result.now) (type-is b) c.run_bytes.ensures.cells) c.run_bytes.ensures.bytes

pub one_run-requires : goal.one_run-requires
one_run-requires c = record { small = let few = c.array.ensures.sound.few in let same = ap cells (c.dims.ensures.sizes ∙ c.array.ensures.sizes) in omega (arith, few, same) }

pub piece-cells-requires-clause-some : goal.piece-cells-requires-clause-some
piece-cells-requires-clause-some c = (standing_below c.args.self.now c.args.hyper.now c.in_ok-run.run' (one (goal.at.piece-cells-requires-clause-some c).After-line)).0

pub piece-cells-requires-clause-below : goal.piece-cells-requires-clause-below
piece-cells-requires-clause-below c =
    let counted : length c.args.self.now.cells ≡ cells c.args.self.now.sizes = c.array.ensures.sound.counted in
    omega (arith, counted, (standing_below c.args.self.now c.args.hyper.now c.in_ok-run.run' (one (goal.at.piece-cells-requires-clause-below c).After-line)).1)

pub returns-in-Bytes-clause-bytes : goal.returns-in-Bytes-clause-bytes
returns-in-Bytes-clause-bytes c =
    let run = c.in_ok-run.run' in
    let all : CellsLeft = record { fixed = c.args.self.now.fixed; fill = c.args.self.now.fill; values = c.args.self.now.cells } in
    let low : AreBytes c.in-Bytes.bytes.now = subst HasBytes c.in-Bytes.is c.piece-cells.ensures.bytes in
    let at = subst (λ (p : Piece). IsPieceAt all run.place run.length p c.piece-cells.result.1) c.in-Bytes.is c.piece-cells.ensures.piece in
    let whole : c.piece-cells.result.1 ≡ run.length = omega (arith, at.few, c.if-cells-run.false) in
    standing_selected c.args.self.now c.args.hyper.now run (one (goal.at.returns-in-Bytes-clause-bytes c).After-line) all refl c.array.ensures.sound.fixed c.in-Bytes.bytes low c.piece-cells.result.1 whole at
