use Rattle.std.proofs.Common.{rules, ◌≡◌, ℕ, List, length, sym, ap, ◌∙◌, subst, arith, to_z, of_z}
use Rattle.std.specs.Prelude.{slice_index_or}
use mir.Syntax.{w128}
use Rattle.h5_model.specs.Format.Fixed.{Fixed, IsFixed, value_at}
use Rattle.h5_model.specs.Tree.Objects.{Dataset}
use Rattle.h5_model.specs.Tree.Places.{cells, place_of}
use Rattle.h5_model.proofs.PlaceLaws.{place_below}
use Rattle.h5_model.proofs.PlainValues.{size-low}
use Rattle.h5_layout.specs.Pieces.{CellsLeft}
use Rattle.h5_layout.specs.Runs.{IsPieceAt}
use Rattle.h5_layout.specs.declared.pieces.Piece.{Piece}
use Rattle.h5_layout.proofs.DataLaws.{length-told}
use Rattle.h5_layout.proofs.PieceLaws.{one_filled, one_stored}
use Rattle.h5_layout.proofs.RoomLaws.{few}
use Rattle.h5_layout.proofs.stored.StoredArray.cell.Goals as goal
use Rattle.h5_layout.proofs.stored.StoredArray.cell.Goals.{After-cells}

-- the place of the index
place-is : (c : After-cells) → c.place-place.result ≡ place_of c.args.self.now.sizes c.args.index.now
place-is c = c.place-place.ensures
    ∙ ap (λ (ds : List ℕ). place_of ds c.args.index.now) (c.dims.ensures.sizes ∙ ap (λ (d : Dataset). d.sizes) c.self.view_is)

-- its cell
cell-is : (c : After-cells) → slice_index_or c.cells.result.values c.place-place.result c.cells.result.fill
    ≡ slice_index_or c.args.self.now.cells (place_of c.args.self.now.sizes c.args.index.now) c.args.self.now.fill
cell-is c =
    ap (λ (x : CellsLeft). slice_index_or x.values c.place-place.result x.fill) c.cells.ensures
    ∙ ap (λ (k : ℕ). slice_index_or c.args.self.now.cells k c.args.self.now.fill) (place-is c)

pub place-place-requires-clause-small : goal.place-place-requires-clause-small
place-place-requires-clause-small c = few c.self.inside.array.sizes c.dims.result.now c.dims.ensures.sizes c.dims.ensures.sound.small

pub piece-requires-clause-below : goal.piece-requires-clause-below
piece-requires-clause-below c =
    let d = c.args.self.now in
    let counted : length c.cells.result.values ≡ cells d.sizes =
    ap (λ (x : CellsLeft). length x.values) c.cells.ensures ∙ sym (ap (λ (d : Dataset). length d.cells) c.self.view_is)
    ∙ length-told c.self.inside.image.now.bytes c.self.inside.array ∙ ap (λ (d : Dataset). cells d.sizes) c.self.view_is in
    omega (arith, counted, place-is (goal.at.piece-requires-clause-below c).After-cells, place_below d.sizes c.args.index.now c.requires)

pub returns-in-Bytes : goal.returns-in-Bytes
returns-in-Bytes c =
    let b = (goal.at.returns-in-Bytes c).After-cells in
    let all = c.cells.result in
    let place = c.place-place.result in
    let exact : to_z w128 (of_z w128 c.value_at.result) ≡ c.value_at.result = search rules in
    let is : IsFixed c.fixed.result = search rules in
    let same : c.fixed.result ≡ all.fixed = c.fixed.ensures ∙ ap (λ (d : Dataset). d.fixed) c.self.view_is ∙ sym (ap (λ (x : CellsLeft). x.fixed) c.cells.ensures) in
    let at = subst (λ (p : Piece). IsPieceAt all place 1 p c.piece.result.1) c.in-Bytes.is c.piece.ensures.piece in
    exact ∙ c.value_at.ensures ∙ ap (λ (t : Fixed). value_at t c.in-Bytes.bytes.now 0) same
    ∙ one_stored all place c.piece.result.1 c.in-Bytes.bytes (size-low all.fixed (subst IsFixed same is)) at ∙ cell-is b

pub returns-in-Fill : goal.returns-in-Fill
returns-in-Fill c =
    let b = (goal.at.returns-in-Fill c).After-cells in
    let all = c.cells.result in
    let place = c.place-place.result in
    let exact : to_z w128 (of_z w128 c.fill.result) ≡ c.fill.result = search rules in
    let same : c.fill.result ≡ all.fill = c.fill.ensures.value ∙ ap (λ (d : Dataset). d.fill) c.self.view_is ∙ sym (ap (λ (x : CellsLeft). x.fill) c.cells.ensures) in
    let at = subst (λ (p : Piece). IsPieceAt all place 1 p c.piece.result.1) c.in-Fill.is c.piece.ensures.piece in
    exact ∙ same ∙ one_filled all place c.piece.result.1 c.in-Fill.cells at ∙ cell-is b
