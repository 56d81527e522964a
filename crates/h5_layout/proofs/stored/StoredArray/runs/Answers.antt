use Rattle.std.proofs.Common.{◌≡◌, refl, length, sym, ap, ◌∙◌}
use Rattle.h5_model.specs.Tree.Objects.{Dataset}
use Rattle.h5_model.specs.Tree.Places.{cells}
use Rattle.h5_layout.specs.Pieces.{CellsLeft}
use Rattle.h5_layout.proofs.DataLaws.{few_cells, length-told}
use Rattle.h5_layout.proofs.PieceLaws.{selected_below}
use Rattle.h5_layout.proofs.stored.StoredArray.runs.Goals as goal

pub runs-runs-requires-clause-small : goal.runs-runs-requires-clause-small
runs-runs-requires-clause-small c = few_cells c.self.inside.array.sizes c.dims.result.now c.self.inside.array c.dims.ensures.sizes c.dims.ensures.sound

pub new-requires : goal.new-requires
new-requires c =
    let counted : length c.cells.result.values ≡ cells c.dims.result.now =
    ap (λ (x : CellsLeft). length x.values) c.cells.ensures ∙ sym (ap (λ (d : Dataset). length d.cells) c.self.view_is)
    ∙ length-told c.self.inside.image.now.bytes c.self.inside.array ∙ sym (ap cells c.dims.ensures.sizes) in
    selected_below (length c.cells.result.values) c.dims.result.now c.args.slab.now (record { place = 0; length = 0 }) c.runs-runs.result counted refl refl
    c.runs-runs.ensures.places c.runs-runs.ensures.maximal
