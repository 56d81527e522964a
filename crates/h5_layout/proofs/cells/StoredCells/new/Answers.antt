use Rattle.std.proofs.Common.{rules, ◌≡◌, ℤ, ℕ, to_z, of_z, ap₂, ◌∙◌}
use mir.Syntax.{w128}
use Rattle.h5_bytes.specs.Tables.{table}
use Rattle.h5_model.specs.Format.Fixed.{Fixed}
use Rattle.h5_layout.specs.CellData.{value_of_cell}
use Rattle.h5_layout.specs.Data.{dataset_told}
use Rattle.h5_layout.proofs.DataLaws.{told_cells}
use Rattle.h5_layout.proofs.cells.StoredCells.new.Goals as goal

pub returns : goal.returns
returns c =
    let a = c.args.array.now in
    let image = c.args.image.now.bytes in
    let passed : to_z w128 (of_z w128 c.fill.result) ≡ c.fill.result = search rules in
    let fill : to_z w128 (of_z w128 c.fill.result) ≡ a.fill = passed ∙ c.fill.ensures.value in
    let value : Fixed → ℤ → ℕ → ℤ = λ t v place. value_of_cell t v c.data_of.result place in
    let same : table (value c.fixed.result (to_z w128 (of_z w128 c.fill.result))) c.cells.result ≡ table (value a.fixed a.fill) c.cells.result
    = ap₂ (λ (t : Fixed) (v : ℤ). table (value t v) c.cells.result) c.fixed.ensures fill in
    let told : table (value a.fixed a.fill) c.cells.result ≡ (dataset_told image a).cells
    = told_cells image a (value a.fixed a.fill) c.cells.result c.cells.ensures.exact (c.data_of.ensures.values a.fill) in
    λ i. record { fixed = c.fixed.ensures i; fill = fill i; values = (same ∙ told) i }
