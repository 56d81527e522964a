use Rattle.std.proofs.Common.{◌≡◌, [], ◌++◌, length, map, sym, ap, ◌∙◌, arith}
use Rattle.std.specs.Prelude.{slice_index_or}
use Rattle.std.specs.List.{range_with_len}
use Rattle.h5_model.specs.Tree.Objects.{Dataset}
use Rattle.h5_layout.specs.Pieces.{CellsLeft}
use Rattle.h5_layout.proofs.DataLaws.{all_values, length-told}
use Rattle.h5_layout.proofs.stored.StoredArray.all.Goals as goal
use Rattle.h5_layout.proofs.stored.StoredArray.all.Goals.{After-cells-2}

-- there are as many values as cells
counted : (c : After-cells-2) → c.cells.result ≡ length c.cells-2.result.values
counted c =
    c.cells.ensures.exact ∙ sym (length-told c.self.inside.image.now.bytes c.self.inside.array)
    ∙ ap (λ (d : Dataset). length d.cells) c.self.view_is ∙ sym (ap (λ (x : CellsLeft). length x.values) c.cells-2.ensures)

pub new-requires : goal.new-requires
new-requires c = record { first = omega (arith, counted c); others = tt }

pub returns : goal.returns
returns c =
    let all = c.cells-2.result in
    let b = (goal.at.returns c).After-cells-2 in
    let whole : map (λ p. slice_index_or all.values p all.fill) (range_with_len 0 c.cells.result ++ []) ≡ all.values = all_values all.values all.fill c.cells.result (counted b) in
    c.new.ensures ∙ (λ i. record { fixed = all.fixed; fill = all.fill; values = whole i }) ∙ c.cells-2.ensures
