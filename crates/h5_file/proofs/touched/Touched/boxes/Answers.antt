use Rattle.std.proofs.Common.{◌≤◌, sym, subst}
use Rattle.h5_model.specs.Format.Limits.{most_cells}
use Rattle.h5_model.specs.Tree.Places.{cells}
use Rattle.h5_file.specs.Touched.{IsTouchOf, sizes_before}
use Rattle.h5_file.specs.declared.touched.Touched.{Touched}
use Rattle.h5_file.proofs.SlabLaws.{words_within}
use Rattle.h5_file.proofs.touched.Touched.boxes.Goals as goal

pub written_boxes-requires-clause-top : goal.written_boxes-requires-clause-top
written_boxes-requires-clause-top c =
    let (d, of) = c.requires in
    let touch = subst (IsTouchOf d) c.in-Written.is of.touch in
    let few = subst (λ (t : Touched). cells (sizes_before d t) ≤ most_cells) c.in-Written.is of.few in
    words_within d.sizes c.in-Written.written (sym touch.0) touch.1 few
