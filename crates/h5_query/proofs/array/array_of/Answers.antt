use Rattle.std.proofs.Common.{Some, sym, ap, ◌∙◌}
use Rattle.h5_model.specs.Tree.Objects.{Dataset}
use Rattle.h5_query.proofs.Indexed.{no_array_there, group_no_array, array_there, array_kept}
use Rattle.h5_query.proofs.array.array_of.Goals as goal

pub returns-in_err-object : goal.returns-in_err-object
returns-in_err-object c =
    rw c.from_residual.ensures (no_array_there c.args.opened.now c.object.ensures.sound c.args.number.0 c.in_err-object.ensures.found)

pub returns-in-Group : goal.returns-in-Group
returns-in-Group c =
    group_no_array c.args.opened.now c.args.number.0 c.in_ok-object.object.now c.in_ok-object.ensures.found c.in-Group.field-0 c.in-Group.is

pub stored_array-requires : goal.stored_array-requires
stored_array-requires c =
    rw (c.new-header.ensures, c.image.ensures.bytes) (array_kept c.args.opened.now c.args.number.0 c.in_ok-object.object.now c.in_ok-object.ensures.found c.in-Array.is)

pub returns-in-Array : goal.returns-in-Array
returns-in-Array c =
    let there = array_there c.args.opened.now c.args.number.0 c.in_ok-object.object.now c.in_ok-object.ensures.found c.in-Array.is in
    there ∙ ap (λ (d : Dataset). Some d) (sym (rw (c.new-header.ensures, c.image.ensures.bytes) at c.stored_array.ensures))
