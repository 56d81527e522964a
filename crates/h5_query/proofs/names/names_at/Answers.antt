use Rattle.std.proofs.Common.{refl}
use Rattle.std.proofs.lemmas.Result.{err_from_is_err_and}
use Rattle.h5_query.specs.Kept.{names_of_group}
use Rattle.h5_query.proofs.Calls.{array_no_list, group_names}
use Rattle.h5_query.proofs.Indexed.{group_read}
use Rattle.h5_query.proofs.RefusedLaws.{list_refused}
use Rattle.h5_query.proofs.names.names_at.Goals as goal

pub returns-in_err-object : goal.returns-in_err-object
returns-in_err-object c =
    let p = err_from_is_err_and c.from_residual.result c.from_residual.ensures.1 in
    rw (p.1, p.2) (list_refused c.args.opened.now.tree c.args.path.now _ c.in_err-object.ensures)

pub returns-in_default-content : goal.returns-in_default-content
returns-in_default-content c =
    let place = rw c.in-Object.is at c.in_ok-object.ensures in
    array_no_list c.args.opened.now c.in-Object.number c.in-Object.object.now place.1 c.args.path.now place.0
    c.in_default-content.is

pub group_names-requires : goal.group_names-requires
group_names-requires c =
    let place = rw c.in-Object.is at c.in_ok-object.ensures in
    rw c.image.ensures.bytes (group_read c.args.opened.now c.in-Object.number c.in-Object.object.now place.1 c.in-Group.table c.in-Group.is)

pub returns-in-Ok : goal.returns-in-Ok
returns-in-Ok c =
    let place = rw c.in-Object.is at c.in_ok-object.ensures in
    group_names c.args.opened.now c.in-Object.number c.in-Object.object.now place.1 c.args.path.now place.0
    c.in-Group.table c.in-Group.is _ (rw c.image.ensures.bytes at c.in-Ok.ensures)

pub returns-in-Err : goal.returns-in-Err
returns-in-Err c =
    let f = c.args.opened.now in
    let place = rw c.in-Object.is at c.in_ok-object.ensures in
    (group_names f c.in-Object.number c.in-Object.object.now place.1 c.args.path.now place.0 c.in-Group.table c.in-Group.is (names_of_group f.image c.in-Group.table) refl).accepted
