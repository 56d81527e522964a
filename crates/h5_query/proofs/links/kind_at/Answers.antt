use Rattle.h5_query.proofs.Calls.{group_kind, known_kind}
use Rattle.h5_query.proofs.Indexed.{array_kept}
use Rattle.h5_query.proofs.links.kind_at.Goals as goal

pub stored_array-array-requires : goal.stored_array-array-requires
stored_array-array-requires c =
    let place = rw c.in-Object.is at c.in_ok-object.ensures in
    rw (c.new-header.ensures, c.image.ensures.bytes) (array_kept c.args.opened.now c.in-Object.number c.in-Object.object.now place.1 c.in-Array.is)

pub returns-in-Array : goal.returns-in-Array
returns-in-Array c =
    let place = rw c.in-Object.is at c.in_ok-object.ensures in
    known_kind c.args.opened.now c.in-Object.number c.in-Object.object.now place.1 c.args.path.now place.0
    c.in-Array.is _ (rw (c.new-header.ensures, c.image.ensures.bytes) at c.stored_array-array.ensures) _ c.array_kind.ensures

pub returns-in-Group : goal.returns-in-Group
returns-in-Group c =
    let place = rw c.in-Object.is at c.in_ok-object.ensures in
    group_kind c.args.opened.now c.in-Object.number c.in-Object.object.now place.1 c.args.path.now place.0
    c.in-Group.field-0 c.in-Group.is
