use Rattle.std.proofs.Common.{refl}
use Rattle.std.proofs.lemmas.Result.{err_from_is_err_and}
use Rattle.h5_header.specs.Listed.{messages_in}
use Rattle.h5_open.specs.Attributes.{attributes_of}
use Rattle.h5_query.proofs.Calls.{group_found, array_found}
use Rattle.h5_query.proofs.Indexed.{array_kept}
use Rattle.h5_query.proofs.RefusedLaws.{unfound}
use Rattle.h5_query.proofs.found.found_at.Goals as goal

pub returns-in_err-number : goal.returns-in_err-number
returns-in_err-number c =
    let p = err_from_is_err_and c.from_residual.result c.from_residual.ensures.1 in
    rw (p.1, p.2) (unfound c.args.opened.now.tree c.args.path.now _ c.in_err-number.ensures)

pub returns-in_err-attributes : goal.returns-in_err-attributes
returns-in_err-attributes c =
    let place = rw c.in-Object.is at c.in_ok-number.ensures in
    let p = err_from_is_err_and c.from_residual-in_err-attributes.result c.from_residual-in_err-attributes.ensures.1 in
    rw (p.1, p.2) place.0.0

pub stored_array-requires : goal.stored_array-requires
stored_array-requires c =
    let place = rw c.in-Object.is at c.in_ok-number.ensures in
    rw (c.new-header.ensures, c.image.ensures.bytes) (array_kept c.args.opened.now c.in-Object.number c.in-Object.object.now place.1 c.in-Array.is)

pub returns-in-Group : goal.returns-in-Group
returns-in-Group c =
    let place = rw c.in-Object.is at c.in_ok-number.ensures in
    let kept = place.1.kept.header in
    group_found c.args.opened.now c.in-Object.number c.in-Object.object.now place.1 c.args.path.now place.0
    c.in-Group.field-0 c.in-Group.is _ refl c.in_ok-attributes.attributes
    ((rw (c.new-header.ensures, c.image.ensures.bytes) at c.in_ok-attributes.ensures) (attributes_of (messages_in c.args.opened.now.image c.in-Object.object.now.messages.list)) kept.attributes)

pub returns-in-Array : goal.returns-in-Array
returns-in-Array c =
    let place = rw c.in-Object.is at c.in_ok-number.ensures in
    let kept = place.1.kept.header in
    array_found c.args.opened.now c.in-Object.number c.in-Object.object.now place.1 c.args.path.now place.0
    c.in-Array.is _ refl c.in_ok-attributes.attributes
    ((rw (c.new-header.ensures, c.image.ensures.bytes) at c.in_ok-attributes.ensures) (attributes_of (messages_in c.args.opened.now.image c.in-Object.object.now.messages.list)) kept.attributes)
    _ (rw (c.new-header.ensures, c.image.ensures.bytes) at c.stored_array.ensures)
