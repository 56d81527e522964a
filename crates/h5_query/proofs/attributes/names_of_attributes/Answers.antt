use Rattle.std.proofs.lemmas.Result.{err_from_is_err_and}
use Rattle.h5_query.proofs.RefusedLaws.{unlisted}
use Rattle.h5_query.proofs.attributes.names_of_attributes.Goals as goal

pub returns-in_err-header_at : goal.returns-in_err-header_at
returns-in_err-header_at c =
    let p = err_from_is_err_and c.from_residual.result c.from_residual.ensures.1 in
    rw (p.1, p.2) (unlisted c.args.opened.now.tree c.args.path.now _ c.in_err-header_at.ensures)
