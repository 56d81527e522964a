use Rattle.std.proofs.Common.{◌∙◌, sym, ap}
use Rattle.std.proofs.lemmas.Result.{err_from_is_err_and}
use Rattle.std.specs.FinMap.{entries}
use Rattle.h5_model.specs.Tree.Objects.{Attributes}
use Rattle.h5_header.specs.Listed.{messages_in}
use Rattle.h5_open.specs.Attributes.{attributes_of}
use Rattle.h5_query.proofs.RefusedLaws.{unlisted}
use Rattle.h5_query.proofs.attributes.attributes_at.Goals as goal

pub returns-in_err-header_at : goal.returns-in_err-header_at
returns-in_err-header_at c =
    let p = err_from_is_err_and c.from_residual.result c.from_residual.ensures.1 in
    rw (p.1, p.2) (unlisted c.args.opened.now.tree c.args.path.now _ c.in_err-header_at.ensures)

pub returns-in-Ok : goal.returns-in-Ok
returns-in-Ok c =
    let there = c.in_ok-header_at.ensures.1 in
    let ms = messages_in c.args.opened.now.image c.in_ok-header_at.ensures.0.list in
    record {
      accepted = there.accepted;
      object = there.object;
      found = there.found;
      listed = (rw c.in_ok-header_at.ensures.2 at c.in-Ok.ensures) (attributes_of ms) there.kept.attributes ∙ ap (λ (m : Attributes). entries m) (sym there.attributes_are);
    }
