use Rattle.std.proofs.Common.{refl}
use Rattle.std.proofs.lemmas.Result.{err_from_is_err_and}
use Rattle.h5_model.specs.declared.edits.Edit.TheVariants.{Unlink}
use Rattle.h5_edit.proofs.AnsweredUnlinks.{link_found, unlink_made}
use Rattle.h5_edit.proofs.Refusals.{by_rule, short_of_memory}
use Rattle.h5_edit.proofs.RuleLaws.Exits.{passed_on}
use Rattle.h5_edit.proofs.unlinked.unlink.Goals as goal

pub returns-in_err-removal : goal.returns-in_err-removal
returns-in_err-removal c =
    passed_on _ _ c.from_residual.result _ c.from_residual.ensures.1 (by_rule c.args.opened.now (Unlink c.args.path.now) _ c.in_err-removal.ensures, refl)

pub unlink-requires : goal.unlink-requires
unlink-requires c = record { there = link_found c.args.opened.now c.args.path.now c.in_ok-removal.removal c.in_ok-removal.ensures }

pub returns-in_err-unlink : goal.returns-in_err-unlink
returns-in_err-unlink c =
    let p = err_from_is_err_and c.from_residual-in_err-unlink.result c.from_residual-in_err-unlink.ensures.1 in
    rw (p.1, p.2) (short_of_memory c.args.opened.now (Unlink c.args.path.now) c.in_ok-removal.ensures.allowed, c.in_err-unlink.ensures.refused)

pub returns : goal.returns
returns c =
    unlink_made c.args.opened.now c.args.path.now c.in_ok-removal.removal c.in_ok-removal.ensures c.unlink.new.self _ c.in_ok-unlink.ensures.changed refl refl
