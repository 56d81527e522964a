use Rattle.std.proofs.Common.{◌++◌, List, ℕ, codes, ap, ◌∙◌, subst}
use Rattle.std.specs.Fmt.{decimal}
use Rattle.h5_model.specs.Scripts.Lines.{OpenView}
use Rattle.h5_model.specs.Views.ViewFaults.{view_fault_text}
use Rattle.h5_model.specs.declared.hyperslab.Hyper.{Hyper}
use Rattle.h5_dump.specs.Session.{IsViewOpened, IsViewRefused}
use Rattle.h5_script.specs.declared.ran.Outcome.TheVariants.{Refused, Told}
use Rattle.h5_script.proofs.LineAnswers.{told_or_not, by_error, not_told, shown_as}
use Rattle.h5_script.proofs.ViewAnswers.{view_opened, view_refused}
use Rattle.h5_script.proofs.answer.open_view.Goals as goal

pub returns-in_err-push_opened-in-Ok : goal.returns-in_err-push_opened-in-Ok
returns-in_err-push_opened-in-Ok c =
    let number = c.in-Ok.view.0 in
    let asked = OpenView c.args.path.now c.args.hyper.now in
    by_error c.from_residual.result c.args.session.now c.open_view.new.self asked c.push_opened.new.out.items c.from_residual.ensures.0
    (not_told c.args.session.now c.open_view.new.self asked (codes "view " ++ (decimal number ++ codes "\n")) Told
    (view_opened c.args.session.now c.open_view.new.self c.args.path.now c.args.hyper.now number (subst (λ (h : Hyper). IsViewOpened c.args.session.now c.args.path.now h number c.open_view.new.self) c.of.ensures c.in-Ok.ensures)))

pub returns-in_ok-push_opened-in-Ok : goal.returns-in_ok-push_opened-in-Ok
returns-in_ok-push_opened-in-Ok c =
    let number = c.in-Ok.view.0 in
    shown_as c.args.session.now c.open_view.new.self (OpenView c.args.path.now c.args.hyper.now) (codes "view " ++ (decimal number ++ codes "\n")) c.push_opened.new.out.items Told
    (c.in_ok-push_opened-in-Ok.ensures ∙ ap (λ (old : List ℕ). old ++ (codes "view " ++ (decimal number ++ codes "\n"))) c.requires)
    (view_opened c.args.session.now c.open_view.new.self c.args.path.now c.args.hyper.now number (subst (λ (h : Hyper). IsViewOpened c.args.session.now c.args.path.now h number c.open_view.new.self) c.of.ensures c.in-Ok.ensures))

pub returns-in-Err : goal.returns-in-Err
returns-in-Err c =
    told_or_not c.refused_view.result c.args.session.now c.open_view.new.self (OpenView c.args.path.now c.args.hyper.now) c.refused_view.new.text.items (view_fault_text c.in-Err.fault) Refused
    (view_refused c.args.session.now c.open_view.new.self c.args.path.now c.args.hyper.now c.in-Err.fault (subst (λ (h : Hyper). IsViewRefused c.args.session.now c.args.path.now h c.in-Err.fault) c.of.ensures c.in-Err.ensures.0) c.in-Err.ensures.1) c.refused_view.ensures
