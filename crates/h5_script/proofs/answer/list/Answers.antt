use Rattle.std.proofs.Common.{sym, subst}
use Rattle.h5_text.specs.Appends.{Appends}
use Rattle.h5_dump.specs.Opened.State.{FileState}
use Rattle.h5_model.specs.Edits.EditFaults.{refused_text}
use Rattle.h5_model.specs.Scripts.Text.{list_text}
use Rattle.h5_model.specs.Scripts.Lines.{ListAll}
use Rattle.h5_model.specs.declared.edit_fault.EditFault.TheVariants as fault
use Rattle.h5_script.specs.declared.ran.Outcome.TheVariants.{Refused, Told}
use Rattle.h5_script.proofs.LineAnswers.{told_or_not, appended, shown_as, list_told, list_refused}
use Rattle.h5_script.proofs.answer.list.Goals as goal

pub returns-then-is_err : goal.returns-then-is_err
returns-then-is_err c =
    told_or_not c.refused_instead.result c.args.session.now c.args.session.now ListAll c.refused_instead.new.text.items (refused_text fault.NoMemory) Refused
    (list_refused c.args.session.now) c.refused_instead.ensures

pub returns : goal.returns
returns c =
    shown_as c.args.session.now c.args.session.now ListAll (list_text c.args.session.now.file.tree) c.push_list.new.text.items Told
    (appended c.push_list.result c.args.text.now.items c.push_list.new.text.items (list_text c.args.session.now.file.tree) (sym c.if-is_err.ensures.value) c.requires
    (subst (λ (f : FileState). Appends c.push_list.result c.args.text.now.items c.push_list.new.text.items (list_text f.tree)) c.file.ensures.file c.push_list.ensures))
    (list_told c.args.session.now)
