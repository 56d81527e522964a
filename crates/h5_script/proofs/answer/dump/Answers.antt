use Rattle.std.proofs.Common.{List, ℕ, Option, sym, subst}
use Rattle.h5_model.specs.Edits.EditFaults.{refused_text}
use Rattle.h5_model.specs.Tree.Paths.{location_of}
use Rattle.h5_model.specs.Scripts.Answers.{dump_of}
use Rattle.h5_model.specs.Scripts.Lines.{Dump}
use Rattle.std.specs.Prelude.{MatchResult}
use Rattle.h5_dump.specs.Dumped.{IsDumped, IsPartlyDumped, IsUndumped}
use Rattle.h5_dump.specs.Opened.State.{FileState}
use Rattle.h5_dump.specs.declared.fault.DumpFault.{DumpFault}
use Rattle.h5_dump.specs.declared.fault.DumpFault.TheVariants as dump
use Rattle.h5_script.specs.Answered.{IsAnswered, IsUntold}
use Rattle.h5_script.specs.Runs.{Tells}
use Rattle.h5_script.specs.declared.ran.Outcome.TheVariants.{Refused, Told}
use Rattle.h5_script.proofs.LineAnswers.{told_or_not, dump_told, dump_undumped, undumped_same}
use Rattle.h5_script.proofs.LineRuns.{line_cut, run_cut}
use Rattle.h5_script.proofs.answer.dump.Goals as goal

pub returns-in-Ok : goal.returns-in-Ok
returns-in-Ok g c =
    let session = c.args.session.now in
    let told : IsDumped session.file.tree c.args.path.now (g.W.Write.contents c.args.output.now) (g.W.Write.contents c.write_dump.new.output) =
    subst (λ (f : FileState). IsDumped f.tree c.args.path.now (g.W.Write.contents c.args.output.now) (g.W.Write.contents c.write_dump.new.output)) c.file.ensures.file c.in-Ok.ensures in
    record {
      text = dump_of session.file.tree c.args.path.now (location_of session.file.tree c.args.path.now);
      answered = dump_told session c.args.path.now told.accepted;
      written = told.written;
    }

pub returns-in-Err-Refused : goal.returns-in-Err-Refused
returns-in-Err-Refused g c =
    let session = c.args.session.now in
    let command = Dump c.args.path.now in
    let fault = c.in-Err-Refused.fault in
    let old = g.W.Write.contents c.args.output.now in
    let now = g.W.Write.contents c.write_dump.new.output in
    let there : IsUndumped c.file.result.now.tree c.args.path.now old now (dump.Refused fault) =
    subst (λ (f : DumpFault). IsUndumped c.file.result.now.tree c.args.path.now old now f) c.in-Err-Refused.field-0-is c.in-Err-Refused.ensures in
    let is : IsUndumped session.file.tree c.args.path.now old now (dump.Refused fault) =
    subst (λ (f : FileState). IsUndumped f.tree c.args.path.now old now (dump.Refused fault)) c.file.ensures.file there in
    let answered = told_or_not c.refused_instead.result session session command c.refused_instead.new.text.items (refused_text fault) Refused (dump_undumped session c.args.path.now old now fault is) c.refused_instead.ensures in
    subst (λ (known : Option (List ℕ)). Tells c.tell.result session command session known (g.W.Write.contents c.tell.new.output)) (undumped_same session c.args.path.now old now fault is)
    (c.tell.ensures session session command (subst (λ (text : List ℕ). MatchResult c.refused_instead.result (IsAnswered session command session text) (λ _. IsUntold session command session)) (sym c.deref.ensures.value) answered))

pub returns-in-Err-Cut : goal.returns-in-Err-Cut
returns-in-Err-Cut g c =
    let session = c.args.session.now in
    let old = g.W.Write.contents c.args.output.now in
    let now = g.W.Write.contents c.write_dump.new.output in
    let there = subst (λ (f : DumpFault). IsUndumped c.file.result.now.tree c.args.path.now old now f) c.in-Err-Cut.field-0-is c.in-Err-Cut.ensures in
    let is : IsPartlyDumped session.file.tree c.args.path.now old now = subst (λ (f : FileState). IsPartlyDumped f.tree c.args.path.now old now) c.file.ensures.file there in (
      run_cut c.in-Err-Cut.reason c.from.result c.from.ensures,
      line_cut session session (Dump c.args.path.now) (dump_of session.file.tree c.args.path.now (location_of session.file.tree c.args.path.now)) Told old now
          (dump_told session c.args.path.now is.accepted) is.some,
    )
