use Rattle.std.proofs.Common.{[], ◌∷◌, ◌++◌, refl, ap, ◌∙◌, append_assoc, arith, List, ℕ}
use Rattle.h5_script.proofs.LineRuns.{by_memory, by_fault}
use Rattle.h5_script.proofs.PieceLaws.{lines_none, lines_next, lines_stopped, lines_left, shorter}
use Rattle.h5_script.proofs.lines.run_piece.Goals as goal

pub loop-line-init : goal.loop-line-init
loop-line-init g c = record {
  seen = c.args.held.now.items;
  parts = refl;
  run = lines_none c.args.session.now (g.W.Write.contents c.args.output.now) c.args.answers.now.ran c.args.held.now.items c.requires.held;
  refused = omega arith;
  edits = omega arith;
}

pub returns-in_err-extend_from_slice-clause-run : goal.returns-in_err-extend_from_slice-clause-run
returns-in_err-extend_from_slice-clause-run g c =
    by_memory c.from_residual.result _ _ c.from_residual.ensures.1
    (lines_left c.args.session.now (g.W.Write.contents c.args.output.now) c.args.answers.now.ran c.loop-line.session (g.W.Write.contents c.loop-line.output) c.loop-line.answers.ran
    c.loop-line.invariant.seen c.loop-line.held.items c.loop-line.invariant.run c.loop-line.rest.now (c.args.held.now.items ++ c.args.piece.now) c.loop-line.invariant.parts)

pub returns-in_err-run_line-clause-run : goal.returns-in_err-run_line-clause-run
returns-in_err-run_line-clause-run g c =
    by_fault c.from_residual-in_err-run_line.result _ _ c.in_err-run_line.field-0.0 c.from_residual-in_err-run_line.ensures.1 c.in_err-run_line.ensures.run.0
    (lines_stopped c.args.session.now (g.W.Write.contents c.args.output.now) c.args.answers.now.ran c.loop-line.session (g.W.Write.contents c.loop-line.output) c.loop-line.answers.ran
    c.loop-line.invariant.seen c.loop-line.held.items c.loop-line.invariant.run c.in-Some.line.now c.deref.result.now c.in-Some.behind.now (c.args.held.now.items ++ c.args.piece.now)
    c.run_line.new.session (g.W.Write.contents c.run_line.new.output) c.in-Some.ensures.endless (c.deref.ensures.value ∙ c.in_ok-extend_from_slice.ensures.items)
    (ap (λ (xs : List ℕ). c.loop-line.invariant.seen ++ xs) c.in-Some.ensures.whole ∙ c.loop-line.invariant.parts) c.in_err-run_line.ensures.run.1)

pub loop-line-preserved : goal.loop-line-preserved
loop-line-preserved g c =
    let line = c.in-Some.line.now in
    let behind = c.in-Some.behind.now in
    let seen = c.loop-line.invariant.seen in
    let long = shorter c.loop-line.rest.now line behind c.in-Some.ensures in
    record {
      seen = seen ++ (line ++ 10 ∷ []);
      parts = append_assoc seen (line ++ 10 ∷ []) behind ∙ ap (λ (xs : List ℕ). seen ++ xs) (append_assoc line (10 ∷ []) behind ∙ c.in-Some.ensures.whole) ∙ c.loop-line.invariant.parts;
      run = lines_next c.args.session.now (g.W.Write.contents c.args.output.now) c.args.answers.now.ran c.loop-line.session (g.W.Write.contents c.loop-line.output) c.loop-line.answers.ran
          seen c.loop-line.held.items c.loop-line.invariant.run line c.deref.result.now c.clear.new.self.items c.run_line.new.session (g.W.Write.contents c.run_line.new.output) c.run_line.new.answers.ran
          c.in-Some.ensures.endless (c.deref.ensures.value ∙ c.in_ok-extend_from_slice.ensures.items) c.clear.ensures.items c.in_ok-run_line.ensures.run;
      refused = omega (arith, long, c.in_ok-run_line.ensures.refused);
      edits = omega (arith, long, c.in_ok-run_line.ensures.edits);
    }

pub returns-in_err-extend_from_slice-2-clause-run : goal.returns-in_err-extend_from_slice-2-clause-run
returns-in_err-extend_from_slice-2-clause-run g c =
    by_memory c.from_residual-in_err-extend_from_slice-2.result _ _ c.from_residual-in_err-extend_from_slice-2.ensures.1
    (lines_left c.args.session.now (g.W.Write.contents c.args.output.now) c.args.answers.now.ran c.loop-line.session (g.W.Write.contents c.loop-line.output) c.loop-line.answers.ran
    c.loop-line.invariant.seen c.loop-line.held.items c.loop-line.invariant.run c.loop-line.rest.now (c.args.held.now.items ++ c.args.piece.now) c.loop-line.invariant.parts)
