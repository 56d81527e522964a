use Rattle.std.proofs.Common.{◌≡◌, ◌≤◌, ℕ, List, length, take, refl, ap, subst, length-take, arith}
use Rattle.h5_script.specs.Pieces.{commands_of_line}
use Rattle.h5_script.specs.Runs.{HasBegun, HasCounted, run_fault}
use Rattle.h5_script.specs.declared.ran.Ran.{Ran}
use Rattle.h5_script.specs.declared.fault.RunFault.TheVariants.{ScriptRead, ScriptWrite, NoMemory}
use Rattle.h5_script.proofs.ScriptRuns.{by_stop, cut_off, stopped_at_first, under_begin, stopped_unread, done_all, cut_last, cut_flush, under_more, too_long, cut_piece}
use Rattle.h5_script.proofs.run.run_pieces.Goals as goal

pub returns-in_err-answers : goal.returns-in_err-answers
returns-in_err-answers g c =
    by_stop c.from_residual.result _ _ NoMemory NoMemory c.from_residual.ensures.1 refl
    (stopped_at_first c.args.session.now (g.R.Read.remaining c.args.input.now) (g.W.Write.contents c.args.output.now) NoMemory tt)

pub loop-read-init : goal.loop-read-init
loop-read-init g c = record {
  under = under_begin c.args.session.now (g.R.Read.remaining c.args.input.now) (g.W.Write.contents c.args.output.now) c.new-held.result.items c.in_ok-answers.answers.ran
      c.new-held.ensures.items c.in_ok-answers.ensures;
  refused = omega (arith, ap (λ (r : Ran). r.refused) c.in_ok-answers.ensures);
  edits = omega (arith, ap (λ (r : Ran). r.edits) c.in_ok-answers.ensures);
  reads = omega arith;
}

pub returns-in_err-count : goal.returns-in_err-count
returns-in_err-count g c =
    by_stop c.from_residual-in_err-count.result _ _ c.in_err-count.field-0.0 ScriptRead c.from_residual-in_err-count.ensures.1 c.in_err-count.ensures.0
    (stopped_unread c.args.session.now (g.R.Read.remaining c.args.input.now) (g.W.Write.contents c.args.output.now)
    c.loop-read.session (g.R.Read.remaining c.loop-read.input) (g.W.Write.contents c.loop-read.output) c.loop-read.held.items c.loop-read.room c.loop-read.answers.ran c.loop-read.invariant.under
    (g.R.Read.remaining c.read_piece.new.input) c.in_err-count.ensures.1)

pub run_line-requires-clause-refused : goal.run_line-requires-clause-refused
run_line-requires-clause-refused g c = omega (arith, c.loop-read.invariant.refused)

pub run_line-requires-clause-edits : goal.run_line-requires-clause-edits
run_line-requires-clause-edits g c = omega (arith, c.loop-read.invariant.edits)

pub returns-in_err-run_line : goal.returns-in_err-run_line
returns-in_err-run_line g c =
    by_stop c.from_residual-in_err-run_line.result _ _ c.in_err-run_line.field-0.0 c.in_err-run_line.field-0.0 c.from_residual-in_err-run_line.ensures.1 refl
    (cut_off c.args.session.now c.run_line.new.session (g.R.Read.remaining c.args.input.now) (g.R.Read.remaining c.read_piece.new.input)
    (g.W.Write.contents c.args.output.now) (g.W.Write.contents c.run_line.new.output) c.in_err-run_line.field-0.0 c.in_err-run_line.ensures.run.0
    (cut_last c.args.session.now (g.R.Read.remaining c.args.input.now) (g.W.Write.contents c.args.output.now)
    c.loop-read.session (g.R.Read.remaining c.loop-read.input) (g.W.Write.contents c.loop-read.output) c.loop-read.held.items c.loop-read.room c.loop-read.answers.ran c.loop-read.invariant.under
    (g.R.Read.remaining c.read_piece.new.input) (take c.in_ok-count.count c.read_piece.new.piece) c.run_line.new.session (g.W.Write.contents c.run_line.new.output)
    (ap (λ (n : ℕ). take n c.read_piece.new.piece) c.if-count-eq0.true) c.in_ok-count.ensures.read (c.in_ok-count.ensures.ended c.if-count-eq0.true)
    (subst (λ (line : List ℕ). HasBegun (commands_of_line line) c.loop-read.session c.run_line.new.session (g.W.Write.contents c.loop-read.output) (g.W.Write.contents c.run_line.new.output))
    c.deref.ensures.value c.in_err-run_line.ensures.run.1)))

pub returns-in_err-flush : goal.returns-in_err-flush
returns-in_err-flush g c =
    by_stop c.from_residual-in_err-flush.result _ _ (run_fault c.in_err-flush.field-0.0) ScriptWrite c.from_residual-in_err-flush.ensures.1 (ap run_fault c.in_err-flush.ensures.0)
    (cut_flush c.args.session.now (g.R.Read.remaining c.args.input.now) (g.W.Write.contents c.args.output.now)
    c.loop-read.session (g.R.Read.remaining c.loop-read.input) (g.W.Write.contents c.loop-read.output) c.loop-read.held.items c.loop-read.room c.loop-read.answers.ran c.loop-read.invariant.under
    (g.R.Read.remaining c.read_piece.new.input) (take c.in_ok-count.count c.read_piece.new.piece) c.run_line.new.session (g.W.Write.contents c.run_line.new.output) (g.W.Write.contents c.flush.new.output)
    c.run_line.new.answers.ran (ap (λ (n : ℕ). take n c.read_piece.new.piece) c.if-count-eq0.true) c.in_ok-count.ensures.read (c.in_ok-count.ensures.ended c.if-count-eq0.true)
    (subst (λ (line : List ℕ). HasCounted (commands_of_line line) c.loop-read.session c.run_line.new.session (g.W.Write.contents c.loop-read.output) (g.W.Write.contents c.run_line.new.output)
    c.loop-read.answers.ran c.run_line.new.answers.ran) c.deref.ensures.value c.in_ok-run_line.ensures.run) c.in_err-flush.ensures.1)

pub returns-then-count-eq0 : goal.returns-then-count-eq0
returns-then-count-eq0 g c =
    done_all c.args.session.now (g.R.Read.remaining c.args.input.now) (g.W.Write.contents c.args.output.now)
    c.loop-read.session (g.R.Read.remaining c.loop-read.input) (g.W.Write.contents c.loop-read.output) c.loop-read.held.items c.loop-read.room c.loop-read.answers.ran c.loop-read.invariant.under
    (g.R.Read.remaining c.read_piece.new.input) (take c.in_ok-count.count c.read_piece.new.piece) c.run_line.new.session (g.W.Write.contents c.run_line.new.output) (g.W.Write.contents c.flush.new.output)
    c.run_line.new.answers.ran (ap (λ (n : ℕ). take n c.read_piece.new.piece) c.if-count-eq0.true) c.in_ok-count.ensures.read (c.in_ok-count.ensures.ended c.if-count-eq0.true)
    (subst (λ (line : List ℕ). HasCounted (commands_of_line line) c.loop-read.session c.run_line.new.session (g.W.Write.contents c.loop-read.output) (g.W.Write.contents c.run_line.new.output)
    c.loop-read.answers.ran c.run_line.new.answers.ran) c.deref.ensures.value c.in_ok-run_line.ensures.run) c.in_ok-flush.ensures

pub run_piece-requires-clause-held : goal.run_piece-requires-clause-held
run_piece-requires-clause-held g c = c.loop-read.invariant.under.run.endless

pub run_piece-requires-clause-refused : goal.run_piece-requires-clause-refused
run_piece-requires-clause-refused g c =
    omega (arith, c.loop-read.invariant.refused, length-take c.min-within.result c.read_piece.new.piece, c.min-within.ensures)

pub run_piece-requires-clause-edits : goal.run_piece-requires-clause-edits
run_piece-requires-clause-edits g c =
    omega (arith, c.loop-read.invariant.edits, length-take c.min-within.result c.read_piece.new.piece, c.min-within.ensures)

pub returns-in_err-run_piece : goal.returns-in_err-run_piece
returns-in_err-run_piece g c =
    by_stop c.from_residual-in_err-run_piece.result _ _ c.in_err-run_piece.field-0.0 c.in_err-run_piece.field-0.0 c.from_residual-in_err-run_piece.ensures.1 refl
    (cut_off c.args.session.now c.run_piece.new.session (g.R.Read.remaining c.args.input.now) (g.R.Read.remaining c.read_piece.new.input)
    (g.W.Write.contents c.args.output.now) (g.W.Write.contents c.run_piece.new.output) c.in_err-run_piece.field-0.0 c.in_err-run_piece.ensures.run.0
    (cut_piece c.args.session.now (g.R.Read.remaining c.args.input.now) (g.W.Write.contents c.args.output.now)
    c.loop-read.session (g.R.Read.remaining c.loop-read.input) (g.W.Write.contents c.loop-read.output) c.loop-read.held.items c.loop-read.room c.loop-read.answers.ran c.loop-read.invariant.under
    (g.R.Read.remaining c.read_piece.new.input) c.read_piece.new.piece c.in_ok-count.count c.in_ok-count.ensures
    c.min-within.result (take c.min-within.result c.read_piece.new.piece) c.run_piece.new.session (g.W.Write.contents c.run_piece.new.output) c.min-within.ensures refl c.in_err-run_piece.ensures.run.1))

pub returns-then-count-room : goal.returns-then-count-room
returns-then-count-room g c =
    let within : c.min-within.result ≡ c.loop-read.room = omega (arith, c.min-within.ensures, c.if-count-room.true) in
    too_long c.args.session.now (g.R.Read.remaining c.args.input.now) (g.W.Write.contents c.args.output.now)
    c.loop-read.session (g.R.Read.remaining c.loop-read.input) (g.W.Write.contents c.loop-read.output) c.loop-read.held.items c.loop-read.room c.loop-read.answers.ran c.loop-read.invariant.under
    (g.R.Read.remaining c.read_piece.new.input) c.read_piece.new.piece c.in_ok-count.count c.in_ok-count.ensures
    (take c.min-within.result c.read_piece.new.piece) c.run_piece.new.held.items c.run_piece.new.session (g.W.Write.contents c.run_piece.new.output) c.run_piece.new.answers.ran
    c.if-count-room.true (ap (λ (n : ℕ). take n c.read_piece.new.piece) within) c.in_ok-run_piece.ensures.run

pub loop-read-preserved : goal.loop-read-preserved
loop-read-preserved g c =
    let within : c.min-within.result ≡ c.in_ok-count.count = omega (arith, c.min-within.ensures, c.if-count-room.false) in
    let part : length (take c.min-within.result c.read_piece.new.piece) ≤ c.in_ok-count.count = omega (arith, length-take c.min-within.result c.read_piece.new.piece, within) in
    record {
      under = under_more c.args.session.now (g.R.Read.remaining c.args.input.now) (g.W.Write.contents c.args.output.now)
          c.loop-read.session (g.R.Read.remaining c.loop-read.input) (g.W.Write.contents c.loop-read.output) c.loop-read.held.items c.loop-read.room c.loop-read.answers.ran c.loop-read.invariant.under
          (g.R.Read.remaining c.read_piece.new.input) c.read_piece.new.piece c.in_ok-count.count c.in_ok-count.ensures
          (take c.min-within.result c.read_piece.new.piece) c.run_piece.new.held.items c.run_piece.new.session (g.W.Write.contents c.run_piece.new.output) c.run_piece.new.answers.ran
          c.if-count-room.false (ap (λ (n : ℕ). take n c.read_piece.new.piece) within) c.in_ok-run_piece.ensures.run;
      refused = omega (arith, c.loop-read.invariant.refused, c.in_ok-run_piece.ensures.refused, part, c.if-count-room.false);
      edits = omega (arith, c.loop-read.invariant.edits, c.in_ok-run_piece.ensures.edits, part, c.if-count-room.false);
      reads = omega (arith, c.loop-read.invariant.reads, c.if-count-eq0.false, c.if-count-room.false);
    }

pub returns : goal.returns
returns g c = absurd (omega (arith, c.loop-read.invariant.reads, c.loop-read-test.false))
