-- The run of one line.
use Rattle.std.proofs.Common.{◌≡◌, ℕ, ◌+◌, Bool, Option, Some, None, List, [], ◌∷◌, cond, refl, sym, ap, ◌∙◌, subst, append-nil, arith}
use Rattle.std.specs.Io.KnownBytes.{Appends}
use Rattle.h5_dump.specs.Session.{SessionState, session_of}
use Rattle.std.specs.Option.{option_map_or}
use Rattle.h5_model.specs.Scripts.Lines.{Command, line_asks}
use Rattle.h5_script.specs.Pieces.{commands_of_line}
use Rattle.h5_script.proofs.RunLaws.{has_begun_one, has_counted_none}
use Rattle.h5_model.specs.Scripts.Answers.{Given, is_accepted, is_refused, session_after, transcript_of}
use Rattle.h5_model.specs.Scripts.Answers as script
use Rattle.h5_script.specs.Answered.{Line, answer_at, outcome_of, IsAnswered, IsRunIn, IsTold, IsUntold}
use Rattle.h5_script.specs.Runs.{asked_in, AreRun, HasRun, HasCounted, HasBegun, IsRunCut, RunsTo, Tells, run_fault}
use Rattle.h5_text.specs.Printed.{WritesSome}
use Rattle.h5_script.specs.declared.ran.Outcome.{Outcome}
use Rattle.h5_script.specs.declared.ran.Ran.{Ran}
use Rattle.std.specs.Prelude.{Result, Ok, Err, MatchResult, IsErrAnd}
use Rattle.std.proofs.KnownBytes.{Appends-nil}
use Rattle.h5_script.specs.declared.fault.RunFault.{RunFault}
use Rattle.h5_script.specs.declared.fault.RunFault.TheVariants.{NoMemory}
use Rattle.h5_text.specs.declared.streams.PrintFault.{PrintFault}
use Rattle.h5_text.specs.declared.streams.PrintFault.TheVariants.{WriteFailed}
use Rattle.h5_text.specs.declared.streams.PrintFault.TheVariants as print
use Rattle.h5_script.proofs.Wholes.{whole_behind}

abbrev line_with : Command → Given → SessionState → Line
line_with command given after = record { command = command; given = given; after = after }

abbrev Known : Type 0
Known = Option (List ℕ)

one_text : (s : SessionState) (line : Line) → (answer_at s line.command line.given).text ≡ transcript_of (session_of s) (asked_in (line ∷ []))
unfolding transcript_of answer_at
one_text s line = sym (append-nil (answer_at s line.command line.given).text)

-- a run of one line
one_run : (s : SessionState) (line : Line) (old new : Known) → IsRunIn s line → Appends old new (answer_at s line.command line.given).text → HasRun (line.command ∷ []) s line.after old new
unfolding AreRun session_after answer_at
one_run s line old new run written = record {
  lines = line ∷ [];
  asked_are = refl;
  each = (run, refl);
  session_is = run.session_is;
  whole = whole_behind s line run;
  written = subst (λ (told : List ℕ). Appends old new told) (one_text s line) written;
}

-- the line was answered, and the answer was written and counted
pub line_ran : (s t : SessionState) (command : Command) (text : List ℕ) (outcome : Outcome) (old new : Known) (a b : Ran) → IsAnswered s command t text outcome → Appends old new text
    → b.refused ≡ a.refused + cond (is_refused (outcome_of outcome)) 1 0 → b.edits ≡ a.edits + cond (is_accepted (outcome_of outcome)) 1 0
    → HasCounted (command ∷ []) s t old new a b
unfolding one_run answer_at
line_ran s t command text outcome old new a b answered written refused edits = record {
  run = one_run s (line_with command answered.given t) old new answered.run (subst (λ (told : List ℕ). Appends old new told) answered.text_is written);
  refused = refused ∙ counted is_refused a.refused;
  edits = edits ∙ counted is_accepted a.edits;
} where
  counted : (p : script.Outcome → Bool) (n : ℕ) → n + cond (p (outcome_of outcome)) 1 0 ≡ n + (0 + cond (p (answer_at s command answered.given).outcome) 1 0)
  counted p n = ap (λ o. n + cond (p o) 1 0) answered.outcome_is
      ∙ (let sum : n + cond (p (answer_at s command answered.given).outcome) 1 0 ≡ n + (0 + cond (p (answer_at s command answered.given).outcome) 1 0) = omega arith in sum)

-- the line was answered, and a beginning of the answer was written
pub line_cut : (s t : SessionState) (command : Command) (text : List ℕ) (outcome : Outcome) (old new : Known) → IsAnswered s command t text outcome → WritesSome old new text
    → HasBegun (command ∷ []) s t old new
line_cut s t command text outcome old new answered some = has_begun_one (command ∷ []) s t old new (record {
  line = line_with command answered.given t;
  others = [];
  asked_are = refl;
  run = answered.run;
  after_is = refl;
  whole = whole_behind s (line_with command answered.given t) answered.run;
  written = subst (λ (told : List ℕ). WritesSome old new told) answered.text_is some;
})

-- there was no memory for the answer
pub line_untold : (s t : SessionState) (command : Command) (known : Known) → IsUntold s command t → HasBegun (command ∷ []) s t known known
line_untold s t command known untold = has_begun_one (command ∷ []) s t known known (record {
  line = line_with command untold.given t;
  others = [];
  asked_are = refl;
  run = untold.run;
  after_is = refl;
  whole = whole_behind s (line_with command untold.given t) untold.run;
  written = record {
    told = [];
    untold = (answer_at s command untold.given).text;
    whole = refl;
    written = Appends-nil known;
  };
})

-- memory was refused
pub by_memory : {T : Type 0} (result : Result T RunFault) (P : T → Type 0) (B : Type 0) → IsErrAnd result (λ f. f ≡ NoMemory) → B → MatchResult result P (λ f. IsRunCut f × B)
by_memory (Ok x) P B refused begun = absurd refused
by_memory (Err f) P B refused begun = (subst IsRunCut (sym refused) tt, begun)

-- the fault of a part is that of the whole
pub by_fault : {T : Type 0} (result : Result T RunFault) (P : T → Type 0) (B : Type 0) (e : RunFault) → IsErrAnd result (λ f. f ≡ e) → IsRunCut e → B → MatchResult result P (λ f. IsRunCut f × B)
by_fault (Ok x) P B e refused is begun = absurd refused
by_fault (Err f) P B e refused is begun = (subst IsRunCut (sym refused) is, begun)

-- why an answer is cut off is why a run ends early
pub run_cut : (reason : PrintFault) (f : RunFault) → f ≡ run_fault reason → IsRunCut f
run_cut WriteFailed f is = subst IsRunCut (sym is) tt
run_cut print.NoMemory f is = subst IsRunCut (sym is) tt

-- there was no memory for the answer, or only a beginning of it was written
pub tells_untold : (result : Result Outcome RunFault) (s t : SessionState) (command : Command) (known : Known) → IsErrAnd result (λ f. f ≡ NoMemory) → IsUntold s command t
    → Tells result s command t known known
tells_untold result s t command known refused untold = by_memory result (IsTold s command t known known) _ refused (line_untold s t command known untold)

pub tells_cut : (result : Result Outcome RunFault) (s t : SessionState) (command : Command) (text : List ℕ) (outcome : Outcome) (old new : Known) (reason : PrintFault)
    → IsErrAnd result (λ f. f ≡ run_fault reason) → IsAnswered s command t text outcome → WritesSome old new text → Tells result s command t old new
tells_cut (Ok x) s t command text outcome old new reason refused answered some = absurd refused
tells_cut (Err f) s t command text outcome old new reason refused answered some = (run_cut reason f refused, line_cut s t command text outcome old new answered some)

-- ---- what a line asks for

asked_by : {T : Type 0} (result : Result T RunFault) (asked others : List Command) (s t : SessionState) (old new : Known) (a b : Ran) → asked ≡ others
    → RunsTo result asked s t old new a b → RunsTo result others s t old new a b
asked_by result asked others s t old new a b same runs = subst (λ (commands : List Command). RunsTo result commands s t old new a b) same runs

-- a line that is passed over
pub line_passed : (line : List ℕ) (s : SessionState) (known : Known) (counts : Ran) → None ≡ line_asks line → HasCounted (commands_of_line line) s s known known counts counts
line_passed line s known counts none =
    subst (λ (commands : List Command). HasCounted commands s s known known counts counts) (ap (λ asked. option_map_or (λ command. command ∷ []) asked []) none) (has_counted_none s known counts)

-- a line that asks for a command
pub line_asked : {T : Type 0} (result : Result T RunFault) (line : List ℕ) (command : Command) (s t : SessionState) (old new : Known) (a b : Ran) → Some command ≡ line_asks line
    → RunsTo result (command ∷ []) s t old new a b → RunsTo result (commands_of_line line) s t old new a b
line_asked result line command s t old new a b some runs =
    asked_by result (command ∷ []) (commands_of_line line) s t old new a b (ap (λ asked. option_map_or (λ c. c ∷ []) asked []) some) runs
