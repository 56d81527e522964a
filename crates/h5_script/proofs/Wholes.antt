-- Nothing leaks, whatever lines are run.
use Rattle.std.proofs.Common.{◌≡◌, ◌⊎◌, ℕ, Option, List, [], ◌∷◌, inl, inr, refl, sym, subst}
use Rattle.std.specs.Prelude.{Result, Ok, Err, MatchResult}
use Rattle.h5_model.specs.Scripts.Answers as script
use Rattle.h5_model.specs.Scripts.Lines.{Command, Change, OpenView, Show, Close, ListAll, Dump, Repack, Unread}
use Rattle.h5_dump.specs.Opened.Sound.{IsWholeFile}
use Rattle.h5_dump.specs.Opened.State.{FileState}
use Rattle.h5_dump.specs.Session.{SessionState}
use Rattle.h5_script.specs.Answered.{Line, answer_at, IsAcceptedRepack, IsRunIn, Leaves}
use Rattle.h5_script.specs.Runs.{AreRun, HasBegun, HasAcceptedRepack, LeavesWhole}
use Rattle.h5_script.specs.Script.{IsDone, IsStopped, IsCutOff}
use Rattle.h5_script.specs.declared.fault.RunFault.{RunFault}
use Rattle.h5_script.specs.declared.fault.RunFault.TheVariants.{ScriptRead, ScriptWrite, ScriptTooLong, NoMemory}
use Rattle.h5_script.specs.declared.ran.Ran.{Ran}

same_file : (f after : FileState) → IsWholeFile f → after ≡ f → IsWholeFile after
same_file f after whole same = subst IsWholeFile (sym same) whole

-- whatever a line leaves
whole_left : (outcome : script.Outcome) (command : Command) (f after : FileState) → IsWholeFile f → Leaves outcome command f after → IsWholeFile after
whole_left script.Accepted (Change edit) f after whole left = left.1.changed.whole whole
whole_left script.Accepted Repack f after whole left = left.whole
whole_left script.Accepted (OpenView path hyper) f after whole left = same_file f after whole left
whole_left script.Accepted (Show number) f after whole left = same_file f after whole left
whole_left script.Accepted (Close number) f after whole left = same_file f after whole left
whole_left script.Accepted ListAll f after whole left = same_file f after whole left
whole_left script.Accepted (Dump path) f after whole left = same_file f after whole left
whole_left script.Accepted Unread f after whole left = same_file f after whole left
whole_left script.Refused command f after whole left = same_file f after whole left
whole_left script.Told command f after whole left = same_file f after whole left

-- whatever the file was before a `repack`
anew : (s : SessionState) (line : Line) → IsAcceptedRepack s line → IsRunIn s line → IsWholeFile line.after.file
anew s line is run =
    let f = s.file in
    let after = line.after.file in
    let left : Leaves script.Accepted Repack f after = subst (λ (command : Command). Leaves script.Accepted command f after) is.command
    (subst (λ (o : script.Outcome). Leaves o line.command f after) is.outcome run.left) in
    left.whole

pub whole_after : (s t : SessionState) (lines : List Line) → AreRun s lines t → IsWholeFile s.file ⊎ HasAcceptedRepack s lines → IsWholeFile t.file
unfolding AreRun HasAcceptedRepack
whole_after s t [] each (inl whole) = subst (λ (q : SessionState). IsWholeFile q.file) (sym each) whole
whole_after s t [] each (inr repacked) = absurd repacked
whole_after s t (line ∷ lines) each (inl whole) =
    whole_after line.after t lines each.1 (inl (whole_left (answer_at s line.command line.given).outcome line.command s.file line.after.file whole each.0.left))
whole_after s t (line ∷ lines) each (inr (inl first)) = whole_after line.after t lines each.1 (inl (anew s line first each.0))
whole_after s t (line ∷ lines) each (inr (inr later)) = whole_after line.after t lines each.1 (inr later)

pub whole_behind : (s : SessionState) (line : Line) → IsRunIn s line → LeavesWhole s (line ∷ []) line.after
unfolding AreRun
whole_behind s line run = whole_after s line.after (line ∷ []) (run, refl)

-- ---- a run, however it ends

abbrev Known : Type 0
Known = Option (List ℕ)

begun_whole : (asked : List Command) (s t : SessionState) (old new : Known) → IsWholeFile s.file → HasBegun asked s t old new → IsWholeFile t.file
begun_whole asked s t old new whole begun =
    let between : IsWholeFile (begun.between).file = begun.run.whole (inl whole) in
    elim begun.last [
      | inl none ↦ subst (λ (q : SessionState). IsWholeFile q.file) (sym none.0) between
      | inr partly ↦ partly.whole (inl between)
    ]

cut_whole : (s t : SessionState) (input left old new : Known) → IsWholeFile s.file → IsCutOff s t input left old new → IsWholeFile t.file
cut_whole s t input left old new whole off = elim off.run [
  | inl begun ↦ begun_whole _ s t old new whole begun
  | inr last ↦ begun_whole _ s t old new whole last.1
]

stopped_whole : (s t : SessionState) (input left old new : Known) (f : RunFault) → IsWholeFile s.file → IsStopped s t input left old new f → IsWholeFile t.file
stopped_whole s t input left old new ScriptRead whole stopped = stopped.run.whole (inl whole)
stopped_whole s t input left old new ScriptTooLong whole stopped = stopped.run.whole (inl whole)
stopped_whole s t input left old new ScriptWrite whole stopped = cut_whole s t input left old new whole stopped
stopped_whole s t input left old new NoMemory whole stopped = cut_whole s t input left old new whole stopped

pub run_whole : (result : Result Ran RunFault) (s t : SessionState) (input left old new : Known)
    → MatchResult result (IsDone s t input left old new) (IsStopped s t input left old new) → IsWholeFile s.file → IsWholeFile t.file
run_whole (Ok ran) s t input left old new done whole = done.run.run.whole (inl whole)
run_whole (Err fault) s t input left old new stopped whole = stopped_whole s t input left old new fault whole stopped
