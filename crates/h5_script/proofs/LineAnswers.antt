-- What one line answers, by what it asks for.
use Rattle.std.proofs.Common.{◌≡◌, ℕ, false, Option, Some, None, List, [], ◌++◌, length, codes, refl, sym, ap, ◌∙◌, subst, append_assoc}
use Rattle.std.specs.Prelude.{Result, Ok, Err, IsErr, is_err, IfOk, MatchResult}
use Rattle.std.proofs.lemmas.Bool.{false≢true}
use Rattle.h5_text.specs.Appends.{Appends}
use Rattle.h5_dump.specs.Dumped.{IsUndumped}
use Rattle.h5_dump.specs.declared.fault.DumpFault.TheVariants as dump
use Rattle.std.specs.declared.alloc.AllocError.{AllocError}
use Rattle.std.specs.Fmt.{decimal, digits}
use Rattle.h5_model.specs.Edits.Applied.{State, state_after}
use Rattle.h5_model.specs.Edits.EditFaults.{refused_text}
use Rattle.h5_model.specs.Scripts.Lines.{Command, Change, ListAll, Dump, Repack, Unread}
use Rattle.h5_model.specs.Scripts.Sessions.{Session}
use Rattle.h5_model.specs.Tree.Paths.{location_of}
use Rattle.h5_model.specs.Scripts.Reading.{path_rules}
use Rattle.h5_model.specs.Edits.Refusal.{first_holding}
use Rattle.h5_model.specs.Scripts.Answers.{dump_of}
use Rattle.h5_model.specs.Scripts.Text.{list_text}
use Rattle.h5_model.specs.Views.Shown.{Views, refreshed_of}
use Rattle.h5_model.specs.declared.edits.Edit.{Edit}
use Rattle.h5_model.specs.declared.edits.Edited.{Edited}
use Rattle.h5_model.specs.declared.edit_fault.EditFault.{EditFault}
use Rattle.h5_model.specs.declared.edit_fault.EditFault.TheVariants as fault
use Rattle.h5_dump.specs.Carried.{IsRefused}
use Rattle.h5_dump.specs.Opened.State.{state_of}
use Rattle.h5_dump.specs.Repacked.{IsRepackRefused}
use Rattle.h5_dump.specs.Session.{SessionState, IsSessionEdited, IsSessionRepacked}
use Rattle.h5_script.specs.Answered.{answer_at, IsAnswered, IsUntold}
use Rattle.h5_script.specs.GivenAt.{IsGivenAt}
use Rattle.h5_script.specs.declared.ran.Outcome.{Outcome}
use Rattle.h5_script.specs.declared.ran.Outcome.TheVariants.{Refused, Accepted, Told}

-- the answer stands in the buffer, or there was no memory for it
pub told_or_not : (result : Result Outcome AllocError) (s t : SessionState) (command : Command) (text wanted : List ℕ) (o : Outcome)
    → IsAnswered s command t wanted o → IfOk result (λ x. (x ≡ o) × (text ≡ wanted)) → MatchResult result (IsAnswered s command t text) (λ _. IsUntold s command t)
told_or_not (Ok x) s t command text wanted o is (same, equal) =
    subst (λ (outcome : Outcome). IsAnswered s command t text outcome) (sym same) (subst (λ (told : List ℕ). IsAnswered s command t told o) (sym equal) is)
told_or_not (Err e) s t command text wanted o is ok = record { given = is.given; run = is.run }

-- the answer has no memory
pub not_told : (s t : SessionState) (command : Command) (text : List ℕ) (o : Outcome) → IsAnswered s command t text o → IsUntold s command t
not_told s t command text o is = record { given = is.given; run = is.run }

-- there was no memory for the answer
pub by_error : (result : Result Outcome AllocError) (s t : SessionState) (command : Command) (text : List ℕ) → IsErr result → IsUntold s command t
    → MatchResult result (IsAnswered s command t text) (λ _. IsUntold s command t)
by_error (Ok x) s t command text failed is = absurd (false≢true failed)
by_error (Err e) s t command text failed is = is

-- a text that was appended to nothing
pub appended : {T : Type 0} (result : Result T AllocError) (old new text : List ℕ) → is_err result ≡ false → old ≡ [] → Appends result old new text → new ≡ text
appended (Ok x) old new text fine none is = is ∙ ap (λ xs. xs ++ text) none
appended (Err e) old new text fine none is = absurd (false≢true (sym fine))

-- the text stands in a buffer
pub shown_as : (s t : SessionState) (command : Command) (text shown : List ℕ) (o : Outcome) → shown ≡ text → IsAnswered s command t text o → IsAnswered s command t shown o
shown_as s t command text shown o same is = subst (λ (told : List ℕ). IsAnswered s command t told o) (sym same) is

-- a line of no form
pub bad_answer : (s : SessionState) (command : Command) → command ≡ Unread → IsAnswered s command s (codes "bad line\n") Refused
unfolding answer_at IsGivenAt
bad_answer s command bad = record {
  given = None;
  run = record { allowed = rw bad refl; session_is = rw bad refl; left = rw bad refl };
  text_is = rw bad refl;
  outcome_is = rw bad refl;
}

-- ---- edits

abbrev session_with : State → Views → ℕ → Session
session_with state views next = record { state = state; views = views; next_view = next }

-- another state beside the same views
same_views : (old new : State) (views views' : Views) (next next' : ℕ) → new ≡ old → views' ≡ views → next' ≡ next → session_with new views' next' ≡ session_with old views next
same_views old new views views' next next' state_is views_are next_is =
    ap (λ s. session_with s views' next') state_is ∙ ap (λ v. session_with old v next') views_are ∙ ap (λ n. session_with old views n) next_is

-- an accepted edit
pub edit_accepted : (before after : SessionState) (edit : Edit) (e : Edited) → IsSessionEdited before edit after e
    → IsAnswered before (Change edit) after (codes "ok " ++ (decimal e.refreshed ++ codes "\n")) Accepted
unfolding answer_at IsGivenAt
edit_accepted before after edit e is = record {
  given = None;
  run = record {
    allowed = is.file.accepted.given;
    session_is = same_views _ _ before.views after.views before.next_view after.next_view is.file.state is.views is.next_view ∙ rw is.file.accepted.accepted refl;
    left = rw is.file.accepted.accepted (record e { refreshed = 0 }, is.file);
  };
  text_is = ap (λ n. codes "ok " ++ (decimal n ++ codes "\n")) (is.refreshed ∙ ap (λ (s : State). refreshed_of before.file.tree s.tree before.views edit) is.file.state)
      ∙ rw is.file.accepted.accepted
      (sym (append_assoc (codes "ok ") (decimal (refreshed_of before.file.tree (state_after (state_of before.file) edit).tree before.views edit)) (codes "\n")));
  outcome_is = rw is.file.accepted.accepted refl;
}

-- a refused one
refused_by : (s : SessionState) (edit : Edit) (f : EditFault) → IsRefused s.file edit f → IsAnswered s (Change edit) s (refused_text f) Refused
unfolding answer_at IsGivenAt
refused_by s edit f is = record {
  given = is.given;
  run = record { allowed = is.allowed; session_is = rw is.answer refl; left = rw is.answer refl };
  text_is = rw is.answer refl;
  outcome_is = rw is.answer refl;
}

pub edit_refused : (before after : SessionState) (edit : Edit) (f : EditFault) → IsRefused before.file edit f → after ≡ before
    → IsAnswered before (Change edit) after (refused_text f) Refused
edit_refused before after edit f refused stays =
    subst (λ (s : SessionState). IsAnswered before (Change edit) s (refused_text f) Refused) (sym stays)
    (refused_by before edit f refused)

-- ---- `repack`

pub repack_accepted : (before after : SessionState) → IsSessionRepacked before after → IsAnswered before Repack after (codes "ok " ++ (decimal 0 ++ codes "\n")) Accepted
unfolding answer_at IsGivenAt digits
repack_accepted before after is = record {
  given = None;
  run = record {
    allowed = (length after.file.image, is.file.long, is.file.few);
    session_is = same_views _ _ before.views after.views before.next_view after.next_view is.file.state is.views is.next_view;
    left = is.file;
  };
  text_is = refl;
  outcome_is = refl;
}

repack_refused_by : (s : SessionState) (f : EditFault) → IsRepackRefused s.file f → IsAnswered s Repack s (refused_text f) Refused
unfolding answer_at IsGivenAt
repack_refused_by s f is = record {
  given = Some f;
  run = record { allowed = is; session_is = refl; left = refl };
  text_is = refl;
  outcome_is = refl;
}

pub repack_refused : (before after : SessionState) (f : EditFault) → IsRepackRefused before.file f → after ≡ before → IsAnswered before Repack after (refused_text f) Refused
repack_refused before after f is stays =
    subst (λ (s : SessionState). IsAnswered before Repack s (refused_text f) Refused) (sym stays) (repack_refused_by before f is)

-- ---- `ls` and `dump`

pub list_told : (s : SessionState) → IsAnswered s ListAll s (list_text s.file.tree) Told
unfolding answer_at IsGivenAt
list_told s = record { given = None; run = record { allowed = tt; session_is = refl; left = refl }; text_is = refl; outcome_is = refl }

pub list_refused : (s : SessionState) → IsAnswered s ListAll s (refused_text fault.NoMemory) Refused
unfolding answer_at IsGivenAt
list_refused s = record { given = Some fault.NoMemory; run = record { allowed = tt; session_is = refl; left = refl }; text_is = refl; outcome_is = refl }

pub dump_told : (s : SessionState) (path : List ℕ) → first_holding (path_rules s.file.tree path) ≡ None → IsAnswered s (Dump path) s (dump_of s.file.tree path (location_of s.file.tree path)) Told
unfolding answer_at IsGivenAt
dump_told s path accepted = record {
  given = None;
  run = record { allowed = tt; session_is = rw accepted refl; left = rw accepted refl };
  text_is = rw accepted refl;
  outcome_is = rw accepted refl;
}

dump_refused : (s : SessionState) (path : List ℕ) (f : EditFault) → first_holding (path_rules s.file.tree path) ≡ Some f → IsAnswered s (Dump path) s (refused_text f) Refused
unfolding answer_at IsGivenAt
dump_refused s path f refused = record {
  given = None;
  run = record { allowed = tt; session_is = rw refused refl; left = rw refused refl };
  text_is = rw refused refl;
  outcome_is = rw refused refl;
}

dump_no_memory : (s : SessionState) (path : List ℕ) → first_holding (path_rules s.file.tree path) ≡ None → IsAnswered s (Dump path) s (refused_text fault.NoMemory) Refused
unfolding answer_at IsGivenAt
dump_no_memory s path accepted = record {
  given = Some fault.NoMemory;
  run = record { allowed = tt; session_is = rw accepted refl; left = rw accepted refl };
  text_is = rw accepted refl;
  outcome_is = rw accepted refl;
}

-- a dump that was refused, before anything was written
pub dump_undumped : (s : SessionState) (path : List ℕ) (old new : Option (List ℕ)) (f : EditFault) → IsUndumped s.file.tree path old new (dump.Refused f)
    → IsAnswered s (Dump path) s (refused_text f) Refused
dump_undumped s path old new fault.NoMemory is = dump_no_memory s path is.0
dump_undumped s path old new f is = dump_refused s path f is.0

pub undumped_same : (s : SessionState) (path : List ℕ) (old new : Option (List ℕ)) (f : EditFault) → IsUndumped s.file.tree path old new (dump.Refused f) → new ≡ old
undumped_same s path old new fault.NoMemory is = is.1
undumped_same s path old new f is = is.1
