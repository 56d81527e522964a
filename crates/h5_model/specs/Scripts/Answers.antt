-- A script: what each of its lines answers, how the line counts, and the session after it.
use Rattle.std.specs.Prelude.{ℕ, ◌+◌, ◌*◌, ◌/◌, ◌||◌, Bool, true, false, nat_le, if◌then◌else◌, ℤ, Option, Some, None, is_some, Result, Ok, Err, List, [], ◌∷◌, ◌++◌, map, length, codes}
use Rattle.std.specs.Fmt.{decimal}
use Rattle.std.specs.List.{range_with_len}
use Rattle.std.specs.FinMap.{get, insert, remove, contains_key, len}
use Rattle.std.specs.Option.{option_map_or}
use Rattle.h5_model.specs.Format.Limits.{most_views, most_numbers}
use Rattle.h5_model.specs.Format.Fixed.{Fixed, value_at}
use Rattle.h5_model.specs.Views.Selection.{axes_of}
use Rattle.h5_model.specs.Tree.Objects.{Tree, ToObject, Soft, dataset_of}
use Rattle.h5_model.specs.Tree.Paths.{Located, Here, location_of, object_at}
use Rattle.h5_model.specs.Edits.Applied.{state_after}
use Rattle.h5_model.specs.Edits.EditFaults.{refused_text}
use Rattle.h5_model.specs.Views.ViewFaults.{view_fault_text}
use Rattle.h5_model.specs.Edits.Refusal.{refusal_of, first_holding}
use Rattle.h5_model.specs.Scripts.Reading.{path_rules, selection_rules}
use Rattle.h5_model.specs.Views.Shown.{View, Shown, shows, is_lent, refreshed_of}
use Rattle.h5_model.specs.Scripts.Sessions.{Session}
use Rattle.h5_model.specs.Edits.ImageAnswers.{refusal_or}
use Rattle.h5_model.specs.Scripts.Text.{line_of, escaped_text, list_text, dump_text, values_text}
use Rattle.h5_model.specs.Scripts.Lines.{Command, Change, OpenView, Show, Close, ListAll, Dump, Repack, Unread}
use Rattle.h5_model.specs.declared.hyperslab.Hyper.{Hyper}
use Rattle.h5_model.specs.declared.edits.Edit.{Edit}
use Rattle.h5_model.specs.declared.edit_fault.EditFault.{EditFault}
use Rattle.h5_model.specs.declared.edit_fault.EditFault.TheVariants as fault
use Rattle.h5_model.specs.declared.view_fault.ViewFault.{ViewFault}
use Rattle.h5_model.specs.declared.view_fault.ViewFault.TheVariants as view_fault

-- whether what a view shows is lent from the image
abbrev pub view_is_lent : Tree → Option View → Bool
view_is_lent tree None = false
view_is_lent tree (Some view) = option_map_or (λ d. is_lent d view.slab) (dataset_of tree view.object) false

-- what the rules of the tree leave open: a refusal for the image or for memory
abbrev pub Given : Type 0
Given = Option EditFault

-- how a line counts: as a refused or bad one, as an accepted edit or `repack`, or as neither
pub data Outcome : Type 0 where
  Refused : Outcome
  Accepted : Outcome
  Told : Outcome

pub record Answer : Type 0 where
  pub text : List ℕ
  pub session : Session
  pub outcome : Outcome

abbrev pub answer_with : Outcome → List ℕ → Session → Answer
answer_with outcome text s = record { text = text; session = s; outcome = outcome }

-- an edit's answer: its refusal, else how many chunks were refreshed
abbrev pub edit_decided : Session → Edit → Option EditFault → Answer
edit_decided s edit (Some f) = answer_with Refused (refused_text f) s
edit_decided s edit None =
    answer_with Accepted (codes "ok " ++ decimal (refreshed_of (s.state).tree (state_after s.state edit).tree s.views edit) ++ codes "\n")
    (record s { state = state_after s.state edit })

abbrev pub edit_answer : Session → Edit → Given → Answer
edit_answer s edit given = edit_decided s edit (refusal_or (refusal_of (s.state).tree (s.state).next edit) given)

abbrev pub with_new_view : Session → ℕ → Hyper → Session
with_new_view s number hyper = record s {
  views = insert s.views s.next_view (record { object = number; slab = axes_of hyper });
  next_view = s.next_view + 1;
}

-- `most_views` are open, or the numbers of views are used up: they are those below `most_numbers`
abbrev pub has_many_views : Session → Bool
has_many_views s = nat_le most_views (len s.views) || nat_le most_numbers s.next_view

-- the rules of the path and the selection, then TooManyViews, then NoMemory; a view that is opened takes the next number
abbrev pub view_decided : Session → Hyper → Given → Option EditFault → Option ℕ → Answer
view_decided s hyper given (Some f) number = answer_with Refused (view_fault_text (view_fault.Path f)) s
view_decided s hyper given None None = answer_with Refused (view_fault_text (view_fault.Path fault.NotFound)) s
view_decided s hyper given None (Some number) =
    if has_many_views s then answer_with Refused (view_fault_text view_fault.TooManyViews) s
    else (if is_some given then answer_with Refused (view_fault_text view_fault.NoMemory) s
    else answer_with Told (codes "view " ++ decimal s.next_view ++ codes "\n") (with_new_view s number hyper))

abbrev pub view_answer : Session → List ℕ → Hyper → Given → Answer
view_answer s path hyper given =
    view_decided s hyper given (first_holding (selection_rules (s.state).tree path hyper)) (object_at (s.state).tree path)

-- what `dump` prints of what stands at a path
abbrev pub dump_of : Tree → List ℕ → Located → List ℕ
dump_of tree path (Here (ToObject number)) = option_map_or (dump_text (escaped_text path)) (get tree number) []
dump_of tree path (Here (Soft text)) = line_of (escaped_text path) (codes "soft " ++ escaped_text text)
dump_of tree path _ = []

-- text that a refusal stands in place of
abbrev pub told_unless : Option EditFault → List ℕ → Session → Answer
told_unless (Some f) text s = answer_with Refused (refused_text f) s
told_unless None text s = answer_with Told text s

abbrev pub dump_answer : Session → List ℕ → Given → Answer
dump_answer s path given =
    told_unless (refusal_or (first_holding (path_rules (s.state).tree path)) given) (dump_of (s.state).tree path (location_of (s.state).tree path)) s

-- the values of stored bytes
abbrev pub stored_values : Fixed → List ℕ → List ℤ
stored_values t bytes = map (λ k. value_at t bytes (k * t.size)) (range_with_len 0 (length bytes / t.size))

-- what is shown: whether it is lent, and its values
abbrev pub shown_text : Bool → Shown → List ℕ
shown_text lent shown =
    (if lent then codes "lent" else codes "kept") ++ values_text (stored_values shown.fixed shown.bytes) ++ codes "\n"

abbrev pub show_told : Session → ℕ → Result Shown ViewFault → Answer
show_told s number (Err f) = answer_with Refused (view_fault_text f) s
show_told s number (Ok shown) =
    answer_with Told (shown_text (view_is_lent (s.state).tree (get s.views number)) shown) s

abbrev pub show_answer : Session → ℕ → Answer
show_answer s number = show_told s number (shows (s.state).tree s.views number)

abbrev pub close_answer : Session → ℕ → Answer
close_answer s number =
    if contains_key s.views number then answer_with Told (codes "closed\n") (record s { views = remove s.views number })
    else answer_with Refused (view_fault_text view_fault.NoSuchView) s

abbrev pub repack_answer : Session → Given → Answer
repack_answer s (Some f) = answer_with Refused (refused_text f) s
repack_answer s None = answer_with Accepted (codes "ok 0\n") s

-- what a line answers, and the session after it
abbrev pub answer_of : Session → Command → Given → Answer
answer_of s (Change edit) given = edit_answer s edit given
answer_of s (OpenView path hyper) given = view_answer s path hyper given
answer_of s (Show number) given = show_answer s number
answer_of s (Close number) given = close_answer s number
answer_of s ListAll given = told_unless given (list_text (s.state).tree) s
answer_of s (Dump path) given = dump_answer s path given
answer_of s Repack given = repack_answer s given
answer_of s Unread given = answer_with Refused (codes "bad line\n") s

-- the text of all lines' answers
unfoldable pub transcript_of : Session → List (Command × Given) → List ℕ
transcript_of s [] = []
transcript_of s (line ∷ lines) =
    (answer_of s line.0 line.1).text ++ transcript_of (answer_of s line.0 line.1).session lines

-- the session after the lines
unfoldable pub session_after : Session → List (Command × Given) → Session
session_after s [] = s
session_after s (line ∷ lines) = session_after (answer_of s line.0 line.1).session lines

-- the outcomes of the lines
abbrev pub outcomes_of : Session → List (Command × Given) → List Outcome
outcomes_of s [] = []
outcomes_of s (line ∷ lines) =
    (answer_of s line.0 line.1).outcome ∷ outcomes_of (answer_of s line.0 line.1).session lines

abbrev pub is_refused : Outcome → Bool
is_refused Refused = true
is_refused _ = false

abbrev pub is_accepted : Outcome → Bool
is_accepted Accepted = true
is_accepted _ = false
