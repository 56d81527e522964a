-- What lines of views answer.
use Rattle.std.proofs.Common.{◌≡◌, ℕ, ◌+◌, Bool, true, false, Option, Some, None, List, ◌++◌, codes, refl, sym, ap, ◌∙◌, subst, append_assoc}
use Rattle.std.specs.Prelude.{is_none, Ok, Err}
use Rattle.std.specs.FinMap.{get, insert}
use Rattle.std.specs.Fmt.{decimal}
use Rattle.std.specs.Option.{option_and_then}
use Rattle.h5_model.specs.Edits.Refusal.{first_holding, is_here}
use Rattle.h5_model.specs.Scripts.Answers.{has_many_views, shown_text, view_is_lent}
use Rattle.h5_model.specs.Scripts.Lines.{OpenView, Show, Close}
use Rattle.h5_model.specs.Scripts.Reading.{selection_rules}
use Rattle.h5_model.specs.Tree.Objects.{Tree, Dataset, dataset_of}
use Rattle.h5_model.specs.Tree.Paths.{dataset_at, location_of, names_of, object_at}
use Rattle.h5_model.specs.Views.Selection.{Slab, axes_of}
use Rattle.h5_model.specs.Views.Shown.{Shown, View, shows}
use Rattle.h5_model.specs.Views.ViewFaults.{view_fault_text}
use Rattle.h5_model.specs.declared.edit_fault.EditFault.{EditFault}
use Rattle.h5_model.specs.declared.edit_fault.EditFault.TheVariants as fault
use Rattle.h5_model.specs.declared.hyperslab.Hyper.{Hyper}
use Rattle.h5_model.specs.declared.view_fault.ViewFault.{ViewFault}
use Rattle.h5_model.specs.declared.view_fault.ViewFault.TheVariants as view_fault
use Rattle.h5_model.proofs.PathLaws.{located-is_place}
use Rattle.h5_model.proofs.RefusalLaws.{here, none_holds, some_of}
use Rattle.h5_dump.specs.Session.{SessionState, session_of, IsViewOpened, IsViewRefused, IsViewClosed, IsViewNotOpen}
use Rattle.h5_script.specs.Answered.{answer_at, IsAnswered}
use Rattle.h5_script.specs.GivenAt.{IsGivenAt}
use Rattle.h5_script.specs.declared.ran.Outcome.TheVariants.{Refused, Told}

-- ---- `view`

-- a view of a selection's axes
abbrev viewed : ℕ → Slab → View
viewed object slab = record { object = object; slab = slab }

same_view : (view : View) (slab : Slab) → view.slab ≡ slab → view ≡ viewed view.object slab
same_view view slab is = ap (viewed view.object) is

-- the session with a view more
abbrev with_view : SessionState → View → SessionState
with_view s view = record s { views = insert s.views s.next_view view; next_view = s.next_view + 1 }

pub view_opened : (before after : SessionState) (path : List ℕ) (hyper : Hyper) (number : ℕ) → IsViewOpened before path hyper number after
    → IsAnswered before (OpenView path hyper) after (codes "view " ++ (decimal number ++ codes "\n")) Told
unfolding answer_at IsGivenAt
view_opened before after path hyper number is = record {
  given = None;
  run = record {
    allowed = tt;
    session_is = ap session_of is.after_is
        ∙ (ap (λ (view : View). session_of (with_view before view)) (same_view is.view (axes_of hyper) is.view_is.axes)
        ∙ rw (is.view_is.allowed, is.view_is.stands, is.few) refl);
    left = rw (is.view_is.allowed, is.view_is.stands, is.few) (ap (λ (s : SessionState). s.file) is.after_is);
  };
  text_is = ap (λ n. codes "view " ++ (decimal n ++ codes "\n")) is.number_is ∙ rw (is.view_is.allowed, is.view_is.stands, is.few)
      (sym (append_assoc (codes "view ") (decimal before.next_view) (codes "\n")));
  outcome_is = rw (is.view_is.allowed, is.view_is.stands, is.few) refl;
}

-- where no rule of a selection holds, an object stands at its path
stands : (tree : Tree) (path : List ℕ) (hyper : Hyper) → first_holding (selection_rules tree path hyper) ≡ None → (number : ℕ) × (object_at tree path ≡ Some number)
stands tree path hyper h =
    let rules = none_holds (selection_rules tree path hyper) h in
    let form : is_none (names_of path) ≡ false = rules.0 in
    let later = rules.1.1 in
    let placed : is_here (location_of tree path) ≡ true = here (location_of tree path) (located-is_place tree path form) later.0 later.1.0 later.1.1.0 in
    let found : (d : Dataset) × (dataset_at tree path ≡ Some d) = some_of (is_here (location_of tree path)) (dataset_at tree path) placed later.1.1.1.0 in
    numbered (object_at tree path) found.0 found.1 where
      numbered : (at : Option ℕ) (d : Dataset) → option_and_then (dataset_of tree) at ≡ Some d → (number : ℕ) × (at ≡ Some number)
      numbered None d is = absurd (cc)
      numbered (Some number) d is = (number, refl)

rule_refused : (s : SessionState) (path : List ℕ) (hyper : Hyper) (f : EditFault) → first_holding (selection_rules s.file.tree path hyper) ≡ Some f
    → IsAnswered s (OpenView path hyper) s (view_fault_text (view_fault.Path f)) Refused
unfolding answer_at IsGivenAt
rule_refused s path hyper f is = record {
  given = None;
  run = record { allowed = tt; session_is = rw is refl; left = rw is refl };
  text_is = rw is refl;
  outcome_is = rw is refl;
}

many_refused : (s : SessionState) (path : List ℕ) (hyper : Hyper) → first_holding (selection_rules s.file.tree path hyper) ≡ None → has_many_views (session_of s) ≡ true
    → IsAnswered s (OpenView path hyper) s (view_fault_text view_fault.TooManyViews) Refused
unfolding answer_at IsGivenAt
many_refused s path hyper allowed many =
    let object = (stands s.file.tree path hyper allowed).1 in
    record {
      given = None;
      run = record { allowed = tt; session_is = rw (allowed, object, many) refl; left = rw (allowed, object, many) refl };
      text_is = rw (allowed, object, many) refl;
      outcome_is = rw (allowed, object, many) refl;
    }

memory_refused : (s : SessionState) (path : List ℕ) (hyper : Hyper) → first_holding (selection_rules s.file.tree path hyper) ≡ None → has_many_views (session_of s) ≡ false
    → IsAnswered s (OpenView path hyper) s (view_fault_text view_fault.NoMemory) Refused
unfolding answer_at IsGivenAt
memory_refused s path hyper allowed few =
    let object = (stands s.file.tree path hyper allowed).1 in
    record {
      given = Some fault.NoMemory;
      run = record { allowed = tt; session_is = rw (allowed, object, few) refl; left = rw (allowed, object, few) refl };
      text_is = rw (allowed, object, few) refl;
      outcome_is = rw (allowed, object, few) refl;
    }

refused_there : (s : SessionState) (path : List ℕ) (hyper : Hyper) (f : ViewFault) → IsViewRefused s path hyper f
    → IsAnswered s (OpenView path hyper) s (view_fault_text f) Refused
refused_there s path hyper (view_fault.Path f) is = rule_refused s path hyper f is
refused_there s path hyper view_fault.TooManyViews is = many_refused s path hyper is.0 is.1
refused_there s path hyper view_fault.NoMemory is = memory_refused s path hyper is.0 is.1
refused_there s path hyper view_fault.NoSuchView is = absurd is
refused_there s path hyper view_fault.Gone is = absurd is
refused_there s path hyper view_fault.OutsideNow is = absurd is

pub view_refused : (before after : SessionState) (path : List ℕ) (hyper : Hyper) (f : ViewFault) → IsViewRefused before path hyper f → after ≡ before
    → IsAnswered before (OpenView path hyper) after (view_fault_text f) Refused
view_refused before after path hyper f is stays =
    subst (λ (s : SessionState). IsAnswered before (OpenView path hyper) s (view_fault_text f) Refused) (sym stays) (refused_there before path hyper f is)

-- ---- `show`

pub view_shown : (s : SessionState) (number : ℕ) (lent : Bool) (shown : Shown) → shows s.file.tree s.views number ≡ Ok shown → lent ≡ view_is_lent s.file.tree (get s.views number)
    → IsAnswered s (Show number) s (shown_text lent shown) Told
unfolding answer_at IsGivenAt
view_shown s number lent shown is told = record {
  given = None;
  run = record { allowed = refl; session_is = rw is refl; left = rw is refl };
  text_is = ap (λ b. shown_text b shown) told ∙ rw is refl;
  outcome_is = rw is refl;
}

pub view_not_shown : (s : SessionState) (number : ℕ) (f : ViewFault) → shows s.file.tree s.views number ≡ Err f → IsAnswered s (Show number) s (view_fault_text f) Refused
unfolding answer_at IsGivenAt
view_not_shown s number f is = record {
  given = None;
  run = record { allowed = refl; session_is = rw is refl; left = rw is refl };
  text_is = rw is refl;
  outcome_is = rw is refl;
}

-- ---- `close`

pub view_closed : (before after : SessionState) (number : ℕ) → IsViewClosed before number after → IsAnswered before (Close number) after (codes "closed\n") Told
unfolding answer_at IsGivenAt
view_closed before after number is = record {
  given = None;
  run = record {
    allowed = refl;
    session_is = ap session_of is.after_is ∙ rw is.open_before refl;
    left = rw is.open_before (ap (λ (s : SessionState). s.file) is.after_is);
  };
  text_is = rw is.open_before refl;
  outcome_is = rw is.open_before refl;
}

none_open : (s : SessionState) (number : ℕ) (f : ViewFault) → IsViewNotOpen s number f → IsAnswered s (Close number) s (view_fault_text f) Refused
unfolding answer_at IsGivenAt
none_open s number view_fault.NoSuchView is = record {
  given = None;
  run = record { allowed = refl; session_is = rw is refl; left = rw is refl };
  text_is = rw is refl;
  outcome_is = rw is refl;
}
none_open s number view_fault.Gone is = absurd is
none_open s number view_fault.OutsideNow is = absurd is
none_open s number view_fault.TooManyViews is = absurd is
none_open s number view_fault.NoMemory is = absurd is
none_open s number (view_fault.Path f) is = absurd is

pub view_not_closed : (before after : SessionState) (number : ℕ) (f : ViewFault) → IsViewNotOpen before number f → after ≡ before
    → IsAnswered before (Close number) after (view_fault_text f) Refused
view_not_closed before after number f is stays =
    subst (λ (s : SessionState). IsAnswered before (Close number) s (view_fault_text f) Refused) (sym stays) (none_open before number f is)
