-- A session: an opened file, and the views that are open on its arrays (selections: HDF5 dataspace reference, H5Sselect_hyperslab).
use Rattle.std.specs.Prelude.{◌≡◌, ℕ, ◌+◌, Bool, true, false, if◌then◌else◌, Option, Some, None, List, [], ◌∷◌, refl}
use Rattle.std.specs.Coded.{Coded, code_by, coded×, coded_option, coded_ℕ}
use Rattle.std.specs.FinMap.{FinMap, contains_key, empty, from_entries, get, insert, remove}
use Rattle.std.specs.FinMap as map
use Rattle.std.specs.Option.{option_map}
use Rattle.std.specs.Ordering.{nat_cmp}
use Rattle.h5_model.specs.Edits.Refusal.{first_holding}
use Rattle.h5_model.specs.Scripts.Answers.{has_many_views, view_is_lent}
use Rattle.h5_model.specs.Scripts.Reading.{selection_rules}
use Rattle.h5_model.specs.Scripts.Sessions.{Session}
use Rattle.h5_model.specs.Tree.Codes.{coded_views}
use Rattle.h5_model.specs.Tree.Objects.{Tree}
use Rattle.h5_model.specs.Tree.Paths.{object_at}
use Rattle.h5_model.specs.Views.Selection.{axes_of}
use Rattle.h5_model.specs.Views.Shown.{View, Views, refreshed_of}
use Rattle.h5_model.specs.declared.edits.Edit.{Edit}
use Rattle.h5_model.specs.declared.edits.Edited.{Edited}
use Rattle.h5_model.specs.declared.hyperslab.Hyper.{Hyper}
use Rattle.h5_model.specs.declared.view_fault.ViewFault.{ViewFault}
use Rattle.h5_model.specs.declared.view_fault.ViewFault.TheVariants as fault
use Rattle.h5_edit.specs.Edited.{IsEdited}
use Rattle.h5_edit.specs.Opened.State.{FileState, coded_state, state_of}
use Rattle.h5_file.specs.Anew.{IsRepacked}

-- how often the bytes that each view keeps were patched, by the numbers of the views; None of a view that is lent, and so keeps none
abbrev pub Patches : Type 0
Patches = FinMap nat_cmp (Option ℕ)

-- a file, the open views by their numbers, the next view's number, and how often the views were patched
pub record SessionState : Type 0 where
  pub file : FileState
  pub views : Views
  pub next_view : ℕ
  pub patches : Patches

abbrev pub coded_session : Coded SessionState
coded_session = code_by (FileState × (Views × (ℕ × Patches))) (coded× coded_state (coded× coded_views (coded× coded_ℕ (map.code coded_ℕ (coded_option coded_ℕ)))))
    (λ s. (s.file, (s.views, (s.next_view, s.patches)))) (λ p. record { file = p.0; views = p.1.0; next_view = p.1.1.0; patches = p.1.1.1 }) (λ _. refl)

-- the same without what is of the image alone
abbrev pub session_of : SessionState → Session
session_of s = record { state = state_of s.file; views = s.views; next_view = s.next_view }

-- a file without open views, of which no number was given out
abbrev pub without_views : FileState → SessionState
without_views file = record { file = file; views = empty; next_view = 0; patches = empty }

-- ---- opening a view

-- no rule of the path and the selection refuses it; it goes by the object that stands at the path
pub record IsViewOf (tree : Tree) (path : List ℕ) (hyper : Hyper) (view : View) : Type 0 where
  pub allowed : first_holding (selection_rules tree path hyper) ≡ None
  pub stands : object_at tree path ≡ Some view.object
  pub axes : view.slab ≡ axes_of hyper

-- what is kept of it at first
abbrev pub patches_at_first : Tree → View → Option ℕ
patches_at_first tree view = if view_is_lent tree (Some view) then None else Some 0

-- One more may be open. It goes by the next number.
pub record IsViewOpened (before : SessionState) (path : List ℕ) (hyper : Hyper) (number : ℕ) (after : SessionState) : Type 0 where
  pub few : has_many_views (session_of before) ≡ false
  pub number_is : number ≡ before.next_view
  pub view : View
  pub view_is : IsViewOf before.file.tree path hyper view
  pub after_is : after ≡ record before {
    views = insert before.views before.next_view view;
    next_view = before.next_view + 1;
    patches = insert before.patches before.next_view (patches_at_first before.file.tree view);
  }

-- a rule refuses it; or none does, and too many are open, or memory was refused
abbrev pub IsViewRefusedBy : Tree → List ℕ → Hyper → Bool → ViewFault → Type 0
IsViewRefusedBy tree path hyper many (fault.Path f) = first_holding (selection_rules tree path hyper) ≡ Some f
IsViewRefusedBy tree path hyper many fault.TooManyViews = (first_holding (selection_rules tree path hyper) ≡ None) × (many ≡ true)
IsViewRefusedBy tree path hyper many fault.NoMemory = (first_holding (selection_rules tree path hyper) ≡ None) × (many ≡ false)
IsViewRefusedBy tree path hyper many _ = ⊥

abbrev pub IsViewRefused : SessionState → List ℕ → Hyper → ViewFault → Type 0
IsViewRefused s path hyper f = IsViewRefusedBy s.file.tree path hyper (has_many_views (session_of s)) f

-- ---- closing a view

-- the view was open, and it alone is closed
pub record IsViewClosed (before : SessionState) (number : ℕ) (after : SessionState) : Type 0 where
  pub open_before : contains_key before.views number ≡ true
  pub after_is : after ≡ record before { views = remove before.views number; patches = remove before.patches number }

-- no open view has this number
abbrev pub IsViewNotOpen : SessionState → ℕ → ViewFault → Type 0
IsViewNotOpen s number fault.NoSuchView = contains_key s.views number ≡ false
IsViewNotOpen s number _ = ⊥

-- ---- edits

-- Of a view that keeps bytes these are patched once for each chunk that the edit refreshes in it, and no more. It keeps none once it can be
-- lent.
abbrev pub patches_after : Tree → Tree → Edit → View → Option ℕ → Option ℕ
patches_after old new edit view None = None
patches_after old new edit view (Some times) =
    if view_is_lent new (Some view) then None else Some (times + refreshed_of old new (from_entries ((0, view) ∷ [])) edit)

-- what an accepted edit makes of the file; the open views and their numbers stay
pub record IsSessionEdited (before : SessionState) (edit : Edit) (after : SessionState) (e : Edited) : Type 0 where
  pub file : IsEdited before.file edit after.file (record e { refreshed = 0 })
  pub refreshed : e.refreshed ≡ refreshed_of before.file.tree after.file.tree before.views edit
  pub views : after.views ≡ before.views
  pub next_view : after.next_view ≡ before.next_view
  pub patches : (number : ℕ) (view : View) → get before.views number ≡ Some view
      → get after.patches number ≡ option_map (patches_after before.file.tree after.file.tree edit view) (get before.patches number)

-- the file is repacked; the open views and their numbers stay
pub record IsSessionRepacked (before after : SessionState) : Type 0 where
  pub file : IsRepacked before.file after.file
  pub views : after.views ≡ before.views
  pub next_view : after.next_view ≡ before.next_view
  pub patches : after.patches ≡ before.patches
