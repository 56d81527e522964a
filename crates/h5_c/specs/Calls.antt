-- What the calls on a slot do with the session in it: what the library says of the call, by the status that tells its answer.
use Rattle.std.specs.Prelude.{◌≡◌, ◌⊎◌, ℕ, Bool, true, false, Option, Some, List, [], length}
use Rattle.std.specs.FinMap.{len}
use Rattle.h5_file.specs.Carried.{IsRefused}
use Rattle.h5_file.specs.Opened.Sound.{IsSound}
use Rattle.h5_file.specs.Opened.State.{FileState}
use Rattle.h5_file.specs.Opening.{IsReadable, Refused}
use Rattle.h5_file.specs.Repacked.{IsRepackRefused}
use Rattle.h5_file.specs.Session.{SessionState, IsSessionEdited, IsSessionRepacked, without_views}
use Rattle.h5_file.specs.State.{created_state}
use Rattle.h5_model.specs.Edits.EditFaults.{fault_number}
use Rattle.h5_model.specs.Faults.Breaches.{up_to_end}
use Rattle.h5_model.specs.declared.edit_fault.EditFault.{EditFault}
use Rattle.h5_model.specs.declared.edits.Edit.{Edit}
use Rattle.h5_model.specs.declared.open_fault.Cause.TheVariants as cause
use Rattle.h5_model.specs.declared.open_fault.OpenFault.{OpenFault}
use Rattle.h5_script.specs.Script.{IsDone, IsStopped}
use Rattle.h5_c.specs.Status.{HasStatus, open_status, run_status}
use Rattle.h5_c.specs.declared.held.Held.{Held}

-- a slot stays open or closed as it was; a closed one answers so
pub record IsKeptOpen (was is : Bool) (status : ℕ) : Type 0 where
  pub same : is ≡ was
  pub closed : was ≡ false → status ≡ 100

-- all bytes are in a room of just their length; a room of another length stays as it was
pub record IsCopied (bytes old new : List ℕ) (status : ℕ) : Type 0 where
  pub whole : length old ≡ length bytes → (status ≡ 0) × (new ≡ bytes)
  pub other : ¬ (length old ≡ length bytes) → (status ≡ 101) × (new ≡ old)

-- ---- making and opening

-- the slot has a session of this file, without views and without text
pub record IsSessionOf (file : FileState) (is_open : Bool) (held : Held) : Type 0 where
  pub opened : is_open ≡ true
  pub session : held.session ≡ without_views file
  pub text : held.text.items ≡ []

-- a session of the empty file; or the slot stays closed, since memory was refused
abbrev pub HasCreated : Bool → Held → ℕ → Type 0
HasCreated is_open held =
    HasStatus (λ (_ : Unit {0}). 31) (λ (_ : Unit {0}). IsSessionOf created_state is_open held) (λ _. is_open ≡ false)

-- the file that the bytes are up to their end of file address
pub record IsFileOf (bytes : List ℕ) (file : FileState) : Type 0 where
  pub image : file.image ≡ up_to_end bytes
  pub free : file.free ≡ []
  pub sound : IsSound file
  pub numbers : file.next ≡ len file.tree

-- The bytes break this rule at the place, or memory was refused; bytes that are a tree are refused for want of it alone.
pub record IsNoFile (bytes : List ℕ) (f : OpenFault) : Type 0 where
  pub broken : Refused bytes f
  pub only : IsReadable bytes → f.cause ≡ cause.NoMemory

-- a session of that file
pub record IsFileOpened (bytes : List ℕ) (is_open : Bool) (held : Held) : Type 0 where
  pub file : FileState
  pub opened : IsFileOf bytes file
  pub session : IsSessionOf file is_open held

-- the slot stays closed, and the place is told
pub record IsUnopenedAt (bytes : List ℕ) (is_open : Bool) (place : ℕ) (f : OpenFault) : Type 0 where
  pub closed : is_open ≡ false
  pub refused : IsNoFile bytes f
  pub place_is : place ≡ f.address

abbrev pub HasOpened : List ℕ → Bool → Held → ℕ → ℕ → Type 0
HasOpened bytes is_open held place = HasStatus open_status (λ (_ : Unit {0}). IsFileOpened bytes is_open held) (IsUnopenedAt bytes is_open place)

-- ---- scripts

-- all lines were run, or the run ended early; the text is what they answered, and nothing else
pub record HasRunScript (before : Held) (script : List ℕ) (after : Held) (status : ℕ) : Type 0 where
  pub left : Option (List ℕ)
  pub says : HasStatus run_status (IsDone before.session after.session (Some script) left (Some []) (Some after.text.items))
      (IsStopped before.session after.session (Some script) left (Some []) (Some after.text.items)) status

-- ---- edits

-- the library refuses the edit so, and nothing has changed
abbrev pub IsEditRefused : SessionState → Edit → SessionState → EditFault → Type 0
IsEditRefused before edit after e = (after ≡ before) × IsRefused before.file edit e

-- no edit was made of what C gave, and nothing has changed
abbrev pub IsRefusedEarly : Held → Held → ℕ → ℕ → Type 0
IsRefusedEarly before after number status = (after ≡ before) × (status ≡ number)

-- the edit is carried out, or refused; the text stays
pub record HasEdited (before : Held) (edit : Edit) (after : Held) (status : ℕ) : Type 0 where
  pub session : HasStatus fault_number (IsSessionEdited before.session edit after.session) (IsEditRefused before.session edit after.session) status
  pub text : after.text ≡ before.text

-- the same of an edit with a description of its own: memory for that may be refused before the library is asked, and then nothing has changed
abbrev pub HasMadeAndEdited : Held → Edit → Held → ℕ → Type 0
HasMadeAndEdited before edit after status = HasEdited before edit after status ⊎ IsRefusedEarly before after 31 status

-- the image is written anew, or nothing has changed; the text stays
pub record HasRepacked (before after : Held) (status : ℕ) : Type 0 where
  pub session : HasStatus fault_number (λ (_ : Unit {0}). IsSessionRepacked before.session after.session)
      (λ e. (after.session ≡ before.session) × IsRepackRefused before.session.file e) status
  pub text : after.text ≡ before.text
