-- What a run answers on the standard output. What a file of the system holds no contract can say: it is some file that
-- opens, so each of these speaks of one.
use Rattle.std.specs.Prelude.{◌≡◌, ℕ, List, [], Option, Some, None}
use Rattle.std.specs.Option.{option_map_or}
use Rattle.std.specs.Io.KnownBytes.{Appends}
use Rattle.h5_args.specs.Words.{Text}
use Rattle.h5_model.specs.Tree.Objects.{Tree}
use Rattle.h5_model.specs.Tree.Paths.{location_of}
use Rattle.h5_model.specs.Edits.Refusal.{first_holding}
use Rattle.h5_model.specs.Scripts.Reading.{path_rules}
use Rattle.h5_model.specs.Scripts.Lines.{unescaped_text}
use Rattle.h5_model.specs.Scripts.Text.{list_text}
use Rattle.h5_model.specs.Scripts.Answers.{dump_of}
use Rattle.h5_model.specs.Edits.EditFaults.{refused_text}
use Rattle.h5_model.specs.declared.edit_fault.EditFault.{EditFault}
use Rattle.h5_model.specs.declared.edit_fault.EditFault.TheVariants.{BadPath}
use Rattle.h5_script.specs.Opened.State.{FileState}
use Rattle.h5_script.specs.Opened.Sound.{IsSound}
use Rattle.h5_script.specs.Dumped.{IsDumped}
use Rattle.h5_script.specs.Script.{IsDone}
use Rattle.h5_script.specs.Session.{SessionState, without_views}
use Rattle.h5_script.specs.declared.ran.Ran.{Ran}
use Rattle.h5_cli.specs.declared.status.Status.{Status}
use Rattle.h5_cli.specs.declared.status.Status.TheVariants.{Done, CommandRefused, StreamFailed, NoMemory}

-- ---- `h5i ls FILE`

-- the list of a file was printed
pub record IsListed (old new : Option (List ℕ)) : Type 0 where
  pub file : FileState
  pub sound : IsSound file
  pub printed : Appends old new (list_text file.tree)

-- ---- `h5i dump FILE PATH`

-- why the word leads to nothing: it is of no form, or the lowest rule of a path that holds
abbrev pub dump_fault : Tree → Text → Option EditFault
dump_fault tree word = option_map_or (λ path. first_holding (path_rules tree path)) (unescaped_text word) (Some BadPath)

-- what is printed of what the word leads to
abbrev pub dump_output : Tree → Text → List ℕ
dump_output tree word = option_map_or (λ path. dump_of tree path (location_of tree path)) (unescaped_text word) []

-- the text and the status: what stands there, or why nothing does
abbrev pub IsDumpText : Tree → Text → List ℕ → Status → Type 0
IsDumpText tree word text Done = (dump_fault tree word ≡ None) × (text ≡ dump_output tree word)
IsDumpText tree word text CommandRefused = (fault : EditFault) × (dump_fault tree word ≡ Some fault) × (text ≡ refused_text fault)
IsDumpText tree word text _ = ⊥

-- the line of a refusal was printed, or it could not be
abbrev pub IsRefusalTold : EditFault → Option (List ℕ) → Option (List ℕ) → Status → Type 0
IsRefusalTold fault old new CommandRefused = Appends old new (refused_text fault)
IsRefusalTold fault old new StreamFailed = Unit {0}
IsRefusalTold fault old new NoMemory = Unit {0}
IsRefusalTold fault old new _ = ⊥

-- what stands at the path was printed, or why nothing does; or neither could be
abbrev pub IsDumpTold : Tree → List ℕ → Option (List ℕ) → Option (List ℕ) → Status → Type 0
IsDumpTold tree path old new Done = IsDumped tree path old new
IsDumpTold tree path old new CommandRefused =
    (fault : EditFault) × (first_holding (path_rules tree path) ≡ Some fault) × Appends old new (refused_text fault)
IsDumpTold tree path old new StreamFailed = Unit {0}
IsDumpTold tree path old new NoMemory = Unit {0}
IsDumpTold tree path old new _ = ⊥

-- this was printed of a file
pub record IsDumpPrinted (word : Text) (status : Status) (old new : Option (List ℕ)) : Type 0 where
  pub file : FileState
  pub sound : IsSound file
  pub text : List ℕ
  pub answer : IsDumpText file.tree word text status
  pub printed : Appends old new text

-- ---- `h5i run FILE`

-- the whole script was run in a session of a file, and the answers of its lines were printed; so many were refused
pub record IsScriptRun (input left old new : Option (List ℕ)) : Type 0 where
  pub file : FileState
  pub sound : IsSound file
  pub after : SessionState
  pub sound_after : IsSound after.file
  pub ran : Ran
  pub done : IsDone (without_views file) after input left old new ran
