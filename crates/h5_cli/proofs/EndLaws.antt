-- How runs end.
use Rattle.std.proofs.Common.{◌≡◌, ◌≢◌, ◌⊎◌, ◌==◌, if◌then◌else◌, Bool, true, false, refl, ℕ, List, Option, Some, None, subst, sym, inl, inr, arith}
use Rattle.std.proofs.lemmas.Bool.Decides.{nat_tests}
use Rattle.std.specs.Io.KnownBytes.{Appends}
use Rattle.h5_args.specs.Words.{Text, Wanted, WantDump, WantRun}
use Rattle.h5_model.specs.Edits.EditFaults.{refused_text}
use Rattle.h5_model.specs.Tree.Objects.{Tree}
use Rattle.h5_model.specs.declared.edit_fault.EditFault.{EditFault}
use Rattle.h5_model.specs.declared.edit_fault.EditFault.TheVariants.{BadPath}
use Rattle.h5_model.specs.declared.edit_fault.EditFault.TheVariants as refusal
use Rattle.h5_model.specs.Scripts.Answers.{dump_of}
use Rattle.h5_model.specs.Scripts.Lines.{unescaped_text}
use Rattle.h5_model.specs.Tree.Paths.{location_of}
use Rattle.h5_script.specs.Dumped.{IsUndumped}
use Rattle.h5_script.specs.DumpFaultType.TheVariants.{Refused}
use Rattle.h5_script.specs.Opened.State.{FileState}
use Rattle.h5_script.specs.Opened.Sound.{IsSound}
use Rattle.h5_cli.specs.Output.{IsDumpTold, IsRefusalTold, IsScriptRun}
use Rattle.h5_cli.specs.Ends.{Ends, IsRunOver}
use Rattle.h5_cli.specs.Status.{status_code}
use Rattle.h5_cli.specs.declared.status.Status.{Status}
use Rattle.h5_cli.specs.declared.status.Status.TheVariants.{Done, CommandRefused, WrongWords, ImageRefused, StreamFailed, NoMemory}

-- a run that carries an order out does not end as one with wrong words
pub never_wrong : (asked : Option Wanted) (input left old new : Option (List ℕ)) (status : Status) → Ends asked input left old new status → status ≢ WrongWords
never_wrong asked input left old new status ends = λ same. subst (λ s. Ends asked input left old new s) same ends

-- the status with the code 2
pub wrong_code : (status : Status) → status_code status ≡ 2 → status ≡ WrongWords
wrong_code Done same = absurd (omega (arith, same))
wrong_code CommandRefused same = absurd (omega (arith, same))
wrong_code WrongWords same = refl
wrong_code ImageRefused same = absurd (omega (arith, same))
wrong_code StreamFailed same = absurd (omega (arith, same))
wrong_code NoMemory same = absurd (omega (arith, same))

-- what is known of one status is known of the same
pub ends_as : (asked : Option Wanted) (input left old new : Option (List ℕ)) (status result : Status) → result ≡ status → Ends asked input left old new status → Ends asked input left old new result
ends_as asked input left old new status result same ends = subst (λ s. Ends asked input left old new s) (sym same) ends

-- a run that prints a text last ends as it would with the text, or because of the stream
pub printed_ends : (asked : Option Wanted) (input left old new : Option (List ℕ)) (text : List ℕ) (status result : Status)
    → (result ≡ StreamFailed) ⊎ ((result ≡ status) × Appends old new text) → (Appends old new text → Ends asked input left old new status)
    → Ends asked input left old new result
printed_ends asked input left old new text status result (inl failed) ends = ends_as asked input left old new StreamFailed result failed tt
printed_ends asked input left old new text status result (inr p) ends = ends_as asked input left old new status result p.0 (ends p.1)

-- ---- `h5i dump`

-- the line of a refusal was printed last, or the stream failed
pub refusal_printed : (fault : EditFault) (old new : Option (List ℕ)) (line : List ℕ) (result : Status) → line ≡ refused_text fault
    → (result ≡ StreamFailed) ⊎ ((result ≡ CommandRefused) × Appends old new line) → IsRefusalTold fault old new result
refusal_printed fault old new line result is (inl failed) = subst (λ s. IsRefusalTold fault old new s) (sym failed) tt
refusal_printed fault old new line result is (inr p) =
    subst (λ s. IsRefusalTold fault old new s) (sym p.0) (subst (λ text. Appends old new text) is p.1)

-- a path that is refused, before anything is written
pub dump_refused : (tree : Tree) (path : List ℕ) (old mid new : Option (List ℕ)) (fault : EditFault) (status : Status) → (fault ≡ refusal.NoMemory → ⊥)
    → IsUndumped tree path old mid (Refused fault) → IsRefusalTold fault mid new status → IsDumpTold tree path old new status
dump_refused tree path old mid new refusal.NoMemory status other is told = absurd (other refl)
dump_refused tree path old mid new fault status other is told = by status (subst (λ known. IsRefusalTold fault known new status) is.1 told) where
  by : (s : Status) → IsRefusalTold fault old new s → IsDumpTold tree path old new s
  by Done t = absurd t
  by CommandRefused t = (fault, is.0, t)
  by WrongWords t = absurd t
  by ImageRefused t = absurd t
  by StreamFailed t = tt
  by NoMemory t = tt

-- a dump that was cut off
pub dump_cut : (tree : Tree) (path : List ℕ) (old new : Option (List ℕ)) (status : Status) → (status ≡ StreamFailed) ⊎ (status ≡ NoMemory) → IsDumpTold tree path old new status
dump_cut tree path old new status (inl failed) = subst (λ s. IsDumpTold tree path old new s) (sym failed) tt
dump_cut tree path old new status (inr short) = subst (λ s. IsDumpTold tree path old new s) (sym short) tt

-- the word stands for a path
pub dump_ends : (file word : Text) (input left old new : Option (List ℕ)) (f : FileState) (path : List ℕ) (status : Status)
    → IsSound f → unescaped_text word ≡ Some path → IsDumpTold f.tree path old new status → Ends (Some (WantDump file word)) input left old new status
dump_ends file word input left old new f path Done sound is told = record {
  file = f;
  sound = sound;
  text = dump_of f.tree path (location_of f.tree path);
  answer = (rw is told.accepted, rw is refl);
  printed = told.written;
}
dump_ends file word input left old new f path CommandRefused sound is told =
    record { file = f; sound = sound; text = refused_text told.0; answer = (told.0, rw is told.1, refl); printed = told.2 }
dump_ends file word input left old new f path WrongWords sound is told = absurd told
dump_ends file word input left old new f path ImageRefused sound is told = absurd told
dump_ends file word input left old new f path StreamFailed sound is told = tt
dump_ends file word input left old new f path NoMemory sound is told = tt

-- the word stands for none
pub bad_path_ends : (file word : Text) (input left old new : Option (List ℕ)) (f : FileState) (status : Status)
    → IsSound f → unescaped_text word ≡ None → IsRefusalTold BadPath old new status → Ends (Some (WantDump file word)) input left old new status
bad_path_ends file word input left old new f Done sound is told = absurd told
bad_path_ends file word input left old new f CommandRefused sound is told =
    record { file = f; sound = sound; text = refused_text BadPath; answer = (BadPath, rw is refl, refl); printed = told }
bad_path_ends file word input left old new f WrongWords sound is told = absurd told
bad_path_ends file word input left old new f ImageRefused sound is told = absurd told
bad_path_ends file word input left old new f StreamFailed sound is told = tt
bad_path_ends file word input left old new f NoMemory sound is told = tt

-- what was asked by another name
pub asked_ends : (asked wanted : Option Wanted) (input left old new : Option (List ℕ)) (status : Status) → wanted ≡ asked
    → Ends wanted input left old new status → Ends asked input left old new status
asked_ends asked wanted input left old new status same ends = subst (λ a. Ends a input left old new status) same ends

-- the same text by another name
pub appends_as : (old new : Option (List ℕ)) (text shown : List ℕ) → shown ≡ text → Appends old new shown → Appends old new text
appends_as old new text shown same printed = subst (λ t. Appends old new t) same printed

-- a script that was run to its end ends by whether a line was refused
pub counted_ends : (file : Text) (input left old new : Option (List ℕ)) (r : IsScriptRun input left old new) (b : Bool) → ((r.ran).refused == 0) ≡ b
    → Ends (Some (WantRun file)) input left old new (if b then Done else CommandRefused)
counted_ends file input left old new r true none = (r, grind (arith, nat_tests))
counted_ends file input left old new r false some = (r, grind (arith, nat_tests))

pub run_ends : (file : Text) (input left old new : Option (List ℕ)) (f : FileState) (status : Status) (changed : Option (List ℕ))
    → IsSound f → IsRunOver f input left old new status changed → Ends (Some (WantRun file)) input left old new status
run_ends file input left old new f status changed sound over = ends_as (Some (WantRun file)) input left old new _ status over.status_is
    (counted_ends file input left old new (record { file = f; sound = sound; after = over.after; sound_after = over.sound sound; ran = over.ran; done = over.done }) _ refl)

-- and where the file could not be written back, because of the stream
pub written_ends : (asked : Option Wanted) (input left old new : Option (List ℕ)) (status result : Status)
    → (result ≡ status) ⊎ (result ≡ StreamFailed) → Ends asked input left old new status → Ends asked input left old new result
written_ends asked input left old new status result (inl same) ends = ends_as asked input left old new status result same ends
written_ends asked input left old new status result (inr failed) ends = ends_as asked input left old new StreamFailed result failed tt
