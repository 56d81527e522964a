-- What an opening answers.
use Rattle.std.proofs.Common.{◌≡◌, ℕ, Bool, false, Ok, Err, List, refl, subst}
use Rattle.h5_file.specs.Opened.State.{FileState}
use Rattle.h5_file.specs.State.{created_state}
use Rattle.h5_model.specs.declared.open_fault.Cause.TheVariants.{NoMemory}
use Rattle.h5_model.specs.declared.open_fault.OpenFault.{OpenFault}
use Rattle.h5_c.specs.Calls.{HasCreated, HasOpened, IsFileOf, IsNoFile, IsSessionOf}
use Rattle.h5_c.specs.Status.{open_status}
use Rattle.h5_c.specs.declared.held.Held.{Held}

-- memory was refused
pub short_of_memory : (bytes : List ℕ) (is_open : Bool) (held : Held) (place : ℕ) → is_open ≡ false → HasOpened bytes is_open held place 31
short_of_memory bytes is_open held place shut = record {
  answer = Err (record { cause = NoMemory; address = place });
  status_is = refl;
  says = record { closed = shut; refused = record { broken = tt; only = λ _. refl }; place_is = refl };
}

-- the bytes were refused
pub refused_at : (bytes given : List ℕ) (is_open : Bool) (held : Held) (place status : ℕ) (f : OpenFault) → given ≡ bytes → is_open ≡ false → IsNoFile given f
    → place ≡ f.address → status ≡ open_status f → HasOpened bytes is_open held place status
refused_at bytes given is_open held place status f same shut broken at number = record {
  answer = Err f;
  status_is = number;
  says = record { closed = shut; refused = subst (λ (bs : List ℕ). IsNoFile bs f) same broken; place_is = at };
}

-- they are this file
pub opened_as : (bytes given : List ℕ) (is_open : Bool) (held : Held) (place : ℕ) (file : FileState) → given ≡ bytes → IsFileOf given file → IsSessionOf file is_open held
    → HasOpened bytes is_open held place 0
opened_as bytes given is_open held place file same are session = record {
  answer = Ok tt;
  status_is = refl;
  says = record { file = file; opened = subst (λ (bs : List ℕ). IsFileOf bs file) same are; session = session };
}

-- ---- a new file

pub created_as : (file : FileState) (is_open : Bool) (held : Held) → file ≡ created_state → IsSessionOf file is_open held → HasCreated is_open held 0
created_as file is_open held is session = record { answer = Ok tt; status_is = refl; says = subst (λ (f : FileState). IsSessionOf f is_open held) is session }

pub not_created : (is_open : Bool) (held : Held) → is_open ≡ false → HasCreated is_open held 31
not_created is_open held shut = record { answer = Err tt; status_is = refl; says = shut }
