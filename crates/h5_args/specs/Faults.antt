-- Why words are refused.
use Rattle.std.specs.Prelude.{◌≡◌, ◌⊎◌}
use Rattle.clap.specs.Words.{IsAmong, Kinds}
use Rattle.clap.specs.declared.error.kind.ErrorKind.{ErrorKind}
use Rattle.clap.specs.declared.error.kind.ErrorKind.TheVariants.{DisplayHelp, DisplayVersion}
use Rattle.h5_args.specs.declared.orders.OrderFault.{OrderFault}
use Rattle.h5_args.specs.declared.orders.OrderFault.TheVariants.{Help, Wrong, NoMemory}

-- the words ask for a text
abbrev pub IsShown : ErrorKind → Type 0
IsShown kind = (kind ≡ DisplayHelp) ⊎ (kind ≡ DisplayVersion)

-- a fault of this kind: help where the words ask for a text, and a refusal else; memory may be refused always
abbrev pub IsOfKind : ErrorKind → OrderFault → Type 0
IsOfKind kind (Help text) = IsShown kind
IsOfKind kind (Wrong text) = IsShown kind → ⊥
IsOfKind kind NoMemory = Unit {0}

-- a fault of one of the kinds
abbrev pub IsFaultOf : Kinds → OrderFault → Type 0
IsFaultOf kinds NoMemory = Unit {0}
IsFaultOf kinds fault = (kind : ErrorKind) × IsAmong kind kinds × IsOfKind kind fault

-- the words have a mistake
abbrev pub IsMistaken : Kinds → Type 0
IsMistaken kinds = (kind : ErrorKind) × IsAmong kind kinds × (IsShown kind → ⊥)
