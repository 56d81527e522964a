-- The command line of `h5i`.
use Rattle.std.specs.Prelude.{◌≡◌, List, Option, None, if◌then◌else◌, codes, true, option_map}
use Rattle.std.specs.Option.{option_and_then}
use Rattle.std.specs.Str.{bytes_eq}
use Rattle.clap.specs.Words.{App, Kinds, Row, Rule, fault_of, first_of, new_app, new_rule, subcommand_of, takes, with_rule, with_subcommand}
pub use Rattle.clap.specs.Words.{Text}

-- a value that has to be given
abbrev pub required_rule : Text → Rule
required_rule name = record (new_rule name) { required = true }

-- a subcommand that takes a file
abbrev pub file_app : Text → App
file_app name = with_rule (new_app name) (required_rule (codes "FILE"))

-- a subcommand that takes a file and a path in it
abbrev pub path_app : Text → App
path_app name = with_rule (file_app name) (required_rule (codes "PATH"))

-- a command that needs a subcommand
abbrev pub with_required_subcommand : App → App
with_required_subcommand a = record a { top = record a.top { subcommand_required = true } }

-- a command that tells its version
abbrev pub with_version : App → App
with_version a = record a { top = record a.top { has_version = true } }

-- a command and one subcommand more
abbrev pub also : App → App → App
also a sub = with_subcommand a sub.top

-- `h5i new FILE`, `h5i ls FILE`, `h5i dump FILE PATH` and `h5i run FILE`; `h5i --version` is told apart from these
abbrev pub h5i_app : App
h5i_app = also (also (also (also (with_required_subcommand (with_version (new_app (codes "h5i")))) (file_app (codes "new"))) (file_app (codes "ls"))) (path_app (codes "dump"))) (file_app (codes "run"))

-- what the words ask for, by texts
pub data Wanted : Type 0 where
  WantNew : Text → Wanted
  WantLs : Text → Wanted
  WantDump : Text → Text → Wanted
  WantRun : Text → Wanted

-- the order of this name on this file, where there is such an order and a file is given, and to dump a path too
abbrev pub wanted_by : Text → Option Text → Option Text → Option Wanted
wanted_by name file path =
    if bytes_eq name (codes "new") then option_map WantNew file
    else if bytes_eq name (codes "ls") then option_map WantLs file
    else if bytes_eq name (codes "dump") then option_and_then (λ f. option_map (WantDump f) path) file
    else if bytes_eq name (codes "run") then option_map WantRun file
    else None

abbrev pub wanted_in : Option (Text × List Row) → Option Wanted
wanted_in found = option_and_then (λ p. wanted_by p.0 (first_of (codes "FILE") p.1) (first_of (codes "PATH") p.1)) found

-- clap's own definition says that the command takes these words, the program's name first
abbrev pub Taken : List Text → Type 0
Taken words = takes h5i_app words ≡ true

-- the kinds of refusal that clap's own definition finds for the words, none where they are an order
abbrev pub faults : List Text → Kinds
faults words = fault_of h5i_app words

-- what clap's own definition of the matches gives for the words
abbrev pub wanted_by_words : List Text → Option Wanted
wanted_by_words words = wanted_in (subcommand_of h5i_app words)
