-- What a line asks for, as the script's definition has it.
use Rattle.std.specs.Prelude.{◌≡◌, Option, option_map, Result, IfOk}
use Rattle.std.specs.declared.alloc.AllocError.{AllocError}
use Rattle.h5_model.specs.Scripts.Lines as lines
use Rattle.h5_command.specs.declared.command.Command.{Command}
use Rattle.h5_command.specs.declared.command.Command.TheVariants.{Change, OpenView, Show, Close, ListAll, Dump, Repack, Unread}

abbrev pub command_of : Command → lines.Command
command_of (Change edit) = lines.Change edit
command_of (OpenView path hyper) = lines.OpenView path hyper
command_of (Show number) = lines.Show number
command_of (Close number) = lines.Close number
command_of ListAll = lines.ListAll
command_of (Dump path) = lines.Dump path
command_of Repack = lines.Repack
command_of Unread = lines.Unread

-- what was read is what is asked for, unless memory was refused
abbrev pub Asks : Result (Option Command) AllocError → Option lines.Command → Type 0
Asks result asked = IfOk result (λ command. option_map command_of command ≡ asked)
