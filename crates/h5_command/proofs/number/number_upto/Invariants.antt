use Rattle.std.proofs.Common.{◌≡◌, ◌≤◌, take, drop, true}
use Rattle.std.specs.List.{list_all}
use Rattle.h5_model.specs.Scripts.Lines.{is_digit, number_on}
use Rattle.h5_command.proofs.number.number_upto.Given as goal

-- the digits so far stand for the number, and the others go on from it
abbrev pub invariant-loop-digit : goal.invariant-loop-digit
invariant-loop-digit l = record {
  digits : list_all is_digit (take l.digit-index l.word) ≡ true;
  number : number_on l.number (drop l.digit-index l.word) ≡ number_on 0 l.word;
  small : l.number ≤ l.most;
}
