use Rattle.std.proofs.Common.{◌≡◌, ◌++◌, take}
use Rattle.h5_model.specs.Scripts.Text.{escaped_text}
use Rattle.h5_text.proofs.texts.push_escaped.Given as goal

abbrev pub invariant-loop-byte : goal.invariant-loop-byte
invariant-loop-byte l = l.out.items ≡ l.fn.out.items ++ escaped_text (take l.byte-index l.bytes)
