use Rattle.h5_layout.proofs.BreachLaws.{no_breach}
use Rattle.h5_layout.proofs.read.known_array.Goals as goal

pub unreachable-requires : goal.unreachable-requires
unreachable-requires c =
    let none = no_breach c.args.header.now.messages c.requires.array.0 c.requires.array.1 in
    let some = c.in-Err.ensures.first in
    absurd (cc)
