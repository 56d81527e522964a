use Rattle.std.proofs.Common.{List, ℕ, inl, subst}
use Rattle.h5_c.specs.Calls.{IsCopied}
use Rattle.h5_c.proofs.read.read_selected.Goals as goal

pub returns-in-Some : goal.returns-in-Some
returns-in-Some c =
    let is = c.in-Some.ensures.bytes in
    inl (record { accepted = is.accepted; slab = is.slab }, subst (λ (bs : List ℕ). IsCopied bs c.args.room.now c.copy.new.room c.copy.result) is.same c.copy.ensures)
