use Rattle.std.proofs.Common.{refl, arith}
use Rattle.h5_model.specs.Tree.Places.{index_of}
use Rattle.h5_layout.proofs.NextRows.{step_count}
use Rattle.h5_layout.proofs.grid.GridRef.step_row.Goals as goal

pub next_number-requires : goal.next_number-requires
next_number-requires c =
    let row = c.args.row.now in
    let on = c.if-not-goes_on.ensures.0 refl in
    step_count c.args.self.now c.requires.grid row (c.requires.row on.next.some) (omega (arith, c.requires.below, on.since)) on.next
    (index_of c.args.self.now.sizes c.args.beside.now.first.place) row.number c.requires.number
