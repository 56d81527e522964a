use Rattle.std.proofs.Common.{ap, ◌∙◌}
use Rattle.h5_c.proofs.ReadLaws.{not_copied}
use Rattle.h5_c.proofs.read.copy_selected.Goals as goal

pub returns-then-cells-size : goal.returns-then-cells-size
returns-then-cells-size c =
    not_copied c.args.array.now c.args.slab.now c.cells.result c.size-size.result c.requires c.array.ensures.sound.few c.cells.ensures
    (c.size-size.ensures.size ∙ ap (λ t. t.size) (c.fixed.ensures ∙ c.array.ensures.fixed)) c.args.room.now c.if-cells-size.true
