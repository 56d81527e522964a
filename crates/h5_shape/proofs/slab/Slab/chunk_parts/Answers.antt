use Rattle.std.proofs.Common.{◌≡◌, true, false, sym, subst, ◌∙◌}
use Rattle.h5_model.specs.Views.Selection.{selects_none}
use Rattle.h5_shape.specs.Parts.{parts_of}
use Rattle.h5_shape.specs.PartCells.{AreParted}
use Rattle.h5_shape.proofs.SlabParts.{boxed_slab, parts_none}
use Rattle.h5_shape.proofs.PartedLaws.{parts-parted, parted-none}
use Rattle.h5_shape.proofs.slab.Slab.chunk_parts.Goals as goal

pub select-requires-clause-boxed : goal.select-requires-clause-boxed
select-requires-clause-boxed c =
    let some : selects_none c.args.self.now ≡ false = cc in
    rw c.axes-then-not-is_empty.ensures.axes (boxed_slab c.args.self.now c.args.chunk.now c.requires.rank c.requires.sizes some c.axes.ensures.sound.apart c.requires.top)

pub returns-then-not-is_empty-clause-parted : goal.returns-then-not-is_empty-clause-parted
returns-then-not-is_empty-clause-parted c =
    let some : selects_none c.args.self.now ≡ false = cc in
    let value : c.select.new.self ≡ parts_of c.args.self.now c.args.chunk.now = cc in
    subst (AreParted c.args.self.now c.args.chunk.now) (sym value) (parts-parted c.args.self.now c.args.chunk.now c.requires.rank
    (boxed_slab c.args.self.now c.args.chunk.now c.requires.rank c.requires.sizes some c.axes.ensures.sound.apart c.requires.top))

pub returns-else-not-is_empty-clause-value : goal.returns-else-not-is_empty-clause-value
returns-else-not-is_empty-clause-value c =
    let none : selects_none c.args.self.now ≡ true = cc in
    c.none-parts.ensures ∙ sym (parts_none c.args.self.now c.args.chunk.now c.requires.rank none)

pub returns-else-not-is_empty-clause-parted : goal.returns-else-not-is_empty-clause-parted
returns-else-not-is_empty-clause-parted c =
    let none : selects_none c.args.self.now ≡ true = cc in
    subst (AreParted c.args.self.now c.args.chunk.now) (sym c.none-parts.ensures) (parted-none c.args.self.now c.args.chunk.now c.requires.rank none)
