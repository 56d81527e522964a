use Rattle.std.proofs.Common.{sym, ap, ◌∙◌}
use Rattle.h5_msg.specs.Layouts.{layout_in}
use Rattle.h5_layout.proofs.DataLaws.{cell_in_block, cell_in_message, cell_in_no_chunk, few_cells, room_in_block}
use Rattle.h5_layout.proofs.cells.data_of.Goals as goal

pub returns-in_default-clause-values : goal.returns-in_default-clause-values
returns-in_default-clause-values c =
    let a = c.args.array.now in
    λ fill place low. cell_in_no_chunk c.args.image.now.bytes a.fixed fill a.sizes a.layout c.in-Chunked.sizes c.in-Chunked.tree
    (ap layout_in (sym c.in-Chunked.is) ∙ c.layout.ensures.layout) c.in_default.is place

pub new-requires-clause-few : goal.new-requires-clause-few
new-requires-clause-few c = few_cells c.args.array.now.sizes c.dims.result.now c.args.array.now c.dims.ensures.sizes c.dims.ensures.sound

pub returns-in-Compact-clause-values : goal.returns-in-Compact-clause-values
returns-in-Compact-clause-values c =
    let a = c.args.array.now in
    λ fill place low. cell_in_message c.args.image.now.bytes a.fixed fill a.sizes a.layout c.in-Compact.bytes.now
    (ap layout_in (sym c.in-Compact.is) ∙ c.layout.ensures.layout) place low

pub returns-in-Some-clause-room : goal.returns-in-Some-clause-room
returns-in-Some-clause-room c =
    let a = c.args.array.now in
    room_in_block c.args.image.now.bytes a.fixed a.sizes a.layout c.in-Contiguous.block c.in-Some.bytes.now
    (ap layout_in (sym c.in-Contiguous.is) ∙ c.layout.ensures.layout) c.in-Some.ensures c.requires c.layout.ensures.sound.room

pub returns-in-Some-clause-values : goal.returns-in-Some-clause-values
returns-in-Some-clause-values c =
    let a = c.args.array.now in
    λ fill place low. cell_in_block c.args.image.now.bytes a.fixed fill a.sizes a.layout c.in-Contiguous.block c.in-Some.bytes.now
    (ap layout_in (sym c.in-Contiguous.is) ∙ c.layout.ensures.layout) c.in-Some.ensures place low
