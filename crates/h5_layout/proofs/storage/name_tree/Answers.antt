use Rattle.std.proofs.Common.{◌+◌, arith}
use Rattle.h5_space.proofs.MovesLaws.{spends_then, spends_within}
use Rattle.h5_layout.specs.ArrayEdits.{described_in}
use Rattle.h5_chunks.specs.Edited.{chunk_node_length}
use Rattle.h5_layout.proofs.NewTreeLaws.{named_spends, tree_is_named, tree_place}
use Rattle.h5_layout.proofs.storage.name_tree.Goals as goal

pub set_root-requires-clause-room : goal.set_root-requires-clause-room
set_root-requires-clause-room c =
    let image = c.args.image.now.bytes in
    let m = c.args.messages.now in
    tree_place image m.list c.requires.array.standing.within (described_in image m) c.requires.array.array c.args.shape.now.sizes _ c.requires.none

pub returns-clause-named : goal.returns-clause-named
returns-clause-named c =
    let made = c.make_root-root.ensures in
    let grown = made.spends.grown in
    tree_is_named c.args.image.now c.make_root-root.new.image c.set_root.new.image c.args.messages.now c.requires.array c.args.shape.now c.make_root-root.result c.requires.none c.requires.shape
    made.stand made.none made.moves (omega (arith, grown, c.requires.short)) c.set_root.ensures

pub returns-clause-spends : goal.returns-clause-spends
returns-clause-spends c =
    let node = chunk_node_length c.args.image.now.bytes c.args.shape.now in
    let made = c.make_root-root.ensures in
    let grown = made.spends.grown in
    let last = named_spends c.args.image.now c.make_root-root.new.image c.set_root.new.image c.args.messages.now c.requires.array c.args.shape.now c.make_root-root.result c.requires.none c.requires.shape
    made.stand made.none made.moves (omega (arith, grown, c.requires.short)) c.set_root.ensures in
    spends_within c.args.image.now c.set_root.new.image (node + 0) node (1 + 0) 1 (omega arith) (omega arith)
    (spends_then c.args.image.now c.make_root-root.new.image c.set_root.new.image node 0 1 0 made.spends last)
