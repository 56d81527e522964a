use Rattle.std.proofs.Common.{◌≡◌, ℕ, ◌+◌, ◌≤◌, List, length, replicate, sym, subst, arith}
use Rattle.h5_bytes.specs.Bytes.{part}
use Rattle.h5_header.proofs.BesideLaws.{spends_write}
use Rattle.h5_model.specs.Format.Chunks.{offsets_in}
use Rattle.h5_space.specs.Moves.{Spends}
use Rattle.h5_space.proofs.MovesLaws.{spends_then, spends_within}
use Rattle.h5_chunks.specs.Edited.{store_room}
use Rattle.h5_layout.specs.Filled.{cells_of_fill}
use Rattle.h5_layout.proofs.ChunkFilled.{filled_one, found_filled, stored_fit}
use Rattle.h5_layout.proofs.FilledLaws.{fill_long}
use Rattle.h5_layout.proofs.filled.store_filled.Goals as goal

pub fill_taken-requires-clause-inside : goal.fill_taken-requires-clause-inside
fill_taken-requires-clause-inside c =
    let s = c.args.shape.now in
    let inside = stored_fit c.args.image.now c.store-at.new.image s c.args.root (offsets_in (length s.sizes) c.args.key.now) c.store-at.result c.store-at.ensures.stored in
    omega (arith, inside, c.requires.cells.sized)

pub fill_taken-requires-clause-zero : goal.fill_taken-requires-clause-zero
fill_taken-requires-clause-zero c = λ behind.
    let s = c.args.shape.now in
    let at : ℕ = c.store-at.result in
    let past : length c.args.image.now.bytes ≤ at = subst (λ (bs : List ℕ). length bs ≤ at) c.bytes.ensures behind in
    subst (λ (n : ℕ). part at n c.store-at.new.image.bytes ≡ replicate n 0) (sym c.requires.cells.sized) (c.store-at.ensures.zero past)

pub returns-clause-stored : goal.returns-clause-stored
returns-clause-stored c =
    let s = c.args.shape.now in
    let cells = c.args.cells.now in
    filled_one c.args.image.now c.store-at.new.image c.fill_taken.new.image s c.args.root (offsets_in (length s.sizes) c.args.key.now) c.store-at.result c.requires.absent c.store-at.ensures.stored
    c.requires.chunks c.store-at.ensures.kept c.store-at.ensures.bushy (cells_of_fill cells.fixed cells.fill cells.count) (fill_long cells.fixed cells.fill cells.count s c.requires.cells) c.fill_taken.ensures

pub returns-clause-at : goal.returns-clause-at
returns-clause-at c =
    let s = c.args.shape.now in
    let cells = c.args.cells.now in
    found_filled c.args.image.now c.store-at.new.image c.fill_taken.new.image s c.args.root (offsets_in (length s.sizes) c.args.key.now) c.store-at.result c.requires.absent c.store-at.ensures.stored
    c.requires.chunks c.store-at.ensures.kept c.store-at.ensures.bushy (cells_of_fill cells.fixed cells.fill cells.count) (fill_long cells.fixed cells.fill cells.count s c.requires.cells) c.fill_taken.ensures

pub returns-clause-spends : goal.returns-clause-spends
returns-clause-spends c =
    let s = c.args.shape.now in
    let cells = c.args.cells.now in
    let room = store_room c.args.image.now.bytes s in
    let w : List ℕ = cells_of_fill cells.fixed cells.fill cells.count in
    let long = fill_long cells.fixed cells.fill cells.count s c.requires.cells in
    let inside = stored_fit c.args.image.now c.store-at.new.image s c.args.root (offsets_in (length s.sizes) c.args.key.now) c.store-at.result c.store-at.ensures.stored in
    let last : Spends c.store-at.new.image c.fill_taken.new.image 0 0
    = spends_write c.store-at.new.image c.fill_taken.new.image w c.store-at.result (omega (arith, inside, long)) c.fill_taken.ensures in
    spends_within c.args.image.now c.fill_taken.new.image (room + 0) room (18 + 0) 18 (omega arith) (omega arith)
    (spends_then c.args.image.now c.store-at.new.image c.fill_taken.new.image room 0 18 0 c.store-at.ensures.spends last)
