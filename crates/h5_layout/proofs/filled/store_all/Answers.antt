use Rattle.std.proofs.Common.{◌≡◌, ℕ, [], ◌+◌, ◌*◌, ◌≤◌, length, sym, ap, ◌∙◌, subst, arith}
use Rattle.std.specs.Prelude.{slice_index_or}
use Rattle.std.specs.FinMap.{get}
use Rattle.h5_model.specs.Format.Chunks.{offsets_in}
use Rattle.h5_space.specs.Moves.{Spends}
use Rattle.h5_space.proofs.MovesLaws.{spends_none, spends_then, spends_within}
use Rattle.h5_model.proofs.KLaws.{same_chunk}
use Rattle.h5_model.specs.Format.Limits.{most_bytes}
use Rattle.h5_chunks.specs.Bushy.{is_low_level}
use Rattle.h5_chunks.specs.Told.{chunks_told}
use Rattle.h5_chunks.specs.Edited.{IsFullAt, store_room}
use Rattle.h5_layout.specs.Filled.{cells_of_fill}
use Rattle.h5_chunks.proofs.BushyFull.{never_full}
use Rattle.h5_layout.proofs.FilledLaws.{filled_none, store_room_same}
use Rattle.h5_layout.proofs.TurnLaws.{turn_absent, turn_full, turn_next, turn_offsets, turn_room}
use Rattle.h5_layout.proofs.filled.store_all.Goals as goal
use Rattle.h5_layout.proofs.filled.store_all.Goals.{After-key-key, else-k-eq0, then-k-eq0}

pub loop-k-init : goal.loop-k-init
loop-k-init c =
    let cells = c.args.cells.now in
    record {
      filled = filled_none c.args.shape.now c.args.root (cells_of_fill cells.fixed cells.fill cells.count) c.args.image.now c.requires.chunks;
      spends = spends_within c.args.image.now c.args.image.now 0 (0 * store_room c.args.image.now.bytes c.args.shape.now) 0 0 (omega arith) (omega arith) (spends_none c.args.image.now);
      first = λ none. λ i. c.args.image.now;
      there = λ some. absurd (omega (arith, some));
    }

pub is_full_at-requires-clause-chunks : goal.is_full_at-requires-clause-chunks
is_full_at-requires-clause-chunks c = c.loop-k.invariant.filled.stand

-- the offsets of its key
own_offsets : (c : After-key-key) → offsets_in (length c.args.shape.now.sizes) c.key-key.result.now ≡ slice_index_or c.args.new.now.offsets c.loop-k.k []
own_offsets c =
    let cells = c.args.cells.now in
    turn_offsets c.args.image.now c.loop-k.image c.args.shape.now c.args.root (cells_of_fill cells.fixed cells.fill cells.count) c.args.new.now c.loop-k.k (omega arith) c.requires.new
    c.loop-k.invariant.filled c.key-key.result.now c.key-key.ensures.key c.key-key.ensures.offsets

pub returns-then-is_full_at-clause-turn : goal.returns-then-is_full_at-clause-turn
returns-then-is_full_at-clause-turn c =
    let s = c.args.shape.now in
    let cells = c.args.cells.now in
    let bytes = cells_of_fill cells.fixed cells.fill cells.count in
    let now = c.loop-k.image in
    let offsets = own_offsets (goal.at.returns-then-is_full_at-clause-turn c).After-key-key in
    let full = subst (IsFullAt now.bytes s c.args.root) offsets (c.is_full_at.ensures.0 c.if-is_full_at.true) in
    (c.loop-k.k, turn_full c.args.image.now now s c.args.root bytes c.args.new.now c.loop-k.k (omega arith) c.requires.new c.loop-k.invariant.filled c.loop-k.invariant.first full)

pub returns-then-is_full_at-clause-low : goal.returns-then-is_full_at-clause-low
returns-then-is_full_at-clause-low c low is_low bushy =
    let s = c.args.shape.now in
    let now = c.loop-k.image in
    let room = store_room c.args.image.now.bytes s in
    let more = turn_room (length c.args.new.now.offsets) c.loop-k.k room (omega arith) in
    let grown = c.loop-k.invariant.spends.grown in
    let short : length now.bytes ≤ most_bytes = omega (arith, more, grown, c.requires.short) in
    let k = same_chunk now.bytes c.args.image.now.bytes c.loop-k.invariant.filled.k in
    never_full now s c.args.root low _ c.loop-k.invariant.filled.stand c.requires.storable short (ap (λ n. is_low_level n low) k ∙ is_low)
    (c.loop-k.invariant.filled.bushy low bushy) (c.is_full_at.ensures.0 c.if-is_full_at.true)

pub store_filled-at-requires-clause-bytes : goal.store_filled-at-requires-clause-bytes
store_filled-at-requires-clause-bytes c =
    let s = c.args.shape.now in
    let same = store_room_same c.args.image.now c.loop-k.image s c.loop-k.invariant.filled.k in
    let more = turn_room (length c.args.new.now.offsets) c.loop-k.k (store_room c.args.image.now.bytes s) (omega arith) in
    let left = c.loop-k.invariant.spends.bytes_left in
    omega (arith, same, more, left, c.requires.bytes)

pub store_filled-at-requires-clause-short : goal.store_filled-at-requires-clause-short
store_filled-at-requires-clause-short c =
    let s = c.args.shape.now in
    let same = store_room_same c.args.image.now c.loop-k.image s c.loop-k.invariant.filled.k in
    let more = turn_room (length c.args.new.now.offsets) c.loop-k.k (store_room c.args.image.now.bytes s) (omega arith) in
    let grown = c.loop-k.invariant.spends.grown in
    omega (arith, same, more, grown, c.requires.short)

pub store_filled-at-requires-clause-absent : goal.store_filled-at-requires-clause-absent
store_filled-at-requires-clause-absent c =
    let s = c.args.shape.now in
    let cells = c.args.cells.now in
    let bytes = cells_of_fill cells.fixed cells.fill cells.count in
    let now = c.loop-k.image in
    let offsets = own_offsets (goal.at.store_filled-at-requires-clause-absent c).After-key-key in
    ap (get (chunks_told now.bytes s c.args.root)) offsets
    ∙ turn_absent c.args.image.now now s c.args.root bytes c.args.new.now c.loop-k.k (omega arith) c.requires.new c.loop-k.invariant.filled

pub loop-k-preserved : goal.loop-k-preserved
loop-k-preserved c =
    let s = c.args.shape.now in
    let cells = c.args.cells.now in
    let bytes = cells_of_fill cells.fixed cells.fill cells.count in
    let now = c.loop-k.image in
    let k = c.loop-k.k in
    let room = store_room c.args.image.now.bytes s in
    let own = own_offsets (goal.at.loop-k-preserved c).After-key-key in
    record {
      filled = turn_next c.args.image.now now s c.args.root bytes c.args.new.now k (omega arith) c.requires.new c.loop-k.invariant.filled c.key-key.result.now c.key-key.ensures.key
          c.key-key.ensures.offsets c.store_filled-at.new.image c.store_filled-at.ensures.stored;
      spends = spends_within c.args.image.now c.store_filled-at.new.image (k * room + room) ((k + 1) * room) (18 * k + 18) (18 * (k + 1)) (omega arith) (omega arith)
          (spends_then c.args.image.now now c.store_filled-at.new.image (k * room) room (18 * k) 18 c.loop-k.invariant.spends
          (subst (λ n. Spends now c.store_filled-at.new.image n 18) (store_room_same c.args.image.now now s c.loop-k.invariant.filled.k) c.store_filled-at.ensures.spends));
      first = λ never. absurd (omega (arith, never));
      there = λ some. elim c.if-k-eq0.branch [
        | then-k-eq0 w ↦ rw w.first-is (ap (λ (n : ℕ). get (chunks_told c.store_filled-at.new.image.bytes s c.args.root) (slice_index_or c.args.new.now.offsets n [])) (sym w.if-k-eq0.true)
            ∙ ap (get (chunks_told c.store_filled-at.new.image.bytes s c.args.root)) (sym own) ∙ c.store_filled-at.ensures.at)
        | else-k-eq0 w ↦ rw w.first-is (c.store_filled-at.ensures.stored.kept _ _ (c.loop-k.invariant.there (omega arith))).0
      ];
    }
