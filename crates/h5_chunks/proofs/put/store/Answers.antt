use Rattle.std.proofs.Common.{◌≡◌, ℕ, ◌+◌, ◌*◌, ◌^◌, ◌<◌, ◌≤◌, [], ◌∷◌, length, ap, ◌∙◌, subst, arith}
use Rattle.std.specs.FinMap.{get}
use Rattle.h5_bytes.specs.Blocks.{block}
use Rattle.h5_model.specs.Format.Chunks.{Chunks, offsets_in}
use Rattle.h5_model.specs.Format.Reached.{Shape}
use Rattle.h5_model.specs.Format.Nodes.{node_length}
use Rattle.h5_space.specs.Moves.{Moves, Spends}
use Rattle.h5_space.specs.Space.{growth}
use Rattle.h5_space.proofs.MovesLaws.{moves_take, spends_take, spends_then}
use Rattle.h5_chunks.specs.Edited.{chunk_node_length}
use Rattle.h5_chunks.proofs.BehindLaws.{length-offsets}
use Rattle.h5_chunks.proofs.BushyTrees.{bushy_beside}
use Rattle.h5_chunks.proofs.TakenBlock.{beside_now, full_before, others_stay, same_kind, stored_now, told_still, zero_still}
use Rattle.h5_chunks.proofs.put.store.Goals as goal
use Rattle.h5_chunks.proofs.put.store.Goals.{After-take-chunk}

module _ (c : After-take-chunk) where
  bytes_are : c.shape.inside.bytes ≡ c.args.shape.now.bytes
  bytes_are = ap (λ (o : Shape). o.bytes) c.shape.view_is

  -- the block is taken
  taken : Moves c.args.image.now c.take-chunk.new.self [] (block c.take-chunk.result c.args.shape.now.bytes ∷ [])
  taken = subst (λ (n : ℕ). Moves c.args.image.now c.take-chunk.new.self [] (block c.take-chunk.result n ∷ [])) bytes_are
      (moves_take c.args.image.now c.take-chunk.new.self c.take-chunk.result c.shape.inside.bytes (growth c.shape.inside.bytes c.args.image.now.free)
      c.take-chunk.ensures.bytes c.take-chunk.ensures.taken)

  short : length c.take-chunk.new.self.bytes < 2 ^ 64
  short =
      let spent = spends_take c.args.image.now c.take-chunk.new.self c.shape.inside.bytes c.take-chunk.ensures.bytes c.take-chunk.ensures.room_bytes c.take-chunk.ensures.room_blocks in
      let grown = spent.grown in
      omega (arith, grown, bytes_are, c.requires.short)

pub put_chunk-requires-clause-beside : goal.put_chunk-requires-clause-beside
put_chunk-requires-clause-beside c =
    beside_now c.args.image.now c.take-chunk.new.self c.args.shape.now c.args.root c.take-chunk.result c.requires.chunks
    (taken (goal.at.put_chunk-requires-clause-beside c).After-take-chunk)

-- the nodes of the tree are as long as they were
node_long : (c : After-take-chunk) → chunk_node_length c.take-chunk.new.self.bytes c.args.shape.now ≡ chunk_node_length c.args.image.now.bytes c.args.shape.now
node_long c = ap node_length (same_kind c.args.image.now c.take-chunk.new.self c.args.shape.now c.args.root c.take-chunk.result c.requires.chunks (taken c))

-- the room that the block has taken
room_taken : (c : After-take-chunk) → Spends c.args.image.now c.take-chunk.new.self c.args.shape.now.bytes 1
room_taken c = subst (λ n. Spends c.args.image.now c.take-chunk.new.self n 1) (bytes_are c)
    (spends_take c.args.image.now c.take-chunk.new.self c.shape.inside.bytes c.take-chunk.ensures.bytes c.take-chunk.ensures.room_bytes c.take-chunk.ensures.room_blocks)

pub put_chunk-requires-clause-bytes : goal.put_chunk-requires-clause-bytes
put_chunk-requires-clause-bytes c =
    let b = (goal.at.put_chunk-requires-clause-bytes c).After-take-chunk in
    omega (arith, node_long b, (room_taken b).bytes_left, c.requires.bytes)

pub put_chunk-requires-clause-short : goal.put_chunk-requires-clause-short
put_chunk-requires-clause-short c =
    let b = (goal.at.put_chunk-requires-clause-short c).After-take-chunk in
    omega (arith, node_long b, (room_taken b).grown, c.requires.short)

pub put_chunk-requires-clause-absent : goal.put_chunk-requires-clause-absent
put_chunk-requires-clause-absent c =
    ap (λ (m : Chunks). get m (offsets_in (length c.args.shape.now.sizes) c.args.key.now))
    (told_still c.args.image.now c.take-chunk.new.self c.args.shape.now c.args.root c.take-chunk.result c.requires.chunks
    (taken (goal.at.put_chunk-requires-clause-absent c).After-take-chunk))
    ∙ c.requires.absent

pub put_chunk-requires-clause-roomy : goal.put_chunk-requires-clause-roomy
put_chunk-requires-clause-roomy c = λ full.
    let b = (goal.at.put_chunk-requires-clause-roomy c).After-take-chunk in
    c.requires.roomy (full_before c.args.image.now c.take-chunk.new.self c.args.shape.now c.args.root c.take-chunk.result c.requires.chunks (taken b) (short b)
    (offsets_in (length c.args.shape.now.sizes) c.args.key.now) (length-offsets c.args.shape.now.sizes c.args.key.now) full)

pub returns-clause-stored : goal.returns-clause-stored
returns-clause-stored c =
    stored_now c.args.image.now c.take-chunk.new.self c.args.shape.now c.args.root c.take-chunk.result c.requires.chunks
    (taken (goal.at.returns-clause-stored c).After-take-chunk) c.put_chunk.new.image (offsets_in (length c.args.shape.now.sizes) c.args.key.now) c.put_chunk.ensures.put

pub returns-clause-bushy : goal.returns-clause-bushy
returns-clause-bushy c = λ low bushy.
    c.put_chunk.ensures.bushy low (bushy_beside c.args.image.now c.take-chunk.new.self c.args.shape.now c.args.root low []
    (block c.take-chunk.result c.args.shape.now.bytes ∷ []) c.requires.chunks (taken (goal.at.returns-clause-bushy c).After-take-chunk) (λ p. omega arith) bushy)

pub returns-clause-kept : goal.returns-clause-kept
returns-clause-kept c =
    others_stay c.args.image.now c.take-chunk.new.self c.args.shape.now c.args.root c.take-chunk.result c.requires.chunks
    (taken (goal.at.returns-clause-kept c).After-take-chunk) c.put_chunk.new.image (offsets_in (length c.args.shape.now.sizes) c.args.key.now) c.put_chunk.ensures.put

pub returns-clause-zero : goal.returns-clause-zero
returns-clause-zero c = λ behind.
    let b = (goal.at.returns-clause-zero c).After-take-chunk in
    zero_still c.args.image.now c.take-chunk.new.self c.args.shape.now c.args.root c.take-chunk.result c.requires.chunks (taken b)
    (growth c.shape.inside.bytes c.args.image.now.free) c.take-chunk.ensures.bytes
    (subst (λ (n : ℕ). c.take-chunk.result + n ≤ length c.take-chunk.new.self.bytes) (bytes_are b) c.take-chunk.ensures.inside) behind
    c.put_chunk.new.image (offsets_in (length c.args.shape.now.sizes) c.args.key.now) c.put_chunk.ensures.put

pub returns-clause-spends : goal.returns-clause-spends
returns-clause-spends c =
    let b = (goal.at.returns-clause-spends c).After-take-chunk in
    let then = subst (λ n. Spends c.take-chunk.new.self c.put_chunk.new.image (17 * n) 17) (node_long b) c.put_chunk.ensures.spends in
    spends_then c.args.image.now c.take-chunk.new.self c.put_chunk.new.image c.args.shape.now.bytes
    (17 * chunk_node_length c.args.image.now.bytes c.args.shape.now) 1 17 (room_taken b) then
