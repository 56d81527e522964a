use Rattle.std.proofs.Common.{◌≡◌, ℕ, List, [], sym, subst}
use Rattle.std.specs.FinMap.{empty}
use Rattle.h5_model.specs.Format.Superblock.{k_values}
use Rattle.h5_space.specs.Lending.{with_bytes_at}
use Rattle.h5_space.specs.Moves.{Moves, Spends}
use Rattle.h5_space.specs.Space.{Space}
use Rattle.h5_chunks.specs.Edited.{AreChunksApart, chunk_node_length}
use Rattle.h5_chunks.specs.Told.{chunk_blocks_told, chunks_told}
use Rattle.h5_chunks.proofs.MadeRoot.{made_k, made_moves, made_none, made_spends, made_stands}
use Rattle.h5_chunks.proofs.root.make_root.Goals as goal

pub returns-clause-stand : goal.returns-clause-stand
returns-clause-stand c =
    let u : Space = c.take-at.new.self in
    let at : ℕ = c.take-at.result in
    subst (λ (head : List ℕ). AreChunksApart (with_bytes_at u at head) c.args.shape.now at) (sym c.write_empty_head.ensures)
    (made_stands c.args.image.now u c.args.shape.now at c.chunk_node_length.result c.chunk_node_length.ensures c.take-at.ensures.bytes c.take-at.ensures.taken
    c.take-at.ensures.inside c.requires.apart c.requires.long c.requires.k_some c.requires.k_few)

pub returns-clause-none : goal.returns-clause-none
returns-clause-none c =
    let u : Space = c.take-at.new.self in
    let at : ℕ = c.take-at.result in
    subst (λ (head : List ℕ). chunks_told (with_bytes_at u at head).bytes c.args.shape.now at ≡ empty) (sym c.write_empty_head.ensures)
    (made_none c.args.image.now u c.args.shape.now at c.chunk_node_length.result c.chunk_node_length.ensures c.take-at.ensures.bytes c.take-at.ensures.taken
    c.take-at.ensures.inside c.requires.apart c.requires.long c.requires.k_some c.requires.k_few)

pub returns-clause-moves : goal.returns-clause-moves
returns-clause-moves c =
    let u : Space = c.take-at.new.self in
    let at : ℕ = c.take-at.result in
    subst (λ (head : List ℕ). Moves c.args.image.now (with_bytes_at u at head) [] (chunk_blocks_told (with_bytes_at u at head).bytes c.args.shape.now at))
    (sym c.write_empty_head.ensures)
    (made_moves c.args.image.now u c.args.shape.now at c.chunk_node_length.result c.chunk_node_length.ensures c.take-at.ensures.bytes c.take-at.ensures.taken
    c.take-at.ensures.inside c.requires.apart c.requires.long c.requires.k_some c.requires.k_few)

pub returns-clause-spends : goal.returns-clause-spends
returns-clause-spends c =
    let u : Space = c.take-at.new.self in
    let at : ℕ = c.take-at.result in
    subst (λ (head : List ℕ). Spends c.args.image.now (with_bytes_at u at head) (chunk_node_length c.args.image.now.bytes c.args.shape.now) 1)
    (sym c.write_empty_head.ensures)
    (made_spends c.args.image.now u c.args.shape.now at c.chunk_node_length.result c.chunk_node_length.ensures c.take-at.ensures.bytes c.take-at.ensures.taken
    c.take-at.ensures.inside c.requires.apart c.requires.long c.requires.k_some c.requires.k_few c.take-at.ensures.room_bytes c.take-at.ensures.room_blocks)

pub returns-clause-k : goal.returns-clause-k
returns-clause-k c =
    let u : Space = c.take-at.new.self in
    let at : ℕ = c.take-at.result in
    subst (λ (head : List ℕ). k_values (with_bytes_at u at head).bytes ≡ k_values c.args.image.now.bytes) (sym c.write_empty_head.ensures)
    (made_k c.args.image.now u c.args.shape.now at c.chunk_node_length.result c.chunk_node_length.ensures c.take-at.ensures.bytes c.take-at.ensures.taken
    c.take-at.ensures.inside c.requires.apart c.requires.long c.requires.k_some c.requires.k_few)
