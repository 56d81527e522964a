use Rattle.std.proofs.Common.{◌≡◌, ◌+◌, ◌*◌, ◌≤◌, ℕ, sym, subst, arith, length}
use Rattle.h5_model.specs.Format.Limits.{most_bytes}
use Rattle.h5_repack.specs.Blocks.ArrayHeader.{IsLength}
use Rattle.h5_repack.specs.Blocks.StoredChunks.{chunks_written}
use Rattle.h5_repack.proofs.BlockLaws.StoredChunks.{chunks_low, chunks_long, chunks_many}
use Rattle.h5_repack.proofs.blocks.chunks.chunks_length.Goals as goal

pub returns-then-count-gt-MAXIMUM_IMAGE : goal.returns-then-count-gt-MAXIMUM_IMAGE
returns-then-count-gt-MAXIMUM_IMAGE c place =
    let some : 1 ≤ c.len-count.result = omega (arith, c.if-count-eq0.false) in
    let many = chunks_many c.args.held.now c.requires.whole c.kind_of-kind.ensures.ranked c.args.chunk_k c.requires.some c.len-count.result c.chunk_length-size.result c.len-count.ensures some c.chunk_length-size.ensures.exact
    c.chunk_length-size.ensures.some place in
    omega (arith, many, c.if-count-gt-MAXIMUM_IMAGE.true)

pub overflow_add-nodes_length : goal.overflow_add-nodes_length
overflow_add-nodes_length c =
    let count : ℕ = c.len-count.result in
    let few : count ≤ most_bytes = c.if-count-gt-MAXIMUM_IMAGE.false in
    let low = chunks_low count c.chunk_length-size.result (omega (arith, few)) c.chunk_length-size.ensures.few in
    omega (arith, low, c.nodes_length.ensures.few)

pub returns : goal.returns
returns c place =
    let some : 1 ≤ c.len-count.result = omega (arith, c.if-count-eq0.false) in
    let long : length (chunks_written c.args.chunk_k c.args.held.now place) ≡ c.nodes_length.result + c.len-count.result * c.chunk_length-size.result
    = chunks_long c.args.held.now c.requires.whole c.kind_of-kind.ensures.ranked c.args.chunk_k c.requires.some c.len-count.result c.chunk_length-size.result c.len-count.ensures some c.chunk_length-size.ensures.exact
    c.kind_of-kind.result c.nodes_length.result c.kind_of-kind.ensures.kind c.nodes_length.ensures.exact place in
    subst (λ n. IsLength c.length_in_image.result n) (sym long) c.length_in_image.ensures
