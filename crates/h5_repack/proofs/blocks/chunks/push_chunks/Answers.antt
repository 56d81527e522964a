use Rattle.std.proofs.Common.{◌≡◌, ◌≤◌, ◌==◌, ◌++◌, ◌∙◌, false, sym, length, arith}
use Rattle.std.proofs.lemmas.Bool.Decides.{nat_tests}
use Rattle.std.proofs.lemmas.Result.{IfOk-weaker}
use Rattle.h5_repack.specs.Blocks.StoredChunks.{chunks_written}
use Rattle.h5_repack.proofs.BlockLaws.StoredChunks.{chunks_pushed}
use Rattle.h5_repack.proofs.blocks.chunks.push_chunks.Goals as goal

pub returns : goal.returns
returns c =
    let filled : (length c.args.held.now.parts == 0) ≡ false = sym c.is_empty.ensures ∙ c.if-is_empty.false in
    let some : 1 ≤ length c.args.held.now.parts = grind (arith, nat_tests, filled) in
    IfOk-weaker c.push_parts.result _ (λ _. c.push_parts.new.out.items ≡ c.args.out.now.items ++ chunks_written c.args.chunk_k c.args.held.now c.args.place)
    (λ _ pushed. chunks_pushed c.args.chunk_k c.args.held.now c.args.place c.args.out.now.items c.push_chunk_tree.new.out.items c.push_parts.new.out.items some c.in_ok-push_chunk_tree.ensures pushed)
    c.push_parts.ensures
