use Rattle.std.proofs.Common.{◌≡◌, ◌+◌, ◌<◌, ◌≤◌, ℕ, [], List, length, refl, sym, ap, subst, arith, false, true}
use Rattle.std.specs.Prelude.{slice_index_or}
use Rattle.std.specs.List.{AllByRecursion}
use Rattle.std.proofs.lemmas.Option.{get_or_from_slice_get}
use Rattle.h5_model.specs.Format.Rows.{Node}
use Rattle.h5_model.specs.Format.Reached.{Shape}
use Rattle.h5_model.specs.Format.Chunks.{chunks_in, offsets_in}
use Rattle.h5_btree.proofs.OrderLaws.Elements.{all_done}
use Rattle.h5_chunks.specs.Between.{IsChunkHeld}
use Rattle.h5_chunks.proofs.ChunkNodes.{chunk_more, chunks_all, length-chunks, one_chunk}
use Rattle.h5_chunks.proofs.order.keys.ChunkShapeOrdered.lie_between.Goals as goal

pub returns-then-not-is_between : goal.returns-then-not-is_between
returns-then-not-is_between c =
    let node : Node = c.args.node.now in
    let i : ℕ = c.loop-i.i in
    let key : List ℕ = c.key.result.now in
    let rank : ℕ = length c.args.self.now.sizes in
    let ranks : length c.self.inside.sizes.now ≡ rank = ap (λ (s : Shape). length s.sizes) c.self.view_is in
    let long : length node.keys ≡ length node.children + 1 = omega (arith, c.len-i-end.ensures.children, c.len-i-end.ensures.keys) in
    let low : i < length node.children = omega arith in
    let key_is : slice_index_or node.keys i [] ≡ key = get_or_from_slice_get node.keys i key [] c.key.ensures in
    let P : List ℕ → Type 0 = IsChunkHeld rank c.args.low.now c.args.high.now in (
      λ (yes : false ≡ true). absurd (cc),
      λ all. c.if-not-is_between.ensures.1
          (subst (λ (n : ℕ). IsChunkHeld n c.args.low.now c.args.high.now (offsets_in n key)) (sym ranks)
          (one_chunk rank node long i low key key_is P (subst (AllByRecursion (λ (chunk : List ℕ × ℕ). P chunk.0)) (chunks_all rank node) all))),
    )

pub loop-i-preserved : goal.loop-i-preserved
loop-i-preserved c =
    let node : Node = c.args.node.now in
    let i : ℕ = c.loop-i.i in
    let key : List ℕ = c.key.result.now in
    let rank : ℕ = length c.args.self.now.sizes in
    let ranks : length c.self.inside.sizes.now ≡ rank = ap (λ (s : Shape). length s.sizes) c.self.view_is in
    let long : length node.keys ≡ length node.children + 1 = omega (arith, c.len-i-end.ensures.children, c.len-i-end.ensures.keys) in
    let low : i < length node.children = omega arith in
    let key_is : slice_index_or node.keys i [] ≡ key = get_or_from_slice_get node.keys i key [] c.key.ensures in
    let P : List ℕ → Type 0 = IsChunkHeld rank c.args.low.now c.args.high.now in
    let held = subst (λ (n : ℕ). IsChunkHeld n c.args.low.now c.args.high.now (offsets_in n key)) ranks (c.if-not-is_between.ensures.0 refl) in
    chunk_more rank node long i low key key_is P c.loop-i.invariant held

pub returns : goal.returns
returns c =
    let node : Node = c.args.node.now in
    let rank : ℕ = length c.args.self.now.sizes in
    let long : length node.keys ≡ length node.children + 1 = omega (arith, c.len-i-end.ensures.children, c.len-i-end.ensures.keys) in
    let end : length (chunks_in rank node) ≤ c.loop-i.i = omega (arith, length-chunks rank node long) in
    let P : List ℕ × ℕ → Type 0 = λ chunk. IsChunkHeld rank c.args.low.now c.args.high.now chunk.0 in (
      λ _. subst (AllByRecursion P) (sym (chunks_all rank node)) (all_done P (chunks_in rank node) c.loop-i.i end c.loop-i.invariant),
      λ _. refl,
    )
