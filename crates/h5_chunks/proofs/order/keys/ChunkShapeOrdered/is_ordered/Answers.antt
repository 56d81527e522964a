use Rattle.std.proofs.Common.{◌≡◌, ◌+◌, ◌<◌, ℕ, [], List, length, refl, sym, ap, subst, arith, false, true, below_more}
use Rattle.std.specs.Prelude.{slice_index_or}
use Rattle.std.proofs.lemmas.Option.{get_or_from_slice_get}
use Rattle.h5_model.specs.Format.Rows.{Node, Reading}
use Rattle.h5_model.specs.Format.Reached.{Shape}
use Rattle.h5_model.specs.Format.Chunks.{offsets_in}
use Rattle.h5_btree.specs.Walk.Below.{reading_in}
use Rattle.h5_btree.specs.Walk.Forms.{OfChunks}
use Rattle.h5_chunks.specs.Between.{IsChunkHeld}
use Rattle.h5_chunks.proofs.ChunkNodes.{IsChildHeld, child_held, held_child}
use Rattle.h5_chunks.proofs.order.keys.ChunkShapeOrdered.is_ordered.Goals as goal

pub returns-then-not-is_between : goal.returns-then-not-is_between
returns-then-not-is_between c =
    let node : Node = c.args.node.now in
    let i : ℕ = c.loop-i.i in
    let key : List ℕ = c.key-key.result.now in
    let next : List ℕ = c.key.result.now in
    let rank : ℕ = length c.args.self.now.sizes in
    let ranks : length c.self.inside.sizes.now ≡ rank = ap (λ (s : Shape). length s.sizes) c.self.view_is in
    let V : Reading = reading_in c.args._image.now.bytes (OfChunks c.args.self.now) in
    let long : length node.keys ≡ length node.children + 1 = omega (arith, c.len-i-end.ensures.children, c.len-i-end.ensures.keys) in
    let low : i < length node.children = omega arith in
    let key_is : slice_index_or node.keys i [] ≡ key = get_or_from_slice_get node.keys i key [] c.key-key.ensures in
    let next_is : slice_index_or node.keys (i + 1) [] ≡ next = get_or_from_slice_get node.keys (i + 1) next [] c.key.ensures in (
      λ (yes : false ≡ true). absurd (cc),
      λ ordered. c.if-not-is_between.ensures.1
          (subst (λ (n : ℕ). IsChunkHeld n key next (offsets_in n key)) (sym ranks)
          (held_child rank V node c.requires.level long i low key next key_is next_is (ordered.rising i low, ordered.between i low))),
    )

pub loop-i-preserved : goal.loop-i-preserved
loop-i-preserved c =
    let node : Node = c.args.node.now in
    let i : ℕ = c.loop-i.i in
    let key : List ℕ = c.key-key.result.now in
    let next : List ℕ = c.key.result.now in
    let rank : ℕ = length c.args.self.now.sizes in
    let ranks : length c.self.inside.sizes.now ≡ rank = ap (λ (s : Shape). length s.sizes) c.self.view_is in
    let V : Reading = reading_in c.args._image.now.bytes (OfChunks c.args.self.now) in
    let long : length node.keys ≡ length node.children + 1 = omega (arith, c.len-i-end.ensures.children, c.len-i-end.ensures.keys) in
    let low : i < length node.children = omega arith in
    let key_is : slice_index_or node.keys i [] ≡ key = get_or_from_slice_get node.keys i key [] c.key-key.ensures in
    let next_is : slice_index_or node.keys (i + 1) [] ≡ next = get_or_from_slice_get node.keys (i + 1) next [] c.key.ensures in
    let held = subst (λ (n : ℕ). IsChunkHeld n key next (offsets_in n key)) ranks (c.if-not-is_between.ensures.0 refl) in
    below_more (IsChildHeld rank V node c.requires.level long) i c.loop-i.invariant
    (child_held rank V node c.requires.level long i low key next key_is next_is held)
