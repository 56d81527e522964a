use Rattle.std.proofs.Common.{rules, to_z, of_z, ◌≡◌, ◌+◌, ◌-◌, ◌*◌, ◌≤◌, ◌++◌, ℕ, List, length, take, drop, sym, ap, ◌∙◌, subst, arith}
use mir.Syntax.{w128}
use Rattle.std.specs.Prelude.{OnOk}
use Rattle.h5_bytes.specs.Bytes.{part}
use Rattle.h5_model.specs.Format.Chunks.{offsets_in}
use Rattle.h5_model.specs.Format.Plain.{cells_bytes}
use Rattle.h5_model.specs.Tree.Places.{cells}
use Rattle.h5_chunks.specs.Held.{IsChunkPlace}
use Rattle.h5_layout.specs.Data.{chunk_shape}
use Rattle.h5_layout.specs.HeldChunks.{HeldCells}
use Rattle.h5_layout.specs.Kept.{KeptChunks, array_kept, corner_values, slices_kept}
use Rattle.h5_layout.specs.Spans.{span_sizes, span_slices}
use Rattle.h5_layout.proofs.GridLaws.{slice_part}
use Rattle.h5_layout.proofs.KeptLaws.{values_there, whole}
use Rattle.h5_layout.proofs.held.HeldChunks.push_chunk.Goals as goal
use Rattle.h5_layout.proofs.held.HeldChunks.push_chunk.Goals.{After-chunk_length-length}

-- the chunk
module _ (c : After-chunk_length-length) where
  abbrev k : KeptChunks
  k = array_kept c.self.inside.image.now.bytes c.self.inside.array c.self.inside.kept

  own : IsChunkPlace k.image (chunk_shape k.fixed k.chunk) c.index-place.result.now
  own = whole k c.self.inside.places.items c.args.self.now c.self.view_is c.args.k c.index-place.result.now c.requires c.index-place.ensures c.self.invariant

  -- it ends by the end of the image
  end : c.index-place.result.now.at + c.chunk_length-length.result ≤ length k.image
  end = omega (arith, own.inside, c.chunk_length-length.ensures.exact)

pub overflow_add-bytes : goal.overflow_add-bytes
overflow_add-bytes c =
    let low = end (goal.at.overflow_add-bytes c).After-chunk_length-length in
    omega (arith, low, ap length c.bytes.ensures, c.bytes.type_inv.0)

pub slice_bounds-bytes-end : goal.slice_bounds-bytes-end
slice_bounds-bytes-end c =
    let low = end (goal.at.slice_bounds-bytes-end c).After-chunk_length-length in
    omega (arith, low, ap length c.bytes.ensures)

pub write_spans-requires-clause-long : goal.write_spans-requires-clause-long
write_spans-requires-clause-long c =
    (own (goal.at.write_spans-requires-clause-long c).After-chunk_length-length).long ∙ ap (λ (ns : List ℕ). 8 + 8 * (length ns + 1)) (sym c.sizes-chunk.ensures.sizes)

pub returns : goal.returns
returns c got_part got =
    let d = (goal.at.returns c).After-chunk_length-length in
    let f = c.self.inside in
    let at : ℕ = c.index-place.result.now.at in
    let n : ℕ = c.chunk_length-length.result in
    let key : List ℕ = c.index-place.result.now.key.now in
    let chunk = c.sizes-chunk.ensures.sizes in
    let rank : length c.sizes-chunk.result.now ≡ length f.array.chunk = ap length chunk in
    let spans = c.write_spans.new.spans in
    let bytes : take (at + n - at) (drop at c.bytes.result.now) ≡ part at (cells f.array.chunk * f.array.fixed.size) f.image.now.bytes
    = slice_part at n c.bytes.result.now ∙ (λ i. part at (c.chunk_length-length.ensures.exact i) (c.bytes.ensures i)) in
    let slices : span_slices spans ≡ slices_kept (take (length f.array.chunk) f.kept) f.array.chunk (offsets_in (length f.array.chunk) key)
    = c.write_spans.ensures.slices ∙ (λ i. slices_kept (take (rank i) f.kept) (chunk i) (offsets_in (length (chunk i)) key)) in
    let passed : to_z w128 (of_z w128 c.fill.result) ≡ c.fill.result = search rules in
    let values : corner_values c.fixed.result (to_z w128 (of_z w128 c.fill.result)) (span_sizes spans) (span_slices spans) (take (at + n - at) (drop at c.bytes.result.now)) ≡ got_part.1
    = (λ i. corner_values (c.fixed.ensures.fixed i) ((passed ∙ c.fill.ensures.value) i) ((c.write_spans.ensures.sizes ∙ chunk) i) (slices i) (bytes i))
    ∙ values_there (k d) f.places.items c.args.self.now c.self.view_is c.args.k c.index-place.result.now c.requires c.index-place.ensures got_part got in
    let same : c.fixed.result ≡ c.args.self.now.fixed = c.fixed.ensures.fixed ∙ ap (λ (h : HeldCells). h.fixed) c.self.view_is in
    subst (λ (xs : List ℕ). OnOk c.push_kept.result (c.push_kept.new.out.items ≡ c.args.out.now.items ++ xs))
    (λ i. cells_bytes (same i) (values i)) c.push_kept.ensures
