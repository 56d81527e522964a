use Rattle.std.proofs.Common.{rules, ◌≡◌, ℕ, ◌+◌, ◌<◌, ◌≤◌, slice_index, List, length, take, replicate, Some, to_z, of_z, refl, sym, ap, ◌∙◌, subst, arith}
use mir.Syntax.{w128}
use Rattle.std.specs.FinMap.{get}
use Rattle.std.proofs.lemmas.List.{length-take}
use Rattle.std.proofs.lemmas.Option.{same_Some}
use Rattle.h5_bytes.specs.Bytes.{part}
use Rattle.h5_model.specs.Format.Chunks.{offsets_in}
use Rattle.h5_model.specs.Format.Limits.{most_dimensions}
use Rattle.h5_model.specs.Format.Plain.{cells_bytes}
use Rattle.h5_space.specs.Lending.{with_bytes_at}
use Rattle.h5_chunks.specs.Told.{chunks_told}
use Rattle.h5_layout.specs.ArrayChunks.{ArrayChunks}
use Rattle.h5_layout.specs.Data.{chunk_shape}
use Rattle.h5_layout.specs.Kept.{corner_values, slices_kept}
use Rattle.h5_layout.specs.Spans.{span_sizes, span_slices}
use Rattle.h5_layout.specs.Trimmed.{trimmed_bytes}
use Rattle.h5_layout.proofs.GridLaws.{chunk_inside}
use Rattle.h5_layout.proofs.trimmed.trim_chunk.Goals as goal
use Rattle.h5_layout.proofs.trimmed.trim_chunk.Goals.{In-Some}

-- the offsets of the key, in room for the most that there are
offsets_are : (chunk lent room new key : List ℕ) → lent ≡ chunk → length chunk ≤ most_dimensions → length room ≡ 32 → new ≡ offsets_in (length (take (length lent) room)) key
    → new ≡ offsets_in (length chunk) key
offsets_are chunk lent room new key same few wide is =
    is ∙ ap (λ n. offsets_in n key) (length-take (length lent) room ∙ omega (arith, few, wide, ap length same))

module _ (c : In-Some) where
  abbrev k : ArrayChunks
  k = c.args.array.now

  abbrev image : List ℕ
  image = c.args.image.now.bytes

  found : get (chunks_told image (chunk_shape k.fixed k.chunk) c.args.root) (offsets_in (length k.chunk) c.args.key.now) ≡ Some c.in-Some.at
  found =
      let offsets : c.write_offsets.new.offsets ≡ offsets_in (length k.chunk) c.args.key.now
      = offsets_are k.chunk c.sizes-chunk.result.now
      (replicate 32 0) c.write_offsets.new.offsets c.args.key.now c.sizes-chunk.ensures.sizes c.sizes-chunk.ensures.sound.few refl c.write_offsets.ensures in
      (λ i. get (chunks_told image (sym c.shape.ensures i) c.args.root) (sym offsets i)) ∙ sym c.chunk_at.ensures ∙ c.in-Some.is

pub part_at_mut-bytes-requires : goal.part_at_mut-bytes-requires
part_at_mut-bytes-requires c =
    let k : ArrayChunks = c.args.array.now in
    let image : List ℕ = c.args.image.now.bytes in
    let inside = chunk_inside image (chunk_shape k.fixed k.chunk) c.args.root c.requires.chunks (offsets_in (length k.chunk) c.args.key.now) c.in-Some.at
    (found (goal.at.part_at_mut-bytes-requires c).In-Some) in
    subst (λ n. c.in-Some.at + n ≤ length image) (sym c.chunk_length.ensures.exact) inside

pub returns-clause-bytes : goal.returns-clause-bytes
returns-clause-bytes c at there i =
    let k : ArrayChunks = c.args.array.now in
    let same : c.in-Some.at ≡ at = same_Some c.in-Some.at at (sym (found (goal.at.returns-clause-bytes c).In-Some) ∙ there) in
    let part_is : c.part_at_mut-bytes.result.now ≡ part at (chunk_shape k.fixed k.chunk).bytes c.args.image.now.bytes
    = c.part_at_mut-bytes.ensures.value ∙ (λ j. part (same j) (c.chunk_length.ensures.exact j) c.args.image.now.bytes) in
    let low : slice_index c.part_at_mut-bytes.result.now i < 256 = search rules in
    subst (λ (bs : List ℕ). slice_index bs i < 256) part_is low

pub returns-clause-trimmed : goal.returns-clause-trimmed
returns-clause-trimmed c at there =
    let k : ArrayChunks = c.args.array.now in
    let image : List ℕ = c.args.image.now.bytes in
    let sizes : List ℕ = c.args.sizes.now in
    let key : List ℕ = c.args.key.now in
    let spans = c.write_spans.new.spans in
    let same : c.in-Some.at ≡ at = same_Some c.in-Some.at at (sym (found (goal.at.returns-clause-trimmed c).In-Some) ∙ there) in
    let chunk_is = c.sizes-chunk.ensures.sizes in
    let fixed_is : c.fixed.result ≡ k.fixed = c.fixed.ensures.fixed in
    let passed : to_z w128 (of_z w128 c.fill.result) ≡ c.fill.result = search rules in
    let fill_is : to_z w128 (of_z w128 c.fill.result) ≡ k.fill = passed ∙ c.fill.ensures.value in
    let sizes_are : span_sizes spans ≡ k.chunk = c.write_spans.ensures.sizes ∙ chunk_is in
    let slices_are : span_slices spans ≡ slices_kept sizes k.chunk (offsets_in (length k.chunk) key)
    = c.write_spans.ensures.slices ∙ ap (λ (xs : List ℕ). slices_kept sizes xs (offsets_in (length xs) key)) chunk_is in
    let part_is : c.part_at_mut-bytes.result.now ≡ part at (chunk_shape k.fixed k.chunk).bytes image
    = c.part_at_mut-bytes.ensures.value ∙ (λ i. part (same i) (c.chunk_length.ensures.exact i) image) in
    let wrote : c.fill_corner.new.bytes ≡ trimmed_bytes k sizes (offsets_in (length k.chunk) key) (part at (chunk_shape k.fixed k.chunk).bytes image)
    = c.fill_corner.ensures ∙ (λ i. cells_bytes (fixed_is i) (corner_values (fixed_is i) (fill_is i) (sizes_are i) (slices_are i) (part_is i))) in
    λ i. with_bytes_at c.args.image.now (same i) (wrote i)
