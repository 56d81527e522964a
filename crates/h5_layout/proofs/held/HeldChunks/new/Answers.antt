use Rattle.std.proofs.Common.{◌≡◌, ◌++◌, ℕ, List, length, map, take, drop, replicate, sym, ap, ◌∙◌, subst}
use Rattle.std.proofs.lemmas.List.{take_at}
use Rattle.std.specs.FinMap.{entries, retain_keys}
use Rattle.std.specs.List.{AllByRecursion}
use Rattle.h5_model.specs.Format.Layout.{InChunks}
use Rattle.h5_model.specs.Format.Reached.{Shape}
use Rattle.h5_model.specs.Format.Described.{Described}
use Rattle.h5_model.specs.Tree.Places.{is_inside}
use Rattle.h5_chunks.specs.Held.{IsChunkPlace, place_entry}
use Rattle.h5_chunks.specs.declared.held.ChunkPlace.{ChunkPlace}
use Rattle.h5_layout.specs.ArrayChunks.{ArrayChunks, IsInChunksOf}
use Rattle.h5_layout.specs.Data.{chunk_shape, stored_chunks}
use Rattle.h5_layout.specs.Kept.{chunks_below_root, kept_cells, smaller_sizes}
use Rattle.h5_layout.proofs.KeptLaws.{length-smaller}
use Rattle.h5_layout.proofs.KeptValues.{kept_is_held, layout_parts, stored_below}
use Rattle.h5_layout.proofs.held.HeldChunks.new.Goals as goal
use Rattle.h5_layout.proofs.held.HeldChunks.new.Goals.{After-copy_smaller}

module _ (c : After-copy_smaller) where
  abbrev a : Described
  a = c.args.array.now

  abbrev k : ArrayChunks
  k = c.of-chunked.result

  of : IsInChunksOf a k
  of = c.of-chunked.ensures.chunks

  -- the smaller sizes stand in front
  ranks : length (smaller_sizes a.sizes c.args.sizes.now) ≡ length k.chunk
  ranks = length-smaller a.sizes c.args.sizes.now c.requires.rank ∙ sym of.rank

  lent : take (length k.chunk) (c.copy_smaller.new.to ++ drop (length c.sizes-rank.result.now) (replicate 32 0)) ≡ smaller_sizes a.sizes c.args.sizes.now
  lent =
      let is : c.copy_smaller.new.to ≡ smaller_sizes a.sizes c.args.sizes.now
      = c.copy_smaller.ensures ∙ (λ i. smaller_sizes ((c.sizes.ensures.numbers ∙ c.dims.ensures.sizes) i) (c.sizes-2.ensures.numbers i)) in
      take_at c.copy_smaller.new.to (drop (length c.sizes-rank.result.now) (replicate 32 0)) (length k.chunk) (ap length is ∙ ranks) ∙ is

pub returns : goal.returns
returns c chunk root laid =
    let d = (goal.at.returns c).After-copy_smaller in
    let image : List ℕ = c.args.image.now.bytes in
    let sizes : List ℕ = c.args.sizes.now in
    let places : List ChunkPlace = c.in_ok-places.places.items in
    let parts = layout_parts (k d).chunk chunk (k d).root root (sym (of d).layout ∙ laid) in
    let shape : c.shape-shape.result ≡ chunk_shape (a d).fixed chunk = c.shape-shape.ensures ∙ (λ i. chunk_shape ((of d).fixed i) (parts.0 i)) in
    let stored : chunks_below_root image c.shape-shape.result c.root.result ≡ stored_chunks image (a d).fixed (a d).layout
    = (λ i. chunks_below_root image (shape i) (c.root.ensures i)) ∙ stored_below image (a d) chunk (k d).root (ap (InChunks chunk) parts.1 ∙ sym laid) in
    let held : map (place_entry (length chunk)) places ≡ entries (retain_keys (stored_chunks image (a d).fixed (a d).layout) (is_inside sizes))
    = ap (λ (s : Shape). map (place_entry (length s.sizes)) places) (sym shape) ∙ c.in_ok-places.ensures.held
    ∙ (λ i. entries (retain_keys (stored i) (is_inside (c.sizes-3.ensures.numbers i)))) in
    let each : AllByRecursion (IsChunkPlace image (chunk_shape (a d).fixed chunk)) places
    = subst (λ (s : Shape). AllByRecursion (IsChunkPlace image s) places) shape c.in_ok-places.ensures.each in
    (λ i. kept_cells (record { image = image; fixed = (of d).fixed i; fill = (of d).fill i; chunk = parts.0 i; kept = lent d i }) places)
    ∙ kept_is_held image (a d) chunk root laid sizes (sym c.requires.rank) (ranks d ∙ ap length parts.0) places held each

pub invariant_of-result : goal.invariant_of-result
invariant_of-result c =
    let d = (goal.at.invariant_of-result c).After-copy_smaller in
    let sound = c.of-chunked.ensures.sound in
    record {
      sizes = sound.sizes;
      rank = ap length (lent d) ∙ ranks d;
      short = sound.short;
      small = sound.small;
      sound = sound.sound;
      of_type = sound.of_type;
      there = subst (λ (s : Shape). AllByRecursion (IsChunkPlace c.args.image.now.bytes s) c.in_ok-places.places.items) c.shape-shape.ensures c.in_ok-places.ensures.each;
    }
