use Rattle.std.proofs.Common.{arith, ◌≡◌, ◌↔◌, ◌^◌, ◌<◌, ℕ, List, Option, None, length, map, replicate, sym, ap, ◌∙◌, subst}
use Rattle.std.specs.FinMap.{get}
use Rattle.std.specs.List.{AllByRecursion, Contains}
use Rattle.std.proofs.lemmas.Result.{IfOk-weaker}
use Rattle.h5_model.specs.Format.Chunks.{Chunks}
use Rattle.h5_model.specs.Format.Layout.{InChunks}
use Rattle.h5_model.specs.Format.Reached.{Shape}
use Rattle.h5_model.specs.Format.Described.{Described}
use Rattle.h5_model.specs.Tree.Places.{IsInside}
use Rattle.h5_shape.specs.PartCells.{AreParted, part_corner}
use Rattle.h5_shape.specs.declared.parts.Span.{Span}
use Rattle.h5_chunks.specs.Lists.{ChunkOffsets}
use Rattle.h5_model.specs.Views.Selection.{Slab}
use Rattle.h5_layout.specs.ArrayChunks.{ArrayChunks, IsInChunksOf}
use Rattle.h5_layout.specs.Data.{chunk_shape, stored_chunks}
use Rattle.h5_layout.specs.HeldChunks.{IsChunkMet}
use Rattle.h5_layout.specs.Kept.{chunks_below_root}
use Rattle.h5_layout.specs.NewChunks.{AreMissing}
use Rattle.h5_layout.specs.Missing.{corners_missing}
use Rattle.h5_layout.proofs.CornerInside.{inside_words}
use Rattle.h5_layout.proofs.KeptValues.{layout_parts, stored_below}
use Rattle.h5_layout.proofs.MissingLaws.{missing_each, missing_rising}
use Rattle.h5_shape.proofs.MetLaws.{parts_ranked}
use Rattle.h5_layout.proofs.new_chunks.missing_chunks.Goals as goal
use Rattle.h5_layout.proofs.new_chunks.missing_chunks.Goals.{After-chunk_parts-parts}

pub chunk_parts-parts-requires-clause-top : goal.chunk_parts-parts-requires-clause-top
chunk_parts-parts-requires-clause-top c index selected =
    let a : Described = c.args.array.now in
    subst (λ n. IsInside (replicate n (2 ^ 64)) index) (sym c.requires.rank) (inside_words a.sizes index (c.requires.within index selected) c.of-chunked.ensures.array.small)

module _ (c : After-chunk_parts-parts) where
  abbrev a : Described
  a = c.args.array.now

  abbrev k : ArrayChunks
  k = c.of-chunked.result

  abbrev slab : Slab
  slab = c.args.slab.now

  abbrev image : List ℕ
  image = c.args.image.now.bytes

  of : IsInChunksOf a k
  of = c.of-chunked.ensures.chunks

  parted : AreParted slab k.chunk c.chunk_parts-parts.result
  parted = subst (λ (ns : List ℕ). AreParted slab ns c.chunk_parts-parts.result) c.sizes-chunk.ensures.sizes c.chunk_parts-parts.ensures.parted

pub missing_below-requires-clause-ranks : goal.missing_below-requires-clause-ranks
missing_below-requires-clause-ranks c =
    let d = (goal.at.missing_below-requires-clause-ranks c).After-chunk_parts-parts in
    let long : length (slab d) ≡ length c.sizes-chunk.result.now = c.requires.rank ∙ sym (of d).rank ∙ ap length (sym c.sizes-chunk.ensures.sizes) in
    subst (λ n. AllByRecursion (λ (part : List Span). length part ≡ n) c.chunk_parts-parts.result) long (parts_ranked (slab d) _ c.chunk_parts-parts.result (parted d))

pub missing_below-requires-clause-small : goal.missing_below-requires-clause-small
missing_below-requires-clause-small c =
    let low = c.of-chunked.ensures.sound.small in
    subst (λ (s : Shape). s.bytes < 2 ^ 32) (sym c.shape-shape.ensures) (omega (arith, low))

module _ (d : After-chunk_parts-parts) (s : Shape) (told : s ≡ chunk_shape (k d).fixed (k d).chunk) (r : Option ℕ) (rooted : r ≡ (k d).root)
    (chunk : List ℕ) (root : Option ℕ) (laid : (a d).layout ≡ InChunks chunk root) where
  abbrev below : Chunks
  below = chunks_below_root (image d) s r

  abbrev missing : List (List ℕ)
  missing = corners_missing below (map part_corner d.chunk_parts-parts.result)

  chunk_is : (k d).chunk ≡ chunk
  chunk_is = (layout_parts (k d).chunk chunk (k d).root root (sym (of d).layout ∙ laid)).0

  root_is : r ≡ root
  root_is = rooted ∙ (layout_parts (k d).chunk chunk (k d).root root (sym (of d).layout ∙ laid)).1

  shape_is : s ≡ chunk_shape (a d).fixed chunk
  shape_is = told ∙ (λ i. chunk_shape ((of d).fixed i) (chunk_is i))

  abbrev stored : Chunks
  stored = stored_chunks (image d) (a d).fixed (a d).layout

  stored_is : below ≡ stored
  stored_is = (λ i. chunks_below_root (image d) (shape_is i) (root_is i)) ∙ stored_below (image d) (a d) chunk root (sym laid)

  abbrev AreEach : List (List ℕ) → List ℕ → Chunks → Type 0
  AreEach ms ns s = (x : List ℕ) → Contains ms x ↔ (IsChunkMet (slab d) ns x × (get s x ≡ None))

  are_missing : AreMissing (image d) (a d) chunk (slab d) (record { rank = length s.sizes; bytes = s.bytes; offsets = missing })
  are_missing = record {
    within = d.requires.within;
    rank = ap (λ (x : Shape). length x.sizes) shape_is;
    bytes = ap (λ (x : Shape). x.bytes) shape_is;
    rising = missing_rising below (slab d) (k d).chunk d.chunk_parts-parts.result (parted d);
    each = subst (λ (ns : List ℕ). AreEach missing ns stored) chunk_is (subst (λ (x : Chunks). AreEach missing (k d).chunk x) stored_is
        (missing_each below (slab d) (k d).chunk d.chunk_parts-parts.result (parted d)));
  }

pub returns : goal.returns
returns c =
    let d = (goal.at.returns c).After-chunk_parts-parts in
    IfOk-weaker c.missing_below.result _ _ (λ new is chunk root laid.
    subst (λ (v : ChunkOffsets). AreMissing (image d) (a d) chunk (slab d) v) (sym is)
    (are_missing d c.shape-shape.result c.shape-shape.ensures c.root.result c.root.ensures chunk root laid)) c.missing_below.ensures
