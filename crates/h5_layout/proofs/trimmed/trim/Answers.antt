use Rattle.std.proofs.Common.{◌≡◌, ℕ, ◌+◌, ◌*◌, ◌<◌, ◌≤◌, ◌++◌, List, [], ◌∷◌, length, get_or, map, take, true, false, Some, None, sym, ap, ◌∙◌, subst, arith}
use Rattle.std.specs.Prelude.{is_none}
use Rattle.std.specs.FinMap.{retain_keys, values}
use Rattle.std.proofs.lemmas.List.{take_all, take_more}
use Rattle.h5_bytes.specs.Blocks.{Keeps, block}
use Rattle.h5_model.specs.Format.Chunks.{Chunks, offsets_in}
use Rattle.h5_model.specs.Format.Reached.{Shape}
use Rattle.h5_model.specs.Format.Described.{Described}
use Rattle.h5_model.specs.Tree.Places.{cells, is_inside}
use Rattle.h5_space.specs.Space.{Space}
use Rattle.h5_header.specs.Listed.{Listed}
use Rattle.h5_chunks.specs.Told.{chunks_told}
use Rattle.h5_layout.specs.ArrayChunks.{ArrayChunks, IsInChunksOf}
use Rattle.h5_layout.specs.ArrayEdits.{described_in}
use Rattle.h5_chunks.specs.Edited.{AreChunksApart, HasChunksNow}
use Rattle.h5_layout.specs.Data.{chunk_shape}
use Rattle.h5_chunks.specs.Lists.{ChunkOffsets, offsets_across, offsets_outside}
use Rattle.h5_layout.proofs.OutsideChunks.{chunked_is}
use Rattle.h5_layout.proofs.TrimmedArray.{chunks_apart, edge_there, stored_by, trimmed_already, trimmed_to}
use Rattle.h5_layout.proofs.TrimmedChunks.{AreTrimmedSo, none_trimmed, one_trimmed}
use Rattle.h5_layout.proofs.trimmed.trim.Goals as goal
use Rattle.h5_layout.proofs.trimmed.trim.Goals.{In-Some}

pub new-array-requires-clause-chunked : goal.new-array-requires-clause-chunked
new-array-requires-clause-chunked c =
    let a : Described = described_in c.args.image.now.bytes c.args.messages.now in
    chunked_is a.sizes a.layout c.requires.chunked

-- no tree
pub returns-then-lacks_tree-clause-trimmed : goal.returns-then-lacks_tree-clause-trimmed
returns-then-lacks_tree-clause-trimmed c =
    trimmed_already c.args.image.now c.args.messages.now c.args.sizes.now c.requires.array (rw c.new.ensures at c.lacks_tree.ensures.trimmed c.if-lacks_tree.true c.args.sizes.now)

-- else there is a root
pub unreachable-requires : goal.unreachable-requires
unreachable-requires c =
    let k : ArrayChunks = c.new-array.result in
    let rootless : k.root ≡ None = sym c.root.ensures ∙ c.in_default.is in
    let lacks : c.lacks_tree.result ≡ true = c.lacks_tree.ensures.exact k.chunk k.root (rw c.new.ensures c.new-array.ensures.chunks.layout) ∙ ap is_none rootless in
    absurd (let never : true ≡ false = sym lacks ∙ c.if-lacks_tree.false in cc)

module _ (c : In-Some) where
  abbrev k : ArrayChunks
  k = c.new-array.result

  abbrev root : ℕ
  root = c.in-Some.root

  abbrev old : Space
  old = c.args.image.now

  abbrev m : Listed
  m = c.args.messages.now

  abbrev sizes : List ℕ
  sizes = c.args.sizes.now

  abbrev form : Shape
  form = chunk_shape k.fixed k.chunk

  abbrev before : Chunks
  before = chunks_told old.bytes form root

  of : IsInChunksOf (described_in old.bytes m) k
  of = c.new-array.ensures.chunks

  rooted : k.root ≡ Some root
  rooted = sym c.root.ensures ∙ c.in-Some.is

  rank : length sizes ≡ length k.chunk
  rank = c.requires.rank ∙ sym of.rank

  apart : AreChunksApart old form root
  apart = chunks_apart old m c.requires.array k of root rooted

  lost : c.args.outside.now.lost ≡ record { rank = length k.chunk; bytes = form.bytes; offsets = offsets_outside sizes before }
  lost =
      c.requires.lost k.chunk k.root of.layout
      ∙ (λ i. record {
        rank = length k.chunk;
        bytes = cells k.chunk * (sym of.fixed i).size;
        offsets = offsets_outside sizes
            (stored_by (described_in old.bytes m) k of root rooted old.bytes i);
      })

  edge_rank : c.args.outside.now.edge.rank ≡ length k.chunk
  edge_rank = ap (λ (e : ChunkOffsets). e.rank) (c.requires.edge k.chunk k.root of.layout)

  edges : c.args.outside.now.edge.offsets ≡ offsets_across sizes k.chunk before
  edges =
      ap (λ (e : ChunkOffsets). e.offsets) (c.requires.edge k.chunk k.root of.layout)
      ∙ ap (offsets_across sizes k.chunk) (stored_by (described_in old.bytes m) k of root rooted old.bytes)

  -- after chunks were dropped
  module _ (start : Space) (s : Shape) (is : s ≡ form) where
    pub dropped_as : HasChunksNow old start s root (retain_keys (chunks_told old.bytes s root) (is_inside sizes))
        → HasChunksNow old start form root (retain_keys before (is_inside sizes))
    dropped_as = subst (λ (x : Shape). HasChunksNow old start x root (retain_keys (chunks_told old.bytes x root) (is_inside sizes))) is

    pub keeps_as : Keeps old.bytes start.bytes (map (λ at. block at s.bytes) (values (chunks_told start.bytes s root)))
        → Keeps old.bytes start.bytes (map (λ at. block at form.bytes) (values (chunks_told start.bytes form root)))
    keeps_as = subst (λ (x : Shape). Keeps old.bytes start.bytes (map (λ at. block at x.bytes) (values (chunks_told start.bytes x root)))) is

pub drop_outside-requires-clause-chunks : goal.drop_outside-requires-clause-chunks
drop_outside-requires-clause-chunks c =
    let b = (goal.at.drop_outside-requires-clause-chunks c).In-Some in
    subst (λ (s : Shape). AreChunksApart c.args.image.now s c.in-Some.root) (sym c.shape.ensures) (apart b)

pub drop_outside-requires-clause-outside : goal.drop_outside-requires-clause-outside
drop_outside-requires-clause-outside c =
    let b = (goal.at.drop_outside-requires-clause-outside c).In-Some in
    lost b ∙ ap (λ (s : Shape). record {
      rank = length s.sizes;
      bytes = s.bytes;
      offsets = offsets_outside c.args.sizes.now
          (chunks_told c.args.image.now.bytes s c.in-Some.root);
    }) (sym c.shape.ensures)

pub loop-k-init : goal.loop-k-init
loop-k-init c =
    let b = (goal.at.loop-k-init c).In-Some in
    none_trimmed c.new-array.result c.args.sizes.now c.in-Some.root c.drop_outside.new.image
    (dropped_as b c.drop_outside.new.image c.shape.result c.shape.ensures c.drop_outside.ensures.dropped).stand

pub trim_chunk-requires-clause-long : goal.trim_chunk-requires-clause-long
trim_chunk-requires-clause-long c =
    let b = (goal.at.trim_chunk-requires-clause-long c).In-Some in
    c.key.ensures.key.long ∙ ap (λ n. 8 + 8 * (n + 1)) (edge_rank b)

pub trim_chunk-requires-clause-stored : goal.trim_chunk-requires-clause-stored
trim_chunk-requires-clause-stored c =
    let b = (goal.at.trim_chunk-requires-clause-stored c).In-Some in
    let k : ArrayChunks = c.new-array.result in
    let all : List (List ℕ) = c.args.outside.now.edge.offsets in
    let low : c.loop-k.k < length all = omega (arith, c.loop-k-test.true, c.len-k-end.ensures) in
    edge_there k c.args.sizes.now c.in-Some.root c.args.image.now c.drop_outside.new.image c.loop-k.image
    (dropped_as b c.drop_outside.new.image c.shape.result c.shape.ensures c.drop_outside.ensures.dropped)
    (take c.loop-k.k all) all c.loop-k.invariant (edges b) c.loop-k.k low (offsets_in (length k.chunk) c.key.result.now)
    (ap (λ n. offsets_in n c.key.result.now) (sym (edge_rank b)) ∙ c.key.ensures.offsets)

pub loop-k-preserved : goal.loop-k-preserved
loop-k-preserved c =
    let b = (goal.at.loop-k-preserved c).In-Some in
    let k : ArrayChunks = c.new-array.result in
    let root : ℕ = c.in-Some.root in
    let form : Shape = chunk_shape k.fixed k.chunk in
    let start : Space = c.drop_outside.new.image in
    let now : Space = c.loop-k.image in
    let new : Space = c.trim_chunk.new.image in
    let all : List (List ℕ) = c.args.outside.now.edge.offsets in
    let done : List (List ℕ) = take c.loop-k.k all in
    let low : c.loop-k.k < length all = omega (arith, c.loop-k-test.true, c.len-k-end.ensures) in
    let offsets : List ℕ = offsets_in (length k.chunk) c.key.result.now in
    let here : offsets ≡ get_or all c.loop-k.k [] = ap (λ n. offsets_in n c.key.result.now) (sym (edge_rank b)) ∙ c.key.ensures.offsets in
    let found = edge_there k c.args.sizes.now root c.args.image.now start now (dropped_as b start c.shape.result c.shape.ensures c.drop_outside.ensures.dropped)
    done all c.loop-k.invariant (edges b) c.loop-k.k low offsets here in
    subst (AreTrimmedSo k c.args.sizes.now root start new) (ap (λ (x : List ℕ). done ++ x ∷ []) here ∙ sym (take_more all c.loop-k.k [] low))
    (one_trimmed k c.new-array.ensures.sound c.args.sizes.now root start now new done c.loop-k.invariant offsets found.0 found.1
    (c.trim_chunk.ensures.bytes found.0 found.1) (c.trim_chunk.ensures.trimmed found.0 found.1))

pub returns-clause-trimmed : goal.returns-clause-trimmed
returns-clause-trimmed c =
    let b = (goal.at.returns-clause-trimmed c).In-Some in
    let k : ArrayChunks = c.new-array.result in
    let root : ℕ = c.in-Some.root in
    let start : Space = c.drop_outside.new.image in
    let all : List (List ℕ) = c.args.outside.now.edge.offsets in
    let end : length all ≤ c.loop-k.k = omega (arith, c.loop-k-test.false, c.len-k-end.ensures) in
    let so = subst (AreTrimmedSo k c.args.sizes.now root start c.loop-k.image) (take_all c.loop-k.k all end ∙ edges b) c.loop-k.invariant in
    trimmed_to k c.new-array.ensures.sound c.args.sizes.now root (rooted b) c.args.image.now start c.loop-k.image c.args.messages.now c.requires.array (of b) (rank b)
    (dropped_as b start c.shape.result c.shape.ensures c.drop_outside.ensures.dropped) (keeps_as b start c.shape.result c.shape.ensures c.drop_outside.ensures.kept) so
