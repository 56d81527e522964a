use Rattle.std.proofs.Common.{◌≡◌, Bool, ℕ, ◌+◌, ◌*◌, ◌^◌, ◌<◌, ◌≤◌, List, [], ◌∷◌, length, sym, ap, ◌∙◌, subst, arith}
use Rattle.std.proofs.Math.Nat.{mul-le-mul_right}
use Rattle.std.specs.Prelude.{slice_index_or}
use Rattle.std.specs.FinMap.{values}
use Rattle.h5_model.specs.Format.Chunks.{offsets_in}
use Rattle.h5_model.specs.Format.Nodes.{Kind, node_at, node_length}
use Rattle.h5_model.specs.Format.Reached.{Shape, level_at, shape_kind}
use Rattle.h5_model.specs.Format.Rows.{Node}
use Rattle.h5_space.specs.Moves.{Spends}
use Rattle.h5_space.specs.Space.{Space}
use Rattle.h5_space.proofs.MovesLaws.{spends_then, spends_within}
use Rattle.h5_btree.specs.Descent.{IsWayTo}
use Rattle.h5_btree.specs.Insertion.{IsChildPut, IsEmptyTree, IsFullWay}
use Rattle.h5_btree.specs.Removal.{EndsInTree, EndsSomewhere}
use Rattle.h5_btree.specs.Rewritten.{IsRewritten}
use Rattle.h5_btree.specs.declared.way.Step.{Step}
use Rattle.h5_chunks.specs.Bushy.{IsBushy}
use Rattle.h5_chunks.specs.Put.{HasChunkPut, IsKeyBehind, IsPutBeside, IsWayWidened}
use Rattle.h5_chunks.specs.Shapes.{AreChunkSizes}
use Rattle.h5_chunks.specs.Told.{chunks_told}
use Rattle.h5_chunks.specs.Way.{chunk_behind}
use Rattle.h5_chunks.proofs.BushyTrees.{bushy_first}
use Rattle.h5_chunks.proofs.BehindLaws.{length-offsets}
use Rattle.h5_chunks.proofs.FullWays.{few_steps}
use Rattle.h5_chunks.proofs.FirstChunk.{first_put, first_tree, still_empty}
use Rattle.h5_chunks.proofs.KeysPast.{key_past}
use Rattle.h5_chunks.proofs.PutChunk.{bushy_in, ends_then, low_then, put_in, way_ends}
use Rattle.h5_chunks.proofs.put.put_chunk.Goals as goal
use Rattle.h5_chunks.proofs.put.put_chunk.Goals.{After-way_to}

-- ---- until the way is found

module _ (c : After-way_to) where
  abbrev s : Space
  s = c.args.image.now

  abbrev shape : Shape
  shape = c.args.shape.now

  abbrev key : List ℕ
  key = c.args.key.now

  abbrev offsets : List ℕ
  offsets = offsets_in (length shape.sizes) key

  abbrev kind : Kind
  kind = shape_kind s.bytes shape

  sizes_are : c.shape.inside.sizes.now ≡ c.args.shape.now.sizes
  sizes_are = ap (λ (o : Shape). o.sizes) c.shape.view_is

  offsets_are : (slice : List ℕ) → slice ≡ c.of_key-offsets.result → slice ≡ offsets_in (length c.args.shape.now.sizes) c.args.key.now
  offsets_are slice is = is ∙ c.of_key-offsets.ensures.offsets ∙ ap (λ (zs : List ℕ). offsets_in (length zs) c.args.key.now) sizes_are

  behind_key : IsKeyBehind c.args.shape.now.sizes c.args.key.now c.write_key_behind.new.out
  behind_key = subst (λ (zs : List ℕ). IsKeyBehind zs c.args.key.now c.write_key_behind.new.out) sizes_are c.write_key_behind.ensures

  sizes_so : AreChunkSizes c.args.shape.now.sizes
  sizes_so = subst AreChunkSizes sizes_are c.shape.invariant

  short : length c.args.image.now.bytes < 2 ^ 64
  short = let low = c.requires.short in omega (arith, low)

  abbrev IsFound : List ℕ → List Step → Type 0
  IsFound os way = IsWayTo (node_at s.bytes kind) (chunk_behind os) (level_at s.bytes kind c.args.root) c.args.root way

  found : (way : List Step) → IsFound c.as_slice.result.now way → IsFound (offsets_in (length c.args.shape.now.sizes) c.args.key.now) way
  found way to = subst (λ (os : List ℕ). IsFound os way) (offsets_are c.as_slice.result.now c.as_slice.ensures.offsets) to

  module _ (way : List Step) (to : IsFound c.as_slice.result.now way) where
    ends : EndsSomewhere c.args.image.now (shape_kind c.args.image.now.bytes c.args.shape.now) way
    ends =
        let read = c.requires.beside.read in
        let w = way_ends s shape c.args.root c.args.chunk c.requires.beside short sizes_so c.requires.storable key c.requires.keyed way (found way to) in
        (c.args.root, (read.stored).level, (read.stored).owned, values (chunks_told s.bytes shape c.args.root), w.0, w.1)

    way_few : length way ≤ 16
    way_few = few_steps s shape c.args.root c.requires.beside.read (λ p. omega (arith, c.requires.beside.apart p)) short offsets (length-offsets shape.sizes key) way (found way to)

    module _ (u : Space) (slice : List ℕ) (is : slice ≡ c.of_key-offsets.result)
        (let_in : IsWayWidened c.args.image.now u (shape_kind c.args.image.now.bytes c.args.shape.now) slice way c.args.key.now c.write_key_behind.new.out) where
      wide : IsWayWidened s u kind offsets way key c.write_key_behind.new.out
      wide = subst (λ (os : List ℕ). IsWayWidened s u kind os way key c.write_key_behind.new.out) (offsets_are slice is) let_in

      ends_u : EndsSomewhere u (shape_kind c.args.image.now.bytes c.args.shape.now) way
      ends_u =
          let read = c.requires.beside.read in
          let w = way_ends s shape c.args.root c.args.chunk c.requires.beside short sizes_so c.requires.storable key c.requires.keyed way (found way to) in (
            c.args.root,
            (read.stored).level,
            (read.stored).owned,
            values (chunks_told s.bytes shape c.args.root),
            w.0,
            ends_then s shape c.args.root c.args.chunk c.requires.beside short sizes_so c.requires.storable key c.requires.keyed way (found way to)
                c.write_key_behind.new.out behind_key u wide,
          )

      low_u : IsFullWay u.bytes (shape_kind c.args.image.now.bytes c.args.shape.now) way → length way < 16
      low_u = low_then s shape c.args.root c.args.chunk c.requires.beside short sizes_so c.requires.storable key c.requires.keyed way (found way to)
          c.write_key_behind.new.out behind_key u wide c.requires.roomy

      module _ (behind : Bool) (other : List ℕ) (also : other ≡ c.of_key-offsets.result)
          (test : (step : Step) (above : List Step) → way ≡ step ∷ above
          → behind ≡ chunk_behind other (slice_index_or (node_at c.args.image.now.bytes (shape_kind c.args.image.now.bytes c.args.shape.now) step.node).keys step.place []))
          (t : Space) (put : IsPutBeside u t (shape_kind c.args.image.now.bytes c.args.shape.now) way behind c.args.key.now c.args.chunk) where
        abbrev w : (k : ℕ) × EndsInTree s kind c.args.root (c.requires.beside.read.stored).level way (c.requires.beside.read.stored).owned
            (values (chunks_told s.bytes shape c.args.root)) k
        w = way_ends s shape c.args.root c.args.chunk c.requires.beside short sizes_so c.requires.storable key c.requires.keyed way (found way to)

        tested : behind ≡ chunk_behind offsets (slice_index_or (node_at s.bytes kind (w.1.step).node).keys (w.1.step).place [])
        tested = subst (λ (os : List ℕ). behind ≡ chunk_behind os (slice_index_or (node_at s.bytes kind (w.1.step).node).keys (w.1.step).place [])) (offsets_are other also)
            (test w.1.step w.1.above w.1.way_is)

        chunk_in : HasChunkPut c.args.image.now t c.args.shape.now c.args.root (offsets_in (length c.args.shape.now.sizes) c.args.key.now) c.args.chunk
        chunk_in = put_in s shape c.args.root c.args.chunk c.requires.beside short sizes_so c.requires.storable key c.requires.keyed way (found way to)
            c.write_key_behind.new.out behind_key u wide c.requires.absent behind tested t put

        stays_bushy : (low : ℕ) → IsBushy c.args.image.now.bytes c.args.shape.now c.args.root low → IsBushy t.bytes c.args.shape.now c.args.root low
        stays_bushy = bushy_in s shape c.args.root c.args.chunk c.requires.beside short sizes_so c.requires.storable key c.requires.keyed way (found way to)
            c.write_key_behind.new.out behind_key u wide c.requires.absent behind tested t put

pub is_behind_end-behind-requires-clause-ends : goal.is_behind_end-behind-requires-clause-ends
is_behind_end-behind-requires-clause-ends c = ends (goal.at.is_behind_end-behind-requires-clause-ends c).After-way_to c.in-Some.way c.in-Some.ensures.leads

pub let_in-requires-clause-ends : goal.let_in-requires-clause-ends
let_in-requires-clause-ends c = ends (goal.at.let_in-requires-clause-ends c).After-way_to c.in-Some.way c.in-Some.ensures.leads

pub put_beside-requires-clause-ends : goal.put_beside-requires-clause-ends
put_beside-requires-clause-ends c =
    subst (λ (k : Kind). EndsSomewhere c.let_in.new.image k c.in-Some.way) (sym c.kind-kind.ensures)
    (ends_u (goal.at.put_beside-requires-clause-ends c).After-way_to c.in-Some.way c.in-Some.ensures.leads c.let_in.new.image c.as_slice-in-Some-2.result.now c.as_slice-in-Some-2.ensures.offsets
    c.let_in.ensures)

pub put_beside-requires-clause-low : goal.put_beside-requires-clause-low
put_beside-requires-clause-low c =
    subst (λ (k : Kind). IsFullWay c.let_in.new.image.bytes k c.in-Some.way → length c.in-Some.way < 16) (sym c.kind-kind.ensures)
    (low_u (goal.at.put_beside-requires-clause-low c).After-way_to c.in-Some.way c.in-Some.ensures.leads c.let_in.new.image c.as_slice-in-Some-2.result.now c.as_slice-in-Some-2.ensures.offsets
    c.let_in.ensures)

pub returns-in-Some-clause-put : goal.returns-in-Some-clause-put
returns-in-Some-clause-put c =
    chunk_in (goal.at.returns-in-Some-clause-put c).After-way_to c.in-Some.way c.in-Some.ensures.leads c.let_in.new.image c.as_slice-in-Some-2.result.now
    c.as_slice-in-Some-2.ensures.offsets c.let_in.ensures c.is_behind_end-behind.result c.as_slice-in-Some.result.now c.as_slice-in-Some.ensures.offsets
    c.is_behind_end-behind.ensures c.put_beside.new.image
    (subst (λ (k : Kind). IsPutBeside c.let_in.new.image c.put_beside.new.image k c.in-Some.way c.is_behind_end-behind.result c.args.key.now c.args.chunk) c.kind-kind.ensures
    c.put_beside.ensures.put)

pub returns-in-Some-clause-bushy : goal.returns-in-Some-clause-bushy
returns-in-Some-clause-bushy c =
    stays_bushy (goal.at.returns-in-Some-clause-bushy c).After-way_to c.in-Some.way c.in-Some.ensures.leads c.let_in.new.image c.as_slice-in-Some-2.result.now
    c.as_slice-in-Some-2.ensures.offsets c.let_in.ensures c.is_behind_end-behind.result c.as_slice-in-Some.result.now c.as_slice-in-Some.ensures.offsets
    c.is_behind_end-behind.ensures c.put_beside.new.image
    (subst (λ (k : Kind). IsPutBeside c.let_in.new.image c.put_beside.new.image k c.in-Some.way c.is_behind_end-behind.result c.args.key.now c.args.chunk) c.kind-kind.ensures
    c.put_beside.ensures.put)

pub returns-in-Some-clause-spends : goal.returns-in-Some-clause-spends
returns-in-Some-clause-spends c =
    let b = (goal.at.returns-in-Some-clause-spends c).After-way_to in
    let node = node_length (shape_kind c.args.image.now.bytes c.args.shape.now) in
    let way : List Step = c.in-Some.way in
    let t : Space = c.put_beside.new.image in
    let put = subst (λ (k : Kind). Spends c.let_in.new.image t ((length way + 1) * node_length k) (length way + 1)) c.kind-kind.ensures c.put_beside.ensures.spends in
    let few = way_few b way c.in-Some.ensures.leads in
    let room : (length way + 1) * node ≤ 17 * node = mul-le-mul_right node (omega (arith, few)) in
    spends_within c.args.image.now t (0 + (length way + 1) * node) (17 * node) (0 + (length way + 1)) 17 (omega (arith, room)) (omega (arith, few))
    (spends_then c.args.image.now c.let_in.new.image t 0 ((length way + 1) * node) 0 (length way + 1) c.let_in.ensures.widened.spends put)

-- ---- where there is none

pub put_first-requires-clause-empty : goal.put_first-requires-clause-empty
put_first-requires-clause-empty c =
    let read = c.requires.beside.read in
    let low = c.requires.short in (
      (read.stored).owned,
      subst (λ (k : Kind). IsEmptyTree c.args.image.now k c.args.root (read.stored).owned) (sym c.kind-kind.ensures)
          (still_empty c.args.image.now c.args.shape.now c.args.root c.args.chunk c.requires.beside c.in-None.ensures.empty (omega (arith, low))),
    )

-- what put_first has done, of the tree's own kind
abbrev Puts : Space → Space → ℕ → ℕ → Kind → Type 0
Puts s t root chunk kind = (owned : List ℕ) → IsEmptyTree s kind root owned → (all : List ℕ) × IsChildPut s t kind root 0 (chunk ∷ []) owned all

abbrev Writes : Space → Space → List (List ℕ) → ℕ → ℕ → Kind → Type 0
Writes s t keys root chunk kind = IsRewritten s t kind root (record (node_at s.bytes kind root) { keys = keys; children = chunk ∷ [] })

pub returns-in-None-clause-put : goal.returns-in-None-clause-put
returns-in-None-clause-put c =
    let b = (goal.at.returns-in-None-clause-put c).After-way_to in
    let s : Space = c.args.image.now in
    let t : Space = c.put_first.new.image in
    let shape : Shape = c.args.shape.now in
    let root : ℕ = c.args.root in
    let last : List ℕ = c.write_key_behind.new.out in
    let beside = c.requires.beside in
    let puts = subst (Puts s t root c.args.chunk) c.kind-kind.ensures c.put_first.ensures.put in
    let writes = subst (Writes s t (c.args.key.now ∷ last ∷ []) root c.args.chunk) c.kind-kind.ensures c.put_first.ensures.node in
    let put = puts (beside.read.stored).owned (still_empty s shape root c.args.chunk beside c.in-None.ensures.empty (short b)) in
    let ranked = c.requires.storable.ranked in
    let past = key_past shape.sizes c.args.key.now last (behind_key b) ranked ((sizes_so b).some 0 (omega (arith, ranked))) in
    first_put s shape root c.args.chunk beside c.in-None.ensures.empty (short b) c.requires.storable.some t put.0 put.1 c.args.key.now last
    (ap (λ (o : Node). o.keys) writes.says) (ap (λ (o : Node). o.children) writes.says) c.requires.keyed past

pub returns-in-None-clause-bushy : goal.returns-in-None-clause-bushy
returns-in-None-clause-bushy c = λ low bushy.
    let b = (goal.at.returns-in-None-clause-bushy c).After-way_to in
    let s : Space = c.args.image.now in
    let t : Space = c.put_first.new.image in
    let shape : Shape = c.args.shape.now in
    let root : ℕ = c.args.root in
    let last : List ℕ = c.write_key_behind.new.out in
    let beside = c.requires.beside in
    let puts = subst (Puts s t root c.args.chunk) c.kind-kind.ensures c.put_first.ensures.put in
    let put = puts (beside.read.stored).owned (still_empty s shape root c.args.chunk beside c.in-None.ensures.empty (short b)) in
    let ranked = c.requires.storable.ranked in
    let writes = subst (Writes s t (c.args.key.now ∷ last ∷ []) root c.args.chunk) c.kind-kind.ensures c.put_first.ensures.node in
    let past = key_past shape.sizes c.args.key.now last (behind_key b) ranked ((sizes_so b).some 0 (omega (arith, ranked))) in
    bushy_first t.bytes shape root low put.0 (c.args.chunk ∷ [])
    (first_tree s shape root c.args.chunk beside c.in-None.ensures.empty (short b) c.requires.storable.some t put.0 put.1 c.args.key.now last
    (ap (λ (o : Node). o.keys) writes.says) (ap (λ (o : Node). o.children) writes.says) c.requires.keyed past)
