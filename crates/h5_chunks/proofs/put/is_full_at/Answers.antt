use Rattle.std.proofs.Common.{◌≡◌, ℕ, ◌^◌, ◌<◌, ◌≤◌, List, length, sym, ap, ◌∙◌, subst, arith}
use Rattle.std.specs.FinMap.{values}
use Rattle.h5_model.specs.Format.Limits.{highest_level}
use Rattle.h5_model.specs.Format.Chunks.{offsets_in}
use Rattle.h5_model.specs.Format.Nodes.{Kind, node_at}
use Rattle.h5_model.specs.Format.Reached.{Shape, level_at, shape_kind}
use Rattle.h5_model.specs.Format.Rows.{Node}
use Rattle.h5_space.specs.Space.{Space}
use Rattle.h5_btree.specs.Descent.{IsWayTo}
use Rattle.h5_btree.specs.Insertion.{IsFullWay}
use Rattle.h5_btree.specs.Removal.{EndsSomewhere}
use Rattle.h5_btree.specs.Walk.Forms.{OfChunks}
use Rattle.h5_btree.specs.declared.way.Step.{Step}
use Rattle.h5_btree.proofs.WalkLaws.Descended.{root_there}
use Rattle.h5_btree.proofs.WaysDown.{way_long}
use Rattle.h5_chunks.specs.Edited.{IsFullAt}
use Rattle.h5_chunks.specs.Told.{chunks_told}
use Rattle.h5_chunks.specs.Way.{chunk_behind}
use Rattle.h5_chunks.proofs.BehindLaws.{length-offsets}
use Rattle.h5_chunks.proofs.FullWays.{few_steps, full_of, of_full, own_ends}
use Rattle.h5_chunks.proofs.HeldLaws.{tree_there}
use Rattle.h5_chunks.proofs.put.is_full_at.Goals as goal
use Rattle.h5_chunks.proofs.put.is_full_at.Goals.{After-way_to}

module _ (c : After-way_to) where
  abbrev s : Space
  s = c.args.image.now

  abbrev shape : Shape
  shape = c.args.shape.now

  abbrev offsets : List ℕ
  offsets = offsets_in (length shape.sizes) c.args.key.now

  abbrev kind : Kind
  kind = shape_kind s.bytes shape

  abbrev IsFound : List ℕ → List Step → Type 0
  IsFound os way = IsWayTo (node_at s.bytes kind) (chunk_behind os) (level_at s.bytes kind c.args.root) c.args.root way

  short : length c.args.image.now.bytes < 2 ^ 64
  short = subst (λ (b : List ℕ). length b < 2 ^ 64) c.bytes-bytes.ensures c.bytes-bytes.type_inv.0

  offsets_are : c.as_slice.result.now ≡ offsets_in (length c.args.shape.now.sizes) c.args.key.now
  offsets_are = c.as_slice.ensures.offsets ∙ c.of_key-offsets.ensures.offsets
      ∙ ap (λ (o : Shape). offsets_in (length o.sizes) c.args.key.now) c.shape.view_is

  same : length offsets ≡ length shape.sizes
  same = length-offsets shape.sizes c.args.key.now

  found : (way : List Step) → IsFound c.as_slice.result.now way → IsFound (offsets_in (length c.args.shape.now.sizes) c.args.key.now) way
  found way to = subst (λ (os : List ℕ). IsFound os way) offsets_are to

  module _ (way : List Step) (to : IsFound c.as_slice.result.now way) where
    ends : EndsSomewhere c.args.image.now (shape_kind c.args.image.now.bytes c.args.shape.now) way
    ends =
        let read = c.requires.chunks.read in
        let w = own_ends s shape c.args.root read (λ p. omega (arith, c.requires.chunks.apart p)) short offsets same way (found way to) in
        (c.args.root, (read.stored).level, (read.stored).owned, values (chunks_told s.bytes shape c.args.root), w.0, w.1)

    -- it has 16 steps, where the root is at level 15
    all : highest_level ≤ level_at s.bytes kind c.args.root → length way ≡ 16
    all high =
        let few = few_steps s shape c.args.root c.requires.chunks.read (λ p. omega (arith, c.requires.chunks.apart p)) short offsets same way (found way to) in
        let long = way_long (node_at s.bytes kind) (chunk_behind offsets) (level_at s.bytes kind c.args.root) c.args.root way (found way to) in
        omega (arith, few, long, high)

    is_full : length way ≡ 16 → IsFullWay c.args.image.now.bytes (shape_kind c.args.image.now.bytes c.args.shape.now) way
        → IsFullAt c.args.image.now.bytes c.args.shape.now c.args.root (offsets_in (length c.args.shape.now.sizes) c.args.key.now)
    is_full = full_of s shape c.args.root c.requires.chunks.read (λ p. omega (arith, c.requires.chunks.apart p)) short offsets same way (found way to)

    full_is : IsFullAt c.args.image.now.bytes c.args.shape.now c.args.root (offsets_in (length c.args.shape.now.sizes) c.args.key.now)
        → IsFullWay c.args.image.now.bytes (shape_kind c.args.image.now.bytes c.args.shape.now) way
    full_is = of_full s shape c.args.root c.requires.chunks.read (λ p. omega (arith, c.requires.chunks.apart p)) short offsets same way (found way to)

pub tree_node-requires-clause-there : goal.tree_node-requires-clause-there
tree_node-requires-clause-there c =
    root_there c.args.image.now.bytes (OfChunks c.args.shape.now) c.args.root (tree_there c.args.image.now.bytes c.args.shape.now c.args.root (c.requires.chunks).read)

pub is_full_way-requires : goal.is_full_way-requires
is_full_way-requires c =
    let b = (goal.at.is_full_way-requires c).After-way_to in
    record { ends = subst (λ (k : Kind). EndsSomewhere c.args.image.now k c.in-Some.way) (sym c.kind.ensures) (ends b c.in-Some.way c.in-Some.ensures.leads) }

pub returns : goal.returns
returns c =
    let b = (goal.at.returns c).After-way_to in
    let way : List Step = c.in-Some.way in
    let image : List ℕ = c.args.image.now.bytes in
    let level : c.level.result ≡ level_at image (shape_kind image c.args.shape.now) c.args.root = c.level.ensures ∙ ap (λ (n : Node). n.level) c.tree_node.ensures in
    let long : length way ≡ 16 = all b way c.in-Some.ensures.leads (omega (arith, level, c.if-level-lt-MAX_LEVEL.false)) in (
      λ it. is_full b way c.in-Some.ensures.leads long (subst (λ (k : Kind). IsFullWay image k way) c.kind.ensures (c.is_full_way.ensures.0 it)),
      λ f. c.is_full_way.ensures.1 (subst (λ (k : Kind). IsFullWay image k way) (sym c.kind.ensures) (full_is b way c.in-Some.ensures.leads f)),
    )
