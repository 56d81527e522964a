use Rattle.std.proofs.Common.{◌≡◌, ◌↔◌, ℕ, ◌+◌, ◌*◌, ◌<◌, true, List, [], length, Option, Some, None, refl, sym, ap, ◌∙◌, subst}
use Rattle.std.specs.Prelude.{Err, slice_index_or}
use Rattle.std.specs.FinMap.{empty, get}
use Rattle.std.proofs.lemmas.Result.{IfOk-weaker}
use Rattle.h5_chunks.specs.InsertFaultType.{InsertFault}
use Rattle.h5_space.specs.declared.image.SpaceFault.{SpaceFault}
use Rattle.h5_header.specs.Listed.{Listed, messages_in}
use Rattle.h5_model.specs.Format.Chunks.{Chunks}
use Rattle.h5_model.specs.Format.Fixed.{Fixed, IsFixed, fits}
use Rattle.h5_model.specs.Format.Layout.{InChunks, Layout}
use Rattle.h5_model.specs.Format.Limits.{most_bytes}
use Rattle.h5_model.specs.Format.Reached.{Shape}
use Rattle.h5_model.specs.Format.Described.{Described}
use Rattle.h5_model.specs.Tree.Places.{cells}
use Rattle.h5_space.proofs.RunEdits.{on_ok_then}
use Rattle.h5_chunks.specs.Told.{chunks_told}
use Rattle.h5_layout.specs.ArrayChunks.{ArrayChunks, IsInChunksOf}
use Rattle.h5_layout.specs.ArrayEdits.{described_in}
use Rattle.h5_chunks.specs.Edited.{AreChunksApart, CanBeStored}
use Rattle.h5_layout.specs.Data.{chunk_shape, stored_chunks}
use Rattle.h5_layout.specs.Filled.{AreToStore, FillsChunk, HasFilledChunks, cells_of_fill}
use Rattle.h5_layout.specs.NewTrees.{IsTreeMade}
use Rattle.h5_layout.specs.Storage.{IsDeepIn, IsFullInNewTree, IsFullInTurn, chunks_room, chunks_room_in}
use Rattle.h5_layout.specs.declared.copied.CellsToFill.{CellsToFill}
use Rattle.h5_layout.proofs.FilledLaws.{then_at}
use Rattle.h5_layout.proofs.NewTreeLaws.{chunks_apart}
use Rattle.h5_layout.proofs.RoomLaws.{is_array}
use Rattle.h5_layout.proofs.StorableLaws.{storable_told}
use Rattle.h5_layout.proofs.StorageMade.{added_placed, chunks_made, to_store, tree_made}
use Rattle.h5_layout.proofs.storage.make_chunks.Goals as goal
use Rattle.h5_layout.proofs.storage.make_chunks.Goals.{After-root}

-- the array is in these chunks
module _ (c : After-root) where
  abbrev image : List ℕ
  image = c.args.image.now.bytes

  abbrev m : Listed
  m = c.args.messages.now

  abbrev a : Described
  a = described_in image m

  abbrev k : ArrayChunks
  k = c.args.chunks.now

  abbrev form : Shape
  form = chunk_shape a.fixed k.chunk

  of : IsInChunksOf a k
  of = c.requires.chunks

  shape : c.shape-shape.result ≡ form
  shape = c.shape-shape.ensures ∙ ap (λ (t : Fixed). chunk_shape t k.chunk) of.fixed

  laid : (r : Option ℕ) → c.root.result ≡ r → a.layout ≡ InChunks k.chunk r
  laid r is = of.layout ∙ ap (InChunks k.chunk) (sym c.root.ensures ∙ is)

  abbrev cells_to : CellsToFill
  cells_to = c.cells-cells.result

  bytes : cells_of_fill cells_to.fixed cells_to.fill cells_to.count ≡ cells_of_fill a.fixed a.fill (cells k.chunk)
  bytes = λ i. cells_of_fill ((c.cells-cells.ensures.fixed ∙ of.fixed) i) ((c.cells-cells.ensures.fill ∙ of.fill) i) (c.cells-cells.ensures.count i)

  sound : IsFixed a.fixed
  sound = subst IsFixed of.fixed c.cells-cells.ensures.sound.sound

  of_type : fits a.fixed a.fill ≡ true
  of_type = (λ i. fits (sym of.fixed i) (sym of.fill i)) ∙ c.cells-cells.ensures.sound.of_type

  storable : CanBeStored c.shape-shape.result
  storable =
      subst CanBeStored (sym shape)
      (storable_told (messages_in image m.list) a c.requires.array.array k.chunk k.root of.layout c.cells-cells.ensures.sound.sizes c.cells-cells.ensures.sound.short)

  fills : FillsChunk cells_to.fixed cells_to.fill cells_to.count c.shape-shape.result
  fills = record {
    sound = subst IsFixed (sym c.cells-cells.ensures.fixed) c.cells-cells.ensures.sound.sound;
    of_type = (λ i. fits (c.cells-cells.ensures.fixed i) (c.cells-cells.ensures.fill i)) ∙ c.cells-cells.ensures.sound.of_type;
    sized = (λ i. c.cells-cells.ensures.count i * (c.cells-cells.ensures.fixed i).size) ∙ ap (λ (s : Shape). s.bytes) (sym c.shape-shape.ensures);
  }

  -- of which these chunks are missing
  are : (r : Option ℕ) → c.root.result ≡ r → AreToStore (stored_chunks image a.fixed (InChunks k.chunk r)) form c.args.new.now
  are r is =
      subst (λ (x : Chunks). AreToStore x form c.args.new.now) (ap (stored_chunks image a.fixed) (laid r is))
      (to_store image a k.chunk r (laid r is) (is_array (messages_in image m.list) a c.requires.array.array) c.cells-cells.ensures.sound.sizes c.requires.missing.0 c.args.new.now c.requires.missing.1)

pub add_chunks-requires-clause-chunks : goal.add_chunks-requires-clause-chunks
add_chunks-requires-clause-chunks c =
    let d = (goal.at.add_chunks-requires-clause-chunks c).After-root in
    subst (λ (s : Shape). AreChunksApart c.args.image.now s c.in-Some.root) (sym (shape d))
    (chunks_apart c.args.image.now c.args.messages.now c.requires.array (k d).chunk c.in-Some.root (laid d (Some c.in-Some.root) c.in-Some.is))

pub add_chunks-requires-clause-storable : goal.add_chunks-requires-clause-storable
add_chunks-requires-clause-storable c = storable (goal.at.add_chunks-requires-clause-storable c).After-root

pub add_chunks-requires-clause-cells : goal.add_chunks-requires-clause-cells
add_chunks-requires-clause-cells c = fills (goal.at.add_chunks-requires-clause-cells c).After-root

pub add_chunks-requires-clause-new : goal.add_chunks-requires-clause-new
add_chunks-requires-clause-new c =
    let d = (goal.at.add_chunks-requires-clause-new c).After-root in
    subst (λ (s : Shape). AreToStore (chunks_told (image d) s c.in-Some.root) s c.args.new.now) (sym (shape d)) (are d (Some c.in-Some.root) c.in-Some.is)

pub make_tree-requires-clause-storable : goal.make_tree-requires-clause-storable
make_tree-requires-clause-storable c = storable (goal.at.make_tree-requires-clause-storable c).After-root

pub make_tree-requires-clause-cells : goal.make_tree-requires-clause-cells
make_tree-requires-clause-cells c = fills (goal.at.make_tree-requires-clause-cells c).After-root

pub make_tree-requires-clause-new : goal.make_tree-requires-clause-new
make_tree-requires-clause-new c =
    let d = (goal.at.make_tree-requires-clause-new c).After-root in
    subst (λ (s : Shape). AreToStore empty s c.args.new.now) (sym (shape d)) (are d None c.in-None.is)

pub returns-in-Some-clause-made : goal.returns-in-Some-clause-made
returns-in-Some-clause-made c =
    let d = (goal.at.returns-in-Some-clause-made c).After-root in
    let old = c.args.image.now in
    let new = c.add_chunks.new.image in
    let root = c.in-Some.root in
    let all = c.args.new.now.offsets in
    let kept : List ℕ = cells_of_fill (cells_to d).fixed (cells_to d).fill (cells_to d).count in
    on_ok_then c.add_chunks.result c.add_chunks.ensures.stored (λ filled slab missing.
    chunks_made old new c.args.messages.now c.requires.array (k d).chunk root (laid d (Some root) c.in-Some.is) c.cells-cells.ensures.sound.sizes (sound d) (of_type d) c.args.new.now
    (subst (λ (bs : List ℕ). HasFilledChunks old new (form d) root bs all) (bytes d) (subst (λ (s : Shape). HasFilledChunks old new s root kept all) (shape d) filled)) slab missing (k d))

pub returns-in-Some-clause-placed : goal.returns-in-Some-clause-placed
returns-in-Some-clause-placed c =
    let d = (goal.at.returns-in-Some-clause-placed c).After-root in
    let old = c.args.image.now in
    let new = c.add_chunks.new.image in
    let root = c.in-Some.root in
    let all = c.args.new.now.offsets in
    let kept : List ℕ = cells_of_fill (cells_to d).fixed (cells_to d).fill (cells_to d).count in
    then_at c.add_chunks.result c.add_chunks.ensures.stored c.add_chunks.ensures.first (λ filled at first some.
    added_placed old new c.args.messages.now c.requires.array (a d) refl (k d).chunk root (laid d (Some root) c.in-Some.is) all
    (subst (λ (bs : List ℕ). HasFilledChunks old new (form d) root bs all) (bytes d) (subst (λ (s : Shape). HasFilledChunks old new s root kept all) (shape d) filled))
    (slice_index_or all 0 []) at (subst (λ (s : Shape). get (chunks_told new.bytes s root) (slice_index_or all 0 []) ≡ Some at) (shape d) (first some)))

pub returns-in-Some-clause-deep : goal.returns-in-Some-clause-deep
returns-in-Some-clause-deep c is =
    let d = (goal.at.returns-in-Some-clause-deep c).After-root in
    let root = c.in-Some.root in
    let all = c.args.new.now.offsets in
    let turn = c.add_chunks.ensures.deep is in (
      turn.0,
      subst (IsDeepIn (image d) (a d) all turn.0) (sym (laid d (Some root) c.in-Some.is))
          (subst (λ (s : Shape). IsFullInTurn (image d) s root all turn.0) (shape d) turn.1),
    )

pub returns-in-Some-clause-full : goal.returns-in-Some-clause-full
returns-in-Some-clause-full c =
    let d = (goal.at.returns-in-Some-clause-full c).After-root in
    let root = c.in-Some.root in
    let all = c.args.new.now.offsets in
    let fault : InsertFault = InsertFault.Space SpaceFault.ImageFull in
    subst (λ (l : Layout). (c.add_chunks.result ≡ Err fault) ↔ ((IsDeepIn (image d) (a d) all 0 l → ⊥) × (most_bytes < length (image d) + chunks_room_in (image d) (a d) (length all) l)))
    (sym (laid d (Some root) c.in-Some.is))
    (subst (λ (s : Shape). (c.add_chunks.result ≡ Err fault) ↔ ((IsFullInTurn (image d) s root all 0 → ⊥) × (most_bytes < length (image d) + chunks_room (image d) s (length all)))) (shape d)
    c.add_chunks.ensures.full)

pub returns-in-None-clause-made : goal.returns-in-None-clause-made
returns-in-None-clause-made c =
    let d = (goal.at.returns-in-None-clause-made c).After-root in
    let old = c.args.image.now in
    let new = c.make_tree.new.image in
    let all = c.args.new.now.offsets in
    let kept : List ℕ = cells_of_fill (cells_to d).fixed (cells_to d).fill (cells_to d).count in
    IfOk-weaker c.make_tree.result _ _ (λ at was slab missing.
    let made = subst (λ (bs : List ℕ). IsTreeMade old new (m d) (form d) bs all at) (bytes d) (subst (λ (s : Shape). IsTreeMade old new (m d) s kept all at) (shape d) was) in
    tree_made old made.named new (m d) c.requires.array (k d).chunk made.root (laid d None c.in-None.is) made.tree c.cells-cells.ensures.sound.sizes (sound d) (of_type d) c.args.new.now
    made.filled slab missing (k d)) c.make_tree.ensures.made

pub returns-in-None-clause-placed : goal.returns-in-None-clause-placed
returns-in-None-clause-placed c =
    let d = (goal.at.returns-in-None-clause-placed c).After-root in
    let old = c.args.image.now in
    let new = c.make_tree.new.image in
    let all = c.args.new.now.offsets in
    let kept : List ℕ = cells_of_fill (cells_to d).fixed (cells_to d).fill (cells_to d).count in
    IfOk-weaker c.make_tree.result _ _ (λ at was some.
    let made = subst (λ (bs : List ℕ). IsTreeMade old new (m d) (form d) bs all at) (bytes d) (subst (λ (s : Shape). IsTreeMade old new (m d) s kept all at) (shape d) was) in
    added_placed made.named new (m d) made.tree.moved.stand (record (a d) { layout = InChunks (k d).chunk (Some made.root) }) made.tree.told (k d).chunk made.root refl all made.filled
    (slice_index_or all 0 []) at (made.first some))
    c.make_tree.ensures.made

pub returns-in-None-clause-deep : goal.returns-in-None-clause-deep
returns-in-None-clause-deep c is =
    let d = (goal.at.returns-in-None-clause-deep c).After-root in
    let all = c.args.new.now.offsets in
    let turn = c.make_tree.ensures.deep is in (
      turn.0,
      subst (IsDeepIn (image d) (a d) all turn.0) (sym (laid d None c.in-None.is))
          (subst (λ (s : Shape). IsFullInNewTree (image d) s all turn.0) (shape d) turn.1),
    )
