-- A tree for the chunks of an array that had none: the Data Layout message names it, and it has no chunk.
use Rattle.std.proofs.Common.{◌≡◌, ℕ, zero, suc, ◌*◌, ◌≤◌, List, [], ◌∷◌, ◌++◌, length, map, refl, sym, ap, ◌∙◌, subst, arith, Option, Some, None, ◌==◌}
use Rattle.std.specs.Prelude.{option_and_then, option_map}
use Rattle.std.specs.FinMap.{empty}
use Rattle.std.specs.List.{find}
use Rattle.h5_bytes.specs.Bytes.{little_bytes, part}
use Rattle.h5_bytes.specs.Blocks.{Inside, Keeps, block, cover}
use Rattle.h5_bytes.specs.declared.Block.{Block}
use Rattle.h5_bytes.proofs.BlockLaws.{cover-append}
use Rattle.h5_bytes.proofs.PartLaws.{length-part}
use Rattle.h5_model.specs.Format.Limits.{most_bytes, most_chunk_bytes}
use Rattle.h5_model.specs.Format.MessageTypes.{data_layout_kind}
use Rattle.h5_model.specs.Format.Fixed.{Fixed}
use Rattle.h5_model.specs.Format.Layout.{InBlock, InChunks, Layout, layout_of}
use Rattle.h5_model.specs.Format.Messages.{first_body}
use Rattle.h5_model.specs.Format.Nodes.{Kind, node_at, tree_blocks}
use Rattle.h5_model.specs.Format.Reached.{Shape, level_at, shape_kind}
use Rattle.h5_model.specs.Format.Rows.{Reading, nodes}
use Rattle.h5_model.specs.Format.Superblock.{chunk_k}
use Rattle.h5_model.specs.Format.Described.{Described, HasArray}
use Rattle.h5_model.proofs.KLaws.{same_chunk}
use Rattle.h5_model.specs.Tree.Places.{cells}
use Rattle.h5_space.specs.Moves.{Moves, Spends}
use Rattle.h5_space.specs.Space.{Space}
use Rattle.h5_header.specs.Listed.{IsWithin, Listed, messages_in}
use Rattle.h5_header.specs.declared.message.Message.{Message as Placed}
use Rattle.h5_header.proofs.FoundLaws.{first_body-in, within_at}
use Rattle.h5_chunks.specs.Read.{AreChunksRead}
use Rattle.h5_chunks.specs.Told.{addresses_told, chunk_blocks_told, chunks_told}
use Rattle.h5_chunks.proofs.ToldLaws.{chunk_blocks_told-same, chunks_read-same, chunks_told-same}
use Rattle.h5_layout.specs.ArrayEdits.{IsArrayApart, IsArrayMoved, described_in}
use Rattle.h5_chunks.specs.Edited.{AreChunksApart}
use Rattle.h5_layout.specs.Data.{AreDataRead, chunk_shape, data_blocks}
use Rattle.h5_layout.specs.LayoutEdits.{HasLayoutRoom, IsLayoutWritten}
use Rattle.h5_layout.specs.NewTrees.{IsTreeNamed}
use Rattle.h5_layout.proofs.ArrayMoved.{body_now, layout_k, layout_long, layout_moved, layout_spends, layout_told_now, layout_was, taken_keeps}
use Rattle.h5_layout.proofs.LayoutBodies.{block_room, tree_named, tree_room}
use Rattle.h5_layout.proofs.StorableLaws.{small_told}

-- ---- the Data Layout message

-- it is found, and tells the layout
pub record IsLayoutFound (image : List ℕ) (list : List Placed) (a : Described) : Type 0 where
  pub place : Placed
  pub found : find (λ (m : Placed). m.kind == data_layout_kind) list ≡ Some place
  pub layout : layout_of a.sizes a.fixed.size (part place.at place.size image) ≡ Some a.layout
  pub long : length (part place.at place.size image) ≡ place.size

pub layout_found : (image : List ℕ) (list : List Placed) → IsWithin (length image) list → (a : Described) → HasArray (messages_in image list) a → IsLayoutFound image list a
layout_found image list within a has = go (find (λ (m : Placed). m.kind == data_layout_kind) list) refl where
  go : (found : Option Placed) → find (λ (m : Placed). m.kind == data_layout_kind) list ≡ found → IsLayoutFound image list a
  go None none =
      let body : first_body data_layout_kind (messages_in image list) ≡ None = first_body-in image 8 list ∙ ap (option_map (λ (m : Placed). part m.at m.size image)) none in
      let never : None ≡ Some a.layout = sym (ap (option_and_then (layout_of a.sizes a.fixed.size)) body) ∙ has.laid_out in
      absurd (cc)
  go (Some x) here =
      let body : first_body data_layout_kind (messages_in image list) ≡ Some (part x.at x.size image) = first_body-in image 8 list ∙ ap (option_map (λ (m : Placed). part m.at m.size image)) here in
      record {
        place = x;
        found = here;
        layout = sym (ap (option_and_then (layout_of a.sizes a.fixed.size)) body) ∙ has.laid_out;
        long = length-part x.at x.size image (within_at (length image) 8 list x within here);
      }

pub tree_place : (image : List ℕ) (list : List Placed) → IsWithin (length image) list → (a : Described) → HasArray (messages_in image list) a
    → (chunk : List ℕ) (root : Option ℕ) → a.layout ≡ InChunks chunk root → HasLayoutRoom list 11
tree_place image list within a has chunk root is =
    let f = layout_found image list within a has in
    let room = tree_room a.sizes a.fixed.size (part f.place.at f.place.size image) chunk root (f.layout ∙ ap (λ (l : Layout). Some l) is) in
    record { place = f.place; found = f.found; long = omega (arith, room, f.long) }

pub block_place : (image : List ℕ) (list : List Placed) → IsWithin (length image) list → (a : Described) → HasArray (messages_in image list) a
    → (b : Option Block) → a.layout ≡ InBlock b → HasLayoutRoom list 18
block_place image list within a has b is =
    let f = layout_found image list within a has in
    let room = block_room a.sizes a.fixed.size (part f.place.at f.place.size image) b (f.layout ∙ ap (λ (l : Layout). Some l) is) in
    record { place = f.place; found = f.found; long = omega (arith, room, f.long) }

-- ---- the chunks of an array

pub chunks_apart : (s : Space) (m : Listed) → IsArrayApart s m → (chunk : List ℕ) (root : ℕ) → (described_in s.bytes m).layout ≡ InChunks chunk (Some root)
    → AreChunksApart s (chunk_shape (described_in s.bytes m).fixed chunk) root
chunks_apart s m was chunk root is =
    let t : Fixed = (described_in s.bytes m).fixed in
    let blocks = chunk_blocks_told s.bytes (chunk_shape t chunk) root in
    record {
      read = subst (AreDataRead s.bytes t) is was.read;
      apart = λ p.
          let told = ap (λ (l : Layout). cover p (data_blocks s.bytes t l)) is in
          omega (arith, was.apart p, told, cover-append p m.blocks (data_blocks s.bytes t (described_in s.bytes m).layout));
      long = was.long;
    }

-- the root of a tree is one of its nodes
root_first : (V : Reading) (kind : Kind) (level root n : ℕ) (others : List Block) → Inside n (tree_blocks kind (nodes V level (root ∷ [])) ++ others) → root ≤ n
root_first V kind zero root n others inside = omega (arith, inside.0)
root_first V kind (suc level) root n others inside = omega (arith, inside.0)

root_low : (image : List ℕ) (shape : Shape) (root : ℕ) → AreChunksRead image shape root → root ≤ length image
root_low image shape root read =
    let kind = shape_kind image shape in
    root_first (node_at image kind) kind (level_at image kind root) root (length image) (map (λ (at : ℕ). block at shape.bytes) (addresses_told image shape root)) read.inside

-- ---- a tree is named

module _ (old mid new : Space) (m : Listed) (was : IsArrayApart old m) (shape : Shape) (root : ℕ)
    (none : (described_in old.bytes m).layout ≡ InChunks shape.sizes None) (shape_is : shape ≡ chunk_shape (described_in old.bytes m).fixed shape.sizes)
    (stand : AreChunksApart mid shape root) (empty_told : chunks_told mid.bytes shape root ≡ empty) (taken : Moves old mid [] (chunk_blocks_told mid.bytes shape root))
    (short : length mid.bytes ≤ most_bytes) (wrote : IsLayoutWritten mid new m.list 3 (little_bytes 8 root)) where
  abbrev a : Described
  a = described_in old.bytes m

  abbrev bs : List Block
  bs = chunk_blocks_told mid.bytes shape root

  no_blocks : data_blocks old.bytes a.fixed a.layout ≡ []
  no_blocks = ap (data_blocks old.bytes a.fixed) none

  keeps : Keeps mid.bytes new.bytes bs
  keeps = taken_keeps old mid new m was no_blocks bs taken 3 (little_bytes 8 root) wrote stand.read.inside

  long : length new.bytes ≡ length mid.bytes
  long = layout_long old mid new m was no_blocks bs taken 3 (little_bytes 8 root) wrote

  pub named_spends : Spends mid new 0 0
  named_spends = layout_spends old mid new m was no_blocks bs taken 3 (little_bytes 8 root) wrote

  same_k : chunk_k new.bytes ≡ chunk_k mid.bytes
  same_k = same_chunk new.bytes mid.bytes (layout_k old mid new m was no_blocks bs taken 3 (little_bytes 8 root) wrote)

  chunks_now : chunks_told new.bytes shape root ≡ empty
  chunks_now = chunks_told-same mid.bytes new.bytes shape root stand.read same_k keeps ∙ empty_told

  blocks_now : chunk_blocks_told new.bytes shape root ≡ bs
  blocks_now = chunk_blocks_told-same mid.bytes new.bytes shape root stand.read same_k keeps

  read_now : AreChunksRead new.bytes shape root
  read_now = chunks_read-same mid.bytes new.bytes shape root stand.read same_k keeps (subst (λ (n : ℕ). Inside n bs) (sym long) stand.read.inside)

  abbrev l : Layout
  l = InChunks shape.sizes (Some root)

  named_now : layout_of a.sizes a.fixed.size (body_now old mid new m was no_blocks bs taken 3 (little_bytes 8 root) wrote) ≡ Some l
  named_now =
      tree_named a.sizes a.fixed.size (part wrote.place.at wrote.place.size old.bytes) shape.sizes None
      (layout_was old mid new m was no_blocks bs taken 3 (little_bytes 8 root) wrote ∙ ap (λ (x : Layout). Some x) none) root
      (let low = root_low mid.bytes shape root stand.read in omega (arith, low, short))

  data_now : AreDataRead new.bytes a.fixed l
  data_now = subst (λ (s : Shape). AreChunksRead new.bytes s root) shape_is read_now

  data_are : data_blocks new.bytes a.fixed l ≡ bs
  data_are = ap (λ (s : Shape). chunk_blocks_told new.bytes s root) (sym shape_is) ∙ blocks_now

  small : cells shape.sizes * a.fixed.size ≤ most_chunk_bytes
  small = small_told (messages_in old.bytes m.list) a was.array shape.sizes None none

  moved : IsArrayMoved old new m m
  moved = layout_moved old mid new m was no_blocks bs taken 3 (little_bytes 8 root) wrote l named_now small data_now data_are

  told : described_in new.bytes m ≡ record a { layout = l }
  told = layout_told_now old mid new m was no_blocks bs taken 3 (little_bytes 8 root) wrote l named_now small data_now data_are

  pub tree_is_named : IsTreeNamed old new m shape root
  tree_is_named = record {
    moved = moved;
    told = told;
    stand = subst (λ (s : Shape). AreChunksApart new s root) (ap (λ (x : Described). chunk_shape x.fixed shape.sizes) told ∙ sym shape_is)
        (chunks_apart new m moved.stand shape.sizes root (ap (λ (x : Described). x.layout) told));
    none = chunks_now;
  }
