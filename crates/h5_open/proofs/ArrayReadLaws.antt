-- An array that was read in a walk.
use Rattle.std.proofs.Common.{◌≡◌, ◌⊎◌, inl, inr, ℕ, ◌+◌, ◌-◌, ◌<◌, ◌≤◌, List, [], ◌∷◌, ◌++◌, map, length, refl, sym, ap, subst, Some, None, arith, true, false}
use Rattle.std.specs.Prelude.{◌==◌, false}
use Rattle.std.specs.List.{AllByRecursion, find}
use Rattle.h5_bytes.specs.Blocks.{block, holds, cover, Separate}
use Rattle.h5_bytes.specs.declared.Block.{Block}
use Rattle.h5_bytes.proofs.BlockLaws.{all_append, all_so, cover-append}
use Rattle.h5_model.specs.Faults.Breaches.{is_header}
use Rattle.h5_model.specs.Format.MessageTypes.{data_layout_kind}
use Rattle.h5_model.specs.Format.Messages.{Message, HasMessages}
use Rattle.h5_model.specs.Format.Nodes.{tree_blocks}
use Rattle.h5_model.specs.Format.Reached.{Named, Shape, length_of, shape_kind}
use Rattle.h5_model.specs.Format.Layout.{Layout, InMessage, InBlock, InChunks}
use Rattle.h5_attr.specs.Attributes.{HasNamesOnce}
use Rattle.h5_chunks.specs.Told.{addresses_told, chunk_blocks_told, chunk_nodes_told}
use Rattle.h5_chunks.specs.Walk.Followed.{IsTreeFollowed}
use Rattle.h5_chunks.specs.Walk.Forms.{OfChunks}
use Rattle.h5_layout.specs.Data.{AreDataRead, chunk_shape, data_blocks}
use Rattle.h5_layout.specs.Told.{array_told, layout_told, type_told}
use Rattle.h5_header.specs.Listed.{Listed, messages_in}
use Rattle.h5_header.specs.Walk.Met.{with_header}
use Rattle.h5_header.specs.Walk.Walked.{IsWalked}
use Rattle.h5_header.proofs.WalkLaws.MetHeader.{met_walked}
use Rattle.h5_header.proofs.WalkLaws.MetFields.{met_walked as field_walked}
use Rattle.h5_open.specs.declared.opened.object.OpenedObject.{OpenedObject}
use Rattle.h5_open.specs.declared.opened.object.OpenedContent.TheVariants as content
use Rattle.h5_open.specs.Followed.{FollowsData}
use Rattle.h5_open.specs.Opened.Judged.{IsArrayList}
use Rattle.h5_open.specs.Read.{IsHeaderRead, IsHeaderDone, IsObjectRead, IsObjectFollowed, IsOwn}
use Rattle.h5_open.proofs.HeaderFields.{only_inner}
use Rattle.h5_open.proofs.ArrayLaws.{y, first, y_inside, y_met, y_length, root_there, chunks_met}
use Rattle.h5_open.proofs.ContentLaws.{content_followed, message_free}
use Rattle.h5_open.proofs.DataLaws.{data_inside}

abbrev pub array_object : Listed → OpenedObject
array_object m = record { messages = m; content = content.Array; tidy = false }

-- the blocks of the data that the messages tell
abbrev pub array_blocks : List ℕ → Listed → List Block
array_blocks image m = data_blocks image (type_told (messages_in image m.list)) (layout_told (messages_in image m.list))

pub array_object_read : (image : List ℕ) (held now after : List Block) (m : Listed) (depth : ℕ) → IsHeaderRead image m → IsArrayList (messages_in image m.list)
    → HasNamesOnce (messages_in image m.list) → 1 ≤ depth → AreDataRead image (type_told (messages_in image m.list)) (layout_told (messages_in image m.list))
    → ((p : ℕ) → cover p now ≡ cover p held + cover p m.blocks) → ((p : ℕ) → cover p after ≡ cover p now + cover p (array_blocks image m))
    → IsObjectRead image held after m.header depth (array_object m)
array_object_read image held now after m depth read list names inner stands claimed stored = record {
  kept = record {
    header = record { has = read.has; inside = read.inside; within = read.within; names = names; attributes = list.attributes };
    known = read.known;
    content = (list, stands);
    tidy = λ known. absurd (let never : false ≡ true = known in cc);
  };
  header_is = refl;
  top = λ e. absurd (omega (arith, e, inner));
  shallow = λ some. absurd (omega (arith, some));
  inside = all_append (λ (b : Block). b.at + b.len ≤ length image) m.blocks (array_blocks image m) read.inside
      (data_inside image (type_told (messages_in image m.list)) (layout_told (messages_in image m.list)) stands);
  claimed = λ p. omega (arith, claimed p, stored p, cover-append p m.blocks (array_blocks image m));
}

module _ (image : List ℕ) (held now : List Block) (followed : List Named) (field depth : ℕ) (m : Listed) (done : IsHeaderDone image held now followed field depth m) (separate : Separate now)
    (list : IsArrayList (messages_in image m.list)) (after : List Block) where
  abbrev ms : List Message
  ms = messages_in image m.list

  abbrev has : HasMessages image m.header ms m.blocks
  has = (done.read).has

  -- the message that names the data
  abbrev found : (x : Message) × (find (λ (y : Message). y.kind == data_layout_kind) ms ≡ Some x)
  found = first image m.header ms m.blocks has (done.read).inside held followed field depth done.met now done.claimed separate (array_told ms) list.array

  free : (f : ℕ) → found.0.at ≤ f → f < found.0.at + 8 + length found.0.body → cover (f - 8) held ≡ 0
  free f from to = message_free image m.header ms m.blocks has held now done.claimed separate 8 found.0 found.1 f from to

  -- with these fields, none of which names a header
  array_followed : (new : List Named) → IsWalked image after (new ++ with_header field m.header depth ms followed) → AllByRecursion (IsOwn held field) new
      → AllByRecursion (λ (y : Named). is_header y.role ≡ false) new → IsObjectFollowed image held after followed field depth (array_object m)
  array_followed new walked stands inner =
      content_followed image held now followed field depth m done separate after content.Array false new walked stands (only_inner m.header new inner) [] refl

  -- there are no blocks of data
  none_followed : ((p : ℕ) → cover p after ≡ cover p now) → IsObjectFollowed image held after followed field depth (array_object m)
  none_followed stored =
      array_followed [] (met_walked image held followed field m.header depth done.met ms m.blocks has after (λ p. omega (arith, stored p, done.claimed p))) tt tt

  -- there is a block of cells
  module _ (b : Block) (some : layout_told ms ≡ InBlock (Some b)) (stored : (p : ℕ) → cover p after ≡ cover p now + cover p (b ∷ [])) where
    abbrev cells_field : Named
    cells_field = y image m.header ms m.blocks has (done.read).inside held followed field depth done.met now done.claimed separate (array_told ms) list.array b some

    cells_free : cover (cells_field.field - 8) held ≡ 0
    cells_free = free (found.0.at + 2) (omega arith)
        (y_inside image m.header ms m.blocks has (done.read).inside held followed field depth done.met now done.claimed separate (array_told ms) list.array b some)

    size : length_of image cells_field ≡ b.len
    size = y_length image m.header ms m.blocks has (done.read).inside held followed field depth done.met now done.claimed separate (array_told ms) list.array b some

    claimed_cells : (p : ℕ) → cover p after ≡ cover p now + holds p cells_field.at (length_of image cells_field)
    claimed_cells p = omega (arith, stored p, ap (holds p b.at) size)

    block_followed : IsObjectFollowed image held after followed field depth (array_object m)
    block_followed = array_followed (cells_field ∷ [])
        (field_walked image now (with_header field m.header depth ms followed) (met_walked image held followed field m.header depth done.met ms m.blocks has now done.claimed) cells_field
        (y_met image m.header ms m.blocks has (done.read).inside held followed field depth done.met now done.claimed separate (array_told ms) list.array b some) after claimed_cells)
        (inr cells_free, tt) (refl, tt)

  -- there is a tree of chunks
  module _ (sizes : List ℕ) (root : ℕ) (some : layout_told ms ≡ InChunks sizes (Some root)) where
    abbrev shape : Shape
    shape = chunk_shape (type_told ms) sizes

    abbrev before : List Named
    before = with_header field m.header depth ms followed

    module _ (stored : (p : ℕ) → cover p after ≡ cover p now + cover p (chunk_blocks_told image shape root)) (once : Separate after)
        (gone : IsTreeFollowed image (OfChunks shape) after before (found.0.at + 3) root 0 depth (chunk_nodes_told image shape root) (addresses_told image shape root)) where
      abbrev node_blocks : List Block
      node_blocks = tree_blocks (shape_kind image shape) (chunk_nodes_told image shape root)

      own_of : (y : Named) → (y.field ≡ found.0.at + 3) ⊎ (1 ≤ cover (y.field - 8) node_blocks) → IsOwn held field y
      own_of y (inl e) = inr (subst (λ (f : ℕ). cover (f - 8) held ≡ 0) (sym e) (free (found.0.at + 3) (omega arith)
          (root_there image m.header ms m.blocks has (done.read).inside held followed field depth done.met now done.claimed separate (array_told ms) list.array sizes root some)))
      own_of y (inr hit) =
          let p = y.field - 8 in
          inr (omega (arith, hit, cover-append p node_blocks (map (λ (at : ℕ). block at shape.bytes) (addresses_told image shape root)), stored p, once p, done.claimed p))

      chunks_followed : IsObjectFollowed image held after followed field depth (array_object m)
      chunks_followed = array_followed gone.new gone.walked
          (all_so (λ (y : Named). (y.field ≡ found.0.at + 3) ⊎ (1 ≤ cover (y.field - 8) node_blocks)) (IsOwn held field) gone.new own_of gone.stands) gone.inner

  pub array_object_followed : ((p : ℕ) → cover p after ≡ cover p now + cover p (array_blocks image m)) → Separate after → FollowsData image now after (type_told ms) (layout_told ms)
      → IsObjectFollowed image held after followed field depth (array_object m)
  array_object_followed stored once follows = go (layout_told ms) refl stored follows where
    go : (l : Layout) → layout_told ms ≡ l → ((p : ℕ) → cover p after ≡ cover p now + cover p (data_blocks image (type_told ms) l)) → FollowsData image now after (type_told ms) l
        → IsObjectFollowed image held after followed field depth (array_object m)
    go (InMessage bytes) is claimed follows = none_followed (λ p. omega (arith, claimed p))
    go (InBlock None) is claimed follows = none_followed (λ p. omega (arith, claimed p))
    go (InBlock (Some b)) is claimed follows = block_followed b is claimed
    go (InChunks sizes None) is claimed follows = none_followed (λ p. omega (arith, claimed p))
    go (InChunks sizes (Some root)) is claimed follows = chunks_followed sizes root is claimed once
        (follows (with_header field m.header depth ms followed) (found.0.at + 3) 0 depth
        (chunks_met image m.header ms m.blocks has (done.read).inside held followed field depth done.met now done.claimed separate (array_told ms) list.array sizes root is))
