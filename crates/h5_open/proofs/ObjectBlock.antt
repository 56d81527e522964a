-- The block of an object that was put where it will stand: it shares no byte with others, its bytes stay while the link is put, and no header
-- stood in it before.
use Rattle.std.proofs.Common.{◌≡◌, ℕ, ◌+◌, ◌≤◌, List, [], ◌∷◌, ◌++◌, length, sym, ap, ◌∙◌, arith, Option, Some}
use Rattle.std.specs.BTreeMap.{BTreeMap}
use Rattle.std.specs.FinMap.{get}
use Rattle.std.proofs.lemmas.List.{length-append}
use Rattle.h5_bytes.specs.Bytes.{part}
use Rattle.h5_bytes.specs.Blocks.{block, cover, holds, Keeps}
use Rattle.h5_bytes.specs.declared.Block.{Block}
use Rattle.h5_bytes.proofs.BlockLaws.{cover-append, holds_in, holds-le}
use Rattle.h5_bytes.proofs.PartLaws.{part-front, part-part}
use Rattle.h5_model.specs.Format.Addresses.{SymbolTable}
use Rattle.h5_model.specs.Format.Messages.{first_size, prefix_at}
use Rattle.h5_space.specs.Moves.{Moves}
use Rattle.h5_space.specs.Space.{Space}
use Rattle.h5_space.specs.Whole.{IsApart}
use Rattle.h5_space.proofs.MovesLaws.{moves_apart, moves_beside, moves_kept, moves_same, moves_then}
use Rattle.h5_header.specs.Listed.{messages_in}
use Rattle.h5_group.specs.LinkEdits.{IsGroupApart}
use Rattle.h5_group.specs.Told.{blocks_told, links_told}
use Rattle.h5_open.specs.declared.opened.added.ObjectBytes.{ObjectBytes}
use Rattle.h5_open.specs.declared.opened.object.OpenedObject.{OpenedObject}
use Rattle.h5_open.specs.ObjectAdded.{IsObjectStored, stored_content, object_bytes}
use Rattle.h5_open.specs.Opened.Kept.{IsOpened}
use Rattle.h5_open.specs.Opened.Objects.{content_blocks, header_of, object_blocks, objects_of, opened_blocks, table_of}
use Rattle.h5_open.proofs.GroupBeside.{blocks_beside, exact_beside, k_beside, links_beside}
use Rattle.h5_open.proofs.GroupWritten.{IsGroupWritten, taken_stay}
use Rattle.h5_open.proofs.LinkCalls.{group_stood}
use Rattle.h5_open.proofs.ObjectPut.{IsObjectPut}
use Rattle.h5_open.proofs.OneRemade.{one_cover}
use Rattle.h5_open.proofs.OpenedLaws.Entries.{slot_of}
use Rattle.h5_open.proofs.OpenedLaws.Sounds.{object_of}
use Rattle.h5_open.proofs.TouchedBlocks.{group_blocks}

-- the block that an object takes
abbrev pub put_block : ℕ → ObjectBytes → List Block
put_block at b = block at (length (object_bytes b)) ∷ []

module _ (old taken linked new : Space) (slots : List (Option OpenedObject)) (numbers : BTreeMap ℕ ℕ) (opened : IsOpened old slots numbers) (parent : ℕ) (p o : OpenedObject)
    (t : SymbolTable) (name : List ℕ) (at : ℕ) (b : ObjectBytes) (is : IsObjectPut old taken linked new slots parent p o t name at b) where
  abbrev its : IsObjectStored old taken linked new t name at b
  its = is.stored

  abbrev own : List Block
  own = put_block at b

  took_apart : IsApart (own ++ opened_blocks old.bytes (objects_of slots)) taken.free (length taken.bytes)
  took_apart = moves_apart old taken [] own (opened_blocks old.bytes (objects_of slots)) its.took opened.apart

  -- ---- the group, where the block was taken

  group : IsGroupApart old t
  group = group_stood old slots numbers opened parent p t is.group is.kind

  blocks_took : blocks_told taken.bytes t ≡ blocks_told old.bytes t
  blocks_took = blocks_beside old taken own t group its.took

  -- its links are what they were
  pub links_took : links_told taken.bytes t ≡ links_told old.bytes t
  links_took = links_beside old taken own t group its.took

  -- ---- what moves

  link_moves : Moves taken linked (own ++ blocks_told old.bytes t) (own ++ blocks_told linked.bytes t)
  link_moves = moves_same taken linked (blocks_told taken.bytes t ++ own) (blocks_told linked.bytes t ++ own)
      (own ++ blocks_told old.bytes t) (own ++ blocks_told linked.bytes t)
      (λ q. let same = ap (cover q) blocks_took in omega (arith, same, cover-append q (blocks_told taken.bytes t) own))
      (λ q. omega (arith, cover-append q (blocks_told linked.bytes t) own))
      (moves_beside taken linked (blocks_told taken.bytes t) (blocks_told linked.bytes t) own its.moves)

  -- the links of the group were changed, and the block was taken beside
  pub put_written : IsGroupWritten old linked new slots parent p t own []
  put_written = record {
    group = is.group;
    kind = is.kind;
    read = its.apart.read;
    exact = λ was. its.exact (exact_beside old taken own t group its.took was);
    k = its.k ∙ k_beside old taken own t group its.took;
    moves = moves_then old taken linked (blocks_told old.bytes t) (own ++ blocks_told old.bytes t) (own ++ blocks_told linked.bytes t)
        (moves_beside old taken [] own (blocks_told old.bytes t) its.took) link_moves;
    later = its.later;
    beside = λ q. omega (arith, one_cover q (object_blocks old.bytes) slots parent p is.group);
  }

  -- ---- the object's bytes

  bytes_linked : Keeps taken.bytes linked.bytes own
  bytes_linked = moves_kept taken linked (blocks_told taken.bytes t) (blocks_told linked.bytes t) own its.moves
      (λ q.
      let same = ap (cover q) blocks_took in
      let group = ap (cover q) (group_blocks old.bytes p t is.kind) in
      omega (
        arith,
        took_apart q,
        same,
        group,
        one_cover q (object_blocks old.bytes) slots parent p is.group,
        cover-append q p.messages.blocks (blocks_told old.bytes t),
        cover-append q (blocks_told taken.bytes t) own,
      ))
      (its.inside, tt)

  bytes_new : Keeps linked.bytes new.bytes own
  bytes_new = taken_stay old linked new slots numbers opened parent p t own [] put_written (omega (arith, its.inside, its.moves.grown), tt)

  pub bytes_there : part at (length (object_bytes b)) new.bytes ≡ object_bytes b
  bytes_there = bytes_new.0 ∙ bytes_linked.0 ∙ its.there

  -- the header first
  pub header_there : part at (length b.header.now) new.bytes ≡ b.header.now
  header_there =
      let none : at + 0 ≡ at = omega arith in
      let first : part 0 (length b.header.now) (part at (length (object_bytes b)) new.bytes) ≡ part at (length b.header.now) new.bytes
      = rw none at (part-part 0 (length b.header.now) at (length (object_bytes b)) new.bytes (omega (arith, length-append b.header.now (stored_content b.content)))) in
      sym first ∙ ap (part 0 (length b.header.now)) bytes_there ∙ part-front b.header.now (stored_content b.content)

  pub block_inside : at + length (object_bytes b) ≤ length new.bytes
  block_inside = omega (arith, its.inside, its.moves.grown, its.later.grown)

  -- no header stood where its header stands
  pub place_is_new : 1 ≤ length (object_bytes b) → (n : ℕ) → get (table_of slots) n ≡ Some at → ⊥
  place_is_new some n got =
      let slot = slot_of slots n at got in
      let x : OpenedObject = slot.0 in
      let kept = (object_of old slots numbers opened n x slot.1).kept in
      let first : ℕ = 16 + first_size (prefix_at old.bytes (header_of x)) in
      let laid = ap (cover at) kept.header.has.laid in
      let here : holds at (header_of x) first ≡ 1 = holds_in at (header_of x) first (omega (arith, slot.2)) (omega (arith, slot.2)) in
      let mine : holds at at (length (object_bytes b)) ≡ 1 = holds_in at at (length (object_bytes b)) (omega arith) (omega (arith, some)) in
      omega (
        arith,
        took_apart at,
        laid,
        here,
        mine,
        one_cover at (object_blocks old.bytes) slots n x slot.1,
        cover-append at x.messages.blocks (content_blocks old.bytes (messages_in old.bytes x.messages.list) x.content),
        holds-le at 0 (length taken.bytes),
      )
