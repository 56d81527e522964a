use Rattle.std.proofs.Common.{◌≡◌, ◌≢◌, ℕ, ◌+◌, ◌-◌, ◌≤◌, ◌⊎◌, inl, inr, List, length, take, drop, refl, ap, ◌∙◌, arith}
use Rattle.h5_model.specs.Format.MessageTypes.{datatype_kind, continuation_kind, symbol_table_kind}
use Rattle.h5_bytes.specs.Bytes.{part, with_part, with_field, little_bytes}
use Rattle.h5_bytes.specs.Blocks.{block}
use Rattle.h5_bytes.proofs.PartLaws.{with_part-with_part}
use Rattle.h5_space.specs.Space.{Space, growth}
use Rattle.h5_space.proofs.MovesLaws.{moves_take, spends_take}
use Rattle.h5_header.specs.Added.{named_in}
use Rattle.h5_header.specs.Listed.{Listed}
use Rattle.h5_header.specs.Standing.{kept_at}
use Rattle.h5_header.specs.declared.message.Message.{Message as Placed}
use Rattle.h5_header.proofs.BlankLaws.{behind_head}
use Rattle.h5_header.proofs.BlockPlaces.{standing_lengths}
use Rattle.h5_header.proofs.BlockTaken.{IsTaken}
use Rattle.h5_header.proofs.BlockTaken as laws
use Rattle.h5_header.proofs.header.Messages.put_block.Goals as goal
use Rattle.h5_header.proofs.header.Messages.put_block.Goals.{After-bytes, After-put_u16}

no_name : (x : Placed) → (x.kind ≡ symbol_table_kind) ⊎ (x.kind ≡ datatype_kind) → x.kind ≢ continuation_kind
no_name x may same = elim may [
  | inl table ↦ absurd (omega (arith, table, same))
  | inr datatype ↦ absurd (omega (arith, datatype, same))
]

slice_part : (bytes : List ℕ) (at : ℕ) → take (at + 16 - at) (drop at bytes) ≡ part at 16 bytes
unfolding part
slice_part bytes at = let len : at + 16 - at ≡ 16 = omega arith in ap (λ (n : ℕ). take n (drop at bytes)) len

-- ---- while the block is written

ready_before : (c : After-bytes) → IsTaken c.args.image.now c.take.new.self c.args.self.now c.args.k (block c.take.result (32 + length c.args.body.now)) c.args.kind c.args.body.now
ready_before c = record {
  standing = c.requires.standing;
  known = c.requires.known;
  may = c.requires.may_move;
  wide = c.requires.wide;
  taken = moves_take c.args.image.now c.take.new.self c.take.result (32 + length c.args.body.now) (growth (32 + length c.args.body.now) c.args.image.now.free)
      c.take.ensures.bytes c.take.ensures.taken;
  free = c.requires.apart;
  there = c.take.ensures.inside;
  at_low = omega (arith, c.take.ensures.inside, ap length c.bytes.ensures, c.bytes.type_inv.0);
  sized = refl;
  kind_low = omega (arith, c.ranges.kind.fits);
  own = c.requires.own;
  padded = c.requires.padded;
  low = c.requires.low;
  total = c.requires.total;
}

pub write_block-requires-clause-head : goal.write_block-requires-clause-head
write_block-requires-clause-head c =
    let x = kept_at c.args.self.now.list c.args.k in
    let high : 8 ≤ x.at = behind_head c.args.image.now.bytes c.args.self.now c.requires.standing c.args.k c.requires.known (no_name x c.requires.may_move) in
    rw c.list.ensures high

pub messages_in_blocks-place-requires-clause-known : goal.messages_in_blocks-place-requires-clause-known
messages_in_blocks-place-requires-clause-known c =
    let w = (goal.at.messages_in_blocks-place-requires-clause-known c).After-bytes in
    rw c.blocks_before-named.ensures (laws.named_le (ready_before w))

pub messages_in_blocks-place-requires-clause-small : goal.messages_in_blocks-place-requires-clause-small
messages_in_blocks-place-requires-clause-small c =
    let w = (goal.at.messages_in_blocks-place-requires-clause-small c).After-bytes in
    omega (
      arith,
      standing_lengths c.args.image.now.bytes c.args.self.now c.blocks_before-named.result c.requires.standing,
      ((ready_before w).taken).grown,
      ap length c.bytes.ensures,
      c.bytes.type_inv.0,
    )

pub messages_in_blocks-place-requires-clause-filled : goal.messages_in_blocks-place-requires-clause-filled
messages_in_blocks-place-requires-clause-filled c =
    let w = (goal.at.messages_in_blocks-place-requires-clause-filled c).After-bytes in
    rw c.blocks_before-named.ensures (laws.filled (ready_before w))

pub keep_in_block-requires-clause-among : goal.keep_in_block-requires-clause-among
keep_in_block-requires-clause-among c =
    let w = (goal.at.keep_in_block-requires-clause-among c).After-bytes in
    rw c.blocks_before-named.ensures (laws.named_le (ready_before w))

pub part_at_mut-requires : goal.part_at_mut-requires
part_at_mut-requires c =
    let w = (goal.at.part_at_mut-requires c).After-bytes in
    let x = kept_at c.args.self.now.list c.args.k in
    let image = c.take.new.self in
    let b = block c.take.result (32 + length c.args.body.now) in
    let at : c.header.result ≡ c.args.self.now.header = c.header.ensures ∙ ap (λ (v : Listed). v.header) c.keep_in_block.ensures in
    let first : c.copy_from_slice.new.self ≡ part x.at 16 image.bytes
    = (rw c.list.ensures at c.copy_from_slice.ensures.after) ∙ ap (λ (bs : List ℕ). take (x.at + 16 - x.at) (drop x.at bs)) c.bytes.ensures ∙ slice_part image.bytes x.at in
    let is : c.write_block.new.image ≡ record image { bytes = named_in x c.copy_from_slice.new.self b c.args.kind c.args.body.now image.bytes }
    = rw c.list.ensures at c.write_block.ensures in
    let long : length c.write_block.new.image.bytes ≡ length (laws.with_name (ready_before w))
    = ap (λ (v : Space). length v.bytes) is ∙ ap (λ (bs : List ℕ). length (named_in x bs b c.args.kind c.args.body.now image.bytes)) first in
    omega (arith, at, long, laws.block_room (ready_before w))

-- ---- at the end

ready : (c : After-put_u16) → IsTaken c.args.image.now c.take.new.self c.args.self.now c.args.k (block c.take.result (32 + length c.args.body.now)) c.args.kind c.args.body.now
ready c = record {
  standing = c.requires.standing;
  known = c.requires.known;
  may = c.requires.may_move;
  wide = c.requires.wide;
  taken = moves_take c.args.image.now c.take.new.self c.take.result (32 + length c.args.body.now) (growth (32 + length c.args.body.now) c.args.image.now.free)
      c.take.ensures.bytes c.take.ensures.taken;
  free = c.requires.apart;
  there = c.take.ensures.inside;
  at_low = omega (arith, c.take.ensures.inside, ap length c.bytes.ensures, c.bytes.type_inv.0);
  sized = refl;
  kind_low = omega (arith, c.ranges.kind.fits);
  own = c.requires.own;
  padded = c.requires.padded;
  low = c.requires.low;
  total = c.requires.total;
}

fills : (c : After-put_u16) → laws.IsPlace (ready c) c.messages_in_blocks-place.result
fills c = rw c.blocks_before-named.ensures at c.messages_in_blocks-place.ensures.filled

kept : (c : After-put_u16) → c.keep_in_block.new.self ≡ record {
  header = c.args.self.now.header;
  list = laws.list' (ready c) c.messages_in_blocks-place.result;
  blocks = laws.blocks' (ready c);
  room = c.args.self.now.room - 1;
}
kept c = rw (c.list.ensures, c.blocks_before-named.ensures) at c.keep_in_block.ensures

at_header : (c : After-put_u16) → c.header.result ≡ c.args.self.now.header
at_header c = c.header.ensures ∙ ap (λ (v : Listed). v.header) c.keep_in_block.ensures

wrote : (c : After-put_u16) → c.write_block.new.image ≡ record c.take.new.self { bytes = laws.with_name (ready c) }
wrote c =
    let x = kept_at c.args.self.now.list c.args.k in
    let image = c.take.new.self in
    let b = block c.take.result (32 + length c.args.body.now) in
    let first : c.copy_from_slice.new.self ≡ part x.at 16 image.bytes
    = (rw c.list.ensures at c.copy_from_slice.ensures.after) ∙ ap (λ (bs : List ℕ). take (x.at + 16 - x.at) (drop x.at bs)) c.bytes.ensures ∙ slice_part image.bytes x.at in
    let is : c.write_block.new.image ≡ record image { bytes = named_in x c.copy_from_slice.new.self b c.args.kind c.args.body.now image.bytes }
    = rw c.list.ensures at c.write_block.ensures in
    is ∙ ap (λ (bs : List ℕ). record image { bytes = named_in x bs b c.args.kind c.args.body.now image.bytes }) first

written : (c : After-put_u16) → with_part c.header.result c.put_u16.new.bytes c.write_block.new.image.bytes ≡ laws.after (ready c)
written c =
    let h = c.args.self.now.header in
    let one = laws.with_name (ready c) in
    let image : c.write_block.new.image.bytes ≡ one = ap (λ (v : Space). v.bytes) (wrote c) in
    let total : length c.list-2.result.now ≡ length c.args.self.now.list + 2
    = ap length (c.list-2.ensures ∙ ap (λ (v : Listed). v.list) (kept c))
    ∙ laws.block_long (ready c) c.messages_in_blocks-place.result c.messages_in_blocks-place.ensures.known (fills c) in
    let this : c.put_u16.new.bytes ≡ with_field (part h 16 one) 2 2 (length c.args.self.now.list + 2)
    = rw (c.part_at_mut.ensures.value, image, at_header c, total) at c.put_u16.ensures in
    rw (image, at_header c) (ap (λ (bs : List ℕ). with_part h bs one) this
    ∙ with_part-with_part h 16 2 (little_bytes 2 (length c.args.self.now.list + 2)) one (laws.block_room (ready c)) (omega arith))

pub returns-clause-standing : goal.returns-clause-standing
returns-clause-standing c =
    let w = (goal.at.returns-clause-standing c).After-put_u16 in
    rw (written w, kept w)
    (laws.block_standing (ready w) w.messages_in_blocks-place.result w.messages_in_blocks-place.ensures.known (fills w) (w.args.self.now.room - 1))

pub returns-clause-added : goal.returns-clause-added
returns-clause-added c =
    let w = (goal.at.returns-clause-added c).After-put_u16 in
    rw (written w, kept w) (laws.block_added (ready w) w.messages_in_blocks-place.result w.messages_in_blocks-place.ensures.known (fills w))

pub returns-clause-count : goal.returns-clause-count
returns-clause-count c =
    let w = (goal.at.returns-clause-count c).After-put_u16 in
    rw (written w, kept w) (laws.block_count (ready w))

pub returns-clause-moves : goal.returns-clause-moves
returns-clause-moves c =
    let w = (goal.at.returns-clause-moves c).After-put_u16 in
    rw (kept w) (laws.block_moves (ready w) (record w.write_block.new.image {
      bytes = with_part w.header.result w.put_u16.new.bytes w.write_block.new.image.bytes;
    }) (written w) (ap (λ (v : Space). v.free) (wrote w)))

pub returns-clause-spends : goal.returns-clause-spends
returns-clause-spends c =
    let w = (goal.at.returns-clause-spends c).After-put_u16 in
    laws.block_spends (ready w) (record w.write_block.new.image {
      bytes = with_part w.header.result w.put_u16.new.bytes w.write_block.new.image.bytes;
    }) (written w) (ap (λ (v : Space). v.room_bytes) (wrote w)) (ap (λ (v : Space). v.room_blocks) (wrote w))
    (spends_take w.args.image.now w.take.new.self (32 + length w.args.body.now) w.take.ensures.bytes w.take.ensures.room_bytes w.take.ensures.room_blocks)
