use Rattle.std.proofs.Common.{◌≡◌, ℕ, ◌+◌, ◌*◌, List, length, replicate, ◌∙◌, ap, ap₂, sym, subst, refl, arith}
use Rattle.std.specs.List.{find}
use Rattle.h5_bytes.specs.Bytes.{part}
use Rattle.h5_bytes.specs.Texts.{pad8}
use Rattle.h5_bytes.specs.Blocks.{holds, cover}
use Rattle.h5_bytes.specs.declared.Block.{Block}
use Rattle.h5_model.specs.Format.Heap.{segment_of, segment_block, heap_blocks, heap_header}
use Rattle.h5_model.specs.Format.Sizes.{text_span}
use Rattle.h5_space.specs.Space.{Space}
use Rattle.h5_space.specs.Moves.{Moves, Spends}
use Rattle.h5_heap.specs.Chain.{HasChain, free_from}
use Rattle.h5_heap.specs.Edited.{first_free}
use Rattle.h5_heap.specs.Inserted.{InsertsText, HasInserted, grown_length}
use Rattle.h5_heap.specs.Sought.{is_enough}
use Rattle.h5_heap.proofs.EditedLaws.{standing_chain}
use Rattle.h5_heap.proofs.GrowLaws as laws
use Rattle.h5_heap.proofs.put.grow.Goals as goal
use Rattle.h5_heap.proofs.put.grow.Goals.{Start, After-segment_and_list-first, After-text_span, After-take-at, After-copy, After-part_at_mut, After-put_behind-first, After-put_segment, After-give}

size_is : (c : After-segment_and_list-first) → c.segment_and_list-first.result.0.len ≡ (segment_block c.args.image.now.bytes c.args.heap).len
size_is c = ap (λ (b : Block). b.len) c.segment_and_list-first.ensures.segment

pub overflow_mul-len : goal.overflow_mul-len
overflow_mul-len c = grind (arith, c.requires.low, size_is (goal.at.overflow_mul-len c).After-segment_and_list-first)

pub overflow_add-len : goal.overflow_add-len
overflow_add-len c = grind (arith, c.requires.low, c.text_span.ensures, size_is (goal.at.overflow_add-len c).After-segment_and_list-first)

pub overflow_add-len-2 : goal.overflow_add-len-2
overflow_add-len-2 c = grind (arith, c.requires.low, c.text_span.ensures, size_is (goal.at.overflow_add-len-2 c).After-segment_and_list-first)

pub overflow_add-len-3 : goal.overflow_add-len-3
overflow_add-len-3 c = grind (arith, c.requires.low, c.text_span.ensures, size_is (goal.at.overflow_add-len-3 c).After-segment_and_list-first)

taken : (c : After-take-at) → laws.IsTakenFor c.args.image.now c.args.heap c.take-at.new.self c.take-at.result
    (2 * c.segment_and_list-first.result.0.len + c.text_span.result + c.args.room + 16)
taken c = record {
  standing = c.requires.standing;
  apart = c.requires.apart;
  grown = c.take-at.ensures.bytes;
  inside = c.take-at.ensures.inside;
  taken = c.take-at.ensures.taken;
  more = omega (arith, ap (λ (b : Block). b.len) c.segment_and_list-first.ensures.segment);
}

pub part_at_mut-requires : goal.part_at_mut-requires
part_at_mut-requires c =
    let k = taken (goal.at.part_at_mut-requires c).After-take-at in
    laws.copied_inside _ _ _ _ _ k c.segment_and_list-first.result.0 c.segment_and_list-first.ensures.segment c.copy.new.self c.copy.ensures

pub put_behind-first-requires-clause-chain : goal.put_behind-first-requires-clause-chain
put_behind-first-requires-clause-chain c =
    let k = taken (goal.at.put_behind-first-requires-clause-chain c).After-take-at in
    let begins = laws.copied_begins _ _ _ _ _ k c.segment_and_list-first.result.0 c.segment_and_list-first.ensures.segment c.copy.new.self c.copy.ensures
    c.part_at_mut.result.now c.part_at_mut.ensures.value in
    subst (λ (n : ℕ). HasChain (part 0 c.segment_and_list-first.result.0.len c.part_at_mut.result.now) n) (sym c.segment_and_list-first.ensures.first)
    (subst (λ (bs : List ℕ). HasChain bs (first_free c.args.image.now.bytes c.args.heap)) (sym begins) (standing_chain c.args.image.now.bytes c.args.heap c.requires.standing))

pub put_behind-first-requires-clause-none : goal.put_behind-first-requires-clause-none
put_behind-first-requires-clause-none c =
    let k = taken (goal.at.put_behind-first-requires-clause-none c).After-take-at in
    let begins = laws.copied_begins _ _ _ _ _ k c.segment_and_list-first.result.0 c.segment_and_list-first.ensures.segment c.copy.new.self c.copy.ensures
    c.part_at_mut.result.now c.part_at_mut.ensures.value in
    ap₂ (λ (bs : List ℕ) (n : ℕ). find (is_enough (text_span c.args.text.now)) (free_from bs n)) begins c.segment_and_list-first.ensures.first ∙ c.requires.none

w_long : (c : After-put_behind-first) → length c.put_behind-first.new.segment ≡ 2 * c.segment_and_list-first.result.0.len + c.text_span.result + c.args.room + 16
w_long c = c.put_behind-first.ensures.long ∙ c.part_at_mut.ensures.size

pub part_at_mut-requires-2 : goal.part_at_mut-requires-2
part_at_mut-requires-2 c =
    let k = taken (goal.at.part_at_mut-requires-2 c).After-take-at in
    let r = (goal.at.part_at_mut-requires-2 c).After-put_behind-first in
    laws.copied_header _ _ _ _ _ k c.segment_and_list-first.result.0 c.segment_and_list-first.ensures.segment c.copy.new.self c.copy.ensures
    c.put_behind-first.new.segment (w_long r) (replicate 32 0) refl

pub give-requires-clause-inside : goal.give-requires-clause-inside
give-requires-clause-inside c =
    let k = taken (goal.at.give-requires-clause-inside c).After-take-at in
    let r = (goal.at.give-requires-clause-inside c).After-put_behind-first in
    laws.copied_old _ _ _ _ _ k c.segment_and_list-first.result.0 c.segment_and_list-first.ensures.segment c.copy.new.self c.copy.ensures
    c.put_behind-first.new.segment (w_long r) c.put_segment.new.header c.put_segment.ensures.long

pub give-requires-clause-held : goal.give-requires-clause-held
give-requires-clause-held c =
    let k = taken (goal.at.give-requires-clause-held c).After-take-at in
    laws.copied_apart _ _ _ _ _ k c.segment_and_list-first.result.0 c.segment_and_list-first.ensures.segment c.copy.new.self c.copy.ensures

-- ---- at the end

module _ (c : After-give) (k : laws.IsTakenFor c.args.image.now c.args.heap c.take-at.new.self c.take-at.result
    (2 * c.segment_and_list-first.result.0.len + c.text_span.result + c.args.room + 16)) where
  abbrev image : List ℕ
  image = c.args.image.now.bytes

  abbrev w : List ℕ
  w = c.put_behind-first.new.segment

  abbrev h : List ℕ
  h = c.put_segment.new.header

  long : length w ≡ 2 * c.segment_and_list-first.result.0.len + c.text_span.result + c.args.room + 16
  long = c.put_behind-first.ensures.long ∙ c.part_at_mut.ensures.size

  same : c.segment_and_list-first.result.0 ≡ segment_block image c.args.heap
  same = c.segment_and_list-first.ensures.segment

  length_is : 2 * c.segment_and_list-first.result.0.len + c.text_span.result + c.args.room + 16
      ≡ grown_length (segment_block image c.args.heap).len (text_span c.args.text.now) c.args.room
  length_is = omega (arith, c.text_span.ensures, ap (λ (b : Block). b.len) same)

  inserts : InsertsText (segment_of image c.args.heap) w (first_free image c.args.heap) c.put_behind-first.result c.args.text.now c.args.room (pad8 c.segment_and_list-first.result.0.len)
  inserts =
      let begins = laws.copied_begins _ _ _ _ _ k c.segment_and_list-first.result.0 same c.copy.new.self c.copy.ensures c.part_at_mut.result.now c.part_at_mut.ensures.value in
      let size : length c.part_at_mut.result.now ≡ grown_length c.segment_and_list-first.result.0.len (text_span c.args.text.now) c.args.room
      = omega (arith, c.part_at_mut.ensures.size, c.text_span.ensures) in
      subst (λ (bs : List ℕ). InsertsText bs w (first_free image c.args.heap) c.put_behind-first.result c.args.text.now c.args.room (pad8 c.segment_and_list-first.result.0.len)) begins
      (subst (λ (n : ℕ). InsertsText (part 0 c.segment_and_list-first.result.0.len c.part_at_mut.result.now) w n c.put_behind-first.result c.args.text.now c.args.room
      (pad8 c.segment_and_list-first.result.0.len)) c.segment_and_list-first.ensures.first (c.put_behind-first.ensures.inserted c.args.room size))

  front : part 0 8 h ≡ part 0 8 (heap_header image c.args.heap)
  front = c.put_segment.ensures.kept ∙ ap (part 0 8) (c.part_at_mut-2.ensures.value
      ∙ laws.copied_before _ _ _ _ _ k c.segment_and_list-first.result.0 same c.copy.new.self c.copy.ensures w long h c.put_segment.ensures.long)

  all : c.give.new.self.bytes ≡ laws.after_grow c.args.image.now c.args.heap c.take-at.new.self c.take-at.result _ k w long h c.put_segment.ensures.long
  all = c.give.ensures.bytes ∙ laws.copied_all _ _ _ _ _ k c.segment_and_list-first.result.0 same c.copy.new.self c.copy.ensures w long h c.put_segment.ensures.long

  given : (p : ℕ) → cover p c.give.new.self.free ≡ cover p c.take-at.new.self.free + holds p (segment_block image c.args.heap).at (segment_block image c.args.heap).len
  given p = laws.copied_given _ _ _ _ _ k c.segment_and_list-first.result.0 same c.copy.new.self c.copy.ensures w long h c.put_segment.ensures.long p _ (c.give.ensures.given p)

  inserted : HasInserted image c.give.new.self.bytes c.args.heap c.args.text.now c.args.room (pad8 c.segment_and_list-first.result.0.len)
  inserted = subst (λ (bs : List ℕ). HasInserted image bs c.args.heap c.args.text.now c.args.room (pad8 c.segment_and_list-first.result.0.len)) (sym all)
      (laws.grow_inserted _ _ _ _ _ k w long h c.put_segment.ensures.long c.put_behind-first.result c.put_segment.ensures.size c.put_segment.ensures.first
      c.put_segment.ensures.place front inserts.chain c.args.text.now c.args.room (pad8 c.segment_and_list-first.result.0.len) inserts)

  moves : Moves c.args.image.now c.give.new.self (heap_blocks image c.args.heap) (heap_blocks c.give.new.self.bytes c.args.heap)
  moves = subst (Moves c.args.image.now c.give.new.self (heap_blocks image c.args.heap))
      (sym (ap (λ (bs : List ℕ). heap_blocks bs c.args.heap) all
      ∙ laws.grow_blocks _ _ _ _ _ k w long h c.put_segment.ensures.long c.put_behind-first.result c.put_segment.ensures.size c.put_segment.ensures.first
      c.put_segment.ensures.place front inserts.chain))
      (laws.grow_moves _ _ _ _ _ k w long h c.put_segment.ensures.long c.give.new.self all given)

  spends : Spends c.args.image.now c.give.new.self (grown_length (segment_block image c.args.heap).len (text_span c.args.text.now) c.args.room) 2
  spends = subst (λ (n : ℕ). Spends c.args.image.now c.give.new.self n 2) length_is
      (laws.grow_spends _ _ _ _ _ k w long h c.put_segment.ensures.long c.give.new.self all given c.take-at.ensures.room_bytes c.take-at.ensures.room_blocks
      (c.give.ensures.room_bytes ∙ ap (λ (x : Space). x.room_bytes) c.copy.ensures)
      (c.give.ensures.room_blocks ∙ ap (λ (x : Space). x.room_blocks) c.copy.ensures))

pub returns-clause-inserted : goal.returns-clause-inserted
returns-clause-inserted c =
    let g = goal.at.returns-clause-inserted c in
    subst (λ (n : ℕ). HasInserted c.args.image.now.bytes c.give.new.self.bytes c.args.heap c.args.text.now c.args.room n) (sym c.padded.ensures)
    (inserted g.After-give (taken g.After-take-at))

pub returns-clause-moves : goal.returns-clause-moves
returns-clause-moves c =
    let g = goal.at.returns-clause-moves c in
    moves g.After-give (taken g.After-take-at)

pub returns-clause-spends : goal.returns-clause-spends
returns-clause-spends c =
    let g = goal.at.returns-clause-spends c in
    spends g.After-give (taken g.After-take-at)
