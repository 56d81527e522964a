use Rattle.std.proofs.Common.{◌≡◌, ℕ, ◌+◌, List, length, ◌∙◌, ap, refl, arith}
use Rattle.h5_bytes.specs.Bytes.{part, with_part, with_field, little_bytes}
use Rattle.h5_bytes.specs.declared.Block.{Block}
use Rattle.h5_bytes.proofs.PartLaws.{length-with_part}
use Rattle.h5_model.specs.Format.Heap.{segment_of, segment_block, heap_blocks}
use Rattle.h5_heap.specs.Edited.{first_free}
use Rattle.h5_heap.specs.Inserted.{InsertsText}
use Rattle.h5_heap.proofs.EditedLaws.{standing_chain, half_long, after_long, edited_inserted, edit_moves, blocks_kept, edited_bytes, spends_same}
use Rattle.h5_heap.proofs.put.fill_free.Goals as goal
use Rattle.h5_heap.proofs.put.fill_free.Goals.{After-part_at_mut, After-put_in_front-first, After-put_u64}

bytes_are : (c : After-part_at_mut) → c.part_at_mut.result.now ≡ segment_of c.args.image.now.bytes c.args.heap
bytes_are c = c.part_at_mut.ensures.value ∙ ap (λ (b : Block). part b.at b.len c.args.image.now.bytes) c.segment_and_list-first.ensures.segment

pub put_in_front-first-requires-clause-chain : goal.put_in_front-first-requires-clause-chain
put_in_front-first-requires-clause-chain c =
    rw (bytes_are (goal.at.put_in_front-first-requires-clause-chain c).After-part_at_mut, c.segment_and_list-first.ensures.first)
    (standing_chain c.args.image.now.bytes c.args.heap c.requires.standing)

pub put_in_front-first-requires-clause-found : goal.put_in_front-first-requires-clause-found
put_in_front-first-requires-clause-found c =
    rw (bytes_are (goal.at.put_in_front-first-requires-clause-found c).After-part_at_mut, c.segment_and_list-first.ensures.first) c.requires.found

new_long : (c : After-put_in_front-first) → length c.put_in_front-first.new.segment ≡ (segment_block c.args.image.now.bytes c.args.heap).len
new_long c = c.put_in_front-first.ensures.long ∙ c.part_at_mut.ensures.size ∙ ap (λ (b : Block). b.len) c.segment_and_list-first.ensures.segment

pub part_at_mut-requires-2 : goal.part_at_mut-requires-2
part_at_mut-requires-2 c =
    let r = (goal.at.part_at_mut-requires-2 c).After-put_in_front-first in
    let f = c.put_in_front-first in
    let long = half_long c.args.image.now.bytes c.args.heap c.requires.standing f.new.segment f.result f.type_inv (new_long r) in
    rw c.segment_and_list-first.ensures.segment (omega (arith, long, c.requires.standing.inside.0))

header_long : (c : After-put_u64) → length c.put_u64.new.bytes ≡ 32
header_long c = ap length c.put_u64.ensures ∙ length-with_part 16 (little_bytes 8 c.put_in_front-first.result) c.part_at_mut-2.result.now (omega (arith, c.part_at_mut-2.ensures.size))
    ∙ c.part_at_mut-2.ensures.size

-- ---- at the end

module _ (c : After-put_u64) where
  long_of : length c.put_in_front-first.new.segment ≡ (segment_block c.args.image.now.bytes c.args.heap).len
  long_of = c.put_in_front-first.ensures.long ∙ c.part_at_mut.ensures.size ∙ ap (λ (b : Block). b.len) c.segment_and_list-first.ensures.segment

  written : with_part c.args.heap c.put_u64.new.bytes (with_part c.segment_and_list-first.result.0.at c.put_in_front-first.new.segment c.args.image.now.bytes)
      ≡ with_field (with_part (segment_block c.args.image.now.bytes c.args.heap).at c.put_in_front-first.new.segment c.args.image.now.bytes) (c.args.heap + 16) 8 c.put_in_front-first.result
  written = edited_bytes c.args.image.now.bytes c.args.heap c.requires.standing c.put_in_front-first.new.segment c.put_in_front-first.result c.put_in_front-first.type_inv long_of
      c.segment_and_list-first.result.0 c.segment_and_list-first.ensures.segment c.part_at_mut-2.result.now c.put_u64.new.bytes c.part_at_mut-2.ensures.value c.put_u64.ensures

  inserts : (room : ℕ) → InsertsText (segment_of c.args.image.now.bytes c.args.heap) c.put_in_front-first.new.segment (first_free c.args.image.now.bytes c.args.heap)
      c.put_in_front-first.result c.args.text.now room c.args.block.at
  inserts room =
      let same : c.part_at_mut.result.now ≡ segment_of c.args.image.now.bytes c.args.heap
      = c.part_at_mut.ensures.value ∙ ap (λ (b : Block). part b.at b.len c.args.image.now.bytes) c.segment_and_list-first.ensures.segment in
      rw (same, c.segment_and_list-first.ensures.first) at (c.put_in_front-first.ensures.inserted room)

pub returns-clause-inserted : goal.returns-clause-inserted
returns-clause-inserted c = λ room.
    let u = (goal.at.returns-clause-inserted c).After-put_u64 in
    let f = c.put_in_front-first in
    let i = inserts u room in
    rw (written u) (edited_inserted c.args.image.now.bytes c.args.heap c.requires.standing f.new.segment f.result f.type_inv (long_of u) i.chain c.args.text.now room c.args.block.at i)

pub returns-clause-moves : goal.returns-clause-moves
returns-clause-moves c =
    let u = (goal.at.returns-clause-moves c).After-put_u64 in
    let f = c.put_in_front-first in
    let kept : heap_blocks (with_part c.args.heap c.put_u64.new.bytes (with_part c.segment_and_list-first.result.0.at f.new.segment c.args.image.now.bytes)) c.args.heap
    ≡ heap_blocks c.args.image.now.bytes c.args.heap
    = ap (λ (bs : List ℕ). heap_blocks bs c.args.heap) (written u)
    ∙ blocks_kept c.args.image.now.bytes c.args.heap c.requires.standing f.new.segment f.result f.type_inv (long_of u) in
    rw (kept, c.segment_and_list-first.ensures.segment) (edit_moves c.args.image.now c.args.heap c.requires.standing f.new.segment (long_of u) c.put_u64.new.bytes (header_long u))

pub returns-clause-spends : goal.returns-clause-spends
returns-clause-spends c =
    let u = (goal.at.returns-clause-spends c).After-put_u64 in
    let f = c.put_in_front-first in
    spends_same c.args.image.now _ (ap length (written u) ∙ after_long c.args.image.now.bytes c.args.heap c.requires.standing f.new.segment f.result f.type_inv (long_of u)) refl refl
