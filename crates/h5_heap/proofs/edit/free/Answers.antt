use Rattle.std.proofs.Common.{◌≡◌, ℕ, ◌+◌, ◌-◌, List, length, ◌∙◌, ap, arith}
use Rattle.h5_bytes.specs.Bytes.{part, little_bytes}
use Rattle.h5_bytes.specs.Texts.{text_at, pad8}
use Rattle.h5_bytes.specs.declared.Block.{Block}
use Rattle.h5_bytes.proofs.PartLaws.{length-with_part}
use Rattle.h5_model.specs.Format.Heap.{segment_of, segment_block}
use Rattle.h5_heap.specs.Edited.{first_free}
use Rattle.h5_heap.specs.Released.{Releases}
use Rattle.h5_heap.proofs.EditedLaws.{standing_chain, half_long, edited_bytes, edited_released, edit_moves}
use Rattle.h5_heap.proofs.edit.free.Goals as goal
use Rattle.h5_heap.proofs.edit.free.Goals.{After-release-first, After-put_u64}

bytes_are : (c : After-release-first) → c.part_at_mut-segment.result.now ≡ segment_of c.args.image.now.bytes c.args.heap
bytes_are c = c.part_at_mut-segment.ensures.value ∙ ap (λ (b : Block). part b.at b.len c.args.image.now.bytes) c.segment_and_list-first.ensures.segment

pub release-first-requires-clause-chain : goal.release-first-requires-clause-chain
release-first-requires-clause-chain c =
    let same : c.part_at_mut-segment.result.now ≡ segment_of c.args.image.now.bytes c.args.heap
    = c.part_at_mut-segment.ensures.value ∙ ap (λ (b : Block). part b.at b.len c.args.image.now.bytes) c.segment_and_list-first.ensures.segment in
    rw (same, c.segment_and_list-first.ensures.first) (standing_chain c.args.image.now.bytes c.args.heap c.requires.standing)

new_long : (c : After-release-first) → length c.release-first.new.segment ≡ (segment_block c.args.image.now.bytes c.args.heap).len
new_long c = c.release-first.ensures.size ∙ c.part_at_mut-segment.ensures.size ∙ ap (λ (b : Block). b.len) c.segment_and_list-first.ensures.segment

pub part_at_mut-requires : goal.part_at_mut-requires
part_at_mut-requires c =
    let r = (goal.at.part_at_mut-requires c).After-release-first in
    let long = half_long c.args.image.now.bytes c.args.heap c.requires.standing c.release-first.new.segment c.release-first.result c.release-first.type_inv (new_long r) in
    rw c.segment_and_list-first.ensures.segment (omega (arith, long, c.requires.standing.inside.0))

header_long : (c : After-put_u64) → length c.put_u64.new.bytes ≡ 32
header_long c = ap length c.put_u64.ensures ∙ length-with_part 16 (little_bytes 8 c.release-first.result) c.part_at_mut.result.now (omega (arith, c.part_at_mut.ensures.size)) ∙ c.part_at_mut.ensures.size

pub returns-clause-freed : goal.returns-clause-freed
returns-clause-freed c =
    let r = (goal.at.returns-clause-freed c).After-release-first in
    let image = c.args.image.now.bytes in
    let n = c.release-first.result in
    let w = c.release-first.new.segment in
    let s = c.requires.standing in
    let written = edited_bytes image c.args.heap s w n c.release-first.type_inv (new_long r) c.segment_and_list-first.result.0 c.segment_and_list-first.ensures.segment
    c.part_at_mut.result.now c.put_u64.new.bytes c.part_at_mut.ensures.value c.put_u64.ensures in
    let span : c.span_len.result ≡ pad8 (length (text_at (segment_of image c.args.heap) c.args.offset) + 1)
    = c.span_len.ensures ∙ ap (λ (bs : List ℕ). pad8 (length bs + 1)) (c.text_from.ensures ∙ ap (λ (bs : List ℕ). text_at bs c.args.offset) (bytes_are r)) in
    let size : c.args.offset + c.span_len.result - c.args.offset ≡ pad8 (length (text_at (segment_of image c.args.heap) c.args.offset) + 1)
    = omega (arith, span) in
    let released : Releases (segment_of image c.args.heap) w (first_free image c.args.heap) n c.args.offset (pad8 (length (text_at (segment_of image c.args.heap) c.args.offset) + 1))
    = rw (bytes_are r, c.segment_and_list-first.ensures.first, size) at c.release-first.ensures in
    rw written (edited_released image c.args.heap s w n c.release-first.type_inv (new_long r) released.chain c.args.offset
    (pad8 (length (text_at (segment_of image c.args.heap) c.args.offset) + 1)) released)

pub returns-clause-moves : goal.returns-clause-moves
returns-clause-moves c =
    let r = (goal.at.returns-clause-moves c).After-release-first in
    let u = (goal.at.returns-clause-moves c).After-put_u64 in
    rw c.segment_and_list-first.ensures.segment (edit_moves c.args.image.now c.args.heap c.requires.standing c.release-first.new.segment (new_long r) c.put_u64.new.bytes (header_long u))
