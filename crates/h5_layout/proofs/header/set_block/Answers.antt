use Rattle.std.proofs.Common.{◌≡◌, ℕ, ◌+◌, ◌≤◌, List, ◌++◌, length, sym, ap, ◌∙◌, arith}
use Rattle.h5_bytes.specs.Bytes.{little_bytes, part, with_field, with_part}
use Rattle.h5_bytes.proofs.PartLaws.{length-part, with_part-with_part}
use Rattle.h5_layout.proofs.CompactLaws.{found_is, message_lent}
use Rattle.h5_layout.proofs.WriteLaws.{with_part-append}
use Rattle.h5_layout.proofs.header.set_block.Goals as goal
use Rattle.h5_layout.proofs.header.set_block.Goals.{After-unwrap-message}

-- the message lies in the image, which is not longer than memory, and has the room
lent : (c : After-unwrap-message)
    → (c.unwrap-message.result.now.at + c.unwrap-message.result.now.size ≤ length c.args.image.now.bytes) × (18 ≤ c.unwrap-message.result.now.size)
lent c =
    message_lent c.args.image.now.bytes c.args.messages.now.list c.find_message.result c.unwrap-message.result 18 c.requires.within c.requires.room c.find_message.ensures
    c.unwrap-message.ensures

pub overflow_add-message : goal.overflow_add-message
overflow_add-message c =
    let low = (lent (goal.at.overflow_add-message c).After-unwrap-message).0 in
    let held : length c.bytes-bytes.result.now ≡ length c.args.image.now.bytes = ap length c.bytes-bytes.ensures in
    grind (arith, low, held)

pub part_at_mut-body-requires : goal.part_at_mut-body-requires
part_at_mut-body-requires c =
    let room = lent (goal.at.part_at_mut-body-requires c).After-unwrap-message in
    omega (arith, room.0, room.1)

pub returns : goal.returns
returns c =
    let image = c.args.image.now.bytes in
    let x = c.unwrap-message.result.now in
    let room = lent (goal.at.returns c).After-unwrap-message in
    let a : List ℕ = little_bytes 8 c.args.at in
    let b : List ℕ = little_bytes 8 c.args.len in
    let sixteen : length (a ++ b) ≡ 16 = λ i. 16 in
    let eights : length a + length b ≡ 16 = λ i. 16 in
    let none : x.at + 2 + 0 ≡ x.at + 2 = omega arith in
    let inside : x.at + 2 + 16 ≤ length image = omega (arith, room.0, room.1) in
    let old : List ℕ = part (x.at + 2) 16 image in
    let long : length old ≡ 16 = length-part (x.at + 2) 16 image inside in
    let both : c.put_u64-2.new.bytes ≡ with_part 0 (a ++ b) old
    = c.put_u64-2.ensures ∙ ap (λ (bs : List ℕ). with_field bs 8 8 c.args.len) (c.put_u64.ensures ∙ ap (λ (bs : List ℕ). with_field bs 0 8 c.args.at) c.part_at_mut-body.ensures.value)
    ∙ sym (with_part-append 0 a b old (omega (arith, eights, long))) in
    record {
      place = x;
      found = found_is c.args.messages.now.list c.find_message.result c.unwrap-message.result c.find_message.ensures c.unwrap-message.ensures;
      room = omega (arith, sixteen, room.1);
      image = ap (λ (bs : List ℕ). record c.args.image.now { bytes = bs })
          (ap (λ (v : List ℕ). with_part (x.at + 2) v image) both
          ∙ with_part-with_part (x.at + 2) 16 0 (a ++ b) image inside (omega (arith, sixteen))
          ∙ ap (λ (n : ℕ). with_part n (a ++ b) image) none);
    }
