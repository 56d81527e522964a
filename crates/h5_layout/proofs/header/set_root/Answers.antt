use Rattle.std.proofs.Common.{◌≡◌, ℕ, ◌+◌, ◌≤◌, List, length, ap, ◌∙◌, arith}
use Rattle.h5_bytes.specs.Bytes.{little_bytes, with_field, with_part}
use Rattle.h5_bytes.proofs.PartLaws.{with_part-with_part}
use Rattle.h5_layout.proofs.CompactLaws.{found_is, message_lent}
use Rattle.h5_layout.proofs.header.set_root.Goals as goal
use Rattle.h5_layout.proofs.header.set_root.Goals.{After-unwrap-message}

-- the message lies in the image, which is not longer than memory, and has the room
lent : (c : After-unwrap-message)
    → (c.unwrap-message.result.now.at + c.unwrap-message.result.now.size ≤ length c.args.image.now.bytes) × (11 ≤ c.unwrap-message.result.now.size)
lent c =
    message_lent c.args.image.now.bytes c.args.messages.now.list c.find_message.result c.unwrap-message.result 11 c.requires.within c.requires.room c.find_message.ensures
    c.unwrap-message.ensures

pub overflow_add-message : goal.overflow_add-message
overflow_add-message c =
    let low = (lent (goal.at.overflow_add-message c).After-unwrap-message).0 in
    let held : length c.bytes-bytes.result.now ≡ length c.args.image.now.bytes = ap length c.bytes-bytes.ensures in
    grind (arith, low, held)

pub part_at_mut-body-requires : goal.part_at_mut-body-requires
part_at_mut-body-requires c =
    let room = lent (goal.at.part_at_mut-body-requires c).After-unwrap-message in
    omega (arith, room.0, room.1)

pub returns : goal.returns
returns c =
    let image = c.args.image.now.bytes in
    let x = c.unwrap-message.result.now in
    let room = lent (goal.at.returns c).After-unwrap-message in
    let eight : length (little_bytes 8 c.args.root) ≡ 8 = λ i. 8 in
    let none : x.at + 3 + 0 ≡ x.at + 3 = omega arith in
    record {
      place = x;
      found = found_is c.args.messages.now.list c.find_message.result c.unwrap-message.result c.find_message.ensures c.unwrap-message.ensures;
      room = omega (arith, eight, room.1);
      image = ap (λ (bs : List ℕ). record c.args.image.now { bytes = bs })
          (ap (λ (v : List ℕ). with_part (x.at + 3) v image) (c.put_u64.ensures ∙ ap (λ (bs : List ℕ). with_field bs 0 8 c.args.root) c.part_at_mut-body.ensures.value)
          ∙ with_part-with_part (x.at + 3) 8 0 (little_bytes 8 c.args.root) image (omega (arith, room.0, room.1)) (omega (arith, eight))
          ∙ ap (λ (n : ℕ). with_part n (little_bytes 8 c.args.root) image) none);
    }
