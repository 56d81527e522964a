use Rattle.std.proofs.Common.{◌≡◌, ℕ, ◌+◌, ◌-◌, List, [], ◌∷◌, ◌++◌, length, refl, sym, ap, ap₂, ◌∙◌, arith}
use Rattle.h5_bytes.specs.Bytes.{part, with_part, with_field, little_bytes}
use Rattle.h5_bytes.specs.Numbers.{short, word}
use Rattle.h5_bytes.proofs.PartLaws.{length-with_part, with_part-with_part}
use Rattle.h5_model.specs.Format.MessageTypes.{continuation_kind}
use Rattle.h5_model.specs.Format.Plain.{messages_bytes}
use Rattle.h5_header.proofs.block_put.write_block.Goals as goal

pub part_at_mut-requires-2 : goal.part_at_mut-requires-2
part_at_mut-requires-2 c =
    omega (arith, length-with_part c.args.block.at c.write_two.new.bytes c.args.image.now.bytes (omega (arith, c.write_two.auto.bytes, c.part_at_mut.ensures.size)))

pub part_at_mut-requires-3 : goal.part_at_mut-requires-3
part_at_mut-requires-3 c =
    let one : List ℕ = with_part c.args.block.at c.write_two.new.bytes c.args.image.now.bytes in
    let one_long : length one ≡ length c.args.image.now.bytes
    = length-with_part c.args.block.at c.write_two.new.bytes c.args.image.now.bytes (omega (arith, c.write_two.auto.bytes, c.part_at_mut.ensures.size)) in
    omega (arith, one_long, length-with_part c.args.moved.at c.copy_from_slice.new.self one (omega (arith, one_long, c.copy_from_slice.ensures.len, c.part_at_mut-2.ensures.size)))

pub returns : goal.returns
returns c =
    let image = c.args.image.now.bytes in
    let x = c.args.moved in
    let b = c.args.block in
    let written : List ℕ = with_part b.at c.write_two.new.bytes image in
    let written_long : length written ≡ length image
    = length-with_part b.at c.write_two.new.bytes image (omega (arith, c.write_two.auto.bytes, c.part_at_mut.ensures.size)) in
    let one : List ℕ = with_part b.at (messages_bytes ((x.kind, c.args.first.now) ∷ (c.args.kind, c.args.body.now) ∷ [])) image in
    let one_is : written ≡ one
    = ap (λ (bs : List ℕ). with_part b.at bs image) c.write_two.ensures in
    let name : List ℕ = word b.at ++ word b.len in
    let sixteen : length name ≡ 16 = refl in
    let two : List ℕ = with_part x.at name one in
    let two_is : with_part x.at c.copy_from_slice.new.self written ≡ two
    = ap₂ (λ (v bs : List ℕ). with_part x.at v bs) (c.copy_from_slice.ensures.after ∙ c.name_of-name.ensures) one_is in
    let one_long : length one ≡ length image = ap length (sym one_is) ∙ written_long in
    let two_long : length two ≡ length image = length-with_part x.at name one (omega (arith, sixteen, one_long)) ∙ one_long in
    let none : x.at - 8 + 0 ≡ x.at - 8 = omega arith in
    let coded : length (little_bytes 2 16) ≡ 2 = refl in
    let kind : c.put_u16.new.bytes ≡ with_field (part (x.at - 8) 2 two) 0 2 continuation_kind
    = c.put_u16.ensures ∙ ap (λ (bs : List ℕ). with_field bs 0 2 continuation_kind) (c.part_at_mut-3.ensures.value ∙ ap (part (x.at - 8) 2) two_is) in
    ap (λ (bs : List ℕ). record c.args.image.now { bytes = bs })
    (ap₂ (λ (v bs : List ℕ). with_part (x.at - 8) v bs) kind two_is
    ∙ with_part-with_part (x.at - 8) 2 0 (little_bytes 2 16) two (omega (arith, two_long)) (omega (arith, coded))
    ∙ ap (λ (h : ℕ). with_part h (short 16) two) none)
