use Rattle.std.proofs.Common.{◌≡◌, ◌==◌, Some, length, refl, sym, ap, ◌∙◌, arith}
use Rattle.std.specs.Option.{option_copied}
use Rattle.std.specs.List.{find}
use Rattle.h5_model.specs.Format.MessageTypes.{dataspace_kind}
use Rattle.h5_space.specs.Lending.{with_bytes_at}
use Rattle.h5_space.specs.Moves.{Spends}
use Rattle.h5_space.specs.Space.{Space}
use Rattle.h5_header.specs.Listed.{messages_in}
use Rattle.h5_header.specs.declared.message.Message.{Message as Placed}
use Rattle.h5_layout.specs.ArrayEdits.{described_in}
use Rattle.h5_layout.specs.ExtentNow.{HasExtentNow}
use Rattle.h5_layout.proofs.ExtentBounds.{few_sizes}
use Rattle.h5_layout.proofs.ExtentWritten.{extent_found, extent_inside, extent_lent, extent_now, extent_room}
use Rattle.h5_layout.proofs.extent.write_extent.Goals as goal
use Rattle.h5_layout.proofs.extent.write_extent.Goals.{After-unwrap-message, After-write_bounded_dataspace}

pub unwrap-message-requires : goal.unwrap-message-requires
unwrap-message-requires c =
    let x = extent_found c.args.image.now c.args.messages.now c.requires.array in
    extent_lent c.args.messages.now.list x.0 c.find_message.result x.1 c.find_message.ensures

found : (c : After-unwrap-message) → find (λ (y : Placed). y.kind == dataspace_kind) c.args.messages.now.list ≡ Some c.unwrap-message.result.now
found c = sym c.find_message.ensures ∙ ap option_copied c.unwrap-message.ensures

pub part_at_mut-body-requires : goal.part_at_mut-body-requires
part_at_mut-body-requires c =
    let w = (goal.at.part_at_mut-body-requires c).After-unwrap-message in
    omega (arith, c.from.ensures, extent_inside c.args.image.now c.args.messages.now c.requires.array c.unwrap-message.result.now (found w))

pub write_bounded_dataspace-requires-clause-rank : goal.write_bounded_dataspace-requires-clause-rank
write_bounded_dataspace-requires-clause-rank c =
    let image = c.args.image.now.bytes in
    let m = c.args.messages.now in
    omega (arith, c.requires.ranked, few_sizes (messages_in image m.list) (described_in image m) c.requires.array.array)

pub write_bounded_dataspace-requires-clause-room : goal.write_bounded_dataspace-requires-clause-room
write_bounded_dataspace-requires-clause-room c =
    let w = (goal.at.write_bounded_dataspace-requires-clause-room c).After-unwrap-message in
    omega (
      arith,
      c.part_at_mut-body.ensures.size,
      c.from.ensures,
      extent_room c.args.image.now c.args.messages.now c.requires.array c.unwrap-message.result.now (found w) c.args.sizes.now c.requires.ranked c.requires.has,
    )

-- what is written
wrote : (c : After-write_bounded_dataspace) (new : Space) → new ≡ with_bytes_at c.args.image.now c.unwrap-message.result.now.at c.write_bounded_dataspace.new.bytes
    → HasExtentNow c.args.image.now new c.args.messages.now c.args.messages.now (record { sizes = c.args.sizes.now; maxima = c.args.maxima.now }) × Spends c.args.image.now new 0 0
wrote c =
    let long : length c.write_bounded_dataspace.new.bytes ≡ c.unwrap-message.result.now.size
    = omega (arith, c.write_bounded_dataspace.auto.bytes, c.part_at_mut-body.ensures.size, c.from.ensures) in
    let here = sym c.find_message.ensures ∙ ap option_copied c.unwrap-message.ensures in
    extent_now c.args.image.now c.args.messages.now c.requires.array c.unwrap-message.result.now here c.write_bounded_dataspace.new.bytes long
    (record { sizes = c.args.sizes.now; maxima = c.args.maxima.now }) c.write_bounded_dataspace.ensures.reads

pub returns-clause-extent : goal.returns-clause-extent
returns-clause-extent c = (wrote (goal.at.returns-clause-extent c).After-write_bounded_dataspace _ refl).0

pub returns-clause-spends : goal.returns-clause-spends
returns-clause-spends c = (wrote (goal.at.returns-clause-spends c).After-write_bounded_dataspace _ refl).1
