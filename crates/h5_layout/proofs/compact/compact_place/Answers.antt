use Rattle.std.proofs.Common.{◌≡◌, ◌==◌, length, ap, arith}
use Rattle.std.specs.Option.{option_copied}
use Rattle.std.specs.List.{find}
use Rattle.h5_header.specs.declared.message.Message.{Message as Placed}
use Rattle.h5_model.specs.Format.MessageTypes.{data_layout_kind}
use Rattle.h5_layout.proofs.CompactLaws.{message_found, message_within, place_told}
use Rattle.h5_layout.proofs.compact.compact_place.Goals as goal
use Rattle.h5_layout.proofs.compact.compact_place.Goals.{After-find_message}

found : (c : After-find_message) → option_copied c.find_message.result ≡ find (λ (m : Placed). m.kind == data_layout_kind) c.args.header.now.list
found c = rw c.messages.ensures.list at c.find_message.ensures

pub unwrap-requires : goal.unwrap-requires
unwrap-requires c =
    message_found c.args.header.now.image c.args.header.now.list c.find_message.result (found (goal.at.unwrap-requires c).After-find_message)
    (rw c.messages.ensures.messages at c.requires)

-- the message lies in the image, which is not longer than memory
pub overflow_add-result : goal.overflow_add-result
overflow_add-result c =
    let told = found (goal.at.overflow_add-result c).After-find_message in
    let low = message_within c.args.header.now.image c.args.header.now.list c.find_message.result c.unwrap.result c.messages.ensures.within told c.unwrap.ensures in
    let held : length c.bytes-bytes.result.now ≡ length c.args.header.now.image = ap length c.bytes-bytes.ensures in
    grind (arith, low, held)

pub returns : goal.returns
returns c =
    place_told c.args.header.now.list c.find_message.result c.unwrap.result (found (goal.at.returns c).After-find_message) c.unwrap.ensures
