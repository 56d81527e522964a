use Rattle.std.proofs.Common.{◌≡◌, rules, to_z, of_z, ap, ◌∙◌, arith, length}
use Rattle.std.specs.Int.{w128}
use Rattle.h5_model.specs.Format.Plain.{messages_bytes}
use Rattle.h5_repack.specs.Bodies.Bodies.{fill_messages}
use Rattle.h5_repack.specs.Blocks.ArrayHeader.{in_chunks}
use Rattle.h5_repack.proofs.BlockLaws.ArrayParts.{length-list}
use Rattle.h5_repack.proofs.blocks.header.messages_size.Goals as goal

pub returns-clause-exact : goal.returns-clause-exact
returns-clause-exact c cells address room =
    let a = c.args.array.now in
    let o = c.args.others.now in
    let value : to_z w128 (of_z w128 c.fill.result) ≡ c.fill.result = search rules in
    let fill : to_z w128 (of_z w128 c.fill.result) ≡ a.fill = value ∙ c.fill.ensures.value in
    let fills : c.fill_message_length-fill.result ≡ length (messages_bytes (fill_messages (in_chunks a.layout) a.fixed a.fill o.count))
    = c.fill_message_length-fill.ensures.exact (in_chunks a.layout)
    ∙ (λ i. length (messages_bytes (fill_messages (in_chunks a.layout) (c.fixed.ensures i) (fill i) o.count))) in
    omega (
      arith,
      length-list a cells o address,
      c.space_length-space.ensures.exact,
      fills,
      c.layout_length-layout.ensures.exact cells address room,
      ap length c.bytes.ensures.bytes,
    )
