use Rattle.std.proofs.Common.{◌≡◌, ◌<◌, ◌∙◌, List, ℕ, length, sym, ap, arith}
use Rattle.std.specs.Prelude.{◌↔◌}
use Rattle.std.specs.List.{AllByRecursion}
use Rattle.std.proofs.lemmas.Option.{get_or_from_slice_get}
use Rattle.h5_bytes.specs.Texts.{text_at}
use Rattle.h5_model.specs.Format.Rows.{Node}
use Rattle.h5_model.specs.Format.Superblock.{leaf_k}
use Rattle.h5_model.specs.Format.Symbols.{symbols_at}
use Rattle.h5_model.specs.Format.Links.{Before}
use Rattle.h5_group.specs.Order.Between.{names_at}
use Rattle.h5_group.proofs.OrderProofs.EntryNames.{entry_offset}
use Rattle.h5_group.proofs.OrderProofs.NameEnds.{first_decides, none_more}
use Rattle.h5_group.proofs.order.keys.start_above.Goals as goal

pub returns-then-len-ne0 : goal.returns-then-len-ne0
returns-then-len-ne0 c =
    let image : List ℕ = c.args.image.now.bytes in
    let segment : List ℕ = c.args.segment.now in
    let node : Node = c.args.node.now in
    let low : c.loop-i.i < length node.children = omega arith in
    let read = get_or_from_slice_get node.children c.loop-i.i c.child.result c.child.result c.child.ensures in
    let some : 0 < length c.symbol_node-symbols.result = omega arith in
    let e = entry_offset c.symbol_node-symbols.result 0 c.entry.result some c.entry.ensures in
    let decides = first_decides (symbols_at image (leaf_k image)) segment node.children c.loop-i.i c.child.result low read
    c.symbol_node-symbols.result c.symbol_node-symbols.ensures e.0 c.requires.ascend (text_at segment c.args.low) some e.1 c.loop-i.invariant in
    let exact : Before (text_at segment c.args.low) (text_at segment c.entry.result.name)
    ↔ AllByRecursion (Before (text_at segment c.args.low)) (names_at image segment node.children)
    = rw (ap (text_at segment) e.2) at decides in
    (λ yes. exact.0 (sym c.is_before.ensures ∙ yes), λ above. c.is_before.ensures ∙ exact.1 above)

pub loop-i-preserved : goal.loop-i-preserved
loop-i-preserved c =
    let image : List ℕ = c.args.image.now.bytes in
    let node : Node = c.args.node.now in
    let low : c.loop-i.i < length node.children = omega arith in
    let read = get_or_from_slice_get node.children c.loop-i.i c.child.result c.child.result c.child.ensures in
    let none : length c.symbol_node-symbols.result ≡ 0 = omega arith in
    none_more (symbols_at image (leaf_k image)) c.args.segment.now node.children c.loop-i.i c.child.result low read
    c.symbol_node-symbols.result c.symbol_node-symbols.ensures none c.loop-i.invariant
