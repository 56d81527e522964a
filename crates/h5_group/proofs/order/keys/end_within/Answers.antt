use Rattle.std.proofs.Common.{◌≡◌, ◌<◌, ◌+◌, ◌-◌, ◌∙◌, [], List, ℕ, length, drop, sym, ap, subst, arith}
use Rattle.std.specs.Prelude.{◌↔◌}
use Rattle.std.specs.List.{AllByRecursion}
use Rattle.std.proofs.lemmas.Option.{get_or_from_slice_get}
use Rattle.h5_bytes.specs.Texts.{text_at}
use Rattle.h5_model.specs.Faults.TreeFaults.{all_entries}
use Rattle.h5_model.specs.Format.Rows.{Node}
use Rattle.h5_model.specs.Format.Superblock.{leaf_k}
use Rattle.h5_model.specs.Format.Symbols.{symbols_at}
use Rattle.h5_model.specs.Format.Links.{NotAfter}
use Rattle.h5_group.specs.Order.Between.{names_at}
use Rattle.h5_group.proofs.OrderProofs.EntryNames.{entry_offset}
use Rattle.h5_group.proofs.OrderProofs.NameEnds.{last_decides, none_before}
use Rattle.h5_group.proofs.order.keys.end_within.Goals as goal

pub returns-then-count-ne0 : goal.returns-then-count-ne0
returns-then-count-ne0 c =
    let image : List ℕ = c.args.image.now.bytes in
    let segment : List ℕ = c.args.segment.now in
    let node : Node = c.args.node.now in
    let i : ℕ = c.loop-i.i - 1 in
    let next : c.loop-i.i ≡ i + 1 = omega arith in
    let low : i < length node.children = omega arith in
    let read = get_or_from_slice_get node.children i c.child.result c.child.result c.child.ensures in
    let k : ℕ = c.len-count.result - 1 in
    let end : k + 1 ≡ length c.symbol_node-symbols.result = omega arith in
    let last : k < length c.symbol_node-symbols.result = omega arith in
    let e = entry_offset c.symbol_node-symbols.result k c.entry.result last c.entry.ensures in
    let decides = last_decides (symbols_at image (leaf_k image)) segment node.children i c.child.result low read
    c.symbol_node-symbols.result c.symbol_node-symbols.ensures e.0 c.requires.ascend (text_at segment c.args.high) k end e.1
    (subst (λ (k : ℕ). all_entries image (drop k node.children) ≡ []) next c.loop-i.invariant) in
    let exact : NotAfter (text_at segment c.entry.result.name) (text_at segment c.args.high)
    ↔ AllByRecursion (λ (n : List ℕ). NotAfter n (text_at segment c.args.high)) (names_at image segment node.children)
    = rw (ap (text_at segment) e.2) at decides in
    (λ yes. exact.0 (sym c.is_not_after.ensures ∙ yes), λ within. c.is_not_after.ensures ∙ exact.1 within)

pub loop-i-preserved : goal.loop-i-preserved
loop-i-preserved c =
    let image : List ℕ = c.args.image.now.bytes in
    let node : Node = c.args.node.now in
    let i : ℕ = c.loop-i.i - 1 in
    let next : c.loop-i.i ≡ i + 1 = omega arith in
    let low : i < length node.children = omega arith in
    let read = get_or_from_slice_get node.children i c.child.result c.child.result c.child.ensures in
    let none : length c.symbol_node-symbols.result ≡ 0 = omega arith in
    none_before (symbols_at image (leaf_k image)) c.args.segment.now node.children i c.child.result low read
    c.symbol_node-symbols.result c.symbol_node-symbols.ensures none
    (subst (λ (k : ℕ). all_entries image (drop k node.children) ≡ []) next c.loop-i.invariant)
