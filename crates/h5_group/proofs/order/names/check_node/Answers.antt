use Rattle.std.proofs.Common.{◌≡◌, ◌<◌, ◌∙◌, List, ℕ, Some, length, option_map, refl, sym, ap, subst, arith}
use Rattle.std.specs.Prelude.{Option}
use Rattle.h5_bytes.specs.Texts.{text_at}
use Rattle.h5_model.specs.Format.Symbols.{Entry}
use Rattle.h5_model.specs.Format.Links.{Before}
use Rattle.h5_btree.specs.Rising.{FallFrom, IsAbove}
use Rattle.h5_btree.proofs.RisingLaws.{last_more, rise_more}
use Rattle.h5_group.specs.Order.Between.{name_of_entry}
use Rattle.h5_group.proofs.OrderProofs.AscendLaws.{fall_here}
use Rattle.h5_group.proofs.OrderProofs.EntryNames.{entry_offset}
use Rattle.h5_group.proofs.order.names.check_node.Goals as goal

pub loop-k-preserved : goal.loop-k-preserved
loop-k-preserved c =
    let segment : List ℕ = c.args.segment.now in
    let before : Option (List ℕ) = option_map (text_at segment) c.args.before in
    let low : c.loop-k.k < length c.symbol_node-node.result = omega arith in
    let e = entry_offset c.symbol_node-node.result c.loop-k.k c.entry-name.result low c.entry-name.ensures in
    let named : name_of_entry segment e.0 ≡ text_at segment c.entry-name.result.name = ap (text_at segment) e.2 in
    let above = c.if-not-is_above.ensures.0 refl in
    let here = subst (λ (o : Option (List ℕ)). IsAbove Before o (name_of_entry segment e.0)) c.loop-k.invariant.1
    (subst (λ (name : List ℕ). IsAbove Before (option_map (text_at segment) c.loop-k.last) name) (sym named) above) in (
      rise_more (name_of_entry segment) Before before c.symbol_node-node.result c.loop-k.k e.0 low e.1 c.loop-k.invariant.0 here,
      sym (last_more (name_of_entry segment) Before before c.symbol_node-node.result c.loop-k.k e.0 low e.1 ∙ ap (λ (name : List ℕ). Some name) named),
    )

pub returns-then-not-is_above-clause-falls : goal.returns-then-not-is_above-clause-falls
returns-then-not-is_above-clause-falls c =
    let segment : List ℕ = c.args.segment.now in
    let before : Option (List ℕ) = option_map (text_at segment) c.args.before in
    let low : c.loop-k.k < length c.symbol_node-node.result = omega arith in
    let e = entry_offset c.symbol_node-node.result c.loop-k.k c.entry-name.result low c.entry-name.ensures in
    let named : name_of_entry segment e.0 ≡ text_at segment c.entry-name.result.name = ap (text_at segment) e.2 in
    subst (λ (es : List Entry). FallFrom (name_of_entry segment) Before before es) c.symbol_node-node.ensures
    (fall_here segment before c.symbol_node-node.result c.loop-k.k e.0 low e.1 c.loop-k.last c.loop-k.invariant.1
    (λ above. let never = c.if-not-is_above.ensures.1 (subst (IsAbove Before (option_map (text_at segment) c.loop-k.last)) named above) in cc))
