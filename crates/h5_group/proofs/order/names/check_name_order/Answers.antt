use Rattle.std.proofs.Common.{◌<◌, ◌≤◌, ◌∙◌, List, ℕ, ◌+◌, length, take, drop, get_or, sym, ap, subst, arith}
use Rattle.std.specs.Prelude.{Option, None}
use Rattle.std.proofs.lemmas.List.{take_all}
use Rattle.std.proofs.lemmas.Result.{err_from_is_err_and}
use Rattle.h5_model.specs.Format.Superblock.{leaf_k}
use Rattle.h5_model.specs.Format.Symbols.{symbols_at}
use Rattle.h5_model.specs.Faults.TreeFaults.{all_entries}
use Rattle.h5_model.specs.Format.Links.{Before}
use Rattle.h5_btree.specs.Rising.{FallFrom, RiseFrom, last_value}
use Rattle.h5_btree.proofs.RisingLaws.{fall_next, last_next, rise_next}
use Rattle.h5_group.specs.Order.Between.{name_of_entry}
use Rattle.h5_group.proofs.OrderProofs.EntryNames.{itself}
use Rattle.h5_group.proofs.TextProofs.ListLaws.{around}
use Rattle.h5_group.proofs.OrderProofs.AscendLaws.{rise_ascend}
use Rattle.h5_group.proofs.order.names.check_name_order.Goals as goal

pub returns-in_err-last-clause-falls : goal.returns-in_err-last-clause-falls
returns-in_err-last-clause-falls c =
    let image : List ℕ = c.args.image.now.bytes in
    let at : ℕ = get_or c.args.symbol_nodes.now c.loop-at.at-index 0 in
    let low : c.loop-at.at-index < length c.args.symbol_nodes.now = omega arith in
    let here = itself c.args.symbol_nodes.now c.loop-at.at-index 0 low in
    let falls = subst (λ (o : Option (List ℕ)). FallFrom (name_of_entry c.args.segment.now) Before o (symbols_at image (leaf_k image) at)) c.loop-at.invariant.1 c.in_err-last.ensures.falls in
    let p = err_from_is_err_and c.from_residual.result c.from_residual.ensures.1 in
    rw (p.1, p.2, c.in_err-last.ensures.refused)
    (fall_next (name_of_entry c.args.segment.now) Before (symbols_at image (leaf_k image)) c.args.symbol_nodes.now c.loop-at.at-index at low here falls)

pub returns-in_err-last-clause-first : goal.returns-in_err-last-clause-first
returns-in_err-last-clause-first c =
    let image : List ℕ = c.args.image.now.bytes in
    let nodes : List ℕ = c.args.symbol_nodes.now in
    let i : ℕ = c.loop-at.at-index in
    let low : i < length nodes = omega arith in
    let p = err_from_is_err_and c.from_residual.result c.from_residual.ensures.1 in
    rw (p.1, p.2, c.in_err-last.ensures.refused)
    (take i nodes, drop (i + 1) nodes, around nodes i 0 low, rise_ascend c.args.segment.now (all_entries image (take i nodes)) c.loop-at.invariant.0)

pub loop-at-preserved : goal.loop-at-preserved
loop-at-preserved c =
    let image : List ℕ = c.args.image.now.bytes in
    let at : ℕ = get_or c.args.symbol_nodes.now c.loop-at.at-index 0 in
    let low : c.loop-at.at-index < length c.args.symbol_nodes.now = omega arith in
    let here = itself c.args.symbol_nodes.now c.loop-at.at-index 0 low in
    let rise = subst (λ (o : Option (List ℕ)). RiseFrom (name_of_entry c.args.segment.now) Before o (symbols_at image (leaf_k image) at)) c.loop-at.invariant.1 c.in_ok-last.ensures.rise in (
      rise_next (name_of_entry c.args.segment.now) Before (symbols_at image (leaf_k image)) c.args.symbol_nodes.now c.loop-at.at-index at low here c.loop-at.invariant.0 rise,
      c.in_ok-last.ensures.last
          ∙ ap (λ (o : Option (List ℕ)). last_value (name_of_entry c.args.segment.now) o (symbols_at image (leaf_k image) at)) c.loop-at.invariant.1
          ∙ sym (last_next (name_of_entry c.args.segment.now) Before (symbols_at image (leaf_k image)) c.args.symbol_nodes.now c.loop-at.at-index at low here),
    )

pub returns-clause-ascending : goal.returns-clause-ascending
returns-clause-ascending c =
    let end : length c.args.symbol_nodes.now ≤ c.loop-at.at-index = omega arith in
    rise_ascend c.args.segment.now (all_entries c.args.image.now.bytes c.args.symbol_nodes.now)
    (subst (λ (ns : List ℕ). RiseFrom (name_of_entry c.args.segment.now) Before None (all_entries c.args.image.now.bytes ns)) (take_all c.loop-at.at-index c.args.symbol_nodes.now end) c.loop-at.invariant.0)
