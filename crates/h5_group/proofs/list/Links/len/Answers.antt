use Rattle.std.proofs.Common.{◌≡◌, ◌-◌, ◌++◌, ℕ, List, drop, length, take, ap, ◌∙◌, arith}
use Rattle.std.proofs.lemmas.List.{length-append, length-drop, length-map, take_all}
use Rattle.std.proofs.lemmas.List.Folds.{length-flat_map-take}
use Rattle.h5_model.specs.Format.Superblock.{leaf_k}
use Rattle.h5_model.specs.Format.Symbols.{link_of, symbols_at}
use Rattle.h5_model.specs.Faults.TreeFaults.{all_entries}
use Rattle.h5_group.specs.LinksLeft.{entries_under_way}
use Rattle.h5_group.proofs.list.Links.len.Goals as goal

pub overflow_add-count : goal.overflow_add-count
overflow_add-count c =
    let s = c.self.inside in
    let image = s.image.now.bytes in
    let nodes = c.deref.result.now in
    let items : List ℕ = take (length nodes - s.begun) (drop s.begun nodes) in
    let same : items ≡ drop s.begun s.nodes.items = take_all (length nodes - s.begun) (drop s.begun nodes) (omega (arith, length-drop s.begun nodes)) ∙ ap (drop s.begun) c.deref.ensures.value in
    let one = length-flat_map-take (symbols_at image (leaf_k image)) items c.loop-at.at-index 0 c.loop-at-test.true in
    let all = ap (λ (ns : List ℕ). length (all_entries image ns)) same in
    let under = drop s.place (entries_under_way s.node) in
    let left = drop s.begun s.nodes.items in
    omega (
      arith,
      c.loop-at.invariant,
      one,
      all,
      ap length c.symbol_node.ensures,
      c.len-count.ensures,
      c.self.invariant.2,
      length-map (under ++ all_entries image left) (link_of s.segment.now),
      length-append under (all_entries image left),
    )
