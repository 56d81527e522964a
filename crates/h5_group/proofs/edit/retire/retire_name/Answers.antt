use Rattle.std.proofs.Common.{ℕ, suc, true, List, sym, subst, arith}
use Rattle.std.specs.Prelude.{Option}
use Rattle.h5_model.specs.Format.Nodes.{Kind, node_at}
use Rattle.h5_btree.specs.Looked.{AreHitsLooked, steps_of}
use Rattle.h5_btree.specs.declared.way.Step.{Step}
use Rattle.h5_group.specs.Retired.{is_of}
use Rattle.h5_group.proofs.RetiredExact.{exact_retired, retired_ways}
use Rattle.h5_group.proofs.RetiredGroup.{group_moved, retirable}
use Rattle.h5_group.proofs.TreeMoves.{heap_kept}
use Rattle.h5_group.proofs.edit.retire.retire_name.Goals as goal

pub retire-requires-clause-tree : goal.retire-requires-clause-tree
retire-requires-clause-tree c =
    let (spare, spared, some) = c.requires.group in
    let (links, before, g) = some in (
      (g.linked).level,
      (g.linked).owned,
      (g.linked).symbol_nodes,
      rw (c.group_kind-kind.ensures, c.leaf_k.ensures, c.bytes.ensures, c.tree.ensures) (retirable c.args.image.now c.args.table links spare before g c.args.offset spared),
    )

-- the nodes of a tree of this kind, at this root
abbrev IsLooked : ℕ → List ℕ → Option (List Step) → Kind → ℕ → Type 0
IsLooked offset image steps kind root = AreHitsLooked (is_of offset) (node_at image kind) steps (suc (node_at image kind root).level) true root

pub retire-requires-clause-looked : goal.retire-requires-clause-looked
retire-requires-clause-looked c =
    let image = c.args.image.now.bytes in
    let steps = steps_of c.args.look in
    subst (IsLooked c.args.offset image steps c.group_kind-kind.result) (sym c.tree.ensures)
    (subst (λ (k : Kind). IsLooked c.args.offset image steps k c.args.table.tree) (sym c.group_kind-kind.ensures) c.requires.looked)

pub returns-clause-retired : goal.returns-clause-retired
returns-clause-retired c = λ links spare before g spared.
    let s = c.args.image.now in
    let gives = rw (c.group_kind-kind.ensures, c.leaf_k.ensures, c.bytes.ensures, c.tree.ensures) at c.retire.ensures.retired in
    group_moved s c.args.table links spare before g c.args.offset spared c.retire.new.image
    (gives (g.linked).level (g.linked).owned (g.linked).symbol_nodes (retirable s c.args.table links spare before g c.args.offset spared))
    (let grown = c.retire.ensures.spends.grown in omega (arith, grown))

pub returns-clause-header : goal.returns-clause-header
returns-clause-header c =
    let s = c.args.image.now in
    let (spare, spared, some) = c.requires.group in
    let (links, before, g) = some in
    let gives = rw (c.group_kind-kind.ensures, c.leaf_k.ensures, c.bytes.ensures, c.tree.ensures) at c.retire.ensures.retired in
    (heap_kept s c.retire.new.image c.args.table links spare before g
    (gives (g.linked).level (g.linked).owned (g.linked).symbol_nodes (retirable s c.args.table links spare before g c.args.offset spared)).moves).0

pub returns-clause-segment : goal.returns-clause-segment
returns-clause-segment c =
    let s = c.args.image.now in
    let (spare, spared, some) = c.requires.group in
    let (links, before, g) = some in
    let gives = rw (c.group_kind-kind.ensures, c.leaf_k.ensures, c.bytes.ensures, c.tree.ensures) at c.retire.ensures.retired in
    (heap_kept s c.retire.new.image c.args.table links spare before g
    (gives (g.linked).level (g.linked).owned (g.linked).symbol_nodes (retirable s c.args.table links spare before g c.args.offset spared)).moves).1

pub returns-clause-exact : goal.returns-clause-exact
returns-clause-exact c =
    let s = c.args.image.now in
    let (spare, spared, some) = c.requires.group in
    let (links, before, g) = some in
    let gives = rw (c.group_kind-kind.ensures, c.leaf_k.ensures, c.bytes.ensures, c.tree.ensures) at c.retire.ensures.retired in
    exact_retired s c.retire.new.image c.args.table links spare before g c.args.offset
    (gives (g.linked).level (g.linked).owned (g.linked).symbol_nodes (retirable s c.args.table links spare before g c.args.offset spared))
    (let grown = c.retire.ensures.spends.grown in omega (arith, grown))

pub returns-clause-ways : goal.returns-clause-ways
returns-clause-ways c =
    let s = c.args.image.now in
    let (spare, spared, some) = c.requires.group in
    let (links, before, g) = some in
    let gives = rw (c.group_kind-kind.ensures, c.leaf_k.ensures, c.bytes.ensures, c.tree.ensures) at c.retire.ensures.retired in
    retired_ways s c.retire.new.image c.args.table links spare before g c.args.offset
    (gives (g.linked).level (g.linked).owned (g.linked).symbol_nodes (retirable s c.args.table links spare before g c.args.offset spared))
    (let grown = c.retire.ensures.spends.grown in omega (arith, grown))
