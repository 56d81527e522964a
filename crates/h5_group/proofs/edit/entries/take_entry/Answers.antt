use Rattle.std.proofs.Common.{◌≡◌, ℕ, ◌+◌, ◌*◌, ◌<◌, ◌≤◌, List, ◌∷◌, length, sym, ap, ◌∙◌, subst}
use Rattle.std.specs.List.{remove}
use Rattle.h5_model.specs.Format.Superblock.{leaf_k}
use Rattle.h5_model.specs.Format.Symbols.{Entry, IsSymbolNode, symbol_bytes, symbols_at}
use Rattle.h5_group.specs.SymbolEdits.{IsSymbolsRewritten}
use Rattle.h5_group.proofs.EntryKept.{below_set, ends_set, entries_set, heap_set, symbols_stand}
use Rattle.h5_group.proofs.EntrySets.{taken_all}
use Rattle.h5_group.proofs.TakenExact.{taken_exact}
use Rattle.h5_group.proofs.edit.entries.take_entry.Goals as goal
use Rattle.h5_group.proofs.edit.entries.take_entry.Goals.{After-leaf_k-leaf, After-take_at}

leaf_is : (c : After-leaf_k-leaf) → leaf_k c.args.image.now.bytes ≡ c.leaf_k-leaf.result
leaf_is c = sym (c.leaf_k-leaf.ensures ∙ ap leaf_k c.bytes.ensures)

pub take_at-requires-clause-inside : goal.take_at-requires-clause-inside
take_at-requires-clause-inside c =
    let some = c.requires.group in
    subst (λ (l : ℕ). c.args.node + (8 + 80 * l) ≤ length c.args.image.now.bytes) (leaf_is (goal.at.take_at-requires-clause-inside c).After-leaf_k-leaf)
    (symbols_stand c.args.image.now c.args.table some.1.0 some.0 some.1.1 some.1.2 c.args.node c.requires.node).inside

pub take_at-requires-clause-form : goal.take_at-requires-clause-form
take_at-requires-clause-form c =
    let some = c.requires.group in
    subst (λ (l : ℕ). IsSymbolNode l (symbol_bytes c.args.image.now.bytes l c.args.node)) (leaf_is (goal.at.take_at-requires-clause-form c).After-leaf_k-leaf)
    (symbols_stand c.args.image.now c.args.table some.1.0 some.0 some.1.1 some.1.2 c.args.node c.requires.node).formed

pub take_at-requires-clause-place : goal.take_at-requires-clause-place
take_at-requires-clause-place c =
    subst (λ (l : ℕ). c.args.k < length (symbols_at c.args.image.now.bytes l c.args.node)) (leaf_is (goal.at.take_at-requires-clause-place c).After-leaf_k-leaf) c.requires.place

-- the entries that are left
abbrev left : After-take_at → List Entry
left c = remove (symbols_at c.args.image.now.bytes (leaf_k c.args.image.now.bytes) c.args.node) c.args.k

written : (c : After-take_at) → leaf_k c.args.image.now.bytes ≡ c.leaf_k-leaf.result
    → IsSymbolsRewritten c.args.image.now c.take_at.new.image (leaf_k c.args.image.now.bytes) c.args.node (left c)
written c is =
    subst (λ (l : ℕ). IsSymbolsRewritten c.args.image.now c.take_at.new.image l c.args.node (remove (symbols_at c.args.image.now.bytes l c.args.node) c.args.k)) (sym is) c.take_at.ensures

pub returns-clause-taken : goal.returns-clause-taken
returns-clause-taken c =
    taken_all c.args.image.now c.take_at.new.image c.args.table c.args.node c.args.k
    (written (goal.at.returns-clause-taken c).After-take_at (leaf_is (goal.at.returns-clause-taken c).After-leaf_k-leaf)) c.requires.node

pub returns-clause-ways : goal.returns-clause-ways
returns-clause-ways c way level owned list number ends =
    let some = c.requires.group in
    let d = (goal.at.returns-clause-ways c).After-take_at in
    ends_set c.args.image.now c.args.table some.1.0 some.0 some.1.1 some.1.2 c.args.node c.requires.node c.take_at.new.image (left d)
    (written d (leaf_is (goal.at.returns-clause-ways c).After-leaf_k-leaf)) level way owned list number ends

pub returns-clause-below : goal.returns-clause-below
returns-clause-below c step above level owned list number ends =
    let some = c.requires.group in
    let d = (goal.at.returns-clause-below c).After-take_at in
    (below_set c.args.image.now c.args.table some.1.0 some.0 some.1.1 some.1.2 c.args.node c.requires.node c.take_at.new.image (left d)
    (written d (leaf_is (goal.at.returns-clause-below c).After-leaf_k-leaf)) level (step ∷ above) owned list number ends).0

pub returns-clause-segment : goal.returns-clause-segment
returns-clause-segment c =
    let some = c.requires.group in
    let d = (goal.at.returns-clause-segment c).After-take_at in
    heap_set c.args.image.now c.args.table some.1.0 some.0 some.1.1 some.1.2 c.args.node c.requires.node c.take_at.new.image (left d)
    (written d (leaf_is (goal.at.returns-clause-segment c).After-leaf_k-leaf))

pub returns-clause-entries : goal.returns-clause-entries
returns-clause-entries c =
    let some = c.requires.group in
    let d = (goal.at.returns-clause-entries c).After-take_at in
    entries_set c.args.image.now c.args.table some.1.0 some.0 some.1.1 some.1.2 c.args.node c.requires.node c.take_at.new.image (left d)
    (written d (leaf_is (goal.at.returns-clause-entries c).After-leaf_k-leaf))

pub returns-clause-spends : goal.returns-clause-spends
returns-clause-spends c = c.take_at.ensures.spends

pub returns-clause-exact : goal.returns-clause-exact
returns-clause-exact c e got =
    let some = c.requires.group in
    taken_exact c.args.image.now c.take_at.new.image c.args.table c.args.node c.args.k
    (written (goal.at.returns-clause-exact c).After-take_at (leaf_is (goal.at.returns-clause-exact c).After-leaf_k-leaf)) c.requires.node some.1.0 some.0 some.1.1 some.1.2 e got
