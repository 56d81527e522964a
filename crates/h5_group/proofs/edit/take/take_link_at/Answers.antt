use Rattle.std.proofs.Common.{◌≡◌, Some, ℕ, List, [], ◌∷◌, length, ◌∙◌, ap, subst, sym, arith}
use Rattle.std.specs.Prelude.{◌≤◌, slice_get}
use Rattle.std.specs.List.{Contains}
use Rattle.h5_model.specs.Format.Superblock.{leaf_k}
use Rattle.h5_model.specs.Format.Heap.{segment_of}
use Rattle.h5_model.specs.Format.Symbols.{Entry, symbols_at}
use Rattle.h5_btree.specs.Removal.{EndsInTree}
use Rattle.h5_btree.specs.declared.way.Step.{Step}
use Rattle.h5_snod.specs.Entries.{symbol_from}
use Rattle.h5_snod.specs.declared.entry.SymbolEntry.{SymbolEntry}
use Rattle.h5_group.specs.Edited.{node_below, offsets_of}
use Rattle.h5_group.specs.Exact.{AreExactBut, AreFilledBut, AreGroupKeys, AreKeysLooked, HasExactKeys}
use Rattle.h5_group.specs.Nodes.Trees.{kind_in}
use Rattle.h5_group.specs.Removal.{AreReleased, offsets_named}
use Rattle.h5_group.specs.Told.{symbol_nodes_told}
use Rattle.h5_group.proofs.DropCalls.{end_told}
use Rattle.h5_group.proofs.EditSteps.{entry_read, offsets_are}
use Rattle.h5_group.proofs.Freed.{released_then}
use Rattle.h5_group.proofs.Searched.{entry_there}
use Rattle.h5_group.proofs.TakeExact.{all_filled, below_kept, filled_but_kept, some_left}
use Rattle.h5_group.proofs.TakeSteps.{gone, loosened, none_left, read_there, some_read, spent_in_turn, unnamed, way_short}
use Rattle.h5_group.proofs.edit.take.take_link_at.Goals as goal
use Rattle.h5_group.proofs.edit.take.take_link_at.Goals.{After-take_entry, After-free_texts}

pub group_symbol_node-symbols-requires-clause-group : goal.group_symbol_node-symbols-requires-clause-group
group_symbol_node-symbols-requires-clause-group c = some_read c.args.image.now c.args.table [] c.requires.group

pub entry-entry-requires : goal.entry-entry-requires
entry-entry-requires c =
    let image = c.args.image.now in
    let place = c.args.place.now in
    rw c.group_symbol_node-symbols.ensures
    (entry_there (segment_of image.bytes c.args.table.heap) (symbols_at image.bytes (leaf_k image.bytes) place.node) place.index c.requires.place.0 c.requires.place.1.named)

pub take_entry-requires-clause-place : goal.take_entry-requires-clause-place
take_entry-requires-clause-place c =
    let image = c.args.image.now in
    let place = c.args.place.now in
    entry_there (segment_of image.bytes c.args.table.heap) (symbols_at image.bytes (leaf_k image.bytes) place.node) place.index c.requires.place.0 c.requires.place.1.named

-- ---- the entry

-- the entry that stands there, and what was read of it
entry_is : (c : After-take_entry) → (e : Entry) × (slice_get (symbols_at c.args.image.now.bytes (leaf_k c.args.image.now.bytes) c.args.place.now.node) c.args.place.now.index ≡ Some e)
    × (symbol_from e ≡ c.entry-entry.result)
entry_is c =
    let image = c.args.image.now in
    let place = c.args.place.now in
    let es = symbols_at image.bytes (leaf_k image.bytes) place.node in
    let read = rw c.group_symbol_node-symbols.ensures at c.entry-entry.ensures in
    let e = read_there es place.index c.entry-entry.result read in
    (e.0, e.1, entry_read es place.index c.entry-entry.result read e.0 e.1)

-- what was read is of each entry that stands there
read_so : (c : After-take_entry) → (e : Entry) → slice_get (symbols_at c.args.image.now.bytes (leaf_k c.args.image.now.bytes) c.args.place.now.node) c.args.place.now.index ≡ Some e
    → symbol_from e ≡ c.entry-entry.result
read_so c e there =
    let image = c.args.image.now in
    let place = c.args.place.now in
    entry_read (symbols_at image.bytes (leaf_k image.bytes) place.node) place.index c.entry-entry.result (rw c.group_symbol_node-symbols.ensures at c.entry-entry.ensures) e there

-- its texts are free then
released_so : (c : After-free_texts) (e : Entry) → symbol_from e ≡ c.entry-entry.result
    → AreReleased c.take_entry.new.image.bytes c.free_texts.new.image.bytes c.args.table.heap (offsets_of e)
released_so c e is =
    subst (AreReleased c.take_entry.new.image.bytes c.free_texts.new.image.bytes c.args.table.heap) (ap offsets_named (sym is) ∙ offsets_are e) c.free_texts.ensures.released

pub free_texts-requires-clause-group : goal.free_texts-requires-clause-group
free_texts-requires-clause-group c =
    let e = entry_is (goal.at.free_texts-requires-clause-group c).After-take_entry in
    let some = c.requires.group in
    let m = loosened c.args.image.now c.take_entry.new.image c.args.table e.0 c.entry-entry.result e.2 (c.take_entry.ensures.taken e.0 e.1) some.0 [] some.1 some.2 in
    (m.0, [], m.2.blocks, m.2.group)

pub free_texts-requires-clause-exact : goal.free_texts-requires-clause-exact
free_texts-requires-clause-exact c = λ is.
    let e = entry_is (goal.at.free_texts-requires-clause-exact c).After-take_entry in
    let of = c.requires.place.1.way_of in
    let name : e.0.name ≡ c.entry-entry.result.name = ap (λ (r : SymbolEntry). r.name) e.2 in
    let u = c.take_entry.new.image.bytes in
    let taken = c.take_entry.ensures.exact e.0 e.1 (c.requires.exact is) c.args.place.now.way of.level of.owned of.symbol_nodes of.number of.ends c.requires.place.1.below in (
      subst (λ (n : ℕ). AreExactBut n u c.args.table) name taken.0,
      subst (λ (n : ℕ). AreKeysLooked n (Some c.args.place.now.way) u c.args.table) name taken.1,
    )

-- ---- its symbol node

-- it is one of the group's still
told_then : (c : After-take_entry) → Contains (symbol_nodes_told c.take_entry.new.image.bytes c.args.table) c.args.place.now.node
told_then c =
    let image = c.args.image.now in
    let t = c.take_entry.new.image in
    let of = c.requires.place.1.way_of in
    let some = c.requires.group in
    let e = entry_is c in
    let m = (c.take_entry.ensures.taken e.0 e.1 some.0 [] some.1 some.2).2 in
    end_told t c.args.table _ _ m.blocks m.group of.level c.args.place.now.way of.owned of.symbol_nodes of.number
    (c.take_entry.ensures.ways c.args.place.now.way of.level of.owned of.symbol_nodes of.number of.ends) c.args.place.now.node
    (λ step above is.
    let own = subst (λ (w : List Step). EndsInTree image (kind_in image.bytes) c.args.table.tree of.level w of.owned of.symbol_nodes of.number) is of.ends in
    c.requires.place.1.below step above is ∙ sym (c.take_entry.ensures.below step above of.level of.owned of.symbol_nodes of.number own))

-- the way ends in the tree still
way_there : (c : After-free_texts) → EndsInTree c.free_texts.new.image (kind_in c.free_texts.new.image.bytes) c.args.table.tree c.requires.place.1.way_of.level c.args.place.now.way
    c.requires.place.1.way_of.owned c.requires.place.1.way_of.symbol_nodes c.requires.place.1.way_of.number
way_there c =
    let of = c.requires.place.1.way_of in
    c.free_texts.ensures.ways.ways c.args.place.now.way of.level of.owned of.symbol_nodes of.number
    (c.take_entry.ensures.ways c.args.place.now.way of.level of.owned of.symbol_nodes of.number of.ends)

-- and leads to the symbol node
node_there : (c : After-free_texts) → (step : Step) (above : List Step) → c.args.place.now.way ≡ step ∷ above
    → c.args.place.now.node ≡ node_below c.free_texts.new.image c.args.table step
node_there c step above is =
    let of = c.requires.place.1.way_of in
    let image = c.args.image.now in
    let own = subst (λ (w : List Step). EndsInTree image (kind_in image.bytes) c.args.table.tree of.level w of.owned of.symbol_nodes of.number) is of.ends in
    let first = c.take_entry.ensures.below step above of.level of.owned of.symbol_nodes of.number own in
    let then = c.free_texts.ensures.ways.below step above of.level of.owned of.symbol_nodes of.number
    (c.take_entry.ensures.ways (step ∷ above) of.level of.owned of.symbol_nodes of.number own) in
    c.requires.place.1.below step above is ∙ sym first ∙ sym then

-- each other one has an entry, and the keys are exact
exact_there : (c : After-free_texts) (e : Entry) → slice_get (symbols_at c.args.image.now.bytes (leaf_k c.args.image.now.bytes) c.args.place.now.node) c.args.place.now.index ≡ Some e
    → symbol_from e ≡ c.entry-entry.result → HasExactKeys c.args.image.now.bytes c.args.table
    → AreGroupKeys (λ key. ⊥) c.free_texts.new.image.bytes c.args.table × AreFilledBut c.args.place.now.node c.free_texts.new.image.bytes c.args.table
exact_there c e got is has =
    let name : e.name ≡ c.entry-entry.result.name = ap (λ (r : SymbolEntry). r.name) is in
    let of = c.requires.place.1.way_of in
    let taken = c.take_entry.ensures.exact e got has c.args.place.now.way of.level of.owned of.symbol_nodes of.number of.ends c.requires.place.1.below in (
      c.free_texts.ensures.exact (subst (λ (n : ℕ). AreExactBut n c.take_entry.new.image.bytes c.args.table) name taken.0),
      filled_but_kept c.take_entry.new.image c.free_texts.new.image c.args.table c.free_texts.ensures.ways c.args.place.now.node taken.2,
    )

pub drop_symbol_node-requires-clause-group : goal.drop_symbol_node-requires-clause-group
drop_symbol_node-requires-clause-group c =
    let e = entry_is (goal.at.drop_symbol_node-requires-clause-group c).After-take_entry in
    let some = c.requires.group in
    let m = unnamed c.args.image.now c.take_entry.new.image c.args.table e.0 c.entry-entry.result e.2 (c.take_entry.ensures.taken e.0 e.1)
    c.free_texts.new.image c.free_texts.ensures.freed some.0 some.1 some.2 in
    ([], (m.0, m.2.blocks, m.2.group))

pub drop_symbol_node-requires-clause-way : goal.drop_symbol_node-requires-clause-way
drop_symbol_node-requires-clause-way c =
    let of = c.requires.place.1.way_of in
    (of.level, of.owned, of.symbol_nodes, of.number, way_there (goal.at.drop_symbol_node-requires-clause-way c).After-free_texts)

pub drop_symbol_node-requires-clause-empty : goal.drop_symbol_node-requires-clause-empty
drop_symbol_node-requires-clause-empty c = λ step above is.
    let image = c.args.image.now in
    let place = c.args.place.now in
    let p = c.requires.place.1 in
    let of = p.way_of in
    let e = entry_is (goal.at.drop_symbol_node-requires-clause-empty c).After-take_entry in
    let some = c.requires.group in
    let m = (loosened image c.take_entry.new.image c.args.table e.0 c.entry-entry.result e.2 (c.take_entry.ensures.taken e.0 e.1) some.0 [] some.1 some.2).2 in
    below_kept c.take_entry.new.image c.free_texts.new.image c.args.table c.free_texts.ensures.ways _ _ m.blocks m.group of.level place.way of.owned of.symbol_nodes of.number
    (c.take_entry.ensures.ways place.way of.level of.owned of.symbol_nodes of.number of.ends) step above is
    ∙ none_left image c.take_entry.new.image c.args.table place.way of.level of.owned of.symbol_nodes of.number place.node place.index of.ends p.below c.take_entry.ensures.below
    c.take_entry.ensures.entries (sym (ap length c.group_symbol_node-symbols.ensures) ∙ sym c.len-is_last.ensures ∙ c.if-is_last.true)
    (entry_there (segment_of image.bytes c.args.table.heap) (symbols_at image.bytes (leaf_k image.bytes) place.node) place.index c.requires.place.0 p.named) step above is

pub drop_symbol_node-requires-clause-blocks : goal.drop_symbol_node-requires-clause-blocks
drop_symbol_node-requires-clause-blocks c =
    let of = c.requires.place.1.way_of in
    let few = way_short c.args.image.now (kind_in c.args.image.now.bytes) c.args.table.tree of.level c.args.place.now.way of.owned of.symbol_nodes of.number of.ends in
    omega (arith, few, c.requires.blocks, c.take_entry.ensures.spends.blocks_left, c.free_texts.ensures.spends.blocks_left)

-- ---- where it goes

pub returns-then-is_last-clause-taken : goal.returns-then-is_last-clause-taken
returns-then-is_last-clause-taken c = λ e there.
    gone c.args.image.now c.take_entry.new.image c.args.table e c.entry-entry.result (read_so (goal.at.returns-then-is_last-clause-taken c).After-take_entry e there)
    (c.take_entry.ensures.taken e there) c.free_texts.new.image c.free_texts.ensures.freed c.drop_symbol_node.new.image c.drop_symbol_node.ensures.stayed

pub returns-then-is_last-clause-freed : goal.returns-then-is_last-clause-freed
returns-then-is_last-clause-freed c = λ e there. (
  c.take_entry.new.image.bytes,
  c.take_entry.ensures.segment,
  released_then c.take_entry.new.image.bytes c.free_texts.new.image.bytes c.drop_symbol_node.new.image.bytes c.args.table.heap (offsets_of e) c.drop_symbol_node.ensures.header
      c.drop_symbol_node.ensures.segment
      (released_so (goal.at.returns-then-is_last-clause-freed c).After-free_texts e (read_so (goal.at.returns-then-is_last-clause-freed c).After-take_entry e there)),
)

pub returns-then-is_last-clause-exact : goal.returns-then-is_last-clause-exact
returns-then-is_last-clause-exact c = λ has.
    let u = (goal.at.returns-then-is_last-clause-exact c).After-free_texts in
    let e = entry_is (goal.at.returns-then-is_last-clause-exact c).After-take_entry in
    let end = c.requires.place.1.way_of.ends in
    let all = exact_there u e.0 e.1 e.2 has in
    c.drop_symbol_node.ensures.exact end.step end.above end.way_is all.0
    (subst (λ (n : ℕ). AreFilledBut n c.free_texts.new.image.bytes c.args.table) (node_there u end.step end.above end.way_is) all.1)

pub returns-then-is_last-clause-spends : goal.returns-then-is_last-clause-spends
returns-then-is_last-clause-spends c =
    let of = c.requires.place.1.way_of in
    let few = way_short c.args.image.now (kind_in c.args.image.now.bytes) c.args.table.tree of.level c.args.place.now.way of.owned of.symbol_nodes of.number of.ends in
    spent_in_turn c.args.image.now c.take_entry.new.image c.free_texts.new.image c.drop_symbol_node.new.image (length c.args.place.now.way) 16 few c.take_entry.ensures.spends
    c.free_texts.ensures.spends c.drop_symbol_node.ensures.spends

-- ---- where it stays

pub returns-else-is_last-clause-taken : goal.returns-else-is_last-clause-taken
returns-else-is_last-clause-taken c = λ e there.
    unnamed c.args.image.now c.take_entry.new.image c.args.table e c.entry-entry.result (read_so (goal.at.returns-else-is_last-clause-taken c).After-take_entry e there)
    (c.take_entry.ensures.taken e there) c.free_texts.new.image c.free_texts.ensures.freed

pub returns-else-is_last-clause-freed : goal.returns-else-is_last-clause-freed
returns-else-is_last-clause-freed c = λ e there. (
  c.take_entry.new.image.bytes,
  c.take_entry.ensures.segment,
  released_so (goal.at.returns-else-is_last-clause-freed c).After-free_texts e (read_so (goal.at.returns-else-is_last-clause-freed c).After-take_entry e there),
)

pub returns-else-is_last-clause-exact : goal.returns-else-is_last-clause-exact
returns-else-is_last-clause-exact c = λ has.
    let image = c.args.image.now in
    let place = c.args.place.now in
    let u = c.free_texts.new.image.bytes in
    let e = entry_is (goal.at.returns-else-is_last-clause-exact c).After-take_entry in
    let all = exact_there (goal.at.returns-else-is_last-clause-exact c).After-free_texts e.0 e.1 e.2 has in
    let es = symbols_at image.bytes (leaf_k image.bytes) place.node in
    let low = entry_there (segment_of image.bytes c.args.table.heap) es place.index c.requires.place.0 c.requires.place.1.named in
    let left = some_left es place.index (λ one. c.if-is_last.false (c.len-is_last.ensures ∙ ap length c.group_symbol_node-symbols.ensures ∙ one)) low in
    let kept = c.free_texts.ensures.ways.entries place.node (told_then (goal.at.returns-else-is_last-clause-exact c).After-take_entry) in
    all_filled u c.args.table place.node (subst (λ (es : List Entry). 1 ≤ length es) (sym (kept ∙ c.take_entry.ensures.entries)) left) all.0 all.1

pub returns-else-is_last-clause-spends : goal.returns-else-is_last-clause-spends
returns-else-is_last-clause-spends c =
    let first = c.take_entry.ensures.spends in
    let second = c.free_texts.ensures.spends in
    record {
      grown = omega (arith, first.grown, second.grown);
      bytes_left = omega (arith, first.bytes_left, second.bytes_left);
      blocks_left = omega (arith, first.blocks_left, second.blocks_left);
    }
