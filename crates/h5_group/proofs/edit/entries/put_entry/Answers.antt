use Rattle.std.proofs.Common.{◌≡◌, ℕ, ◌+◌, ◌*◌, ◌<◌, ◌≤◌, List, ◌++◌, length, sym, ap, ◌∙◌, subst, arith}
use Rattle.std.specs.List.{insert}
use Rattle.std.proofs.lemmas.List.{length-map}
use Rattle.h5_bytes.specs.Texts.{text_at}
use Rattle.h5_model.specs.Format.Heap.{segment_of}
use Rattle.h5_model.specs.Format.Superblock.{leaf_k}
use Rattle.h5_model.specs.Format.Symbols.{Entry, IsSymbolNode, symbol_bytes, symbols_at}
use Rattle.h5_snod.specs.Written.{entry_from}
use Rattle.h5_group.specs.Edited.{offsets_of}
use Rattle.h5_group.specs.Nodes.Stands.{IsSymbolsAt}
use Rattle.h5_group.specs.SymbolEdits.{IsSymbolsRewritten}
use Rattle.h5_group.proofs.EntryKept.{heap_set, symbols_stand}
use Rattle.h5_group.proofs.EntrySets.{put_all}
use Rattle.h5_group.proofs.FilledExact.{entry_filled_exact}
use Rattle.h5_group.proofs.edit.entries.put_entry.Goals as goal
use Rattle.h5_group.proofs.edit.entries.put_entry.Goals.{After-leaf_k-leaf, After-put_in}

leaf_is : (c : After-leaf_k-leaf) → leaf_k c.args.image.now.bytes ≡ c.leaf_k-leaf.result
leaf_is c = sym (c.leaf_k-leaf.ensures ∙ ap leaf_k c.bytes.ensures)

-- the symbol node stands
there : (c : After-leaf_k-leaf) → IsSymbolsAt c.args.image.now.bytes c.node_at_end-node.result
there c =
    let e = c.requires.entry in
    symbols_stand c.args.image.now c.args.table e.links (offsets_of (entry_from c.args.symbol) ++ e.spare) e.blocks e.group c.node_at_end-node.result
    c.node_at_end-node.ensures.one

pub put_in-requires-clause-inside : goal.put_in-requires-clause-inside
put_in-requires-clause-inside c =
    let b = (goal.at.put_in-requires-clause-inside c).After-leaf_k-leaf in
    subst (λ (l : ℕ). c.node_at_end-node.result + (8 + 80 * l) ≤ length c.args.image.now.bytes) (leaf_is b) (there b).inside

pub put_in-requires-clause-form : goal.put_in-requires-clause-form
put_in-requires-clause-form c =
    let b = (goal.at.put_in-requires-clause-form c).After-leaf_k-leaf in
    subst (λ (l : ℕ). IsSymbolNode l (symbol_bytes c.args.image.now.bytes l c.node_at_end-node.result)) (leaf_is b) (there b).formed

pub put_in-requires-clause-place : goal.put_in-requires-clause-place
put_in-requires-clause-place c =
    let b = (goal.at.put_in-requires-clause-place c).After-leaf_k-leaf in
    let inside = c.name_place-k.ensures.inside in
    let count = length-map (symbols_at c.args.image.now.bytes (leaf_k c.args.image.now.bytes) c.node_at_end-node.result)
    (λ (o : Entry). text_at (segment_of c.args.image.now.bytes c.args.table.heap) o.name) in
    subst (λ (l : ℕ). c.name_place-k.result ≤ length (symbols_at c.args.image.now.bytes l c.node_at_end-node.result)) (leaf_is b) (omega (arith, inside, count))

pub put_in-requires-clause-room : goal.put_in-requires-clause-room
put_in-requires-clause-room c =
    let w = c.requires.way in
    let b = (goal.at.put_in-requires-clause-room c).After-leaf_k-leaf in
    subst (λ (l : ℕ). length (symbols_at c.args.image.now.bytes l c.node_at_end-node.result) < 2 * l) (leaf_is b)
    (subst (λ (n : ℕ). length (symbols_at c.args.image.now.bytes (leaf_k c.args.image.now.bytes) n) < 2 * leaf_k c.args.image.now.bytes)
    (sym (c.node_at_end-node.ensures.node w.ends.step w.ends.above w.ends.way_is)) (c.requires.room w.ends.step w.ends.above w.ends.way_is))

pub put_in-requires-clause-few : goal.put_in-requires-clause-few
put_in-requires-clause-few c =
    omega (arith, leaf_is (goal.at.put_in-requires-clause-few c).After-leaf_k-leaf, c.requires.entry.group.leaf_few)

-- its entries then
abbrev filled : After-put_in → List Entry
filled c = insert (symbols_at c.args.image.now.bytes (leaf_k c.args.image.now.bytes) c.node_at_end-node.result) c.name_place-k.result (entry_from c.args.symbol)

written : (c : After-put_in) → c.leaf_k-leaf.result ≡ leaf_k c.args.image.now.bytes
    → IsSymbolsRewritten c.args.image.now c.put_in.new.image (leaf_k c.args.image.now.bytes) c.node_at_end-node.result (filled c)
written c is =
    subst (λ (l : ℕ). IsSymbolsRewritten c.args.image.now c.put_in.new.image l c.node_at_end-node.result
    (insert (symbols_at c.args.image.now.bytes l c.node_at_end-node.result) c.name_place-k.result (entry_from c.args.symbol))) is c.put_in.ensures

pub returns-clause-put : goal.returns-clause-put
returns-clause-put c =
    let b = (goal.at.returns-clause-put c).After-leaf_k-leaf in
    put_all c.args.image.now c.put_in.new.image c.args.table c.node_at_end-node.result c.name_place-k.result (entry_from c.args.symbol)
    (written (goal.at.returns-clause-put c).After-put_in (sym (leaf_is b))) c.name_place-k.ensures c.args.way.now c.requires.way c.requires.entry.named c.requires.entry.known
    c.node_at_end-node.ensures.node

pub returns-clause-segment : goal.returns-clause-segment
returns-clause-segment c =
    let e = c.requires.entry in
    let b = (goal.at.returns-clause-segment c).After-leaf_k-leaf in
    let d = (goal.at.returns-clause-segment c).After-put_in in
    heap_set c.args.image.now c.args.table e.links (offsets_of (entry_from c.args.symbol) ++ e.spare) e.blocks e.group c.node_at_end-node.result
    c.node_at_end-node.ensures.one c.put_in.new.image (filled d) (written d (sym (leaf_is b)))

pub returns-clause-exact : goal.returns-clause-exact
returns-clause-exact c =
    let e = c.requires.entry in
    let b = (goal.at.returns-clause-exact c).After-leaf_k-leaf in
    entry_filled_exact c.args.image.now c.put_in.new.image c.args.table c.node_at_end-node.result c.name_place-k.result (entry_from c.args.symbol)
    (written (goal.at.returns-clause-exact c).After-put_in (sym (leaf_is b))) c.name_place-k.ensures c.args.way.now c.requires.way e.named e.links e.spare e.blocks e.group
    c.node_at_end-node.ensures.node
