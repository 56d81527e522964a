use Rattle.std.proofs.Common.{ℕ, ◌++◌, ◌+◌, ◌*◌, ◌≡◌, length, sym, ap, ◌∙◌, arith}
use Rattle.h5_model.specs.Format.Nodes.{group_kind, node_length}
use Rattle.h5_model.specs.Format.Superblock.{leaf_k}
use Rattle.h5_model.proofs.KLaws.{same_internal, same_leaf}
use Rattle.h5_space.proofs.MovesLaws.{spends_then, spends_within}
use Rattle.h5_snod.specs.Written.{entry_from}
use Rattle.h5_group.specs.Edited.{HasGroupMoved, offsets_of}
use Rattle.h5_group.specs.Nodes.Trees.{kind_in}
use Rattle.h5_group.proofs.PutSteps.{below_room, entry_for_then, put_after, stays_for}
use Rattle.h5_group.proofs.edit.put.put_below.Goals as goal
use Rattle.h5_group.proofs.edit.put.put_below.Goals.{After-widen_for}

-- the group once keys gave way
widened : (c : After-widen_for) → HasGroupMoved c.args.image.now c.widen_for.new.image c.args.table c.requires.entry.blocks c.requires.entry.links
    (offsets_of (entry_from c.args.symbol) ++ c.requires.entry.spare)
widened c = stays_for c.args.image.now c.widen_for.new.image c.args.table (entry_from c.args.symbol) c.widen_for.ensures.group c.widen_for.ensures.segment c.requires.entry

leaf_same : (c : After-widen_for) → leaf_k c.widen_for.new.image.bytes ≡ leaf_k c.args.image.now.bytes
leaf_same c = same_leaf c.widen_for.new.image.bytes c.args.image.now.bytes (widened c).k

-- so many bytes as before are what nodes may take
rows : (c : After-widen_for) → (length c.args.way.now + 1) * node_length (kind_in c.widen_for.new.image.bytes) ≡ (length c.args.way.now + 1) * node_length (kind_in c.args.image.now.bytes)
rows c = ap (λ (k : ℕ). (length c.args.way.now + 1) * node_length (group_kind k)) (same_internal c.widen_for.new.image.bytes c.args.image.now.bytes (widened c).k)

pub is_full-requires-clause-group : goal.is_full-requires-clause-group
is_full-requires-clause-group c =
    let m = widened (goal.at.is_full-requires-clause-group c).After-widen_for in
    (offsets_of (entry_from c.args.symbol) ++ c.requires.entry.spare, (c.requires.entry.links, m.blocks, m.group))

pub split_entry-requires-clause-entry : goal.split_entry-requires-clause-entry
split_entry-requires-clause-entry c =
    entry_for_then c.args.image.now c.widen_for.new.image c.args.table (entry_from c.args.symbol) c.widen_for.ensures.group c.widen_for.ensures.segment c.requires.entry

pub split_entry-requires-clause-full : goal.split_entry-requires-clause-full
split_entry-requires-clause-full c = λ step above is. (c.is_full.ensures step above is).0 c.if-is_full.true

pub split_entry-requires-clause-low : goal.split_entry-requires-clause-low
split_entry-requires-clause-low c = λ full.
    let e = c.requires.way.ends in
    let long = (c.is_full.ensures e.step e.above e.way_is).0 c.if-is_full.true in
    let before = (c.widen_for.ensures.below e.step e.above e.way_is).1 in
    c.requires.low e.step e.above e.way_is (c.widen_for.ensures.full.0 full) (ap length (sym before) ∙ long ∙ ap (λ (k : ℕ). 2 * k) (leaf_same (goal.at.split_entry-requires-clause-low c).After-widen_for))

pub split_entry-requires-clause-bytes : goal.split_entry-requires-clause-bytes
split_entry-requires-clause-bytes c =
    let here = (goal.at.split_entry-requires-clause-bytes c).After-widen_for in
    let left = c.widen_for.ensures.spends.bytes_left in
    omega (arith, left, rows here, leaf_same here, c.requires.bytes)

pub split_entry-requires-clause-short : goal.split_entry-requires-clause-short
split_entry-requires-clause-short c =
    let here = (goal.at.split_entry-requires-clause-short c).After-widen_for in
    let grown = c.widen_for.ensures.spends.grown in
    omega (arith, grown, rows here, leaf_same here, c.requires.small)

pub put_entry-requires-clause-entry : goal.put_entry-requires-clause-entry
put_entry-requires-clause-entry c =
    entry_for_then c.args.image.now c.widen_for.new.image c.args.table (entry_from c.args.symbol) c.widen_for.ensures.group c.widen_for.ensures.segment c.requires.entry

pub put_entry-requires-clause-room : goal.put_entry-requires-clause-room
put_entry-requires-clause-room c = λ step above is.
    let w = c.widen_for.ensures.way in
    let m = widened (goal.at.put_entry-requires-clause-room c).After-widen_for in
    below_room c.widen_for.new.image c.args.table c.requires.entry.links (offsets_of (entry_from c.args.symbol) ++ c.requires.entry.spare) m.blocks m.group
    w.level c.args.way.now w.owned w.symbol_nodes w.number w.ends step above is c.is_full.result (c.is_full.ensures step above is) c.if-is_full.false

pub returns-then-is_full-clause-put : goal.returns-then-is_full-clause-put
returns-then-is_full-clause-put c =
    put_after c.args.image.now c.widen_for.new.image c.args.table (entry_from c.args.symbol) c.widen_for.ensures.group c.widen_for.ensures.segment c.split_entry.new.image
    c.split_entry.ensures.put

pub returns-then-is_full-clause-spends : goal.returns-then-is_full-clause-spends
returns-then-is_full-clause-spends c =
    let here = (goal.at.returns-then-is_full-clause-spends c).After-widen_for in
    spends_within c.args.image.now c.split_entry.new.image _ _ _ _ (omega (arith, rows here, leaf_same here)) (omega arith)
    (spends_then c.args.image.now c.widen_for.new.image c.split_entry.new.image _ _ _ _ c.widen_for.ensures.spends c.split_entry.ensures.spends)

pub returns-else-is_full-clause-put : goal.returns-else-is_full-clause-put
returns-else-is_full-clause-put c =
    put_after c.args.image.now c.widen_for.new.image c.args.table (entry_from c.args.symbol) c.widen_for.ensures.group c.widen_for.ensures.segment c.put_entry.new.image
    c.put_entry.ensures.put
