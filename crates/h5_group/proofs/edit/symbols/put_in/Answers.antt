use Rattle.std.proofs.Common.{List, ap, ◌∙◌, arith}
use Rattle.std.specs.List.{insert}
use Rattle.std.proofs.lemmas.List.Edits.{length-insert}
use Rattle.h5_model.specs.Format.Symbols.{Entry, entries_of, symbols_at}
use Rattle.h5_snod.specs.Written.{entry_from}
use Rattle.h5_group.proofs.SymbolEdits.{IsLent, is_lent, lent_rewritten}
use Rattle.h5_group.proofs.edit.symbols.put_in.Goals as goal
use Rattle.h5_group.proofs.edit.symbols.put_in.Goals.{After-part_at_mut-node}

-- what is lent
lent : (c : After-part_at_mut-node) → IsLent c.args.image.now c.args.leaf c.args.at c.part_at_mut-node.result.now
lent c =
    is_lent c.args.image.now c.args.leaf c.args.at c.from.result c.from.ensures c.requires.inside c.requires.form c.part_at_mut-node.result.now c.part_at_mut-node.ensures.value
    c.part_at_mut-node.ensures.size

pub insert_at-requires-clause-place : goal.insert_at-requires-clause-place
insert_at-requires-clause-place c =
    let l = lent (goal.at.insert_at-requires-clause-place c).After-part_at_mut-node in
    omega (arith, l.count, c.requires.place)

pub insert_at-requires-clause-room : goal.insert_at-requires-clause-room
insert_at-requires-clause-room c =
    let l = lent (goal.at.insert_at-requires-clause-room c).After-part_at_mut-node in
    omega (arith, l.count, l.long, c.requires.room)

pub insert_at-requires-clause-small : goal.insert_at-requires-clause-small
insert_at-requires-clause-small c =
    let l = lent (goal.at.insert_at-requires-clause-small c).After-part_at_mut-node in
    omega (arith, l.count, c.requires.room, c.requires.few)

pub returns : goal.returns
returns c =
    let l = lent (goal.at.returns c).After-part_at_mut-node in
    let more = length-insert (symbols_at c.args.image.now.bytes c.args.leaf c.args.at) c.args.j (entry_from c.args.symbol) c.requires.place in
    lent_rewritten c.args.image.now c.args.leaf c.args.at c.part_at_mut-node.result.now l c.insert_at.new.node
    (λ (es : List Entry). insert es c.args.j (entry_from c.args.symbol)) c.insert_at.ensures.long
    (c.insert_at.ensures.entries ∙ ap (λ (e : Entry). insert (entries_of c.part_at_mut-node.result.now) c.args.j e) c.write_entry.ensures.reads)
    c.insert_at.ensures.head (omega (arith, more, c.requires.room))
