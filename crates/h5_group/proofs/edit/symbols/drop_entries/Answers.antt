use Rattle.std.proofs.Common.{drop, arith}
use Rattle.std.proofs.lemmas.List.{length-drop}
use Rattle.h5_model.specs.Format.Symbols.{symbols_at}
use Rattle.h5_group.proofs.SymbolEdits.{IsLent, is_lent, lent_rewritten}
use Rattle.h5_group.proofs.edit.symbols.drop_entries.Goals as goal
use Rattle.h5_group.proofs.edit.symbols.drop_entries.Goals.{After-part_at_mut-node}

-- what is lent
lent : (c : After-part_at_mut-node) → IsLent c.args.image.now c.args.leaf c.args.at c.part_at_mut-node.result.now
lent c =
    is_lent c.args.image.now c.args.leaf c.args.at c.from.result c.from.ensures c.requires.inside c.requires.form c.part_at_mut-node.result.now c.part_at_mut-node.ensures.value
    c.part_at_mut-node.ensures.size

pub drop_front-requires-clause-place : goal.drop_front-requires-clause-place
drop_front-requires-clause-place c =
    let l = lent (goal.at.drop_front-requires-clause-place c).After-part_at_mut-node in
    omega (arith, l.count, c.requires.place)

pub drop_front-requires-clause-room : goal.drop_front-requires-clause-room
drop_front-requires-clause-room c =
    let l = lent (goal.at.drop_front-requires-clause-room c).After-part_at_mut-node in
    omega (arith, l.roomy, l.long)

pub returns : goal.returns
returns c =
    let l = lent (goal.at.returns c).After-part_at_mut-node in
    let less = length-drop c.args.n (symbols_at c.args.image.now.bytes c.args.leaf c.args.at) in
    lent_rewritten c.args.image.now c.args.leaf c.args.at c.part_at_mut-node.result.now l c.drop_front.new.node
    (drop c.args.n) c.drop_front.ensures.long c.drop_front.ensures.entries c.drop_front.ensures.head (omega (arith, less, l.count, l.roomy))
