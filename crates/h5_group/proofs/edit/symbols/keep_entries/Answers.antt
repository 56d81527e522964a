use Rattle.std.proofs.Common.{take, arith}
use Rattle.std.proofs.lemmas.List.{length-take}
use Rattle.h5_model.specs.Format.Symbols.{symbols_at}
use Rattle.h5_group.proofs.SymbolEdits.{IsLent, is_lent, lent_rewritten}
use Rattle.h5_group.proofs.edit.symbols.keep_entries.Goals as goal
use Rattle.h5_group.proofs.edit.symbols.keep_entries.Goals.{After-part_at_mut-node}

-- what is lent
lent : (c : After-part_at_mut-node) → IsLent c.args.image.now c.args.leaf c.args.at c.part_at_mut-node.result.now
lent c =
    is_lent c.args.image.now c.args.leaf c.args.at c.from.result c.from.ensures c.requires.inside c.requires.form c.part_at_mut-node.result.now c.part_at_mut-node.ensures.value
    c.part_at_mut-node.ensures.size

pub keep_front-requires-clause-place : goal.keep_front-requires-clause-place
keep_front-requires-clause-place c =
    let l = lent (goal.at.keep_front-requires-clause-place c).After-part_at_mut-node in
    omega (arith, l.count, c.requires.place)

pub keep_front-requires-clause-small : goal.keep_front-requires-clause-small
keep_front-requires-clause-small c =
    let l = lent (goal.at.keep_front-requires-clause-small c).After-part_at_mut-node in
    omega (arith, l.roomy, c.requires.few)

pub returns : goal.returns
returns c =
    let l = lent (goal.at.returns c).After-part_at_mut-node in
    let less = length-take c.args.n (symbols_at c.args.image.now.bytes c.args.leaf c.args.at) in
    lent_rewritten c.args.image.now c.args.leaf c.args.at c.part_at_mut-node.result.now l c.keep_front.new.node
    (take c.args.n) c.keep_front.ensures.long c.keep_front.ensures.entries c.keep_front.ensures.head (omega (arith, less, l.count, l.roomy))
