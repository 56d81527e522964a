use Rattle.std.proofs.Common.{List, arith}
use Rattle.std.specs.List.{remove}
use Rattle.std.proofs.lemmas.List.Edits.{length-remove}
use Rattle.h5_model.specs.Format.Symbols.{Entry, symbols_at}
use Rattle.h5_group.proofs.SymbolEdits.{IsLent, is_lent, lent_rewritten}
use Rattle.h5_group.proofs.edit.symbols.take_at.Goals as goal
use Rattle.h5_group.proofs.edit.symbols.take_at.Goals.{After-part_at_mut-node}

-- what is lent
lent : (c : After-part_at_mut-node) → IsLent c.args.image.now c.args.leaf c.args.at c.part_at_mut-node.result.now
lent c =
    is_lent c.args.image.now c.args.leaf c.args.at c.from.result c.from.ensures c.requires.inside c.requires.form c.part_at_mut-node.result.now c.part_at_mut-node.ensures.value
    c.part_at_mut-node.ensures.size

pub remove_at-requires-clause-place : goal.remove_at-requires-clause-place
remove_at-requires-clause-place c =
    let l = lent (goal.at.remove_at-requires-clause-place c).After-part_at_mut-node in
    omega (arith, l.count, c.requires.place)

pub remove_at-requires-clause-room : goal.remove_at-requires-clause-room
remove_at-requires-clause-room c =
    let l = lent (goal.at.remove_at-requires-clause-room c).After-part_at_mut-node in
    omega (arith, l.roomy, l.long)

pub returns : goal.returns
returns c =
    let l = lent (goal.at.returns c).After-part_at_mut-node in
    let less = length-remove (symbols_at c.args.image.now.bytes c.args.leaf c.args.at) c.args.k c.requires.place in
    lent_rewritten c.args.image.now c.args.leaf c.args.at c.part_at_mut-node.result.now l c.remove_at.new.node
    (λ (es : List Entry). remove es c.args.k) c.remove_at.ensures.long c.remove_at.ensures.entries c.remove_at.ensures.head (omega (arith, less, l.count, l.roomy))
