use Rattle.std.proofs.Common.{◌<◌, List, length, subst, arith}
use Rattle.std.proofs.lemmas.Result.{err_from_is_err_and}
use Rattle.h5_model.specs.Format.Symbols.{Entry}
use Rattle.h5_model.specs.declared.open_fault.Cause.{Cause}
use Rattle.h5_heap.specs.Kept.{segment_in}
use Rattle.h5_group.specs.Texts.Linked.{AreEntriesRefused}
use Rattle.h5_group.proofs.TextProofs.EntryLaws.{sound_more, entry_refused}
use Rattle.h5_group.proofs.texts.names.check_entries.Goals as goal

pub returns-in_err-check_entry-clause-refused : goal.returns-in_err-check_entry-clause-refused
returns-in_err-check_entry-clause-refused c =
    let segment = segment_in c.args.image.now.bytes c.args.heap.now in
    let es = c.symbol_node-node.result in
    let low : c.loop-k.k < length es = omega arith in
    let cause : Cause = c.in_err-check_entry.field-0.0.cause in
    let p = err_from_is_err_and c.from_residual.result c.from_residual.ensures.1 in
    rw (p.1, p.2) (subst (λ (xs : List Entry). AreEntriesRefused segment xs cause) c.symbol_node-node.ensures
    (entry_refused es c.loop-k.k low c.entry.result c.entry.ensures segment cause c.loop-k.invariant c.in_err-check_entry.ensures.refused))

pub loop-k-preserved : goal.loop-k-preserved
loop-k-preserved c =
    let low : c.loop-k.k < length c.symbol_node-node.result = omega arith in
    sound_more c.symbol_node-node.result c.loop-k.k low c.entry.result c.entry.ensures (segment_in c.args.image.now.bytes c.args.heap.now)
    c.loop-k.invariant c.in_ok-check_entry.ensures.sound
