use Rattle.std.proofs.Common.{◌+◌, take, drop, get_or, arith}
use Rattle.std.specs.List.{flat_map}
use Rattle.std.proofs.lemmas.Result.{err_from_is_err_and}
use Rattle.h5_heap.specs.Kept.{segment_in}
use Rattle.h5_group.specs.Nodes.Stands.{entries_at}
use Rattle.h5_group.proofs.TextProofs.ListLaws.{flat_around}
use Rattle.h5_group.proofs.TextProofs.EntryLaws.{refused_between}
use Rattle.h5_group.proofs.texts.names.check_names.Goals as goal

pub returns-in_err-check_entries-clause-refused : goal.returns-in_err-check_entries-clause-refused
returns-in_err-check_entries-clause-refused c =
    let image = c.args.image.now.bytes in
    let nodes = c.args.symbol_nodes.now in
    let i = c.loop-at.at-index in
    let p = err_from_is_err_and c.from_residual.result c.from_residual.ensures.1 in
    rw (p.1, p.2) (refused_between (segment_in image c.args.heap.now) (flat_map (entries_at image) nodes) (flat_map (entries_at image) (take i nodes))
    (entries_at image (get_or nodes i 0)) (flat_map (entries_at image) (drop (i + 1) nodes)) _ (flat_around (entries_at image) nodes i 0 (omega arith))
    c.loop-at.invariant c.in_err-check_entries.ensures.refused)
