use Rattle.std.proofs.Common.{◌∷◌}
use Rattle.h5_heap.proofs.TakenLaws.{contains_head}
use Rattle.h5_group.proofs.EditSteps.{moved_then}
use Rattle.h5_group.proofs.ExactTrees.{texts_keys_kept}
use Rattle.h5_group.proofs.Freed.{released_from}
use Rattle.h5_group.proofs.KeptWays.{ways_then}
use Rattle.h5_group.proofs.edit.take.free_named.Goals as goal

pub free_text-requires : goal.free_text-requires
free_text-requires c =
    let (links, spare, blocks, g) = c.requires.group in
    let r = c.retire_name.ensures.retired links (c.args.offset ∷ spare) blocks g (contains_head c.args.offset spare) in
    record { group = (links, spare, r.0.blocks, r.0.group, r.1) }

pub returns-clause-freed : goal.returns-clause-freed
returns-clause-freed c links spare blocks g =
    let r = c.retire_name.ensures.retired links (c.args.offset ∷ spare) blocks g (contains_head c.args.offset spare) in
    moved_then c.args.image.now c.retire_name.new.image c.free_text.new.image c.args.table blocks links links (c.args.offset ∷ spare) spare r.0
    (c.free_text.ensures.freed links spare r.0.blocks r.0.group r.1)

pub returns-clause-released : goal.returns-clause-released
returns-clause-released c =
    released_from c.args.image.now.bytes c.retire_name.new.image.bytes c.free_text.new.image.bytes c.args.table.heap c.args.offset c.retire_name.ensures.header c.retire_name.ensures.segment
    c.free_text.ensures.released

pub returns-clause-exact : goal.returns-clause-exact
returns-clause-exact c = λ but.
    let (links, spare, blocks, g) = c.requires.group in
    let r = c.retire_name.ensures.retired links (c.args.offset ∷ spare) blocks g (contains_head c.args.offset spare) in
    let m = c.free_text.ensures.freed links spare r.0.blocks r.0.group r.1 in
    texts_keys_kept c.retire_name.new.image c.free_text.new.image c.args.table links (c.args.offset ∷ spare) r.0.blocks r.0.group m.k
    (c.free_text.ensures.nodes links spare r.0.blocks r.0.group r.1) c.free_text.ensures.ways.entries (λ key. ⊥) (c.retire_name.ensures.exact but)

pub returns-clause-ways : goal.returns-clause-ways
returns-clause-ways c = ways_then c.args.image.now c.retire_name.new.image c.free_text.new.image c.args.table c.retire_name.ensures.ways c.free_text.ensures.ways
