use Rattle.std.proofs.Common.{[], refl, ap}
use Rattle.std.specs.List.{flat_map}
use Rattle.std.proofs.lemmas.Result.{err_from_is_err_and, on_ok_weaker, MatchResult-weaker}
use Rattle.h5_model.specs.declared.open_fault.OpenFault.{OpenFault}
use Rattle.h5_heap.specs.Kept.{segment_in}
use Rattle.h5_heap.specs.Spans.{HasTaken}
use Rattle.h5_btree.specs.Walk.Forms.{OfGroup}
use Rattle.h5_btree.proofs.WalkLaws.StandLaws.{nodes_stand}
use Rattle.h5_group.specs.Nodes.Stands.{entries_at}
use Rattle.h5_group.specs.Texts.Linked.{linked_at, AreEntriesSound, AreEntriesRefused}
use Rattle.h5_group.specs.Texts.Taken.{AreUnsound}
use Rattle.h5_group.proofs.NodeLaws.StandLaws.{symbols_stand}
use Rattle.h5_group.proofs.TextProofs.LinkedLaws.{segment_same}
use Rattle.h5_group.proofs.TextProofs.TextLaws.{names_refused, linked_refused, keys_refused, none_first, names_first, linked_first, keys_first, are_texts}
use Rattle.h5_group.proofs.texts.check.check_texts.Goals as goal
use Rattle.h5_group.proofs.texts.check.check_texts.Goals.{After-take_keys, In_err-check_names, In_ok-check_names}

pub take_names-requires-clause-there : goal.take_names-requires-clause-there
take_names-requires-clause-there c =
    rw c.deref.ensures.value (symbols_stand c.args.image.now.bytes c.args.table.tree c.args.tree.now.nodes.items c.args.tree.now.leaves.items c.requires.tree c.requires.inside)

pub check_names-requires-clause-there : goal.check_names-requires-clause-there
check_names-requires-clause-there c =
    rw c.deref-then-not-take_names.ensures.value
    (symbols_stand c.args.image.now.bytes c.args.table.tree c.args.tree.now.nodes.items c.args.tree.now.leaves.items c.requires.tree c.requires.inside)

pub take_keys-requires-clause-there : goal.take_keys-requires-clause-there
take_keys-requires-clause-there c =
    rw c.deref-2.ensures.value
    (nodes_stand c.args.image.now.bytes OfGroup c.args.table.tree c.args.tree.now.nodes.items c.args.tree.now.leaves.items c.requires.tree c.requires.inside)

pub returns-then-not-has_empty_name-clause-first : goal.returns-then-not-has_empty_name-clause-first
returns-then-not-has_empty_name-clause-first c =
    rw (ap (λ (fault : OpenFault). fault.cause) c.fault.ensures)
    (none_first c.args.image.now.bytes c.args.table c.args.heap.now c.args.tree.now.nodes.items c.args.tree.now.leaves.items c.requires.tree c.requires.heap
    (λ zero. let yes = c.has_empty_name.ensures.1 zero in let no = c.if-not-has_empty_name.true in cc))

-- ---- a name is refused

-- the names are looked at again over the heap in which some were taken
names_again : (c : In_err-check_names) → AreEntriesRefused (segment_in c.args.image.now.bytes c.args.heap.now)
    (flat_map (entries_at c.args.image.now.bytes) c.args.tree.now.leaves.items) c.in_err-check_names.field-0.0.cause
names_again c =
    let image = c.args.image.now.bytes in
    rw (c.deref-then-not-take_names.ensures.value, segment_same image c.args.heap.now c.take_names.new.heap c.take_names.ensures.same) at
    c.in_err-check_names.ensures.refused

pub returns-in_err-check_names-clause-refused : goal.returns-in_err-check_names-clause-refused
returns-in_err-check_names-clause-refused c =
    let p = err_from_is_err_and c.from_residual.result c.from_residual.ensures.1 in
    rw (p.1, p.2) (names_refused c.args.image.now.bytes c.args.table c.args.heap.now c.args.tree.now.nodes.items c.args.tree.now.leaves.items c.requires.tree c.requires.heap
    c.in_err-check_names.field-0.0.cause (names_again (goal.at.returns-in_err-check_names-clause-refused c).In_err-check_names))

pub returns-in_err-check_names-clause-first : goal.returns-in_err-check_names-clause-first
returns-in_err-check_names-clause-first c =
    let p = err_from_is_err_and c.from_residual.result c.from_residual.ensures.1 in
    rw (p.1, p.2) (names_first c.args.image.now.bytes c.args.table c.args.heap.now c.args.tree.now.nodes.items c.args.tree.now.leaves.items c.requires.tree c.requires.heap
    c.in_err-check_names.field-0.0.cause (c.has_empty_name.ensures.0 c.if-not-has_empty_name.false)
    (names_again (goal.at.returns-in_err-check_names-clause-first c).In_err-check_names))

-- ---- all names are sound, and their texts share a byte

sound_again : (c : In_ok-check_names) → AreEntriesSound (segment_in c.args.image.now.bytes c.args.heap.now)
    (flat_map (entries_at c.args.image.now.bytes) c.args.tree.now.leaves.items)
sound_again c =
    let image = c.args.image.now.bytes in
    rw (c.deref-then-not-take_names.ensures.value, segment_same image c.args.heap.now c.take_names.new.heap c.take_names.ensures.same) at
    c.in_ok-check_names.ensures.sound

pub returns-then-not-take_names-clause-refused : goal.returns-then-not-take_names-clause-refused
returns-then-not-take_names-clause-refused c =
    let image = c.args.image.now.bytes in
    let heap = c.args.heap.now in
    let sound = sound_again (goal.at.returns-then-not-take_names-clause-refused c).In_ok-check_names in
    let refused : AreEntriesSound (segment_in image heap) (flat_map (entries_at image) c.args.tree.now.leaves.items)
    → AreUnsound (segment_in image heap) heap.free (flat_map (linked_at image) c.args.tree.now.leaves.items)
    = rw c.deref.ensures.value at (c.if-not-take_names.ensures.refused refl) in
    rw (ap (λ (fault : OpenFault). fault.cause) c.fault-then-not-take_names.ensures)
    (linked_refused image c.args.table heap c.args.tree.now.nodes.items c.args.tree.now.leaves.items c.requires.tree c.requires.heap (refused sound))

pub returns-then-not-take_names-clause-first : goal.returns-then-not-take_names-clause-first
returns-then-not-take_names-clause-first c =
    let sound = sound_again (goal.at.returns-then-not-take_names-clause-first c).In_ok-check_names in
    rw (ap (λ (fault : OpenFault). fault.cause) c.fault-then-not-take_names.ensures)
    (linked_first c.args.image.now.bytes c.args.table c.args.heap.now c.args.tree.now.nodes.items c.args.tree.now.leaves.items c.requires.tree c.requires.heap sound)

-- ---- the texts that links name were taken

linked_taken : (c : After-take_keys) → HasTaken (segment_in c.args.image.now.bytes c.take_names.new.heap) c.take_names.new.heap
    (flat_map (linked_at c.args.image.now.bytes) c.args.tree.now.leaves.items) []
linked_taken c = rw c.deref.ensures.value at (c.if-not-take_names.ensures.taken refl)

linked_sound : (c : After-take_keys) → AreEntriesSound (segment_in c.args.image.now.bytes c.args.heap.now)
    (flat_map (entries_at c.args.image.now.bytes) c.args.tree.now.leaves.items)
linked_sound c = rw c.deref.ensures.value at (c.if-not-take_names.ensures.sound refl)

pub returns-clause-texts : goal.returns-clause-texts
returns-clause-texts c =
    let at = (goal.at.returns-clause-texts c).After-take_keys in
    on_ok_weaker c.take_keys.result (λ names. are_texts c.args.image.now.bytes c.args.table c.args.heap.now c.args.tree.now.nodes.items c.args.tree.now.leaves.items
    c.requires.tree c.requires.heap c.take_names.new.heap c.take_names.ensures.same (linked_taken at) c.take_keys.new.heap names (linked_sound at))
    (rw c.deref-2.ensures.value at c.take_keys.ensures.names)

pub returns-clause-refused : goal.returns-clause-refused
returns-clause-refused c =
    let at = (goal.at.returns-clause-refused c).After-take_keys in
    MatchResult-weaker c.take_keys.result (rw c.deref-2.ensures.value at c.take_keys.ensures.refused) (λ x t. t)
    (λ fault refused. keys_refused c.args.image.now.bytes c.args.table c.args.heap.now c.args.tree.now.nodes.items c.args.tree.now.leaves.items c.requires.tree c.requires.heap
    c.take_names.new.heap c.take_names.ensures.same (linked_taken at) fault.cause refused)

pub returns-clause-first : goal.returns-clause-first
returns-clause-first c =
    let at = (goal.at.returns-clause-first c).After-take_keys in
    MatchResult-weaker c.take_keys.result (rw c.deref-2.ensures.value at c.take_keys.ensures.refused) (λ x t. t)
    (λ fault refused. keys_first c.args.image.now.bytes c.args.table c.args.heap.now c.args.tree.now.nodes.items c.args.tree.now.leaves.items c.requires.tree c.requires.heap
    (linked_sound at) c.take_names.new.heap (linked_taken at) fault.cause refused)
