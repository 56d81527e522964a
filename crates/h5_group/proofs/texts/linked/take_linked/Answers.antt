use Rattle.std.proofs.Common.{◌+◌, ◌<◌, take, drop, get_or, length, refl, arith}
use Rattle.std.specs.List.{flat_map}
use Rattle.h5_heap.specs.Kept.{segment_in}
use Rattle.h5_group.specs.Nodes.Stands.{entries_at}
use Rattle.h5_group.specs.Texts.Linked.{linked_at, AreEntriesSound}
use Rattle.h5_group.proofs.TextProofs.EntryLaws.{sound_between, sound_both}
use Rattle.h5_group.proofs.TextProofs.LinkedLaws.{segment_same, taken_step, refused_step}
use Rattle.h5_group.proofs.TextProofs.ListLaws.{flat_step, flat_around}
use Rattle.h5_group.proofs.texts.linked.take_linked.Goals as goal

pub returns-then-not-take_entries-clause-refused : goal.returns-then-not-take_entries-clause-refused
returns-then-not-take_entries-clause-refused c = λ none sound.
    let image = c.args.image.now.bytes in
    let nodes = c.args.symbol_nodes.now in
    let i = c.loop-at.at-index in
    let low : i < length nodes = omega arith in
    let is = segment_same image c.args.heap.now c.loop-at.heap (c.loop-at.invariant).0.same in
    let all : AreEntriesSound (segment_in image c.loop-at.heap) (flat_map (entries_at image) nodes) = rw is sound in
    let here = sound_between (segment_in image c.loop-at.heap) (flat_map (entries_at image) nodes) (flat_map (entries_at image) (take i nodes))
    (entries_at image (get_or nodes i 0)) (flat_map (entries_at image) (drop (i + 1) nodes)) (flat_around (entries_at image) nodes i 0 low) all in
    refused_step (linked_at image) nodes i 0 low image c.args.heap.now c.loop-at.heap (c.loop-at.invariant).0 (c.if-not-take_entries.ensures.refused refl here)

pub loop-at-preserved : goal.loop-at-preserved
loop-at-preserved c =
    let image = c.args.image.now.bytes in
    let nodes = c.args.symbol_nodes.now in
    let i = c.loop-at.at-index in
    let low : i < length nodes = omega arith in
    let is = segment_same image c.args.heap.now c.loop-at.heap (c.loop-at.invariant).0.same in
    let here : AreEntriesSound (segment_in image c.args.heap.now) (entries_at image (get_or nodes i 0)) = rw is at (c.if-not-take_entries.ensures.sound refl) in (
      taken_step (linked_at image) nodes i 0 low image c.args.heap.now c.loop-at.heap (c.loop-at.invariant).0 c.take_entries.new.heap
          (c.if-not-take_entries.ensures.takes refl),
      sound_both (segment_in image c.args.heap.now) (flat_map (entries_at image) (take (i + 1) nodes)) (flat_map (entries_at image) (take i nodes))
          (entries_at image (get_or nodes i 0)) (flat_step (entries_at image) nodes i 0 low) (c.loop-at.invariant).1 here,
    )
