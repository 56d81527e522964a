use Rattle.std.proofs.Common.{◌<◌, List, length, refl, subst, arith}
use Rattle.std.specs.List.{flat_map}
use Rattle.h5_heap.specs.Kept.{segment_in}
use Rattle.h5_model.specs.Format.Symbols.{Entry}
use Rattle.h5_group.specs.Texts.Linked.{linked_by, IsEntrySound, AreEntriesSound}
use Rattle.h5_group.specs.Texts.Taken.{TakesLinked, AreLinkedRefused}
use Rattle.h5_group.proofs.TextProofs.EntryLaws.{blank, linked_is, sound_more, sound_one}
use Rattle.h5_group.proofs.TextProofs.LinkedLaws.{segment_same, taken_step, refused_step}
use Rattle.h5_group.proofs.texts.linked.take_entries.Goals as goal

pub returns-then-not-take_texts-clause-refused : goal.returns-then-not-take_texts-clause-refused
returns-then-not-take_texts-clause-refused c = λ none sound.
    let image = c.args.image.now.bytes in
    let es = c.symbol_node-node.result in
    let low : c.loop-k.k < length es = omega arith in
    let is = segment_same image c.args.heap.now c.loop-k.heap (c.loop-k.invariant).0.same in
    let all : AreEntriesSound (segment_in image c.loop-k.heap) es = rw (is, c.symbol_node-node.ensures) sound in
    let here = sound_one es c.loop-k.k low c.entry.result c.entry.ensures (segment_in image c.loop-k.heap) all in
    subst (λ (xs : List Entry). AreLinkedRefused image c.args.heap.now (flat_map linked_by xs)) c.symbol_node-node.ensures
    (refused_step linked_by es c.loop-k.k blank low image c.args.heap.now c.loop-k.heap (c.loop-k.invariant).0
    (subst (AreLinkedRefused image c.loop-k.heap) (linked_is es c.loop-k.k low c.entry.result c.entry.ensures) (c.if-not-take_texts.ensures.refused refl here)))

pub loop-k-preserved : goal.loop-k-preserved
loop-k-preserved c =
    let image = c.args.image.now.bytes in
    let es = c.symbol_node-node.result in
    let low : c.loop-k.k < length es = omega arith in
    let is = segment_same image c.args.heap.now c.loop-k.heap (c.loop-k.invariant).0.same in
    let here : IsEntrySound (segment_in image c.args.heap.now) c.entry.result = rw is at (c.if-not-take_texts.ensures.sound refl) in (
      taken_step linked_by es c.loop-k.k blank low image c.args.heap.now c.loop-k.heap (c.loop-k.invariant).0 c.take_texts.new.heap
          (subst (TakesLinked image c.loop-k.heap c.take_texts.new.heap) (linked_is es c.loop-k.k low c.entry.result c.entry.ensures)
          (c.if-not-take_texts.ensures.takes refl)),
      sound_more es c.loop-k.k low c.entry.result c.entry.ensures (segment_in image c.args.heap.now) (c.loop-k.invariant).1 here,
    )
