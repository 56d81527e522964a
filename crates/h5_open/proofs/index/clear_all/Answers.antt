use Rattle.std.proofs.Common.{◌≡◌, ℕ, ◌<◌, List, Option, Some, length, get_or}
use Rattle.std.specs.Prelude.{slice_get}
use Rattle.std.specs.List.{Contains}
use Rattle.std.proofs.lemmas.List.Elements.{Contains-get_or}
use Rattle.std.proofs.lemmas.Option.{slice_get-get_or}
use Rattle.h5_open.specs.declared.opened.object.OpenedObject.{OpenedObject}
use Rattle.h5_open.proofs.SlotsCleared.{all_cleared, next_there, none_cleared, one_cleared}
use Rattle.h5_open.proofs.index.clear_all.Goals as goal

-- the object whose turn it is
its_object : (slots : List (Option OpenedObject)) (gone : List ℕ) (i : ℕ) → ((n : ℕ) → Contains gone n → (o : OpenedObject) × (slice_get slots n ≡ Some (Some o))) → i < length gone
    → (o : OpenedObject) × (slice_get slots (get_or gone i 0) ≡ Some (Some o))
its_object slots gone i there low = there (get_or gone i 0) (Contains-get_or gone i 0 low)

pub loop-number-init : goal.loop-number-init
loop-number-init c = none_cleared c.args.index.now.objects.items c.args.gone.now c.args.index.now.numbers c.requires.index c.requires.own

pub clear-requires : goal.clear-requires
clear-requires c =
    let slots = c.args.index.now.objects.items in
    let gone = c.args.gone.now in
    let i = c.loop-number.number-index in
    let its = its_object slots gone i c.requires.there c.loop-number-test.true in
    record {
      there = (
        its.0,
        next_there slots gone c.requires.once c.loop-number.index.objects.items c.loop-number.index.numbers i (get_or gone i 0) its.0
            (slice_get-get_or gone i 0 c.loop-number-test.true) its.1 c.loop-number.invariant,
      );
    }

pub loop-number-preserved : goal.loop-number-preserved
loop-number-preserved c =
    let slots = c.args.index.now.objects.items in
    let gone = c.args.gone.now in
    let i = c.loop-number.number-index in
    let its = its_object slots gone i c.requires.there c.loop-number-test.true in
    let there = next_there slots gone c.requires.once c.loop-number.index.objects.items c.loop-number.index.numbers i (get_or gone i 0) its.0
    (slice_get-get_or gone i 0 c.loop-number-test.true) its.1 c.loop-number.invariant in
    one_cleared slots gone c.loop-number.index.objects.items c.clear.new.index.objects.items c.loop-number.index.numbers c.clear.new.index.numbers i (get_or gone i 0) its.0
    (slice_get-get_or gone i 0 c.loop-number-test.true) there c.loop-number.invariant c.clear.ensures.slots (c.clear.ensures.numbers its.0 there).0

pub returns-clause-slots : goal.returns-clause-slots
returns-clause-slots c =
    all_cleared c.args.index.now.objects.items c.args.gone.now c.loop-number.index.objects.items c.loop-number.index.numbers c.loop-number.number-index c.loop-number-test.false
    c.loop-number.invariant

pub returns-clause-index : goal.returns-clause-index
returns-clause-index c = c.loop-number.invariant.index
