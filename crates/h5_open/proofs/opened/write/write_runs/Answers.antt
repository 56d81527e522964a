use Rattle.std.proofs.Common.{◌≡◌, Some, sym, ◌∙◌, arith}
use Rattle.std.specs.Prelude.{slice_get}
use Rattle.std.proofs.lemmas.Option.{slice_get_within}
use Rattle.h5_open.specs.Opened.Sound.{IsSound}
use Rattle.h5_open.specs.Opened.State.{opened_state}
use Rattle.h5_open.specs.WrittenRun.{IsRunReady}
use Rattle.h5_open.proofs.ArrayOpened.{array_content, header_within, kept_array, slot_there}
use Rattle.h5_open.proofs.EachRun.{all_written, none_first, one_more, room, run_stored}
use Rattle.h5_open.proofs.OpenedLaws.LentSlots.{lent_some, slot_lent, slot_read}
use Rattle.h5_open.proofs.OpenedLaws.Sounds.{sound}
use Rattle.h5_open.proofs.opened.write.write_runs.Goals as goal
use Rattle.h5_open.proofs.opened.write.write_runs.Goals.{After-split_at-first, After-unwrap-object}

-- ---- the array's slot

pub index-requires : goal.index-requires
index-requires c =
    let slots = c.args.index.now.objects.items in
    let there = slot_there c.args.image.now.bytes slots c.args.number c.requires.run.0 c.requires.run.1.array in
    omega (arith, slice_get_within slots c.args.number (Some there.0) there.1)

pub unwrap-object-requires : goal.unwrap-object-requires
unwrap-object-requires c =
    let slots = c.args.index.now.objects.items in
    let there = slot_there c.args.image.now.bytes slots c.args.number c.requires.run.0 c.requires.run.1.array in
    lent_some c.as_ref.result there.0 (c.as_ref.ensures.value ∙ slot_read slots c.args.number there.0 there.1 c.index.result.now c.index.ensures)

stands : (c : After-unwrap-object) → slice_get c.args.index.now.objects.items c.args.number ≡ Some (Some c.unwrap-object.result.now)
stands c =
    let slots = c.args.index.now.objects.items in
    let there = slot_there c.args.image.now.bytes slots c.args.number c.requires.run.0 c.requires.run.1.array in
    slot_lent slots c.args.number there.0 there.1 c.index.result.now c.index.ensures c.as_ref.result c.as_ref.ensures.value c.unwrap-object.result c.unwrap-object.ensures

-- ---- before the first run

pub new-requires : goal.new-requires
new-requires c =
    header_within c.args.image.now c.args.index.now.objects.items c.args.index.now.numbers c.requires.opened c.args.number c.unwrap-object.result.now (stands (goal.at.new-requires c).After-unwrap-object)

pub new-places-requires : goal.new-places-requires
new-places-requires c =
    let image = c.args.image.now in
    let slots = c.args.index.now.objects.items in
    let numbers = c.args.index.now.numbers in
    let object = c.unwrap-object.result.now in
    let opened = c.requires.opened in
    let at = stands (goal.at.new-places-requires c).After-unwrap-object in
    let run = c.requires.run in
    let content = array_content image slots numbers opened c.args.number object at (kept_array image slots numbers opened c.args.number object at run.0 run.1.array).0 in
    rw c.new.ensures (record {
      dataset = content.0.kinds;
      array = content.0.array;
      read = content.1;
    })

first_sound : (c : After-unwrap-object) → IsSound (opened_state c.args.image.now c.args.index.now.objects.items)
first_sound c = sound c.args.image.now c.args.index.now.objects.items c.args.index.now.numbers c.requires.opened

pub loop-run-init : goal.loop-run-init
loop-run-init c = record {
  d = c.requires.run.0;
  are = c.requires.run.1;
  first = none_first (opened_state c.args.image.now c.args.index.now.objects.items) c.args.number c.args.runs c.args.values.now c.requires.run.0 c.requires.run.1
      (first_sound (goal.at.loop-run-init c).After-unwrap-object) _ (sym c.into_iter-run-iterator.ensures.into_iter_gives) _ c.lend-left.ensures;
  opened = c.requires.opened;
  its = record { object = c.unwrap-object.result.now; kept = stands (goal.at.loop-run-init c).After-unwrap-object; stand = rw c.new.ensures at c.new-places.ensures };
}

-- ---- one run

pub split_at-first-requires : goal.split_at-first-requires
split_at-first-requires c =
    let so = c.loop-run.invariant in
    let slots = c.args.index.now.objects.items in
    room (opened_state c.args.image.now slots) c.args.number c.args.runs c.args.values.now so.d so.are c.loop-run.run-iterator _ c.in-Some.run' c.loop-run.left
    (opened_state c.loop-run.image slots) so.first c.in-Some.ensures.steps

ready : (c : After-split_at-first) → IsRunReady c.loop-run.image c.args.index.now.objects.items c.args.index.now.numbers c.args.number c.loop-run.places
    c.in-Some.run'.place c.split_at-first.result.0
ready c =
    let so = c.loop-run.invariant in
    let slots = c.args.index.now.objects.items in
    record {
      opened = so.opened;
      its = so.its;
      array = _;
      run = run_stored (opened_state c.args.image.now slots) c.args.number c.args.runs c.args.values.now so.d so.are c.loop-run.run-iterator _ c.in-Some.run' c.loop-run.left
          (opened_state c.loop-run.image slots) so.first c.in-Some.ensures.steps c.split_at-first.result.0 c.split_at-first.ensures.front;
    }

pub write_run-requires : goal.write_run-requires
write_run-requires c =
    let index = c.args.index.now in
    (index.objects.items, index.numbers, c.args.number, ready (goal.at.write_run-requires c).After-split_at-first)

pub loop-run-preserved : goal.loop-run-preserved
loop-run-preserved c =
    let so = c.loop-run.invariant in
    let index = c.args.index.now in
    let slots = index.objects.items in
    let made = c.write_run.ensures slots index.numbers c.args.number (ready (goal.at.loop-run-preserved c).After-split_at-first) in
    record {
      d = so.d;
      are = so.are;
      first = one_more (opened_state c.args.image.now slots) c.args.number c.args.runs c.args.values.now so.d so.are c.loop-run.run-iterator _ c.in-Some.run' c.loop-run.left
          (opened_state c.loop-run.image slots) so.first c.in-Some.ensures.steps c.split_at-first.result.0 c.split_at-first.ensures.front
          (first_sound (goal.at.loop-run-preserved c).After-unwrap-object) (opened_state c.write_run.new.image slots) made.written _ c.split_at-first.ensures.back;
      opened = made.opened;
      its = made.its;
    }

-- ---- all of them

pub returns-clause-opened : goal.returns-clause-opened
returns-clause-opened c = c.loop-run.invariant.opened

pub returns-clause-written : goal.returns-clause-written
returns-clause-written c =
    let so = c.loop-run.invariant in
    let slots = c.args.index.now.objects.items in
    all_written (opened_state c.args.image.now slots) c.args.number c.args.runs c.args.values.now so.d so.are c.loop-run.run-iterator c.loop-run.left
    (opened_state c.loop-run.image slots) so.first c.in-None.ensures.steps.0
