use Rattle.std.proofs.Common.{◌≡◌, ℕ, ◌+◌, ◌<◌, List, length, get_or, refl, sym, ap, ◌∙◌, subst, arith, take, Some}
use Rattle.std.proofs.lemmas.List.{take_all}
use Rattle.std.proofs.lemmas.Option.{slice_get-get_or, slice_get_read}
use Rattle.std.specs.Prelude.{slice_get}
use Rattle.std.specs.List.{sum_by}
use Rattle.h5_model.specs.declared.object_no.ObjectNo.{ObjectNo}
use Rattle.h5_model.specs.declared.link.Link.{Link}
use Rattle.h5_repack.specs.Objects.Objects.{IsFilled}
use Rattle.h5_repack.specs.Objects.Targets.{slot_links, targets, times}
use Rattle.h5_repack.proofs.ObjectLaws.Counting.{AreCountedTo, objects_more, objects_room}
use Rattle.h5_laws.proofs.Lists.{In, in_contains, refilled}
use Rattle.h5_repack.proofs.ObjectLaws.Trees.{counted, counted_few, hard_links_counted, target_filled}
use Rattle.h5_repack.proofs.ObjectLaws.Zips.{filled_below}
use Rattle.h5_repack.proofs.objects.counts.count_links.Goals as goal

pub count_group-requires-clause-below : goal.count_group-requires-clause-below
count_group-requires-clause-below c number at =
    let objects = c.args.objects.now in
    let i = c.loop-object.object-index in
    let x = c.object-item.result in
    let held : slice_get objects i ≡ Some x = slice_get_read objects (length objects) i x refl c.loop-object-test.true c.object-item.is in
    let there : In number (targets (slot_links x)) = subst (λ (ls : List (Link ObjectNo)). In number (targets ls)) c.links_of.ensures (in_contains number (targets c.links_of.result.now) at) in
    let low = filled_below objects number (target_filled objects c.requires.tree.0 c.requires.tree.1 c.requires.tree.2 i number x held there) in
    omega (arith, low, ap length c.deref_mut.ensures.value, c.loop-object.invariant.same)

pub count_group-requires-clause-few : goal.count_group-requires-clause-few
count_group-requires-clause-few c number at =
    let objects = c.args.objects.now in
    let i = c.loop-object.object-index in
    let x = c.object-item.result in
    let held : slice_get objects i ≡ Some x = slice_get_read objects (length objects) i x refl c.loop-object-test.true c.object-item.is in
    let there : In number (targets (slot_links x)) = subst (λ (ls : List (Link ObjectNo)). In number (targets ls)) c.links_of.ensures (in_contains number (targets c.links_of.result.now) at) in
    let filled : IsFilled objects number = target_filled objects c.requires.tree.0 c.requires.tree.1 c.requires.tree.2 i number x held there in
    let room = objects_room objects i x c.loop-object.counts.items number c.loop-object-test.true c.object-item.is c.loop-object.invariant (filled_below objects number filled) in
    let few = counted_few objects c.requires.tree.0 c.requires.tree.1 c.requires.tree.2 number filled in
    let links : times number (targets c.links_of.result.now) ≡ counted number x = ap (λ (ls : List (Link ObjectNo)). times number (targets ls)) c.links_of.ensures in
    let count : get_or c.deref_mut.result.now number 0 ≡ get_or c.loop-object.counts.items number 0 = ap (λ (ns : List ℕ). get_or ns number 0) c.deref_mut.ensures.value in
    omega (arith, room, few, links, count)

pub loop-object-preserved : goal.loop-object-preserved
loop-object-preserved c =
    let objects = c.args.objects.now in
    let i = c.loop-object.object-index in
    let x = c.object-item.result in
    let old = c.loop-object.counts.items in
    let new = c.count_group.new.counts in
    let sent = c.deref_mut.ensures.value in
    let length_is : length new ≡ length old = c.count_group.ensures.length ∙ ap length sent in
    let each : (number : ℕ) → number < length old → get_or new number 0 ≡ get_or old number 0 + counted number x
    = λ number low. c.count_group.ensures.counted number (subst (λ (ns : List ℕ). number < length ns) (sym sent) low)
    ∙ ap (λ (ns : List ℕ). get_or ns number 0 + times number (targets c.links_of.result.now)) sent
    ∙ ap (λ (ls : List (Link ObjectNo)). get_or old number 0 + times number (targets ls)) c.links_of.ensures in
    subst (λ (ns : List ℕ). AreCountedTo objects (i + 1) ns) (sym (refilled c.loop-object.counts.len new old length_is c.loop-object.counts.ok.0))
    (objects_more objects i x old new c.loop-object-test.true c.object-item.is c.loop-object.invariant length_is each)

pub returns-clause-counted : goal.returns-clause-counted
returns-clause-counted c tree are sound number low =
    let objects = c.args.objects.now in
    let counts = c.loop-object.counts.items in
    let all : take c.loop-object.object-index objects ≡ objects = take_all c.loop-object.object-index objects c.loop-object-test.false in
    slice_get-get_or counts number 0 (omega (arith, low, c.loop-object.invariant.same))
    ∙ ap (λ (n : ℕ). Some n) (c.loop-object.invariant.each number low ∙ ap (sum_by (counted number)) all ∙ sym (hard_links_counted objects tree are number))
