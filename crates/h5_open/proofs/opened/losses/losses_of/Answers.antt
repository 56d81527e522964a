use Rattle.std.proofs.Common.{◌≡◌, ◌∙◌, ℕ, ◌<◌, ◌≤◌, List, get_or, length, sym, subst, arith}
use Rattle.h5_open.specs.declared.opened.losses.LostLinks.{LostLinks}
use Rattle.h5_open.specs.Opened.Objects.{tree_of}
use Rattle.h5_open.proofs.LossesFound.{all_parted}
use Rattle.h5_open.proofs.LostLaws.{none_lost, none_of}
use Rattle.h5_open.proofs.LostSlots.{no_more_slots}
use Rattle.h5_open.proofs.LostTree.{IsGoneThrough, next_few, through_fits, through_hard, through_next, through_soft, through_there}
use Rattle.h5_open.proofs.opened.losses.losses_of.Goals as goal
use Rattle.h5_open.proofs.opened.losses.losses_of.Goals.{in-Some+in_ok-lose, in_default}
use Rattle.h5_open.proofs.OpenedLaws.Sounds.{sound_tree}

-- ---- the link

pub lose-requires-clause-lost : goal.lose-requires-clause-lost
lose-requires-clause-lost c = none_lost c.new.result.items c.new-2.result c.new.ensures.items c.new-2.ensures.empty

pub lose-requires-clause-few : goal.lose-requires-clause-few
lose-requires-clause-few c = let none = none_of c.new-2.result c.new-2.ensures.empty c.in-Some.number in omega (arith, none)

pub loop-number-init : goal.loop-number-init
loop-number-init c link leads =
    let tree = tree_of c.args.image.now.bytes c.args.index.now.objects.items in
    let empty : LostLinks = record { numbers = c.new.result; counts = c.new-2.result } in
    let none = none_of c.new-2.result c.new-2.ensures.empty in
    elim c.match-object.branch [
      | in-Some+in_ok-lose w ↦
          subst (λ (x : LostLinks). IsGoneThrough tree link x 0) (sym w.lost-is)
          (through_hard tree link w.in-Some.number (sym w.in-Some.is ∙ leads) empty w.lose.new.lost none w.in_ok-lose.ensures)
      | in_default w ↦
          subst (λ (x : LostLinks). IsGoneThrough tree link x 0) (sym w.lost-is)
          (through_soft tree link (sym w.in_default.is ∙ leads) empty (none_lost c.new.result.items c.new-2.result c.new.ensures.items c.new-2.ensures.empty) none)
    ]

-- ---- the next object

next_low : (xs ys : List ℕ) → xs ≡ ys → (k : ℕ) → k < length xs → k < length ys
next_low xs ys same k low = subst (λ (zs : List ℕ). k < length zs) same low

next_at : (xs ys : List ℕ) → xs ≡ ys → (k number : ℕ) → number ≡ get_or xs k number → number ≡ get_or ys k number
next_at xs ys same k number at = subst (λ (zs : List ℕ). number ≡ get_or zs k number) same at

pub lose_links-requires-clause-there : goal.lose_links-requires-clause-there
lose_links-requires-clause-there c =
    let there = c.requires.there in
    let number = c.in-Some-get.field-0.now in
    let low = next_low c.deref.result.now c.loop-number.lost.numbers.items c.deref.ensures.value c.loop-number.done c.in-Some-get.ensures.lookup.3.0 in
    let at = next_at c.deref.result.now c.loop-number.lost.numbers.items c.deref.ensures.value c.loop-number.done number (c.in-Some-get.ensures.lookup.3.1 number) in
    through_there (tree_of c.args.image.now.bytes c.args.index.now.objects.items) there.2.link there.0 there.1
    (sound_tree c.args.image.now c.args.index.now.objects.items c.args.index.now.numbers c.requires.opened) there.2.stands c.loop-number.lost c.loop-number.done
    (c.loop-number.invariant there.2.link there.2.leads) number (c.loop-number.done, low, sym at)

pub lose_links-requires-clause-lost : goal.lose_links-requires-clause-lost
lose_links-requires-clause-lost c = (c.loop-number.invariant c.requires.there.2.link c.requires.there.2.leads).have

pub lose_links-requires-clause-few : goal.lose_links-requires-clause-few
lose_links-requires-clause-few c =
    let there = c.requires.there in
    let number = c.in-Some-get.field-0.now in
    let low = next_low c.deref.result.now c.loop-number.lost.numbers.items c.deref.ensures.value c.loop-number.done c.in-Some-get.ensures.lookup.3.0 in
    let at = next_at c.deref.result.now c.loop-number.lost.numbers.items c.deref.ensures.value c.loop-number.done number (c.in-Some-get.ensures.lookup.3.1 number) in
    next_few (tree_of c.args.image.now.bytes c.args.index.now.objects.items) there.2.link there.0 there.1
    (sound_tree c.args.image.now c.args.index.now.objects.items c.args.index.now.numbers c.requires.opened) there.2.stands c.loop-number.lost c.loop-number.done
    (c.loop-number.invariant there.2.link there.2.leads) number low at

pub loop-number-preserved : goal.loop-number-preserved
loop-number-preserved c link leads =
    let number = c.in-Some-get.field-0.now in
    let low = next_low c.deref.result.now c.loop-number.lost.numbers.items c.deref.ensures.value c.loop-number.done c.in-Some-get.ensures.lookup.3.0 in
    let at = next_at c.deref.result.now c.loop-number.lost.numbers.items c.deref.ensures.value c.loop-number.done number (c.in-Some-get.ensures.lookup.3.1 number) in
    through_next (tree_of c.args.image.now.bytes c.args.index.now.objects.items) link c.loop-number.lost c.lose_links.new.lost c.loop-number.done number
    (c.loop-number.invariant link leads) low at c.in_ok-lose_links.ensures

pub loop-number-smaller : goal.loop-number-smaller
loop-number-smaller c =
    let there = c.requires.there in
    let image = c.args.image.now in
    let slots = c.args.index.now.objects.items in
    let through = c.loop-number.invariant there.2.link there.2.leads in
    let low = next_low c.deref.result.now c.loop-number.lost.numbers.items c.deref.ensures.value c.loop-number.done c.in-Some-get.ensures.lookup.3.0 in
    let sound = sound_tree image slots c.args.index.now.numbers c.requires.opened in
    let few = no_more_slots image slots c.args.index.now.numbers c.requires.opened c.loop-number.lost.numbers.items through.have.once
    (through_there (tree_of image.bytes slots) there.2.link there.0 there.1 sound there.2.stands c.loop-number.lost c.loop-number.done through) in
    omega (arith, low, few)

-- ---- all

pub part_losses-requires-clause-lost : goal.part_losses-requires-clause-lost
part_losses-requires-clause-lost c = (c.loop-number.invariant c.requires.there.2.link c.requires.there.2.leads).have

pub part_losses-requires-clause-few : goal.part_losses-requires-clause-few
part_losses-requires-clause-few c =
    let there = c.requires.there in
    through_fits (tree_of c.args.image.now.bytes c.args.index.now.objects.items) there.2.link there.0 there.1
    (sound_tree c.args.image.now c.args.index.now.objects.items c.args.index.now.numbers c.requires.opened) there.2.stands c.loop-number.lost c.loop-number.done
    (c.loop-number.invariant there.2.link there.2.leads)

pub returns-clause-losses : goal.returns-clause-losses
returns-clause-losses c =
    let past : length c.loop-number.lost.numbers.items ≤ c.loop-number.done
    = subst (λ (ns : List ℕ). length ns ≤ c.loop-number.done) c.deref.ensures.value c.in_default-get.ensures.lookup.3 in
    all_parted c.args.image.now.bytes c.args.index.now.objects.items c.args.object c.loop-number.lost c.loop-number.done c.loop-number.invariant past
    c.part_losses.result c.part_losses.ensures.parted
