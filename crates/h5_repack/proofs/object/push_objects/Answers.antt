use Rattle.std.proofs.Common.{◌≡◌, ℕ, ◌∙◌, Bor, IsSome, List, Option, refl, sym, ap, length, Some, None}
use Rattle.std.proofs.lemmas.Option.{same_Some, slice_get_read}
use Rattle.std.specs.Option.{option_copied}
use Rattle.std.specs.Prelude.{slice_get, slice_index}
use Rattle.h5_repack.specs.Layout.{header_by, numbered_at, laid_object}
use Rattle.h5_repack.specs.Objects.Objects.{IsFilled}
use Rattle.h5_repack.specs.declared.objects.object.NewObject.{NewObject}
use Rattle.h5_repack.proofs.Headers.{all_at}
use Rattle.h5_repack.proofs.ObjectLaws.Zips.{filled_below, held_some}
use Rattle.h5_repack.proofs.Pushed.{held_at, number_at, objects_more}
use Rattle.h5_repack.proofs.object.push_objects.Goals as goal

-- the slot that was read is filled
filled_slot : (objects : List (Option NewObject)) (n : ℕ) → IsFilled objects n → (slot : Option NewObject) → slice_get objects n ≡ Some slot → (x : NewObject) × (slot ≡ Some x)
filled_slot objects n filled slot at =
    let x = held_some (slice_get objects n) filled in
    (x.0, same_Some slot (Some x.0) (sym at ∙ x.1))

lent_some : (r : Option (Bor NewObject)) (slot : Option NewObject) → option_copied r ≡ slot → (x : NewObject) → slot ≡ Some x → IsSome r
lent_some None slot is x there = absurd (let never : None ≡ Some x = is ∙ there in cc)
lent_some (Some o) slot is x there = refl

pub bounds-objects-number : goal.bounds-objects-number
bounds-objects-number c =
    filled_below c.args.objects.now (slice_index c.args.order.now c.loop-number.number-index)
    (all_at (IsFilled c.args.objects.now) c.args.order.now c.loop-number.number-index c.requires.filled c.loop-number-test.true)

pub unwrap-object-requires : goal.unwrap-object-requires
unwrap-object-requires c =
    let objects = c.args.objects.now in
    let n = slice_index c.args.order.now c.loop-number.number-index in
    let slot = c.index-objects-number.result in
    let filled = all_at (IsFilled objects) c.args.order.now c.loop-number.number-index c.requires.filled c.loop-number-test.true in
    let found : slice_get objects n ≡ Some slot = slice_get_read objects (length objects) n slot refl (filled_below objects n filled) c.index-objects-number.is in
    let x = filled_slot objects n filled slot found in
    lent_some c.as_ref.result slot c.as_ref.ensures.value x.0 x.1

pub push_object-requires-clause-held : goal.push_object-requires-clause-held
push_object-requires-clause-held c =
    let l = c.args.layout.now in
    let objects = c.args.objects.now in
    let n = slice_index c.args.order.now c.loop-number.number-index in
    let slot = c.index-objects-number.result in
    let x = c.unwrap-object.result.now in
    let filled = all_at (IsFilled objects) c.args.order.now c.loop-number.number-index c.requires.filled c.loop-number-test.true in
    let found : slice_get objects n ≡ Some slot = slice_get_read objects (length objects) n slot refl (filled_below objects n filled) c.index-objects-number.is in
    let there : slot ≡ Some x = sym c.as_ref.ensures.value ∙ ap (λ (r : Option (Bor NewObject)). option_copied r) c.unwrap-object.ensures in
    let h = held_at l.k n objects c.requires.held.0 l.sizes.now x c.requires.held.1 c.requires.held.2 (found ∙ ap (λ (s : Option NewObject). Some s) there) in
    (h.0, h.1, h.2, h.3, h.4)

pub loop-number-preserved : goal.loop-number-preserved
loop-number-preserved c listed held sized =
    let l = c.args.layout.now in
    let objects = c.args.objects.now in
    let i = c.loop-number.number-index in
    let n = slice_index c.args.order.now i in
    let slot = c.index-objects-number.result in
    let x = c.unwrap-object.result.now in
    let filled = all_at (IsFilled objects) c.args.order.now i c.requires.filled c.loop-number-test.true in
    let found : slice_get objects n ≡ Some slot = slice_get_read objects (length objects) n slot refl (filled_below objects n filled) c.index-objects-number.is in
    let there : slot ≡ Some x = sym c.as_ref.ensures.value ∙ ap (λ (r : Option (Bor NewObject)). option_copied r) c.unwrap-object.ensures in
    let h = held_at l.k n objects listed l.sizes.now x held sized (found ∙ ap (λ (s : Option NewObject). Some s) there) in
    objects_more (numbered_at l c.args.counts.now listed) c.args.order.now i c.args.out.now.items c.loop-number.out.items c.push_object.new.out.items
    (laid_object l (header_by l n) (slice_index c.args.counts.now n) h.0) c.loop-number-test.true (c.loop-number.invariant listed held sized)
    (c.in_ok-push_object.ensures h.0 h.1 h.2 h.3 h.4) (number_at l c.args.counts.now listed n h.0 h.5)
