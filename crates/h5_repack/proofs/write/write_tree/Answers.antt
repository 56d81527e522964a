use Rattle.std.proofs.Common.{◌≡◌, ℕ, ◌<◌, ◌++◌, ◌∙◌, List, refl, sym, ap, subst, length, arith, Some}
use Rattle.std.proofs.lemmas.Result.{err_from_is_err_and}
use Rattle.std.specs.Prelude.{slice_get}
use Rattle.std.specs.List.{AllByRecursion, AllZip, flat_map}
use Rattle.h5_model.specs.Tree.Objects.{hard_links}
use Rattle.h5_repack.specs.declared.group.Layout.{Layout}
use Rattle.h5_repack.specs.declared.size.Size.{Size}
use Rattle.h5_repack.specs.Layout.{AreHeaders, IsSlotSize, IsUnplaced, front_at, numbered_at}
use Rattle.h5_repack.proofs.Faults.{unwritten_measured, unwritten_placed}
use Rattle.h5_repack.proofs.Images.{are_low, image_here}
use Rattle.h5_laws.proofs.Lists.{all_in}
use Rattle.h5_repack.specs.Objects.Objects.{IsFilled}
use Rattle.h5_repack.proofs.Orders.{all_held, are_stored, as_many_headers, as_many_sizes, below, filled, headers_are, is_order, low_layout, low_size, pairs, some_objects, end_is, stored_listed}
use Rattle.h5_repack.proofs.write.write_tree.Goals as goal

pub measure_all-requires-clause-held : goal.measure_all-requires-clause-held
measure_all-requires-clause-held c =
    let objects = c.args.objects.now in
    (stored_listed objects c.requires.tree.0 c.requires.tree.1, all_held objects c.requires.tree.0 c.requires.tree.1)

pub returns-in_err-sizes-clause-refused : goal.returns-in_err-sizes-clause-refused
returns-in_err-sizes-clause-refused c =
    let objects = c.args.objects.now in
    let p = err_from_is_err_and c.from_residual.result c.from_residual.ensures.1 in
    rw (p.1, p.2) (λ tree held. unwritten_measured c.args.k.now objects tree held c.in-Ok.order.items (c.in-Ok.ensures tree held.objects_are held.sound) c.in_err-sizes.field-0.0
    (c.in_err-sizes.ensures.refused (stored_listed objects tree held) (all_held objects tree held)))

pub place_all-requires-clause-below : goal.place_all-requires-clause-below
place_all-requires-clause-below c =
    let objects = c.args.objects.now in
    let tree = c.requires.tree.0 in
    let held = c.requires.tree.1 in
    let met = c.in-Ok.ensures tree held.objects_are held.sound in
    let sized = c.in_ok-sizes.ensures.sizes (stored_listed objects tree held) (all_held objects tree held) in
    let count : length objects ≡ length c.deref-2.result.now
    = as_many_sizes objects tree held c.in-Ok.order.items met c.args.k.now c.in_ok-sizes.sizes.items sized ∙ ap length (sym c.deref-2.ensures.value) in
    subst (λ (ns : List ℕ). AllByRecursion (λ number. number < length c.deref-2.result.now) ns) (sym c.deref.ensures.value)
    (all_in (λ number. number < length c.deref-2.result.now) c.in-Ok.order.items (λ n at.
    subst (λ y. n < y) count (below objects tree held c.in-Ok.order.items met n at)))

pub place_all-requires-clause-low : goal.place_all-requires-clause-low
place_all-requires-clause-low c number s found =
    let objects = c.args.objects.now in
    let tree = c.requires.tree.0 in
    let held = c.requires.tree.1 in
    let met = c.in-Ok.ensures tree held.objects_are held.sound in
    let sized = c.in_ok-sizes.ensures.sizes (stored_listed objects tree held) (all_held objects tree held) in
    let same : AllZip (IsSlotSize c.args.k.now) (stored_listed objects tree held) c.deref-2.result.now
    = subst (λ (ss : List Size). AllZip (IsSlotSize c.args.k.now) (stored_listed objects tree held) ss) (sym c.deref-2.ensures.value) sized in
    low_size objects tree held c.in-Ok.order.items met c.args.k.now c.deref-2.result.now same number s found

pub returns-in_err-placed-clause-refused : goal.returns-in_err-placed-clause-refused
returns-in_err-placed-clause-refused c =
    let objects = c.args.objects.now in
    let order = c.in-Ok.order.items in
    let sizes = c.in_ok-sizes.sizes.items in
    let p = err_from_is_err_and c.from_residual-in_err-placed.result c.from_residual-in_err-placed.ensures.1 in
    let unplaced : IsUnplaced c.args.k.now sizes order c.in_err-placed.field-0.0
    = subst (λ (ns : List ℕ). IsUnplaced c.args.k.now sizes ns c.in_err-placed.field-0.0) c.deref.ensures.value
    (subst (λ (ss : List Size). IsUnplaced c.args.k.now ss c.deref.result.now c.in_err-placed.field-0.0) c.deref-2.ensures.value c.in_err-placed.ensures.refused) in
    rw (p.1, p.2) (λ tree held. unwritten_placed c.args.k.now objects tree held order (c.in-Ok.ensures tree held.objects_are held.sound) sizes
    (c.in_ok-sizes.ensures.sizes (stored_listed objects tree held) (all_held objects tree held)) c.in_err-placed.field-0.0 unplaced)

pub image_of-requires-clause-layout : goal.image_of-requires-clause-layout
image_of-requires-clause-layout c =
    let objects = c.args.objects.now in
    let order = c.in-Ok.order.items in
    let sizes = c.in_ok-sizes.sizes.items in
    let tree = c.requires.tree.0 in
    let held = c.requires.tree.1 in
    let met = c.in-Ok.ensures tree held.objects_are held.sound in
    let sized = c.in_ok-sizes.ensures.sizes (stored_listed objects tree held) (all_held objects tree held) in
    let are : AreHeaders c.args.k.now sizes order c.in_ok-placed.placed
    = subst (λ (ns : List ℕ). AreHeaders c.args.k.now sizes ns c.in_ok-placed.placed) c.deref.ensures.value
    (subst (λ (ss : List Size). AreHeaders c.args.k.now ss c.deref.result.now c.in_ok-placed.placed) c.deref-2.ensures.value c.in_ok-placed.ensures.placed) in
    low_layout objects tree held order met c.args.k.now sizes sized c.in_ok-placed.placed are
    (record { k = c.args.k.now; headers = c.deref-3.result; sizes = c.deref-4.result }) c.deref-3.ensures.value c.deref-4.ensures.value

pub image_of-requires-clause-some : goal.image_of-requires-clause-some
image_of-requires-clause-some c =
    let objects = c.args.objects.now in
    let order = c.in-Ok.order.items in
    let sizes = c.in_ok-sizes.sizes.items in
    let tree = c.requires.tree.0 in
    let held = c.requires.tree.1 in
    let met = c.in-Ok.ensures tree held.objects_are held.sound in
    let sized = c.in_ok-sizes.ensures.sizes (stored_listed objects tree held) (all_held objects tree held) in
    omega (
      arith,
      some_objects objects tree held order met,
      as_many_sizes objects tree held order met c.args.k.now sizes sized,
      ap length c.deref-4.ensures.value,
    )

pub image_of-requires-clause-filled : goal.image_of-requires-clause-filled
image_of-requires-clause-filled c =
    let objects = c.args.objects.now in
    let held = c.requires.tree.1 in
    subst (λ (ns : List ℕ). AllByRecursion (IsFilled objects) ns) (sym c.deref-5.ensures.value)
    (filled objects c.requires.tree.0 held c.in-Ok.order.items (c.in-Ok.ensures c.requires.tree.0 held.objects_are held.sound))

pub image_of-requires-clause-held : goal.image_of-requires-clause-held
image_of-requires-clause-held c =
    let objects = c.args.objects.now in
    let tree = c.requires.tree.0 in
    let held = c.requires.tree.1 in
    let sized = c.in_ok-sizes.ensures.sizes (stored_listed objects tree held) (all_held objects tree held) in (
      stored_listed objects tree held,
      all_held objects tree held,
      subst (λ (ss : List Size). AllZip (IsSlotSize c.args.k.now) (stored_listed objects tree held) ss) (sym c.deref-4.ensures.value) sized,
    )

pub returns-clause-written : goal.returns-clause-written
returns-clause-written c tree held =
    let k = c.args.k.now in
    let objects = c.args.objects.now in
    let order = c.in-Ok.order.items in
    let sizes = c.in_ok-sizes.sizes.items in
    let placed = c.in_ok-placed.placed in
    let met = c.in-Ok.ensures tree held.objects_are held.sound in
    let objects_of = stored_listed objects tree held in
    let sized = c.in_ok-sizes.ensures.sizes objects_of (all_held objects tree held) in
    let here : AllZip (IsSlotSize k) objects_of c.deref-4.result.now
    = subst (λ (ss : List Size). AllZip (IsSlotSize k) objects_of ss) (sym c.deref-4.ensures.value) sized in
    let are : AreHeaders c.args.k.now sizes order placed
    = subst (λ (ns : List ℕ). AreHeaders c.args.k.now sizes ns placed) c.deref.ensures.value
    (subst (λ (ss : List Size). AreHeaders c.args.k.now ss c.deref.result.now placed) c.deref-2.ensures.value c.in_ok-placed.ensures.placed) in
    let counts = c.deref-6.result.now in
    let counted : (n : ℕ) → n < length objects → slice_get counts n ≡ Some (hard_links tree n)
    = λ n low. ap (λ (ns : List ℕ). slice_get ns n) c.deref-6.ensures.value ∙ c.in-Ok-count_links.ensures.counted tree held.objects_are held.sound n low in
    let layout : Layout = record { k = k; headers = c.deref-3.result; sizes = c.deref-4.result } in
    let pushed : (root : Size) → slice_get c.deref-4.result.now 0 ≡ Some root
    → c.in-Ok-image_of.image.items ≡ front_at layout root placed.end ++ flat_map (numbered_at layout counts objects_of) order
    = λ root found. c.in-Ok-image_of.ensures objects_of root (all_held objects tree held) here found
    ∙ ap (λ (ns : List ℕ). front_at layout root placed.end ++ flat_map (numbered_at layout counts objects_of) ns) c.deref-5.ensures.value in
    record {
      chunks = are_stored objects tree held;
      low = are_low k objects tree held order met sizes sized placed are c.deref-3.result c.deref-4.result c.deref-3.ensures.value c.deref-4.ensures.value;
      order = pairs objects tree held order met;
      ordered = is_order objects tree held order met;
      image_is = image_here k objects tree held order met sizes sized placed are c.deref-3.result c.deref-4.result c.deref-3.ensures.value c.deref-4.ensures.value
          counts counted c.in-Ok-image_of.image.items placed.end refl pushed;
      few = omega (arith, end_is objects tree held order met k sizes sized, are.end_is, are.few);
      headers_are = headers_are objects tree held order met k sizes sized placed are;
    }

pub returns-clause-numbered : goal.returns-clause-numbered
returns-clause-numbered c =
    let objects = c.args.objects.now in
    let order = c.in-Ok.order.items in
    let sizes = c.in_ok-sizes.sizes.items in
    let tree = c.requires.tree.0 in
    let held = c.requires.tree.1 in
    let met = c.in-Ok.ensures tree held.objects_are held.sound in
    let sized = c.in_ok-sizes.ensures.sizes (stored_listed objects tree held) (all_held objects tree held) in
    let are : AreHeaders c.args.k.now sizes order c.in_ok-placed.placed
    = subst (λ (ns : List ℕ). AreHeaders c.args.k.now sizes ns c.in_ok-placed.placed) c.deref.ensures.value
    (subst (λ (ss : List Size). AreHeaders c.args.k.now ss c.deref.result.now c.in_ok-placed.placed) c.deref-2.ensures.value c.in_ok-placed.ensures.placed) in
    as_many_headers objects tree held order met c.args.k.now sizes sized c.in_ok-placed.placed are
    ∙ sym (as_many_sizes objects tree held order met c.args.k.now sizes sized)
