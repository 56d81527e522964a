use Rattle.std.proofs.Common.{◌+◌, ◌∙◌, ap, arith, inl, length, refl, rules}
use Rattle.std.specs.Int.{w128}
use Rattle.std.proofs.lemmas.Int.{to_z-of_z}
use Rattle.std.proofs.lemmas.Result.{err_from_is_err_and}
use Rattle.h5_model.specs.Edits.Applied.{new_dataset, new_object}
use Rattle.h5_model.specs.Edits.Bounds.{contiguous_data, new_header}
use Rattle.h5_model.specs.Format.Superblock.{chunk_k}
use Rattle.h5_model.specs.Tree.Objects.{Array}
use Rattle.h5_model.specs.declared.edits.Edit.TheVariants.{CreateDataset}
use Rattle.h5_query.specs.ContentBytesType.TheVariants as bytes
use Rattle.h5_edit.proofs.ArraysMade.{address_low, array_added, array_counted, array_good, array_plain, array_ready, array_room, array_same, data_is, header_is}
use Rattle.h5_edit.proofs.LinkFacts.{array_edit, free_asked, group_asked}
use Rattle.h5_edit.proofs.NewObjects.{array_few}
use Rattle.h5_edit.proofs.ObjectsMade.{object_too_long}
use Rattle.h5_edit.proofs.RuleLaws.Exits.{passed_on}
use Rattle.h5_edit.proofs.Refusals.{by_rule, short_of_memory}
use Rattle.h5_edit.proofs.created.create_dataset.Goals as goal

pub returns-in_err-place : goal.returns-in_err-place
returns-in_err-place c =
    passed_on _ _ c.from_residual.result _ c.from_residual.ensures.1
    (by_rule c.args.opened.now (CreateDataset c.args.path.now c.args.spec.now) _ c.in_err-place.ensures.placed, refl)

pub array_from-array-requires : goal.array_from-array-requires
array_from-array-requires c = array_plain c.args.opened.now c.in_ok-place.ensures.placed c.size-size.ensures.one_of c.in_ok-place.ensures.typed

pub array_header_length-header-requires-clause-same : goal.array_header_length-header-requires-clause-same
array_header_length-header-requires-clause-same c =
    array_same c.args.opened.now c.in_ok-place.ensures.placed c.size-size.ensures.one_of c.in_ok-place.ensures.typed c.array_from-array.result c.array_from-array.ensures c.new-others.result
    c.new-others.ensures

pub array_header_length-header-requires-clause-fits : goal.array_header_length-header-requires-clause-fits
array_header_length-header-requires-clause-fits c =
    array_room c.args.opened.now c.in_ok-place.ensures.placed c.size-size.ensures.one_of c.in_ok-place.ensures.typed c.array_from-array.result c.array_from-array.ensures c.new-others.result
    c.new-others.ensures

pub chunk_k-chunk-requires : goal.chunk_k-chunk-requires
chunk_k-chunk-requires c =
    let whole = c.image.ensures.sound.reads.holds.superblock.whole in
    omega (arith, whole, ap length (c.bytes.ensures ∙ c.image.ensures.bytes))

pub data_length-data-requires-clause-some : goal.data_length-data-requires-clause-some
data_length-data-requires-clause-some c =
    let low = c.image.ensures.sound.reads.holds.superblock.chunk_low in
    omega (arith, low, c.chunk_k-chunk.ensures ∙ ap chunk_k (c.bytes.ensures ∙ c.image.ensures.bytes))

pub data_length-data-requires-clause-most : goal.data_length-data-requires-clause-most
data_length-data-requires-clause-most c =
    let high = c.image.ensures.sound.reads.holds.superblock.chunk_high in
    omega (arith, high, c.chunk_k-chunk.ensures ∙ ap chunk_k (c.bytes.ensures ∙ c.image.ensures.bytes))

pub data_length-data-requires-clause-array : goal.data_length-data-requires-clause-array
data_length-data-requires-clause-array c =
    array_ready c.args.opened.now c.in_ok-place.ensures.placed c.size-size.ensures.one_of c.in_ok-place.ensures.typed c.array_from-array.result c.array_from-array.ensures c.new-others.result
    c.new-others.ensures

pub place_with-requires-clause-header : goal.place_with-requires-clause-header
place_with-requires-clause-header c =
    let counted = header_is c.args.opened.now c.in_ok-place.ensures.placed c.size-size.ensures.one_of c.in_ok-place.ensures.typed c.array_from-array.result c.array_from-array.ensures
    c.new-others.result c.new-others.ensures c.array_header_length-header.result c.data_length-data.result c.array_header_length-header.ensures.exact c.data_length-data.ensures in
    (omega (arith, counted), c.array_header_length-header.ensures.few)

pub place_with-requires-clause-cells : goal.place_with-requires-clause-cells
place_with-requires-clause-cells c = (
  contiguous_data c.args.spec.now,
  data_is c.args.opened.now c.in_ok-place.ensures.placed c.size-size.ensures.one_of c.in_ok-place.ensures.typed c.array_from-array.result c.array_from-array.ensures
      c.new-others.result c.new-others.ensures c.array_header_length-header.result c.data_length-data.result c.array_header_length-header.ensures.exact c.data_length-data.ensures,
)

pub no_room-requires : goal.no_room-requires
no_room-requires c = record { group = group_asked c.args.opened.now c.next-number.ensures.sound c.in_ok-place.ensures.placed (inl refl) }

pub returns-in_default : goal.returns-in_default
returns-in_default c =
    let f = c.args.opened.now in
    let spec = c.args.spec.now in
    let placed = c.in_ok-place.ensures.placed in
    let counted = array_counted f placed c.size-size.ensures.one_of c.in_ok-place.ensures.typed c.array_from-array.result c.array_from-array.ensures
    c.new-others.result c.new-others.ensures c.array_header_length-header.result c.data_length-data.result c.array_header_length-header.ensures.exact c.data_length-data.ensures in
    let long = data_is f placed c.size-size.ensures.one_of c.in_ok-place.ensures.typed c.array_from-array.result c.array_from-array.ensures
    c.new-others.result c.new-others.ensures c.array_header_length-header.result c.data_length-data.result c.array_header_length-header.ensures.exact c.data_length-data.ensures in (
      rw c.insertion_fault.ensures
          (object_too_long f c.next-number.ensures.sound placed (inl refl) (new_object (Array (new_dataset spec))) (new_header spec + contiguous_data spec) refl
          (λ table n. array_edit f table n placed) (c.array_header_length-header.result + contiguous_data spec) counted
          (c.in_default.ensures (contiguous_data spec) long) c.no_room.result c.no_room.ensures.deep c.no_room.ensures.full),
      refl,
    )

pub overflow_add-at : goal.overflow_add-at
overflow_add-at c =
    let there = c.in-Some.ensures (contiguous_data c.args.spec.now)
    (data_is c.args.opened.now c.in_ok-place.ensures.placed c.size-size.ensures.one_of c.in_ok-place.ensures.typed c.array_from-array.result c.array_from-array.ensures
    c.new-others.result c.new-others.ensures c.array_header_length-header.result c.data_length-data.result c.array_header_length-header.ensures.exact c.data_length-data.ensures) in
    let low = there.1 in
    omega (arith, low)

pub push_array_header-requires-clause-array : goal.push_array_header-requires-clause-array
push_array_header-requires-clause-array c =
    array_ready c.args.opened.now c.in_ok-place.ensures.placed c.size-size.ensures.one_of c.in_ok-place.ensures.typed c.array_from-array.result c.array_from-array.ensures c.new-others.result
    c.new-others.ensures

pub push_array_header-requires-clause-address : goal.push_array_header-requires-clause-address
push_array_header-requires-clause-address c =
    let there = c.in-Some.ensures (contiguous_data c.args.spec.now)
    (data_is c.args.opened.now c.in_ok-place.ensures.placed c.size-size.ensures.one_of c.in_ok-place.ensures.typed c.array_from-array.result c.array_from-array.ensures
    c.new-others.result c.new-others.ensures c.array_header_length-header.result c.data_length-data.result c.array_header_length-header.ensures.exact c.data_length-data.ensures) in
    let low = there.1 in
    address_low c.array_from-array.result _ c.cells_address-address.result c.cells_address-address.ensures (omega (arith, low))

pub returns-in_err-push_array_header : goal.returns-in_err-push_array_header
returns-in_err-push_array_header c =
    let p = err_from_is_err_and c.from_residual-in_err-push_array_header.result c.from_residual-in_err-push_array_header.ensures.1 in
    rw (p.1, p.2) (short_of_memory c.args.opened.now (CreateDataset c.args.path.now c.args.spec.now) c.in_ok-place.ensures.placed.allowed, refl)

pub add_object-added-requires-clause-group : goal.add_object-added-requires-clause-group
add_object-added-requires-clause-group c = group_asked c.args.opened.now c.next-number.ensures.sound c.in_ok-place.ensures.placed (inl refl)

pub add_object-added-requires-clause-free : goal.add_object-added-requires-clause-free
add_object-added-requires-clause-free c = free_asked c.args.opened.now c.next-number.ensures.sound c.in_ok-place.ensures.placed (inl refl)

pub add_object-added-requires-clause-few : goal.add_object-added-requires-clause-few
add_object-added-requires-clause-few c = array_few c.args.opened.now.tree c.args.opened.now.next c.args.path.now c.args.spec.now c.in_ok-place.ensures.placed.allowed

pub add_object-added-requires-clause-good : goal.add_object-added-requires-clause-good
add_object-added-requires-clause-good c =
    array_good c.args.opened.now c.in_ok-place.ensures.placed c.size-size.ensures.one_of c.in_ok-place.ensures.typed c.array_from-array.result c.array_from-array.ensures
    c.new-others.result c.new-others.ensures c.array_header_length-header.result c.data_length-data.result c.array_header_length-header.ensures.exact c.data_length-data.ensures
    c.next-number.ensures.sound _ c.in-Some.at c.block_cells.result c.cells_address-address.result c.new-bytes.result.items c.push_array_header.new.out.items c.in-Some.ensures c.cells_address-address.ensures c.new-bytes.ensures.items c.in_ok-push_array_header.ensures c.deref.ensures.value c.block_cells.ensures
    (ap (λ v. bytes.Cells c.args.spec.now.fixed v c.block_cells.result) (to_z-of_z w128 c.args.spec.now.fill (search rules)))

pub returns : goal.returns
returns c =
    let says = c.add_object-added.ensures in
    rw c.answered.ensures
    (array_added c.args.opened.now c.in_ok-place.ensures.placed c.size-size.ensures.one_of c.in_ok-place.ensures.typed c.array_from-array.result c.array_from-array.ensures
    c.new-others.result c.new-others.ensures c.array_header_length-header.result c.data_length-data.result c.array_header_length-header.ensures.exact c.data_length-data.ensures
    c.next-number.ensures.sound _ c.in-Some.at c.block_cells.result c.cells_address-address.result c.new-bytes.result.items c.push_array_header.new.out.items c.in-Some.ensures c.cells_address-address.ensures c.new-bytes.ensures.items c.in_ok-push_array_header.ensures c.deref.ensures.value c.block_cells.ensures
    (ap (λ v. bytes.Cells c.args.spec.now.fixed v c.block_cells.result) (to_z-of_z w128 c.args.spec.now.fill (search rules)))
    c.next-number.result c.next-number.ensures.next _ _ (record { changed = says.changed; deep = says.deep; full = says.full; refused = says.refused }))
