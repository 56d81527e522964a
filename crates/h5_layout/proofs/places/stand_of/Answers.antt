use Rattle.std.proofs.Common.{◌≡◌, Some, sym, ap, ◌∙◌, subst, arith}
use Rattle.h5_model.specs.Format.Fixed.{Fixed, IsFixed}
use Rattle.h5_model.specs.Format.Layout.{Layout, InChunks, InMessage}
use Rattle.h5_model.specs.Tree.Places.{cells}
use Rattle.h5_msg.specs.Layouts.{layout_in}
use Rattle.h5_layout.specs.CellPlaces.{IsIndexOf, IsLineAt}
use Rattle.h5_layout.specs.GridKept.{GridKept}
use Rattle.h5_layout.proofs.CompactWritten.{compact_place_low}
use Rattle.h5_layout.proofs.PlacesAt.{index_made}
use Rattle.h5_layout.proofs.places.stand_of.Goals as goal

pub returns-in-Compact : goal.returns-in-Compact
returns-in-Compact c =
    let image = c.args.header.now.image in
    let list = c.args.header.now.list in
    let a = c.args.array.now in
    let laid : InMessage c.in-Compact.field-0.now ≡ a.layout = ap layout_in (sym c.in-Compact.is) ∙ c.layout.ensures.layout in (
      subst (λ (l : Layout). IsLineAt list l c.compact_place.result) laid c.compact_place.ensures,
      compact_place_low image list c.list-list.ensures.within a (rw c.list-list.ensures.messages at c.requires.array) c.in-Compact.field-0.now (sym laid) c.compact_place.result c.compact_place.ensures
          (cells a.sizes) (omega arith),
    )

pub returns-in-Some-tree : goal.returns-in-Some-tree
returns-in-Some-tree c =
    let image = c.args.header.now.image in
    let a = c.args.array.now in
    let laid : a.layout ≡ InChunks c.in-Chunked.sizes (Some c.in-Some-tree.root)
    = sym (ap layout_in (sym c.in-Chunked.is) ∙ c.layout.ensures.layout) ∙ ap (InChunks c.in-Chunked.sizes) c.in-Some-tree.is in
    let size = c.size-size.ensures.size ∙ ap (λ (t : Fixed). t.size) c.fixed.ensures in
    subst (λ (g : GridKept). IsIndexOf image a g) (sym c.new.ensures.exact)
    (index_made image a c.layout.ensures.sound (subst IsFixed c.fixed.ensures c.size-size.ensures.one_of) c.requires.read c.in-Chunked.sizes c.in-Some-tree.root laid
    c.new.ensures.sound c.dims.result.now c.dims.ensures.sizes c.size-size.result size)
