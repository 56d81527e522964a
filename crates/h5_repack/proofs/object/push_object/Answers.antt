use Rattle.std.proofs.Common.{◌≡◌, ◌++◌, ◌∙◌, List, ap, sym, subst, length, Some}
use Rattle.std.proofs.lemmas.Result.{IfOk-weaker}
use Rattle.std.specs.Prelude.{slice_get}
use Rattle.h5_model.specs.declared.object_no.ObjectNo.{ObjectNo}
use Rattle.h5_model.specs.declared.link.Link.{Link}
use Rattle.h5_repack.specs.declared.size.Extent.{Extent}
use Rattle.h5_repack.specs.declared.size.Extent.TheVariants as extent
use Rattle.h5_repack.specs.declared.size.Size.{Size}
use Rattle.h5_repack.specs.Layout.{IsExtent, IsGroupObject, IsHeldObject, IsSize, StoredObject, header_by, laid_object}
use Rattle.h5_repack.proofs.Pushed.{extent_read, links_low, no_data, group_at, array_object_at}
use Rattle.h5_repack.proofs.Sizes.{group_of, array_of, data_low, level_low, others_low}
use Rattle.h5_repack.proofs.object.push_object.Goals as goal

pub push_group-requires-clause-held : goal.push_group-requires-clause-held
push_group-requires-clause-held c =
    let l = c.args.layout.now in
    let h = c.requires.held in
    let own = extent_read l.sizes.now c.args.number h.1 _ (extent.Links c.in-Links.places) h.2 c.in-Links.is in (
      h.0,
      subst (λ (ls : List (Link ObjectNo)). IsGroupObject ls (c.args.object.now).others h.0) (sym c.deref.ensures.value)
          (group_of c.args.object.now h.0 c.in-Group.links c.in-Group.is h.3),
      subst (λ (x : Extent). IsExtent l.k (length (h.0).chunks) ((h.0).object).content x) own (h.4).extent_is,
    )

pub push_group-requires-clause-low : goal.push_group-requires-clause-low
push_group-requires-clause-low c =
    let l = c.args.layout.now in
    let h = c.requires.held in
    rw c.header_place.ensures
    (links_low (header_by l c.args.number) l.sizes.now c.args.number h.1 _ c.in-Links.places h.2 c.in-Links.is (c.requires.layout.each c.args.number h.1 h.2))

pub push_group-requires-clause-header : goal.push_group-requires-clause-header
push_group-requires-clause-header c =
    let h = c.requires.held in
    others_low c.args.layout.now.k (c.args.object.now).others h.0 h.1 ((h.3).new).others (h.3).plain h.4

pub unreachable-requires : goal.unreachable-requires
unreachable-requires c =
    let l = c.args.layout.now in
    let h = c.requires.held in
    no_data l.k c.in-Group.links.items (c.args.object.now).others h.0 l.sizes.now c.args.number h.1 _ c.in-Data.field-0
    (group_of c.args.object.now h.0 c.in-Group.links c.in-Group.is h.3) h.2 c.in-Data.is h.4

pub push_array-requires-clause-held : goal.push_array-requires-clause-held
push_array-requires-clause-held c =
    let h = c.requires.held in (h.0, array_of c.args.object.now h.0 c.in-Array.array c.in-Array.cells c.in-Array.is h.3)

pub push_array-requires-clause-few : goal.push_array-requires-clause-few
push_array-requires-clause-few c =
    let h = c.requires.held in
    data_low c.in-Array.array c.in-Array.cells (c.args.object.now).others h.0 (array_of c.args.object.now h.0 c.in-Array.array c.in-Array.cells c.in-Array.is h.3)
    c.args.layout.now.k c.chunk_k.result c.chunk_k.ensures (rw c.chunk_k.ensures c.requires.k.chunk_low) h.1 h.4 _

pub push_array-requires-clause-level : goal.push_array-requires-clause-level
push_array-requires-clause-level c =
    let h = c.requires.held in
    level_low c.in-Array.array c.in-Array.cells (c.args.object.now).others h.0 (array_of c.args.object.now h.0 c.in-Array.array c.in-Array.cells c.in-Array.is h.3)
    c.args.layout.now.k c.chunk_k.result c.chunk_k.ensures (rw c.chunk_k.ensures c.requires.k.chunk_low) h.1 h.4

pub push_array-requires-clause-header : goal.push_array-requires-clause-header
push_array-requires-clause-header c =
    let h = c.requires.held in
    others_low c.args.layout.now.k (c.args.object.now).others h.0 h.1 ((h.3).new).others (h.3).plain h.4

pub returns-in-Links : goal.returns-in-Links
returns-in-Links c =
    let l = c.args.layout.now in
    let n = c.args.number in
    IfOk-weaker c.push_group.result _
    (λ _. (o : StoredObject) (s : Size) → slice_get l.sizes.now n ≡ Some s → IsHeldObject c.args.object.now o → IsSize l.k o s
    → c.push_group.new.out.items ≡ c.args.out.now.items ++ laid_object l (header_by l n) c.args.count o)
    (λ _ pushed o s found held size. (rw c.header_place.ensures at pushed) ∙ ap (λ xs. c.args.out.now.items ++ xs)
    (group_at l c.args.count n c.deref.result.now (c.args.object.now).others o s _ c.in-Links.places
    (subst (λ (ls : List (Link ObjectNo)). IsGroupObject ls (c.args.object.now).others o) (sym c.deref.ensures.value) (group_of c.args.object.now o c.in-Group.links c.in-Group.is held))
    found c.in-Links.is size))
    c.push_group.ensures

pub returns-in-Array : goal.returns-in-Array
returns-in-Array c =
    let l = c.args.layout.now in
    let n = c.args.number in
    IfOk-weaker c.push_array.result _
    (λ _. (o : StoredObject) (s : Size) → slice_get l.sizes.now n ≡ Some s → IsHeldObject c.args.object.now o → IsSize l.k o s
    → c.push_array.new.out.items ≡ c.args.out.now.items ++ laid_object l (header_by l n) c.args.count o)
    (λ _ pushed o s found held size.
    let is = array_of c.args.object.now o c.in-Array.array c.in-Array.cells c.in-Array.is held in
    (rw (c.header_place.ensures, c.chunk_k.ensures) at (pushed o is)) ∙ ap (λ xs. c.args.out.now.items ++ xs) (array_object_at l c.args.count n c.in-Array.array c.in-Array.cells (c.args.object.now).others o s _ is found size))
    c.push_array.ensures
