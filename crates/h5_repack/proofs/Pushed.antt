-- What is appended of an object is its bytes in the layout.
use Rattle.std.proofs.Common.{◌≡◌, ℕ, ◌+◌, ◌*◌, ◌<◌, ◌≤◌, List, [], ◌∷◌, ◌++◌, map, refl, sym, ap, ◌∙◌, subst, arith, length, get_or, append_assoc, Some, Option, take}
use Rattle.std.proofs.lemmas.List.{take_more, append-nil}
use Rattle.std.proofs.lemmas.List.Concat.{flat_map-append}
use Rattle.std.proofs.lemmas.Option.{get_or_from_slice_get}
use Rattle.std.specs.Prelude.{slice_get, slice_index}
use Rattle.std.specs.FinMap.{entries, len}
use Rattle.std.specs.List.{AllZip, flat_map}
use Rattle.std.specs.Option.{option_flatten, option_map_or}
use Rattle.h5_model.specs.Format.Limits.{most_bytes}
use Rattle.h5_model.specs.Format.Plain.{header_bytes}
use Rattle.h5_model.specs.Format.PlainLength.{nodes_over, rows_of}
use Rattle.h5_model.specs.Format.Sizes.{group_node}
use Rattle.h5_model.specs.Tree.Objects.{Content, Dataset}
use Rattle.h5_model.specs.Format.Superblock.{chunk_k_of}
use Rattle.h5_repack.specs.Bodies.Bodies.{others_of, array_messages}
use Rattle.h5_group.specs.Heap.Links.{Leads}
use Rattle.h5_group.specs.Writing.Places.{ArePlaces}
use Rattle.h5_group.specs.Writing.Written.{links_bytes}
use Rattle.h5_group.specs.declared.write.places.GroupPlaces.{GroupPlaces}
use Rattle.h5_repack.specs.Blocks.ArrayHeader.{group_written, header_written, data_written, address_written}
use Rattle.h5_repack.specs.Blocks.Others.{OthersBytes}
use Rattle.h5_repack.specs.Blocks.Written.{chunks_of}
use Rattle.h5_model.specs.Format.Described.{Described}
use Rattle.h5_repack.specs.declared.blocks.cells.Cells.{Cells}
use Rattle.h5_repack.proofs.BlockLaws.HeaderLaws.{group_is, header_is, data_is, address_is}
use Rattle.h5_repack.specs.Image.Written.{content_place, group_heap_place, data_address}
use Rattle.h5_model.specs.Tree.Links.{tree_link}
use Rattle.h5_repack.specs.declared.objects.object.NewObject.{NewObject}
use Rattle.h5_model.specs.declared.object_no.ObjectNo.{ObjectNo}
use Rattle.h5_model.specs.declared.link.Link.{Link}
use Rattle.h5_repack.specs.declared.size.Extent.{Extent}
use Rattle.h5_repack.specs.declared.size.Extent.TheVariants as extent
use Rattle.h5_repack.specs.declared.size.Size.{Size}
use Rattle.h5_repack.specs.declared.group.Layout.{Layout}
use Rattle.h5_repack.specs.Layout.{IsArrayObject, IsExtent, IsGroupObject, IsHeldObject, IsSize, IsSlotSize, StoredObject, array_at, content_at, extent_length, header_by, numbered_at, laid_object, size_length, written_at}
use Rattle.h5_repack.proofs.Sizes.{own_written, own_count}
use Rattle.h5_repack.specs.Objects.Objects.{SlotsHold}
use Rattle.h5_repack.proofs.ObjectLaws.Zips.{slots_right, zip_right}
use Rattle.h5_model.specs.declared.k_values.KValues.{KValues}

-- ---- two parts

pub two_parts : (first second third a b c : List ℕ) → second ≡ first ++ a → third ≡ second ++ b → a ++ b ≡ c → third ≡ first ++ c
two_parts first second third a b c e f g =
    f ∙ ap (λ xs. xs ++ b) e ∙ append_assoc first a b ∙ ap (λ xs. first ++ xs) g

-- ---- a size that is read

pub extent_read : (sizes : List Size) (n : ℕ) (s d : Size) (x : Extent) → slice_get sizes n ≡ Some s → (get_or sizes n d).extent ≡ x → s.extent ≡ x
extent_read sizes n s d x found e = ap (λ (z : Size). z.extent) (sym (get_or_from_slice_get sizes n s d found)) ∙ e

pub header_read : (sizes : List Size) (n : ℕ) (s d : Size) → slice_get sizes n ≡ Some s → (get_or sizes n d).header ≡ s.header
header_read sizes n s d found = ap (λ (z : Size). z.header) (get_or_from_slice_get sizes n s d found)

pub links_low : (h : ℕ) (sizes : List Size) (n : ℕ) (s d : Size) (p : GroupPlaces) → slice_get sizes n ≡ Some s → (get_or sizes n d).extent ≡ extent.Links p
    → h + size_length s ≤ most_bytes → h + (get_or sizes n d).header + p.length ≤ most_bytes
links_low h sizes n s d p found e low =
    let own : extent_length s.extent ≡ p.length = ap extent_length (extent_read sizes n s d (extent.Links p) found e) in
    omega (arith, own, header_read sizes n s d found, low)

-- no group has data
pub no_data : (k : KValues) (links : List (Link ObjectNo)) (others : OthersBytes) (o : StoredObject) (sizes : List Size) (n : ℕ) (s d : Size) (y : ℕ) → IsGroupObject links others o
    → slice_get sizes n ≡ Some s → (get_or sizes n d).extent ≡ extent.Data y → IsSize k o s → ⊥
no_data k links others o sizes n s d y is found e size =
    subst (λ (c : Content). IsExtent k (length o.chunks) c (extent.Data y)) is.content
    (subst (λ (x : Extent). IsExtent k (length o.chunks) (o.object).content x) (extent_read sizes n s d (extent.Data y) found e) size.extent_is)

-- ---- groups

module _ (k : KValues) (links : List (Link ObjectNo)) (others : OthersBytes) (o : StoredObject) (is : IsGroupObject links others o) (p : GroupPlaces)
    (is_extent : IsExtent k (length o.chunks) (o.object).content (extent.Links p)) (l : Layout) (ls : List (List ℕ × Leads)) (ls_are : ls ≡ map (written_at l) (map tree_link links)) where
  pub places_are : ArePlaces k.leaf k.internal ls p
  places_are = subst (λ (c : Content). IsExtent k (length o.chunks) c (extent.Links p)) is.content is_extent ls (own_written links others o is k l ls ls_are)

  pub tree_within : p.tree ≤ p.length
  tree_within = omega (arith, (places_are).tree, (places_are).length_is)

  pub tree_is : p.tree ≡ nodes_over 64 (2 * k.internal) (rows_of (2 * k.leaf) (len is.group)) * group_node k.internal
  tree_is = (places_are).tree
      ∙ ap (λ n. nodes_over 64 (2 * k.internal) (rows_of (2 * k.leaf) n) * group_node k.internal) (own_count links others o is k l ls ls_are)

pub group_at : (l : Layout) (count n : ℕ) (links : List (Link ObjectNo)) (others : OthersBytes) (o : StoredObject) (s d : Size) (p : GroupPlaces) (is : IsGroupObject links others o)
    → slice_get l.sizes.now n ≡ Some s → (get_or l.sizes.now n d).extent ≡ extent.Links p → IsSize l.k o s
    → group_written (header_by l n + (get_or l.sizes.now n d).header) (header_by l n + (get_or l.sizes.now n d).header + p.tree) others
    ++ links_bytes (l.k).leaf (l.k).internal (header_by l n + (get_or l.sizes.now n d).header) (map (written_at l) (map tree_link links))
    ≡ laid_object l (header_by l n) count o
group_at l count n links others o s d p is found e size =
    let h : ℕ = header_by l n in
    let own : IsExtent l.k (length o.chunks) (o.object).content (extent.Links p)
    = subst (λ (x : Extent). IsExtent l.k (length o.chunks) (o.object).content x) (extent_read l.sizes.now n s d (extent.Links p) found e) size.extent_is in
    let tree = tree_is l.k links others o is p own l (map (written_at l) (map tree_link links)) refl in
    let place : h + (get_or l.sizes.now n d).header ≡ content_place o.object h = ap (λ y. h + y) (header_read l.sizes.now n s d found ∙ size.header) in
    let heap : h + (get_or l.sizes.now n d).header + p.tree ≡ group_heap_place l.k o.object is.group h = (λ i. place i + tree i) in
    (λ i. group_written (place i) (heap i) others ++ links_bytes (l.k).leaf (l.k).internal (place i) (map (written_at l) (is.linked i)))
    ∙ ap (λ xs. xs ++ links_bytes (l.k).leaf (l.k).internal (content_place o.object h) (map (written_at l) (entries is.group)))
    (group_is (content_place o.object h) (group_heap_place l.k o.object is.group h) (others_of o.object) others is.others_are)
    ∙ sym (ap (content_at l h count o) is.content)

-- ---- arrays

pub array_pushed : (chunk_k : ℕ) (a : Described) (c : Cells) (others : OthersBytes) (count place : ℕ) (address : Option ℕ) (first second third : List ℕ)
    → address ≡ address_written a c place → second ≡ first ++ header_written count a c others address → third ≡ second ++ data_written chunk_k c a place
    → (o : StoredObject) (is : IsArrayObject a c others o) → third ≡ first ++ array_at chunk_k place count o is.dataset
array_pushed chunk_k a c others count place address first second third address_here e f o is =
    let d : Dataset = is.dataset in
    let messages : List (ℕ × List ℕ) = others_of o.object in
    let stands : address ≡ data_address (chunks_of c) d place = address_here ∙ address_is a c d is.array_is place in
    let stored : array_at chunk_k place count (record o { chunks = chunks_of c }) d ≡ array_at chunk_k place count o d
    = ap (λ (chunks : List (List ℕ)). array_at chunk_k place count (record o { chunks = chunks }) d) is.chunks_are in
    two_parts first second third (header_written count a c others address) (data_written chunk_k c a place) (array_at chunk_k place count (record o { chunks = chunks_of c }) d) e f
    (λ i. (header_is a c d is.array_is others messages is.others_are count address
    ∙ ap (λ (y : Option ℕ). header_bytes count (array_messages d y (length messages) ++ messages)) stands) i ++ data_is a c d is.array_is chunk_k place i)
    ∙ ap (λ (bytes : List ℕ). first ++ bytes) stored

pub array_object_at : (l : Layout) (count n : ℕ) (a : Described) (c : Cells) (others : OthersBytes) (o : StoredObject) (s d : Size) (is : IsArrayObject a c others o)
    → slice_get l.sizes.now n ≡ Some s → IsSize l.k o s
    → array_at (chunk_k_of l.k) (header_by l n + (get_or l.sizes.now n d).header) count o is.dataset ≡ laid_object l (header_by l n) count o
array_object_at l count n a c others o s d is found size =
    let h : ℕ = header_by l n in
    ap (λ y. array_at (chunk_k_of l.k) (h + y) count o is.dataset) (header_read l.sizes.now n s d found ∙ size.header) ∙ sym (ap (content_at l h count o) is.content)

-- ---- all objects

-- an object's tree and size, by its number
pub held_at : (k : KValues) (n : ℕ) (objects : List (Option NewObject)) (listed : List (Option StoredObject)) (sizes : List Size) (x : NewObject)
    → AllZip (SlotsHold IsHeldObject) objects listed → AllZip (IsSlotSize k) listed sizes → slice_get objects n ≡ Some (Some x)
    → (o : StoredObject) × (s : Size) × (slice_get sizes n ≡ Some s) × IsHeldObject x o × IsSize k o s × (slice_get listed n ≡ Some (Some o))
held_at k n objects listed sizes x held sized is =
    let o = slots_right IsHeldObject objects listed n x held is in
    let s = zip_right (IsSlotSize k) listed sizes n (Some o.0) sized o.1 in
    (o.0, s.0, s.1, o.2, s.2, o.1)

pub number_at : (l : Layout) (counts : List ℕ) (listed : List (Option StoredObject)) (n : ℕ) (o : StoredObject) → slice_get listed n ≡ Some (Some o)
    → laid_object l (header_by l n) (slice_index counts n) o ≡ numbered_at l counts listed n
number_at l counts listed n o is =
    sym (ap (λ (r : Option (Option StoredObject)). option_map_or (laid_object l (header_by l n) (slice_index counts n)) (option_flatten r) []) is)

pub objects_more : (f : ℕ → List ℕ) (ns : List ℕ) (i : ℕ) (first second third here : List ℕ) → i < length ns → second ≡ first ++ flat_map f (take i ns)
    → third ≡ second ++ here → here ≡ f (get_or ns i 0) → third ≡ first ++ flat_map f (take (i + 1) ns)
objects_more f ns i first second third here low so_far e is =
    e ∙ (λ y. so_far y ++ is y) ∙ append_assoc first (flat_map f (take i ns)) (f (get_or ns i 0))
    ∙ ap (λ xs. first ++ xs) (ap (λ xs. flat_map f (take i ns) ++ xs) (sym (append-nil (f (get_or ns i 0)))) ∙ sym (flat_map-append f (take i ns) (get_or ns i 0 ∷ []))
    ∙ ap (flat_map f) (sym (take_more ns i 0 low)))
