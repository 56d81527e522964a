-- What is appended of all objects is the plain image of their tree.
use Rattle.std.proofs.Common.{◌≡◌, ℕ, ◌+◌, ◌*◌, ◌<◌, ◌≤◌, inl, inr, List, [], ◌∷◌, ◌++◌, map, refl, sym, ap, ◌∙◌, subst, length, Option, Some, None}
use Rattle.std.proofs.lemmas.List.{length-map}
use Rattle.std.proofs.lemmas.Option.{get_or_from_slice_get, same_Some}
use Rattle.std.specs.Borrow.{Bor}
use Rattle.std.specs.Ordering.{nat_cmp}
use Rattle.std.specs.Prelude.{slice_get, slice_index, unwrap_or}
use Rattle.std.specs.FinMap.{FinMap, get, entries, len, len-entries}
use Rattle.std.specs.List.{AllZip, flat_map}
use Rattle.std.specs.Option.{option_map_or, option_flatten}
use Rattle.h5_model.specs.Format.Limits.{highest_level}
use Rattle.h5_model.specs.Format.MessageTypes.{symbol_table_kind}
use Rattle.h5_model.specs.Format.Bodies.{pair_bytes}
use Rattle.h5_model.specs.Format.Plain.{header_bytes, superblock_bytes}
use Rattle.h5_model.specs.Format.PlainLength.{nodes_over, rows_of}
use Rattle.h5_model.specs.Format.Sizes.{group_node}
use Rattle.h5_model.specs.Tree.Objects.{Tree, Object, Content, Group, Array, Link, Links, ToObject, Soft, hard_links}
use Rattle.h5_btree.specs.Writing.Written.{root_level}
use Rattle.h5_repack.specs.Bodies.Bodies.{others_of, array_messages}
use Rattle.h5_model.specs.Format.Superblock.{chunk_k_of}
use Rattle.h5_repack.specs.Bodies.Headers.{data_of}
use Rattle.h5_group.specs.Heap.Links.{Leads, ToGroup, ToArray}
use Rattle.h5_group.specs.Writing.Places.{ArePlaces}
use Rattle.h5_group.specs.Writing.Written.{links_bytes}
use Rattle.h5_group.specs.declared.write.places.GroupPlaces.{GroupPlaces}
use Rattle.h5_repack.specs.Image.Plain.{AreLow, IsLow, IsLowContent}
use Rattle.h5_repack.specs.Image.Written.{StoredIn, content_place, counts_of, data_address, header_in, group_heap_place, image_end, leads_to_object, object_bytes, plain_image, root_heap, superblock_of, table_of, written_link, written_links}
use Rattle.h5_repack.specs.Objects.Objects.{stored_in}
use Rattle.h5_repack.specs.Objects.Order.{AreMet}
use Rattle.h5_repack.specs.declared.objects.object.NewObject.{NewObject}
use Rattle.h5_laws.proofs.Lists.{In}
use Rattle.h5_repack.specs.declared.size.Extent.{Extent}
use Rattle.h5_repack.specs.declared.size.Extent.TheVariants as extent
use Rattle.h5_repack.specs.declared.size.Size.{Size}
use Rattle.h5_repack.specs.declared.place.Placed.{Placed}
use Rattle.h5_repack.specs.declared.group.Layout.{Layout}
use Rattle.h5_repack.specs.Layout.{AreHeaders, IsExtent, IsSize, IsSlotSize, StoredObject, content_at, front_at, header_by, heap_behind, leads_at, leads_behind, leads_by, no_size, numbered_at, laid_object, written_at}
use Rattle.h5_repack.specs.Written.{IsTreeToWrite}
use Rattle.h5_repack.proofs.Leads.{all_written}
use Rattle.h5_repack.proofs.Orders.{below, empty_size, end_is, headers_are, met_or_none, no_header, numbered, numbers, object, pairs, root_in, size_of, stored_listed, stored_object, stored_there, there, there_is}
use Rattle.h5_repack.proofs.Pushed.{number_at}
use Rattle.h5_model.specs.declared.k_values.KValues.{KValues}
use Rattle.h5_model.specs.Format.Plain.{plain_superblock_length}

-- ---- lists

map_same : {X Y : Type 0} (f g : X → Y) (xs : List X) → ((x : X) → f x ≡ g x) → map f xs ≡ map g xs
map_same f g [] same = refl
map_same {Y = Y} f g (x ∷ xs) same = (λ i. same x i ∷ map_same f g xs same i)

flat_same : (f : ℕ → List ℕ) (bytes : ℕ × Object → List ℕ) (g : ℕ → Object) (ns : List ℕ) → ((n : ℕ) → In n ns → f n ≡ bytes (n, g n))
    → flat_map f ns ≡ flat_map bytes (map (numbered g) ns)
flat_same f bytes g [] same = refl
flat_same f bytes g (n ∷ ns) same = (λ i. same n (inl refl) i ++ flat_same f bytes g ns (λ m there. same m (inr there)) i)

-- ---- a group's places, from its size

module _ (k : KValues) (g : Links) (p : GroupPlaces) (is : IsExtent k 0 (Group g) (extent.Links p)) (l : Layout) where
  count_is : length (map (written_at l) (entries g)) ≡ len g
  count_is = length-map (entries g) (written_at l) ∙ sym (len-entries g)

  own_places : ArePlaces k.leaf k.internal (map (written_at l) (entries g)) p
  own_places = is (map (written_at l) (entries g)) (all_written l (entries g))

  pub own_tree : p.tree ≡ nodes_over 64 (2 * k.internal) (rows_of (2 * k.leaf) (len g)) * group_node k.internal
  own_tree = (own_places).tree ∙ ap (λ n. nodes_over 64 (2 * k.internal) (rows_of (2 * k.leaf) n) * group_node k.internal) count_is

  pub own_low : IsLow k.leaf k.internal g
  own_low = subst (λ n. root_level k.internal (rows_of (2 * k.leaf) n) ≤ highest_level) count_is (own_places).low

module _ (k : KValues) (l : Layout) (o : StoredObject) (s : Size) (size : IsSize k o s) where
  -- behind the superblock, as its entry for the root says
  heap_is : (c : Content) (x : Extent) → (o.object).content ≡ c → s.extent ≡ x → IsExtent k (length o.chunks) c x → heap_behind (plain_superblock_length k + s.header) s.extent ≡ root_heap k o.object
  heap_is (Group g) (extent.Links p) e f is =
      let place : plain_superblock_length k + s.header ≡ content_place o.object (plain_superblock_length k) = ap (λ y. plain_superblock_length k + y) size.header in
      let there : root_heap k o.object ≡ group_heap_place k o.object g (plain_superblock_length k) = rw e refl in
      ap (heap_behind (plain_superblock_length k + s.header)) f ∙ (λ i. place i + own_tree k g p is l i) ∙ sym there
  heap_is (Group g) (extent.Data n) e f is = absurd is
  heap_is (Array d) (extent.Links p) e f is = absurd is
  heap_is (Array d) (extent.Data n) e f is =
      let none : root_heap k o.object ≡ 0 = rw e refl in
      ap (heap_behind (plain_superblock_length k + s.header)) f ∙ sym none

  leads_same_by : (h : ℕ) (c : Content) (x : Extent) → (o.object).content ≡ c → s.extent ≡ x → IsExtent k (length o.chunks) c x → leads_at h s ≡ leads_to_object k o.object h
  leads_same_by h (Group g) (extent.Links p) e f is =
      let place : h + s.header ≡ content_place o.object h = ap (λ y. h + y) size.header in
      let there : leads_to_object k o.object h ≡ ToGroup h (content_place o.object h) (group_heap_place k o.object g h) = rw e refl in
      ap (leads_behind h (h + s.header)) f ∙ (λ i. ToGroup h (place i) (place i + own_tree k g p is l i)) ∙ sym there
  leads_same_by h (Group g) (extent.Data n) e f is = absurd is
  leads_same_by h (Array d) (extent.Links p) e f is = absurd is
  leads_same_by h (Array d) (extent.Data n) e f is =
      let there : leads_to_object k o.object h ≡ ToArray h = rw e refl in
      ap (leads_behind h (h + s.header)) f ∙ sym there

  pub leads_same : (h : ℕ) → leads_at h s ≡ leads_to_object k o.object h
  leads_same h = leads_same_by h (o.object).content s.extent refl refl size.extent_is

  pub root_same : heap_behind (plain_superblock_length k + s.header) s.extent ≡ root_heap k o.object
  root_same = heap_is (o.object).content s.extent refl refl size.extent_is

low_by : (k : KValues) (count : ℕ) (l : Layout) (c : Content) (x : Extent) → IsExtent k count c x → IsLowContent k count c
low_by k count l (Group g) (extent.Links p) is = own_low k g p is l
low_by k count l (Group g) (extent.Data n) is = absurd is
low_by k count l (Array d) (extent.Links p) is = absurd is
low_by k count l (Array d) (extent.Data n) is = is.1

-- ---- the image

module _ (k : KValues) (objects : List (Option NewObject)) (tree : Tree) (held : IsTreeToWrite objects tree) (order : List ℕ) (met : AreMet tree order)
    (sizes : List Size) (sized : AllZip (IsSlotSize k) (stored_listed objects tree held) sizes) (p : Placed) (are : AreHeaders k sizes order p)
    (headers_now : Bor (List (Option ℕ))) (sizes_now : Bor (List Size)) (headers_here : headers_now.now ≡ p.headers.items) (sizes_here : sizes_now.now ≡ sizes) where
  abbrev layout : Layout
  layout = record { k = k; headers = headers_now; sizes = sizes_now }

  abbrev order_of : List (ℕ × Object)
  order_of = pairs objects tree held order met

  abbrev stored : StoredIn
  stored = stored_in objects

  abbrev table : FinMap nat_cmp ℕ
  table = table_of k (counts_of stored) order_of

  read_or : (r : Option ℕ) → unwrap_or r 0 ≡ option_map_or (λ (h : ℕ). h) r 0
  read_or None = refl
  read_or (Some h) = refl

  header_here : (n : ℕ) → header_by layout n ≡ header_in table n
  header_here n =
      ap (λ (hs : List (Option ℕ)). unwrap_or (option_flatten (slice_get hs n)) 0) headers_here
      ∙ ap (λ (r : Option ℕ). unwrap_or r 0) (headers_are objects tree held order met k sizes sized p are n) ∙ read_or (get table n)

  -- a link of the tree leads where the layout says
  abbrev leads_there : ℕ → Option Object → Leads
  leads_there n found = option_map_or (λ (o : Object). leads_to_object k o (header_in table n)) found (ToArray 0)

  no_lead : (n : ℕ) → get tree n ≡ None → (In n order → ⊥) → (found : Option Size) → slice_get sizes_now.now n ≡ found → leads_by layout n ≡ ToArray 0
  no_lead n none other None at = ap (λ (r : Option Size). option_map_or (leads_at (header_by layout n)) r (ToArray 0)) at
  no_lead n none other (Some s) at =
      let size : s ≡ no_size = empty_size objects tree held order met k sizes sized n s none (sym (ap (λ (ss : List Size). slice_get ss n) sizes_here) ∙ at) in
      let nowhere : header_by layout n ≡ 0
      = ap (λ (hs : List (Option ℕ)). unwrap_or (option_flatten (slice_get hs n)) 0) headers_here
      ∙ ap (λ (r : Option ℕ). unwrap_or r 0) (no_header objects tree held order met k sizes sized p are n other) in
      ap (λ (r : Option Size). option_map_or (leads_at (header_by layout n)) r (ToArray 0)) at ∙ ap (leads_at (header_by layout n)) size
      ∙ ap (λ h. leads_at h no_size) nowhere

  lead_here : (n : ℕ) → leads_by layout n ≡ leads_there n (get tree n)
  lead_here n = elim (met_or_none objects tree held order met n) [
    | inl inside ↦
        let some = there objects tree held order met n inside in
        let o : StoredObject = stored_object objects tree held n in
        let s = size_of objects tree held order met k sizes sized n some in
        let found : slice_get sizes_now.now n ≡ Some s.0 = ap (λ (ss : List Size). slice_get ss n) sizes_here ∙ s.1 in
        ap (λ (r : Option Size). option_map_or (leads_at (header_by layout n)) r (ToArray 0)) found
        ∙ ap (λ h. leads_at h s.0) (header_here n) ∙ leads_same k layout o s.0 s.2 (header_in table n)
        ∙ sym (ap (leads_there n) (numbers objects tree held n ∙ ap option_flatten (there_is objects tree held n some)))
    | inr none ↦ no_lead n none.0 none.1 (slice_get sizes_now.now n) refl ∙ sym (ap (leads_there n) none.0)
  ]

  link_here : (e : List ℕ × Link) → written_at layout e ≡ written_link k tree table e
  link_here (name, ToObject n) = ap (λ (x : Leads). (name, x)) (lead_here n)
  link_here (name, Soft text) = refl

  object_here : (n : ℕ) (o : Object) (h count : ℕ) → h ≡ header_in table n → count ≡ hard_links tree n → (c : Content) → o.content ≡ c
      → laid_object layout h count (record { object = o; chunks = stored n }) ≡ object_bytes k stored tree table (n, o)
  object_here n o h count place links (Group g) e =
      let laid : object_bytes k stored tree table (n, o)
      ≡ header_bytes 1 ((symbol_table_kind, pair_bytes (content_place o (header_in table n)) (group_heap_place k o g (header_in table n))) ∷ others_of o)
      ++ links_bytes k.leaf k.internal (content_place o (header_in table n)) (written_links k tree table g) = rw e refl in
      let written : map (written_at layout) (entries g) ≡ written_links k tree table g
      = map_same (written_at layout) (written_link k tree table) (entries g) link_here in
      ap (content_at layout h count (record { object = o; chunks = stored n })) e
      ∙ (λ i. header_bytes 1 ((symbol_table_kind, pair_bytes (content_place o (place i)) (group_heap_place k o g (place i))) ∷ others_of o)
      ++ links_bytes k.leaf k.internal (content_place o (place i)) (written i)) ∙ sym laid
  object_here n o h count place links (Array d) e =
      let laid : object_bytes k stored tree table (n, o)
      ≡ header_bytes (hard_links tree n)
      (array_messages d (data_address (stored n) d (content_place o (header_in table n))) (length (others_of o)) ++ others_of o)
      ++ data_of (chunk_k_of k) (stored n) d (content_place o (header_in table n)) = rw e refl in
      ap (content_at layout h count (record { object = o; chunks = stored n })) e
      ∙ (λ i. header_bytes (links i) (array_messages d (data_address (stored n) d (content_place o (place i))) (length (others_of o)) ++ others_of o)
      ++ data_of (chunk_k_of k) (stored n) d (content_place o (place i))) ∙ sym laid

  module _ (counts : List ℕ) (counted : (n : ℕ) → n < length objects → slice_get counts n ≡ Some (hard_links tree n)) where
    each_here : (n : ℕ) → In n order → numbered_at layout counts (stored_listed objects tree held) n ≡ object_bytes k stored tree table (n, object objects tree held n)
    each_here n inside =
        let low = below objects tree held order met n inside in
        let o : Object = object objects tree held n in
        let count : slice_index counts n ≡ hard_links tree n = get_or_from_slice_get counts n (hard_links tree n) 0 (counted n low) in
        sym (number_at layout counts (stored_listed objects tree held) n (stored_object objects tree held n) (stored_there objects tree held n (there objects tree held order met n inside)))
        ∙ object_here n o (header_by layout n) (slice_index counts n) (header_here n) count o.content refl

    -- the superblock and all objects
    pub image_here : (image : List ℕ) (end : ℕ) → end ≡ p.end
        → ((root : Size) → slice_get sizes_now.now 0 ≡ Some root → image ≡ front_at layout root end ++ flat_map (numbered_at layout counts (stored_listed objects tree held)) order)
        → image ≡ plain_image k stored tree order_of
    unfolding plain_image
    image_here image end end_here pushed =
        let root = size_of objects tree held order met k sizes sized 0 (there objects tree held order met 0 (root_in objects tree held order met)) in
        let first : order_of ≡ (0, object objects tree held 0) ∷ map (numbered (object objects tree held)) met.others = ap (map (numbered (object objects tree held))) met.first in
        let o : Object = object objects tree held 0 in
        let place : plain_superblock_length k + (root.0).header ≡ content_place o (plain_superblock_length k) = ap (λ y. plain_superblock_length k + y) (root.2).header in
        let heap = root_same k layout (stored_object objects tree held 0) root.0 root.2 in
        let ends : end ≡ image_end k (counts_of stored) order_of = end_here ∙ are.end_is ∙ sym (end_is objects tree held order met k sizes sized) in
        let front : front_at layout root.0 end ≡ superblock_of k (counts_of stored) order_of
        = (λ i. superblock_bytes k (ends i) (plain_superblock_length k) (place i) (heap i))
        ∙ ap (λ (es : List (ℕ × Object)). superblock_bytes k (image_end k (counts_of stored) es) (plain_superblock_length k) (content_place o (plain_superblock_length k)) (root_heap k o)) first
        ∙ sym (ap (superblock_of k (counts_of stored)) first) in
        pushed root.0 (ap (λ (ss : List Size). slice_get ss 0) sizes_here ∙ root.1)
        ∙ (λ i. front i ++ flat_same (numbered_at layout counts (stored_listed objects tree held)) (object_bytes k stored tree table) (object objects tree held) order each_here i)

  pub are_low : AreLow k stored tree
  are_low n o is = elim (met_or_none objects tree held order met n) [
    | inl inside ↦
        let some = there objects tree held order met n inside in
        let s = size_of objects tree held order met k sizes sized n some in
        let found : get tree n ≡ Some (object objects tree held n) = numbers objects tree held n ∙ ap option_flatten (there_is objects tree held n some) in
        let own : object objects tree held n ≡ o = same_Some (object objects tree held n) o (sym found ∙ is) in
        subst (λ (x : Object). IsLowContent k (length (stored n)) x.content) own
        (low_by k (length (stored n)) layout (object objects tree held n).content (s.0).extent (s.2).extent_is)
    | inr none ↦ let never : None ≡ Some o = sym none.0 ∙ is in absurd (cc)
  ]
