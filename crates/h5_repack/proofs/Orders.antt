-- The order in which objects are met is an order of their tree, and where their headers stand is the table of the order.
use Rattle.std.proofs.Common.{◌≡◌, ◌⊎◌, ℕ, zero, suc, ◌+◌, ◌<◌, ◌≤◌, inl, inr, List, [], ◌∷◌, map, refl, sym, ap, ◌∙◌, subst, arith, length, replicate, Option, Some, None, true, false}
use Rattle.std.proofs.lemmas.Slice.Zip.{AllZip-long}
use Rattle.std.proofs.lemmas.List.{length-replicate}
use Rattle.std.proofs.lemmas.Option.{same_Some}
use Rattle.std.specs.Prelude.{slice_get, is_some, IsSome, unwrap_or}
use Rattle.std.specs.Ordering.{nat_cmp, eq_by_cmp}
use Rattle.std.specs.FinMap.{get, empty}
use Rattle.std.specs.List.{AllByRecursion, AllZip, Contains, IsDistinct}
use Rattle.std.specs.Option.{option_flatten, option_map_or}
use Rattle.h5_model.specs.Format.Limits.{most_bytes}
use Rattle.h5_model.specs.Tree.Objects.{Tree, Object, Content, Group, Array, Dataset}
use Rattle.h5_repack.specs.Bodies.Headers.{AreStoredFor}
use Rattle.h5_repack.specs.Image.Plain.{AreStoredIn, IsPlain}
use Rattle.h5_repack.specs.Image.Written.{IsOrder, StoredIn, counts_of, image_end, object_length, table_of}
use Rattle.h5_repack.proofs.ImageLaws.Places.{table_find}
use Rattle.h5_repack.specs.Objects.Objects.{IsFilled, IsNewContent, IsNewObject, SlotsHold, content_chunks, slot_chunks, stored_in}
use Rattle.h5_repack.specs.Objects.Order.{AreMet}
use Rattle.h5_repack.specs.declared.objects.object.NewContent.{NewContent}
use Rattle.h5_repack.specs.declared.objects.object.NewContent.TheVariants as content
use Rattle.h5_repack.specs.declared.objects.object.NewObject.{NewObject}
use Rattle.h5_laws.proofs.Lists.{In, all_in, in_all, in_map, from_map, in_contains, contains_in}
use Rattle.h5_laws.proofs.Pigeonhole.{Apart, apart_of_distinct}
use Rattle.h5_repack.proofs.ObjectLaws.Reached.{met_all}
use Rattle.h5_repack.proofs.ObjectLaws.Trees.{filled_of}
use Rattle.h5_repack.specs.declared.size.Size.{Size}
use Rattle.h5_repack.specs.declared.place.Placed.{Placed}
use Rattle.h5_repack.specs.declared.group.Layout.{Layout}
use Rattle.h5_repack.specs.Layout.{AreHeaders, IsHeldObject, IsLowLayout, IsLowSize, IsSize, IsSlotSize, StoredObject, end_of, header_by, length_by_number, no_size, size_length}
use Rattle.h5_repack.specs.Written.{IsTreeToWrite}
use Rattle.h5_repack.proofs.Headers.{end_same, find_none, headers_found, headers_kept, length-headers, placed_within}
use Rattle.h5_repack.proofs.ObjectLaws.Zips.{filled_below, flat_some, slots_left, zip_left, zip_right}
use Rattle.h5_model.specs.declared.k_values.KValues.{KValues}
use Rattle.h5_model.specs.Format.Plain.{plain_superblock_length}

-- ---- members

module _ (object : ℕ → Object) where
  abbrev pub numbered : ℕ → ℕ × Object
  numbered n = (n, object n)

  pub in_pairs : (ns : List ℕ) (n : ℕ) → In n ns → In (n, object n) (map numbered ns)
  in_pairs ns n there = in_map numbered n ns there

  pub pairs_in : (ns : List ℕ) (n : ℕ) (o : Object) → In (n, o) (map numbered ns) → In n ns × (object n ≡ o)
  pairs_in ns n o there =
      let one = from_map numbered (n, o) ns there in
      let number : one.0 ≡ n = ap (λ (x : ℕ × Object). x.0) one.2 in
      (subst (λ (m : ℕ). In m ns) number one.1, ap object (sym number) ∙ ap (λ (x : ℕ × Object). x.1) one.2)

  numbers_of : (ns : List ℕ) → map (λ (x : ℕ × Object). x.0) (map numbered ns) ≡ ns
  numbers_of [] = refl
  numbers_of (n ∷ ns) = ap (λ ms. n ∷ ms) (numbers_of ns)

-- what is in a slot, with its stored chunks
abbrev pub slot_stored : Option NewObject → Option Object → Option StoredObject
slot_stored slot None = None
slot_stored slot (Some o) = Some (record { object = o; chunks = slot_chunks slot })

abbrev pub slots_stored : List (Option NewObject) → List (Option Object) → List (Option StoredObject)
slots_stored [] listed = []
slots_stored (slot ∷ objects) [] = []
slots_stored (slot ∷ objects) (place ∷ listed) = slot_stored slot place ∷ slots_stored objects listed

slot_held : (slot : Option NewObject) (place : Option Object) → SlotsHold IsNewObject slot place → ((o : Object) → place ≡ Some o → IsPlain o)
    → SlotsHold IsHeldObject slot (slot_stored slot place)
slot_held None None is plain = tt
slot_held None (Some o) is plain = absurd is
slot_held (Some x) None is plain = absurd is
slot_held (Some x) (Some o) is plain = record { new = is; chunks_are = refl; plain = plain o refl }

zip_held : (objects : List (Option NewObject)) (listed : List (Option Object)) → AllZip (SlotsHold IsNewObject) objects listed
    → ((n : ℕ) (o : Object) → slice_get listed n ≡ Some (Some o) → IsPlain o) → AllZip (SlotsHold IsHeldObject) objects (slots_stored objects listed)
zip_held [] [] all plain = tt
zip_held [] (o ∷ listed) all plain = absurd all
zip_held (x ∷ objects) [] all plain = absurd all
zip_held (x ∷ objects) (place ∷ listed) all plain =
    (slot_held x place all.0 (λ o is. plain 0 o (ap (λ (slot : Option Object). Some slot) is)), zip_held objects listed all.1 (λ n p is. plain (suc n) p is))

-- the slot of an object
stored_at : (objects : List (Option NewObject)) (listed : List (Option Object)) → AllZip (SlotsHold IsNewObject) objects listed → (n : ℕ) (o : Object)
    → slice_get listed n ≡ Some (Some o) → slice_get (slots_stored objects listed) n ≡ Some (Some (record { object = o; chunks = stored_in objects n }))
stored_at [] [] all n o is = absurd (cc)
stored_at [] (place ∷ listed) all n o is = absurd all
stored_at (x ∷ objects) [] all n o is = absurd all
stored_at (x ∷ objects) (place ∷ listed) all zero o is =
    ap (λ (r : Option Object). Some (slot_stored x r)) (same_Some place (Some o) is)
stored_at (x ∷ objects) (place ∷ listed) all (suc n) o is = stored_at objects listed all.1 n o is

-- and back
slot_back : (slot : Option NewObject) (place : Option Object) (w : StoredObject) → slot_stored slot place ≡ Some w → (place ≡ Some w.object) × (slot_chunks slot ≡ w.chunks)
slot_back slot None w is = absurd (cc)
slot_back slot (Some o) w is =
    let same : record { object = o; chunks = slot_chunks slot } ≡ w = same_Some (record { object = o; chunks = slot_chunks slot }) w is in
    (ap (λ (v : StoredObject). Some v.object) same, ap (λ (v : StoredObject). v.chunks) same)

stored_back : (objects : List (Option NewObject)) (listed : List (Option Object)) → AllZip (SlotsHold IsNewObject) objects listed → (n : ℕ) (w : StoredObject)
    → slice_get (slots_stored objects listed) n ≡ Some (Some w) → (slice_get listed n ≡ Some (Some w.object)) × (stored_in objects n ≡ w.chunks)
stored_back [] [] all n w is = absurd (cc)
stored_back [] (place ∷ listed) all n w is = absurd all
stored_back (x ∷ objects) [] all n w is = absurd all
stored_back (x ∷ objects) (place ∷ listed) all zero w is =
    let back = slot_back x place w (same_Some (slot_stored x place) (Some w) is) in
    (ap (λ (r : Option Object). Some r) back.0, back.1)
stored_back (x ∷ objects) (place ∷ listed) all (suc n) w is = stored_back objects listed all.1 n w is

-- an empty slot
stored_none : (objects : List (Option NewObject)) (listed : List (Option Object)) → AllZip (SlotsHold IsNewObject) objects listed → (n : ℕ) (slot : Option StoredObject)
    → slice_get (slots_stored objects listed) n ≡ Some slot → option_flatten (slice_get listed n) ≡ None → slot ≡ None
stored_none [] [] all n slot is none = absurd (cc)
stored_none [] (place ∷ listed) all n slot is none = absurd all
stored_none (x ∷ objects) [] all n slot is none = absurd all
stored_none (x ∷ objects) (place ∷ listed) all zero slot is none =
    sym (same_Some (slot_stored x place) slot is) ∙ ap (λ (r : Option Object). slot_stored x r) none
stored_none (x ∷ objects) (place ∷ listed) all (suc n) slot is none = stored_none objects listed all.1 n slot is none

new_stored : (y : NewContent) (d : Dataset) → IsNewContent y (Array d) → AreStoredFor (content_chunks y) d
new_stored (content.Group links) d new = absurd new
new_stored (content.Array a c) d new = new.stored_are

abbrev pub no_object : Object
no_object = record { content = Group empty; attributes = empty; kept = [] }

module _ (objects : List (Option NewObject)) (tree : Tree) (held : IsTreeToWrite objects tree) where
  abbrev pub listed : List (Option Object)
  listed = (held.objects_are).listed

  pub numbers : (n : ℕ) → get tree n ≡ option_flatten (slice_get listed n)
  numbers n = (held.objects_are).numbered n

  abbrev pub stored : StoredIn
  stored = stored_in objects

  -- the objects with their stored chunks
  abbrev pub stored_listed : List (Option StoredObject)
  stored_listed = slots_stored objects listed

  pub all_held : AllZip (SlotsHold IsHeldObject) objects stored_listed
  all_held = zip_held objects listed (held.objects_are).each (λ n o is. held.plain n o (numbers n ∙ ap option_flatten is))

  pub as_many : length objects ≡ length stored_listed
  as_many = sym (AllZip-long (SlotsHold IsHeldObject) objects stored_listed all_held)

  abbrev pub object : ℕ → Object
  object n = unwrap_or (option_flatten (slice_get listed n)) no_object

  pub there_is : (n : ℕ) → IsSome (get tree n) → slice_get listed n ≡ Some (Some (object n))
  there_is n some = go (slice_get listed n) (subst (λ (r : Option Object). IsSome r) (numbers n) some) where
    go : (slot : Option (Option Object)) → IsSome (option_flatten slot) → slot ≡ Some (Some (unwrap_or (option_flatten slot) no_object))
    go None none = absurd (let never : false ≡ true = none in cc)
    go (Some None) none = absurd (let never : false ≡ true = none in cc)
    go (Some (Some o)) is = refl

  abbrev pub stored_object : ℕ → StoredObject
  stored_object n = record { object = object n; chunks = stored n }

  pub stored_there : (n : ℕ) → IsSome (get tree n) → slice_get stored_listed n ≡ Some (Some (stored_object n))
  stored_there n some = stored_at objects listed (held.objects_are).each n (object n) (there_is n some)

  pub found_back : (n : ℕ) (w : StoredObject) → slice_get stored_listed n ≡ Some (Some w) → (slice_get listed n ≡ Some (Some w.object)) × (stored n ≡ w.chunks)
  found_back n w is = stored_back objects listed (held.objects_are).each n w is

  -- the stored chunks that are handed over are those of the tree's arrays
  pub are_stored : AreStoredIn stored tree
  are_stored n o d is e =
      let x = slots_left IsNewObject objects listed n o (held.objects_are).each (flat_some (slice_get listed n) o (sym (numbers n) ∙ is)) in
      let own : AreStoredFor (content_chunks (x.0).content) d = new_stored (x.0).content d (subst (λ (c : Content). IsNewContent (x.0).content c) e (x.2).content) in
      subst (λ (chunks : List (List ℕ)). AreStoredFor chunks d) (sym (ap (λ (slot : Option (Option NewObject)). slot_chunks (option_flatten slot)) x.1)) own

  module _ (order : List ℕ) (met : AreMet tree order) where
    abbrev pub pairs : List (ℕ × Object)
    pairs = map (numbered object) order

    pub there : (n : ℕ) → In n order → IsSome (get tree n)
    there n at = in_all (λ m. IsSome (get tree m)) n order met.there at

    pub filled : AllByRecursion (IsFilled objects) order
    filled = all_in (IsFilled objects) order (λ n at. filled_of objects tree held.objects_are n (there n at))

    pub below : (n : ℕ) → In n order → n < length objects
    below n at = filled_below objects n (in_all (IsFilled objects) n order filled at)

    pub apart : Apart order
    apart = apart_of_distinct order met.distinct

    pub in_order : (n : ℕ) → IsSome (get tree n) → In n order
    in_order n some = in_contains n order (met_all tree order held.sound met n some)

    -- a number is met, or has no object
    pub met_or_none : (n : ℕ) → In n order ⊎ ((get tree n ≡ None) × (In n order → ⊥))
    met_or_none n = go (get tree n) refl where
      go : (found : Option Object) → get tree n ≡ found → In n order ⊎ ((get tree n ≡ None) × (In n order → ⊥))
      go (Some o) is = inl (in_order n (ap is_some is))
      go None is = inr (is, λ at. let some = there n at in absurd (let never : false ≡ true = sym (ap is_some is) ∙ some in cc))

    pub root_in : In 0 order
    root_in = subst (λ (ns : List ℕ). In 0 ns) (sym met.first) (inl refl)

    pub some_objects : 0 < length objects
    some_objects = below 0 root_in

    got : (n : ℕ) → In n order → get tree n ≡ Some (object n)
    got n at = numbers n ∙ ap option_flatten (there_is n (there n at))

    all_there : (n : ℕ) (o : Object) → get tree n ≡ Some o → Contains pairs (n, o)
    all_there n o is =
        let inside : In n order = in_order n (ap is_some is) in
        let own : object n ≡ o = same_Some (object n) o (sym (got n inside) ∙ is) in
        contains_in (n, o) pairs (subst (λ (x : Object). In (n, x) pairs) own (in_pairs object order n inside))

    pub is_order : IsOrder tree pairs
    is_order = record {
      root = object 0;
      others = map (numbered object) met.others;
      first = ap (map (numbered object)) met.first;
      each = λ n o at. let own = pairs_in object order n o (in_contains (n, o) pairs at) in got n own.0 ∙ ap (λ (x : Object). Some x) own.1;
      all = all_there;
      distinct = subst (λ (ns : List ℕ). IsDistinct (eq_by_cmp nat_cmp) ns) (sym (numbers_of object order)) met.distinct;
    }

    module _ (k : KValues) (sizes : List Size) (sized : AllZip (IsSlotSize k) stored_listed sizes) where
      pub as_many_sizes : length objects ≡ length sizes
      as_many_sizes = as_many ∙ sym (AllZip-long (IsSlotSize k) stored_listed sizes sized)

      pub size_of : (n : ℕ) → IsSome (get tree n) → (s : Size) × (slice_get sizes n ≡ Some s) × IsSize k (stored_object n) s
      size_of n some = zip_right (IsSlotSize k) stored_listed sizes n (Some (stored_object n)) sized (stored_there n some)

      low_slot : (place : Option StoredObject) (s : Size) → IsSlotSize k place s → IsLowSize s
      low_slot (Some o) s is = is.low
      low_slot None s is = subst IsLowSize (sym is) (record { header = omega arith; extent_low = omega arith })

      pub low_size : (n : ℕ) (s : Size) → slice_get sizes n ≡ Some s → IsLowSize s
      low_size n s found = let place = zip_left (IsSlotSize k) stored_listed sizes n s sized found in low_slot place.0 s place.2

      -- a number without an object has no bytes
      pub empty_size : (n : ℕ) (s : Size) → get tree n ≡ None → slice_get sizes n ≡ Some s → s ≡ no_size
      empty_size n s none found =
          let place = zip_left (IsSlotSize k) stored_listed sizes n s sized found in
          go place.0 (stored_none objects listed (held.objects_are).each n place.0 place.1 (sym (numbers n) ∙ none)) place.2 where
            go : (place : Option StoredObject) → place ≡ None → IsSlotSize k place s → s ≡ no_size
            go None is size = size
            go (Some o) is size = absurd (cc)

      pub length_is : (n : ℕ) (s : Size) → slice_get sizes n ≡ Some s → length_by_number sizes n ≡ size_length s
      length_is n s found = ap (λ (r : Option Size). option_map_or size_length r 0) found

      pub lengths_are : (n : ℕ) → In n order → object_length k (counts_of stored n) (object n) ≡ length_by_number sizes n
      lengths_are n at = let s = size_of n (there n at) in sym (length_is n s.0 s.1 ∙ (s.2).whole)

      pub end_is : image_end k (counts_of stored) pairs ≡ end_of (length_by_number sizes) (plain_superblock_length k) order
      end_is = end_same (length_by_number sizes) k (counts_of stored) object (plain_superblock_length k) order lengths_are

      abbrev nowhere : List (Option ℕ)
      nowhere = replicate (length sizes) None

      below_nowhere : (n : ℕ) → In n order → n < length nowhere
      below_nowhere n at = omega (arith, below n at, length-replicate {A = Option ℕ} (length sizes) None, as_many_sizes)

      module _ (p : Placed) (are : AreHeaders k sizes order p) where
        pub as_many_headers : length p.headers.items ≡ length sizes
        as_many_headers = ap length are.headers_are ∙ length-headers (length_by_number sizes) (plain_superblock_length k) order nowhere ∙ length-replicate {A = Option ℕ} (length sizes) None

        -- a number that is not met has no header
        pub no_header : (n : ℕ) → (In n order → ⊥) → option_flatten (slice_get p.headers.items n) ≡ None
        no_header n other =
            ap (λ (hs : List (Option ℕ)). option_flatten (slice_get hs n)) are.headers_are
            ∙ ap option_flatten (headers_kept (length_by_number sizes) (plain_superblock_length k) order nowhere n other) ∙ none_at (length sizes) n where
              none_at : (y m : ℕ) → ◌≡◌ {A = Option ℕ} (option_flatten (slice_get (replicate y None) m)) None
              none_at zero m = refl
              none_at (suc y) zero = refl
              none_at (suc y) (suc m) = none_at y m

        pub headers_are : (n : ℕ) → option_flatten (slice_get p.headers.items n) ≡ get (table_of k (counts_of stored) pairs) n
        headers_are n = elim (met_or_none n) [
          | inl inside ↦
              ap (λ (hs : List (Option ℕ)). option_flatten (slice_get hs n)) are.headers_are
              ∙ headers_found (length_by_number sizes) k (counts_of stored) object (plain_superblock_length k) order nowhere lengths_are apart below_nowhere n inside ∙ sym (table_find k (counts_of stored) pairs n)
          | inr none ↦
              no_header n none.1 ∙ sym (table_find k (counts_of stored) pairs n ∙ find_none (length_by_number sizes) k (counts_of stored) object (plain_superblock_length k) order n none.1)
        ]

        pub low_layout : (l : Layout) → l.headers.now ≡ p.headers.items → l.sizes.now ≡ sizes → IsLowLayout l
        low_layout l headers_is sizes_is = record {
          same = ap length headers_is ∙ as_many_headers ∙ sym (ap length sizes_is);
          each = λ n s found. each_low n s (sym (ap (λ (ss : List Size). slice_get ss n) sizes_is) ∙ found);
          low = λ n s found. low_size n s (sym (ap (λ (ss : List Size). slice_get ss n) sizes_is) ∙ found);
        } where
          stands : (n : ℕ) (found : Option ℕ) → option_flatten (slice_get p.headers.items n) ≡ found → header_by l n ≡ unwrap_or found 0
          stands n found is = ap (λ (hs : List (Option ℕ)). unwrap_or (option_flatten (slice_get hs n)) 0) headers_is ∙ ap (λ (r : Option ℕ). unwrap_or r 0) is

          each_low : (n : ℕ) (s : Size) → slice_get sizes n ≡ Some s → header_by l n + size_length s ≤ most_bytes
          each_low n s found = elim (met_or_none n) [
            | inl inside ↦
                let at = placed_within (length_by_number sizes) (plain_superblock_length k) order nowhere apart below_nowhere n inside in
                let place : option_flatten (slice_get p.headers.items n) ≡ Some at.0
                = ap (λ (hs : List (Option ℕ)). option_flatten (slice_get hs n)) are.headers_are ∙ ap option_flatten at.1 in
                omega (arith, stands n (Some at.0) place, at.2, length_is n s found, are.end_is, are.few)
            | inr none ↦
                let size : size_length s ≡ 0 = ap size_length (empty_size n s none.0 found) in
                omega (arith, stands n None (no_header n none.1), size)
          ]
