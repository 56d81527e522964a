-- How many bytes objects have, as they are measured.
use Rattle.std.proofs.Common.{Vec, Global, ◌≡◌, ℕ, ◌+◌, ◌*◌, ◌<◌, ◌≤◌, List, map, refl, sym, ap, ap₂, ◌∙◌, subst, arith, length, Some, None, Option, true, false, Bool, eqb-true}
use Rattle.std.proofs.lemmas.Slice.Zip.{AllZip-long}
use Rattle.std.specs.Prelude.{◌==◌, if◌then◌else◌, slice_get}
use Rattle.std.specs.List.{AllZip}
use Rattle.std.specs.FinMap.{entries, len, len-entries}
use Rattle.h5_model.specs.Edits.Refusal.{are_maxima}
use Rattle.h5_model.specs.Format.Limits.{most_bytes, highest_level}
use Rattle.h5_model.specs.Format.Plain.{messages_bytes}
use Rattle.h5_model.specs.Format.PlainLength.{content_bytes, data_bytes, nodes_over, rows_of}
use Rattle.h5_model.specs.Format.Sizes.{chunk_node, header_size}
use Rattle.h5_model.specs.Tree.Objects.{Content, Group, Array, Dataset, Storage, Compact, Contiguous, Chunked}
use Rattle.h5_btree.specs.Writing.Written.{root_level}
use Rattle.h5_repack.specs.Bodies.Bodies.{others_of}
use Rattle.h5_model.specs.Format.Superblock.{chunk_k_of}
use Rattle.h5_model.specs.Format.Messages.{most_messages}
use Rattle.h5_repack.specs.Bodies.Headers.{IsLowStorage}
use Rattle.h5_repack.specs.Bodies.Sound.{ArePlainChunks, IsPlainArray, IsPlainStorage}
use Rattle.h5_repack.proofs.BodyLaws.ChunkSizes.{some_cell}
use Rattle.h5_repack.proofs.BlockLaws.StoredChunks.{chunks_high}
use Rattle.h5_repack.proofs.ChunkLaws.ChunkLevels.{none_level}
use Rattle.h5_model.proofs.PlainValues.{size-low}
use Rattle.std.proofs.Math.Nat.{mul-le-mul}
use Rattle.h5_repack.proofs.BodyLaws.HeaderGroup.{length-group_header, group_header-size}
use Rattle.h5_repack.proofs.BodyLaws.HeaderLengths.{array_length}
use Rattle.h5_repack.proofs.BodyLaws.HeaderOthers.{length-others}
use Rattle.h5_repack.proofs.BodyLaws.HeaderSpace.{maxima_fit}
use Rattle.h5_group.specs.Heap.Links.{Leads}
use Rattle.h5_group.specs.Writing.Laws as laws
use Rattle.h5_group.specs.Writing.Places.{ArePlaces}
use Rattle.h5_group.specs.Writing.Written.{links_length, tree_level}
use Rattle.h5_group.specs.declared.write.places.GroupPlaces.{GroupPlaces}
use Rattle.h5_group.proofs.WriteLaws.Lengths.{group_length}
use Rattle.h5_repack.specs.Blocks.ArrayHeader.{FitsLayout, IsArrayToWrite, IsLength, group_written, header_written, data_written}
use Rattle.h5_repack.specs.Blocks.Others.{OthersBytes}
use Rattle.h5_repack.specs.Blocks.Written.{AreCellsToWrite, AreOthers, HasRoom, chunks_of}
use Rattle.h5_model.specs.Format.Described.{Described}
use Rattle.h5_repack.specs.declared.blocks.cells.Cells.{Cells}
use Rattle.h5_repack.specs.declared.blocks.cells.Cells.TheVariants.{Unset, Filled, Stored, Chunks}
use Rattle.h5_model.specs.Tree.Places.{cells}
use Rattle.h5_repack.proofs.BlockLaws.HeaderLaws.{group_is, header_is, data_is, fits_is, room_is, whole_is}
use Rattle.h5_repack.specs.Image.Plain.{IsLow, IsLowContent, IsPlain, IsPlainContent}
use Rattle.h5_repack.proofs.ImageLaws.Arrays.{stored_bytes}
use Rattle.h5_model.specs.Tree.Links.{tree_link}
use Rattle.h5_repack.specs.Objects.Objects.{IsNewContent, content_chunks}
use Rattle.h5_repack.specs.declared.objects.object.NewContent.{NewContent}
use Rattle.h5_repack.specs.declared.objects.object.NewContent.TheVariants as content
use Rattle.h5_repack.specs.declared.objects.object.NewObject.{NewObject}
use Rattle.h5_model.specs.declared.object_no.ObjectNo.{ObjectNo}
use Rattle.h5_model.specs.declared.link.Link.{Link}
use Rattle.h5_repack.specs.declared.size.Extent.{Extent}
use Rattle.h5_repack.specs.declared.size.Extent.TheVariants as extent
use Rattle.h5_repack.specs.declared.size.Size.{Size}
use Rattle.h5_repack.specs.declared.group.Layout.{Layout}
use Rattle.h5_repack.specs.declared.write.WriteFault.{WriteFault}
use Rattle.h5_repack.specs.declared.write.WriteFault.TheVariants.{TooLong, TooDeep, NoMemory}
use Rattle.h5_repack.specs.Layout.{AreUnmeasured, IsArrayObject, IsExtent, IsGroupObject, IsHeldObject, IsLowExtent, IsSize, IsUnmeasured, StoredObject, extent_length, stored_length, written_at}
use Rattle.h5_repack.proofs.Leads.{all_written, same_places}
use Rattle.h5_model.specs.declared.k_values.KValues.{KValues}

-- ---- a group and an array among objects

pub group_of : (x : NewObject) (o : StoredObject) (links : Vec (Link ObjectNo) Global) → x.content ≡ content.Group links → IsHeldObject x o → IsGroupObject links.items x.others o
group_of x o links is held = by_content (o.object).content refl (subst (λ (y : NewContent). IsNewContent y (o.object).content) is (held.new).content) where
  by_content : (d : Content) → (o.object).content ≡ d → IsNewContent (content.Group links) d → IsGroupObject links.items x.others o
  by_content (Group g) e new = record { group = g; content = e; linked = new; others_are = (held.new).others; plain = held.plain }
  by_content (Array d) e new = absurd new

pub array_of : (x : NewObject) (o : StoredObject) (a : Described) (c : Cells) → x.content ≡ content.Array a c → IsHeldObject x o → IsArrayObject a c x.others o
array_of x o a c is held = by_content (o.object).content refl (subst (λ (y : NewContent). IsNewContent y (o.object).content) is (held.new).content) where
  by_content : (d : Content) → (o.object).content ≡ d → IsNewContent (content.Array a c) d → IsArrayObject a c x.others o
  by_content (Group g) e new = absurd new
  by_content (Array d) e new = record {
    dataset = d;
    content = e;
    array_is = new;
    chunks_are = sym (ap content_chunks is) ∙ held.chunks_are;
    others_are = (held.new).others;
    plain = held.plain;
  }

-- the other messages are no longer than the header
pub others_low : (k : KValues) (others : OthersBytes) (o : StoredObject) (s : Size) → AreOthers (others_of o.object) others → IsPlain o.object → IsSize k o s → length others.bytes ≤ most_bytes
others_low k others o s are plain size = omega (arith, ap length are.bytes_are, length-others o.object plain.others, size.header, (size.low).header)

-- ---- groups

module _ (links : List (Link ObjectNo)) (others : OthersBytes) (o : StoredObject) (is : IsGroupObject links others o) where
  pub group_header_length : (tree heap : ℕ) → length (group_written tree heap others) ≡ header_size o.object
  group_header_length tree heap =
      let forty : 40 ≡ 16 + 24 = refl in
      ap length (group_is tree heap (others_of o.object) others is.others_are) ∙ length-group_header tree heap (others_of o.object)
      ∙ ap (λ n. n + length (messages_bytes (others_of o.object))) forty ∙ group_header-size o.object is.group (is.plain).others is.content

  -- however the links are written
  module _ (k : KValues) (l : Layout) (bare : List (List ℕ × Leads)) (bare_is : bare ≡ map (written_at l) (map tree_link links)) where
    pub own_written : AllZip laws.IsLinkWritten (entries is.group) bare
    own_written = subst (AllZip laws.IsLinkWritten (entries is.group)) (sym (bare_is ∙ ap (map (written_at l)) is.linked)) (all_written l (entries is.group))

    pub own_length : links_length k.leaf k.internal bare ≡ content_bytes k (length o.chunks) (o.object).content
    own_length = group_length k.leaf k.internal is.group bare own_written ∙ sym (ap (content_bytes k (length o.chunks)) is.content)

    pub own_count : length bare ≡ len is.group
    own_count = AllZip-long laws.IsLinkWritten (entries is.group) bare own_written ∙ sym (len-entries is.group)

    pub group_long : most_bytes < links_length k.leaf k.internal bare → most_bytes < stored_length k o
    group_long long = omega (arith, long, own_length)

    pub group_deep : highest_level < tree_level k.leaf k.internal bare → IsLowContent k (length o.chunks) (o.object).content → ⊥
    group_deep deep low =
        let level : highest_level < root_level k.internal (rows_of (2 * k.leaf) (len is.group)) = subst (λ n. highest_level < root_level k.internal (rows_of (2 * k.leaf) n)) own_count deep in
        let own : IsLow k.leaf k.internal is.group = subst (IsLowContent k (length o.chunks)) is.content low in
        omega (arith, own, level)

    pub group_size : (header : ℕ) (p : GroupPlaces) → header ≡ length (group_written 0 0 others) → header ≤ most_bytes → ArePlaces k.leaf k.internal bare p
        → IsSize k o (record { header = header; extent = extent.Links p })
    group_size header p header_is low places =
        let size : header ≡ header_size o.object = header_is ∙ group_header_length 0 0 in
        let length_is : p.length ≡ content_bytes k (length o.chunks) (o.object).content = places.length_is ∙ own_length in
        record {
          header = size;
          extent_is = subst (λ (c : Content). IsExtent k (length o.chunks) c (extent.Links p)) (sym is.content)
              (λ ls all. same_places k.leaf k.internal (entries is.group) bare ls p own_written all places);
          whole = ap₂ (λ (a b : ℕ). a + b) size length_is;
          low = record { header = low; extent_low = (omega (arith, places.tree, places.length_is), places.few) };
        }

-- ---- arrays

extent_few : (x : Extent) → IsLowExtent x → extent_length x ≤ most_bytes
extent_few (extent.Links p) low = low.1
extent_few (extent.Data n) low = low

-- an array in chunks has at least a byte for each
chunks_below : (k count : ℕ) (d : Dataset) (chunk : List ℕ) → d.storage ≡ Chunked chunk → {others : ℕ} → IsPlainArray d others → count ≤ data_bytes k count d
chunks_below k count d chunk e is =
    let plain : ArePlainChunks d.fixed chunk = subst (IsPlainStorage d) e is.stored in
    let some : 1 ≤ cells chunk * (d.fixed).size = mul-le-mul (some_cell chunk plain.some) (size-low d.fixed is.fixed) in
    let high = chunks_high count (cells chunk * (d.fixed).size) some in
    rw e (by_count (count == 0) refl high) where
      by_count : (b : Bool) → (count == 0) ≡ b → count ≤ count * (cells chunk * (d.fixed).size)
          → count ≤ (if b then 0 else nodes_over 64 (2 * k) count * chunk_node k (length chunk) + count * (cells chunk * (d.fixed).size))
      by_count true none high = let zero_is = eqb-true count 0 none in omega (arith, zero_is)
      by_count false some high = omega (arith, high)

module _ (a : Described) (c : Cells) (others : OthersBytes) (o : StoredObject) (is : IsArrayObject a c others o) where
  own_content : IsPlainContent (length (others_of o.object)) (Array is.dataset)
  own_content = subst (IsPlainContent (length (others_of o.object))) is.content (is.plain).content

  own_array : IsPlainArray is.dataset (length (others_of o.object))
  own_array = own_content.0

  pub array_fits : FitsLayout (cells a.sizes * (a.fixed).size) a.layout
  array_fits = fits_is a c is.dataset is.array_is (own_array).stored

  pub array_room : HasRoom c (cells a.sizes * (a.fixed).size)
  array_room = room_is a c is.dataset is.array_is ((own_array).sound).counted

  pub array_bounded : are_maxima a.sizes a.maxima ≡ true
  array_bounded =
      (λ i. are_maxima ((is.array_is).sizes_are i) ((is.array_is).maxima_are i)) ∙ maxima_fit (is.dataset).sizes (is.dataset).maxima (own_array).bounded

  pub array_writable : IsArrayToWrite a c
  array_writable = record { bounded = array_bounded; fits = array_fits; room = array_room; chunks = whole_is a c is.dataset is.array_is }

  pub array_few : others.count + 3 ≤ most_messages
  array_few = omega (arith, (is.others_are).count_is, own_content.1)

  pub array_header_size : (count : ℕ) (address : Option ℕ) → length (header_written count a c others address) ≡ header_size o.object
  array_header_size count address =
      ap length (header_is a c is.dataset is.array_is others (others_of o.object) is.others_are count address)
      ∙ array_length count address o.object is.dataset (is.plain).others is.content own_array

  pub array_bytes : (chunk_k : ℕ) → 1 ≤ chunk_k → (place : ℕ) → length (data_written chunk_k c a place) ≡ data_bytes chunk_k (length o.chunks) is.dataset
  array_bytes chunk_k some_k place =
      ap length (data_is a c is.dataset is.array_is chunk_k place)
      ∙ sym (stored_bytes chunk_k some_k (chunks_of c) (length (others_of o.object)) place is.dataset own_array (is.array_is).stored_are)
      ∙ ap (λ (chunks : List (List ℕ)). data_bytes chunk_k (length chunks) is.dataset) is.chunks_are

  -- each chunk has a byte
  pub chunks_few : (chunk_k : ℕ) → 1 ≤ chunk_k → length (data_written chunk_k c a 0) ≤ most_bytes → length (chunks_of c) ≤ most_bytes
  chunks_few chunk_k some_k low =
      let same : data_bytes chunk_k (length (chunks_of c)) is.dataset ≡ data_bytes chunk_k (length o.chunks) is.dataset
      = ap (λ (chunks : List (List ℕ)). data_bytes chunk_k (length chunks) is.dataset) is.chunks_are in
      omega (arith, low, array_bytes chunk_k some_k 0, same, few_by c (is.array_is).cells_are) where
        few_by : (cs : Cells) → AreCellsToWrite cs is.dataset → length (chunks_of cs) ≤ data_bytes chunk_k (length (chunks_of cs)) is.dataset
        few_by Unset are = omega arith
        few_by Filled are = omega arith
        few_by (Stored bytes) are = omega arith
        few_by (Chunks held) are = chunks_below chunk_k (length (chunks_of (Chunks held))) is.dataset held.chunk are.storage_is own_array

  -- the tree of the chunks that are handed over is that of the array's
  pub tree_low : (chunk_k : ℕ) → IsLowStorage chunk_k (length o.chunks) (is.dataset).storage → root_level chunk_k (length (chunks_of c)) ≤ highest_level
  tree_low chunk_k low = level_by c (is.array_is).cells_are (subst (λ (chunks : List (List ℕ)). IsLowStorage chunk_k (length chunks) (is.dataset).storage) (sym is.chunks_are) low) where
    level_by : (cs : Cells) → AreCellsToWrite cs is.dataset → IsLowStorage chunk_k (length (chunks_of cs)) (is.dataset).storage → root_level chunk_k (length (chunks_of cs)) ≤ highest_level
    level_by Unset are own = none_level chunk_k
    level_by Filled are own = none_level chunk_k
    level_by (Stored bytes) are own = none_level chunk_k
    level_by (Chunks held) are own = subst (IsLowStorage chunk_k (length (chunks_of (Chunks held)))) are.storage_is own

  low_tree : (chunk_k : ℕ) → root_level chunk_k (length (chunks_of c)) ≤ highest_level → IsLowStorage chunk_k (length o.chunks) (is.dataset).storage
  low_tree chunk_k low = by_storage (is.dataset).storage (subst (λ (chunks : List (List ℕ)). root_level chunk_k (length chunks) ≤ highest_level) is.chunks_are low) where
    by_storage : (s : Storage) → root_level chunk_k (length o.chunks) ≤ highest_level → IsLowStorage chunk_k (length o.chunks) s
    by_storage Compact own = tt
    by_storage (Contiguous held) own = tt
    by_storage (Chunked chunk) own = own

  module _ (k : KValues) (chunk_k : ℕ) (k_is : chunk_k ≡ chunk_k_of k) (some_k : 1 ≤ chunk_k) where
    pub array_content : (place : ℕ) → length (data_written chunk_k c a place) ≡ content_bytes k (length o.chunks) (o.object).content
    array_content place =
        array_bytes chunk_k some_k place ∙ ap (λ n. data_bytes n (length o.chunks) is.dataset) k_is ∙ sym (ap (content_bytes k (length o.chunks)) is.content)

    -- data that an image cannot have
    pub array_long : ((place : ℕ) → IsLength None (length (data_written chunk_k c a place))) → most_bytes < stored_length k o
    array_long long = omega (arith, long 0, array_content 0)

    -- a tree of chunks that is too deep
    pub array_deep : highest_level < root_level chunk_k (length (chunks_of c)) → IsLowContent k (length o.chunks) (o.object).content → ⊥
    array_deep deep low =
        let own : IsLowStorage (chunk_k_of k) (length o.chunks) (is.dataset).storage = subst (IsLowContent k (length o.chunks)) is.content low in
        let level = tree_low chunk_k (subst (λ n. IsLowStorage n (length o.chunks) (is.dataset).storage) (sym k_is) own) in
        omega (arith, deep, level)

    pub array_size : (header data_length : ℕ) → header ≡ length (header_written 0 a c others None) → header ≤ most_bytes
        → ((place : ℕ) → IsLength (Some data_length) (length (data_written chunk_k c a place))) → root_level chunk_k (length (chunks_of c)) ≤ highest_level
        → IsSize k o (record { header = header; extent = extent.Data data_length })
    array_size header data_length header_is low length_is level =
        let size : header ≡ header_size o.object = header_is ∙ array_header_size 0 None in
        let long : data_length ≡ data_bytes (chunk_k_of k) (length o.chunks) is.dataset
        = (length_is 0).0 ∙ array_bytes chunk_k some_k 0 ∙ ap (λ n. data_bytes n (length o.chunks) is.dataset) k_is in
        let tree : IsLowStorage (chunk_k_of k) (length o.chunks) (is.dataset).storage
        = subst (λ n. IsLowStorage n (length o.chunks) (is.dataset).storage) k_is (low_tree chunk_k level) in
        record {
          header = size;
          extent_is = subst (λ (y : Content). IsExtent k (length o.chunks) y (extent.Data data_length)) (sym is.content) (long, tree);
          whole = ap₂ (λ (a b : ℕ). a + b) size ((length_is 0).0 ∙ array_content 0);
          low = record { header = low; extent_low = omega (arith, (length_is 0).0, (length_is 0).1) };
        }

    -- of an object that has a size the data and the tree of chunks are low
    pub data_low : (s : Size) → IsSize k o s → (place : ℕ) → length (data_written chunk_k c a place) ≤ most_bytes
    data_low s size place = omega (arith, array_content place, size.whole, size.header, extent_few s.extent (size.low).extent_low)

    pub level_low : (s : Size) → IsSize k o s → root_level chunk_k (length (chunks_of c)) ≤ highest_level
    level_low s size = tree_low chunk_k (subst (λ n. IsLowStorage n (length o.chunks) (is.dataset).storage) (sym k_is)
        (by_extent s.extent (subst (λ (y : Content). IsExtent k (length o.chunks) y s.extent) is.content size.extent_is))) where
          by_extent : (x : Extent) → IsExtent k (length o.chunks) (Array is.dataset) x → IsLowStorage (chunk_k_of k) (length o.chunks) (is.dataset).storage
          by_extent (extent.Links p) own = absurd own
          by_extent (extent.Data n) own = own.1

-- ---- all objects

-- a fault at one of the objects
pub unmeasured_at : (k : KValues) (listed : List (Option StoredObject)) (number : ℕ) (o : StoredObject) (fault : WriteFault) → slice_get listed number ≡ Some (Some o)
    → IsUnmeasured k o fault → AreUnmeasured k listed fault
unmeasured_at k listed number o TooLong is un = (number, o, is, un)
unmeasured_at k listed number o TooDeep is un = (number, o, is, un)
unmeasured_at k listed number o NoMemory is un = tt
