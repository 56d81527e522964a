-- How many bytes a write may add to the image, and which chunks: those of the storage that is missing (File Format Specification 3.0,
-- sections III.A.1 and IV.A.2.i).
use Rattle.std.proofs.Common.{◌≡◌, ℕ, zero, suc, ◌+◌, ◌*◌, ◌<◌, ◌&&◌, ◌||◌, List, [], Bool, true, false, not, nat_lt, Option, Some, None, length, refl, sym, ap, ◌∙◌, subst, arith}
use Rattle.std.proofs.lemmas.Bool.Decides.{nat_tests}
use Rattle.std.specs.Prelude.{ℤ, ◌↔◌, ◌==◌, if◌then◌else◌, is_some}
use Rattle.std.specs.FinMap.{get}
use Rattle.std.specs.List.{list_any}
use Rattle.h5_bytes.specs.declared.Block.{Block}
use Rattle.h5_header.proofs.FoundLaws.{among_some}
use Rattle.h5_layout.specs.HeldChunks.{IsChunkMet}
use Rattle.h5_layout.specs.NewChunks.{AreMissing, ChunkOffsets}
use Rattle.h5_layout.specs.Standing.{is_stored_in}
use Rattle.h5_layout.proofs.RisingLaws.{rising_rises}
use Rattle.h5_layout.proofs.RoomLaws.{is_array}
use Rattle.h5_layout.proofs.StandingLaws.{HasBoxes, boxes_of}
use Rattle.h5_model.specs.Edits.Bounds.{chunks_bound, new_chunks, write_bound}
use Rattle.h5_model.specs.Edits.Facts.{Facts}
use Rattle.h5_model.specs.Format.Chunks.{Chunks}
use Rattle.h5_model.specs.Format.Layout.{Layout, InMessage, InBlock, InChunks, layout_of}
use Rattle.h5_model.specs.Format.Messages.{Message}
use Rattle.h5_model.specs.Format.Nodes.{chunk_kind, node_length}
use Rattle.h5_model.specs.Format.Reached.{Shape}
use Rattle.h5_model.specs.Format.Sizes.{chunk_node}
use Rattle.h5_model.specs.Format.Superblock.{chunk_k, k_values}
use Rattle.h5_model.specs.Format.Described.{Described, HasArray, storage_of}
use Rattle.h5_model.specs.Tree.Grid.{corner_of}
use Rattle.h5_model.specs.Tree.Objects.{Dataset, Contiguous}
use Rattle.h5_model.specs.Tree.Places.{cells, index_of, place_of}
use Rattle.h5_model.specs.Views.Selection.{Slab, Within, axes_of, selection_of}
use Rattle.h5_model.specs.declared.edits.Edit.{Edit}
use Rattle.h5_model.specs.declared.edits.Edit.TheVariants.{Write}
use Rattle.h5_model.specs.declared.hyperslab.Hyper.{Hyper}
use Rattle.h5_model.proofs.PlaceLaws.{index-place}
use Rattle.h5_query.specs.Data.{dataset_told, stored_chunks}
use Rattle.h5_model.proofs.Members.{contains_in, in_contains}
use Rattle.h5_model.proofs.RowLaws.{equal_number}
use Rattle.h5_laws.proofs.SoundLaws.NewPaths.{none_any}
use Rattle.h5_layout.specs.Storage.{IsDeepFor, IsDeepIn, IsFullInNewTree, IsFullInTurn, chunks_room_in, storage_bytes}
use Rattle.h5_layout.specs.Lacking.{IsMissingIn, lacks_cells}
use Rattle.h5_layout.specs.declared.lacking.Missing.{Missing}
use Rattle.h5_layout.specs.declared.lacking.Missing.TheVariants as missing
use Rattle.h5_layout.proofs.ChosenPlaces.{selected_place}
use Rattle.h5_layout.proofs.LackingLaws.{lacking_some}
use Rattle.h5_edit.proofs.WriteBound.{new_are}
use Rattle.h5_edit.proofs.WrittenTrees.{some_of, storage_kept}

-- ---- what messages say of chunks

module _ (ms : List Message) (a : Described) (has : HasArray ms a) (chunk : List ℕ) (root : Option ℕ) (is : a.layout ≡ InChunks chunk root) where
  ranked : length chunk ≡ length a.sizes
  ranked =
      let room = (is_array ms a has).room in
      equal_number (length chunk) (length a.sizes) (rw is at room)

  some_cells : 0 < cells chunk
  some_cells =
      let found = among_some (layout_of a.sizes a.fixed.size) 8 ms a.layout has.laid_out in
      subst HasBoxes is (boxes_of a.sizes a.fixed.size (found.0).body a.layout found.3)

-- ---- lists and numbers

none_there : (found : Option ℕ) → is_some found ≡ false → found ≡ None
none_there None is = refl
none_there (Some n) is = absurd (let never : true ≡ false = is in cc)

bound_some : (k rank bytes m : ℕ) → 0 < m → chunks_bound k rank bytes m ≡ m * (bytes + 17 * chunk_node k rank) + chunk_node k rank
bound_some k rank bytes m some =
    let past : (m == 0) ≡ false = grind (arith, nat_tests, some) in
    ap (λ (b : Bool). if b then 0 else m * (bytes + 17 * chunk_node k rank) + chunk_node k rank) past

node_long : (k rank : ℕ) → chunk_node k rank ≡ node_length (chunk_kind k rank)
node_long k rank = omega arith

-- storage that a write leaves as it is
no_block : (stored some : Bool) → Contiguous (stored || some) ≡ Contiguous stored → (not stored && some) ≡ false
no_block true some is = refl
no_block false some is = cc

-- what the image says of a write, where these of the missing chunks are said to find no room
abbrev pub storage_facts : List ℕ → Described → (ℕ → Bool) → Facts
storage_facts image a top = record {
  length = length image;
  k = k_values image;
  total = 0;
  has_maxima = false;
  heap = 0;
  is_stored = λ offsets. is_some (get (stored_chunks image a.fixed a.layout) offsets);
  splits_top = top;
}

module _ (image : List ℕ) (ms : List Message) (a : Described) (has : HasArray ms a) (path : List ℕ) (hyper : Hyper) (values : List ℤ)
    (within : Within a.sizes (axes_of hyper)) (top : ℕ → Bool) where
  abbrev edit : Edit
  edit = Write path hyper values

  abbrev slab : Slab
  slab = axes_of hyper

  abbrev facts : Facts
  facts = storage_facts image a top

  -- the array with this layout
  abbrev dataset_by : Layout → Dataset
  dataset_by l = record (dataset_told image a) { storage = storage_of a.sizes l }

  abbrev chunks : Chunks
  chunks = stored_chunks image a.fixed a.layout

  -- some selected cell has no storage, by this layout
  lacks_by : (l : Layout) → a.layout ≡ l
      → lacks_cells image a slab ≡ list_any (λ place. not (is_stored_in l chunks (index_of a.sizes place))) (selection_of a.sizes slab)
  lacks_by l is = ap (λ (x : Layout). list_any (λ place. not (is_stored_in x chunks (index_of a.sizes place))) (selection_of a.sizes slab)) is

  -- ---- chunks

  module _ (chunk : List ℕ) (root : Option ℕ) (is : a.layout ≡ InChunks chunk root) where
    abbrev new_there : List (List ℕ)
    new_there = new_chunks facts edit (dataset_by (InChunks chunk root))

    missing_are : (new : ChunkOffsets) → AreMissing image a chunk slab new → new_there ≡ new.offsets
    missing_are new are =
        new_are facts path hyper values (dataset_by (InChunks chunk root)) chunk refl (ranked ms a has chunk root is) (some_cells ms a has chunk root is) within new.offsets
        (rising_rises new.offsets are.rising)
        (λ first at. let of = (are.each first).0 (contains_in first new.offsets at) in (of.0, ap (λ (found : Option ℕ). is_some found) of.1))
        (λ first met unstored. in_contains first new.offsets ((are.each first).1 (met, none_there _ unstored)))

    none_are : lacks_cells image a slab ≡ false → new_there ≡ []
    none_are none =
        new_are facts path hyper values (dataset_by (InChunks chunk root)) chunk refl (ranked ms a has chunk root is) (some_cells ms a has chunk root is) within [] tt
        (λ first at. absurd at) unmet where
          unmet : (first : List ℕ) → IsChunkMet slab chunk first → facts.is_stored first ≡ false → ⊥
          unmet first (index, selected, corner) unstored =
              let place = place_of a.sizes index in
              let same : index_of a.sizes place ≡ index = index-place a.sizes index (within index selected) in
              let passes = none_any (λ p. not (is_some (get chunks (corner_of chunk (index_of a.sizes p))))) (selection_of a.sizes slab) place
              (sym (lacks_by (InChunks chunk root) is) ∙ none) (selected_place a.sizes slab index (within index selected) selected) in
              let here : not (facts.is_stored first) ≡ false = ap (λ (o : List ℕ). not (facts.is_stored o)) (sym (ap (corner_of chunk) same ∙ corner)) ∙ passes in
              let never : true ≡ false = sym (ap not unstored) ∙ here in
              absurd (cc)

  -- ---- the bound

  abbrev size : ℕ
  size = cells a.sizes * a.fixed.size

  -- where nothing is missing
  pub none_bound : lacks_cells image a slab ≡ false → (l : Layout) → a.layout ≡ l → write_bound facts edit slab (dataset_by l) ≡ 0
  none_bound none (InMessage bytes) is = refl
  none_bound none (InChunks chunk root) is =
      ap (λ (new : List (List ℕ)). chunks_bound (chunk_k image) (length a.sizes) (cells chunk * a.fixed.size) (length new)) (none_are chunk root is none)
  none_bound none (InBlock b) is =
      let kept = storage_kept a.sizes slab (InBlock b) chunks (sym (lacks_by (InBlock b) is) ∙ none) in
      ap (λ (test : Bool). if test then size else 0)
      (no_block (is_some b && nat_lt 0 (cells a.sizes)) (nat_lt 0 (length (selection_of a.sizes slab))) kept)

  -- or so much
  pub some_bound : (m : Missing) → lacks_cells image a slab ≡ true → (l : Layout) → a.layout ≡ l → IsMissingIn image a slab m l
      → write_bound facts edit slab (dataset_by l) ≡ storage_bytes image a m
  some_bound missing.Block lacks (InBlock b) is none =
      let some = some_of (λ place. not (is_some b)) (selection_of a.sizes slab) (sym (lacks_by (InBlock b) is) ∙ lacks) in
      ap (λ (c : Option Block). if not (is_some c && nat_lt 0 (cells a.sizes)) && nat_lt 0 (length (selection_of a.sizes slab)) then size else 0) none
      ∙ ap (λ (test : Bool). if test then size else 0) some
  some_bound missing.Block lacks (InMessage bytes) is never = absurd never
  some_bound missing.Block lacks (InChunks chunk root) is never = absurd never
  some_bound (missing.Chunks array new) lacks (InMessage bytes) is never = absurd never
  some_bound (missing.Chunks array new) lacks (InBlock b) is never = absurd never
  some_bound (missing.Chunks array new) lacks (InChunks chunk root) is are =
      let n = length new.offsets in
      let bytes = cells chunk * a.fixed.size in
      let node : chunk_node (chunk_k image) (length a.sizes) ≡ node_length (chunk_kind (chunk_k image) (length chunk))
      = ap (chunk_node (chunk_k image)) (sym (ranked ms a has chunk root is)) ∙ node_long (chunk_k image) (length chunk) in
      ap (λ (all : List (List ℕ)). chunks_bound (chunk_k image) (length a.sizes) bytes (length all)) (missing_are chunk root is new are.0)
      ∙ bound_some (chunk_k image) (length a.sizes) bytes n (lacking_some image a slab chunk root is new are.0 lacks)
      ∙ ap (λ long. n * (bytes + 17 * long) + long) node
      ∙ sym (ap (chunks_room_in image a n) is)

  -- ---- which chunks find no room

  turn_below : (shape : Shape) (root : ℕ) (all : List (List ℕ)) (n : ℕ) → IsFullInTurn image shape root all n → n < length all
  turn_below shape root all zero full = full.0
  turn_below shape root all (suc n) full = full.0

  new_below : (shape : Shape) (all : List (List ℕ)) (n : ℕ) → IsFullInNewTree image shape all n → n < length all
  new_below shape all zero never = absurd never
  new_below shape all (suc n) full = full.0

  -- the list that the facts name is that of the missing chunks
  pub deep_is : (m : Missing) (n : ℕ) (l : Layout) → a.layout ≡ l → IsMissingIn image a slab m l
      → IsDeepIn image a (new_chunks facts edit (dataset_by l)) n l ↔ IsDeepFor image a m n
  deep_is missing.Block n (InMessage bytes) is never = absurd never
  deep_is missing.Block n (InBlock b) is none = (λ deep. deep, λ deep. deep)
  deep_is missing.Block n (InChunks chunk root) is never = absurd never
  deep_is (missing.Chunks array new) n (InMessage bytes) is never = absurd never
  deep_is (missing.Chunks array new) n (InBlock b) is never = absurd never
  deep_is (missing.Chunks array new) n (InChunks chunk root) is are =
      let same : IsDeepIn image a (new_chunks facts edit (dataset_by (InChunks chunk root))) n (InChunks chunk root) ≡ IsDeepIn image a new.offsets n a.layout
      = λ i. IsDeepIn image a (missing_are chunk root is new are.0 i) n (sym is i) in
      (λ deep. subst (λ (T : Type 0). T) same deep, λ deep. subst (λ (T : Type 0). T) (sym same) deep)

  -- one of those that are missing
  pub deep_below : (n : ℕ) (l : Layout) → IsDeepIn image a (new_chunks facts edit (dataset_by l)) n l → n < length (new_chunks facts edit (dataset_by l))
  deep_below n (InMessage bytes) never = absurd never
  deep_below n (InBlock b) never = absurd never
  deep_below n (InChunks chunk None) deep = new_below _ (new_chunks facts edit (dataset_by (InChunks chunk None))) n deep
  deep_below n (InChunks chunk (Some root)) deep = turn_below _ root (new_chunks facts edit (dataset_by (InChunks chunk (Some root)))) n deep

  -- where nothing is missing, none
  pub none_deep : lacks_cells image a slab ≡ false → (n : ℕ) (l : Layout) → a.layout ≡ l → IsDeepIn image a (new_chunks facts edit (dataset_by l)) n l → ⊥
  none_deep none n (InMessage bytes) is never = never
  none_deep none n (InBlock b) is never = never
  none_deep none n (InChunks chunk root) is deep =
      let low = deep_below n (InChunks chunk root) deep in
      let empty = ap (λ (all : List (List ℕ)). length all) (none_are chunk root is none) in
      omega (arith, low, empty)
