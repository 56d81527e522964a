-- An array that was read can be written in the plain layout (File Format Specification 3.0, sections IV.A.2.b, IV.A.2.e, IV.A.2.f and
-- IV.A.2.i).
use Rattle.std.proofs.Common.{◌≡◌, ℕ, zero, suc, ◌+◌, ◌-◌, ◌*◌, ◌%◌, ◌<◌, ◌≤◌, not, Bool, List, [], ◌∷◌, length, map, replicate, Option, Some, None, ℤ, pos, true, false, cond, refl, sym, ap, ◌∙◌, subst, arith}
use Rattle.std.specs.Prelude.{nat_le, nat_lt, ◌==◌, ◌&&◌, is_some, option_map, slice_range}
use Rattle.std.specs.List.{AllByRecursion, AllZip, range_with_len, find, list_any}
use Rattle.std.specs.FinMap.{get}
use Rattle.std.proofs.lemmas.Bool.Decides.{nat_tests}
use Rattle.std.proofs.lemmas.Option.{same_Some, option_and_then_some}
use Rattle.std.proofs.lemmas.List.FromFn.{length-map-range_with_len}
use Rattle.std.proofs.lemmas.Slice.Zip.{AllZip-long}
use Rattle.std.proofs.lemmas.Bool.{not-true, and_parts}
use Rattle.h5_bytes.specs.Bytes.{byte_at, number_at, part, undefined_address}
use Rattle.h5_bytes.specs.declared.Block.{Block}
use Rattle.h5_model.specs.Format.Limits.{most_dimensions}
use Rattle.h5_model.specs.Format.MessageTypes.{data_layout_kind, dataspace_kind, datatype_kind, fill_value_kind, old_fill_value_kind}
use Rattle.h5_model.specs.Format.Messages.{Message, count_of, first_body, most_messages}
use Rattle.h5_model.specs.Format.Fixed.{Fixed, IsFixed, fits}
use Rattle.h5_model.specs.Tree.Grid.{corner_of, inner_of}
use Rattle.h5_model.specs.Tree.Places.{cells, index_of, place_of}
use Rattle.h5_model.specs.Format.Extent.{extent_of}
use Rattle.h5_model.specs.Format.Fill.{fill_value, old_fill_value, chosen_fill}
use Rattle.h5_model.specs.Format.Chunks.{Chunks}
use Rattle.h5_model.specs.Format.Layout.{Layout, InMessage, InBlock, InChunks, address_from, chunked_layout, compact_layout, contiguous_layout, layout_of, short_numbers_at, most_compact_bytes}
use Rattle.h5_model.specs.Format.Cells.{cell_of, cells_of, value_in_chunk}
use Rattle.h5_model.specs.Format.Reads.{HasDataset}
use Rattle.h5_model.specs.Format.Described.{IsChunkSmall, IsFill, storage_of}
use Rattle.h5_model.specs.Tree.Sound.{AreOf, IsDataset}
use Rattle.h5_model.specs.Tree.Objects.{Dataset, Chunked, Contiguous}
use Rattle.h5_model.proofs.StoredValues.{fits_value_at, AreOf-map}
use Rattle.h5_query.proofs.AddedStill.{none_first}
use Rattle.h5_query.proofs.FillLaws.{type_sound, fill_fits, old_fill_fits}
use Rattle.h5_repack.specs.Bodies.Sound.{IsBound, IsPlainArray, IsPlainStorage}
use Rattle.h5_edit.specs.Fits.Laws.{AreBytes}
use Rattle.h5_edit.proofs.FitLaws.Bounds.{read_bounded}
use Rattle.h5_edit.proofs.FitLaws.PlainBodies.{IsPlainBody, extent_long}
use Rattle.h5_edit.proofs.FitLaws.PlainObjects.{content_count}
use Rattle.h5_layout.proofs.KeyWritten.{bytes_part}
use Rattle.h5_layout.proofs.FillLaws.{zero_fits}

-- a body that can be written again
record IsPlainBytes (body : List ℕ) : Type 0 where
  padded : length body % 8 ≡ 0
  short : length body < 65536
  low : AreBytes body

-- the first body of a type
first_plain : (ms : List Message) → AllByRecursion IsPlainBody ms → (kind : ℕ) (body : List ℕ) → first_body kind ms ≡ Some body → IsPlainBytes body
first_plain [] all kind body h = let never : None ≡ Some body = h in absurd (cc)
first_plain (m ∷ ms) all kind body h =
    elim (m.kind == kind) as (λ b. option_map (λ (x : Message). x.body) (cond b (Some m) (find (λ (x : Message). x.kind == kind) ms)) ≡ Some body → IsPlainBytes body) [
      | true ↦ λ e. subst IsPlainBytes (same_Some m.body body e) (record { padded = (all.0).padded; short = (all.0).short; low = (all.0).low })
      | false ↦ λ e. first_plain ms all.1 kind body e
    ] h

first_low : (ms : List Message) → AllByRecursion IsPlainBody ms → (kind : ℕ) (body : List ℕ) → first_body kind ms ≡ Some body → AreBytes body
first_low ms all kind body h = (first_plain ms all kind body h).low

slice_low : (i j : ℕ) (bytes : List ℕ) → AreBytes bytes → AreBytes (slice_range bytes i j)
unfolding part
slice_low i j bytes low = bytes_part i (j - i) bytes low

-- ---- the fill

filled_fits : (value : List ℕ → Option ℤ) (t : Fixed) (body : Option (List ℕ)) (fill : Option ℤ)
    → ((b : List ℕ) (v : ℤ) → body ≡ Some b → value b ≡ Some v → fits t v ≡ true) → IsFill value body fill → (v : ℤ) → fill ≡ Some v → fits t v ≡ true
filled_fits value t None fill fit is v e = let none : None ≡ Some v = sym is ∙ e in absurd (cc)
filled_fits value t (Some b) fill fit is v e = fit b v refl (is.0 ∙ e)

chosen_fits : (t : Fixed) (new old : Option ℤ) → ((v : ℤ) → new ≡ Some v → fits t v ≡ true) → ((v : ℤ) → old ≡ Some v → fits t v ≡ true) → fits t (chosen_fill new old) ≡ true
chosen_fits t (Some v) old new_fits old_fits = new_fits v refl
chosen_fits t None (Some v) new_fits old_fits = old_fits v refl
chosen_fits t None None new_fits old_fits = zero_fits t

no_fill : (value : List ℕ → Option ℤ) (kind : ℕ) (ms : List Message) (fill : Option ℤ) → count_of kind ms ≡ 0 → IsFill value (first_body kind ms) fill → fill ≡ None
no_fill value kind ms fill none is = subst (λ (o : Option (List ℕ)). IsFill value o fill) (none_first kind ms none) is

-- ---- the cells

-- data in a message are bytes
abbrev AreDataLow : Layout → Type 0
AreDataLow (InMessage bytes) = AreBytes bytes
AreDataLow _ = Unit {0}

cell_fits : (image : List ℕ) (low : AreBytes image) (t : Fixed) (fill : ℤ) (sizes : List ℕ) (l : Layout) (chunks : Chunks) → IsFixed t → fits t fill ≡ true → AreDataLow l
    → (index : List ℕ) → fits t (cell_of image t fill sizes l chunks index) ≡ true
cell_fits image low t fill sizes (InMessage bytes) chunks is fit stored index = fits_value_at t bytes _ is stored
cell_fits image low t fill sizes (InBlock None) chunks is fit stored index = fit
cell_fits image low t fill sizes (InBlock (Some b)) chunks is fit stored index = fits_value_at t (part b.at b.len image) _ is (bytes_part b.at b.len image low)
cell_fits image low t fill sizes (InChunks chunk root) chunks is fit stored index = in_chunk (get chunks (corner_of chunk index)) where
  in_chunk : (found : Option ℕ) → fits t (value_in_chunk image t fill (cells chunk * t.size) (place_of chunk (inner_of chunk index)) found) ≡ true
  in_chunk None = fit
  in_chunk (Some at) = fits_value_at t (part at (cells chunk * t.size) image) _ is (bytes_part at (cells chunk * t.size) image low)

constant : (v : ℤ) (from n : ℕ) → map (λ (k : ℕ). v) (range_with_len from n) ≡ replicate n v
constant v from zero = refl
constant v from (suc n) = ap (λ (vs : List ℤ). v ∷ vs) (constant v (from + 1) n)

no_values : (f : ℕ → ℤ) (v : ℤ) (n : ℕ) → n ≡ 0 → map f (range_with_len 0 n) ≡ replicate n v
no_values f v zero e = refl
no_values f v (suc n) e = absurd (omega (arith, e))

-- where no cell is stored, each is the fill
pub unset_cells : (image : List ℕ) (t : Fixed) (fill : ℤ) (sizes : List ℕ) (b : Option Block) (chunks : Chunks) → (is_some b && nat_lt 0 (cells sizes)) ≡ false
    → cells_of image t fill sizes (InBlock b) chunks ≡ replicate (cells sizes) fill
unset_cells image t fill sizes None chunks h = constant fill 0 (cells sizes)
unset_cells image t fill sizes (Some b) chunks h =
    let none : cells sizes ≡ 0 = grind (arith, nat_tests, h) in
    no_values (λ place. cell_of image t fill sizes (InBlock (Some b)) chunks (index_of sizes place)) fill (cells sizes) none

-- ---- the layout

by_test : {X : Type 0} (b : Bool) (x y : Option X) (z : X) (P : Type 0) → (b ≡ true → x ≡ Some z → P) → (y ≡ Some z → P) → cond b x y ≡ Some z → P
by_test true x y z P here there h = here refl h
by_test false x y z P here there h = there h

-- what a body tells of a layout
module _ (sizes : List ℕ) (size : ℕ) (body : List ℕ) where
  abbrev IsTold : Layout → Type 0
  IsTold (InMessage bytes) = (4 + cells sizes * size ≤ length body) × (bytes ≡ slice_range body 4 (4 + cells sizes * size))
  IsTold (InBlock b) = Unit {0}
  IsTold (InChunks chunk root) = (1 ≤ length chunk) × (length chunk ≡ length sizes) × (list_any (λ n. n == 0) chunk ≡ false)

  compact_told : (l : Layout) → compact_layout (cells sizes * size) body ≡ Some l → IsTold l
  compact_told l =
      let found : Layout = InMessage (slice_range body 4 (4 + cells sizes * size)) in
      by_test _ (Some found) None l (IsTold l) (λ is e. subst IsTold (same_Some found l e) (grind (arith, nat_tests, is), refl)) (λ none. absurd (cc))

  block_told : (b : Option Block) (l : Layout) → Some (InBlock b) ≡ Some l → IsTold l
  block_told b l e = subst IsTold (same_Some (InBlock b) l e) tt

  contiguous_told : (l : Layout) → contiguous_layout (cells sizes * size) body ≡ Some l → IsTold l
  contiguous_told l =
      by_test (nat_le 18 (length body)) _ None l (IsTold l)
      (λ _. by_test (number_at body 2 8 == undefined_address) (Some (InBlock None)) _ l (IsTold l) (λ _. block_told None l)
      (by_test (nat_le (cells sizes * size) (number_at body 10 8)) _ None l (IsTold l) (λ _. block_told _ l) (λ none. absurd (cc))))
      (λ none. absurd (cc))

  chunked_told : (l : Layout) → chunked_layout (length sizes) size body ≡ Some l → IsTold l
  chunked_told l =
      let chunk : List ℕ = short_numbers_at body 11 (length sizes) in
      let found : Layout = InChunks chunk (address_from (number_at body 3 8)) in
      let long : length chunk ≡ length sizes = length-map-range_with_len (λ i. number_at body (11 + 4 * i) 4) 0 (length sizes) in
      by_test _ (Some found) None l (IsTold l)
      (λ is e. subst IsTold (same_Some found l e) (chunk_sizes is long)) (λ none. absurd (cc)) where
        chunk_sizes : (nat_le (11 + 4 * (length sizes + 1)) (length body) && byte_at body 2 == length sizes + 1 && nat_le 1 (length sizes)
            && not (list_any (λ n. n == 0) (short_numbers_at body 11 (length sizes))) && number_at body (11 + 4 * length sizes) 4 == size) ≡ true
            → length (short_numbers_at body 11 (length sizes)) ≡ length sizes → IsTold (InChunks (short_numbers_at body 11 (length sizes)) (address_from (number_at body 3 8)))
        chunk_sizes is long =
            let last = and_parts _ (number_at body (11 + 4 * length sizes) 4 == size) is in
            let some = and_parts _ (not (list_any (λ n. n == 0) (short_numbers_at body 11 (length sizes)))) last.0 in
            let ranked = (and_parts _ (nat_le 1 (length sizes)) some.0).1 in
            let one : 1 ≤ length sizes = grind (arith, nat_tests, ranked) in
            (omega (arith, one, long), long, not-true _ some.1)

  told : (l : Layout) → layout_of sizes size body ≡ Some l → IsTold l
  unfolding layout_of
  told l =
      by_test (nat_le 2 (length body) && byte_at body 0 == 3) _ None l (IsTold l)
      (λ _. by_test (byte_at body 1 == 0) _ _ l (IsTold l) (λ _. compact_told l)
      (by_test (byte_at body 1 == 1) _ _ l (IsTold l) (λ _. contiguous_told l)
      (by_test (byte_at body 1 == 2) _ None l (IsTold l) (λ _. chunked_told l) (λ none. absurd (cc)))))
      (λ none. absurd (cc))

-- ---- the array

module _ (image : List ℕ) (low : AreBytes image) (ms : List Message) (bodies : AllByRecursion IsPlainBody ms) (d : Dataset) (blocks : List Block)
    (has : HasDataset image ms d blocks) where
  sound : IsFixed d.fixed
  sound = option_and_then_some _ (first_body datatype_kind ms) d.fixed has.array.type (λ body there is. type_sound body d.fixed is)

  fill_is : fits d.fixed d.fill ≡ true
  fill_is =
      subst (λ (v : ℤ). fits d.fixed v ≡ true) (sym (has.array.filled).filled) (chosen_fits d.fixed (has.array.filled).new_fill (has.array.filled).old_fill
      (filled_fits (fill_value d.fixed) d.fixed (first_body fill_value_kind ms) (has.array.filled).new_fill (λ b v there is. fill_fits d.fixed b v sound (first_low ms bodies 5 b there) is) (has.array.filled).new_filled)
      (filled_fits (old_fill_value d.fixed) d.fixed (first_body old_fill_value_kind ms) (has.array.filled).old_fill (λ b v there is. old_fill_fits d.fixed b v sound (first_low ms bodies 4 b there) is) (has.array.filled).old_filled))

  -- without a fill message the fill is 0
  zero_fill : count_of old_fill_value_kind ms ≡ 0 → count_of fill_value_kind ms ≡ 0 → d.fill ≡ pos 0
  zero_fill none_old none_new =
      let old : (has.array.filled).old_fill ≡ None = no_fill (old_fill_value d.fixed) 4 ms (has.array.filled).old_fill none_old (has.array.filled).old_filled in
      let new : (has.array.filled).new_fill ≡ None = no_fill (fill_value d.fixed) 5 ms (has.array.filled).new_fill none_new (has.array.filled).new_filled in
      (has.array.filled).filled ∙ λ i. chosen_fill (new i) (old i)

  bounds : AllZip IsBound d.sizes d.maxima
  bounds =
      option_and_then_some extent_of (first_body dataspace_kind ms) (record { sizes = d.sizes; maxima = d.maxima }) has.array.space
      (λ body there is. read_bounded body (record { sizes = d.sizes; maxima = d.maxima }) (first_low ms bodies 1 body there) is has.array.small)

  rank : length d.sizes ≤ most_dimensions
  rank =
      option_and_then_some extent_of (first_body dataspace_kind ms) (record { sizes = d.sizes; maxima = d.maxima }) has.array.space
      (λ body there is. (extent_long body (record { sizes = d.sizes; maxima = d.maxima }) is).1)

  abbrev IsLaid : Layout → Type 0
  IsLaid (InMessage bytes) = (cells d.sizes * (d.fixed).size ≤ most_compact_bytes) × AreBytes bytes
  IsLaid (InBlock b) = Unit {0}
  IsLaid (InChunks chunk root) = (1 ≤ length chunk) × (length chunk ≡ length d.sizes) × (list_any (λ n. n == 0) chunk ≡ false)

  laid_so : (body : List ℕ) → IsPlainBytes body → (l : Layout) → IsTold d.sizes (d.fixed).size body l → IsLaid l
  laid_so body plain (InMessage bytes) is =
      let padded = plain.padded in
      let short = plain.short in
      let room = is.0 in
      (omega (arith, padded, short, room), subst AreBytes (sym is.1) (slice_low 4 (4 + cells d.sizes * (d.fixed).size) body plain.low))
  laid_so body plain (InBlock b) is = tt
  laid_so body plain (InChunks chunk root) is = is

  -- the layout is that of a body
  laid : IsLaid has.layout
  laid = option_and_then_some _ (first_body data_layout_kind ms) has.layout has.array.laid_out
      (λ body there is. laid_so body (first_plain ms bodies 8 body there) has.layout (told d.sizes (d.fixed).size body has.layout is))

  data_low : (l : Layout) → IsLaid l → AreDataLow l
  data_low (InMessage bytes) is = is.1
  data_low (InBlock b) is = tt
  data_low (InChunks chunk root) is = tt

  boxed_by : (l : Layout) → IsLaid l → (chunk : List ℕ) → storage_of d.sizes l ≡ Chunked chunk → length chunk ≡ length d.sizes
  boxed_by (InMessage bytes) is chunk e = absurd (cc)
  boxed_by (InBlock b) is chunk e = absurd (cc)
  boxed_by (InChunks sizes root) is chunk e = let same : sizes ≡ chunk = cc in ap length (sym same) ∙ is.1

  -- there is a chunk size for each dimension
  pub boxed : (chunk : List ℕ) → d.storage ≡ Chunked chunk → length chunk ≡ length d.sizes
  boxed chunk e = boxed_by has.layout laid chunk (sym has.storage ∙ e)

  stored_by : (l : Layout) → IsLaid l → IsChunkSmall d.fixed l → d.cells ≡ cells_of image d.fixed d.fill d.sizes l has.chunks → IsPlainStorage d (storage_of d.sizes l)
  stored_by (InMessage bytes) is small are = is.0
  stored_by (InBlock b) is small are = go (is_some b && nat_lt 0 (cells d.sizes)) refl where
    go : (stored : Bool) → (is_some b && nat_lt 0 (cells d.sizes)) ≡ stored → IsPlainStorage d (Contiguous stored)
    go true h = let some : nat_lt 0 (cells d.sizes) ≡ true = (and_parts (is_some b) (nat_lt 0 (cells d.sizes)) h).1 in grind (arith, nat_tests, some)
    go false h = are ∙ unset_cells image d.fixed d.fill d.sizes b has.chunks h
  stored_by (InChunks chunk root) is small are = record { ranked = is.0; some = is.2; small = small }

  dataset_sound : IsDataset d
  dataset_sound = record {
    counted = ap length has.cells ∙ length-map-range_with_len _ 0 (cells d.sizes);
    fill = fill_is;
    values = subst (AreOf d.fixed) (sym has.cells)
        (AreOf-map d.fixed _ (λ place. cell_fits image low d.fixed d.fill d.sizes has.layout has.chunks sound fill_is (data_low has.layout laid) (index_of d.sizes place))
        (range_with_len 0 (cells d.sizes)));
    bounded = AllZip-long IsBound d.sizes d.maxima bounds;
    boxed = boxed;
  }

  -- with so few others, a fill message that is there now is written again
  pub plain_array : (n : ℕ) → n + content_count ms ≤ most_messages → IsPlainArray d n
  plain_array n room = record {
    ranked = rank;
    bounded = bounds;
    few = has.array.small;
    fixed = sound;
    sound = dataset_sound;
    stored = subst (IsPlainStorage d) (sym has.storage) (stored_by has.layout laid has.array.chunk_small has.cells);
    unwritten = λ many.
        let one_space = has.array.one_space in
        let one_type = has.array.one_type in
        let one_layout = has.array.one_layout in
        zero_fill (omega (arith, many, room, one_space, one_type, one_layout)) (omega (arith, many, room, one_space, one_type, one_layout));
  }
