-- Chunks of which some cells are kept: how many bytes they have, and their offsets.
use Rattle.std.proofs.Common.{◌≡◌, ℕ, zero, suc, ◌-◌, ◌*◌, ◌<◌, ◌≤◌, ℤ, List, [], ◌∷◌, length, get_or, slice_get, Some, refl, sym, ap, ◌∙◌, subst, arith}
use Rattle.std.proofs.Math.Nat.{mul-le-mul_right}
use Rattle.std.proofs.lemmas.Option.{same_Some, slice_get-get_or, slice_get-map}
use Rattle.std.proofs.lemmas.List.{length-map}
use Rattle.std.specs.Prelude.{min, option_map}
use Rattle.std.specs.List.{AllByRecursion}
use Rattle.h5_model.specs.Format.Chunks.{offsets_in}
use Rattle.h5_model.specs.Format.Fixed.{Fixed, IsFixed}
use Rattle.h5_model.specs.Tree.Places.{cells}
use Rattle.h5_model.proofs.PlainValues.{size-low}
use Rattle.h5_laws.proofs.Lists.{in_all, in_at}
use Rattle.h5_chunks.specs.Held.{IsChunkPlace}
use Rattle.h5_chunks.specs.Shapes.{AreChunkSizes}
use Rattle.h5_chunks.specs.declared.held.ChunkPlace.{ChunkPlace}
use Rattle.h5_chunks.proofs.ReachLaws.{offsets_long}
use Rattle.h5_layout.specs.Data.{chunk_shape}
use Rattle.h5_layout.specs.HeldChunks.{HeldCells}
use Rattle.h5_layout.specs.Kept.{AreKept, KeptChunks, kept_cells, kept_values, slices_kept, smaller_sizes}
use Rattle.h5_layout.proofs.LocateLaws.{some_cells}

pub some_bytes : (t : Fixed) (chunk : List ℕ) → IsFixed t → AreChunkSizes chunk → 1 ≤ cells chunk * t.size
some_bytes t chunk sound sizes =
    let size : 1 ≤ t.size = size-low t sound in
    let some : 1 ≤ cells chunk = some_cells chunk sizes.some in
    let one : 1 * t.size ≤ cells chunk * t.size = mul-le-mul_right t.size some in
    omega (arith, one, size)

-- an offset for each size
pub ranked : (k : KeptChunks) (places : List ChunkPlace) → AllByRecursion (λ (part : List ℕ × List ℤ). length part.0 ≡ length k.chunk) (kept_cells k places).parts
ranked k [] = tt
ranked k (place ∷ places) = (offsets_long (length k.chunk) place.key.now, ranked k places)

-- ---- sizes and slices, dimension by dimension

pub length-smaller : (old new : List ℕ) → length new ≡ length old → length (smaller_sizes old new) ≡ length old
length-smaller [] [] same = refl
length-smaller [] (n ∷ ns) same = absurd (omega (arith, same))
length-smaller (d ∷ ds) [] same = absurd (omega (arith, same))
length-smaller (d ∷ ds) (n ∷ ns) same = ap suc (length-smaller ds ns (omega (arith, same)))

pub get_or-smaller : (old new : List ℕ) (d : ℕ) → length new ≡ length old → d < length old
    → get_or (smaller_sizes old new) d 0 ≡ min (get_or old d 0) (get_or new d 0)
get_or-smaller [] new d same low = absurd (omega (arith, low))
get_or-smaller (o ∷ os) [] d same low = absurd (omega (arith, same))
get_or-smaller (o ∷ os) (n ∷ ns) zero same low = refl
get_or-smaller (o ∷ os) (n ∷ ns) (suc d) same low = get_or-smaller os ns d (omega (arith, same)) (omega (arith, low))

pub length-slices : (kept chunk offsets : List ℕ) → length kept ≡ length chunk → length offsets ≡ length chunk → length (slices_kept kept chunk offsets) ≡ length chunk
length-slices [] [] offsets same long = refl
length-slices [] (c ∷ cs) offsets same long = absurd (omega (arith, same))
length-slices (k ∷ ks) [] offsets same long = absurd (omega (arith, same))
length-slices (k ∷ ks) (c ∷ cs) [] same long = absurd (omega (arith, long))
length-slices (k ∷ ks) (c ∷ cs) (o ∷ os) same long = ap suc (length-slices ks cs os (omega (arith, same)) (omega (arith, long)))

pub get_or-slices : (kept chunk offsets : List ℕ) (d : ℕ) → length kept ≡ length chunk → length offsets ≡ length chunk → d < length chunk
    → get_or (slices_kept kept chunk offsets) d 0 ≡ min (get_or chunk d 0) (get_or kept d 0 - get_or offsets d 0)
get_or-slices kept [] offsets d same long low = absurd (omega (arith, low))
get_or-slices [] (c ∷ cs) offsets d same long low = absurd (omega (arith, same))
get_or-slices (k ∷ ks) (c ∷ cs) [] d same long low = absurd (omega (arith, long))
get_or-slices (k ∷ ks) (c ∷ cs) (o ∷ os) zero same long low = refl
get_or-slices (k ∷ ks) (c ∷ cs) (o ∷ os) (suc d) same long low = get_or-slices ks cs os d (omega (arith, same)) (omega (arith, long)) (omega (arith, low))

-- ---- one chunk of them

pub part_values : (k : KeptChunks) (places : List ChunkPlace) (n : ℕ) (place : ChunkPlace) (part : List ℕ × List ℤ) → slice_get places n ≡ Some place
    → slice_get (kept_cells k places).parts n ≡ Some part → kept_values k place ≡ part.1
part_values k places n place part here there =
    let f : ChunkPlace → List ℕ × List ℤ = λ p. (offsets_in (length k.chunk) p.key.now, kept_values k p) in
    let both : Some (f place) ≡ Some part = ap (option_map f) (sym here) ∙ sym (slice_get-map f places n) ∙ there in
    ap (λ (p : List ℕ × List ℤ). p.1) (same_Some (f place) part both)

part_offsets : (k : KeptChunks) (places : List ChunkPlace) (n : ℕ) (place : ChunkPlace) (part : List ℕ × List ℤ) → slice_get places n ≡ Some place
    → slice_get (kept_cells k places).parts n ≡ Some part → offsets_in (length k.chunk) place.key.now ≡ part.0
part_offsets k places n place part here there =
    let f : ChunkPlace → List ℕ × List ℤ = λ p. (offsets_in (length k.chunk) p.key.now, kept_values k p) in
    let both : Some (f place) ≡ Some part = ap (option_map f) (sym here) ∙ sym (slice_get-map f places n) ∙ there in
    ap (λ (p : List ℕ × List ℤ). p.0) (same_Some (f place) part both)

pub place_there : (P : ChunkPlace → Type 0) (places : List ChunkPlace) (n : ℕ) (place : ChunkPlace) → AllByRecursion P places → slice_get places n ≡ Some place → P place
place_there P places n place all here = in_all P place places all (in_at places n place here)

pub length-parts : (k : KeptChunks) (places : List ChunkPlace) → length (kept_cells k places).parts ≡ length places
length-parts k places = length-map places (λ (p : ChunkPlace). (offsets_in (length k.chunk) p.key.now, kept_values k p))

pub place_at : (places : List ChunkPlace) (n : ℕ) (place : ChunkPlace) → n < length places → place ≡ get_or places n place → slice_get places n ≡ Some place
place_at places n place low is = slice_get-get_or places n place low ∙ ap (λ (p : ChunkPlace). Some p) (sym is)

module _ (k : KeptChunks) (places : List ChunkPlace) (h : HeldCells) (view : kept_cells k places ≡ h) (n : ℕ) (place : ChunkPlace)
    (low : n < length h.parts) (is : place ≡ get_or places n place) where
  pub here : slice_get places n ≡ Some place
  here =
      let long : length h.parts ≡ length places = ap (λ (x : HeldCells). length x.parts) (sym view) ∙ length-parts k places in
      place_at places n place (omega (arith, low, long)) is

  pub whole : AreKept k places → IsChunkPlace k.image (chunk_shape k.fixed k.chunk) place
  whole are = place_there (IsChunkPlace k.image (chunk_shape k.fixed k.chunk)) places n place are.there here

  -- its offsets, and its cells
  pub offsets_there : (part : List ℕ × List ℤ) → slice_get h.parts n ≡ Some part → offsets_in (length k.chunk) place.key.now ≡ part.0
  offsets_there part got =
      part_offsets k places n place part here (subst (λ (x : HeldCells). slice_get x.parts n ≡ Some part) (sym view) got)

  pub values_there : (part : List ℕ × List ℤ) → slice_get h.parts n ≡ Some part → kept_values k place ≡ part.1
  values_there part got =
      part_values k places n place part here (subst (λ (x : HeldCells). slice_get x.parts n ≡ Some part) (sym view) got)
