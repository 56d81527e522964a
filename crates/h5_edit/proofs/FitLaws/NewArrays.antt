-- A new array can be written in the plain layout (File Format Specification 3.0, sections IV.A.2.b, IV.A.2.f and IV.A.2.i).
use Rattle.std.proofs.Common.{◌≡◌, ℕ, ◌+◌, ◌*◌, ◌≤◌, Bool, List, [], ◌∷◌, length, Option, Some, None, true, false, refl, ap, arith}
use Rattle.std.specs.Prelude.{nat_lt, nat_le, ◌==◌, ◌||◌}
use Rattle.std.specs.List.{AllZip, list_any}
use Rattle.std.proofs.lemmas.Bool.Decides.{nat_tests}
use Rattle.std.proofs.lemmas.List.{length-replicate}
use Rattle.std.proofs.lemmas.Slice.Zip.{AllZip-long}
use Rattle.std.proofs.lemmas.Bool.{and_parts, or_parts, not-false}
use Rattle.h5_model.specs.Format.Fixed.{IsFixed, fits}
use Rattle.h5_model.specs.Format.Limits.{most_cells, most_dimensions}
use Rattle.h5_model.specs.Format.Messages.{most_messages}
use Rattle.h5_model.specs.Tree.Places.{cells, extent_cells}
use Rattle.h5_model.specs.Tree.Objects.{Tree, Array, Dataset, Contiguous, Chunked}
use Rattle.h5_model.specs.Edits.Applied.{new_dataset, new_object, new_storage}
use Rattle.h5_model.specs.Edits.Refusal.{refusal_of, rules_of, are_maxima, is_store, are_chunk_sizes, is_chunk_size, chunk_is_large, compact_is_large}
use Rattle.h5_model.specs.declared.dataset.Spec.{Spec}
use Rattle.h5_model.specs.declared.dataset.Store.{Store}
use Rattle.h5_model.specs.declared.dataset.Store.TheVariants as store
use Rattle.h5_model.specs.declared.edits.Edit.TheVariants.{CreateDataset}
use Rattle.h5_model.proofs.RefusalLaws.{none_holds}
use Rattle.h5_model.proofs.EditLaws.{length-are_chunk_sizes, length-are_maxima, AreOf-replicate}
use Rattle.h5_repack.specs.Bodies.Bodies.{others_of}
use Rattle.h5_repack.specs.Image.Plain.{IsPlain}
use Rattle.h5_repack.specs.Bodies.Sound.{IsBound, IsPlainArray, IsPlainStorage}
use Rattle.h5_edit.specs.Changed.Cells.{HasChunkSizes}
use Rattle.h5_edit.proofs.FitLaws.PlainObjects.{plain_new, no_others}

-- a store that goes with the sizes and maxima, and a fill value of the type
pub record IsSoundSpec (spec : Spec) : Type 0 where
  pub ranked : length spec.dims ≤ most_dimensions
  pub maxima : are_maxima spec.dims spec.maxima ≡ true
  pub shaped : is_store spec.store spec.dims spec.maxima ≡ true
  pub chunk_small : chunk_is_large spec.store (spec.fixed).size ≡ false
  pub data_small : compact_is_large spec.store (cells spec.dims * (spec.fixed).size) ≡ false
  pub few : extent_cells spec.dims ≤ most_cells
  pub of_type : fits spec.fixed spec.fill ≡ true

-- ---- chunk sizes

size_some : (c : ℕ) (m : Option ℕ) → is_chunk_size c m ≡ true → (c == 0) ≡ false
size_some c None h = grind (arith, nat_tests, h)
size_some c (Some m) h = let some = (and_parts (nat_lt 0 c) (m == 0 || nat_le c m) h).0 in grind (arith, nat_tests, some)

chunk_some : (chunk : List ℕ) (maxima : List (Option ℕ)) → are_chunk_sizes chunk maxima ≡ true → list_any (λ n. n == 0) chunk ≡ false
chunk_some [] [] h = refl
chunk_some [] (m ∷ ms) h = absurd (cc)
chunk_some (c ∷ cs) [] h = absurd (cc)
chunk_some (c ∷ cs) (m ∷ ms) h =
    let parts = and_parts (is_chunk_size c m) (are_chunk_sizes cs ms) h in
    rw (size_some c m parts.0, chunk_some cs ms parts.1) refl

pub record AreChunkSizesOf (sizes chunk : List ℕ) : Type 0 where
  pub ranked : 1 ≤ length chunk
  pub same : length chunk ≡ length sizes
  pub some : list_any (λ n. n == 0) chunk ≡ false

pub chunk_sizes_of : (sizes : List ℕ) (maxima : List (Option ℕ)) (chunk : List ℕ) → are_maxima sizes maxima ≡ true → is_store (store.Chunked chunk) sizes maxima ≡ true → AreChunkSizesOf sizes chunk
chunk_sizes_of sizes maxima chunk bounded shaped =
    let parts = and_parts (nat_lt 0 (length sizes)) (are_chunk_sizes chunk maxima) shaped in
    let some = parts.0 in
    let one : 1 ≤ length sizes = grind (arith, nat_tests, some) in
    let long = length-are_chunk_sizes chunk maxima parts.1 in
    let longer = length-are_maxima sizes maxima bounded in
    record { ranked = omega (arith, one, long, longer); same = omega (arith, long, longer); some = chunk_some chunk maxima parts.1 }

-- so they can be named
pub store_sizes : (sizes : List ℕ) (maxima : List (Option ℕ)) (s : Store (List ℕ)) → length sizes ≤ most_dimensions → are_maxima sizes maxima ≡ true → is_store s sizes maxima ≡ true → HasChunkSizes s
store_sizes sizes maxima store.Compact ranked bounded shaped = tt
store_sizes sizes maxima store.Contiguous ranked bounded shaped = tt
store_sizes sizes maxima (store.Chunked chunk) ranked bounded shaped =
    let of = chunk_sizes_of sizes maxima chunk bounded shaped in
    let same = of.same in
    (omega (arith, same, ranked), of.some)

-- ---- what is written

module _ (spec : Spec) (is : IsSoundSpec spec) where
  plain_storage : (s : Store (List ℕ)) → is_store s spec.dims spec.maxima ≡ true → chunk_is_large s (spec.fixed).size ≡ false → compact_is_large s (cells spec.dims * (spec.fixed).size) ≡ false
      → IsPlainStorage (new_dataset spec) (new_storage spec.dims s)
  plain_storage store.Compact shaped small short = grind (arith, nat_tests, short)
  plain_storage store.Contiguous shaped small short = go (nat_lt 0 (cells spec.dims)) refl where
    go : (stored : Bool) → nat_lt 0 (cells spec.dims) ≡ stored → IsPlainStorage (new_dataset spec) (Contiguous stored)
    go true some = grind (arith, nat_tests, some)
    go false none = refl
  plain_storage (store.Chunked chunk) shaped small short =
      let of = chunk_sizes_of spec.dims spec.maxima chunk is.maxima shaped in
      record { ranked = of.ranked; some = of.some; small = grind (arith, nat_tests, small) }

  boxed : (s : Store (List ℕ)) → is_store s spec.dims spec.maxima ≡ true → (chunk : List ℕ) → new_storage spec.dims s ≡ Chunked chunk → length chunk ≡ length spec.dims
  boxed store.Compact shaped chunk e = absurd (cc)
  boxed store.Contiguous shaped chunk e = absurd (cc)
  boxed (store.Chunked sizes) shaped chunk e =
      let own : sizes ≡ chunk = cc in
      let long = ap length own in
      let of = (chunk_sizes_of spec.dims spec.maxima sizes is.maxima shaped).same in
      omega (arith, long, of)

  pub plain_new_array : (n : ℕ) → IsFixed spec.fixed → AllZip IsBound spec.dims spec.maxima → 4 + n ≤ most_messages → IsPlainArray (new_dataset spec) n
  plain_new_array n sound bounds room = record {
    ranked = is.ranked;
    bounded = bounds;
    few = is.few;
    fixed = sound;
    sound = record {
      counted = length-replicate (cells spec.dims) spec.fill;
      fill = is.of_type;
      values = AreOf-replicate spec.fixed (cells spec.dims) spec.fill is.of_type;
      bounded = AllZip-long IsBound spec.dims spec.maxima bounds;
      boxed = boxed spec.store is.shaped;
    };
    stored = plain_storage spec.store is.shaped is.chunk_small is.data_small;
    unwritten = λ many. absurd (omega (arith, many, room));
  }

-- ---- what no rule refuses

module _ (tree : Tree) (next : ℕ) (path : List ℕ) (spec : Spec) (accepted : refusal_of tree next (CreateDataset path spec) ≡ None) where
  pub accepted_spec : IsSoundSpec spec
  unfolding refusal_of
  accepted_spec =
      let rules = none_holds (rules_of tree next (CreateDataset path spec)) accepted in
      let shaped = rules.1.1.1.1.1.1.1.1.1.1 in
      let parts = or_parts (nat_lt 32 (length spec.dims)) _ shaped.0 in
      let formed = and_parts (are_maxima spec.dims spec.maxima) (is_store spec.store spec.dims spec.maxima) (not-false _ parts.1) in
      let limits = shaped.1.1.1.1.1.1.1 in
      let low = parts.0 in
      let few = limits.1.1.0 in
      record {
        ranked = grind (arith, nat_tests, low);
        maxima = formed.0;
        shaped = formed.1;
        chunk_small = limits.0;
        data_small = limits.1.0;
        few = grind (arith, nat_tests, few);
        of_type = not-false _ limits.1.1.1.1.0;
      }

-- and the object with it
pub plain_new_object : (spec : Spec) → IsSoundSpec spec → IsFixed spec.fixed → AllZip IsBound spec.dims spec.maxima → IsPlain (new_object (Array (new_dataset spec)))
plain_new_object spec is fixed bounds =
    let d : Dataset = new_dataset spec in
    let none : length (others_of (new_object (Array d))) ≡ 0 = ap length (no_others (Array d)) in
    record {
      others = plain_new (Array d);
      content = (plain_new_array spec is (length (others_of (new_object (Array d)))) fixed bounds (omega (arith, none)), omega (arith, none));
    }
