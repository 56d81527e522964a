-- What is missing of the storage of selected cells, by the layout of their array.
use Rattle.std.proofs.Common.{◌≡◌, inl, inr, ℕ, zero, suc, ◌<◌, ◌||◌, List, [], ◌∷◌, Bool, true, false, not, Option, Some, None, length, refl, sym, ap, ◌∙◌, subst, arith}
use Rattle.std.proofs.lemmas.Bool.{or_right}
use Rattle.std.proofs.lemmas.Bool.Decides.{nat_tests}
use Rattle.std.specs.Prelude.{◌==◌, if◌then◌else◌, is_some}
use Rattle.std.specs.FinMap.{get}
use Rattle.std.specs.List.{list_any}
use Rattle.h5_bytes.specs.declared.Block.{Block}
use Rattle.h5_laws.proofs.Lists.{In, contains_in, in_contains}
use Rattle.h5_model.specs.Format.Chunks.{Chunks}
use Rattle.h5_model.specs.Format.Layout.{Layout, InMessage, InBlock, InChunks}
use Rattle.h5_model.specs.Format.Described.{Described}
use Rattle.h5_model.specs.Tree.Grid.{corner_of}
use Rattle.h5_model.specs.Tree.Places.{IsInside, index_of, place_of}
use Rattle.h5_model.specs.Views.Selection.{Slab, selected_cells, selection_of}
use Rattle.h5_model.proofs.PlaceLaws.{index-place}
use Rattle.h5_layout.specs.ArrayChunks.{ArrayChunks, IsInChunksOf}
use Rattle.h5_layout.specs.Data.{stored_chunks}
use Rattle.h5_layout.specs.HeldChunks.{IsChunkMet}
use Rattle.h5_layout.specs.Lacking.{IsFound, IsMissing, IsMissingIn, lacks_cells}
use Rattle.h5_layout.specs.NewChunks.{AreMissing}
use Rattle.h5_chunks.specs.Lists.{ChunkOffsets}
use Rattle.h5_layout.specs.Standing.{is_stored_in}
use Rattle.h5_layout.specs.declared.lacking.Missing.TheVariants as missing
use Rattle.h5_layout.proofs.ChosenPlaces.{index_selected, selected_place}

-- ---- lists

pub all_fail : (test : ℕ → Bool) (xs : List ℕ) → ((x : ℕ) → In x xs → test x ≡ false) → list_any test xs ≡ false
all_fail test [] each = refl
all_fail test (x ∷ xs) each = rw (each x (inl refl), all_fail test xs (λ y at. each y (inr at))) refl

one_passes : (test : ℕ → Bool) (x : ℕ) (xs : List ℕ) → In x xs → test x ≡ true → list_any test xs ≡ true
one_passes test x [] at passes = absurd at
one_passes test x (y ∷ ys) (inl same) passes = rw (ap test same ∙ passes) refl
one_passes test x (y ∷ ys) (inr at) passes = or_right (test y) (list_any test ys) (one_passes test x ys at passes)

-- ---- by the layout

module _ (image : List ℕ) (a : Described) (slab : Slab) where
  abbrev chosen : List ℕ
  chosen = selection_of a.sizes slab

  abbrev chunks : Chunks
  chunks = stored_chunks image a.fixed a.layout

  abbrev lacks_in : Layout → Bool
  lacks_in l = list_any (λ place. not (is_stored_in l chunks (index_of a.sizes place))) chosen

  lacks_is : (l : Layout) → a.layout ≡ l → lacks_cells image a slab ≡ lacks_in l
  lacks_is l is = ap lacks_in is

  pub compact_found : (bytes : List ℕ) → a.layout ≡ InMessage bytes → IsFound image a slab None
  compact_found bytes is = lacks_is (InMessage bytes) is ∙ all_fail (λ place. false) chosen (λ x at. refl)

  -- in a block, or in none
  pub block_found : (b : Option Block) → a.layout ≡ InBlock b → length chosen ≡ selected_cells slab
      → IsFound image a slab (if is_some b || selected_cells slab == 0 then None else Some missing.Block)
  block_found (Some b) is counted = lacks_is (InBlock (Some b)) is ∙ all_fail (λ place. false) chosen (λ x at. refl)
  block_found None is counted = by_test (selected_cells slab == 0) refl where
    by_places : (ps : List ℕ) → (length ps == 0) ≡ false → list_any (λ (place : ℕ). true) ps ≡ true
    by_places [] some = absurd (let never : true ≡ false = some in cc)
    by_places (p ∷ ps) some = refl

    none_chosen : (ps : List ℕ) → (length ps == 0) ≡ true → list_any (λ (place : ℕ). true) ps ≡ false
    none_chosen [] none = refl
    none_chosen (p ∷ ps) none = let never : (length (p ∷ ps) == 0) ≡ false = grind (arith, nat_tests) in absurd (let no_way : true ≡ false = sym none ∙ never in cc)

    by_test : (b : Bool) → (selected_cells slab == 0) ≡ b → IsFound image a slab (if b then None else Some missing.Block)
    by_test true none = lacks_is (InBlock None) is ∙ none_chosen chosen (ap (λ n. n == 0) counted ∙ none)
    by_test false some = (
      lacks_is (InBlock None) is ∙ by_places chosen (ap (λ n. n == 0) counted ∙ some),
      subst (IsMissingIn image a slab missing.Block) (sym is) refl,
    )

  -- where there is no block, one selected cell is enough
  pub block_lacking : a.layout ≡ InBlock None → (place : ℕ) → In place chosen → IsFound image a slab (Some missing.Block)
  block_lacking is place at = (
    lacks_is (InBlock None) is ∙ one_passes (λ (p : ℕ). true) place chosen at refl,
    subst (IsMissingIn image a slab missing.Block) (sym is) refl,
  )

  -- in chunks
  module _ (chunk : List ℕ) (root : Option ℕ) (is : a.layout ≡ InChunks chunk root) (new : ChunkOffsets) (are : AreMissing image a chunk slab new) where
    abbrev corner : ℕ → List ℕ
    corner place = corner_of chunk (index_of a.sizes place)

    found_each : new.offsets ≡ [] → (place : ℕ) → In place chosen → not (is_some (get chunks (corner place))) ≡ false
    found_each none place at = go (get chunks (corner place)) refl where
      go : (found : Option ℕ) → get chunks (corner place) ≡ found → not (is_some found) ≡ false
      go (Some n) there = refl
      go None there =
          let met : IsChunkMet slab chunk (corner place) = (index_of a.sizes place, index_selected a.sizes slab place (contains_in place chosen at), refl) in
          absurd (subst (In (corner place)) none (in_contains (corner place) new.offsets ((are.each (corner place)).1 (met, there))))

    missing_one : (offsets : List ℕ) (others : List (List ℕ)) → new.offsets ≡ offsets ∷ others → lacks_in (InChunks chunk root) ≡ true
    missing_one offsets others some =
        let of = (are.each offsets).0 (contains_in offsets new.offsets (subst (In offsets) (sym some) (inl refl))) in
        let index = of.0.0 in
        let inside : IsInside a.sizes index = are.within index of.0.1 in
        let place = place_of a.sizes index in
        let here : corner place ≡ offsets = ap (corner_of chunk) (index-place a.sizes index inside) ∙ of.0.2 in
        one_passes (λ p. not (is_some (get chunks (corner p)))) place chosen (selected_place a.sizes slab index inside of.0.1)
        (ap (λ (o : List ℕ). not (is_some (get chunks o))) here ∙ ap (λ (found : Option ℕ). not (is_some found)) of.1)

    -- no cell lacks storage just where no chunk is missing
    pub none_lacks : length new.offsets ≡ 0 → lacks_cells image a slab ≡ false
    none_lacks none = lacks_is (InChunks chunk root) is ∙ all_fail (λ p. not (is_some (get chunks (corner p)))) chosen (found_each (no_items new.offsets none)) where
      no_items : (os : List (List ℕ)) → length os ≡ 0 → os ≡ []
      no_items [] long = refl
      no_items (o ∷ os) long = absurd (omega (arith, long))

    pub some_lacks : 0 < length new.offsets → lacks_cells image a slab ≡ true
    some_lacks some = by_offsets new.offsets refl where
      by_offsets : (offsets : List (List ℕ)) → new.offsets ≡ offsets → lacks_cells image a slab ≡ true
      by_offsets [] none = absurd (let long = ap (λ (os : List (List ℕ)). length os) none in omega (arith, some, long))
      by_offsets (offsets ∷ others) there = lacks_is (InChunks chunk root) is ∙ missing_one offsets others there

    pub lacking_some : lacks_cells image a slab ≡ true → 0 < length new.offsets
    lacking_some lacks = by_count (length new.offsets) refl where
      by_count : (n : ℕ) → length new.offsets ≡ n → 0 < n
      by_count (suc n) count = omega arith
      by_count zero none = absurd (let never : true ≡ false = sym lacks ∙ none_lacks none in cc)

    pub chunks_found : 0 < length new.offsets → (k : ArrayChunks) → IsInChunksOf a k → IsFound image a slab (Some (missing.Chunks k new))
    chunks_found some k of = (some_lacks some, subst (IsMissingIn image a slab (missing.Chunks k new)) (sym is) (are, of))

  -- ---- by what is missing

  array_in : (k : ArrayChunks) (new : ChunkOffsets) (l : Layout) → IsMissingIn image a slab (missing.Chunks k new) l → IsInChunksOf a k
  array_in k new (InMessage bytes) missed = absurd missed
  array_in k new (InBlock b) missed = absurd missed
  array_in k new (InChunks chunk root) missed = missed.1

  -- chunks are missing of the array as it is described
  pub chunks_missing : (k : ArrayChunks) (new : ChunkOffsets) → IsMissing image a slab (missing.Chunks k new) → AreMissing image a k.chunk slab new × IsInChunksOf a k
  chunks_missing k new missed = subst (IsMissingIn image a slab (missing.Chunks k new)) (array_in k new a.layout missed).layout missed
