-- The cells of an array by their bytes.
use Rattle.std.proofs.Common.{◌≡◌, ◌≢◌, ℕ, suc, ◌+◌, ◌*◌, ◌/◌, ◌<◌, ◌≤◌, List, length, take, get_or, replicate, Option, Some, None, ℤ, Bool, true, false, sym, ap, ◌∙◌, arith}
use Rattle.std.specs.Prelude.{nat_lt}
use Rattle.std.specs.FinMap.{empty}
use Rattle.std.specs.Option.{option_map_or}
use Rattle.std.proofs.lemmas.Bool.Decides.{nat_tests}
use Rattle.std.proofs.lemmas.Nat.{div-mul-add}
use Rattle.std.proofs.lemmas.List.{length-take, length-replicate, get_or-replicate, get_or-take}
use Rattle.std.proofs.lemmas.List.FromFn.{fill_by_all}
use Rattle.std.proofs.Math.Nat.{mul-le-mul_right}
use Rattle.h5_model.specs.Format.Fixed.{Fixed, IsFixed, value_at}
use Rattle.h5_model.specs.Tree.Places.{cells, index_of}
use Rattle.h5_model.specs.Tree.Objects.{Storage, Contiguous}
use Rattle.h5_model.specs.Format.Layout.{Layout, InMessage, InBlock, InChunks}
use Rattle.h5_model.specs.Format.Cells.{cell_of, value_in}
use Rattle.h5_model.specs.Format.Described.{storage_of, Described, described_dataset}
use Rattle.h5_model.specs.Scripts.Answers.{stored_values}
use Rattle.h5_model.proofs.PlainValues.{size-low}
use Rattle.h5_model.proofs.StoredValues.{length-stored, index-stored}
use Rattle.h5_model.proofs.ValueLaws.{value_at-moved}
use Rattle.h5_layout.specs.Stored.{AreFilled, AreStored, IsUnchunked, data_in, has_room}
use Rattle.h5_layout.proofs.RoomLaws.{data_cell, data_room}

-- whether a block has the cells, and whether something has
is_kept : Storage → Bool
is_kept (Contiguous stored) = stored
is_kept _ = false

is_block_kept : Storage → Bool
is_block_kept (Contiguous stored) = stored
is_block_kept _ = true

no_block : (image sizes : List ℕ) (layout : Layout) → data_in image layout ≡ None → storage_of sizes layout ≢ Contiguous true
unfolding is_kept
no_block image sizes (InBlock None) none is = let never : false ≡ true = ap is_kept is in absurd (cc)
no_block image sizes (InMessage bytes) none is = absurd (cc)
no_block image sizes (InBlock (Some b)) none is = absurd (cc)
no_block image sizes (InChunks chunk_sizes root) none is = let never : false ≡ true = ap is_kept is in absurd (cc)

no_cell : (sizes : List ℕ) → cells sizes ≡ 0 → (layout : Layout) → storage_of sizes layout ≢ Contiguous true
unfolding is_kept
no_cell sizes none (InBlock None) is = let never : false ≡ true = ap is_kept is in absurd (cc)
no_cell sizes none (InMessage bytes) is = let never : false ≡ true = ap is_kept is in absurd (cc)
no_cell sizes none (InBlock (Some b)) is =
    let some : nat_lt 0 (cells sizes) ≡ true = ap is_kept is in
    let more : 0 < cells sizes = grind (arith, nat_tests, some) in
    absurd (omega (arith, more, none))
no_cell sizes none (InChunks chunk_sizes root) is = let never : false ≡ true = ap is_kept is in absurd (cc)

some_block : (image sizes : List ℕ) → cells sizes ≢ 0 → (held : List ℕ) (layout : Layout) → data_in image layout ≡ Some held → storage_of sizes layout ≢ Contiguous false
unfolding is_block_kept
some_block image sizes some held (InMessage bytes) is e = let never : true ≡ false = ap is_block_kept e in absurd (cc)
some_block image sizes some held (InBlock None) is e = absurd (cc)
some_block image sizes some held (InBlock (Some b)) is e =
    let none : nat_lt 0 (cells sizes) ≡ false = ap is_block_kept e in
    let zero : cells sizes ≡ 0 = grind (arith, nat_tests, none) in
    absurd (some zero)
some_block image sizes some held (InChunks chunk_sizes root) is e = absurd (cc)

module _ (image : List ℕ) (a : Described) (there : IsUnchunked (length image) a.layout) where
  abbrev t : Fixed
  t = a.fixed

  -- the cell at a place
  abbrev cell : ℕ → ℤ
  cell k = cell_of image t a.fill a.sizes a.layout empty (index_of a.sizes k)

  are_cells : (vs : List ℤ) → length vs ≡ cells a.sizes → ((k : ℕ) → k < cells a.sizes → get_or vs k a.fill ≡ cell k) → (described_dataset image a empty).cells ≡ vs
  are_cells vs long each = sym (fill_by_all cell vs (cells a.sizes) a.fill long each)

  -- where there are no data, each cell reads the fill
  pub without_data : data_in image a.layout ≡ None → AreFilled (described_dataset image a empty)
  without_data none = (
    are_cells (replicate (cells a.sizes) a.fill) (length-replicate (cells a.sizes) a.fill)
        (λ k low. get_or-replicate (cells a.sizes) k a.fill a.fill low
        ∙ ap (λ (o : Option (List ℕ)). option_map_or (λ bytes. value_in t bytes k) o a.fill) (sym none) ∙ data_cell image t a.fill a.sizes a.layout empty k there low),
    no_block image a.sizes a.layout none,
  )

  module _ (sound : IsFixed t) (room : has_room a.sizes t.size a.layout ≡ true) (some : cells a.sizes ≢ 0) (held : List ℕ) (is : data_in image a.layout ≡ Some held)
      (n : ℕ) (long : n ≡ cells a.sizes * t.size) where
    abbrev bytes : List ℕ
    bytes = take n held

    enough : n ≤ length held
    enough =
        let fit = data_room image a.sizes t.size a.layout held there room is in
        grind (arith, nat_tests, fit, long)

    long_bytes : length bytes ≡ cells a.sizes * t.size
    long_bytes = length-take n held ∙ omega (arith, enough, long)

    -- the bytes of a cell stand inside
    within : (k : ℕ) → k < cells a.sizes → k * t.size + t.size ≤ length bytes
    within k low =
        let past : suc k * t.size ≤ cells a.sizes * t.size = mul-le-mul_right t.size low in
        let wide : suc k * t.size ≡ k * t.size + t.size = omega arith in
        omega (arith, past, wide, long_bytes)

    -- a cell's bytes are those of the data
    in_data : (k : ℕ) → k < cells a.sizes → value_at t bytes (k * t.size) ≡ value_at t held (k * t.size)
    in_data k low = value_at-moved t held bytes (k * t.size) (k * t.size) (λ j below.
        get_or-take n held (k * t.size + j) 0 (omega (arith, within k low, below, long_bytes, long)))

    each_value : (k : ℕ) → k < cells a.sizes → get_or (stored_values t bytes) k a.fill ≡ cell k
    each_value k low =
        index-stored t bytes k a.fill (size-low t sound) (within k low) ∙ in_data k low
        ∙ ap (λ (o : Option (List ℕ)). option_map_or (λ d. value_in t d k) o a.fill) (sym is) ∙ data_cell image t a.fill a.sizes a.layout empty k there low

    pub with_data : AreStored (described_dataset image a empty) bytes
    with_data =
        let whole : length bytes ≡ cells a.sizes * t.size + 0 = omega (arith, long_bytes) in
        let counted : length bytes / t.size ≡ cells a.sizes = ap (λ (k : ℕ). k / t.size) whole ∙ div-mul-add (cells a.sizes) t.size 0 (omega (arith, size-low t sound)) in
        (long_bytes, are_cells (stored_values t bytes) (length-stored t bytes ∙ counted) each_value, some_block image a.sizes some held a.layout is)
