-- Cells that stand one behind another, and a run of them.
use Rattle.std.proofs.Common.{Bor, ◌≡◌, ℕ, ◌+◌, ◌*◌, ◌<◌, ◌≤◌, List, [], ◌∷◌, length, map, Option, Some, None, true, false, refl, sym, ap, ◌∙◌, subst, arith, append-nil}
use Rattle.std.specs.Prelude.{MatchOption, option_map, slice_index_or}
use Rattle.std.specs.Iterator.{YieldsFirst}
use Rattle.std.specs.List.{range_with_len}
use Rattle.std.specs.Option.{is_some, option_map_or}
use Rattle.std.proofs.lemmas.Bool.Decides.{nat_tests}
use Rattle.std.proofs.lemmas.List.FromFn.{get_or-map-range_with_len, length-map-range_with_len}
use Rattle.std.proofs.Math.Nat.{mul-le-mul_right}
use Rattle.h5_bytes.specs.Bytes.{part}
use Rattle.h5_bytes.specs.declared.Block.{Block}
use Rattle.h5_model.specs.Format.Cells.{value_in}
use Rattle.h5_model.specs.Format.Fixed.{Fixed}
use Rattle.h5_model.specs.Format.Layout.{Layout, InMessage, InBlock, InChunks}
use Rattle.h5_model.specs.Format.Described.{storage_of, Described}
use Rattle.h5_model.specs.Tree.Objects.{Dataset}
use Rattle.h5_model.specs.Tree.Places.{cells}
use Rattle.h5_model.specs.Views.Selection.{Slab, Within, is_one_run, is_run, selection_of}
use Rattle.h5_model.specs.Views.Shown.{is_in_line, selected_values}
use Rattle.h5_model.proofs.WithinLaws.{to_is_within}
use Rattle.h5_shape.specs.declared.runs.CellRun.{CellRun}
use Rattle.h5_shape.specs.Runs.{AreMaximal, cell_runs, places_in}
use Rattle.h5_shape.proofs.RunLaws.{is_single, places_of_runs, run-single, runs-maximal, single-steps}
use Rattle.h5_layout.specs.Data.{AreDataRead, dataset_told, stored_chunks}
use Rattle.h5_layout.specs.Lent.{AreInLine, IsLent}
use Rattle.h5_layout.specs.Runs.{AreCellBytes}
use Rattle.h5_layout.specs.Stored.{IsArray, IsUnchunked, data_in}
use Rattle.h5_layout.proofs.CellLaws.{map_ranges}
use Rattle.h5_layout.proofs.DataLaws.{cell_at_place}
use Rattle.h5_layout.proofs.PieceLaws.{selected_below}
use Rattle.h5_layout.proofs.RoomLaws.{data_cell, data_room}

-- ---- where they stand

unchunked : (image : List ℕ) (t : Fixed) (layout : Layout) (held : List ℕ) → AreDataRead image t layout → data_in image layout ≡ Some held → IsUnchunked (length image) layout
unchunked image t (InMessage bytes) held read is = tt
unchunked image t (InBlock None) held read is = tt
unchunked image t (InBlock (Some b)) held read is = read
unchunked image t (InChunks sizes root) held read is = absurd (cc)

in_line : (image sizes : List ℕ) (layout : Layout) (held : List ℕ) → data_in image layout ≡ Some held → 0 < cells sizes → is_in_line (storage_of sizes layout) ≡ true
in_line image sizes (InMessage bytes) held is some = refl
in_line image sizes (InBlock None) held is some = absurd (cc)
in_line image sizes (InBlock (Some b)) held is some = grind (arith, nat_tests, some)
in_line image sizes (InChunks chunk_sizes root) held is some = absurd (cc)

pub nowhere : (image sizes : List ℕ) (layout : Layout) → data_in image layout ≡ None → is_in_line (storage_of sizes layout) ≡ false
nowhere image sizes (InMessage bytes) is = absurd (cc)
nowhere image sizes (InBlock None) is = refl
nowhere image sizes (InBlock (Some b)) is = absurd (cc)
nowhere image sizes (InChunks chunk_sizes root) is = refl

pub told_line : (image : List ℕ) (a : Described) → IsArray a → AreDataRead image a.fixed a.layout → (held : List ℕ) → data_in image a.layout ≡ Some held
    → AreInLine (dataset_told image a) held
told_line image a sound read held is =
    let there = unchunked image a.fixed a.layout held read is in
    record {
      stored = in_line image a.sizes a.layout held is;
      room = let fit = data_room image a.sizes (a.fixed).size a.layout held there sound.room is in grind (arith, nat_tests, fit);
      values = λ fill place low.
          get_or-map-range_with_len (cell_at_place image a.fixed a.fill a.sizes a.layout) 0 (cells a.sizes) place place fill low (omega arith)
          ∙ sym (data_cell image a.fixed a.fill a.sizes a.layout (stored_chunks image a.fixed a.layout) place there low)
          ∙ ap (λ (o : Option (List ℕ)). option_map_or (λ bytes. value_in a.fixed bytes place) o a.fill) is;
    }

-- what a block has, where there is one
pub block_line : (image : List ℕ) (a : Described) (o : Option Block) → IsArray a → AreDataRead image a.fixed a.layout → InBlock o ≡ a.layout → (r : Option (Bor (List ℕ)))
    → MatchOption r (o ≡ None) (λ bytes. option_map (λ (b : Block). part b.at b.len image) o ≡ Some bytes.now)
    → MatchOption r (is_in_line (dataset_told image a).storage ≡ false) (λ bytes. AreInLine (dataset_told image a) bytes.now)
block_line image a o sound read is None none = nowhere image a.sizes a.layout (ap (data_in image) (sym is ∙ ap InBlock none))
block_line image a o sound read is (Some bytes) there =
    told_line image a sound read bytes.now (ap (data_in image) (sym is) ∙ in_block o there) where
      in_block : (o : Option Block) → option_map (λ (b : Block). part b.at b.len image) o ≡ Some bytes.now → data_in image (InBlock o) ≡ Some bytes.now
      in_block None never = absurd (cc)
      in_block (Some b) here = here

-- ---- one run

pub not_single : (ps : List ℕ) (rs ss ts : List CellRun) (r s : Option CellRun) → rs ≡ cell_runs ps → YieldsFirst (λ (left : List CellRun). left) rs r ss
    → YieldsFirst (λ (left : List CellRun). left) ss s ts → is_some r ≡ true → is_some s ≡ true → is_run ps ≡ false
not_single ps rs ss ts r s is first second some more = run-single ps ∙ ap is_single (sym is) ∙ sym (single-steps rs ss ts r s first second some false more)

module _ (d : Dataset) (slab : Slab) (run : CellRun) (one : cell_runs (selection_of d.sizes slab) ≡ run ∷ []) where
  pub places : selection_of d.sizes slab ≡ range_with_len run.place run.length
  places = sym (places_of_runs (selection_of d.sizes slab)) ∙ ap places_in one ∙ append-nil (range_with_len run.place run.length)

  pub run_below : (0 < run.length) × (run.place + run.length ≤ cells d.sizes)
  run_below =
      let below = selected_below (cells d.sizes) d.sizes slab (record { place = 0; length = 0 }) (run ∷ []) refl refl refl
      (ap places_in (sym one) ∙ places_of_runs (selection_of d.sizes slab)) (subst AreMaximal one (runs-maximal (selection_of d.sizes slab))) in
      below.others.0

  pub run_room : (held : List ℕ) → AreInLine d held → (run.place + run.length) * d.fixed.size ≤ length held
  run_room held stand = let rows = mul-le-mul_right d.fixed.size run_below.1 in omega (arith, rows, stand.room)

  many : length (selected_values d slab) ≡ run.length
  many = ap (λ (ps : List ℕ). length (map (λ place. slice_index_or d.cells place d.fill) ps)) places
      ∙ length-map-range_with_len (λ place. slice_index_or d.cells place d.fill) run.place run.length

  pub run_lent : (held bytes : List ℕ) → Within d.sizes slab → AreInLine d held → AreCellBytes d.fixed held run.place run.length bytes → IsLent d slab bytes
  run_lent held bytes within stand are =
      let below = run_below in
      let stored : is_in_line d.storage ≡ true = stand.stored (omega (arith, below.0, below.1)) in
      let single : is_one_run d.sizes slab ≡ true = run-single (selection_of d.sizes slab) ∙ ap is_single one in
      record {
        allowed = rw (stored, to_is_within d.sizes slab within, single) refl;
        long = are.0 ∙ ap (λ n. n * d.fixed.size) (sym many);
        values = are.1
            ∙ map_ranges (value_in d.fixed held) (λ place. slice_index_or d.cells place d.fill) run.place run.place run.length
            (λ j low. sym (stand.values d.fill (run.place + j) (omega (arith, low, below.1))))
            ∙ ap (map (λ place. slice_index_or d.cells place d.fill)) (sym places);
      }
