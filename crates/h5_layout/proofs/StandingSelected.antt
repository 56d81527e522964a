-- Selected cells that stand one behind another in the image: their bytes are those of their values.
use Rattle.std.proofs.Common.{Bor, ◌≡◌, ℕ, ◌+◌, ◌<◌, ◌≤◌, List, map, sym, ap, ◌∙◌, subst}
use Rattle.std.specs.Prelude.{slice_index_or}
use Rattle.std.specs.List.{range_with_len}
use Rattle.h5_model.specs.Format.Fixed.{IsFixed}
use Rattle.h5_model.specs.Format.Plain.{cells_bytes}
use Rattle.h5_model.specs.Scripts.Answers.{stored_values}
use Rattle.h5_model.specs.Tree.Objects.{Dataset}
use Rattle.h5_model.specs.Tree.Places.{cells}
use Rattle.h5_model.specs.Views.Selection.{axes_of}
use Rattle.h5_model.specs.Views.Shown.{selected_values}
use Rattle.h5_model.specs.declared.hyperslab.Hyper.{Hyper}
use Rattle.h5_model.proofs.PlainValues.{size-low}
use Rattle.h5_msg.proofs.ValueBytes.{AreBytes}
use Rattle.h5_shape.specs.OneRun.{IsOneRun}
use Rattle.h5_shape.specs.declared.runs.CellRun.{CellRun}
use Rattle.h5_layout.specs.Lent.{AreInLine, IsStandingSelection}
use Rattle.h5_layout.specs.Pieces.{CellsLeft}
use Rattle.h5_layout.specs.Runs.{AreCellBytes, IsPieceAt}
use Rattle.h5_layout.specs.declared.pieces.Piece.TheVariants.{Bytes}
use Rattle.h5_layout.proofs.BufferLaws.{written_back, so_many_cells}
use Rattle.h5_layout.proofs.LentLaws.{places, run_below, run_lent}

module _ (d : Dataset) (hyper : Hyper) (run : CellRun) (is : IsOneRun d.sizes hyper run) where
  -- the run has a cell, and each of its cells is one of the array
  pub standing_below : (0 < run.length) × (run.place + run.length ≤ cells d.sizes)
  standing_below = run_below d (axes_of hyper) run is.runs

  -- the cells of the run, where all cells of the array stand one behind another
  pub standing_line : IsFixed d.fixed → (held bytes : List ℕ) → AreInLine d held → AreCellBytes d.fixed held run.place run.length bytes → AreBytes bytes
      → IsStandingSelection d hyper bytes
  standing_line sound held bytes stand are low =
      let some = size-low d.fixed sound in
      let lent = run_lent d (axes_of hyper) run is.runs held bytes is.within stand are in
      record {
        selection = is.selection;
        rank = is.rank;
        within = is.within;
        same = sym (written_back d.fixed some bytes (so_many_cells d.fixed some bytes run.length are.0) sound low) ∙ ap (cells_bytes d.fixed) lent.values;
      }

  -- a piece with all cells of the run
  pub standing_selected : (all : CellsLeft) → all ≡ record { fixed = d.fixed; fill = d.fill; values = d.cells } → IsFixed d.fixed → (b : Bor (List ℕ)) → AreBytes b.now
      → (n : ℕ) → n ≡ run.length → IsPieceAt all run.place run.length (Bytes b) n → IsStandingSelection d hyper b.now
  standing_selected all are sound b low n whole at =
      let own = subst (λ (x : CellsLeft). IsPieceAt x run.place run.length (Bytes b) n) are at in
      let some = size-low d.fixed sound in
      let values : stored_values d.fixed b.now ≡ selected_values d (axes_of hyper) =
      own.values ∙ ap (λ k. map (λ place. slice_index_or d.cells place d.fill) (range_with_len run.place k)) whole
      ∙ ap (map (λ place. slice_index_or d.cells place d.fill)) (sym (places d (axes_of hyper) run is.runs)) in
      record {
        selection = is.selection;
        rank = is.rank;
        within = is.within;
        same = sym (written_back d.fixed some b.now (so_many_cells d.fixed some b.now own.whole.0 own.whole.2) sound low) ∙ ap (cells_bytes d.fixed) values;
      }
