-- Pieces of cells, and the runs of places that are left.
use Rattle.std.proofs.Common.{Bor, ◌≡◌, ℕ, zero, suc, ◌+◌, ◌-◌, ◌*◌, ◌<◌, ◌≤◌, List, [], ◌∷◌, ◌++◌, length, map, replicate, Option, Some, None, ℤ, refl, sym, ap, ◌∙◌, subst, arith, append_assoc}
use Rattle.std.specs.Prelude.{MatchOption, slice_index_or}
use Rattle.std.specs.List.{AllByRecursion, range_with_len}
use Rattle.std.specs.Iterator.{YieldsFirst}
use Rattle.std.proofs.lemmas.List.{get_or-replicate, map-append, length-append}
use Rattle.std.proofs.Math.Nat.{mul-le-mul_right}
use Rattle.std.proofs.lemmas.List.FromFn.{get_or-map-range_with_len, length-map-range_with_len}
use Rattle.h5_model.specs.Format.Cells.{value_in}
use Rattle.h5_model.specs.Format.Fixed.{Fixed, value_at}
use Rattle.h5_model.proofs.SelectionLaws.{range-append}
use Rattle.h5_model.proofs.StoredValues.{index-stored}
use Rattle.h5_model.specs.Tree.Places.{cells}
use Rattle.h5_model.specs.Views.Selection.{Slab, selection_of}
use Rattle.h5_shape.specs.declared.runs.CellRun.{CellRun}
use Rattle.h5_shape.specs.SpacedPlaces.{ArePlacesBelow}
use Rattle.h5_shape.specs.Runs.{AreMaximal, places_in}
use Rattle.h5_shape.proofs.SpacedLaws.{below-left, below-right}
use Rattle.h5_shape.proofs.SlabRuns.{below_selection}
use Rattle.h5_layout.specs.declared.cells.CellData.{CellData}
use Rattle.h5_layout.specs.declared.cells.CellData.TheVariants.{Filled}
use Rattle.h5_layout.specs.declared.pieces.Piece.{Piece}
use Rattle.h5_layout.specs.declared.pieces.Piece.TheVariants.{Bytes, Fill}
use Rattle.h5_layout.specs.CellData.{all_cells, value_of_cell}
use Rattle.h5_layout.specs.Pieces.{CellsLeft, IsPieceTaken}
use Rattle.h5_layout.specs.Runs.{AreRunsBelow, IsPieceAt, IsWholePiece, cells_left, places_left, runs_behind}
use Rattle.h5_layout.proofs.CellLaws.{of_table, replicate_range}

-- ---- a step over the runs

pub run_on : (run : CellRun) (s t : List CellRun) (o : Option CellRun) → run.length ≡ 0 → YieldsFirst (λ (left : List CellRun). left) s o t
    → MatchOption o ((places_left run (Some s) ≡ []) × (Some t ≡ Some s)) (λ next. places_left run (Some s) ≡ places_left next (Some t))
run_on run s t None none step = (rw (none, step.0) refl, ap (λ (l : List CellRun). Some l) (step.1 ∙ sym step.0))
run_on run s t (Some r) none step = rw (none, step) refl

pub run_below : (n : ℕ) (run : CellRun) (s t : List CellRun) (o : Option CellRun) → YieldsFirst (λ (left : List CellRun). left) s o t → AreRunsBelow n run (Some s)
    → MatchOption o (AreRunsBelow n run (Some t)) (λ next. (0 < next.length) × AreRunsBelow n next (Some t))
run_below n run s t None step below = record { first = below.first; others = rw step.1 tt }
run_below n run s t (Some r) step below =
    let all : AllByRecursion (λ (r : CellRun). (0 < r.length) × (r.place + r.length ≤ n)) (r ∷ t) = rw step at below.others in
    (all.0.0, record { first = all.0.1; others = all.1 })

-- ---- the runs of a selection

range_below : (n p len : ℕ) → 0 < len → ArePlacesBelow n (range_with_len p len) → p + len ≤ n
range_below n p zero some h = absurd (omega arith)
range_below n p (suc zero) some h = omega (arith, h.0)
range_below n p (suc (suc len)) some h = let rest : (p + 1) + suc len ≤ n = range_below n (p + 1) (suc len) (omega arith) h.1 in omega arith

first_long : (r : CellRun) (rs : List CellRun) → AreMaximal (r ∷ rs) → (0 < r.length) × AreMaximal rs
first_long r [] h = (h, tt)
first_long r (s ∷ rs) h = (h.0, h.2)

runs_below : (n : ℕ) (runs : List CellRun) → AreMaximal runs → ArePlacesBelow n (places_in runs)
    → AllByRecursion (λ (r : CellRun). (0 < r.length) × (r.place + r.length ≤ n)) runs
runs_below n [] long h = tt
runs_below n (r ∷ rs) long h =
    let split : (0 < r.length) × AreMaximal rs = first_long r rs long in (
      (split.0, range_below n r.place r.length split.0 (below-left n (range_with_len r.place r.length) (places_in rs) h)),
      runs_below n rs split.1 (below-right n (range_with_len r.place r.length) (places_in rs) h),
    )

-- behind a run of no cell
pub selected_below : (n : ℕ) (sizes : List ℕ) (slab : Slab) (run : CellRun) (runs : List CellRun) → n ≡ cells sizes → run.place ≡ 0 → run.length ≡ 0
    → places_in runs ≡ selection_of sizes slab → AreMaximal runs → AreRunsBelow n run (Some runs)
selected_below n sizes slab run runs all first none places long = record {
  first = omega arith;
  others = runs_below n runs long (subst (ArePlacesBelow n) (sym places) (below_selection n sizes slab (omega arith)));
}

-- ---- a piece is taken

module _ (all : CellsLeft) (run : CellRun) (runs : Option (List CellRun)) (piece : Piece) (k : ℕ) (at : IsPieceAt all run.place run.length piece k) where
  abbrev pub behind : CellRun
  behind = record { place = run.place + k; length = run.length - k }

  abbrev value : ℕ → ℤ
  value = λ place. slice_index_or all.values place all.fill

  run_split : places_left run runs ≡ range_with_len run.place k ++ places_left behind runs
  run_split =
      let sum : k + (run.length - k) ≡ run.length = omega (arith, at.few) in
      let others : List ℕ = places_in (runs_behind runs) in
      ap (λ (n : ℕ). range_with_len run.place n ++ others) (sym sum)
      ∙ ap (λ (ps : List ℕ). ps ++ others) (range-append run.place k (run.length - k))
      ∙ append_assoc (range_with_len run.place k) (range_with_len (run.place + k) (run.length - k)) others

  pub taken : IsPieceTaken (cells_left all (places_left run runs)) piece (cells_left all (places_left behind runs))
  taken = record {
    fixed = refl;
    fill = refl;
    some = at.whole;
    values = ap (map value) run_split ∙ map-append value (range_with_len run.place k) (places_left behind runs)
        ∙ ap (λ vs. vs ++ map value (places_left behind runs)) (sym at.values);
  }

  pub fewer : length (cells_left all (places_left behind runs)).values + k ≡ length (cells_left all (places_left run runs)).values
  fewer =
      let split : length (cells_left all (places_left run runs)).values ≡ length (map value (range_with_len run.place k) ++ map value (places_left behind runs))
      = ap length (ap (map value) run_split ∙ map-append value (range_with_len run.place k) (places_left behind runs)) in
      omega (arith, split, length-append (map value (range_with_len run.place k)) (map value (places_left behind runs)), length-map-range_with_len value run.place k)

  pub below_behind : (n : ℕ) → AreRunsBelow n run runs → AreRunsBelow n behind runs
  below_behind n below = record { first = omega (arith, below.first, at.few); others = below.others }

-- ---- the pieces of an array's cells

pub length-all : (t : Fixed) (fill : ℤ) (count : ℕ) (held : CellData) → length (all_cells t fill count held).values ≡ count
length-all t fill count held = length-map-range_with_len (value_of_cell t fill held) 0 count

module _ (t : Fixed) (fill : ℤ) (count place n most : ℕ) (some : 0 < n) (few : n ≤ most) (below : place + most ≤ count) where
  pub filled_piece : IsPieceAt (all_cells t fill count Filled) place most (Fill n) n
  filled_piece = record {
    some = some;
    few = few;
    whole = some;
    values = replicate_range fill (λ p. fill) place n (λ j low. refl) ∙ of_table (λ p. fill) fill count place n (omega arith);
  }

  -- values that are those of the cells, whatever these stand in
  pub held_piece : (held : CellData) (piece : Piece) (bytes : List ℕ) (at : ℕ) → IsWholePiece t bytes at n piece
      → map (value_in t bytes) (range_with_len at n) ≡ map (value_of_cell t fill held) (range_with_len place n)
      → IsPieceAt (all_cells t fill count held) place most piece n
  held_piece held (Fill k) bytes at whole same = absurd whole
  held_piece held (Bytes b) bytes at whole same = record {
    some = some;
    few = few;
    whole = (n, some, whole.0);
    values = whole.1 ∙ same ∙ of_table (value_of_cell t fill held) fill count place n (omega arith);
  }

  pub unstored_piece : (held : CellData) → replicate n fill ≡ map (value_of_cell t fill held) (range_with_len place n)
      → IsPieceAt (all_cells t fill count held) place most (Fill n) n
  unstored_piece held same = record {
    some = some;
    few = few;
    whole = some;
    values = same ∙ of_table (value_of_cell t fill held) fill count place n (omega arith);
  }

-- ---- one cell

pub one_stored : (all : CellsLeft) (place k : ℕ) (b : Bor (List ℕ)) → 1 ≤ (all.fixed).size → IsPieceAt all place 1 (Bytes b) k
    → value_at all.fixed b.now 0 ≡ slice_index_or all.values place all.fill
one_stored all place k b some at =
    let t : Fixed = all.fixed in
    let n : ℕ = at.whole.0 in
    let rows : 1 * t.size ≤ n * t.size = mul-le-mul_right t.size (omega (arith, at.whole.1)) in
    let first : 0 * t.size ≡ 0 = omega arith in
    let room : 0 * t.size + t.size ≤ length b.now = omega (arith, rows, at.whole.2, first) in
    ap (value_at t b.now) (sym first) ∙ sym (index-stored t b.now 0 all.fill some room)
    ∙ ap (λ (vs : List ℤ). slice_index_or vs 0 all.fill) at.values
    ∙ get_or-map-range_with_len (λ p. slice_index_or all.values p all.fill) place k 0 place all.fill at.some (omega arith)

pub one_filled : (all : CellsLeft) (place k n : ℕ) → IsPieceAt all place 1 (Fill n) k → all.fill ≡ slice_index_or all.values place all.fill
one_filled all place k n at =
    sym (get_or-replicate n 0 all.fill all.fill at.whole) ∙ ap (λ (vs : List ℤ). slice_index_or vs 0 all.fill) at.values
    ∙ get_or-map-range_with_len (λ p. slice_index_or all.values p all.fill) place k 0 place all.fill at.some (omega arith)
