use Rattle.std.proofs.Common.{◌≡◌, ℕ, ◌+◌, ◌*◌, ◌≤◌, List, Option, Some, None, length, refl, sym, ap, ◌∙◌, subst, arith}
use Rattle.std.proofs.Math.Nat.{mul-le-mul_right}
use Rattle.h5_layout.specs.ChunkCells.{AreChunkBytes, Grid, chunk_of}
use Rattle.h5_layout.specs.CellData.{HasCellRoom, all_cells}
use Rattle.h5_layout.specs.Pieces.{CellsLeft}
use Rattle.h5_layout.specs.Runs.{HasBytes, IsPieceAt}
use Rattle.h5_layout.specs.declared.cells.CellData.{CellData}
use Rattle.h5_layout.specs.declared.cells.CellData.TheVariants.{Filled, InLine, InChunks}
use Rattle.h5_layout.specs.declared.cells.StoredCells.TheInside.{Inside}
use Rattle.h5_layout.specs.declared.pieces.Piece.{Piece}
use Rattle.h5_layout.specs.declared.pieces.Piece.TheVariants.{Fill}
use Rattle.h5_layout.proofs.BesideLaws.{fewer_beside}
use Rattle.h5_layout.proofs.CellLaws.{filled_row, stored_row}
use Rattle.h5_layout.proofs.PieceLaws.{filled_piece, held_piece, length-all, unstored_piece}
use Rattle.h5_layout.proofs.cells.StoredCells.piece.Goals as goal
use Rattle.h5_layout.proofs.cells.StoredCells.piece.Goals.{in-Filled, in-InLine, in-InChunks+in-Some, in-InChunks+in-None}

-- how many cells there are
counted : (f : Inside) (all : CellsLeft) → all_cells f.fixed f.fill f.count f.held ≡ all → f.count ≡ length all.values
counted f all is = sym (length-all f.fixed f.fill f.count f.held) ∙ ap (λ (a : CellsLeft). length a.values) is

-- the cells, where it is known where they stand
seen : (f : Inside) (all : CellsLeft) (held : CellData) → all_cells f.fixed f.fill f.count f.held ≡ all → f.held ≡ held → all_cells f.fixed f.fill f.count held ≡ all
seen f all held is here = ap (all_cells f.fixed f.fill f.count) (sym here) ∙ is

pub row_at-row-requires : goal.row_at-row-requires
row_at-row-requires c =
    let f = c.self.inside in
    let room = subst (HasCellRoom f.fixed f.count) c.in-InChunks.is c.self.invariant.1 in
    omega (arith, room.0, counted f c.args.self.now c.self.view_is, c.requires.below, c.requires.some)

pub whole_piece-requires-clause-room : goal.whole_piece-requires-clause-room
whole_piece-requires-clause-room c =
    let f = c.self.inside in
    let room = subst (HasCellRoom f.fixed f.count) c.in-InLine.is c.self.invariant.1 in
    let rows : (c.args.place + c.args.most) * (f.fixed).size ≤ f.count * (f.fixed).size
    = mul-le-mul_right (f.fixed).size (omega (arith, counted f c.args.self.now c.self.view_is, c.requires.below)) in
    omega (arith, rows, room)

-- a piece of these cells, where it is known where they stand
at : (f : Inside) (all : CellsLeft) (held : CellData) (place most : ℕ) (r : Piece × ℕ) (piece : Piece) (n : ℕ) → all_cells f.fixed f.fill f.count f.held ≡ all → f.held ≡ held
    → r ≡ (piece, n) → IsPieceAt (all_cells f.fixed f.fill f.count held) place most piece n → IsPieceAt all place most r.0 r.1
at f all held place most r piece n is here made stands =
    subst (λ (p : Piece × ℕ). IsPieceAt all place most p.0 p.1) (sym made)
    (subst (λ (cs : CellsLeft). IsPieceAt cs place most piece n) (seen f all held is here) stands)

-- the bytes of the chunk, as they were found
of_chunk : (grid found : Grid) (at chunk : Option ℕ) (bytes : Option (List ℕ)) → found ≡ grid → at ≡ chunk → AreChunkBytes found at bytes → AreChunkBytes grid chunk bytes
of_chunk grid found at chunk bytes same is there =
    subst (λ (o : Option ℕ). AreChunkBytes grid o bytes) is (subst (λ (g : Grid). AreChunkBytes g at bytes) same there)

pub returns-clause-piece : goal.returns-clause-piece
returns-clause-piece c =
    let f = c.self.inside in
    let all = c.args.self.now in
    let place = c.args.place in
    let most = c.args.most in
    let r = c.match-self.result in
    let below : place + most ≤ f.count = omega (arith, counted f all c.self.view_is, c.requires.below) in
    elim c.match-self.branch [
      | in-Filled w ↦
          at f all Filled place most r (Fill most) most c.self.view_is w.in-Filled.is w.result-is
          (filled_piece f.fixed f.fill f.count place most most c.requires.some (omega arith) below)
      | in-InLine w ↦
          let held : CellData = InLine w.in-InLine.bytes in
          at f all held place most r w.whole_piece.result most c.self.view_is w.in-InLine.is w.result-is
          (held_piece f.fixed f.fill f.count place most most c.requires.some (omega arith) below held w.whole_piece.result w.in-InLine.bytes.now place w.whole_piece.ensures.piece refl)
      | in-InChunks+in-Some w ↦
          let n : ℕ = w.min-cells.result in
          let row = w.row_at-row in
          let grid : Grid = w.in-InChunks.grid in
          let held : CellData = InChunks grid in
          let few : n ≤ row.result.cells = omega (arith, w.min-cells.ensures) in
          let beside = fewer_beside grid.sizes grid.shape.sizes place row.result.cells n few row.ensures.beside in
          let stored : AreChunkBytes grid (chunk_of grid place) (Some w.in-Some.bytes.now)
          = of_chunk grid row.new.self row.result.at (chunk_of grid place) (Some w.in-Some.bytes.now) row.ensures.same row.ensures.at w.in-Some.ensures in
          at f all held place most r w.whole_piece-in-Some.result n c.self.view_is w.in-InChunks.is w.result-is
          (held_piece f.fixed f.fill f.count place n most (omega (arith, w.min-cells.ensures, row.ensures.some, c.requires.some)) (omega (arith, w.min-cells.ensures)) below held
          w.whole_piece-in-Some.result w.in-Some.bytes.now row.result.place w.whole_piece-in-Some.ensures.piece
          (stored_row f.fixed f.fill grid place n row.result.place beside row.ensures.place w.in-Some.bytes.now stored))
      | in-InChunks+in-None w ↦
          let n : ℕ = w.min-cells.result in
          let row = w.row_at-row in
          let grid : Grid = w.in-InChunks.grid in
          let held : CellData = InChunks grid in
          let few : n ≤ row.result.cells = omega (arith, w.min-cells.ensures) in
          let beside = fewer_beside grid.sizes grid.shape.sizes place row.result.cells n few row.ensures.beside in
          let none : AreChunkBytes grid (chunk_of grid place) None
          = of_chunk grid row.new.self row.result.at (chunk_of grid place) None row.ensures.same row.ensures.at w.in-None.ensures in
          at f all held place most r (Fill n) n c.self.view_is w.in-InChunks.is w.result-is
          (unstored_piece f.fixed f.fill f.count place n most (omega (arith, w.min-cells.ensures, row.ensures.some, c.requires.some)) (omega (arith, w.min-cells.ensures)) below held
          (filled_row f.fixed f.fill grid place n row.result.place beside row.ensures.place none))
    ]

pub returns-clause-bytes : goal.returns-clause-bytes
returns-clause-bytes c =
    elim c.match-self.branch [
      | in-Filled w ↦ subst (λ (p : Piece × ℕ). HasBytes p.0) (sym w.result-is) tt
      | in-InLine w ↦ subst (λ (p : Piece × ℕ). HasBytes p.0) (sym w.result-is) w.whole_piece.ensures.bytes
      | in-InChunks+in-Some w ↦ subst (λ (p : Piece × ℕ). HasBytes p.0) (sym w.result-is) w.whole_piece-in-Some.ensures.bytes
      | in-InChunks+in-None w ↦ subst (λ (p : Piece × ℕ). HasBytes p.0) (sym w.result-is) tt
    ]

pub returns-clause-small : goal.returns-clause-small
returns-clause-small c = omega (arith, counted c.self.inside c.args.self.now c.self.view_is, c.self.invariant.0)
