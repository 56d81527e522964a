use Rattle.std.proofs.Common.{◌≡◌, ℕ, ◌-◌, ◌/◌, ◌<◌, false, length, get_or, sym, ap, ◌∙◌, subst, arith}
use Rattle.h5_model.specs.Tree.Places.{index_of}
use Rattle.h5_layout.specs.ChunkCells.{Grid, IsGrid}
use Rattle.h5_layout.specs.FoundChunks.{corner_beside}
use Rattle.h5_layout.proofs.BesideLaws.{not_empty}
use Rattle.h5_layout.proofs.FoundBeside.{beside_apart, number_beside}
use Rattle.h5_layout.proofs.grid.GridRef.number_of.Goals as goal
use Rattle.h5_layout.proofs.grid.GridRef.number_of.Goals.{After-is_empty, then-corner-first-via-then-corner-first, then-corner-first-via-else-corner-first+then-corner-first-2}

-- the array has dimensions
ranked : (c : After-is_empty) → c.is_empty.result ≡ false → 0 < length c.args.self.now.sizes
ranked c some =
    let long : length c.self.inside.sizes.now ≡ length c.args.self.now.sizes = ap (λ (g : Grid). length g.sizes) c.self.view_is in
    omega (arith, long, not_empty (length c.self.inside.sizes.now) c.is_empty.result c.is_empty.ensures some)

pub returns-clause-number : goal.returns-clause-number
returns-clause-number c =
    let now = c.args.self.now in
    let grid : IsGrid now = subst IsGrid c.self.view_is c.self.invariant.0 in
    let some = ranked (goal.at.returns-clause-number c).After-is_empty c.if-is_empty.false in
    let width : c.self.inside.width ≡ get_or now.shape.sizes (length now.sizes - 1) 0
    = c.self.invariant.2 ∙ ap (λ (g : Grid). get_or g.shape.sizes (length g.sizes - 1) 0) c.self.view_is in
    number_beside now.sizes now.shape.sizes c.args.first c.args.corner grid.rank some c.requires.some c.requires.first c.requires.corner
    c.if-corner-first.false c.if-corner-first-2.false c.if-corner-first-3.false
    ∙ ap (λ (n : ℕ). corner_beside now.shape.sizes (index_of now.sizes c.args.first.place) ((c.args.corner.column - c.args.first.column) / n)) (sym width)

pub returns-then-corner-first-clause-none : goal.returns-then-corner-first-clause-none
returns-then-corner-first-clause-none c k beside =
    let some = ranked (goal.at.returns-then-corner-first-clause-none c).After-is_empty c.if-is_empty.false in
    let apart = beside_apart _ _ c.args.first c.args.corner k some c.requires.some c.requires.first c.requires.corner beside in
    elim c.then-corner-first.branch [
      | then-corner-first-via-then-corner-first w ↦ absurd (omega (arith, apart.1, w.if-corner-first.true))
      | then-corner-first-via-else-corner-first+then-corner-first-2 w ↦ absurd (omega (arith, apart.2, w.if-corner-first-2.true))
    ]

pub returns-then-corner-first-3-clause-none : goal.returns-then-corner-first-3-clause-none
returns-then-corner-first-3-clause-none c k beside =
    let some = ranked (goal.at.returns-then-corner-first-3-clause-none c).After-is_empty c.if-is_empty.false in
    let apart = beside_apart _ _ c.args.first c.args.corner k some c.requires.some c.requires.first c.requires.corner beside in
    c.if-corner-first-3.true (omega (arith, apart.1, apart.2))
