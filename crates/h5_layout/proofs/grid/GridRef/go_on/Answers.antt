use Rattle.std.proofs.Common.{◌≡◌, ℕ, ◌+◌, ◌-◌, Option, length, get_or, min, refl, sym, ap, ◌∙◌, subst, arith}
use Rattle.h5_model.specs.Tree.Grid.{corner_of}
use Rattle.h5_model.specs.Tree.Places.{index_of}
use Rattle.h5_layout.specs.ChunkCells.{Grid, IsGrid, place_in_chunk}
use Rattle.h5_layout.specs.FoundChunks.{IsFirstCell, IsNumberBeside}
use Rattle.h5_layout.proofs.NextRows.{step_back, step_beside, step_column, step_corner, step_count, step_first, step_inner, step_left, step_number, step_room}
use Rattle.h5_layout.proofs.grid.GridRef.go_on.Goals as goal

pub next_number-number-requires : goal.next_number-number-requires
next_number-number-requires c =
    let row = c.args.row.now in
    step_count c.args.self.now (subst IsGrid c.self.view_is c.self.invariant.0) row c.requires.row c.requires.below c.requires.next
    c.requires.number.0 row.number c.requires.number.1

pub overflow_add-inner : goal.overflow_add-inner
overflow_add-inner c =
    let low = step_room c.args.self.now (subst IsGrid c.self.view_is c.self.invariant.0) c.args.row.now c.requires.row c.requires.below c.requires.next in
    omega (arith, low)

pub overflow_sub-inner : goal.overflow_sub-inner
overflow_sub-inner c =
    let row = c.args.row.now in
    let is : c.self.inside.width ≡ get_or c.args.self.now.shape.sizes (length c.args.self.now.sizes - 1) 0
    = c.self.invariant.2 ∙ ap (λ (g : Grid). get_or g.shape.sizes (length g.sizes - 1) 0) c.self.view_is in
    omega (arith, is, step_back c.args.self.now (subst IsGrid c.self.view_is c.self.invariant.0) row c.requires.row c.requires.below c.requires.next)

pub overflow_add-corner-2 : goal.overflow_add-corner-2
overflow_add-corner-2 c =
    let row = c.args.row.now in
    let is : c.self.inside.width ≡ get_or c.args.self.now.shape.sizes (length c.args.self.now.sizes - 1) 0
    = c.self.invariant.2 ∙ ap (λ (g : Grid). get_or g.shape.sizes (length g.sizes - 1) 0) c.self.view_is in
    let low = step_column c.args.self.now (subst IsGrid c.self.view_is c.self.invariant.0) row c.requires.row c.requires.below c.requires.next in
    omega (arith, is, low)

pub returns-clause-number : goal.returns-clause-number
returns-clause-number c = λ first number.
    let row = c.args.row.now in
    let now = c.args.self.now in
    let is : c.self.inside.width ≡ get_or now.shape.sizes (length now.sizes - 1) 0
    = c.self.invariant.2 ∙ ap (λ (g : Grid). get_or g.shape.sizes (length g.sizes - 1) 0) c.self.view_is in
    subst (λ (n : ℕ). IsNumberBeside now.shape.sizes first (index_of now.sizes (row.corner.place + n)) c.next_number-number.result) (sym is)
    (subst (λ (k : Option ℕ). IsNumberBeside now.shape.sizes first (index_of now.sizes (row.corner.place + get_or now.shape.sizes (length now.sizes - 1) 0)) k) (sym c.next_number-number.ensures)
    (step_number now (subst IsGrid c.self.view_is c.self.invariant.0) row c.requires.row c.requires.below c.requires.next first row.number number))

pub returns-clause-row : goal.returns-clause-row
returns-clause-row c =
    let row = c.args.row.now in
    let now = c.args.self.now in
    let place = row.start + row.cells in
    let size : ℕ = c.self.inside.width in
    let grid : IsGrid now = subst IsGrid c.self.view_is c.self.invariant.0 in
    let is : size ≡ get_or now.shape.sizes (length now.sizes - 1) 0
    = c.self.invariant.2 ∙ ap (λ (g : Grid). get_or g.shape.sizes (length g.sizes - 1) 0) c.self.view_is in
    let columns : c.self.inside.columns ≡ get_or now.sizes (length now.sizes - 1) 0
    = c.self.invariant.1 ∙ ap (λ (g : Grid). get_or g.sizes (length g.sizes - 1) 0) c.self.view_is in
    let told : c.min-row.result ≡ min size (get_or now.sizes (length now.sizes - 1) 0 - (row.corner.column + size))
    = c.min-row.ensures ∙ ap (λ (n : ℕ). min size (n - (row.corner.column + size))) columns in
    let left = step_left now grid row c.requires.row c.requires.below c.requires.next c.min-row.result
    (subst (λ (n : ℕ). c.min-row.result ≡ min n (get_or now.sizes (length now.sizes - 1) 0 - (row.corner.column + n))) is told) in
    record {
      beside = step_beside now grid row c.requires.row c.requires.below c.requires.next c.min-row.result left;
      inner = subst (λ (n : ℕ). row.inner + row.cells - n ≡ place_in_chunk now place) (sym is) (step_inner now grid row c.requires.row c.requires.below c.requires.next);
      at = refl;
      first = subst (λ (n : ℕ). IsFirstCell now.sizes now.shape.sizes (record { place = row.corner.place + n; column = row.corner.column + n })) (sym is)
          (step_first now grid row c.requires.row c.requires.below c.requires.next);
      corner = subst (λ (n : ℕ). index_of now.sizes (row.corner.place + n) ≡ corner_of now.shape.sizes (index_of now.sizes place)) (sym is)
          (step_corner now grid row c.requires.row c.requires.below c.requires.next);
      all = λ _. left;
    }
