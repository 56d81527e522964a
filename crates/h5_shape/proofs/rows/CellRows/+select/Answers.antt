use Rattle.std.proofs.Common.{◌≡◌, ◌*◌, ◌≤◌, ◌∷◌, arith, ap, sym, ◌∙◌, subst}
use Rattle.std.proofs.Math.Nat.{mul-le-mul_right}
use Rattle.h5_model.specs.Tree.Places.{cells}
use Rattle.h5_model.specs.Views.Selection.{Slab}
use Rattle.h5_shape.specs.PartCells.{selection_shape}
use Rattle.h5_shape.specs.Rows.{IsRowed, cells_in, selected_place}
use Rattle.h5_shape.proofs.AxisLaws.{depth_room, step_room}
use Rattle.h5_shape.proofs.RowLaws.{rowed_block, rowed_blocks, shape_some, some_block, some_rest}
use Rattle.h5_shape.proofs.rows.CellRows.+select.Goals as goal
use Rattle.h5_shape.proofs.rows.CellRows.+select.Goals.{then-axis-gt1, else-axis-gt1}

pub repeat-requires-clause-room : goal.repeat-requires-clause-room
repeat-requires-clause-room t c =
    let whole : c.args.axes.now ≡ c.in-Some.axis ∷ c.rest.result = c.in-Some.ensures ∙ ap (λ (s : Slab). c.in-Some.axis ∷ s) (sym c.rest.ensures) in
    let b = c.select-below in
    let n = cells_in b.new.self in
    omega (
      arith,
      (depth_room c.args.sizes.now c.in-Some.axis c.rest.result (omega arith) (rw whole at c.requires.fits) (rw whole at c.requires.some) (rw whole at c.requires.apart)
          b.result n (n * c.in-Some.axis.block) b.ensures.cells (omega (arith, b.ensures.few, b.ensures.cells)) (omega arith)).0,
      c.requires.small,
    )

pub overflow_mul-axis : goal.overflow_mul-axis
overflow_mul-axis t c =
    let whole : c.args.axes.now ≡ c.in-Some.axis ∷ c.rest.result = c.in-Some.ensures ∙ ap (λ (s : Slab). c.in-Some.axis ∷ s) (sym c.rest.ensures) in
    let a = c.in-Some.axis in
    let step = a.stride * c.select-below.result in
    let room = step_room c.args.sizes.now a c.rest.result (omega arith) (rw whole at c.requires.fits) (omega arith) c.requires.small c.select-below.result c.select-below.ensures.cells in
    let once : 1 * step ≤ a.count * step = mul-le-mul_right step (omega arith) in
    omega (arith, room, once)

pub repeat-requires-then-axis-gt1-clause-room : goal.repeat-requires-then-axis-gt1-clause-room
repeat-requires-then-axis-gt1-clause-room t c =
    let whole : c.args.axes.now ≡ c.in-Some.axis ∷ c.rest.result = c.in-Some.ensures ∙ ap (λ (s : Slab). c.in-Some.axis ∷ s) (sym c.rest.ensures) in
    let b = c.select-below in
    omega (
      arith,
      (depth_room c.args.sizes.now c.in-Some.axis c.rest.result (omega arith) (rw whole at c.requires.fits) (rw whole at c.requires.some) (rw whole at c.requires.apart)
          b.result (cells_in b.new.self) (cells_in c.repeat.new.self) b.ensures.cells (omega (arith, b.ensures.few, b.ensures.cells)) (omega (arith, c.repeat.ensures.cells))).1,
      c.requires.small,
    )

pub repeat-requires-then-axis-gt1-clause-long : goal.repeat-requires-then-axis-gt1-clause-long
repeat-requires-then-axis-gt1-clause-long t c = (c.repeat.ensures.rowed _ c.select-below.ensures.rowed).long

pub repeat-requires-then-axis-gt1-clause-rows : goal.repeat-requires-then-axis-gt1-clause-rows
repeat-requires-then-axis-gt1-clause-rows t c = (c.repeat.ensures.rowed _ c.select-below.ensures.rowed).rows

pub returns-clause-all : goal.returns-clause-all
returns-clause-all t c =
    let whole : c.args.axes.now ≡ c.in-Some.axis ∷ c.rest.result = c.in-Some.ensures ∙ ap (λ (s : Slab). c.in-Some.axis ∷ s) (sym c.rest.ensures) in
    let a = c.in-Some.axis in
    let first : cells_in c.repeat.new.self ≡ cells (selection_shape c.rest.result) * a.block = c.repeat.ensures.cells ∙ ap (λ n. n * a.block) c.select-below.ensures.all in
    let all : cells_in c.if-axis-gt1.self ≡ a.count * a.block * cells (selection_shape c.rest.result) = elim c.if-axis-gt1.branch [
      | then-axis-gt1 w ↦ ap cells_in w.self-is ∙ w.repeat-then-axis-gt1.ensures.cells ∙ ap (λ n. n * a.count) first ∙ omega arith
      | else-axis-gt1 w ↦
          let one : 1 ≡ a.count = omega (arith, w.if-axis-gt1.false, (some_block a c.rest.result (rw whole at c.requires.some)).0) in
          ap cells_in w.self-is ∙ first ∙ omega arith ∙ ap (λ n. n * a.block * cells (selection_shape c.rest.result)) one
    ] in
    all ∙ ap (λ (s : Slab). cells (selection_shape s)) (sym whole)

pub returns-clause-few : goal.returns-clause-few
returns-clause-few t c =
    let whole : c.args.axes.now ≡ c.in-Some.axis ∷ c.rest.result = c.in-Some.ensures ∙ ap (λ (s : Slab). c.in-Some.axis ∷ s) (sym c.rest.ensures) in
    let b = c.select-below in
    let room = depth_room c.args.sizes.now c.in-Some.axis c.rest.result (omega arith) (rw whole at c.requires.fits) (rw whole at c.requires.some) (rw whole at c.requires.apart)
    b.result (cells_in b.new.self) (cells_in c.repeat.new.self) b.ensures.cells (omega (arith, b.ensures.few, b.ensures.cells)) (omega (arith, c.repeat.ensures.cells)) in
    elim c.if-axis-gt1.branch [
      | then-axis-gt1 w ↦
          let same : cells_in c.if-axis-gt1.self ≡ cells_in c.repeat.new.self * c.in-Some.axis.count = ap cells_in w.self-is ∙ w.repeat-then-axis-gt1.ensures.cells in
          omega (arith, same, room.1)
      | else-axis-gt1 w ↦
          let same : cells_in c.if-axis-gt1.self ≡ cells_in c.repeat.new.self = ap cells_in w.self-is in
          omega (arith, same, room.0)
    ]

pub returns-clause-rowed : goal.returns-clause-rowed
returns-clause-rowed t c =
    let whole : c.args.axes.now ≡ c.in-Some.axis ∷ c.rest.result = c.in-Some.ensures ∙ ap (λ (s : Slab). c.in-Some.axis ∷ s) (sym c.rest.ensures) in
    let a = c.in-Some.axis in
    let b = c.select-below in
    let some = rw whole at c.requires.some in
    let rest = shape_some c.rest.result (some_rest a c.rest.result some) in
    let once = c.repeat.ensures.rowed _ b.ensures.rowed in
    subst (λ (s : Slab). IsRowed (selected_place c.args.sizes.now s) c.if-axis-gt1.self) (sym whole) (elim c.if-axis-gt1.branch [
      | then-axis-gt1 w ↦
          subst (IsRowed (selected_place c.args.sizes.now (a ∷ c.rest.result))) (sym w.self-is)
          (rowed_blocks c.args.sizes.now a c.rest.result b.result (cells_in b.new.self) (cells_in c.repeat.new.self) w.repeat-then-axis-gt1.new.self (omega arith)
          b.ensures.cells b.ensures.all c.repeat.ensures.cells rest (some_block a c.rest.result some).1 (w.repeat-then-axis-gt1.ensures.rowed _ once))
      | else-axis-gt1 w ↦
          subst (IsRowed (selected_place c.args.sizes.now (a ∷ c.rest.result))) (sym w.self-is)
          (rowed_block c.args.sizes.now a c.rest.result b.result (cells_in b.new.self) c.repeat.new.self (omega arith) b.ensures.cells b.ensures.all c.repeat.ensures.cells rest once)
    ])
