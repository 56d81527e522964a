use Rattle.std.proofs.Common.{◌≡◌, ◌*◌, ◌/◌, ◌%◌, ◌∷◌, arith, ap, sym, ◌∙◌}
use Rattle.std.proofs.lemmas.Nat.{mod_below}
use Rattle.h5_model.specs.Tree.Places.{cells}
use Rattle.h5_model.specs.Views.Selection.{Slab}
use Rattle.h5_shape.specs.Rows.{selected_place}
use Rattle.h5_shape.specs.PartCells.{selection_shape}
use Rattle.h5_shape.proofs.RowLaws.{around_step, place_step, room_along, shape_some, some_rest}
use Rattle.h5_shape.proofs.rows.+place_at.Goals as goal

pub overflow_mul-selected : goal.overflow_mul-selected
overflow_mul-selected t c =
    let whole : c.args.axes.now ≡ c.in-Some.axis ∷ c.rest.result = c.in-Some.ensures ∙ ap (λ (s : Slab). c.in-Some.axis ∷ s) (sym c.rest.ensures) in
    let b = c.place_at-below in
    let room = room_along c.args.sizes.now c.in-Some.axis c.rest.result b.result.cells b.result.place (omega arith) (rw whole at c.requires.fits) (rw whole at c.requires.some)
    (rw whole at c.requires.apart) c.requires.small b.ensures.cells (omega (arith, b.ensures.cells, b.ensures.inside)) in
    omega (arith, room.few)

pub nonzero_rem-position : goal.nonzero_rem-position
nonzero_rem-position t c =
    let whole : c.args.axes.now ≡ c.in-Some.axis ∷ c.rest.result = c.in-Some.ensures ∙ ap (λ (s : Slab). c.in-Some.axis ∷ s) (sym c.rest.ensures) in
    let b = c.place_at-below in
    (room_along c.args.sizes.now c.in-Some.axis c.rest.result b.result.cells b.result.place (omega arith) (rw whole at c.requires.fits) (rw whole at c.requires.some)
    (rw whole at c.requires.apart) c.requires.small b.ensures.cells (omega (arith, b.ensures.cells, b.ensures.inside))).some

pub overflow_mul-index : goal.overflow_mul-index
overflow_mul-index t c =
    let whole : c.args.axes.now ≡ c.in-Some.axis ∷ c.rest.result = c.in-Some.ensures ∙ ap (λ (s : Slab). c.in-Some.axis ∷ s) (sym c.rest.ensures) in
    let b = c.place_at-below in
    let k = c.in-Some.axis.count * c.in-Some.axis.block in
    let room = room_along c.args.sizes.now c.in-Some.axis c.rest.result b.result.cells b.result.place (omega arith) (rw whole at c.requires.fits) (rw whole at c.requires.some)
    (rw whole at c.requires.apart) c.requires.small b.ensures.cells (omega (arith, b.ensures.cells, b.ensures.inside)) in
    omega (arith, room.low (b.result.around % k) (mod_below b.result.around k room.some))

pub overflow_add-index : goal.overflow_add-index
overflow_add-index t c =
    let whole : c.args.axes.now ≡ c.in-Some.axis ∷ c.rest.result = c.in-Some.ensures ∙ ap (λ (s : Slab). c.in-Some.axis ∷ s) (sym c.rest.ensures) in
    let b = c.place_at-below in
    let k = c.in-Some.axis.count * c.in-Some.axis.block in
    let room = room_along c.args.sizes.now c.in-Some.axis c.rest.result b.result.cells b.result.place (omega arith) (rw whole at c.requires.fits) (rw whole at c.requires.some)
    (rw whole at c.requires.apart) c.requires.small b.ensures.cells (omega (arith, b.ensures.cells, b.ensures.inside)) in
    omega (arith, room.low (b.result.around % k) (mod_below b.result.around k room.some))

pub overflow_add-index-2 : goal.overflow_add-index-2
overflow_add-index-2 t c =
    let whole : c.args.axes.now ≡ c.in-Some.axis ∷ c.rest.result = c.in-Some.ensures ∙ ap (λ (s : Slab). c.in-Some.axis ∷ s) (sym c.rest.ensures) in
    let b = c.place_at-below in
    let k = c.in-Some.axis.count * c.in-Some.axis.block in
    let room = room_along c.args.sizes.now c.in-Some.axis c.rest.result b.result.cells b.result.place (omega arith) (rw whole at c.requires.fits) (rw whole at c.requires.some)
    (rw whole at c.requires.apart) c.requires.small b.ensures.cells (omega (arith, b.ensures.cells, b.ensures.inside)) in
    omega (arith, room.low (b.result.around % k) (mod_below b.result.around k room.some))

pub overflow_mul-result : goal.overflow_mul-result
overflow_mul-result t c =
    let whole : c.args.axes.now ≡ c.in-Some.axis ∷ c.rest.result = c.in-Some.ensures ∙ ap (λ (s : Slab). c.in-Some.axis ∷ s) (sym c.rest.ensures) in
    let b = c.place_at-below in
    let k = c.in-Some.axis.count * c.in-Some.axis.block in
    let room = room_along c.args.sizes.now c.in-Some.axis c.rest.result b.result.cells b.result.place (omega arith) (rw whole at c.requires.fits) (rw whole at c.requires.some)
    (rw whole at c.requires.apart) c.requires.small b.ensures.cells (omega (arith, b.ensures.cells, b.ensures.inside)) in
    omega (arith, c.requires.small, room.at (b.result.around % k) (mod_below b.result.around k room.some))

pub overflow_add-result : goal.overflow_add-result
overflow_add-result t c =
    let whole : c.args.axes.now ≡ c.in-Some.axis ∷ c.rest.result = c.in-Some.ensures ∙ ap (λ (s : Slab). c.in-Some.axis ∷ s) (sym c.rest.ensures) in
    let b = c.place_at-below in
    let k = c.in-Some.axis.count * c.in-Some.axis.block in
    let room = room_along c.args.sizes.now c.in-Some.axis c.rest.result b.result.cells b.result.place (omega arith) (rw whole at c.requires.fits) (rw whole at c.requires.some)
    (rw whole at c.requires.apart) c.requires.small b.ensures.cells (omega (arith, b.ensures.cells, b.ensures.inside)) in
    omega (arith, c.requires.small, room.at (b.result.around % k) (mod_below b.result.around k room.some))

pub nonzero_div-result : goal.nonzero_div-result
nonzero_div-result t c =
    let whole : c.args.axes.now ≡ c.in-Some.axis ∷ c.rest.result = c.in-Some.ensures ∙ ap (λ (s : Slab). c.in-Some.axis ∷ s) (sym c.rest.ensures) in
    let b = c.place_at-below in
    (room_along c.args.sizes.now c.in-Some.axis c.rest.result b.result.cells b.result.place (omega arith) (rw whole at c.requires.fits) (rw whole at c.requires.some)
    (rw whole at c.requires.apart) c.requires.small b.ensures.cells (omega (arith, b.ensures.cells, b.ensures.inside))).some

pub returns-clause-place : goal.returns-clause-place
returns-clause-place t c =
    let whole : c.args.axes.now ≡ c.in-Some.axis ∷ c.rest.result = c.in-Some.ensures ∙ ap (λ (s : Slab). c.in-Some.axis ∷ s) (sym c.rest.ensures) in
    let b = c.place_at-below in
    let room = room_along c.args.sizes.now c.in-Some.axis c.rest.result b.result.cells b.result.place (omega arith) (rw whole at c.requires.fits) (rw whole at c.requires.some)
    (rw whole at c.requires.apart) c.requires.small b.ensures.cells (omega (arith, b.ensures.cells, b.ensures.inside)) in
    place_step c.args.sizes.now c.in-Some.axis c.rest.result b.result.cells b.result.place b.result.around c.args.number (omega arith) b.ensures.cells
    (shape_some c.rest.result (some_rest c.in-Some.axis c.rest.result (rw whole at c.requires.some))) room.some b.ensures.place b.ensures.around
    ∙ ap (λ (s : Slab). selected_place c.args.sizes.now s (c.args.number % cells (selection_shape s))) (sym whole)

pub returns-clause-around : goal.returns-clause-around
returns-clause-around t c =
    let whole : c.args.axes.now ≡ c.in-Some.axis ∷ c.rest.result = c.in-Some.ensures ∙ ap (λ (s : Slab). c.in-Some.axis ∷ s) (sym c.rest.ensures) in
    let b = c.place_at-below in
    let room = room_along c.args.sizes.now c.in-Some.axis c.rest.result b.result.cells b.result.place (omega arith) (rw whole at c.requires.fits) (rw whole at c.requires.some)
    (rw whole at c.requires.apart) c.requires.small b.ensures.cells (omega (arith, b.ensures.cells, b.ensures.inside)) in
    around_step c.in-Some.axis c.rest.result b.result.around c.args.number
    (shape_some c.rest.result (some_rest c.in-Some.axis c.rest.result (rw whole at c.requires.some))) room.some b.ensures.around
    ∙ ap (λ (s : Slab). c.args.number / cells (selection_shape s)) (sym whole)

pub returns-clause-inside : goal.returns-clause-inside
returns-clause-inside t c =
    let whole : c.args.axes.now ≡ c.in-Some.axis ∷ c.rest.result = c.in-Some.ensures ∙ ap (λ (s : Slab). c.in-Some.axis ∷ s) (sym c.rest.ensures) in
    let b = c.place_at-below in
    let k = c.in-Some.axis.count * c.in-Some.axis.block in
    let room = room_along c.args.sizes.now c.in-Some.axis c.rest.result b.result.cells b.result.place (omega arith) (rw whole at c.requires.fits) (rw whole at c.requires.some)
    (rw whole at c.requires.apart) c.requires.small b.ensures.cells (omega (arith, b.ensures.cells, b.ensures.inside)) in
    room.at (b.result.around % k) (mod_below b.result.around k room.some)
