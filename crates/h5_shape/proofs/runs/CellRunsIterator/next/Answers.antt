use Rattle.std.proofs.Common.{rules, refl, ◌≡◌, ℕ, ◌+◌, ◌-◌, ◌^◌, [], ◌∷◌, ◌++◌, false, true, Bool, List, length, sym, ap, subst, ◌∙◌, arith}
use Rattle.std.proofs.lemmas.Bool.Decides.{nat_tests}
use Rattle.std.specs.Prelude.{◌==◌}
use Rattle.h5_shape.specs.declared.runs.CellRun.{CellRun}
use Rattle.h5_shape.specs.declared.rows.CellRows.{CellRows}
use Rattle.h5_shape.specs.SpacedPlaces.{spaced_places, ArePlacesBelow}
use Rattle.h5_shape.specs.Rows.{IsWalk, IsWalkIfMore, cells_at, groups_ahead, left_of}
use Rattle.h5_shape.specs.Runs.{cell_runs}
use Rattle.h5_shape.proofs.SpacedLaws.{below-right}
use Rattle.h5_shape.proofs.LeftLaws.{start_room, places_small, join_cells, begins, begins_else, run_end}
use Rattle.h5_shape.proofs.RunLaws.{BeginsElse, runs_spaced}
use Rattle.h5_shape.proofs.runs.CellRunsIterator.next.Goals as goal
use Rattle.h5_shape.proofs.runs.CellRunsIterator.next.Goals.{in-Some+then-next-end, in_default}

-- ---- a group of the row follows

pub step_in_row-self-inside-requires-clause-small : goal.step_in_row-self-inside-requires-clause-small
step_in_row-self-inside-requires-clause-small c =
    let o = c.self.inside.walk in
    let p = c.self.inside.place in
    let more : c.self.inside.has_more ≡ true = cc in
    let walk : IsWalk o = subst (IsWalkIfMore o) more c.self.invariant.walk in
    let small : ArePlacesBelow (2 ^ 41) (cells_at o.rows.length (p ∷ groups_ahead o p)) = subst (λ (b : Bool). ArePlacesBelow (2 ^ 41) (left_of o p b)) more c.self.invariant.small in
    places_small o.rows.length (groups_ahead o p) walk.long (below-right (2 ^ 41) (spaced_places o.rows.length 1 p) (cells_at o.rows.length (groups_ahead o p)) small)

pub invariant_of-self : goal.invariant_of-self
invariant_of-self c =
    let o = c.self.inside.walk in
    let p = c.self.inside.place in
    let step = c.step_in_row-self-inside in
    let new = step.new.self in
    let n = step.result in
    let l = o.rows.length in
    let more : c.self.inside.has_more ≡ true = cc in
    let small : ArePlacesBelow (2 ^ 41) (cells_at l (p ∷ groups_ahead o p)) = subst (λ (b : Bool). ArePlacesBelow (2 ^ 41) (left_of o p b)) more c.self.invariant.small in
    let rest : ArePlacesBelow (2 ^ 41) (cells_at l (groups_ahead o p)) = below-right (2 ^ 41) (spaced_places l 1 p) (cells_at l (groups_ahead o p)) small in
    let long : new.rows.length ≡ l = ap (λ (r : CellRows). r.length) step.ensures.rows in
    let same : cells_at l (groups_ahead o p) ≡ cells_at new.rows.length (n ∷ groups_ahead new n) =
    ap (cells_at l) step.ensures.next ∙ ap (λ (x : ℕ). cells_at x (n ∷ groups_ahead new n)) (sym long) in
    record {
      small = subst (λ (b : Bool). ArePlacesBelow (2 ^ 41) (left_of new n b)) (sym more) (subst (ArePlacesBelow (2 ^ 41)) same rest);
      walk = subst (IsWalkIfMore new) (sym more) step.ensures.walk;
    }

pub returns-then-self-gt0-clause-steps : goal.returns-then-self-gt0-clause-steps
returns-then-self-gt0-clause-steps c =
    let o = c.self.inside.walk in
    let p = c.self.inside.place in
    let step = c.step_in_row-self-inside in
    let new = step.new.self in
    let n = step.result in
    let l = o.rows.length in
    let more : c.self.inside.has_more ≡ true = cc in
    let walk : IsWalk o = subst (IsWalkIfMore o) more c.self.invariant.walk in
    let long : new.rows.length ≡ l = ap (λ (r : CellRows). r.length) step.ensures.rows in
    let behind = groups_ahead new n in
    let gap : (n == p + l) ≡ false = grind (arith, nat_tests, step.ensures.gap) in
    let before : c.args.self.now ≡ cell_runs (spaced_places l 1 p ++ cells_at l (groups_ahead o p)) =
    sym c.self.view_is ∙ ap (λ (b : Bool). cell_runs (left_of o p b)) more in
    let one : cell_runs (spaced_places l 1 p ++ cells_at l (n ∷ behind)) ≡ record { place = p; length = l } ∷ cell_runs (cells_at l (n ∷ behind)) =
    runs_spaced l p (cells_at l (n ∷ behind)) walk.long (begins l (p + l) n (cells_at l behind) walk.long gap) in
    let left : cells_at l (n ∷ behind) ≡ left_of new n c.self.inside.has_more =
    ap (λ (x : ℕ). cells_at x (n ∷ behind)) (sym long) ∙ ap (left_of new n) (sym more) in
    before
    ∙ ap (λ (xs : List ℕ). cell_runs (spaced_places l 1 p ++ cells_at l xs)) step.ensures.next
    ∙ one
    ∙ ap (λ (xs : List ℕ). record { place = p; length = l } ∷ cell_runs xs) left

pub returns-then-self-gt0-clause-goes : goal.returns-then-self-gt0-clause-goes
returns-then-self-gt0-clause-goes c =
    let steps = returns-then-self-gt0-clause-steps c in
    let fewer = ap (λ (rs : List CellRun). length rs) steps in
    search rules

-- ---- behind the last group of the row

pub overflow_add-end : goal.overflow_add-end
overflow_add-end c =
    let o = c.self.inside.walk in
    let p = c.self.inside.place in
    let more : c.self.inside.has_more ≡ true = cc in
    let walk : IsWalk o = subst (IsWalkIfMore o) more c.self.invariant.walk in
    let small : ArePlacesBelow (2 ^ 41) (cells_at o.rows.length (p ∷ groups_ahead o p)) = subst (λ (b : Bool). ArePlacesBelow (2 ^ 41) (left_of o p b)) more c.self.invariant.small in
    omega (arith, start_room (2 ^ 41) o.rows.length p (groups_ahead o p) walk.long small)

pub loop-next-init : goal.loop-next-init
loop-next-init c =
    let o = c.self.inside.walk in
    let p = c.self.inside.place in
    let more : c.self.inside.has_more ≡ true = cc in
    let walk : IsWalk o = subst (IsWalkIfMore o) more c.self.invariant.walk in
    let whole : (p + o.rows.length) - p ≡ o.rows.length = omega arith in
    record {
      rows = refl;
      done = refl;
      walks = walk;
      some = omega (arith, walk.long);
      cells = ap (λ (n : ℕ). spaced_places n 1 p ++ cells_at o.rows.length (groups_ahead o p)) (sym whole);
    }

pub next_place-requires-clause-small : goal.next_place-requires-clause-small
next_place-requires-clause-small c =
    let o = c.self.inside.walk in
    let p = c.self.inside.place in
    let now = c.loop-next.self-inside.walk in
    let q = c.loop-next.self-inside.place in
    let more : c.self.inside.has_more ≡ true = cc in
    let walk : IsWalk o = subst (IsWalkIfMore o) more c.self.invariant.walk in
    let small : ArePlacesBelow (2 ^ 41) (cells_at o.rows.length (p ∷ groups_ahead o p)) = subst (λ (b : Bool). ArePlacesBelow (2 ^ 41) (left_of o p b)) more c.self.invariant.small in
    let rest : ArePlacesBelow (2 ^ 41) (cells_at o.rows.length (groups_ahead now q)) =
    below-right (2 ^ 41) (spaced_places (c.loop-next.end - p) 1 p) (cells_at o.rows.length (groups_ahead now q)) (subst (ArePlacesBelow (2 ^ 41)) c.loop-next.invariant.cells small) in
    places_small o.rows.length (groups_ahead now q) walk.long rest

pub overflow_add-end-in-Some : goal.overflow_add-end-in-Some
overflow_add-end-in-Some c =
    let o = c.self.inside.walk in
    let p = c.self.inside.place in
    let now = c.loop-next.self-inside.walk in
    let q = c.loop-next.self-inside.place in
    let new = c.next_place.new.self in
    let i = c.loop-next.invariant in
    let more : c.self.inside.has_more ≡ true = cc in
    let walk : IsWalk o = subst (IsWalkIfMore o) more c.self.invariant.walk in
    let small : ArePlacesBelow (2 ^ 41) (cells_at o.rows.length (p ∷ groups_ahead o p)) = subst (λ (b : Bool). ArePlacesBelow (2 ^ 41) (left_of o p b)) more c.self.invariant.small in
    let rest : ArePlacesBelow (2 ^ 41) (cells_at o.rows.length (groups_ahead now q)) =
    below-right (2 ^ 41) (spaced_places (c.loop-next.end - p) 1 p) (cells_at o.rows.length (groups_ahead now q)) (subst (ArePlacesBelow (2 ^ 41)) i.cells small) in
    let next : ArePlacesBelow (2 ^ 41) (cells_at o.rows.length (c.in-Some.next ∷ groups_ahead new c.in-Some.next)) =
    subst (λ (xs : List ℕ). ArePlacesBelow (2 ^ 41) (cells_at o.rows.length xs)) c.in-Some.ensures.next rest in
    let long : new.rows.length ≡ o.rows.length = ap (λ (r : CellRows). r.length) (c.next_place.ensures.rows ∙ i.rows) in
    omega (arith, start_room (2 ^ 41) o.rows.length c.in-Some.next (groups_ahead new c.in-Some.next) walk.long next, long, c.if-next-end.false)

pub loop-next-preserved : goal.loop-next-preserved
loop-next-preserved c =
    let o = c.self.inside.walk in
    let p = c.self.inside.place in
    let new = c.next_place.new.self in
    let i = c.loop-next.invariant in
    let same : c.in-Some.next ≡ c.loop-next.end = omega (arith, c.if-next-end.false) in
    let long : new.rows.length ≡ o.rows.length = ap (λ (r : CellRows). r.length) (c.next_place.ensures.rows ∙ i.rows) in
    let ahead = groups_ahead new c.in-Some.next in
    record {
      rows = c.next_place.ensures.rows ∙ i.rows;
      done = i.done;
      walks = c.next_place.ensures.walk;
      some = omega (arith, i.some);
      cells = i.cells
          ∙ ap (λ (xs : List ℕ). spaced_places (c.loop-next.end - p) 1 p ++ cells_at o.rows.length xs) (c.in-Some.ensures.next ∙ ap (λ (n : ℕ). n ∷ ahead) same)
          ∙ join_cells o.rows.length p c.loop-next.end ahead (omega (arith, i.some))
          ∙ ap (λ (n : ℕ). spaced_places ((c.loop-next.end + n) - p) 1 p ++ cells_at o.rows.length ahead) (sym long);
    }

pub invariant_of-self-then-next-end : goal.invariant_of-self-then-next-end
invariant_of-self-then-next-end c =
    let o = c.self.inside.walk in
    let p = c.self.inside.place in
    let now = c.loop-next.self-inside.walk in
    let q = c.loop-next.self-inside.place in
    let new = c.next_place.new.self in
    let i = c.loop-next.invariant in
    let more : c.self.inside.has_more ≡ true = cc in
    let long : new.rows.length ≡ o.rows.length = ap (λ (r : CellRows). r.length) (c.next_place.ensures.rows ∙ i.rows) in
    let small : ArePlacesBelow (2 ^ 41) (cells_at o.rows.length (p ∷ groups_ahead o p)) = subst (λ (b : Bool). ArePlacesBelow (2 ^ 41) (left_of o p b)) more c.self.invariant.small in
    let rest : ArePlacesBelow (2 ^ 41) (cells_at o.rows.length (groups_ahead now q)) =
    below-right (2 ^ 41) (spaced_places (c.loop-next.end - p) 1 p) (cells_at o.rows.length (groups_ahead now q)) (subst (ArePlacesBelow (2 ^ 41)) i.cells small) in
    let n = c.in-Some.next in
    record {
      small = subst (ArePlacesBelow (2 ^ 41)) (ap (cells_at o.rows.length) c.in-Some.ensures.next ∙ ap (λ (l : ℕ). cells_at l (n ∷ groups_ahead new n)) (sym long)) rest;
      walk = c.next_place.ensures.walk;
    }

pub returns-clause-steps : goal.returns-clause-steps
returns-clause-steps c =
    let o = c.self.inside.walk in
    let p = c.self.inside.place in
    let e = c.loop-next.end in
    let now = c.loop-next.self-inside.walk in
    let q = c.loop-next.self-inside.place in
    let new = c.next_place.new.self in
    let i = c.loop-next.invariant in
    let l = o.rows.length in
    let more : c.self.inside.has_more ≡ true = cc in
    let walk : IsWalk o = subst (IsWalkIfMore o) more c.self.invariant.walk in
    let long : new.rows.length ≡ l = ap (λ (r : CellRows). r.length) (c.next_place.ensures.rows ∙ i.rows) in
    let before : c.args.self.now ≡ cell_runs (spaced_places (e - p) 1 p ++ cells_at l (groups_ahead now q)) =
    sym c.self.view_is ∙ ap (λ (b : Bool). cell_runs (left_of o p b)) more ∙ ap cell_runs i.cells in
    elim c.match-next_place.branch [
      | in-Some+then-next-end w ↦
          let n = w.in-Some.next in
          let next : groups_ahead now q ≡ n ∷ groups_ahead new n = w.in-Some.ensures.next in
          let apart : (n == e) ≡ false = grind (arith, nat_tests, w.if-next-end.true) in
          let else : BeginsElse (p + (e - p)) (cells_at l (groups_ahead now q)) =
          subst (λ (xs : List ℕ). BeginsElse (p + (e - p)) (cells_at l xs)) (sym next) (begins_else l p e n (groups_ahead new n) walk.long i.some apart) in
          let left : cells_at l (groups_ahead now q) ≡ cells_at new.rows.length (n ∷ groups_ahead new n) =
          ap (cells_at l) next ∙ ap (λ (x : ℕ). cells_at x (n ∷ groups_ahead new n)) (sym long) in
          let after : c.args.self.now ≡ record { place = p; length = e - p } ∷ cell_runs (cells_at new.rows.length (n ∷ groups_ahead new n)) =
          before ∙ run_end l p e (groups_ahead now q) i.some else ∙ ap (λ (xs : List ℕ). record { place = p; length = e - p } ∷ cell_runs xs) left in
          after ∙ ap (λ (rs : List CellRun). record { place = p; length = e - p } ∷ rs) (sym w.self-is)
      | in_default w ↦
          let none : groups_ahead now q ≡ [] = w.in_default.ensures.next in
          let else : BeginsElse (p + (e - p)) (cells_at l (groups_ahead now q)) =
          subst (λ (xs : List ℕ). BeginsElse (p + (e - p)) (cells_at l xs)) (sym none) tt in
          before ∙ run_end l p e (groups_ahead now q) i.some else ∙ ap (λ (xs : List ℕ). record { place = p; length = e - p } ∷ cell_runs (cells_at l xs)) none
          ∙ ap (λ (rs : List CellRun). record { place = p; length = e - p } ∷ rs) (sym (w.self-is ∙ ap (λ (b : Bool). cell_runs (left_of new q b)) i.done))
    ]

pub returns-clause-goes : goal.returns-clause-goes
returns-clause-goes c =
    let steps = returns-clause-steps c in
    let fewer = ap (λ (rs : List CellRun). length rs) steps in
    search rules
