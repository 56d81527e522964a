use Rattle.std.proofs.Common.{◌≡◌, ◌-◌, ◌<◌, ◌++◌, ◌∷◌, length, false}
use Rattle.h5_shape.specs.SpacedPlaces.{spaced_places}
use Rattle.h5_shape.specs.Rows.{IsWalk, cells_at, groups_ahead}
use Rattle.h5_shape.proofs.runs.CellRunsIterator.next.Given as goal

-- the run so far, and the cells that follow it
abbrev pub invariant-loop-next : goal.invariant-loop-next
invariant-loop-next l =
    let was = l.initial.self-inside.walk in
    let walk = l.self-inside.walk in
    let first = l.initial.self-inside.place in
    let long = was.rows.length in
    record {
      rows : walk.rows ≡ was.rows;
      done : l.self-inside.has_more ≡ false;
      walks : IsWalk walk;
      some : first < l.end;
      cells : cells_at long (first ∷ groups_ahead was first)
          ≡ spaced_places (l.end - first) 1 first ++ cells_at long (groups_ahead walk l.self-inside.place);
    }

abbrev pub decreases-loop-next : goal.decreases-loop-next
decreases-loop-next l = length (groups_ahead l.self-inside.walk l.self-inside.place)
