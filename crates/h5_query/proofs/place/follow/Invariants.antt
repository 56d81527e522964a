use Rattle.std.proofs.Common.{length}
use Rattle.h5_query.specs.Names.{parts}
use Rattle.h5_query.specs.Place.{IsOfNumber, link_at}
use Rattle.h5_query.proofs.Looks.{LeadsAs}
use Rattle.h5_query.proofs.place.follow.Given as goal

-- from the place the names that are left lead where all of them lead from the root
abbrev pub invariant-loop-parent : goal.invariant-loop-parent
invariant-loop-parent l = record {
  kept : IsOfNumber l.opened l.place;
  leads : LeadsAs l.opened.tree (link_at l.place) (parts l.names) (parts l.fn.text);
}

abbrev pub decreases-loop-parent : goal.decreases-loop-parent
decreases-loop-parent l = length (parts l.names)
