use Rattle.std.proofs.Common.{◌^◌, arith, subst, sym}
use Rattle.h5_shape.specs.SpacedPlaces.{ArePlacesBelow}
use Rattle.h5_shape.proofs.SlabRuns.{below_selection, within_fits}
use Rattle.h5_shape.proofs.runs.CellRuns.of.Goals as goal

pub of-place-requires-clause-fits : goal.of-place-requires-clause-fits
of-place-requires-clause-fits c = within_fits c.args.sizes.now c.args.axes.now c.requires.within c.requires.some

pub invariant_of-result : goal.invariant_of-result
invariant_of-result c = record {
  small = subst (ArePlacesBelow (2 ^ 41)) (sym c.of-place.ensures.all) (below_selection (2 ^ 41) c.args.sizes.now c.args.axes.now (omega (arith, c.requires.small)));
  walk = c.of-place.ensures.walk;
}
