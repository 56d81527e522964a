use Rattle.std.proofs.Common.{ap, sym, ◌∙◌, length, arith}
use Rattle.h5_query.proofs.SelectionLaws.{slab_long, selection_few}
use Rattle.h5_query.proofs.selection.slab_within.Goals as goal

pub within-requires : goal.within-requires
within-requires c =
    let same = sym (ap length c.start.ensures) ∙ c.if-start-sizes.false ∙ ap length c.sizes.ensures.numbers in
    record { rank = slab_long c.args.dims.now c.args.hyper.now same c.sizes.ensures.rank c.in-Ok.slab (sym c.in-Ok.is ∙ c.new.ensures) }

pub returns-clause-inside : goal.returns-clause-inside
returns-clause-inside c =
    let same = sym (ap length c.start.ensures) ∙ c.if-start-sizes.false ∙ ap length c.sizes.ensures.numbers in
    let few = selection_few c.args.dims.now c.in-Ok.slab in
    let all = c.within.ensures.cells c.if-not-within.false in
    record {
      rank = sym (slab_long c.args.dims.now c.args.hyper.now same c.sizes.ensures.rank c.in-Ok.slab (sym c.in-Ok.is ∙ c.new.ensures));
      within = c.within.ensures.inside.0 c.if-not-within.false;
      counted = all;
      few = omega (arith, few, all);
    }
