use Rattle.std.proofs.Common.{◌≡◌}
use Rattle.h5_model.specs.Views.Selection.{is_within}
use Rattle.h5_model.proofs.CountLaws.{length-selection}
use Rattle.h5_model.proofs.WithinLaws.{from_is_within, to_is_within}
use Rattle.h5_shape.proofs.slab.Slab.within.Goals as goal

pub returns-clause-inside : goal.returns-clause-inside
returns-clause-inside c =
    let value : c.is_within.result ≡ is_within c.args.dims.now c.args.self.now = cc in
    rw value (from_is_within c.args.dims.now c.args.self.now c.requires.rank, to_is_within c.args.dims.now c.args.self.now)

pub returns-clause-cells : goal.returns-clause-cells
returns-clause-cells c =
    let value : c.is_within.result ≡ is_within c.args.dims.now c.args.self.now = cc in
    rw value (λ yes. length-selection c.args.dims.now c.args.self.now c.requires.rank yes c.axes.ensures.sound.apart)
