use Rattle.std.proofs.Common.{◌∙◌, ap, length, List, ℕ}
use Rattle.h5_shape.proofs.AxesLaws.{are_long}
use Rattle.h5_shape.proofs.axes.Axes.len.Goals as goal

pub returns : goal.returns
returns c = ap (λ (s : List ℕ). length s) c.start.ensures ∙ (are_long c.self.inside.lists c.args.self.now c.self.invariant c.self.view_is).start
