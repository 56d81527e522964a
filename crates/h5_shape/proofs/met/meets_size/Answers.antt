use Rattle.std.proofs.Common.{◌≡◌, ◌+◌, subst, rules}
use Rattle.h5_shape.specs.InBox.{IsBelow}
use Rattle.h5_shape.proofs.MetTests.{met_below}
use Rattle.h5_shape.proofs.met.meets_size.Goals as goal

pub returns : goal.returns
returns c =
    let a = c.args.axis.now in
    let first : c.from-3.result ≡ c.args.first = search rules in
    let start : c.from.result ≡ c.args.first = search rules in
    let size : c.from-2.result ≡ c.args.size = search rules in
    let end : c.from.result + c.from-2.result ≡ c.args.first + c.args.size = (λ i. start i + size i) in
    met_below a c.args.first c.args.size c.numbers_below.result c.numbers_below-2.result
    (subst (λ x. IsBelow a x c.numbers_below.result) first c.numbers_below.ensures) (subst (λ x. IsBelow a x c.numbers_below-2.result) end c.numbers_below-2.ensures)
