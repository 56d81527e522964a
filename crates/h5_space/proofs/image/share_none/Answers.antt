use Rattle.std.proofs.Common.{◌<◌, refl, leb-true, le-leb, arith}
use Rattle.h5_space.proofs.AroundLaws.{apart_first, apart_second, apart_before, apart_low}
use Rattle.h5_space.proofs.image.share_none.Goals.{then-len-eq0-via-then-len-eq0, then-len-eq0-via-else-len-eq0+then-size-eq0}
use Rattle.h5_space.proofs.image.share_none.Goals as goal

pub returns-then-len-eq0 : goal.returns-then-len-eq0
returns-then-len-eq0 c = (
  (λ _ p. elim c.then-len-eq0.branch [
    | then-len-eq0-via-then-len-eq0 w ↦ rw w.if-len-eq0.true (apart_first c.args.at c.args.other c.args.size p)
    | then-len-eq0-via-else-len-eq0+then-size-eq0 w ↦ rw w.if-size-eq0.true (apart_second c.args.at c.args.len c.args.other p)
  ]),
  (λ _. refl),
)

pub returns-then-at-other : goal.returns-then-at-other
returns-then-at-other c =
    let some : 0 < c.args.len = omega (arith, c.if-len-eq0.false) in let more : 0 < c.args.size = omega (arith, c.if-size-eq0.false) in
    ((λ low p. apart_before c.args.at c.args.len c.args.other c.args.size (leb-true _ _ low) p), (λ none. le-leb _ _ (apart_low c.args.at c.args.len c.args.other c.args.size none some more (omega (arith, c.if-at-other.true)))))

pub returns-else-at-other : goal.returns-else-at-other
returns-else-at-other c =
    let some : 0 < c.args.len = omega (arith, c.if-len-eq0.false) in let more : 0 < c.args.size = omega (arith, c.if-size-eq0.false) in
    ((λ low p. omega (arith, apart_before c.args.other c.args.size c.args.at c.args.len (leb-true _ _ low) p)), (λ none. le-leb _ _ (apart_low c.args.other c.args.size c.args.at c.args.len (λ p. omega (arith, none p)) more some (omega (arith, c.if-at-other.false)))))
