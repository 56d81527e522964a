use Rattle.std.proofs.Common.{◌≡◌, arith, ap, inl, inr}
use Rattle.std.proofs.lemmas.Bool.{cases_lt}
use Rattle.h5_space.specs.Space.{Space}
use Rattle.h5_bytes.specs.Blocks.{holds, cover}
use Rattle.h5_bytes.proofs.BlockLaws.{holds_past, holds_before}
use Rattle.h5_space.proofs.image.Image.give.Goals as goal

pub returns-else-len-gt0-clause-given : goal.returns-else-len-gt0-clause-given
returns-else-len-gt0-clause-given c p =
    let e = ap (λ (s : Space). cover p s.free) c.self.view_is in
    let z : holds p c.args.at c.args.len ≡ 0 = elim (cases_lt p c.args.at) [ inl low ↦ holds_before p _ _ low | inr high ↦ holds_past p _ _ (omega arith) ] in
    omega arith
