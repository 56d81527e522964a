use Rattle.std.proofs.Common.{◌≡◌, ℕ, ◌<◌, List, length, get_or, subst, ◌∙◌, arith}
use Rattle.h5_model.specs.Format.Superblock.{leaf_k}
use Rattle.h5_model.specs.Format.Symbols.{symbols_at}
use Rattle.h5_open.proofs.DepthLaws.{no_links}
use Rattle.h5_open.proofs.object.check_depth.Goals as goal

pub returns-clause-shallow : goal.returns-clause-shallow
returns-clause-shallow c = λ some.
    let image = c.args.image.now.bytes in
    let all = c.deref-node-items.ensures.value ∙ c.in-Ok.ensures in
    let none = no_links image c.args.table (subst (λ (ns : List ℕ). (k : ℕ) → k < length ns → length (symbols_at image (leaf_k image) (get_or ns k 0)) ≡ 0) all
    (λ k low. c.loop-node.invariant k (omega (arith, low, c.loop-node-test.false)))) in
    absurd (omega (arith, some, none))
