use Rattle.std.proofs.Common.{◌-◌, ◌*◌, ◌^◌, ◌≤◌, ℕ, min, ap, sym, ◌∙◌, length, get_or, take, drop, arith, List}
use Rattle.h5_model.specs.Tree.Places.{cells}
use Rattle.h5_msg.proofs.LayoutLaws.{needed_step, cells_first}
use Rattle.h5_msg.proofs.layout.+bytes_needed.Goals as goal

pub returns : goal.returns
returns t c =
    let rest : List ℕ = take (length c.args.sizes.now - 1) (drop 1 c.args.sizes.now) in
    let some : 1 ≤ length c.args.sizes.now = omega arith in
    c.saturating_mul.ensures ∙ ap (λ (n : ℕ). min (n * c.bytes_needed.result) (2 ^ 128 - 1)) c.from.ensures
    ∙ ap (λ (n : ℕ). min (get_or c.args.sizes.now 0 0 * n) (2 ^ 128 - 1)) c.bytes_needed.ensures
    ∙ needed_step (get_or c.args.sizes.now 0 0) (cells rest) c.args.size (2 ^ 128 - 1)
    ∙ ap (λ (n : ℕ). min (n * c.args.size) (2 ^ 128 - 1)) (sym (cells_first c.args.sizes.now some))
