use Rattle.std.proofs.Common.{rules, to_z, of_z, ◌≡◌, ◌*◌, ℕ, ℤ, List, length, replicate, pos, sym, ap, ◌∙◌, arith}
use mir.Syntax.{w128}
use Rattle.h5_bytes.specs.Bytes.{part}
use Rattle.h5_space.specs.Space.{Space}
use Rattle.h5_layout.specs.Filled.{cells_of_fill}
use Rattle.h5_layout.proofs.FilledLaws.{fill_count}
use Rattle.h5_layout.proofs.ZeroFill.{cells_zero, written_again}
use Rattle.h5_layout.proofs.filled.fill_taken.Goals as goal

pub returns-then-end-at : goal.returns-then-end-at
returns-then-end-at c =
    let image : Space = c.args.image.now in
    let to = c.args.cells.now in
    let w : List ℕ = cells_of_fill to.fixed to.fill to.count in
    let passed : to_z w128 (of_z w128 to.fill) ≡ to.fill = search rules in
    let zero : to.fill ≡ pos 0 = sym passed ∙ ap (to_z w128) c.if-cells-eq0.true in
    let none : w ≡ replicate (to.count * to.fixed.size) 0 = ap (λ (v : ℤ). cells_of_fill to.fixed v to.count) zero ∙ cells_zero to.fixed to.count in
    let long : length w ≡ to.count * to.fixed.size = fill_count to.fixed to.fill to.count in
    let there : part c.args.at (length w) image.bytes ≡ w
    = ap (λ (n : ℕ). part c.args.at n image.bytes) long ∙ c.requires.zero c.if-end-at.true ∙ sym none in
    ap (λ (bytes : List ℕ). record image { bytes = bytes }) (sym (written_again c.args.at w image.bytes (omega (arith, long, c.requires.inside)) there))
