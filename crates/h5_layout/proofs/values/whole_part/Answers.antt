use Rattle.std.proofs.Common.{◌∙◌, length, refl, sym, subst, arith}
use Rattle.h5_layout.specs.Pieces.{IsPiece}
use Rattle.h5_layout.specs.declared.pieces.Piece.TheVariants.{Bytes}
use Rattle.h5_layout.proofs.CellLaws.{replicate_range}
use Rattle.h5_layout.proofs.ValueSteps.{count_whole}
use Rattle.h5_layout.proofs.values.whole_part.Goals as goal

pub returns-in-Bytes-clause-some : goal.returns-in-Bytes-clause-some
returns-in-Bytes-clause-some c =
    let t = c.args.fixed.now in
    let whole : IsPiece t (Bytes c.in-Bytes.bytes) = subst (IsPiece t) c.in-Bytes.is c.requires in
    let count = c.stored_part.ensures.count ∙ count_whole t whole.0 (length c.in-Bytes.bytes.now) c.stored_part.ensures.sound whole.2 in
    omega (arith, count, whole.1)

pub returns-in-Fill-clause-values : goal.returns-in-Fill-clause-values
returns-in-Fill-clause-values c fill = rw c.in-Fill.is (sym (replicate_range fill (λ p. fill) 0 c.in-Fill.cells (λ j low. refl)))
