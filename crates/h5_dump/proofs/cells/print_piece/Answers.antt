use Rattle.std.proofs.Common.{◌≡◌, ℕ, ◌+◌, ◌%◌, OnOk, length, sym, ap, ◌∙◌, subst}
use Rattle.h5_model.proofs.StoredValues.{length-stored}
use Rattle.h5_file.specs.Pieces.{piece_values}
use Rattle.h5_dump.proofs.cells.print_piece.Goals as goal

pub returns-in-Bytes-clause-column : goal.returns-in-Bytes-clause-column
returns-in-Bytes-clause-column g c =
    let fixed = c.args.fixed.now in
    let rows = c.args.rows.now in
    subst (λ (n : ℕ). OnOk c.print_stored.result (c.print_stored.new.rows.column ≡ (rows.column + n) % rows.width))
    (sym (length-stored fixed c.in-Bytes.bytes.now) ∙ ap (λ p. length (piece_values fixed c.args.fill p)) (sym c.in-Bytes.is))
    c.print_stored.ensures.column
