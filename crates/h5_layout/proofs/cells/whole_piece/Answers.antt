use Rattle.h5_layout.proofs.cells.whole_piece.Goals as goal

pub returns-clause-bytes : goal.returns-clause-bytes
returns-clause-bytes c = c.run_bytes.ensures.bytes
