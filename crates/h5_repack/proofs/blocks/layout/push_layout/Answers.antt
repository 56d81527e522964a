use Rattle.std.proofs.Common.{◌≡◌, ◌++◌, ◌∙◌, List, ℕ, sym, ap, subst}
use Rattle.std.specs.Prelude.{OnOk}
use Rattle.h5_model.specs.Format.MessageTypes.{data_layout_kind}
use Rattle.h5_model.specs.Format.Bodies.{padded_body}
use Rattle.h5_model.specs.Format.Plain.{message_bytes}
use Rattle.h5_msg.specs.Layouts.{layout_in}
use Rattle.h5_repack.proofs.BlockLaws.HeaderLaws.{block_laid, chunks_laid}
use Rattle.h5_repack.proofs.blocks.layout.push_layout.Goals as goal

pub returns-in-Contiguous : goal.returns-in-Contiguous
returns-in-Contiguous c =
    subst (λ (body : List ℕ). OnOk c.push_contiguous.result (c.push_contiguous.new.out.items ≡ c.args.out.now.items ++ message_bytes (data_layout_kind, padded_body body)))
    (block_laid c.args.array.now c.args.cells.now c.args.address c.in-Contiguous.field-0 c.cells_length.result
    (sym c.layout.ensures.layout ∙ ap layout_in c.in-Contiguous.is) c.cells_length.ensures.exact)
    c.push_contiguous.ensures

pub returns-in-Chunked : goal.returns-in-Chunked
returns-in-Chunked c =
    subst (λ (body : List ℕ). OnOk c.push_chunked.result (c.push_chunked.new.out.items ≡ c.args.out.now.items ++ message_bytes (data_layout_kind, padded_body body)))
    (chunks_laid c.args.array.now c.args.cells.now c.args.address c.in-Chunked.sizes c.in-Chunked.tree c.fixed.result
    (sym c.layout.ensures.layout ∙ ap layout_in c.in-Chunked.is) c.fixed.ensures)
    c.push_chunked.ensures
