use Rattle.std.proofs.Common.{◌≡◌, ◌*◌, ℕ, ℤ, length, ap, ◌∙◌, sym, arith}
use Rattle.h5_model.specs.Format.Fixed.{Fixed}
use Rattle.h5_open.specs.declared.opened.added.ContentBytes.{ContentBytes}
use Rattle.h5_open.specs.declared.opened.added.ContentBytes.TheVariants as bytes
use Rattle.h5_open.specs.ObjectAdded.{stored_content}
use Rattle.h5_open.proofs.ObjectWritten.{cells_long}
use Rattle.h5_open.proofs.opened.added.content_length.Goals as goal

product : (content : ContentBytes) (fixed : Fixed) (fill : ℤ) (count size : ℕ) → content ≡ bytes.Cells fixed fill count → size ≡ fixed.size
    → count * size ≡ length (stored_content content)
product content fixed fill count size is one =
    ap (λ (n : ℕ). count * n) one ∙ sym (cells_long fixed fill count) ∙ ap (λ (x : ContentBytes). length (stored_content x)) (sym is)

pub overflow_mul-result : goal.overflow_mul-result
overflow_mul-result c =
    let long = product c.args.content.now c.in-Cells.fixed c.in-Cells.fill c.in-Cells.count c.size.result c.in-Cells.is c.size.ensures.size in omega (arith, long)

pub returns-in-Cells : goal.returns-in-Cells
returns-in-Cells c = product c.args.content.now c.in-Cells.fixed c.in-Cells.fill c.in-Cells.count c.size.result c.in-Cells.is c.size.ensures.size
