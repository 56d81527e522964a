use Rattle.std.proofs.Common.{◌≡◌, false, MatchOption, sym, ap, ◌∙◌, subst}
use Rattle.h5_msg.specs.Layouts.{layout_in}
use Rattle.h5_model.specs.Tree.Objects.{Dataset}
use Rattle.h5_model.specs.Views.Shown.{is_in_line}
use Rattle.h5_layout.specs.Lent.{AreInLine}
use Rattle.h5_layout.specs.Stored.{data_in}
use Rattle.h5_layout.proofs.LentLaws.{block_line, told_line}
use Rattle.h5_layout.proofs.stored.StoredArray.line.Goals as goal

pub returns-in-Compact : goal.returns-in-Compact
returns-in-Compact c =
    let image = c.self.inside.image.now.bytes in
    let a = c.self.inside.array in
    let layout = ap layout_in (sym c.in-Compact.is) ∙ c.layout.ensures.layout in
    subst (λ (d : Dataset). AreInLine d c.in-Compact.bytes.now) c.self.view_is
    (told_line image a c.layout.ensures.sound c.self.invariant c.in-Compact.bytes.now (ap (data_in image) (sym layout)))

pub returns-in-Contiguous : goal.returns-in-Contiguous
returns-in-Contiguous c =
    let image = c.self.inside.image.now.bytes in
    let layout = ap layout_in (sym c.in-Contiguous.is) ∙ c.layout.ensures.layout in
    subst (λ (d : Dataset). MatchOption c.block_bytes.result (is_in_line d.storage ≡ false) (λ bytes. AreInLine d bytes.now)) c.self.view_is
    (block_line image c.self.inside.array c.in-Contiguous.block c.layout.ensures.sound c.self.invariant layout c.block_bytes.result c.block_bytes.ensures)
