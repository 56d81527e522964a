use Rattle.std.proofs.Common.{◌≡◌, ◌∙◌, true, length, sym, ap, arith}
use Rattle.std.specs.Prelude.{◌==◌}
use Rattle.std.proofs.lemmas.Bool.Decides.{nat_tests}
use Rattle.h5_layout.specs.HeldChunks.{held_cells}
use Rattle.h5_layout.specs.Layouts.{layout_in}
use Rattle.h5_model.specs.Format.Layout.{InChunks}
use Rattle.h5_query.specs.Stored.{has_room}
use Rattle.h5_edit.proofs.change.cells.kept_cells.Goals as goal

pub returns-in-Chunked : goal.returns-in-Chunked
returns-in-Chunked c =
    let a = c.args.array.now in
    let layout : a.layout ≡ InChunks c.in-Chunked.sizes c.in-Chunked.tree = sym c.layout.ensures.layout ∙ ap layout_in c.in-Chunked.is in
    let same : (length c.in-Chunked.sizes == length a.sizes) ≡ true = sym (ap (has_room a.sizes a.fixed.size) layout) ∙ c.layout.ensures.sound.room in (
      c.in-Chunked.sizes,
      c.in-Chunked.tree,
      layout,
      grind (arith, nat_tests, same),
      c.in_ok-new.ensures c.in-Chunked.sizes c.in-Chunked.tree layout ∙ ap (held_cells c.args.image.now.bytes a c.in-Chunked.sizes) c.dims.ensures.sizes,
    )
