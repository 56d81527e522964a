use Rattle.std.proofs.Common.{◌≡◌}
use Rattle.h5_model.specs.Scripts.Text.{cells_text}
use Rattle.h5_model.specs.Tree.Objects.{Array}
use Rattle.h5_text.specs.declared.streams.PrintFault.{PrintFault}
use Rattle.h5_text.specs.declared.streams.PrintFault.TheVariants.{WriteFailed}
use Rattle.h5_dump.proofs.Dumps.{cells-written}
use Rattle.h5_dump.proofs.cells.write_cells.Goals as goal

pub returns : goal.returns
returns g c =
    cells-written c.write_text.result (λ (e : PrintFault). e ≡ WriteFailed) (g.W.Write.contents c.args.output.now) (g.W.Write.contents c.print_cells.new.output) (g.W.Write.contents c.write_text.new.output)
    c.args.text.now.items c.print_cells.new.text.items c.deref.result.now (cells_text (Array c.args.array.now)) c.deref.ensures.value c.in_ok-print_cells.ensures c.write_text.ensures
