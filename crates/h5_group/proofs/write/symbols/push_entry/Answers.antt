use Rattle.std.proofs.Common.{◌++◌, length, ap, ◌∙◌}
use Rattle.h5_bytes.specs.Numbers.{zeros}
use Rattle.h5_snod.specs.Written.{new_bytes}
use Rattle.h5_snod.specs.declared.write.NewSymbol.{NewSymbol}
use Rattle.h5_snod.proofs.WrittenLaws.{long_entry}
use Rattle.h5_bytes.proofs.TailLaws.{tail_written}
use Rattle.h5_group.proofs.write.symbols.push_entry.Goals as goal

pub returns : goal.returns
returns c =
    tail_written _ c.in_ok-at.at c.args.out.now.items (zeros 40) c.push_room.new.out.items c.deref_mut.result.now c.write_entry.new.bytes
    c.in_ok-at.ensures.room c.in_ok-at.ensures.place c.deref_mut.ensures.value c.deref_mut.ensures.len
    (ap length c.write_entry.ensures.written ∙ long_entry c.new_symbol.result)
    ∙ ap (λ bytes. c.args.out.now.items ++ bytes) (c.write_entry.ensures.written ∙ ap (λ (s : NewSymbol). new_bytes s) c.new_symbol.ensures)
