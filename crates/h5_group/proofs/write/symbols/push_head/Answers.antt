use Rattle.std.proofs.Common.{◌++◌, length, ap, ◌∙◌}
use Rattle.h5_bytes.specs.Numbers.{zeros}
use Rattle.h5_bytes.proofs.TailLaws.{tail_written}
use Rattle.h5_group.proofs.write.symbols.push_head.Goals as goal

pub returns : goal.returns
returns c =
    tail_written _ c.in_ok-at.at c.args.out.now.items (zeros 8) c.push_room.new.out.items c.deref_mut.result.now c.write_head.new.bytes
    c.in_ok-at.ensures.room c.in_ok-at.ensures.place c.deref_mut.ensures.value c.deref_mut.ensures.len
    (ap length c.write_head.ensures) ∙ ap (λ bytes. c.args.out.now.items ++ bytes) c.write_head.ensures
