use Rattle.std.proofs.Common.{inl}
use Rattle.h5_header.specs.Listed.{messages_in}
use Rattle.h5_header.proofs.KindLaws.{some_twice, above_one}
use Rattle.h5_header.proofs.header.Messages.object_kind.Goals as goal

pub returns-then-table-gt1-clause-refused : goal.returns-then-table-gt1-clause-refused
returns-then-table-gt1-clause-refused c image =
    let ms = messages_in image c.args.self.now.list in
    let above = above_one c.count-table.result c.count-space.result c.count-datatype.result c.count-layout.result c.count-old_fill.result c.count-new_fill.result
    c.then-table-gt1.either in
    let counted = rw (
      c.count-table.ensures image,
      c.count-space.ensures image,
      c.count-datatype.ensures image,
      c.count-layout.ensures image,
      c.count-old_fill.ensures image,
      c.count-new_fill.ensures image,
    ) at above in
    rw c.fault-then-table-gt1.ensures (inl (some_twice ms counted))
