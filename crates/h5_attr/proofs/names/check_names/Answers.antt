use Rattle.std.proofs.Common.{inr, refl}
use Rattle.h5_attr.proofs.OrderLaws.{once_by, twice_by}
use Rattle.h5_attr.proofs.EntryLaws.{names_once}
use Rattle.h5_attr.proofs.names.check_names.Goals as goal

pub returns-then-not-is_distinct-clause-refused : goal.returns-then-not-is_distinct-clause-refused
returns-then-not-is_distinct-clause-refused c =
    let told = rw (c.if-not-is_distinct.true, c.deref.ensures.value) at c.is_distinct.ensures in
    inr (refl, twice_by c.args.header.now.messages _ c.in-Ok.ensures.same told)

pub returns-then-not-is_distinct-clause-only : goal.returns-then-not-is_distinct-clause-only
returns-then-not-is_distinct-clause-only c attributes has =
    let ms = c.args.header.now.messages in
    let told = rw (c.if-not-is_distinct.true, c.deref.ensures.value) at c.is_distinct.ensures in
    absurd (twice_by ms _ c.in-Ok.ensures.same told (names_once ms attributes has))

pub returns-clause-once : goal.returns-clause-once
returns-clause-once c =
    let told = rw (c.if-not-is_distinct.false, c.deref.ensures.value) at c.is_distinct.ensures in
    once_by c.args.header.now.messages _ c.in-Ok.ensures.same told
