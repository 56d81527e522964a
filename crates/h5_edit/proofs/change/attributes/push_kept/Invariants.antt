use Rattle.std.proofs.Common.{drop}
use Rattle.std.specs.List.{AllByRecursion}
use Rattle.h5_header.specs.Listed.{messages_in}
use Rattle.h5_repack.specs.Bodies.Sound.{IsPlainKept}
use Rattle.h5_edit.specs.Changed.Appended.{IsPushing, kept_in, kept_messages}
use Rattle.h5_edit.proofs.change.attributes.push_kept.Given as goal

abbrev pub invariant-loop-message : goal.invariant-loop-message
invariant-loop-message l =
    IsPushing l.fn.others l.others (kept_messages (messages_in l.header.image (drop l.message-index l.header.list))) (kept_messages l.header.messages)
    × AllByRecursion IsPlainKept (kept_in (messages_in l.header.image (drop l.message-index l.header.list)))
