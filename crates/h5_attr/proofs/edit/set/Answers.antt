use Rattle.std.proofs.Common.{List, [], length, sym, subst}
use Rattle.std.proofs.lemmas.List.{append-nil}
use Rattle.h5_bytes.specs.declared.Block.{Block}
use Rattle.h5_space.specs.Whole.{IsApart}
use Rattle.h5_space.proofs.MovesLaws.{moves_apart, moves_then}
use Rattle.h5_header.specs.Listed.{messages_in}
use Rattle.h5_attr.proofs.AddedStill.{added_still}
use Rattle.h5_attr.proofs.SetLaws.{set_attribute}
use Rattle.h5_attr.proofs.StillLaws.{still_then}
use Rattle.h5_attr.proofs.edit.set.Goals as goal

pub put-requires-clause-apart : goal.put-requires-clause-apart
put-requires-clause-apart c =
    let old = c.args.image.now in
    let new = c.remove_same.new.image in
    let before = c.args.messages.now.blocks in
    let behind = c.remove_same.new.messages.blocks in
    subst (λ (bs : List Block). IsApart bs new.free (length new.bytes)) (append-nil behind)
    (moves_apart old new before behind [] c.remove_same.ensures.moves
    (subst (λ (bs : List Block). IsApart bs old.free (length old.bytes)) (sym (append-nil before)) c.requires.apart))

pub returns-clause-set : goal.returns-clause-set
returns-clause-set c name a says few attributes has =
    set_attribute (messages_in c.remove_same.new.image.bytes c.remove_same.new.messages.list) (messages_in c.put.new.image.bytes c.put.new.self.list)
    c.args.body.now name a c.put.ensures.added says few attributes (c.remove_same.ensures.removed name a says attributes has)

pub returns-clause-others : goal.returns-clause-others
returns-clause-others c =
    let next = messages_in c.remove_same.new.image.bytes c.remove_same.new.messages.list in
    let last = messages_in c.put.new.image.bytes c.put.new.self.list in
    still_then (messages_in c.args.image.now.bytes c.args.messages.now.list) next last c.remove_same.ensures.others
    (added_still next last c.args.body.now c.put.ensures.added)

pub returns-clause-moves : goal.returns-clause-moves
returns-clause-moves c =
    moves_then c.args.image.now c.remove_same.new.image c.put.new.image _ _ _ c.remove_same.ensures.moves c.put.ensures.moves
