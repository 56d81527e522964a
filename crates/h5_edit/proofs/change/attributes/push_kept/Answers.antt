use Rattle.std.proofs.Common.{ap, drop, ◌∙◌, sym, subst, ◌+◌}
use Rattle.h5_model.specs.Format.MessageTypes.{nil_kind}
use Rattle.h5_bytes.specs.Bytes.{part}
use Rattle.h5_header.specs.Listed.{messages_in}
use Rattle.h5_header.specs.declared.message.Message.{Message as Placed}
use Rattle.h5_repack.specs.Blocks.Others.{OthersBytes}
use Rattle.h5_edit.specs.Changed.Appended.{IsPushing, kept_messages}
use Rattle.h5_edit.proofs.ChangedLaws.PushedLaws.{pushing_step, pushing_same}
use Rattle.h5_edit.proofs.ChangedLaws.RestLaws.{kept_taken, kept_passed, kept_plain}
use Rattle.h5_edit.proofs.change.attributes.push_kept.Goals as goal
use Rattle.h5_edit.proofs.change.attributes.push_kept.Goals.{then-is_kept+in_ok-push_kept, else-is_kept}

pub loop-message-preserved : goal.loop-message-preserved
loop-message-preserved c =
    let image = c.args.header.now.image in
    let list = c.args.header.now.list in
    let i = c.loop-message.message-index in
    let same = c.list-message-items.ensures.list in
    let none : Placed = record { kind = nil_kind; at = 0; size = 0 } in
    let low = rw same at c.loop-message-test.true in
    let later = kept_messages (messages_in image (drop (i + 1) list)) in
    let all = kept_messages c.args.header.now.messages in (
      elim c.if-is_kept.branch [
        | then-is_kept+in_ok-push_kept w ↦ subst (λ (o : OthersBytes). IsPushing c.args.others.now o later all) (sym w.others-is)
            (pushing_step c.args.others.now c.loop-message.others w.push_kept.new.self _ _ later all c.loop-message.invariant.0
            (kept_taken image list i none low w.part_of-body.result.now (rw same at (w.part_of-body.ensures.part ∙ ap (part _ _) w.bytes.ensures)) (rw same at (sym c.is_kept.ensures ∙ w.if-is_kept.true)))
            (rw same at w.in_ok-push_kept.ensures))
        | else-is_kept w ↦ subst (λ (o : OthersBytes). IsPushing c.args.others.now o later all) (sym w.others-is)
            (pushing_same c.args.others.now c.loop-message.others _ later all c.loop-message.invariant.0
            (kept_passed image list i none low (rw same at (sym c.is_kept.ensures ∙ w.if-is_kept.false))))
      ],
      kept_plain image list i none low c.loop-message.invariant.1,
    )
