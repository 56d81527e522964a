use Rattle.std.proofs.Common.{◌≡◌, ◌+◌, ◌≤◌, [], ◌∷◌, ◌++◌, arith, rules, sym, ◌∙◌, ap, subst, append-nil}
use Rattle.h5_model.specs.Format.Messages.{continuation}
use Rattle.h5_header.specs.Listed.{message_in}
use Rattle.h5_header.specs.Heads.{IsHead}
use Rattle.h5_header.proofs.FillLaws.{read_more}
use Rattle.h5_header.proofs.block.read_block.Goals as goal
use Rattle.h5_header.proofs.block.read_block.Goals.{in-Some+else-is_err, in_default}

pub loop-at-preserved : goal.loop-at-preserved
loop-at-preserved c =
    let image = c.args.image.now in
    let b = c.args.block in
    let m = c.in_ok-message.message in
    let inv = c.loop-at.invariant in
    let blocks : c.match-named_block.blocks.items ≡ c.loop-at.blocks.items ++ continuation (message_in image m) = elim c.match-named_block.branch [
      | in-Some+else-is_err w ↦ let pushed : c.match-named_block.blocks.items ≡ c.loop-at.blocks.items ++ w.in-Some.named ∷ [] = search rules in pushed ∙ ap (λ bs. c.loop-at.blocks.items ++ bs) w.in-Some.ensures
      | in_default w ↦ let none : [] ≡ continuation (message_in image m) = rw w.in_default.is at c.named_block.ensures in
          let same : c.match-named_block.blocks.items ≡ c.loop-at.blocks.items = search rules in
          same ∙ sym (append-nil c.loop-at.blocks.items) ∙ ap (λ bs. c.loop-at.blocks.items ++ bs) none
    ] in
    let list : c.push-in-loop-at.new.self.items ≡ c.loop-at.list.items ++ m ∷ [] = search rules in
    let head : IsHead image (b.at + inv.0) (b.at + b.len) m = subst (λ at. IsHead image at (b.at + b.len) m) inv.1 c.in_ok-message.ensures.read in
    let read = read_more image b c.args.list.now.items c.loop-at.list.items c.args.blocks.now.items c.loop-at.blocks.items inv.0 m c.requires inv.3 head in
    let long : b.at + inv.0 + 8 + m.size ≤ b.at + b.len = head.whole in
    let place : m.at ≡ b.at + inv.0 + 8 = head.place in
    (inv.0 + 8 + m.size, omega arith, omega arith, rw (list, blocks) read)
