use Rattle.std.proofs.Common.{◌≡◌, ◌==◌, ◌+◌, ◌≤◌, None, Some, length, sym, ◌∙◌, ap}
use Rattle.std.specs.Prelude.{option_map}
use Rattle.std.specs.List.{find}
use Rattle.h5_bytes.specs.Bytes.{part}
use Rattle.h5_header.specs.declared.message.Message.{Message as Placed}
use Rattle.h5_header.proofs.FoundLaws.{first_body-in, copied_part}
use Rattle.h5_header.proofs.header_ref.HeaderRef.find_body.Goals as goal

pub returns-in_err-message : goal.returns-in_err-message
returns-in_err-message c =
    let image = c.self.inside.image.now.bytes in
    let list = c.self.inside.messages.now.list in
    let none : None ≡ find (λ (m : Placed). m.kind == c.args.kind) list = c.in_err-message.ensures in
    rw (c.from_residual.ensures, ← c.self.view_is) (ap (option_map (λ (m : Placed). part m.at m.size image)) none ∙ sym (first_body-in image c.args.kind list))

pub returns : goal.returns
returns c =
    let image = c.self.inside.image.now.bytes in
    let list = c.self.inside.messages.now.list in
    let m = c.in_ok-message.message.now in
    let here : Some m ≡ find (λ (x : Placed). x.kind == c.args.kind) list = c.in_ok-message.ensures in
    let value = rw c.from.ensures at c.part.ensures.value in
    rw (← c.self.view_is) (copied_part image list c.args.kind m c.part.result c.self.invariant (sym here)
    (λ (within : m.at + m.size ≤ length image). c.part.ensures.inside.1 (rw c.from.ensures within)) value)
