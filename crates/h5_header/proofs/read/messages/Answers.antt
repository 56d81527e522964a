use Rattle.std.proofs.Common.{◌≡◌, ℕ, List, ◌+◌, length, refl, sym, ◌∙◌, ap}
use Rattle.std.proofs.lemmas.List.{length-map}
use Rattle.std.proofs.lemmas.Result.{err_from_is_err_and}
use Rattle.h5_bytes.specs.Bytes.{number_at}
use Rattle.h5_model.specs.Format.Messages.{prefix_at, total_in}
use Rattle.h5_header.specs.Listed.{message_in, messages_in}
use Rattle.h5_header.specs.declared.message.Message.{Message as Placed}
use Rattle.h5_header.proofs.RefusedLaws.{stops_refused}
use Rattle.h5_header.proofs.ReadableLaws.{stops_readable, same_messages}
use Rattle.h5_header.proofs.WholeLaws.{has_messages, prefix_there, kinds_read, all_messages, filled_to_end}
use Rattle.h5_header.proofs.PrefixLaws.{total-is}
use Rattle.h5_header.proofs.read.messages.Goals as goal

pub returns-in_err-messages-clause-refused : goal.returns-in_err-messages-clause-refused
returns-in_err-messages-clause-refused c =
    let p = err_from_is_err_and c.from_residual.result c.from_residual.ensures.1 in
    let stops = rw c.bytes-bytes.ensures at c.in_err-messages.ensures.refused in
    rw (p.1, p.2) (stops_refused _ _ _ _ _ stops)

pub returns-in_err-messages-clause-only : goal.returns-in_err-messages-clause-only
returns-in_err-messages-clause-only c readable =
    let p = err_from_is_err_and c.from_residual.result c.from_residual.ensures.1 in
    let stops = rw c.bytes-bytes.ensures at c.in_err-messages.ensures.refused in
    rw (p.1, p.2) (stops_readable _ _ _ readable _ _ stops)

total : (image : List ℕ) (at : ℕ) (list : List Placed) (bytes : List ℕ) (kept : List Placed) (n : ℕ) → bytes ≡ image → n ≡ number_at bytes (at + 2) 2
    → kept ≡ list → (total_in (prefix_at image at) ≡ n) × (length (messages_in image list) ≡ length kept)
total image at list bytes kept n same read is =
    (total-is image at ∙ ap (λ bs. number_at bs (at + 2) 2) (sym same) ∙ sym read, length-map list (message_in image) ∙ ap length (sym is))

pub returns-then-list-u16_at-clause-refused : goal.returns-then-list-u16_at-clause-refused
returns-then-list-u16_at-clause-refused c =
    let t = total c.args.image.now.bytes c.args.at c.in_ok-messages.messages.list c.bytes-bytes.result.now c.list.result.now c.u16_at.result c.bytes-bytes.ensures c.u16_at.ensures c.list.ensures in
    let through = rw c.bytes-bytes.ensures at c.in_ok-messages.ensures.read in
    rw c.fault.ensures (
      refl,
      prefix_there _ _ _ _ _ _ through,
      (
        messages_in c.args.image.now.bytes c.in_ok-messages.messages.list,
        all_messages _ _ _ _ _ _ through,
        λ same. c.if-list-u16_at.true (sym t.1 ∙ sym same ∙ t.0),
      ),
    )

pub returns-then-list-u16_at-clause-only : goal.returns-then-list-u16_at-clause-only
returns-then-list-u16_at-clause-only c readable =
    let t = total c.args.image.now.bytes c.args.at c.in_ok-messages.messages.list c.bytes-bytes.result.now c.list.result.now c.u16_at.result c.bytes-bytes.ensures c.u16_at.ensures c.list.ensures in
    let through = rw c.bytes-bytes.ensures at c.in_ok-messages.ensures.read in
    let image = c.args.image.now.bytes in
    let same = same_messages image c.args.at c.args.claims.now.held readable (messages_in image c.in_ok-messages.messages.list) (through.partly).parts
    (filled_to_end _ _ _ _ _ _ through) (through.partly).all in
    absurd (c.if-list-u16_at.true (sym t.1 ∙ ap length same ∙ sym (readable.has).total ∙ t.0))

pub returns-clause-read : goal.returns-clause-read
returns-clause-read c =
    let t = total c.args.image.now.bytes c.args.at c.in_ok-messages.messages.list c.bytes-bytes.result.now c.list.result.now c.u16_at.result c.bytes-bytes.ensures c.u16_at.ensures c.list.ensures in
    let through = rw c.bytes-bytes.ensures at c.in_ok-messages.ensures.read in
    has_messages _ _ _ _ _ _ through (rw c.bytes-bytes.ensures at c.in_ok-messages.ensures.version) (t.0 ∙ sym c.if-list-u16_at.false ∙ sym t.1)

pub returns-clause-known : goal.returns-clause-known
returns-clause-known c = kinds_read _ _ _ _ _ _ c.in_ok-messages.ensures.read
