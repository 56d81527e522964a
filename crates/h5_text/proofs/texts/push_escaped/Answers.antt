use Rattle.std.proofs.Common.{ℕ, List, take, sym, ◌∙◌, subst}
use Rattle.h5_model.specs.Scripts.Text.{escaped_text}
use Rattle.h5_text.specs.Appends.{Appends}
use Rattle.h5_text.proofs.Appending.{appends_err}
use Rattle.h5_text.proofs.PlainTexts.{escaped_same}
use Rattle.h5_text.proofs.texts.push_escaped.Goals as goal

pub returns-in_err-push_byte : goal.returns-in_err-push_byte
returns-in_err-push_byte c =
    appends_err c.from_residual.result c.args.out.now.items (escaped_text (take c.loop-byte.byte-index c.args.bytes.now)) c.loop-byte.out.items
    c.push_byte.new.out.items (escaped_text c.args.bytes.now) c.from_residual.ensures.0 c.loop-byte.invariant c.in_err-push_byte.ensures

pub returns-then-are_plain : goal.returns-then-are_plain
returns-then-are_plain c =
    subst (λ (text : List ℕ). Appends c.push_text.result c.args.out.now.items c.push_text.new.out.items text)
    (sym (escaped_same c.args.bytes.now (sym c.are_plain.ensures ∙ c.if-are_plain.true)))
    c.push_text.ensures
