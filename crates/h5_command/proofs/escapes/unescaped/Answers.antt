use Rattle.std.proofs.Common.{◌≡◌, ◌+◌, false, Some, ◌∷◌, [], drop, get_or, eqb, eq-eqb, refl, sym, ap, ◌∙◌, arith}
use Rattle.std.proofs.lemmas.Bool.Decides.{nat_tests}
use Rattle.std.proofs.lemmas.Slice.{pushed}
use Rattle.std.proofs.lemmas.List.{take_rest}
use Rattle.h5_model.specs.Scripts.Lines.{unescaped_text, unescaped_past}
use Rattle.h5_command.proofs.Lists.{behind}
use Rattle.h5_command.proofs.EscapeLaws.{plain_step, escape_step, other_none, wrong_none, all_read}
use Rattle.h5_command.proofs.escapes.unescaped.Goals as goal

pub returns-in_default : goal.returns-in_default
unfolding unescaped_text
returns-in_default c =
    sym (wrong_none c.bytes.bytes.items c.bytes.at c.args.word.now c.bytes-test.true (eq-eqb _ _ c.if-byte-eq92.true) (cc (take_rest c.args.word.now (c.bytes.at + 1)))) ∙ c.bytes.invariant

pub bytes-preserved-then-byte-eq92 : goal.bytes-preserved-then-byte-eq92
bytes-preserved-then-byte-eq92 c =
    ap (λ items. behind items (unescaped_past 0 (drop (c.bytes.at + 4) c.args.word.now))) (pushed (c.in-Some.byte ∷ []) refl c.in_ok-push.was c.push.ensures.items)
    ∙ escape_step c.bytes.bytes.items c.in-Some.byte c.bytes.at c.args.word.now c.bytes-test.true (eq-eqb _ _ c.if-byte-eq92.true) (cc (take_rest c.args.word.now (c.bytes.at + 1))) ∙ c.bytes.invariant

pub bytes-preserved : goal.bytes-preserved
bytes-preserved c =
    let other : eqb (get_or c.args.word.now c.bytes.at 0) 92 ≡ false = grind (arith, nat_tests) in
    ap (λ items. behind items (unescaped_past 0 (drop (c.bytes.at + 1) c.args.word.now))) (pushed (get_or c.args.word.now c.bytes.at 0 ∷ []) refl c.in_ok-push-2.was c.push-then-is_plain.ensures.items)
    ∙ plain_step c.bytes.bytes.items c.bytes.at c.args.word.now c.bytes-test.true other (sym c.is_plain.ensures ∙ c.if-is_plain.true) ∙ c.bytes.invariant

pub returns-else-is_plain : goal.returns-else-is_plain
unfolding unescaped_text
returns-else-is_plain c =
    let other : eqb (get_or c.args.word.now c.bytes.at 0) 92 ≡ false = grind (arith, nat_tests) in
    sym (other_none c.bytes.bytes.items c.bytes.at c.args.word.now c.bytes-test.true other (sym c.is_plain.ensures ∙ c.if-is_plain.false)) ∙ c.bytes.invariant

pub returns : goal.returns
unfolding unescaped_text
returns c = ap (λ xs. Some xs) c.new.ensures ∙ sym (all_read c.bytes.bytes.items c.bytes.at c.args.word.now c.bytes-test.false) ∙ c.bytes.invariant
