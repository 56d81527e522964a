use Rattle.std.proofs.Common.{◌≡◌, ◌*◌, ◌<◌, ◌≤◌, [], ◌++◌, length, ℤ, List, min, refl, sym, ap, ◌∙◌, subst, append_assoc, arith}
use Rattle.std.proofs.lemmas.Bool.Decides.{nat_tests}
use Rattle.h5_model.specs.Scripts.Answers.{stored_values}
use Rattle.h5_model.specs.Scripts.Text.{values_text}
use Rattle.h5_model.proofs.PlainValues.{size-low}
use Rattle.h5_text.specs.Printed.{IsPrinted}
use Rattle.h5_text.proofs.Printing.{prints_err, printed_none}
use Rattle.h5_text.proofs.PrintedValues.{values_printed, values_cut, values_cut_here}
use Rattle.h5_text.proofs.StoredParts.{all-stored, stored-parted}
use Rattle.h5_text.proofs.shown.print_values.Goals as goal

pub loop-rest-init : goal.loop-rest-init
loop-rest-init g c = record {
  values = [];
  parts = refl;
  text = printed_none (g.W.Write.contents c.args.output.now) c.args.text.now.items;
}

pub returns-in_err-push_stored_values : goal.returns-in_err-push_stored_values
returns-in_err-push_stored_values g c =
    let all = stored_values c.args.fixed.now c.args.bytes.now in
    let so_far = c.loop-rest.invariant in
    prints_err c.from_residual.result (g.W.Write.contents c.args.output.now) (g.W.Write.contents c.loop-rest.output) c.args.text.now.items c.push_stored_values.new.out.items
    (values_text all) c.from_residual.ensures.0
    (values_cut_here (g.W.Write.contents c.args.output.now) (g.W.Write.contents c.loop-rest.output) c.args.text.now.items c.loop-rest.text.items so_far.values so_far.text
    (stored_values c.args.fixed.now c.loop-rest.rest.now) all so_far.parts)

pub returns-in_err-write_full : goal.returns-in_err-write_full
returns-in_err-write_full g c =
    let fixed = c.args.fixed.now in
    let all = stored_values fixed c.args.bytes.now in
    let so_far = c.loop-rest.invariant in
    let split : stored_values fixed c.loop-rest.rest.now ≡ stored_values fixed c.split_at.result.0.now ++ stored_values fixed c.split_at.result.1.now =
    stored-parted fixed c.loop-rest.rest.now c.split_at.result.0.now c.split_at.result.1.now 4096 c.min.result (size-low fixed c.size-at_once.ensures.one_of)
    (c.min.ensures ∙ ap (λ n. min (length c.loop-rest.rest.now) (4096 * n)) c.size-at_once.ensures.size) c.split_at.ensures.front c.split_at.ensures.back in
    prints_err c.from_residual-in_err-write_full.result (g.W.Write.contents c.args.output.now) (g.W.Write.contents c.write_full.new.output) c.args.text.now.items c.write_full.new.held.items
    (values_text all) c.from_residual-in_err-write_full.ensures.0
    (values_cut (g.W.Write.contents c.args.output.now) (g.W.Write.contents c.loop-rest.output) c.args.text.now.items c.loop-rest.text.items so_far.values so_far.text
    (stored_values fixed c.split_at.result.0.now) (stored_values fixed c.split_at.result.1.now) all c.push_stored_values.new.out.items (g.W.Write.contents c.write_full.new.output)
    (so_far.parts ∙ ap (λ vs. so_far.values ++ vs) split)
    c.in_ok-push_stored_values.ensures c.in_err-write_full.ensures.printed)

pub loop-rest-smaller : goal.loop-rest-smaller
loop-rest-smaller g c =
    let fixed = c.args.fixed.now in
    let some : 1 ≤ fixed.size = size-low fixed c.size-at_once.ensures.one_of in
    let left : 0 < length c.loop-rest.rest.now = grind (arith, nat_tests, c.is_empty.ensures, c.loop-rest-test.true) in
    omega (arith, some, left, c.size-at_once.ensures.size, c.min.ensures, c.split_at.ensures.back_len)

pub loop-rest-preserved : goal.loop-rest-preserved
loop-rest-preserved g c =
    let fixed = c.args.fixed.now in
    let so_far = c.loop-rest.invariant in
    let part = stored_values fixed c.split_at.result.0.now in
    let behind = stored_values fixed c.split_at.result.1.now in
    let split : stored_values fixed c.loop-rest.rest.now ≡ part ++ behind =
    stored-parted fixed c.loop-rest.rest.now c.split_at.result.0.now c.split_at.result.1.now 4096 c.min.result (size-low fixed c.size-at_once.ensures.one_of)
    (c.min.ensures ∙ ap (λ n. min (length c.loop-rest.rest.now) (4096 * n)) c.size-at_once.ensures.size) c.split_at.ensures.front c.split_at.ensures.back in
    record {
      values = so_far.values ++ part;
      parts = so_far.parts ∙ ap (λ vs. so_far.values ++ vs) split ∙ sym (append_assoc so_far.values part behind);
      text = values_printed (g.W.Write.contents c.args.output.now) (g.W.Write.contents c.loop-rest.output) c.args.text.now.items c.loop-rest.text.items so_far.values so_far.text
          part c.push_stored_values.new.out.items (g.W.Write.contents c.write_full.new.output) c.write_full.new.held.items
          c.in_ok-push_stored_values.ensures c.in_ok-write_full.ensures.printed;
    }

pub returns : goal.returns
returns g c =
    let so_far = c.loop-rest.invariant in
    let none : length c.loop-rest.rest.now ≡ 0 = grind (arith, nat_tests, c.is_empty.ensures, c.loop-rest-test.false) in
    subst (λ (values : List ℤ). IsPrinted (g.W.Write.contents c.args.output.now) (g.W.Write.contents c.loop-rest.output) c.args.text.now.items c.loop-rest.text.items (values_text values))
    (all-stored c.args.fixed.now c.args.bytes.now c.loop-rest.rest.now so_far.values so_far.parts none) so_far.text
