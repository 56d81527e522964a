use Rattle.std.proofs.Common.{rules, ◌/◌, length, ap, sym, ◌∙◌}
use Rattle.h5_model.proofs.StoredValues.{length-stored}
use Rattle.h5_layout.proofs.buffer.Buffer.cells.Goals as goal

pub invariant_of-result : goal.invariant_of-result
invariant_of-result c = record {
  lent_so = search rules;
  count_is = ap (λ n. length c.args.bytes.now / n) c.size-2.ensures.size ∙ sym (length-stored c.args.fixed c.args.bytes.now);
}
