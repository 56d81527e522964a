use Rattle.std.proofs.Common.{Some, sym, ap, ◌∙◌}
use Rattle.std.specs.Prelude.{option_and_then}
use Rattle.h5_model.specs.Tree.Objects.{Dataset, dataset_of}
use Rattle.h5_query.proofs.array.array_at.Goals as goal

pub described_of-array-requires : goal.described_of-array-requires
described_of-array-requires c =
    let at = c.in_ok-number.ensures in
    (at.0, sym (ap (option_and_then (dataset_of c.args.opened.now.tree)) at.1.number) ∙ at.1.found)

pub new-requires : goal.new-requires
new-requires c = rw c.image-image.ensures.bytes c.described_of-array.ensures.stored

pub returns-clause-there : goal.returns-clause-there
returns-clause-there c =
    let at = c.in_ok-number.ensures in
    record {
      accepted = at.1.accepted;
      number = at.1.number;
      found = ap (option_and_then (dataset_of c.args.opened.now.tree)) at.1.number ∙ c.described_of-array.ensures.there.told
          ∙ ap (λ (d : Dataset). Some d) (sym (rw c.image-image.ensures.bytes at c.new.ensures));
    }
