use Rattle.std.proofs.Common.{rules, tests}
use Rattle.std.specs.Prelude.{◌==◌}
use Rattle.std.proofs.lemmas.Iterator.Consumers.{count_from_yields_List}
use Rattle.std.proofs.lemmas.Iterator.Splits.{YieldsList-from_slice_split}
use Rattle.h5_query.proofs.path.count_parts.Goals as goal

pub returns : goal.returns
returns c = count_from_yields_List _ _ c.count.ensures.ran
    (YieldsList-from_slice_split _ (λ b. b == 47) c.args.text.now c.split.ensures.rest c.split.ensures.done c.split.ensures.closure (λ x b q k. search (rules, tests)))
