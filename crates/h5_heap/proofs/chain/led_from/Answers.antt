use Rattle.std.proofs.Common.{ℕ, ◌∷◌, [], refl, ap, ◌∙◌}
use Rattle.h5_bytes.specs.Bytes.{number_at}
use Rattle.h5_heap.specs.Chain.{free_from}
use Rattle.h5_heap.proofs.ChainLaws.{free_block_at, stands_on, step_at}
use Rattle.h5_heap.proofs.chain.led_from.Goals as goal

pub returns-then-first-at : goal.returns-then-first-at
returns-then-first-at c =
    let segment = c.args.segment.now in
    let going = (stands_on segment c.args.first c.args.at c.requires.chain c.requires.there).0 in
    record {
      front = [];
      back = free_from segment (number_at segment c.args.first 8);
      split = (step_at segment c.args.first going c.requires.chain).split
          ∙ ap (λ (n : ℕ). free_block_at segment n ∷ free_from segment (number_at segment c.args.first 8)) c.if-first-at.true;
      before = refl;
    }
