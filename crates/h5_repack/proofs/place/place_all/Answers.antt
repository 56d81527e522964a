use Rattle.std.proofs.Common.{◌<◌, ◌∙◌, Some, length, length-set}
use Rattle.std.specs.Prelude.{slice_index}
use Rattle.h5_model.specs.Format.Limits.{most_bytes}
use Rattle.h5_repack.proofs.Headers.{all_at, end_step, headers_step, end_over}
use Rattle.h5_repack.proofs.place.place_all.Goals as goal

pub returns-then-end-gt-MAXIMUM_IMAGE-clause-refused : goal.returns-then-end-gt-MAXIMUM_IMAGE-clause-refused
returns-then-end-gt-MAXIMUM_IMAGE-clause-refused c =
    let i = c.loop-number.number-index in
    let within = all_at (λ n. n < length c.args.sizes.now) c.args.order.now i c.requires.below c.loop-number-test.true in
    end_over c.args.sizes.now c.args.order.now i c.loop-number.end c.whole_length-end.result _ c.loop-number-test.true within c.whole_length-end.ensures.exact
    most_bytes _ c.if-end-gt-MAXIMUM_IMAGE.true c.loop-number.invariant.end_is

pub loop-number-preserved : goal.loop-number-preserved
loop-number-preserved c =
    let i = c.loop-number.number-index in
    let within = all_at (λ n. n < length c.args.sizes.now) c.args.order.now i c.requires.below c.loop-number-test.true in
    record {
      end_is = end_step c.args.sizes.now c.args.order.now i c.loop-number.end c.whole_length-end.result _ c.loop-number-test.true within c.whole_length-end.ensures.exact
          ∙ c.loop-number.invariant.end_is;
      headers_are = headers_step c.args.sizes.now c.args.order.now i c.loop-number.end c.whole_length-end.result _ c.loop-number-test.true within c.whole_length-end.ensures.exact
          c.loop-number.headers.items ∙ c.loop-number.invariant.headers_are;
      low = c.if-end-gt-MAXIMUM_IMAGE.false;
      same = length-set c.loop-number.headers.items (slice_index c.args.order.now i) (Some c.loop-number.end) ∙ c.loop-number.invariant.same;
    }
