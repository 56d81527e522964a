use Rattle.std.proofs.Common.{◌≡◌, ◌<◌, length, get_or, arith, rules, IsTrue, nat_lt}
use Rattle.std.proofs.lemmas.Bool.Decides.{nat_tests}
use Rattle.h5_model.specs.declared.hyperslab.Axis.{Axis}
use Rattle.h5_shape.specs.InBox.{IsSpan}
use Rattle.h5_shape.proofs.InBoxLaws.{apart_at, spans_more, some_less, some_more}
use Rattle.h5_shape.proofs.spans.+spans_in.Goals as goal

abbrev no_axis : Axis
no_axis = record { start = 0; stride = 0; count = 0; block = 0 }

pub span_in-span-requires-clause-apart : goal.span_in-span-requires-clause-apart
span_in-span-requires-clause-apart t c = rw (c.at.ensures no_axis) (apart_at c.args.axes.now c.args.k no_axis (omega (arith, c.if-k-spans.false, c.requires.spans)) c.requires.apart).0

pub span_in-span-requires-clause-top : goal.span_in-span-requires-clause-top
span_in-span-requires-clause-top t c = rw (c.at.ensures no_axis) (apart_at c.args.axes.now c.args.k no_axis (omega (arith, c.if-k-spans.false, c.requires.spans)) c.requires.apart).1

pub returns-then-here-clause-some : goal.returns-then-here-clause-some
returns-then-here-clause-some t c =
    let there : c.args.k < length c.args.axes.now = omega (arith, c.if-k-spans.false, c.requires.spans) in
    let long : length c.spans_in-some.new.spans ≡ length c.args.axes.now = omega (arith, c.spans_in-some.auto.spans, c.requires.spans) in
    let is = apart_at c.args.axes.now c.args.k no_axis there c.requires.apart in
    let some : 0 < c.span_in-span.result.length = search rules in
    let here : IsSpan (get_or c.args.axes.now c.args.k no_axis) c.span_in-span.result = record { some = some; apart = is.0; inside = rw (c.at.ensures no_axis) at c.span_in-span.ensures.0; top = is.1 } in (
      λ yes. some_more c.args.axes.now c.args.corner.now c.args.chunk.now c.spans_in-some.new.spans c.args.k no_axis c.span_in-span.result there c.requires.corner c.requires.chunk long here (c.spans_in-some.ensures.some.0 yes),
      λ are. c.spans_in-some.ensures.some.1 (some_less c.args.axes.now c.args.corner.now c.args.chunk.now c.spans_in-some.new.spans c.args.k no_axis c.span_in-span.result there c.requires.corner c.requires.chunk long are).1,
    )

pub returns-then-here-clause-each : goal.returns-then-here-clause-each
returns-then-here-clause-each t c =
    let there : c.args.k < length c.args.axes.now = omega (arith, c.if-k-spans.false, c.requires.spans) in
    let long : length c.spans_in-some.new.spans ≡ length c.args.axes.now = omega (arith, c.spans_in-some.auto.spans, c.requires.spans) in
    spans_more c.args.axes.now c.args.corner.now c.args.chunk.now c.spans_in-some.new.spans c.args.k no_axis c.span_in-span.result there c.requires.corner c.requires.chunk long
    (rw (c.at.ensures no_axis) at c.span_in-span.ensures) c.spans_in-some.ensures.each

pub returns-else-here-clause-each : goal.returns-else-here-clause-each
returns-else-here-clause-each t c =
    let there : c.args.k < length c.args.axes.now = omega (arith, c.if-k-spans.false, c.requires.spans) in
    let long : length c.spans_in-some.new.spans ≡ length c.args.axes.now = omega (arith, c.spans_in-some.auto.spans, c.requires.spans) in
    spans_more c.args.axes.now c.args.corner.now c.args.chunk.now c.spans_in-some.new.spans c.args.k no_axis c.span_in-span.result there c.requires.corner c.requires.chunk long
    (rw (c.at.ensures no_axis) at c.span_in-span.ensures) c.spans_in-some.ensures.each

pub returns-else-here-clause-some : goal.returns-else-here-clause-some
returns-else-here-clause-some t c =
    let there : c.args.k < length c.args.axes.now = omega (arith, c.if-k-spans.false, c.requires.spans) in
    let long : length c.spans_in-some.new.spans ≡ length c.args.axes.now = omega (arith, c.spans_in-some.auto.spans, c.requires.spans) in
    let none : c.span_in-span.result.length ≡ 0 = omega (arith, c.if-here.false) in (
      λ yes.
          let test : IsTrue (nat_lt 0 c.span_in-span.result.length) = yes in
          let some : 0 < c.span_in-span.result.length = grind (arith, nat_tests, test) in
          absurd (omega (arith, none, some)),
      λ are. absurd (omega (arith, none, (some_less c.args.axes.now c.args.corner.now c.args.chunk.now c.spans_in-some.new.spans c.args.k no_axis c.span_in-span.result there c.requires.corner c.requires.chunk long are).0.some)),
    )
