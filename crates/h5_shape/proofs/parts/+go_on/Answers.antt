use Rattle.std.proofs.Common.{◌≡◌, ◌+◌, ◌*◌, ◌≤◌, get_or, ap, arith}
use Rattle.std.proofs.lemmas.List.{length-drop}
use Rattle.h5_model.specs.declared.Axis.{Axis}
use Rattle.h5_shape.specs.declared.parts.Span.{Span}
use Rattle.h5_shape.proofs.AlongLaws.{few_numbers}
use Rattle.h5_shape.proofs.PartLaws.{on_more, start_first, set_on, inner_on, go_inner, go_outer, go_end, go_none, kept_at, kept_before, kept_set}
use Rattle.h5_shape.proofs.parts.+go_on.Goals as goal

abbrev no_axis : Axis
no_axis = record { start = 0; stride = 0; count = 0; block = 0 }

abbrev no_span : Span
no_span = record { corner = 0; from = 0; length = 0 }

pub returns-then-k-spans-clause-next : goal.returns-then-k-spans-clause-next
returns-then-k-spans-clause-next t c = go_none _ _ _ c.requires (omega (arith, length-drop c.args.k c.args.spans.now))

pub go_on-requires : goal.go_on-requires
go_on-requires t c = (omega arith, (on_more c.args.axes.now c.args.chunk.now c.args.spans.now c.args.k no_axis no_span (omega arith) c.requires).3)

pub returns-then-go_on-clause-next : goal.returns-then-go_on-clause-next
returns-then-go_on-clause-next t c =
    let more = on_more c.args.axes.now c.args.chunk.now c.args.spans.now c.args.k no_axis no_span (omega arith) c.requires in
    go_inner c.args.axes.now c.args.chunk.now c.args.spans.now c.go_on.new.spans c.args.k no_axis no_span more.0 more.1 (omega arith) (omega arith) c.go_on.ensures.kept c.if-go_on.ensures.next

pub returns-then-go_on-clause-on : goal.returns-then-go_on-clause-on
returns-then-go_on-clause-on t c =
    let more = on_more c.args.axes.now c.args.chunk.now c.args.spans.now c.args.k no_axis no_span (omega arith) c.requires in
    inner_on c.args.axes.now c.args.chunk.now c.args.spans.now c.go_on.new.spans c.args.k no_axis no_span more.0 more.1 (omega arith) c.go_on.ensures.kept c.go_on.ensures.on more.2

pub returns-then-go_on-clause-kept : goal.returns-then-go_on-clause-kept
returns-then-go_on-clause-kept t c = kept_before c.args.spans.now c.go_on.new.spans c.args.k c.go_on.ensures.kept

pub at-axis-requires : goal.at-axis-requires
at-axis-requires t c = (on_more c.args.axes.now c.args.chunk.now c.args.spans.now c.args.k no_axis no_span (omega arith) c.requires).0

pub overflow_sub-span : goal.overflow_sub-span
overflow_sub-span t c =
    let more = on_more c.args.axes.now c.args.chunk.now c.args.spans.now c.args.k no_axis no_span (omega arith) c.requires in
    let here : get_or c.go_on.new.spans c.args.k no_span ≡ get_or c.args.spans.now c.args.k no_span = kept_at c.args.spans.now c.go_on.new.spans c.args.k no_span c.go_on.ensures.kept in
    rw here (omega (arith, more.2.some))

pub overflow_add-span : goal.overflow_add-span
overflow_add-span t c =
    let more = on_more c.args.axes.now c.args.chunk.now c.args.spans.now c.args.k no_axis no_span (omega arith) c.requires in
    let here : get_or c.go_on.new.spans c.args.k no_span ≡ get_or c.args.spans.now c.args.k no_span = kept_at c.args.spans.now c.go_on.new.spans c.args.k no_span c.go_on.ensures.kept in
    let few = few_numbers (get_or c.args.axes.now c.args.k no_axis) (get_or c.args.chunk.now c.args.k 0) more.2.boxed in
    rw here (omega (arith, few, more.2.some, more.2.inside))

pub returns-then-span-last_position-clause-next : goal.returns-then-span-last_position-clause-next
returns-then-span-last_position-clause-next t c =
    let more = on_more c.args.axes.now c.args.chunk.now c.args.spans.now c.args.k no_axis no_span (omega arith) c.requires in
    go_outer c.args.axes.now c.args.chunk.now c.args.spans.now c.go_on.new.spans c.args.k no_axis no_span c.span_at.result more.0 more.1 (omega arith) (omega arith) c.go_on.ensures.kept c.if-go_on.ensures.next.0 c.if-go_on.ensures.next.1 (rw (c.at-axis.ensures no_axis) at c.span_at.ensures.first)

pub returns-then-span-last_position-clause-kept : goal.returns-then-span-last_position-clause-kept
returns-then-span-last_position-clause-kept t c = kept_set c.args.spans.now c.go_on.new.spans c.args.k c.span_at.result c.go_on.ensures.kept

pub returns-then-span-last_position-clause-on : goal.returns-then-span-last_position-clause-on
returns-then-span-last_position-clause-on t c =
    let more = on_more c.args.axes.now c.args.chunk.now c.args.spans.now c.args.k no_axis no_span (omega arith) c.requires in
    set_on c.args.axes.now c.args.chunk.now c.go_on.new.spans c.args.k no_axis c.span_at.result more.0 more.1 (omega arith) c.go_on.ensures.on (rw (c.at-axis.ensures no_axis) at c.span_at.ensures.on)

pub returns-clause-next : goal.returns-clause-next
returns-clause-next t c =
    let more = on_more c.args.axes.now c.args.chunk.now c.args.spans.now c.args.k no_axis no_span (omega arith) c.requires in
    let here : get_or c.go_on.new.spans c.args.k no_span ≡ get_or c.args.spans.now c.args.k no_span = kept_at c.args.spans.now c.go_on.new.spans c.args.k no_span c.go_on.ensures.kept in
    let long : (get_or c.go_on.new.spans c.args.k no_span).length ≡ (get_or c.args.spans.now c.args.k no_span).length = ap (λ (s : Span). s.length) here in
    let last : (get_or c.args.axes.now c.args.k no_axis).count * (get_or c.args.axes.now c.args.k no_axis).block ≤ (get_or c.go_on.new.spans c.args.k no_span).from + (get_or c.go_on.new.spans c.args.k no_span).length =
    omega (arith, rw (c.at-axis.ensures no_axis) at c.last_position.ensures, c.if-span-last_position.false, long, more.2.some) in (
      go_end c.args.axes.now c.args.chunk.now c.args.spans.now c.go_on.new.spans c.args.k no_axis no_span more.0 more.1 (omega arith) c.go_on.ensures.kept c.if-go_on.ensures.next.0 last,
      start_first c.args.axes.now c.args.chunk.now c.go_on.new.spans c.args.k no_axis c.span_at-2.result more.0 more.1 (omega arith) c.if-go_on.ensures.next.1 (rw (c.at-axis.ensures no_axis) at c.span_at-2.ensures.first),
    )

pub returns-clause-on : goal.returns-clause-on
returns-clause-on t c =
    let more = on_more c.args.axes.now c.args.chunk.now c.args.spans.now c.args.k no_axis no_span (omega arith) c.requires in
    set_on c.args.axes.now c.args.chunk.now c.go_on.new.spans c.args.k no_axis c.span_at-2.result more.0 more.1 (omega arith) c.go_on.ensures.on (rw (c.at-axis.ensures no_axis) at c.span_at-2.ensures.on)

pub returns-clause-kept : goal.returns-clause-kept
returns-clause-kept t c = kept_set c.args.spans.now c.go_on.new.spans c.args.k c.span_at-2.result c.go_on.ensures.kept

pub last_position-requires : goal.last_position-requires
last_position-requires t c =
    let more = on_more c.args.axes.now c.args.chunk.now c.args.spans.now c.args.k no_axis no_span (omega arith) c.requires in
    let boxed = more.2.boxed in
    rw (c.at-axis.ensures no_axis) (record { sized = omega arith; some = boxed.some; apart = boxed.apart; top = boxed.top })

pub bounds-chunk-k : goal.bounds-chunk-k
bounds-chunk-k t c = (on_more c.args.axes.now c.args.chunk.now c.args.spans.now c.args.k no_axis no_span (omega arith) c.requires).1

pub span_at-requires-clause-boxed : goal.span_at-requires-clause-boxed
span_at-requires-clause-boxed t c =
    rw (c.at-axis.ensures no_axis) (on_more c.args.axes.now c.args.chunk.now c.args.spans.now c.args.k no_axis no_span (omega arith) c.requires).2.boxed

pub bounds-chunk-k-2 : goal.bounds-chunk-k-2
bounds-chunk-k-2 t c = (on_more c.args.axes.now c.args.chunk.now c.args.spans.now c.args.k no_axis no_span (omega arith) c.requires).1

pub span_at-requires-2-clause-boxed : goal.span_at-requires-2-clause-boxed
span_at-requires-2-clause-boxed t c =
    rw (c.at-axis.ensures no_axis) (on_more c.args.axes.now c.args.chunk.now c.args.spans.now c.args.k no_axis no_span (omega arith) c.requires).2.boxed
