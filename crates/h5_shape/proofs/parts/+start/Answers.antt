use Rattle.std.proofs.Common.{arith}
use Rattle.h5_model.specs.declared.Axis.{Axis}
use Rattle.h5_shape.proofs.AlongLaws.{some_numbers}
use Rattle.h5_shape.proofs.PartLaws.{boxed_more, start_first, set_on}
use Rattle.h5_shape.proofs.parts.+start.Goals as goal

abbrev no_axis : Axis
no_axis = record { start = 0; stride = 0; count = 0; block = 0 }

pub start-requires : goal.start-requires
start-requires t c =
    let more = boxed_more c.args.axes.now c.args.chunk.now c.args.k no_axis (omega arith) c.requires.boxed in
    (omega arith, (omega arith, more.2))

pub bounds-chunk-k : goal.bounds-chunk-k
bounds-chunk-k t c = (boxed_more c.args.axes.now c.args.chunk.now c.args.k no_axis (omega arith) c.requires.boxed).0

pub span_at-requires-clause-boxed : goal.span_at-requires-clause-boxed
span_at-requires-clause-boxed t c = rw (c.at.ensures no_axis) (boxed_more c.args.axes.now c.args.chunk.now c.args.k no_axis (omega arith) c.requires.boxed).1

pub span_at-requires-clause-inside : goal.span_at-requires-clause-inside
span_at-requires-clause-inside t c =
    let more = boxed_more c.args.axes.now c.args.chunk.now c.args.k no_axis (omega arith) c.requires.boxed in
    rw (c.at.ensures no_axis) (some_numbers _ _ more.1)

pub returns-clause-first : goal.returns-clause-first
returns-clause-first t c =
    let more = boxed_more c.args.axes.now c.args.chunk.now c.args.k no_axis (omega arith) c.requires.boxed in
    start_first c.args.axes.now c.args.chunk.now c.start.new.spans c.args.k no_axis c.span_at.result (omega arith) more.0 (omega arith) c.start.ensures.first (rw (c.at.ensures no_axis) at c.span_at.ensures.first)

pub returns-clause-on : goal.returns-clause-on
returns-clause-on t c =
    let more = boxed_more c.args.axes.now c.args.chunk.now c.args.k no_axis (omega arith) c.requires.boxed in
    set_on c.args.axes.now c.args.chunk.now c.start.new.spans c.args.k no_axis c.span_at.result (omega arith) more.0 (omega arith) c.start.ensures.on (rw (c.at.ensures no_axis) at c.span_at.ensures.on)
