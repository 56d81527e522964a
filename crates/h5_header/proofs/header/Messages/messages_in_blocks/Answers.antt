use Rattle.std.proofs.Common.{◌≡◌, ◌+◌, ◌<◌, ◌≤◌, take, slice_index_or, arith}
use Rattle.std.proofs.lemmas.List.Sums.{sum_by_more}
use Rattle.h5_header.specs.Added.{spans}
use Rattle.h5_header.specs.Standing.{nowhere}
use Rattle.h5_header.specs.declared.message.Message.{Message as Placed}
use Rattle.h5_header.proofs.BlockPlaces.{next_spans, spans-le}
use Rattle.h5_header.proofs.header.Messages.messages_in_blocks.Goals as goal

pub overflow_sub-left-in-loop-left : goal.overflow_sub-left-in-loop-left
overflow_sub-left-in-loop-left c =
    let xs = c.args.self.now.list in
    let i = c.loop-left.count in
    let j = c.requires.filled.0 in
    let less : spans (take i xs) < spans (take j xs) = omega (arith, c.requires.filled.2, c.loop-left.invariant.1, c.loop-left-test.true) in
    let below : i < j = next_spans xs i j c.loop-left.invariant.0 c.requires.filled.1 less in
    let step : spans (take (i + 1) xs) ≡ spans (take i xs) + (8 + (slice_index_or xs i nowhere).size)
    = sum_by_more (λ (m : Placed). 8 + m.size) xs i nowhere (omega (arith, below, c.requires.filled.1)) in
    let all : spans (take (i + 1) xs) ≤ spans (take j xs) = spans-le xs (i + 1) j (omega (arith, below)) c.requires.filled.1 in
    rw c.list.ensures (omega (arith, step, all, c.requires.filled.2, c.loop-left.invariant.1))

pub loop-left-preserved : goal.loop-left-preserved
loop-left-preserved c =
    let xs = c.args.self.now.list in
    let i = c.loop-left.count in
    let j = c.requires.filled.0 in
    let less : spans (take i xs) < spans (take j xs) = omega (arith, c.requires.filled.2, c.loop-left.invariant.1, c.loop-left-test.true) in
    let below : i < j = next_spans xs i j c.loop-left.invariant.0 c.requires.filled.1 less in
    let step : spans (take (i + 1) xs) ≡ spans (take i xs) + (8 + (slice_index_or xs i nowhere).size)
    = sum_by_more (λ (m : Placed). 8 + m.size) xs i nowhere (omega (arith, below, c.requires.filled.1)) in
    let all : spans (take (i + 1) xs) ≤ spans (take j xs) = spans-le xs (i + 1) j (omega (arith, below)) c.requires.filled.1 in
    (omega (arith, below, c.requires.filled.1), rw c.list.ensures (omega (arith, step, all, c.requires.filled.2, c.loop-left.invariant.1)))
