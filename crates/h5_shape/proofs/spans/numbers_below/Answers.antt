use Rattle.std.proofs.Common.{◌≡◌, ◌-◌, ◌/◌, ◌%◌, ◌<◌, ◌≤◌, arith, rules}
use Rattle.std.specs.Prelude.{max, min}
use Rattle.std.proofs.lemmas.Nat.{div-add-mod', mod_below}
use Rattle.h5_shape.proofs.AxisNumbers.{below_every, below_some, same_step, some_block}
use Rattle.h5_shape.proofs.spans.numbers_below.Goals as goal

pub returns-then-full-count : goal.returns-then-full-count
returns-then-full-count c =
    let a = c.args.axis.now in
    let S = c.from-stride.result in
    let far = c.args.x - c.from-start.result in
    let start : c.from-start.result ≡ a.start = search rules in
    let count : c.from-count.result ≡ a.count = search rules in
    let block : c.from-block.result ≡ a.block = search rules in
    let is : S ≡ max a.stride a.block = search rules in
    let behind : c.from-start.result < c.args.x = search rules in
    let some : 0 < S = omega (arith, is, some_block a.block c.if-axis-eq0.false) in
    let many : c.from-count.result ≤ far / S = search rules in
    rw (count, block) (below_every a c.args.x S (far / S) (far % S) (omega (arith, start, behind, div-add-mod' far S)) (mod_below far S some) (omega (arith, is)) (same_step a S is c.requires)
    (omega (arith, many, count)))

pub returns : goal.returns
returns c =
    let a = c.args.axis.now in
    let S = c.from-stride.result in
    let far = c.args.x - c.from-start.result in
    let start : c.from-start.result ≡ a.start = search rules in
    let count : c.from-count.result ≡ a.count = search rules in
    let block : c.from-block.result ≡ a.block = search rules in
    let is : S ≡ max a.stride a.block = search rules in
    let behind : c.from-start.result < c.args.x = search rules in
    let some : 0 < S = omega (arith, is, some_block a.block c.if-axis-eq0.false) in
    let few : far / S < c.from-count.result = search rules in
    let least : c.min.result ≡ min (far % S) c.from-block.result = search rules in
    rw block (below_some a c.args.x S (far / S) (far % S) (omega (arith, start, behind, div-add-mod' far S)) (mod_below far S some) (omega (arith, is)) (same_step a S is c.requires)
    c.min.result (omega (arith, least, block)) (omega (arith, few, count)))
