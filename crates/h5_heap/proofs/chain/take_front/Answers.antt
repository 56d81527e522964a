use Rattle.std.proofs.Common.{◌≤◌, arith}
use Rattle.h5_heap.specs.Sought.{is_enough}
use Rattle.h5_heap.proofs.ChainLaws.{IsFound, found_free}
use Rattle.h5_heap.specs.Chain.{free_from}
use Rattle.std.proofs.lemmas.Bool.Decides.{nat_tests}
use Rattle.h5_heap.proofs.FrontLaws.{rest_apart, rest_form, short_relists, short_front, short_ascending, long_relists, long_front, long_ascending}
use Rattle.h5_heap.proofs.chain.take_front.Goals as goal
use Rattle.h5_heap.proofs.chain.take_front.Goals.{Start}

found : (c : Start) → IsFound (is_enough c.args.len) c.args.segment.now (free_from c.args.segment.now c.args.first) c.args.block
found c = found_free (is_enough c.args.len) c.args.segment.now c.args.first c.args.block c.requires.chain c.requires.found

enough : (c : Start) → c.args.len ≤ c.args.block.len
enough c = grind (arith, nat_tests, (found c).passes)

pub led_from-place-requires-clause-there : goal.led_from-place-requires-clause-there
led_from-place-requires-clause-there c = (found (goal.at.led_from-place-requires-clause-there c).Start).stands

pub overflow_add-rest : goal.overflow_add-rest
overflow_add-rest c =
    let w = (goal.at.overflow_add-rest c).Start in
    grind (arith, (found w).within, enough w)

pub overflow_sub-rest : goal.overflow_sub-rest
overflow_sub-rest c = enough (goal.at.overflow_sub-rest c).Start

pub link_behind-requires-clause-free : goal.link_behind-requires-clause-free
link_behind-requires-clause-free c =
    let u = c.unlink_behind-first in
    rest_form _ _ _ _ c.args.len c.args.block c.requires.chain c.requires.found c.led_from-place.result u.ensures.relists u.ensures.listed u.ensures.still
    (omega (arith, c.if-rest-lt-LEAST_FREE.false)) c.requires.aligned

pub link_behind-requires-clause-inside : goal.link_behind-requires-clause-inside
link_behind-requires-clause-inside c =
    let w = (goal.at.link_behind-requires-clause-inside c).Start in
    omega (arith, (found w).within, enough w, c.unlink_behind-first.ensures.relists.size)

pub link_behind-requires-clause-apart : goal.link_behind-requires-clause-apart
link_behind-requires-clause-apart c =
    let u = c.unlink_behind-first in
    rest_apart _ _ _ _ c.args.len c.args.block c.requires.chain c.requires.found c.led_from-place.result u.ensures.relists u.ensures.listed u.ensures.still

pub returns-then-rest-lt-LEAST_FREE-clause-relists : goal.returns-then-rest-lt-LEAST_FREE-clause-relists
returns-then-rest-lt-LEAST_FREE-clause-relists c =
    let u = c.unlink_behind-first in
    short_relists _ _ _ _ c.args.len c.args.block c.requires.chain c.requires.found c.led_from-place.result u.ensures.relists u.ensures.listed u.ensures.still
    c.if-rest-lt-LEAST_FREE.true

pub returns-then-rest-lt-LEAST_FREE-clause-front : goal.returns-then-rest-lt-LEAST_FREE-clause-front
returns-then-rest-lt-LEAST_FREE-clause-front c =
    let u = c.unlink_behind-first in
    short_front _ _ _ _ c.args.len c.args.block c.requires.chain c.requires.found c.led_from-place.result u.ensures.relists u.ensures.listed u.ensures.still
    c.if-rest-lt-LEAST_FREE.true

pub returns-then-rest-lt-LEAST_FREE-clause-ascending : goal.returns-then-rest-lt-LEAST_FREE-clause-ascending
returns-then-rest-lt-LEAST_FREE-clause-ascending c =
    let u = c.unlink_behind-first in
    short_ascending _ _ _ _ c.args.len c.args.block c.requires.chain c.requires.found c.led_from-place.result u.ensures.relists u.ensures.listed u.ensures.still
    c.if-rest-lt-LEAST_FREE.true

pub returns-clause-relists : goal.returns-clause-relists
returns-clause-relists c =
    let u = c.unlink_behind-first in
    long_relists _ _ _ _ c.args.len c.args.block c.requires.chain c.requires.found c.led_from-place.result u.ensures.relists u.ensures.listed u.ensures.still
    _ _ (omega (arith, c.if-rest-lt-LEAST_FREE.false)) c.link_behind.ensures.relists c.link_behind.ensures.listed

pub returns-clause-front : goal.returns-clause-front
returns-clause-front c =
    let u = c.unlink_behind-first in
    long_front _ _ _ _ c.args.len c.args.block c.requires.chain c.requires.found c.led_from-place.result u.ensures.relists u.ensures.listed u.ensures.still
    _ _ (omega (arith, c.if-rest-lt-LEAST_FREE.false)) c.link_behind.ensures.relists c.link_behind.ensures.listed

pub returns-clause-ascending : goal.returns-clause-ascending
returns-clause-ascending c =
    let u = c.unlink_behind-first in
    long_ascending _ _ _ _ c.args.len c.args.block c.requires.chain c.requires.found c.led_from-place.result u.ensures.relists u.ensures.listed u.ensures.still
    _ _ (omega (arith, c.if-rest-lt-LEAST_FREE.false)) c.link_behind.ensures.relists c.link_behind.ensures.listed
