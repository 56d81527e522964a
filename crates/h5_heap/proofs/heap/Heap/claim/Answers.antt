use Rattle.std.proofs.Common.{◌≡◌, ◌/◌, ◌+◌, ◌++◌, ap}
use Rattle.h5_heap.specs.Kept.{HeapState}
use Rattle.h5_heap.specs.Units.{text_blocks, text_begins, AreUnits, TakesUnits}
use Rattle.h5_heap.proofs.UnitLaws.{units_separate, units_shared, begun_units, empty_units, taken_units, taken_covered}
use Rattle.h5_heap.proofs.heap.Heap.claim.Goals as goal

pub returns-then-not-claim-clause-separate : goal.returns-then-not-claim-clause-separate
returns-then-not-claim-clause-separate c =
    let heap = c.self.inside in
    let same = c.claim.ensures.unchanged c.if-not-claim.true in
    rw same (units_separate heap.segment.len heap.free.items heap.units.states.items c.self.invariant.1)

pub returns-then-not-claim-clause-refused : goal.returns-then-not-claim-clause-refused
returns-then-not-claim-clause-refused c =
    let heap = c.self.inside in
    let held : heap.free.items ++ text_blocks 0 heap.units.states.items ≡ c.args.self.now.held = ap (λ (h : HeapState). h.held) c.self.view_is in
    rw held at (units_shared heap.segment.len heap.free.items heap.units.states.items c.self.invariant.1 c.args.offset c.args.len c.requires.aligned c.requires.whole
    (c.claim.ensures.shut c.if-not-claim.true))

-- the heap's units, and how they change
takes : (c : goal.Else-not-claim) → TakesUnits c.self.inside.units.states.items c.claim.new.self.states.items (c.args.offset / 8) (c.args.offset / 8 + c.args.len / 8) c.args.first
takes c = c.claim.ensures.taken c.if-not-claim.false

are : (c : goal.Else-not-claim) → AreUnits c.self.inside.segment.len c.self.inside.free.items c.claim.new.self.states.items
are c = taken_units c.self.inside.segment.len c.self.inside.free.items c.self.inside.units.states.items c.self.invariant.1 c.claim.new.self.states.items c.args.offset c.args.len
    c.args.first c.requires.aligned c.requires.whole c.requires.filled (takes c) c.requires.text

pub returns-clause-claimed : goal.returns-clause-claimed
returns-clause-claimed c =
    let heap = c.self.inside in
    let held : heap.free.items ++ text_blocks 0 heap.units.states.items ≡ c.args.self.now.held = ap (λ (h : HeapState). h.held) c.self.view_is in
    rw held at (taken_covered heap.segment.len heap.free.items heap.units.states.items c.self.invariant.1 c.claim.new.self.states.items c.args.offset c.args.len
    c.args.first c.requires.aligned c.requires.whole c.requires.filled (takes c) c.requires.text)

pub returns-clause-separate : goal.returns-clause-separate
returns-clause-separate c = units_separate c.self.inside.segment.len c.self.inside.free.items c.claim.new.self.states.items (are c)

pub returns-clause-begun : goal.returns-clause-begun
returns-clause-begun c =
    let heap = c.self.inside in
    let known : text_begins 0 heap.units.states.items ≡ c.args.self.now.taken = ap (λ (h : HeapState). h.taken) c.self.view_is in
    rw known at (begun_units heap.segment.len heap.free.items heap.units.states.items c.self.invariant.1 c.claim.new.self.states.items c.args.offset c.args.len
    c.args.first c.requires.aligned c.requires.whole c.requires.filled (takes c))

pub returns-clause-empty : goal.returns-clause-empty
returns-clause-empty c =
    let heap = c.self.inside in
    let known : text_begins 0 heap.units.states.items ≡ c.args.self.now.taken = ap (λ (h : HeapState). h.taken) c.self.view_is in
    rw known at (empty_units heap.segment.len heap.free.items heap.units.states.items c.self.invariant.1 c.claim.new.self.states.items c.args.offset c.args.len
    c.args.first c.requires.aligned c.requires.whole c.requires.filled (takes c))
