use Rattle.std.proofs.Common.{◌≡◌, ◌%◌, ◌/◌, ◌↔◌, inl, inr, ap}
use Rattle.std.specs.List.{Contains}
use Rattle.h5_heap.specs.Kept.{HeapState}
use Rattle.h5_heap.specs.declared.units.UnitState.TheVariants.{Begin}
use Rattle.h5_heap.specs.Units.{unit_at, text_begins}
use Rattle.h5_heap.proofs.UnitLaws.{contains-begins}
use Rattle.h5_heap.proofs.heap.Heap.is_known.Goals as goal

pub returns-else-offset-eq0 : goal.returns-else-offset-eq0
returns-else-offset-eq0 c =
    let offset = c.args.offset in
    let units = c.self.inside.units.states.items in
    let same : text_begins 0 units ≡ c.args.self.now.taken = ap (λ (h : HeapState). h.taken) c.self.view_is in
    let known : Contains c.args.self.now.taken offset ↔ ((offset % 8 ≡ 0) × (unit_at units (offset / 8) ≡ Begin)) = rw same at (contains-begins offset units) in (
      λ found. inr (known.1 (c.begins.ensures.0 found)),
      λ either. elim either [ inl none ↦ absurd (c.if-offset-eq0.false none) | inr there ↦ c.begins.ensures.1 (known.0 there) ],
    )
