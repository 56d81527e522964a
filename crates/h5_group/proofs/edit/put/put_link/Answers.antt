use Rattle.std.proofs.Common.{◌+◌, ◌≤◌, length, inl, inr, sym, subst, arith}
use Rattle.std.proofs.lemmas.Bool.{cases_lt}
use Rattle.std.proofs.lemmas.Result.{err_from_is_err_and}
use Rattle.h5_model.specs.Format.Limits.{most_bytes}
use Rattle.h5_space.specs.Space.{Space}
use Rattle.h5_heap.specs.Writing.Links.{name_and_leads}
use Rattle.h5_heap.specs.Writing.Written.{texts_span as span}
use Rattle.h5_group.specs.Exact.{HasExactKeys}
use Rattle.h5_group.specs.LinkEdits.{IsFullFor, link_room as room_of}
use Rattle.h5_group.specs.Links.{HasNone}
use Rattle.h5_group.proofs.edit.put.put_link.Goals as goal

pub returns-in_err-reserve_link-clause-deep : goal.returns-in_err-reserve_link-clause-deep
returns-in_err-reserve_link-clause-deep c =
    let p = err_from_is_err_and c.from_residual.result c.from_residual.ensures.1 in
    rw (p.1, p.2) c.in_err-reserve_link.ensures.deep

pub put_reserved-requires-clause-new_name : goal.put_reserved-requires-clause-new_name
put_reserved-requires-clause-new_name c =
    subst (λ (s : Space). HasNone s.bytes c.args.table c.args.link.now.name.now) (sym c.in_ok-reserve_link.ensures.room) c.requires.new_name

pub put_reserved-requires-clause-short : goal.put_reserved-requires-clause-short
put_reserved-requires-clause-short c =
    let image = c.args.image.now.bytes in
    let room = room_of image c.args.table (span (name_and_leads c.args.link.now)) in
    let roomy : IsFullFor image c.args.table c.args.link.now.name.now → ⊥
    = λ f. let deep = c.in_ok-reserve_link.ensures.deep.1 f in absurd (cc) in
    let short : length image + room ≤ most_bytes = elim (cases_lt most_bytes (length image + (room + 0))) [
      | inl long ↦ let full = c.in_ok-reserve_link.ensures.full.1 (roomy, long) in absurd (cc)
      | inr low ↦ omega (arith, low)
    ] in
    subst (λ (s : Space). length s.bytes + room_of s.bytes c.args.table (span (name_and_leads c.args.link.now)) ≤ most_bytes) (sym c.in_ok-reserve_link.ensures.room) short

pub returns-clause-exact : goal.returns-clause-exact
returns-clause-exact c = λ has. c.put_reserved.ensures.exact (subst (λ (s : Space). HasExactKeys s.bytes c.args.table) (sym c.in_ok-reserve_link.ensures.room) has)
