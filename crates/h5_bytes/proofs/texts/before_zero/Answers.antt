use Rattle.std.proofs.Common.{◌≡◌, ◌≢◌, ℕ, ◌<◌, get_or, inl, inr, arith, sym, ◌∙◌}
use Rattle.std.proofs.lemmas.Bool.{cases_lt}
use Rattle.std.proofs.lemmas.List.{take_all, get_or_past}
use Rattle.h5_bytes.proofs.TextLaws.{until_at}
use Rattle.h5_bytes.proofs.texts.before_zero.Goals as goal

pub returns-in-Some : goal.returns-in-Some
returns-in-Some c =
    let before : (k : ℕ) → k < c.in-Some.end → get_or c.args.bytes.now k 0 ≢ 0
    = λ k low. elim (cases_lt k c.loop-end.from) [
      | inl less ↦ (c.loop-end.invariant).1 k less
      | inr more ↦ c.in-Some.ensures.first k more low
    ] in
    sym (until_at c.args.bytes.now c.in-Some.end (omega (arith, c.in-Some.ensures.found)) before (c.in-Some.ensures.found).2)

pub returns-then-bytes-end-eq0 : goal.returns-then-bytes-end-eq0
returns-then-bytes-end-eq0 c = sym (until_at c.args.bytes.now c.loop-end-2.end (omega arith) c.loop-end-2.invariant c.if-bytes-end-eq0.true)

pub returns : goal.returns
returns c =
    let past : get_or c.args.bytes.now c.loop-end-2.end 0 ≡ 0 = get_or_past c.args.bytes.now c.loop-end-2.end 0 (omega arith) in
    sym (until_at c.args.bytes.now c.loop-end-2.end (omega arith) c.loop-end-2.invariant past ∙ take_all c.loop-end-2.end c.args.bytes.now (omega arith))
