use Rattle.std.proofs.Common.{◌≡◌, ◌*◌, length, take, drop, ap, sym, ◌∙◌, subst, arith}
use Rattle.std.proofs.lemmas.List.{length-drop, length-take-le}
use Rattle.h5_model.specs.Scripts.Answers.{stored_values}
use Rattle.h5_model.proofs.PlainValues.{size-low}
use Rattle.h5_layout.specs.Buffers.{AreValuesLent, AreWholeCells, values_lent}
use Rattle.h5_layout.specs.declared.buffer.Lent.{Lent}
use Rattle.h5_layout.proofs.BufferLaws.{back_values, back_whole, front_long, front_values, front_whole, low_count}
use Rattle.h5_layout.proofs.buffer.Buffer.split_at.Goals as goal
use Rattle.h5_layout.proofs.buffer.Buffer.split_at.Goals.{Joined-self, in-Numbers, in-Cells}

pub overflow_mul-count : goal.overflow_mul-count
overflow_mul-count c =
    let t = c.in-Cells.fixed in
    let bytes = c.in-Cells.bytes.now in
    let whole = subst AreValuesLent c.in-Cells.is c.self.invariant.lent_so in
    let low = low_count t bytes c.args.self.now c.args.count (ap values_lent (sym c.in-Cells.is) ∙ c.self.view_is) c.requires in
    let place : c.args.count * c.size.result ≡ c.args.count * t.size = ap (λ n. c.args.count * n) c.size.ensures.size in
    omega (arith, place, front_long t (size-low t c.size.ensures.one_of) bytes whole.whole c.args.count low, whole.memory.few)

pub split_at-requires-in-Cells : goal.split_at-requires-in-Cells
split_at-requires-in-Cells c =
    let t = c.in-Cells.fixed in
    let bytes = c.in-Cells.bytes.now in
    let whole = subst AreValuesLent c.in-Cells.is c.self.invariant.lent_so in
    let low = low_count t bytes c.args.self.now c.args.count (ap values_lent (sym c.in-Cells.is) ∙ c.self.view_is) c.requires in
    let place : c.args.count * c.size.result ≡ c.args.count * t.size = ap (λ n. c.args.count * n) c.size.ensures.size in
    omega (arith, place, front_long t (size-low t c.size.ensures.one_of) bytes whole.whole c.args.count low)

-- the first so many values
front : (c : Joined-self) → values_lent c.match-self.first.0 ≡ take c.args.count c.args.self.now
front c = elim c.match-self.branch [
  | in-Numbers w ↦ ap (λ p. values_lent p.0) w.first-is ∙ w.split_at.ensures.front ∙ ap (take c.args.count) (ap values_lent (sym w.in-Numbers.is) ∙ c.self.view_is)
  | in-Cells w ↦
      let t = w.in-Cells.fixed in
      let bytes = w.in-Cells.bytes.now in
      let same = ap values_lent (sym w.in-Cells.is) ∙ c.self.view_is in
      let whole = subst AreValuesLent w.in-Cells.is c.self.invariant.lent_so in
      let low = low_count t bytes c.args.self.now c.args.count same c.requires in
      let place : c.args.count * w.size.result ≡ c.args.count * t.size = ap (λ n. c.args.count * n) w.size.ensures.size in
      ap (λ p. values_lent p.0) w.first-is
      ∙ ap (stored_values t) (w.split_at-in-Cells.ensures.front ∙ ap (λ n. take n bytes) place)
      ∙ front_values t (size-low t w.size.ensures.one_of) bytes whole.whole c.args.count low
      ∙ ap (take c.args.count) same
]

-- the others
back : (c : Joined-self) → values_lent c.match-self.first.1 ≡ drop c.args.count c.args.self.now
back c = elim c.match-self.branch [
  | in-Numbers w ↦ ap (λ p. values_lent p.1) w.first-is ∙ w.split_at.ensures.back ∙ ap (drop c.args.count) (ap values_lent (sym w.in-Numbers.is) ∙ c.self.view_is)
  | in-Cells w ↦
      let t = w.in-Cells.fixed in
      let bytes = w.in-Cells.bytes.now in
      let same = ap values_lent (sym w.in-Cells.is) ∙ c.self.view_is in
      let whole = subst AreValuesLent w.in-Cells.is c.self.invariant.lent_so in
      let low = low_count t bytes c.args.self.now c.args.count same c.requires in
      let place : c.args.count * w.size.result ≡ c.args.count * t.size = ap (λ n. c.args.count * n) w.size.ensures.size in
      ap (λ p. values_lent p.1) w.first-is
      ∙ ap (stored_values t) (w.split_at-in-Cells.ensures.back ∙ ap (λ n. drop n bytes) place)
      ∙ back_values t (size-low t w.size.ensures.one_of) bytes whole.whole c.args.count low
      ∙ ap (drop c.args.count) same
]

-- both are values that can be lent
sound : (c : Joined-self) → AreValuesLent c.match-self.first.0 × AreValuesLent c.match-self.first.1
sound c = elim c.match-self.branch [
  | in-Numbers w ↦ subst (λ (p : Lent × Lent). AreValuesLent p.0 × AreValuesLent p.1) (sym w.first-is) (tt, tt)
  | in-Cells w ↦
      let t = w.in-Cells.fixed in
      let bytes = w.in-Cells.bytes.now in
      let whole = subst AreValuesLent w.in-Cells.is c.self.invariant.lent_so in
      let some = size-low t w.size.ensures.one_of in
      let low = low_count t bytes c.args.self.now c.args.count (ap values_lent (sym w.in-Cells.is) ∙ c.self.view_is) c.requires in
      let place : c.args.count * w.size.result ≡ c.args.count * t.size = ap (λ n. c.args.count * n) w.size.ensures.size in
      subst (λ (p : Lent × Lent). AreValuesLent p.0 × AreValuesLent p.1) (sym w.first-is) (
        subst (AreWholeCells t) (sym (w.split_at-in-Cells.ensures.front ∙ ap (λ n. take n bytes) place))
            (front_whole t some bytes whole.whole c.args.count low whole.type whole.memory),
        subst (AreWholeCells t) (sym (w.split_at-in-Cells.ensures.back ∙ ap (λ n. drop n bytes) place))
            (back_whole t some bytes whole.whole c.args.count low whole.type whole.memory),
      )
]

pub invariant_of-result : goal.invariant_of-result
invariant_of-result c =
    let at = (goal.at.invariant_of-result c).Joined-self in
    record {
      lent_so = (sound at).0;
      count_is = sym (ap length (front at) ∙ length-take-le c.args.count c.args.self.now c.requires);
    }

pub invariant_of-result-2 : goal.invariant_of-result-2
invariant_of-result-2 c =
    let at = (goal.at.invariant_of-result-2 c).Joined-self in
    record {
      lent_so = (sound at).1;
      count_is = omega (arith, c.self.invariant.count_is, ap length c.self.view_is, ap length (back at), length-drop c.args.count c.args.self.now);
    }

pub returns-clause-front : goal.returns-clause-front
returns-clause-front c = front (goal.at.returns-clause-front c).Joined-self

pub returns-clause-back : goal.returns-clause-back
returns-clause-back c = back (goal.at.returns-clause-back c).Joined-self
