use Rattle.std.proofs.Common.{◌≡◌, ◌≢◌, ℕ, ◌<◌, ◌+◌, ◌-◌, List, ap, ◌∙◌, drop, take, length, arith, ◌∷◌, []}
use Rattle.std.specs.List.{insert}
use Rattle.h5_model.specs.Format.Symbols.{Entry, symbol_block, symbols_at}
use Rattle.h5_snod.specs.Written.{entry_from}
use Rattle.h5_group.proofs.SymbolHalves.{apart_inside, apart_swapped, halves_apart, left_again, left_high, left_low, left_middle, right_again, right_high, right_low, right_middle}
use Rattle.h5_group.proofs.edit.split.cut.Goals as goal

pub returns-then-j-half : goal.returns-then-j-half
returns-then-j-half c =
    let E = symbols_at c.args.image.now.bytes c.args.leaf c.args.at in
    let e = entry_from c.args.symbol in
    let is = c.from-half.ensures in
    let low : c.args.j < c.args.leaf = omega (arith, is, c.if-j-half.true) in
    let last = left_again c.args.image.now c.halve-new.new.image c.put_in.new.image c.args.leaf c.args.at c.halve-new.result _ _ _ c.halve-new.ensures c.requires.apart c.put_in.ensures in
    record {
      left_says = last.left_says ∙ ap (λ (es : List Entry). insert es c.args.j e) (c.halve-new.ensures.left_says ∙ ap (λ (n : ℕ). take (n - 1) E) is)
          ∙ left_low E c.args.leaf c.args.j e c.requires.some c.requires.full c.requires.place low;
      right_says = last.right_says ∙ ap (λ (n : ℕ). drop (n - 1) E) is ∙ right_low E c.args.leaf c.args.j e c.requires.some c.requires.full c.requires.place low;
      left_form = last.left_form;
      right_form = last.right_form;
      moves = last.moves;
      spends = last.spends;
    }

pub returns-then-j-half-2 : goal.returns-then-j-half-2
returns-then-j-half-2 c =
    let E = symbols_at c.args.image.now.bytes c.args.leaf c.args.at in
    let e = entry_from c.args.symbol in
    let is = c.from-half.ensures in
    let same : c.args.j ≡ c.args.leaf = omega (arith, is, c.if-j-half-2.true) in
    let h = c.halve-new-then-j-half-2 in
    let last = left_again c.args.image.now h.new.image c.put_in-then-j-half-2.new.image c.args.leaf c.args.at h.result _ _ _ h.ensures c.requires.apart c.put_in-then-j-half-2.ensures in
    record {
      left_says = last.left_says ∙ ap (λ (es : List Entry). insert es c.args.j e) (h.ensures.left_says ∙ ap (λ (n : ℕ). take n E) is)
          ∙ left_middle E c.args.leaf c.args.j e c.requires.some c.requires.full c.requires.place same;
      right_says = last.right_says ∙ ap (λ (n : ℕ). drop n E) is ∙ right_middle E c.args.leaf c.args.j e c.requires.some c.requires.full c.requires.place same;
      left_form = last.left_form;
      right_form = last.right_form;
      moves = last.moves;
      spends = last.spends;
    }

pub put_in-requires-2-clause-inside : goal.put_in-requires-2-clause-inside
put_in-requires-2-clause-inside c =
    let h = c.halve-new-2 in
    let apart = halves_apart c.args.image.now h.new.image h.new.image c.args.leaf c.args.at h.result _ _ [] h.ensures c.requires.apart in
    apart_inside (symbol_block c.args.leaf h.result) (symbol_block c.args.leaf c.args.at ∷ []) h.new.image.free (length h.new.image.bytes) (omega arith)
    (apart_swapped (symbol_block c.args.leaf c.args.at) (symbol_block c.args.leaf h.result) h.new.image.free (length h.new.image.bytes) apart)

pub returns : goal.returns
returns c =
    let E = symbols_at c.args.image.now.bytes c.args.leaf c.args.at in
    let e = entry_from c.args.symbol in
    let is = c.from-half.ensures in
    let other : c.args.j ≢ c.args.leaf = λ same. c.if-j-half-2.false (omega (arith, is, same)) in
    let high : c.args.leaf < c.args.j = omega (arith, is, c.if-j-half.false, other) in
    let h = c.halve-new-2 in
    let last = right_again c.args.image.now h.new.image c.put_in-2.new.image c.args.leaf c.args.at h.result _ _ _ h.ensures c.requires.apart c.put_in-2.ensures in
    record {
      left_says = last.left_says ∙ ap (λ (n : ℕ). take (n + 1) E) is ∙ left_high E c.args.leaf c.args.j e c.requires.some c.requires.full c.requires.place high;
      right_says = last.right_says ∙ ap (λ (es : List Entry). insert es (c.args.j - (c.from-half.result + 1)) e) (h.ensures.right_says ∙ ap (λ (n : ℕ). drop (n + 1) E) is)
          ∙ ap (λ (n : ℕ). insert (drop (c.args.leaf + 1) E) (c.args.j - (n + 1)) e) is
          ∙ right_high E c.args.leaf c.args.j e c.requires.some c.requires.full c.requires.place high;
      left_form = last.left_form;
      right_form = last.right_form;
      moves = last.moves;
      spends = last.spends;
    }
