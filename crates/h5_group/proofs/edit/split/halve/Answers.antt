use Rattle.std.proofs.Common.{◌≤◌, List, ap, ◌∙◌, drop, take, length, arith, subst, sym, ◌∷◌, []}
use Rattle.h5_model.specs.Format.Symbols.{Entry, symbol_block, symbols_at}
use Rattle.h5_group.specs.Split.{AreHalves}
use Rattle.h5_group.proofs.SymbolHalves.{apart_inside, apart_swapped, half_taken, halves_apart, left_again, right_again}
use Rattle.h5_group.proofs.edit.split.halve.Goals as goal

-- both have the same entries after the copy
copied : (c : goal.After-drop_entries-arg-1) → AreHalves c.args.image.now c.copy.new.self c.args.leaf c.args.at c.take-new.result
    (symbols_at c.args.image.now.bytes c.args.leaf c.args.at) (symbols_at c.args.image.now.bytes c.args.leaf c.args.at)
copied c = half_taken c.args.image.now c.take-new.new.self c.copy.new.self c.args.leaf c.args.at c.take-new.result c.from.result c.from.ensures
    c.take-new.ensures.bytes c.take-new.ensures.taken c.take-new.ensures.room_bytes c.take-new.ensures.room_blocks c.copy.ensures c.requires.apart c.requires.form

-- the new one has dropped the first entries
dropped : (c : goal.After-keep_entries-arg-1) → AreHalves c.args.image.now c.drop_entries.new.image c.args.leaf c.args.at c.take-new.result
    (symbols_at c.args.image.now.bytes c.args.leaf c.args.at) (drop c.args.n (symbols_at c.copy.new.self.bytes c.args.leaf c.take-new.result))
dropped c = right_again c.args.image.now c.copy.new.self c.drop_entries.new.image c.args.leaf c.args.at c.take-new.result _ _ _ (copied c.before.before) c.requires.apart
    c.drop_entries.ensures

pub drop_entries-requires-clause-inside : goal.drop_entries-requires-clause-inside
drop_entries-requires-clause-inside c =
    let at = c.args.at in
    let apart = halves_apart c.args.image.now c.copy.new.self c.copy.new.self c.args.leaf at c.take-new.result _ _ [] (copied c) c.requires.apart in
    apart_inside (symbol_block c.args.leaf c.take-new.result) (symbol_block c.args.leaf at ∷ []) c.copy.new.self.free (length c.copy.new.self.bytes) (omega arith)
    (apart_swapped (symbol_block c.args.leaf at) (symbol_block c.args.leaf c.take-new.result) c.copy.new.self.free (length c.copy.new.self.bytes) apart)

pub drop_entries-requires-clause-form : goal.drop_entries-requires-clause-form
drop_entries-requires-clause-form c = (copied c).right_form

pub drop_entries-requires-clause-place : goal.drop_entries-requires-clause-place
drop_entries-requires-clause-place c =
    subst (λ (es : List Entry). c.args.n ≤ length es) (sym (copied c).right_says) c.requires.place

pub keep_entries-requires-clause-inside : goal.keep_entries-requires-clause-inside
keep_entries-requires-clause-inside c =
    let at = c.args.at in
    let apart = halves_apart c.args.image.now c.drop_entries.new.image c.drop_entries.new.image c.args.leaf at c.take-new.result _ _ [] (dropped c) c.requires.apart in
    apart_inside (symbol_block c.args.leaf at) (symbol_block c.args.leaf c.take-new.result ∷ []) c.drop_entries.new.image.free (length c.drop_entries.new.image.bytes) (omega arith) apart

pub keep_entries-requires-clause-form : goal.keep_entries-requires-clause-form
keep_entries-requires-clause-form c = (dropped c).left_form

pub keep_entries-requires-clause-place : goal.keep_entries-requires-clause-place
keep_entries-requires-clause-place c =
    subst (λ (es : List Entry). c.args.n ≤ length es) (sym (dropped c).left_says) c.requires.place

pub returns : goal.returns
returns c =
    let now = dropped c.before in
    let last = left_again c.args.image.now c.drop_entries.new.image c.keep_entries.new.image c.args.leaf c.args.at c.take-new.result _ _ _ now c.requires.apart c.keep_entries.ensures in
    record {
      left_says = last.left_says ∙ ap (take c.args.n) now.left_says;
      right_says = last.right_says ∙ ap (drop c.args.n) (copied c.before.before.before).right_says;
      left_form = last.left_form;
      right_form = last.right_form;
      moves = last.moves;
      spends = last.spends;
    }
