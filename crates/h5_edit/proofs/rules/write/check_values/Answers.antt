use Rattle.std.proofs.Common.{rules, ◌≡◌, ◌==◌, ◌∙◌, true, false, length, not, refl, sym, ap, arith}
use Rattle.std.specs.List.{list_all}
use Rattle.std.proofs.lemmas.Bool.Decides.{nat_tests}
use Rattle.h5_model.specs.Format.Fixed.{Fixed, fits}
use Rattle.h5_edit.proofs.rules.write.check_values.Goals as goal
use Rattle.h5_edit.proofs.rules.write.check_values.Goals.{After-are_of_type}

-- there are as many values as cells
module _ (c : After-are_of_type) where
  equal : c.args.cells ≡ c.len.result
  equal = search rules

  count_fits : not (length c.args.values.now == c.args.cells) ≡ false
  count_fits = let same : length c.args.values.now ≡ c.args.cells = sym c.len.ensures ∙ sym equal in grind (arith, nat_tests, same)

  tested : c.are_of_type.result ≡ list_all (fits c.args.array.now.fixed) c.args.values.now
  tested = c.are_of_type.ensures ∙ ap (λ (t : Fixed). list_all (fits t) c.args.values.now) c.fixed.ensures

pub returns-then-not-are_of_type : goal.returns-then-not-are_of_type
returns-then-not-are_of_type c =
    let a = (goal.at.returns-then-not-are_of_type c).After-are_of_type in
    let unfit : c.are_of_type.result ≡ false = search rules in
    let values : list_all (fits c.args.array.now.fixed) c.args.values.now ≡ false = sym (tested a) ∙ unfit in
    rw (count_fits a, values) refl

pub returns : goal.returns
returns c =
    let a = (goal.at.returns c).After-are_of_type in
    let fit : c.are_of_type.result ≡ true = search rules in
    let values : list_all (fits c.args.array.now.fixed) c.args.values.now ≡ true = sym (tested a) ∙ fit in
    rw (count_fits a, values) refl
