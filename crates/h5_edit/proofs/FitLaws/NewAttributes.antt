-- What no rule refuses of an attribute that is to be set (File Format Specification 3.0, section IV.A.2.m).
use Rattle.std.proofs.Common.{◌≡◌, ℕ, ◌≤◌, List, length, true, false, None, arith}
use Rattle.std.specs.Prelude.{nat_lt, ◌==◌}
use Rattle.std.specs.List.{list_all}
use Rattle.std.proofs.lemmas.Bool.Decides.{nat_tests}
use Rattle.std.proofs.lemmas.Bool.{or_parts, not-false}
use Rattle.h5_model.specs.Format.Messages.{most_body_bytes}
use Rattle.h5_model.specs.Format.Fixed.{fits}
use Rattle.h5_model.specs.Format.Limits.{most_cells, most_dimensions}
use Rattle.h5_model.specs.Format.Sizes.{attribute_size}
use Rattle.h5_model.specs.Tree.Places.{cells, extent_cells}
use Rattle.h5_model.specs.Edits.Refusal.{refusal_of, rules_of, has_zero, is_no_text}
use Rattle.h5_model.specs.Tree.Objects.{Tree}
use Rattle.h5_model.specs.declared.attribute.AttrSpec.{AttrSpec}
use Rattle.h5_model.specs.declared.edits.Edit.TheVariants.{SetAttr}
use Rattle.h5_model.proofs.RefusalLaws.{none_holds}

-- it has the form of a message's body
pub record IsNewAttribute (a : AttrSpec) : Type 0 where
  pub named : 1 ≤ length a.name
  pub text : has_zero a.name ≡ false
  pub ranked : length a.dims ≤ most_dimensions
  pub counted : length a.values ≡ cells a.dims
  pub of_type : list_all (fits a.fixed) a.values ≡ true
  pub few : extent_cells a.dims ≤ most_cells
  pub room : attribute_size (length a.name) a.dims (a.fixed).size ≤ most_body_bytes

pub accepted_attribute : (tree : Tree) (next : ℕ) (path : List ℕ) (a : AttrSpec) → refusal_of tree next (SetAttr path a) ≡ None → IsNewAttribute a
unfolding refusal_of
accepted_attribute tree next path a accepted =
    let rules = none_holds (rules_of tree next (SetAttr path a)) accepted in
    let shaped = rules.1.1.1.1.1.1.1.1.1.1 in
    let formed = or_parts (nat_lt 32 (length a.dims)) (is_no_text a.name) shaped.0 in
    let text = or_parts (length a.name == 0) (has_zero a.name) formed.1 in
    let ranked = formed.0 in
    let filled = text.0 in
    let limits = shaped.1.1.1.1.1.1.1.1.1 in
    let few = limits.0 in
    let counted = not-false (length a.values == cells a.dims) limits.1.0 in
    let room = limits.1.1.1.0 in
    record {
      named = grind (arith, nat_tests, filled);
      text = text.1;
      ranked = grind (arith, nat_tests, ranked);
      counted = grind (arith, nat_tests, counted);
      of_type = not-false (list_all (fits a.fixed) a.values) limits.1.1.0;
      few = grind (arith, nat_tests, few);
      room = grind (arith, nat_tests, room);
    }
