use Rattle.std.proofs.Common.{◌≡◌, ◌∙◌, List, ℕ, refl, sym, subst, false, true}
use Rattle.std.specs.List.{AllByRecursion}
use Rattle.h5_bytes.specs.Texts.{text_at}
use Rattle.h5_bytes.proofs.BlockLaws.{all_so}
use Rattle.h5_model.specs.Format.Links.{Before, NotAfter}
use Rattle.h5_model.proofs.Members.{all_both}
use Rattle.h5_group.specs.Order.Between.{LiesBetween, names_at}
use Rattle.h5_group.proofs.OrderProofs.EntryNames.{lists_are}
use Rattle.h5_group.proofs.order.keys.are_between.Goals as goal

pub returns-then-start_above : goal.returns-then-start_above
returns-then-start_above c =
    let names : List (List ℕ) = names_at c.args.image.now.bytes c.args.segment.now c.args.node.now.children in
    let low : List ℕ = text_at c.args.segment.now c.args.bounds.low in
    let high : List ℕ = text_at c.args.segment.now c.args.bounds.high in
    let all_are = lists_are c.args.image.now.bytes c.args.segment.now c.args.node.now.children in (
      λ yes. subst (AllByRecursion (LiesBetween low high)) (sym all_are)
          (all_both (Before low) (λ n. NotAfter n high) names (c.if-start_above.ensures.0 refl) (c.end_within.ensures.0 yes)),
      λ all. c.end_within.ensures.1
          (all_so (LiesBetween low high) (λ n. NotAfter n high) names (λ n lies. lies.1) (subst (AllByRecursion (LiesBetween low high)) all_are all)),
    )

pub returns-else-start_above : goal.returns-else-start_above
returns-else-start_above c =
    let names : List (List ℕ) = names_at c.args.image.now.bytes c.args.segment.now c.args.node.now.children in
    let low : List ℕ = text_at c.args.segment.now c.args.bounds.low in
    let high : List ℕ = text_at c.args.segment.now c.args.bounds.high in
    let all_are = lists_are c.args.image.now.bytes c.args.segment.now c.args.node.now.children in (
      λ yes. absurd (let never : false ≡ true = sym c.if-start_above.false ∙ yes in cc),
      λ all. c.start_above.ensures.1
          (all_so (LiesBetween low high) (Before low) names (λ n lies. lies.0) (subst (AllByRecursion (LiesBetween low high)) all_are all)),
    )
