use Rattle.std.proofs.Common.{◌≡◌, true, false, [], length, sym, ap, subst, arith}
use Rattle.h5_model.specs.Format.Nodes.{Kind}
use Rattle.h5_btree.specs.Insertion.{IsFullWay}
use Rattle.h5_group.proofs.EditTold.{some_told}
use Rattle.h5_group.proofs.PutDeep.{deep_end, deep_long, deep_nodes, deep_of, empty_roomy}
use Rattle.h5_group.proofs.edit.put.is_too_deep.Goals as goal
use Rattle.h5_group.proofs.edit.put.is_too_deep.Goals.{then-steps-eq-MOST_STEPS, else-steps-eq-MOST_STEPS}

pub way_to-requires : goal.way_to-requires
way_to-requires c = record { group = ([], some_told c.args.image.now c.args.table c.requires.group c.requires.short) }

pub is_full-requires-clause-group : goal.is_full-requires-clause-group
is_full-requires-clause-group c = ([], some_told c.args.image.now c.args.table c.requires.group c.requires.short)

pub returns-in_default : goal.returns-in_default
returns-in_default c = (
  λ it_is. let bad : false ≡ true = it_is in absurd (cc),
  λ f. absurd (empty_roomy c.args.image.now.bytes c.args.table c.args.name.now c.in_default.ensures.none f),
)

pub returns-then-is_full_way : goal.returns-then-is_full_way
returns-then-is_full_way c =
    let g = some_told c.args.image.now c.args.table c.requires.group c.requires.short in
    elim c.if-steps-eq-MOST_STEPS.branch [
      | then-steps-eq-MOST_STEPS w ↦
          let is = w.value-is in
          let so = c.if-is_full_way.true in
          let it_is : w.is_full_way.result ≡ true = cc in
          let nodes = subst (λ (k : Kind). IsFullWay c.args.image.now.bytes k c.in-Some.way) w.group_kind.ensures (w.is_full_way.ensures.0 it_is) in
          let long : length c.in-Some.way ≡ 16 = omega (arith, w.if-steps-eq-MOST_STEPS.true, ap length c.steps.ensures.steps) in (
            λ full. deep_of c.args.image.now c.args.table c.args.name.now g.0 [] g.1 g.2 c.in-Some.way c.in-Some.ensures.sought c.is_full.result c.is_full.ensures long nodes full,
            λ f. deep_end c.args.image.now c.args.table c.args.name.now g.0 [] g.1 g.2 c.in-Some.way c.in-Some.ensures.sought c.is_full.result c.is_full.ensures f,
          )
      | else-steps-eq-MOST_STEPS w ↦ absurd (omega (arith, w.if-steps-eq-MOST_STEPS.false))
    ]

pub returns-else-is_full_way : goal.returns-else-is_full_way
returns-else-is_full_way c =
    let g = some_told c.args.image.now c.args.table c.requires.group c.requires.short in (
      λ it_is. let so = c.if-is_full_way.false in let all = it_is in let bad : false ≡ true = cc in absurd (cc),
      λ f.
          elim c.if-steps-eq-MOST_STEPS.branch [
            | then-steps-eq-MOST_STEPS w ↦
                let nodes = deep_nodes c.args.image.now c.args.table c.args.name.now g.0 [] g.1 g.2 c.in-Some.way c.in-Some.ensures.sought f in
                let full = w.is_full_way.ensures.1 (subst (λ (k : Kind). IsFullWay c.args.image.now.bytes k c.in-Some.way) (sym w.group_kind.ensures) nodes) in
                let is = w.value-is in cc
            | else-steps-eq-MOST_STEPS w ↦
                let long = deep_long c.args.image.now c.args.table c.args.name.now g.0 [] g.1 g.2 c.in-Some.way c.in-Some.ensures.sought f in
                absurd (omega (arith, long, w.if-steps-eq-MOST_STEPS.false, ap length c.steps.ensures.steps))
          ],
    )
