use Rattle.std.proofs.Common.{◌≡◌, ℕ, suc, ◌-◌, ◌++◌, List, inr, sym, ap, ◌∙◌, subst, rules, arith}
use Rattle.std.specs.List.{AllByRecursion}
use Rattle.std.proofs.lemmas.Result.{err_from_is_err_and}
use Rattle.h5_bytes.specs.Bytes.{undefined_address}
use Rattle.h5_model.specs.Format.Rows.{IsRow, next_row}
use Rattle.h5_btree.specs.Walk.Below.{reading_in, IsStanding}
use Rattle.h5_btree.specs.Walk.Rows.{IsMisnamed}
use Rattle.h5_btree.proofs.WalkLaws.RowSteps.{AreListed, listed_next, sibling_breach}
use Rattle.h5_btree.proofs.walk.rows.read_rows.Goals as goal

pub returns-in_err-check_siblings-clause-refused : goal.returns-in_err-check_siblings-clause-refused
returns-in_err-check_siblings-clause-refused g c =
    let image = c.args.image.now.bytes in
    let form = g.T.Trees.form c.args.over.now in
    let refused = c.in_err-check_siblings.ensures.refused in
    let wrong : IsMisnamed (reading_in image form) c.loop-row.row.items c.in_err-check_siblings.field-0.0.address
    = subst (λ (row : List ℕ). IsMisnamed (reading_in image form) row c.in_err-check_siblings.field-0.0.address) c.deref.ensures.value refused.1 in
    let p = err_from_is_err_and c.from_residual.result c.from_residual.ensures.1 in
    rw (p.1, p.2) (inr (
      refused.0,
      sibling_breach image form c.args.root c.args.level c.loop-row.height c.loop-row.nodes.items c.loop-row.row.items _ c.requires.read.here.0 c.loop-row.invariant wrong,
    ))

pub loop-row-preserved : goal.loop-row-preserved
loop-row-preserved g c =
    let image = c.args.image.now.bytes in
    let form = g.T.Trees.form c.args.over.now in
    let row = c.loop-row.row.items in
    let m = c.loop-row.height - 1 in
    let e : c.loop-row.height ≡ suc m = omega (arith, c.if-height-eq0.false) in
    let listed : AreListed image form c.args.root c.args.level (suc m) c.loop-row.nodes.items row
    = subst (λ (h : ℕ). AreListed image form c.args.root c.args.level h c.loop-row.nodes.items row) e c.loop-row.invariant in
    let is : IsRow (reading_in image form) (suc m) undefined_address row =
    subst (λ (xs : List ℕ). IsRow (reading_in image form) (suc m) undefined_address xs) c.deref.ensures.value
    (c.in_ok-check_siblings.ensures.named (suc m) (subst (AllByRecursion (IsStanding image form (suc m))) (sym c.deref.ensures.value) listed.read.here)) in
    let next : c.in-Ok.next.items ≡ next_row (reading_in image form) row = c.in-Ok.ensures ∙ ap (next_row (reading_in image form)) c.deref-in-loop-row.ensures.value in
    let done : c.append.new.self.items ≡ c.loop-row.nodes.items ++ row = search rules in
    rw (done, next) (listed_next image form c.args.root c.args.level m c.loop-row.nodes.items row listed is)
