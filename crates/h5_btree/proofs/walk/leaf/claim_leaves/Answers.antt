use Rattle.std.proofs.Common.{◌≡◌, ℕ, ◌+◌, ◌<◌, List, length, take, drop, slice_get, Some, refl, sym, ◌∙◌, subst, arith}
use Rattle.std.specs.Prelude.{slice_index_or}
use Rattle.std.proofs.lemmas.Result.{err_from_is_err_and}
use Rattle.std.proofs.lemmas.List.{take_all}
use Rattle.std.proofs.lemmas.Option.{slice_get-get_or}
use Rattle.h5_btree.specs.Walk.Forms.{IsKeyedAt}
use Rattle.h5_btree.specs.Walk.Refused.{IsLeafRefused}
use Rattle.h5_btree.proofs.WalkLaws.Prefix.{prefix_long, prefix_next, prefix_split, next_case}
use Rattle.h5_btree.proofs.WalkLaws.Taken.{taken_bottom}
use Rattle.h5_btree.specs.Walk.Further.{WalksTo}
use Rattle.h5_btree.proofs.WalkLaws.FurtherLaws.{walks_bottom, fault_bottom}
use Rattle.h5_btree.proofs.WalkLaws.Readable.{leaf_memory}
use Rattle.h5_btree.proofs.walk.leaf.claim_leaves.Goals as goal

pub returns-in_err-claim_leaf-clause-refused : goal.returns-in_err-claim_leaf-clause-refused
returns-in_err-claim_leaf-clause-refused g c =
    let image = c.args.image.now.bytes in
    let form = g.L.Trees.form c.args.over.now in
    let cs = c.args.node.now.children in
    let k = c.loop-i.i in
    let low : k < length cs = omega arith in
    let child = slice_index_or cs k 0 in
    let long : length (take k cs) ≡ k = prefix_long cs k (omega arith) in
    let p = err_from_is_err_and c.from_residual.result c.from_residual.ensures.1 in
    let refused = c.in_err-claim_leaf.ensures.refused in
    rw (p.1, p.2) (fault_bottom image form c.args.at c.args.node.now (take k cs) child c.args.claims.now.held c.loop-i.claims.held
    c.loop-i.invariant.taken c.loop-i.invariant.walks (omega arith) (rw long (slice_get-get_or cs k 0 low)) _ _ (rw long refl)
    (subst (λ (n : ℕ). IsLeafRefused image form c.loop-i.claims.held c.args.at c.args.node.now n c.in_err-claim_leaf.field-0.0.cause c.in_err-claim_leaf.field-0.0.address) (sym long) refused))

pub loop-i-preserved : goal.loop-i-preserved
loop-i-preserved g c =
    let image = c.args.image.now.bytes in
    let form = g.L.Trees.form c.args.over.now in
    let cs = c.args.node.now.children in
    let k = c.loop-i.i in
    let low : k < length cs = omega arith in
    let child = slice_index_or cs k 0 in
    let got : slice_get cs k ≡ Some child = slice_get-get_or cs k 0 low in
    let long : length (take k cs) ≡ k = prefix_long cs k (omega arith) in
    let next = prefix_next cs k child low got in
    record {
      end = c.claim_leaf.ensures.end ∙ c.loop-i.invariant.end;
      taken = rw next (taken_bottom image form (take k cs) child c.args.claims.now.held c.loop-i.claims.held c.claim_leaf.new.claims.held
          c.loop-i.invariant.taken c.in_ok-claim_leaf.ensures.bottom c.in_ok-claim_leaf.ensures.claimed c.in_ok-claim_leaf.ensures.separate);
      keyed = λ j few. next_case (IsKeyedAt form c.args.node.now) k (c.loop-i.invariant.keyed) c.in_ok-claim_leaf.ensures.keyed j few;
      walks = rw next (walks_bottom image form c.args.at c.args.node.now (take k cs) child c.args.claims.now.held c.loop-i.claims.held
          c.loop-i.invariant.taken c.loop-i.invariant.walks (omega arith) (rw long got)
          c.claim_leaf.new.claims.held c.in_ok-claim_leaf.ensures.claimed);
    }

pub returns-clause-walked : goal.returns-clause-walked
returns-clause-walked g c =
    let cs = c.args.node.now.children in
    let whole : take c.loop-i.i cs ≡ cs = take_all c.loop-i.i cs (omega arith) in
    subst (λ (row : List ℕ). WalksTo c.args.image.now.bytes (g.L.Trees.form c.args.over.now) c.args.claims.now.held c.loop-i.claims.held 0 c.args.at c.args.node.now row) whole c.loop-i.invariant.walks

pub returns-in_err-claim_leaf-clause-only : goal.returns-in_err-claim_leaf-clause-only
returns-in_err-claim_leaf-clause-only g c = λ readable.
    let image = c.args.image.now.bytes in
    let form = g.L.Trees.form c.args.over.now in
    let cs = c.args.node.now.children in
    let k = c.loop-i.i in
    let low : k < length cs = omega arith in
    let p = err_from_is_err_and c.from_residual.result c.from_residual.ensures.1 in
    rw (p.1, p.2) (leaf_memory image form c.args.at c.args.node.now k low (take k cs) (drop (k + 1) cs)
    (prefix_split cs k (slice_index_or cs k 0) low (slice_get-get_or cs k 0 low))
    c.args.claims.now.held c.loop-i.claims.held readable c.loop-i.invariant.taken _ _ c.in_err-claim_leaf.ensures.refused)
