use Rattle.std.proofs.Common.{◌≡◌, ◌+◌, ℕ, ◌≤◌, List, [], ◌∷◌, sym, ap, ◌∙◌, subst}
use Rattle.std.proofs.lemmas.Result.{err_from_is_err_and}
use Rattle.h5_bytes.specs.Blocks.{cover}
use Rattle.h5_model.specs.Format.Limits.{highest_level}
use Rattle.h5_model.specs.Format.Rows.{Node, leaves, nodes}
use Rattle.h5_model.specs.Format.Reached.{Named}
use Rattle.h5_model.specs.declared.open_fault.Cause.TheVariants.{NoMemory}
use Rattle.h5_btree.specs.Walk.Trees.{nodes_blocks}
use Rattle.h5_btree.specs.Walk.Followed.{IsTreeMet}
use Rattle.h5_btree.specs.Walk.Below.{reading_in, IsStanding, IsTakenBelow}
use Rattle.h5_btree.specs.Walk.Keyed.{AreKeyedBelow}
use Rattle.h5_btree.specs.Walk.Readable.{AreReadableBelow}
use Rattle.h5_btree.specs.Walk.Further.{IsFurther, IsPlaceIn, WalksTo, IsFaultBelow}
use Rattle.h5_btree.proofs.WalkLaws.RootSteps.{root_refused, below_refused, tree_claimed, tree_walked}
use Rattle.h5_btree.proofs.WalkLaws.Readable.{root_memory, root_readable}
use Rattle.h5_btree.proofs.walk.below.claim_tree.Goals as goal

pub returns-in_err-node-clause-refused : goal.returns-in_err-node-clause-refused
returns-in_err-node-clause-refused g c =
    let p = err_from_is_err_and c.from_residual.result c.from_residual.ensures.1 in
    rw (p.1, p.2) (root_refused c.args.image.now.bytes (g.L.Trees.form c.args.over.now) c.args.root c.args.claims.now.held _ _ c.in_err-node.ensures.address c.in_err-node.ensures.refused)

pub returns-in_err-claim_below-clause-refused : goal.returns-in_err-claim_below-clause-refused
returns-in_err-claim_below-clause-refused g c =
    let image = c.args.image.now.bytes in
    let form = g.L.Trees.form c.args.over.now in
    let here = c.claim_root.new.claims.held in
    let root = reading_in image form c.args.root in
    let is : c.in_ok-node.node ≡ root = c.in_ok-node.ensures.node in
    let high : c.level-level.result ≡ root.level = c.level-level.ensures ∙ ap (λ (n : Node). n.level) is in
    let cause = c.in_err-claim_below.field-0.0.cause in
    let address = c.in_err-claim_below.field-0.0.address in
    let below : IsFaultBelow image form here root.level c.args.root root cause address
    = subst (λ (l : ℕ). IsFaultBelow image form here l c.args.root root cause address) high
    (subst (λ (n : Node). IsFaultBelow image form here c.level-level.result c.args.root n cause address) is c.in_err-claim_below.ensures.refused) in
    let stands : IsStanding image form root.level c.args.root = subst (λ (n : Node). IsStanding image form n.level c.args.root) is c.in_ok-node.ensures.stands in
    let low : root.level ≤ highest_level = subst (λ (n : Node). n.level ≤ highest_level) is c.in_ok-node.ensures.low in
    let p = err_from_is_err_and c.from_residual-in_err-claim_below.result c.from_residual-in_err-claim_below.ensures.1 in
    rw (p.1, p.2) (below_refused image form c.args.root c.args.claims.now.held here stands low c.in_ok-node.ensures.claimed c.in_ok-node.ensures.separate cause address below)

pub returns-clause-claimed : goal.returns-clause-claimed
returns-clause-claimed g c =
    let image = c.args.image.now.bytes in
    let form = g.L.Trees.form c.args.over.now in
    let old = c.args.claims.now.held in
    let here = c.claim_root.new.claims.held in
    let now = c.claim_below.new.claims.held in
    let root = reading_in image form c.args.root in
    let is : c.in_ok-node.node ≡ root = c.in_ok-node.ensures.node in
    let high : c.level-level.result ≡ root.level = c.level-level.ensures ∙ ap (λ (n : Node). n.level) is in
    let taken : IsTakenBelow image form root.level root.children here now
    = subst (λ (l : ℕ). IsTakenBelow image form l root.children here now) high
    (subst (λ (n : Node). IsTakenBelow image form c.level-level.result n.children here now) is c.in_ok-claim_below.ensures.taken) in
    let stands : IsStanding image form root.level c.args.root = subst (λ (n : Node). IsStanding image form n.level c.args.root) is c.in_ok-node.ensures.stands in
    let low : root.level ≤ highest_level = subst (λ (n : Node). n.level ≤ highest_level) is c.in_ok-node.ensures.low in
    record {
      covered = subst (λ (l : ℕ). (p : ℕ) → cover p now ≡ cover p old + cover p (nodes_blocks image form (nodes (reading_in image form) l (c.args.root ∷ [])) (leaves (reading_in image form) l (c.args.root ∷ [])))) (sym high)
          (tree_claimed image form c.args.root old here stands low c.in_ok-node.ensures.claimed c.in_ok-node.ensures.separate now taken);
      separate = taken.separate;
    }

pub returns-clause-keyed : goal.returns-clause-keyed
returns-clause-keyed g c =
    let image = c.args.image.now.bytes in
    let form = g.L.Trees.form c.args.over.now in
    let is : c.in_ok-node.node ≡ reading_in image form c.args.root = c.in_ok-node.ensures.node in
    subst (λ (n : Node). AreKeyedBelow image form c.level-level.result n) is c.in_ok-claim_below.ensures.keyed

pub returns-clause-walked : goal.returns-clause-walked
returns-clause-walked g c =
    let image = c.args.image.now.bytes in
    let form = g.L.Trees.form c.args.over.now in
    let old = c.args.claims.now.held in
    let here = c.claim_root.new.claims.held in
    let now = c.claim_below.new.claims.held in
    let root = reading_in image form c.args.root in
    let is : c.in_ok-node.node ≡ root = c.in_ok-node.ensures.node in
    let high : c.level-level.result ≡ root.level = c.level-level.ensures ∙ ap (λ (n : Node). n.level) is in
    let taken : IsTakenBelow image form root.level root.children here now
    = subst (λ (l : ℕ). IsTakenBelow image form l root.children here now) high
    (subst (λ (n : Node). IsTakenBelow image form c.level-level.result n.children here now) is c.in_ok-claim_below.ensures.taken) in
    let walks : WalksTo image form here now root.level c.args.root root root.children
    = subst (λ (l : ℕ). WalksTo image form here now l c.args.root root root.children) high
    (subst (λ (n : Node). WalksTo image form here now c.level-level.result c.args.root n n.children) is c.in_ok-claim_below.ensures.walked) in
    let stands : IsStanding image form root.level c.args.root = subst (λ (n : Node). IsStanding image form n.level c.args.root) is c.in_ok-node.ensures.stands in
    let low : root.level ≤ highest_level = subst (λ (n : Node). n.level ≤ highest_level) is c.in_ok-node.ensures.low in
    subst (λ (l : ℕ). (followed : List Named) (field heap depth : ℕ) → IsTreeMet image form old followed field c.args.root heap depth
    → IsFurther image now followed (IsPlaceIn image form field (nodes (reading_in image form) l (c.args.root ∷ [])))) (sym high)
    (tree_walked image form c.args.root old here stands low c.in_ok-node.ensures.claimed c.in_ok-node.ensures.separate now taken walks)

pub returns-in_err-node-clause-only : goal.returns-in_err-node-clause-only
returns-in_err-node-clause-only g c = λ readable.
    let p = err_from_is_err_and c.from_residual.result c.from_residual.ensures.1 in
    rw (p.1, p.2) (root_memory c.args.image.now.bytes (g.L.Trees.form c.args.over.now) c.args.root c.args.claims.now.held readable _ c.in_err-node.ensures.refused)

pub returns-in_err-claim_below-clause-only : goal.returns-in_err-claim_below-clause-only
returns-in_err-claim_below-clause-only g c = λ readable.
    let image = c.args.image.now.bytes in
    let form = g.L.Trees.form c.args.over.now in
    let here = c.claim_root.new.claims.held in
    let root = reading_in image form c.args.root in
    let is : c.in_ok-node.node ≡ root = c.in_ok-node.ensures.node in
    let high : c.level-level.result ≡ root.level = c.level-level.ensures ∙ ap (λ (n : Node). n.level) is in
    let cause = c.in_err-claim_below.field-0.0.cause in
    let only : AreReadableBelow image form root.level root here → cause ≡ NoMemory
    = subst (λ (l : ℕ). AreReadableBelow image form l root here → cause ≡ NoMemory) high
    (subst (λ (n : Node). AreReadableBelow image form c.level-level.result n here → cause ≡ NoMemory) is c.in_err-claim_below.ensures.only) in
    let p = err_from_is_err_and c.from_residual-in_err-claim_below.result c.from_residual-in_err-claim_below.ensures.1 in
    rw (p.1, p.2) (only (root_readable image form c.args.root c.args.claims.now.held readable here c.in_ok-node.ensures.claimed))
