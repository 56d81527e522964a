use Rattle.std.proofs.Common.{◌≡◌, ℕ, suc, ◌+◌, ◌-◌, ◌<◌, List, [], ◌∷◌, ◌++◌, length, take, drop, slice_get, Some, sym, ◌∙◌, subst, arith}
use Rattle.std.proofs.lemmas.Result.{err_from_is_err_and}
use Rattle.std.proofs.lemmas.List.{take_all}
use Rattle.std.specs.List.{AllByRecursion}
use Rattle.h5_bytes.proofs.BlockLaws.{all_append}
use Rattle.h5_model.specs.Format.Rows.{Node}
use Rattle.h5_model.specs.declared.open_fault.Cause.TheVariants.{NoMemory}
use Rattle.h5_btree.specs.Walk.Below.{reading_in, IsTakenBelow}
use Rattle.h5_btree.specs.Walk.Keyed.{AreKeyedBelow}
use Rattle.h5_btree.specs.Walk.Readable.{AreReadableBelow}
use Rattle.h5_btree.proofs.WalkLaws.Prefix.{prefix_long, prefix_next, prefix_split}
use Rattle.h5_btree.proofs.WalkLaws.Taken.{taken_none, taken_inner}
use Rattle.h5_btree.specs.Walk.Further.{WalksTo, IsFaultBelow}
use Rattle.h5_btree.proofs.WalkLaws.FurtherLaws.{walks_none, walks_inner, fault_inner, fault_below}
use Rattle.h5_btree.proofs.WalkLaws.Readable.{inner_memory, below_readable}
use Rattle.h5_btree.proofs.walk.below.+claim_below.Goals as goal

pub returns-then-level-eq0-clause-walked : goal.returns-then-level-eq0-clause-walked
returns-then-level-eq0-clause-walked g t c = rw c.if-level-eq0.true c.claim_leaves.ensures.walked

pub returns-then-level-eq0-clause-refused : goal.returns-then-level-eq0-clause-refused
returns-then-level-eq0-clause-refused g t c = rw c.if-level-eq0.true c.claim_leaves.ensures.refused

pub returns-then-level-eq0-clause-keyed : goal.returns-then-level-eq0-clause-keyed
returns-then-level-eq0-clause-keyed g t c = rw c.if-level-eq0.true c.claim_leaves.ensures.keyed

pub returns-clause-keyed : goal.returns-clause-keyed
returns-clause-keyed g t c =
    let image = c.args.image.now.bytes in
    let form = g.L.Trees.form c.args.over.now in
    let cs = c.args.node.now.children in
    let m = c.args.level - 1 in
    let e : c.args.level ≡ suc m = omega (arith, c.if-level-eq0.false) in
    let whole : take c.loop-i.i cs ≡ cs = take_all c.loop-i.i cs (omega arith) in
    let all : AreKeyedBelow image form (suc m) c.args.node.now
    = subst (λ (row : List ℕ). AllByRecursion (λ at. AreKeyedBelow image form m (reading_in image form at)) row) whole c.loop-i.invariant.keyed in
    subst (λ (l : ℕ). AreKeyedBelow image form l c.args.node.now) (sym e) all

pub loop-i-init : goal.loop-i-init
loop-i-init g t c = record {
  end = c.requires.end;
  keyed = tt;
  taken = taken_none c.args.image.now.bytes (g.L.Trees.form c.args.over.now) c.args.level c.args.claims.now.held c.requires.separate;
  walks = walks_none c.args.image.now.bytes (g.L.Trees.form c.args.over.now) c.args.level c.args.at c.args.node.now c.args.claims.now.held;
}

pub returns-in_err-child-clause-refused : goal.returns-in_err-child-clause-refused
returns-in_err-child-clause-refused g t c =
    let image = c.args.image.now.bytes in
    let form = g.L.Trees.form c.args.over.now in
    let old = c.args.claims.now.held in
    let mid = c.loop-i.claims.held in
    let node = c.args.node.now in
    let at = c.args.at in
    let cs = c.args.node.now.children in
    let row = take c.loop-i.i cs in
    let m = c.args.level - 1 in
    let e : c.args.level ≡ suc m = omega (arith, c.if-level-eq0.false) in
    let taken : IsTakenBelow image form (suc m) row old mid = subst (λ (l : ℕ). IsTakenBelow image form l row old mid) e c.loop-i.invariant.taken in
    let walks : WalksTo image form old mid (suc m) at node row = subst (λ (l : ℕ). WalksTo image form old mid l at node row) e c.loop-i.invariant.walks in
    let long : length row ≡ c.loop-i.i = prefix_long cs c.loop-i.i (omega arith) in
    let p = err_from_is_err_and c.from_residual.result c.from_residual.ensures.1 in
    rw (p.1, p.2) (subst (λ (l : ℕ). IsFaultBelow image form old l at node c.in_err-child.field-0.0.cause c.in_err-child.field-0.0.address) (sym e)
    (fault_inner image form m at node row c.child-below.result old mid taken walks (omega arith)
    (subst (λ (k : ℕ). slice_get cs k ≡ Some c.child-below.result) (sym long) c.child-below.ensures)
    _ _ c.in_err-child.ensures.address c.in_err-child.ensures.refused))

pub returns-in_err-claim_below-clause-refused : goal.returns-in_err-claim_below-clause-refused
returns-in_err-claim_below-clause-refused g t c =
    let image = c.args.image.now.bytes in
    let form = g.L.Trees.form c.args.over.now in
    let old = c.args.claims.now.held in
    let mid = c.loop-i.claims.held in
    let here = c.claim_inner.new.claims.held in
    let node = c.args.node.now in
    let at = c.args.at in
    let cs = c.args.node.now.children in
    let row = take c.loop-i.i cs in
    let m = c.args.level - 1 in
    let e : c.args.level ≡ suc m = omega (arith, c.if-level-eq0.false) in
    let taken : IsTakenBelow image form (suc m) row old mid = subst (λ (l : ℕ). IsTakenBelow image form l row old mid) e c.loop-i.invariant.taken in
    let walks : WalksTo image form old mid (suc m) at node row = subst (λ (l : ℕ). WalksTo image form old mid l at node row) e c.loop-i.invariant.walks in
    let long : length row ≡ c.loop-i.i = prefix_long cs c.loop-i.i (omega arith) in
    let cause = c.in_err-claim_below.field-0.0.cause in
    let address = c.in_err-claim_below.field-0.0.address in
    let below : IsFaultBelow image form here m c.child-below.result (reading_in image form c.child-below.result) cause address
    = subst (λ (n : Node). IsFaultBelow image form here m c.child-below.result n cause address) c.in_ok-child.ensures.node c.in_err-claim_below.ensures.refused in
    let p = err_from_is_err_and c.from_residual-in_err-claim_below.result c.from_residual-in_err-claim_below.ensures.1 in
    rw (p.1, p.2) (subst (λ (l : ℕ). IsFaultBelow image form old l at node cause address) (sym e)
    (fault_below image form m at node row c.child-below.result old mid taken walks (omega arith)
    (subst (λ (k : ℕ). slice_get cs k ≡ Some c.child-below.result) (sym long) c.child-below.ensures)
    c.in_ok-child.ensures.inner here c.in_ok-child.ensures.claimed c.in_ok-child.ensures.separate cause address below))

pub loop-i-preserved : goal.loop-i-preserved
loop-i-preserved g t c =
    let image = c.args.image.now.bytes in
    let form = g.L.Trees.form c.args.over.now in
    let old = c.args.claims.now.held in
    let mid = c.loop-i.claims.held in
    let here = c.claim_inner.new.claims.held in
    let now = c.claim_below.new.claims.held in
    let node = c.args.node.now in
    let at = c.args.at in
    let cs = c.args.node.now.children in
    let row = take c.loop-i.i cs in
    let m = c.args.level - 1 in
    let child = c.child-below.result in
    let e : c.args.level ≡ suc m = omega (arith, c.if-level-eq0.false) in
    let taken : IsTakenBelow image form (suc m) row old mid = subst (λ (l : ℕ). IsTakenBelow image form l row old mid) e c.loop-i.invariant.taken in
    let walks : WalksTo image form old mid (suc m) at node row = subst (λ (l : ℕ). WalksTo image form old mid l at node row) e c.loop-i.invariant.walks in
    let low : c.loop-i.i < length cs = omega arith in
    let long : length row ≡ c.loop-i.i = prefix_long cs c.loop-i.i (omega arith) in
    let next = prefix_next cs c.loop-i.i child low c.child-below.ensures in
    let under : IsTakenBelow image form m (reading_in image form child).children here now
    = subst (λ (n : Node). IsTakenBelow image form m n.children here now) c.in_ok-child.ensures.node c.in_ok-claim_below.ensures.taken in
    let below : WalksTo image form here now m child (reading_in image form child) (reading_in image form child).children
    = subst (λ (n : Node). WalksTo image form here now m child n n.children) c.in_ok-child.ensures.node c.in_ok-claim_below.ensures.walked in
    record {
      end = c.claim_below.ensures.end ∙ c.claim_inner.ensures.end ∙ c.loop-i.invariant.end;
      taken = rw next (subst (λ (l : ℕ). IsTakenBelow image form l (row ++ child ∷ []) old now) (sym e)
          (taken_inner image form m row child old mid here now taken c.in_ok-child.ensures.inner c.in_ok-child.ensures.claimed under));
      keyed = rw next (all_append (λ at. AreKeyedBelow image form m (reading_in image form at)) row (child ∷ []) c.loop-i.invariant.keyed
          (subst (λ (n : Node). AreKeyedBelow image form m n) c.in_ok-child.ensures.node c.in_ok-claim_below.ensures.keyed, tt));
      walks = rw next (subst (λ (l : ℕ). WalksTo image form old now l at node (row ++ child ∷ [])) (sym e)
          (walks_inner image form m at node row child old mid taken walks (omega arith)
          (subst (λ (k : ℕ). slice_get cs k ≡ Some child) (sym long) c.child-below.ensures)
          c.in_ok-child.ensures.inner here c.in_ok-child.ensures.claimed c.in_ok-child.ensures.separate now below));
    }

pub returns-clause-walked : goal.returns-clause-walked
returns-clause-walked g t c =
    let cs = c.args.node.now.children in
    let whole : take c.loop-i.i cs ≡ cs = take_all c.loop-i.i cs (omega arith) in
    subst (λ (row : List ℕ). WalksTo c.args.image.now.bytes (g.L.Trees.form c.args.over.now) c.args.claims.now.held c.loop-i.claims.held c.args.level c.args.at c.args.node.now row) whole c.loop-i.invariant.walks

pub returns-then-level-eq0-clause-only : goal.returns-then-level-eq0-clause-only
returns-then-level-eq0-clause-only g t c = rw c.if-level-eq0.true c.claim_leaves.ensures.only

pub returns-in_err-child-clause-only : goal.returns-in_err-child-clause-only
returns-in_err-child-clause-only g t c = λ readable.
    let image = c.args.image.now.bytes in
    let form = g.L.Trees.form c.args.over.now in
    let old = c.args.claims.now.held in
    let mid = c.loop-i.claims.held in
    let node = c.args.node.now in
    let cs = node.children in
    let row = take c.loop-i.i cs in
    let m = c.args.level - 1 in
    let e : c.args.level ≡ suc m = omega (arith, c.if-level-eq0.false) in
    let taken : IsTakenBelow image form (suc m) row old mid = subst (λ (l : ℕ). IsTakenBelow image form l row old mid) e c.loop-i.invariant.taken in
    let all : AreReadableBelow image form (suc m) node old = subst (λ (l : ℕ). AreReadableBelow image form l node old) e readable in
    let low : c.loop-i.i < length cs = omega arith in
    let p = err_from_is_err_and c.from_residual.result c.from_residual.ensures.1 in
    rw (p.1, p.2) (inner_memory image form m node row c.child-below.result (drop (c.loop-i.i + 1) cs)
    (prefix_split cs c.loop-i.i c.child-below.result low c.child-below.ensures) old mid all taken _ c.in_err-child.ensures.refused)

pub returns-in_err-claim_below-clause-only : goal.returns-in_err-claim_below-clause-only
returns-in_err-claim_below-clause-only g t c = λ readable.
    let image = c.args.image.now.bytes in
    let form = g.L.Trees.form c.args.over.now in
    let old = c.args.claims.now.held in
    let mid = c.loop-i.claims.held in
    let here = c.claim_inner.new.claims.held in
    let node = c.args.node.now in
    let cs = node.children in
    let row = take c.loop-i.i cs in
    let m = c.args.level - 1 in
    let child = c.child-below.result in
    let e : c.args.level ≡ suc m = omega (arith, c.if-level-eq0.false) in
    let taken : IsTakenBelow image form (suc m) row old mid = subst (λ (l : ℕ). IsTakenBelow image form l row old mid) e c.loop-i.invariant.taken in
    let all : AreReadableBelow image form (suc m) node old = subst (λ (l : ℕ). AreReadableBelow image form l node old) e readable in
    let low : c.loop-i.i < length cs = omega arith in
    let cause = c.in_err-claim_below.field-0.0.cause in
    let only : AreReadableBelow image form m (reading_in image form child) here → cause ≡ NoMemory
    = subst (λ (n : Node). AreReadableBelow image form m n here → cause ≡ NoMemory) c.in_ok-child.ensures.node c.in_err-claim_below.ensures.only in
    let p = err_from_is_err_and c.from_residual-in_err-claim_below.result c.from_residual-in_err-claim_below.ensures.1 in
    rw (p.1, p.2) (only (below_readable image form m node row child (drop (c.loop-i.i + 1) cs)
    (prefix_split cs c.loop-i.i child low c.child-below.ensures) old mid all taken here c.in_ok-child.ensures.claimed))
