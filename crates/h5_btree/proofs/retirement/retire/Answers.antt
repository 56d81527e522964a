use Rattle.std.proofs.Common.{◌≡◌, inl, ℕ, suc, Bool, true, List, sym, ap, ◌∙◌, subst}
use Rattle.h5_model.specs.Format.Rows.{Node}
use Rattle.h5_model.specs.Format.Nodes.{Kind, node_at}
use Rattle.h5_space.specs.Space.{Space}
use Rattle.h5_btree.specs.Held.{IsNodeThere}
use Rattle.h5_btree.specs.Looked.{AreHitsLooked, IsLookedBelow, steps_of}
use Rattle.h5_btree.specs.Retired.{AreRetiredBelow, IsRetirable, IsSubtree}
use Rattle.h5_btree.proofs.RetiredSteps.{retiring_start, retiring_under}
use Rattle.h5_btree.proofs.RetiredTrees.{root_under, tree_retired}
use Rattle.h5_btree.proofs.retirement.retire.Goals as goal

there : (hit : List ℕ → Bool) (stands : List ℕ → ℕ → Type 0) (keys_at : List ℕ → ℕ → List (List ℕ)) (s : Space) (kind : Kind) (root level : ℕ) (owned list : List ℕ)
    → IsRetirable hit stands keys_at s kind root level owned list → IsNodeThere s.bytes kind root
there hit stands keys_at s kind root level owned list r =
    (retiring_under hit stands keys_at s s kind root level owned list (retiring_start hit stands keys_at s kind root level owned list r) (suc level) root
    (root_under s kind root level owned list r.tree)).0

pub node_there-requires-clause-inside : goal.node_there-requires-clause-inside
node_there-requires-clause-inside g c =
    let x = c.requires.tree in
    rw c.bytes.ensures
    (there (g.R.Hits.hit c.args.how.now) (g.R.Hits.stands c.args.how.now) (g.R.Hits.keys_at c.args.how.now) c.args.image.now c.args.kind c.args.root x.0 x.1 x.2 x.3).0

pub node_there-requires-clause-form : goal.node_there-requires-clause-form
node_there-requires-clause-form g c =
    let x = c.requires.tree in
    rw c.bytes.ensures
    (there (g.R.Hits.hit c.args.how.now) (g.R.Hits.stands c.args.how.now) (g.R.Hits.keys_at c.args.how.now) c.args.image.now c.args.kind c.args.root x.0 x.1 x.2 x.3).1

pub retire_below-requires : goal.retire_below-requires
retire_below-requires g c =
    let x = c.requires.tree in
    let hit = g.R.Hits.hit c.args.how.now in
    let V = node_at c.args.image.now.bytes c.args.kind in
    let node : c.node_there.result ≡ V c.args.root
    = c.node_there.ensures ∙ ap (λ (b : List ℕ). node_at b c.args.kind c.args.root) c.bytes.ensures in
    let under = root_under c.args.image.now c.args.kind c.args.root x.0 x.1 x.2 x.3.tree in
    let read : (V c.args.root).level ≡ c.level-level.result = sym (ap (λ (n : Node). n.level) node) ∙ sym c.level-level.ensures in
    record {
      stands = (
        c.args.image.now,
        c.args.root,
        x.0,
        x.1,
        x.2,
        retiring_start hit (g.R.Hits.stands c.args.how.now) (g.R.Hits.keys_at c.args.how.now) c.args.image.now c.args.kind c.args.root x.0 x.1 x.2 x.3,
        subst (λ (h : ℕ). IsSubtree V x.1 x.2 (suc h) c.args.root) (sym under.1 ∙ read) under,
        inl (subst (λ (h : ℕ). AreHitsLooked hit V (steps_of c.args.look) (suc h) true c.args.root) read c.requires.looked),
      );
    }

pub returns-clause-retired : goal.returns-clause-retired
returns-clause-retired g c = λ level owned list r.
    let hit = g.R.Hits.hit c.args.how.now in
    let stands = g.R.Hits.stands c.args.how.now in
    let keys_at = g.R.Hits.keys_at c.args.how.now in
    let V = node_at c.args.image.now.bytes c.args.kind in
    let node : c.node_there.result ≡ V c.args.root
    = c.node_there.ensures ∙ ap (λ (b : List ℕ). node_at b c.args.kind c.args.root) c.bytes.ensures in
    let under = root_under c.args.image.now c.args.kind c.args.root level owned list r.tree in
    let read : (V c.args.root).level ≡ c.level-level.result = sym (ap (λ (n : Node). n.level) node) ∙ sym c.level-level.ensures in
    let same : level ≡ c.level-level.result = sym under.1 ∙ read in
    let start = retiring_start hit stands keys_at c.args.image.now c.args.kind c.args.root level owned list r in
    let here = subst (λ (h : ℕ). IsSubtree V owned list (suc h) c.args.root) same under in
    let looked : IsLookedBelow hit keys_at c.args.image.now c.args.image.now c.args.kind (steps_of c.args.look) (suc c.level-level.result) true c.args.root
    = inl (subst (λ (h : ℕ). AreHitsLooked hit V (steps_of c.args.look) (suc h) true c.args.root) read c.requires.looked) in
    tree_retired hit stands keys_at c.args.image.now c.retire_below.new.image c.args.kind c.args.root level owned list
    (c.retire_below.ensures.retired c.args.image.now c.args.root level owned list start here looked)
    (subst (λ (h : ℕ). AreRetiredBelow hit keys_at c.args.image.now c.retire_below.new.image c.args.kind (suc h) c.args.root) (sym same)
    (c.retire_below.ensures.below c.args.image.now c.args.root level owned list start here looked))
