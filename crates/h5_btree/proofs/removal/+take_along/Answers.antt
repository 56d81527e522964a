use Rattle.std.proofs.Common.{◌≡◌, ℕ, suc, ◌+◌, [], ◌∷◌, length, sym, ap, ◌∙◌, subst, arith, rules, List}
use Rattle.std.proofs.lemmas.List.{nil_from_length}
use Rattle.h5_bytes.specs.Blocks.{cover, holds}
use Rattle.h5_model.specs.Format.Rows.{Node}
use Rattle.h5_model.specs.Format.Nodes.{node_at}
use Rattle.h5_space.specs.Space.{Space}
use Rattle.h5_btree.specs.Removal.{IsShrinking, IsTakenAlong}
use Rattle.h5_btree.specs.declared.way.Step.{Step}
use Rattle.h5_btree.proofs.RemovalSteps.{inside_p, form_p, entry_p, place_p, inside_left, form_left, inside_right, form_right, give_inside, give_held}
use Rattle.h5_btree.proofs.DropSteps.{without}
use Rattle.h5_btree.proofs.RemovalEnds.{taken_above, taken_kept, taken_emptied, one_before, goes_on}
use Rattle.h5_btree.proofs.removal.+take_along.Goals as goal
use Rattle.h5_btree.proofs.removal.+take_along.Goals.{After-give}

pub node_there-node-requires-clause-inside : goal.node_there-node-requires-clause-inside
node_there-node-requires-clause-inside t c =
    let h = c.requires.shrunk in
    rw c.bytes.ensures (inside_p h.start c.args.image.now c.args.kind h.root h.level c.args.step.node c.args.above.now c.args.step.place h.list h.owned h.own h.shrinks)

pub node_there-node-requires-clause-form : goal.node_there-node-requires-clause-form
node_there-node-requires-clause-form t c =
    let h = c.requires.shrunk in
    rw c.bytes.ensures (form_p h.start c.args.image.now c.args.kind h.root h.level c.args.step.node c.args.above.now c.args.step.place h.list h.owned h.own h.shrinks)

pub remove_child-requires-clause-inside : goal.remove_child-requires-clause-inside
remove_child-requires-clause-inside t c =
    let h = c.requires.shrunk in
    inside_p h.start c.args.image.now c.args.kind h.root h.level c.args.step.node c.args.above.now c.args.step.place h.list h.owned h.own h.shrinks

pub remove_child-requires-clause-form : goal.remove_child-requires-clause-form
remove_child-requires-clause-form t c =
    let h = c.requires.shrunk in
    form_p h.start c.args.image.now c.args.kind h.root h.level c.args.step.node c.args.above.now c.args.step.place h.list h.owned h.own h.shrinks

pub remove_child-requires-clause-place : goal.remove_child-requires-clause-place
remove_child-requires-clause-place t c =
    let h = c.requires.shrunk in
    entry_p h.start c.args.image.now c.args.kind h.root h.level c.args.step.node c.args.above.now c.args.step.place h.list h.owned h.own h.shrinks

pub returns-then-len-gt1-clause-taken : goal.returns-then-len-gt1-clause-taken
returns-then-len-gt1-clause-taken t c = λ start root m list owned own s.
    let is : c.node_there-node.result ≡ node_at c.args.image.now.bytes c.args.kind c.args.step.node
    = c.node_there-node.ensures ∙ ap (λ (b : List ℕ). node_at b c.args.kind c.args.step.node) c.bytes.ensures in
    let more = ap (λ (n : Node). length n.children) is in
    taken_kept start c.args.image.now c.remove_child.new.image c.args.kind root m c.args.step c.args.above.now list owned own s
    (omega (arith, c.len.ensures.children, c.if-len-gt1.true, more)) c.remove_child.ensures

pub empty_root-requires-clause-inside : goal.empty_root-requires-clause-inside
empty_root-requires-clause-inside t c =
    let h = c.requires.shrunk in
    inside_p h.start c.args.image.now c.args.kind h.root h.level c.args.step.node c.args.above.now c.args.step.place h.list h.owned h.own h.shrinks

pub empty_root-requires-clause-form : goal.empty_root-requires-clause-form
empty_root-requires-clause-form t c =
    let h = c.requires.shrunk in
    form_p h.start c.args.image.now c.args.kind h.root h.level c.args.step.node c.args.above.now c.args.step.place h.list h.owned h.own h.shrinks

pub empty_root-requires-clause-place : goal.empty_root-requires-clause-place
empty_root-requires-clause-place t c =
    let h = c.requires.shrunk in
    entry_p h.start c.args.image.now c.args.kind h.root h.level c.args.step.node c.args.above.now c.args.step.place h.list h.owned h.own h.shrinks

pub returns-in_default-clause-taken : goal.returns-in_default-clause-taken
returns-in_default-clause-taken t c = λ start root m list owned own s.
    let is : c.node_there-node.result ≡ node_at c.args.image.now.bytes c.args.kind c.args.step.node
    = c.node_there-node.ensures ∙ ap (λ (b : List ℕ). node_at b c.args.kind c.args.step.node) c.bytes.ensures in
    let none : c.args.above.now ≡ [] = nil_from_length c.args.above.now c.in_default.ensures.cases in
    let few = ap (λ (n : Node). length n.children) is in
    let some = place_p start c.args.image.now c.args.kind root m c.args.step.node c.args.above.now c.args.step.place list owned own s in
    subst (λ (ws : List Step). IsTakenAlong start c.empty_root.new.image c.args.kind root (c.args.step ∷ ws) list owned) (sym none)
    (taken_emptied start c.args.image.now c.empty_root.new.image c.args.kind root m c.args.step list owned own
    (subst (λ (ws : List Step). IsShrinking start c.args.image.now c.args.kind root m c.args.step.node ws c.args.step.place list owned own) none s)
    (omega (arith, c.len.ensures.children, c.if-len-gt1.false, few, some)) c.empty_root.ensures)

pub name_right-requires-clause-inside : goal.name_right-requires-clause-inside
name_right-requires-clause-inside t c =
    let h = c.requires.shrunk in
    let is : c.node_there-node.result ≡ node_at c.args.image.now.bytes c.args.kind c.args.step.node
    = c.node_there-node.ensures ∙ ap (λ (b : List ℕ). node_at b c.args.kind c.args.step.node) c.bytes.ensures in
    let el = c.left-left.ensures ∙ ap (λ (n : Node). n.left) is in
    let er = c.right-right.ensures ∙ ap (λ (n : Node). n.right) is in
    inside_left h.start c.args.image.now c.args.kind h.root h.level c.args.step.node c.args.above.now c.args.step.place h.list h.owned h.own h.shrinks _ _ el er

pub name_right-requires-clause-form : goal.name_right-requires-clause-form
name_right-requires-clause-form t c =
    let h = c.requires.shrunk in
    let is : c.node_there-node.result ≡ node_at c.args.image.now.bytes c.args.kind c.args.step.node
    = c.node_there-node.ensures ∙ ap (λ (b : List ℕ). node_at b c.args.kind c.args.step.node) c.bytes.ensures in
    let el = c.left-left.ensures ∙ ap (λ (n : Node). n.left) is in
    let er = c.right-right.ensures ∙ ap (λ (n : Node). n.right) is in
    form_left h.start c.args.image.now c.args.kind h.root h.level c.args.step.node c.args.above.now c.args.step.place h.list h.owned h.own h.shrinks _ _ el er

pub name_left-requires-clause-inside : goal.name_left-requires-clause-inside
name_left-requires-clause-inside t c =
    let h = c.requires.shrunk in
    let is : c.node_there-node.result ≡ node_at c.args.image.now.bytes c.args.kind c.args.step.node
    = c.node_there-node.ensures ∙ ap (λ (b : List ℕ). node_at b c.args.kind c.args.step.node) c.bytes.ensures in
    let el = c.left-left.ensures ∙ ap (λ (n : Node). n.left) is in
    let er = c.right-right.ensures ∙ ap (λ (n : Node). n.right) is in
    inside_right h.start c.args.image.now c.args.kind h.root h.level c.args.step.node c.args.above.now c.args.step.place h.list h.owned h.own h.shrinks _ _ el er
    c.name_right.new.image c.name_right.ensures.written c.name_right.ensures.none

pub name_left-requires-clause-form : goal.name_left-requires-clause-form
name_left-requires-clause-form t c =
    let h = c.requires.shrunk in
    let is : c.node_there-node.result ≡ node_at c.args.image.now.bytes c.args.kind c.args.step.node
    = c.node_there-node.ensures ∙ ap (λ (b : List ℕ). node_at b c.args.kind c.args.step.node) c.bytes.ensures in
    let el = c.left-left.ensures ∙ ap (λ (n : Node). n.left) is in
    let er = c.right-right.ensures ∙ ap (λ (n : Node). n.right) is in
    form_right h.start c.args.image.now c.args.kind h.root h.level c.args.step.node c.args.above.now c.args.step.place h.list h.owned h.own h.shrinks _ _ el er
    c.name_right.new.image c.name_right.ensures.written c.name_right.ensures.none

pub give-requires-clause-inside : goal.give-requires-clause-inside
give-requires-clause-inside t c =
    let h = c.requires.shrunk in
    let is : c.node_there-node.result ≡ node_at c.args.image.now.bytes c.args.kind c.args.step.node
    = c.node_there-node.ensures ∙ ap (λ (b : List ℕ). node_at b c.args.kind c.args.step.node) c.bytes.ensures in
    let el = c.left-left.ensures ∙ ap (λ (n : Node). n.left) is in
    let er = c.right-right.ensures ∙ ap (λ (n : Node). n.right) is in
    rw c.node_length.ensures.length (give_inside h.start c.args.image.now c.args.kind h.root h.level c.args.step.node c.args.above.now c.args.step.place h.list h.owned h.own h.shrinks _ _ el er
    c.name_right.new.image c.name_right.ensures.written c.name_right.ensures.none c.name_left.new.image c.name_left.ensures.written c.name_left.ensures.none)

pub give-requires-clause-held : goal.give-requires-clause-held
give-requires-clause-held t c =
    let h = c.requires.shrunk in
    let is : c.node_there-node.result ≡ node_at c.args.image.now.bytes c.args.kind c.args.step.node
    = c.node_there-node.ensures ∙ ap (λ (b : List ℕ). node_at b c.args.kind c.args.step.node) c.bytes.ensures in
    let el = c.left-left.ensures ∙ ap (λ (n : Node). n.left) is in
    let er = c.right-right.ensures ∙ ap (λ (n : Node). n.right) is in
    rw c.node_length.ensures.length (give_held h.start c.args.image.now c.args.kind h.root h.level c.args.step.node c.args.above.now c.args.step.place h.list h.owned h.own h.shrinks _ _ el er
    c.name_right.new.image c.name_right.ensures.written c.name_right.ensures.none c.name_left.new.image c.name_left.ensures.written c.name_left.ensures.none)

-- what it has made when it goes on
shrinks_on : (t : ℕ) (c : After-give t) (start : Space) (root m : ℕ) (list owned own : List ℕ)
    → IsShrinking start c.args.image.now c.args.kind root m c.args.step.node c.args.above.now c.args.step.place list owned own
    → IsShrinking start c.give.new.self c.args.kind root (suc m) c.in-Some.next.now.node c.in-Some.higher.now c.in-Some.next.now.place list owned (without c.args.step.node own)
shrinks_on t c start root m list owned own s =
    let is : c.node_there-node.result ≡ node_at c.args.image.now.bytes c.args.kind c.args.step.node
    = c.node_there-node.ensures ∙ ap (λ (b : List ℕ). node_at b c.args.kind c.args.step.node) c.bytes.ensures in
    let el = c.left-left.ensures ∙ ap (λ (n : Node). n.left) is in
    let er = c.right-right.ensures ∙ ap (λ (n : Node). n.right) is in
    let few = ap (λ (n : Node). length n.children) is in
    let some = place_p start c.args.image.now c.args.kind root m c.args.step.node c.args.above.now c.args.step.place list owned own s in
    goes_on start c.args.image.now c.name_right.new.image c.name_left.new.image c.give.new.self c.args.kind root m c.args.step c.in-Some.next.now c.in-Some.higher.now list owned own
    (subst (λ (ws : List Step). IsShrinking start c.args.image.now c.args.kind root m c.args.step.node ws c.args.step.place list owned own) c.in-Some.ensures.cases.0 s)
    (omega (arith, c.len.ensures.children, c.if-len-gt1.false, few, some)) _ _ el er
    c.name_right.ensures.written c.name_right.ensures.none c.name_left.ensures.written c.name_left.ensures.none c.give.ensures.bytes
    (λ x. c.give.ensures.given x ∙ ap (λ (n : ℕ). cover x c.name_left.new.image.free + holds x c.args.step.node n) c.node_length.ensures.length)

pub take_along-requires : goal.take_along-requires
take_along-requires t c =
    let h = c.requires.shrunk in (
      search rules,
      (
        record {
          start = h.start;
          root = h.root;
          level = suc h.level;
          list = h.list;
          owned = h.owned;
          own = without c.args.step.node h.own;
          shrinks = shrinks_on t (goal.at.take_along-requires t c).After-give h.start h.root h.level h.list h.owned h.own h.shrinks;
        },
        search rules,
      ),
    )

pub returns-clause-taken : goal.returns-clause-taken
returns-clause-taken t c = λ start root m list owned own s.
    let is : c.node_there-node.result ≡ node_at c.args.image.now.bytes c.args.kind c.args.step.node
    = c.node_there-node.ensures ∙ ap (λ (b : List ℕ). node_at b c.args.kind c.args.step.node) c.bytes.ensures in
    let few = ap (λ (n : Node). length n.children) is in
    let some = place_p start c.args.image.now c.args.kind root m c.args.step.node c.args.above.now c.args.step.place list owned own s in
    let more = c.take_along.ensures.taken start root (suc m) list owned (without c.args.step.node own) (shrinks_on t (goal.at.returns-clause-taken t c).After-give start root m list owned own s) in
    subst (λ (ws : List Step). IsTakenAlong start c.take_along.new.image c.args.kind root (c.args.step ∷ ws) list owned) (sym c.in-Some.ensures.cases.0)
    (taken_above start c.take_along.new.image c.args.kind root c.args.step (c.in-Some.next.now ∷ c.in-Some.higher.now) list owned
    (one_before start c.args.image.now c.args.kind root m c.args.step c.args.above.now list owned own s (omega (arith, c.len.ensures.children, c.if-len-gt1.false, few, some))) more)
