use Rattle.std.proofs.Common.{◌≡◌, ℕ, suc, ◌+◌, ◌<◌, List, length, map, refl, sym, ap, ◌∙◌, subst, arith, Bool, false}
use Rattle.std.specs.List.{list_any}
use Rattle.std.proofs.lemmas.List.{length-map}
use Rattle.h5_model.specs.Format.Rows.{Node}
use Rattle.h5_model.specs.Format.Nodes.{Kind, node_at, node_bytes}
use Rattle.h5_space.specs.Space.{Space}
use Rattle.h5_btree.specs.Held.{IsNodeThere}
use Rattle.h5_btree.specs.Retired.{StandsSomewhere, keys_below}
use Rattle.h5_btree.proofs.NodeLaws.{capacity_low, length-children}
use Rattle.h5_btree.proofs.RetiredKeys.{ArePartly, none_retired, partly_all, partly_none}
use Rattle.h5_btree.proofs.RetiredSteps.{key_more, key_written, partly_under, retiring_under}
use Rattle.h5_btree.proofs.WideningLaws.{rewritten_none}
use Rattle.h5_btree.proofs.retirement.retire_keys.Goals as goal
use Rattle.h5_btree.proofs.KeyedOwn.{keys_count}

there : (hit : List ℕ → Bool) (stands : List ℕ → ℕ → Type 0) (keys_at : List ℕ → ℕ → List (List ℕ)) (t : Space) (kind : Kind) (level at : ℕ)
    → StandsSomewhere hit stands keys_at t kind level at → IsNodeThere t.bytes kind at
there hit stands keys_at t kind level at c = (retiring_under hit stands keys_at c.0 t kind c.1 c.2 c.3 c.4 c.5 (suc level) at c.6).0

pub has_hit-requires : goal.has_hit-requires
has_hit-requires g c =
    let x = c.requires.stands in
    let is = there (g.R.Hits.hit c.args.how.now) (g.R.Hits.stands c.args.how.now) (g.R.Hits.keys_at c.args.how.now) c.args.image.now c.args.kind c.args.level c.args.at x in
    record { node = rw c.bytes.ensures is; width = x.5.start.width }

pub node_there-requires-clause-inside : goal.node_there-requires-clause-inside
node_there-requires-clause-inside g c =
    let is = there (g.R.Hits.hit c.args.how.now) (g.R.Hits.stands c.args.how.now) (g.R.Hits.keys_at c.args.how.now) c.args.image.now c.args.kind c.args.level c.args.at c.requires.stands in
    rw c.bytes-then-has_hit.ensures is.0

pub node_there-requires-clause-form : goal.node_there-requires-clause-form
node_there-requires-clause-form g c =
    let is = there (g.R.Hits.hit c.args.how.now) (g.R.Hits.stands c.args.how.now) (g.R.Hits.keys_at c.args.how.now) c.args.image.now c.args.kind c.args.level c.args.at c.requires.stands in
    rw c.bytes-then-has_hit.ensures is.1

pub overflow_add-i-end : goal.overflow_add-i-end
overflow_add-i-end g c =
    let is = there (g.R.Hits.hit c.args.how.now) (g.R.Hits.stands c.args.how.now) (g.R.Hits.keys_at c.args.how.now) c.args.image.now c.args.kind c.args.level c.args.at c.requires.stands in
    let node : c.node_there.result ≡ node_at c.args.image.now.bytes c.args.kind c.args.at
    = c.node_there.ensures ∙ ap (λ (b : List ℕ). node_at b c.args.kind c.args.at) c.bytes-then-has_hit.ensures in
    let same = ap (λ (n : Node). length n.children) node in
    let count = length-children c.args.kind (node_bytes c.args.image.now.bytes c.args.kind c.args.at) (node_at c.args.image.now.bytes c.args.kind c.args.at) refl in
    let cap = capacity_low c.args.kind in
    let long = ap (λ (b : List ℕ). length b) c.bytes-then-has_hit.ensures in
    let short = c.bytes-then-has_hit.type_inv.1 in
    let roomy = is.1.roomy in
    let inside = is.0 in
    omega (arith, same, count, cap, long, short, roomy, inside, c.len-i-end.ensures.children)

pub loop-i-init : goal.loop-i-init
loop-i-init g c =
    let V = node_at c.args.image.now.bytes c.args.kind in
    let is = there (g.R.Hits.hit c.args.how.now) (g.R.Hits.stands c.args.how.now) (g.R.Hits.keys_at c.args.how.now) c.args.image.now c.args.kind c.args.level c.args.at c.requires.stands in
    let node : c.node_there.result ≡ V c.args.at
    = c.node_there.ensures ∙ ap (λ (b : List ℕ). node_at b c.args.kind c.args.at) c.bytes-then-has_hit.ensures in
    record {
      end = ap (λ (n : ℕ). n + 1) (c.len-i-end.ensures.children ∙ ap (λ (n : Node). length n.children) node);
      written = (
        (V c.args.at).keys,
        partly_none (g.R.Hits.hit c.args.how.now) (map (keys_below V (g.R.Hits.keys_at c.args.how.now c.args.image.now.bytes) c.args.level) (V c.args.at).children) (V c.args.at).keys,
        rewritten_none c.args.image.now c.args.kind c.args.at is.1,
      );
    }

pub retire_key-requires-clause-under : goal.retire_key-requires-clause-under
retire_key-requires-clause-under g c =
    let x = c.requires.stands in
    let w = c.loop-i.invariant.written in
    partly_under (g.R.Hits.hit c.args.how.now) (g.R.Hits.stands c.args.how.now) (g.R.Hits.keys_at c.args.how.now) x.0 c.args.image.now c.args.kind x.1 x.2 x.3 x.4 x.5
    c.loop-i.image c.args.level c.args.at x.6 w.0 w.2

pub retire_key-requires-clause-place : goal.retire_key-requires-clause-place
retire_key-requires-clause-place g c =
    let w = c.loop-i.invariant.written in
    let same = ap (λ (n : Node). length n.children) w.2.says in
    let count = length-children c.args.kind (node_bytes c.loop-i.image.bytes c.args.kind c.args.at) (node_at c.loop-i.image.bytes c.args.kind c.args.at) refl in
    omega (arith, same, count, c.loop-i.invariant.end, c.loop-i-test.true)

pub loop-i-preserved : goal.loop-i-preserved
loop-i-preserved g c =
    let x = c.requires.stands in
    let w = c.loop-i.invariant.written in
    let hit = g.R.Hits.hit c.args.how.now in
    let stands = g.R.Hits.stands c.args.how.now in
    let keys_at = g.R.Hits.keys_at c.args.how.now in
    let e = c.retire_key.ensures in
    let low : c.loop-i.i < length (node_at c.args.image.now.bytes c.args.kind c.args.at).keys
    = let n = keys_count c.args.image.now.bytes c.args.kind c.args.at in omega (arith, n, c.loop-i.invariant.end, c.loop-i-test.true) in
    record {
      end = c.loop-i.invariant.end;
      written = (
        _,
        key_more hit stands keys_at x.0 c.args.image.now c.args.kind x.1 x.2 x.3 x.4 x.5 c.loop-i.image c.args.level c.args.at x.6 w.0 w.2 c.loop-i.i low w.1 c.retire_key.new.image e.0 e.1 e.2,
        key_written hit stands keys_at x.0 c.args.image.now c.args.kind x.1 x.2 x.3 x.4 x.5 c.loop-i.image c.args.level c.args.at x.6 w.0 w.2 c.loop-i.i low w.1 c.retire_key.new.image e.0 e.1 e.2,
      );
    }

pub returns-after-loop-i : goal.returns-after-loop-i
returns-after-loop-i g c =
    let V = node_at c.args.image.now.bytes c.args.kind in
    let w = c.loop-i.invariant.written in
    let lists = map (keys_below V (g.R.Hits.keys_at c.args.how.now c.args.image.now.bytes) c.args.level) (V c.args.at).children in
    let n = keys_count c.args.image.now.bytes c.args.kind c.args.at in
    let all : c.loop-i.i ≡ length (V c.args.at).keys = omega (arith, n, c.loop-i.invariant.end, c.loop-i-test.false, c.loop-i.auto.i-end) in
    let long = length-map (V c.args.at).children (keys_below V (g.R.Hits.keys_at c.args.how.now c.args.image.now.bytes) c.args.level) in (
      w.0,
      partly_all (g.R.Hits.hit c.args.how.now) lists (V c.args.at).keys w.0 (omega (arith, n, long))
          (subst (ArePartly (g.R.Hits.hit c.args.how.now) lists (V c.args.at).keys w.0) all w.1),
      w.2,
    )

pub returns-else-has_hit : goal.returns-else-has_hit
returns-else-has_hit g c =
    let V = node_at c.args.image.now.bytes c.args.kind in
    let hit = g.R.Hits.hit c.args.how.now in
    let stands = g.R.Hits.stands c.args.how.now in
    let keys_at = g.R.Hits.keys_at c.args.how.now in
    let lists = map (keys_below V (keys_at c.args.image.now.bytes) c.args.level) (V c.args.at).children in
    let is = there hit stands keys_at c.args.image.now c.args.kind c.args.level c.args.at c.requires.stands in
    let n = keys_count c.args.image.now.bytes c.args.kind c.args.at in
    let long = length-map (V c.args.at).children (keys_below V (keys_at c.args.image.now.bytes) c.args.level) in
    let none : list_any hit (V c.args.at).keys ≡ false
    = ap (λ (b : List ℕ). list_any hit (node_at b c.args.kind c.args.at).keys) (sym c.bytes.ensures) ∙ sym c.has_hit.ensures ∙ c.if-has_hit.false in (
      (V c.args.at).keys,
      none_retired hit lists (V c.args.at).keys (omega (arith, n, long)) none,
      rewritten_none c.args.image.now c.args.kind c.args.at is.1,
    )
