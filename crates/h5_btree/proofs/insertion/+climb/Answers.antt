use Rattle.std.proofs.Common.{◌≡◌, ◌≢◌, inr, ℕ, suc, ◌+◌, ◌*◌, ◌^◌, ◌<◌, ◌≤◌, List, [], ◌∷◌, length, take, drop, refl, sym, ap, ◌∙◌, subst, arith, rules, add-one}
use Rattle.std.specs.List.{AllByRecursion}
use Rattle.std.proofs.lemmas.List.{nil_from_length}
use Rattle.h5_bytes.proofs.BlockLaws.{all_so}
use Rattle.h5_model.specs.Format.Rows.{Node}
use Rattle.h5_model.specs.Format.Nodes.{node_at, node_bytes, node_length}
use Rattle.h5_btree.specs.Insertion.{IsClimbing, IsFullWay, IsPutAlong, Owns}
use Rattle.h5_btree.specs.declared.way.Step.{Step}
use Rattle.h5_btree.proofs.NodeLaws.{length-children}
use Rattle.h5_btree.proofs.ClimbStands.{own_p, inside_p, form_p, entry_p}
use Rattle.h5_btree.proofs.InsertionEnds.{put_filled, at_root, put_back, may_raise, root_low, one_level, next_low, keys_left, bytes_left, short_left}
use Rattle.h5_btree.proofs.TreeReadings.{owns_more, owns_new}
use Rattle.h5_btree.proofs.InsertionAlong.{keeps_then, full_before, above_apart, above_keep, filled_others, comes_in, written_in, risen, halves_stay, along_before, stays}
use Rattle.h5_btree.proofs.insertion.+climb.Goals as goal

pub node_there-requires-clause-inside : goal.node_there-requires-clause-inside
node_there-requires-clause-inside t c =
    let h = c.requires.climbs in
    rw c.bytes.ensures (inside_p h.start c.args.image.now c.args.kind h.root h.level c.args.node c.args.above.now c.args.j c.args.child h.list h.owned h.own h.climbs)

pub node_there-requires-clause-form : goal.node_there-requires-clause-form
node_there-requires-clause-form t c =
    let h = c.requires.climbs in
    rw c.bytes.ensures (form_p h.start c.args.image.now c.args.kind h.root h.level c.args.node c.args.above.now c.args.j c.args.child h.list h.owned h.own h.climbs)

pub insert_child-requires-clause-inside : goal.insert_child-requires-clause-inside
insert_child-requires-clause-inside t c =
    let h = c.requires.climbs in
    inside_p h.start c.args.image.now c.args.kind h.root h.level c.args.node c.args.above.now c.args.j c.args.child h.list h.owned h.own h.climbs

pub insert_child-requires-clause-form : goal.insert_child-requires-clause-form
insert_child-requires-clause-form t c =
    let h = c.requires.climbs in
    form_p h.start c.args.image.now c.args.kind h.root h.level c.args.node c.args.above.now c.args.j c.args.child h.list h.owned h.own h.climbs

pub insert_child-requires-clause-place : goal.insert_child-requires-clause-place
insert_child-requires-clause-place t c =
    let h = c.requires.climbs in
    entry_p h.start c.args.image.now c.args.kind h.root h.level c.args.node c.args.above.now c.args.j c.args.child h.list h.owned h.own h.climbs

pub insert_child-requires-clause-room : goal.insert_child-requires-clause-room
insert_child-requires-clause-room t c =
    let is : c.node_there.result ≡ node_at c.args.image.now.bytes c.args.kind c.args.node
    = c.node_there.ensures ∙ ap (λ (b : List ℕ). node_at b c.args.kind c.args.node) c.bytes.ensures in
    let read = c.len.ensures.children ∙ ap (λ (n : Node). length n.children) is in
    let count = length-children c.args.kind (node_bytes c.args.image.now.bytes c.args.kind c.args.node) (node_at c.args.image.now.bytes c.args.kind c.args.node) refl in
    omega (arith, read, count, c.capacity.ensures.capacity, c.if-len-capacity.true)

pub returns-then-len-capacity-clause-put : goal.returns-then-len-capacity-clause-put
returns-then-len-capacity-clause-put t c = λ start root m list owned own s.
    put_filled start c.args.image.now c.insert_child.new.image c.args.kind root m c.args.node c.args.above.now c.args.j c.args.child _ list owned own s c.insert_child.ensures

pub raise-requires-clause-climbs : goal.raise-requires-clause-climbs
raise-requires-clause-climbs t c =
    let h = c.requires.climbs in
    let is : c.node_there.result ≡ node_at c.args.image.now.bytes c.args.kind c.args.node
    = c.node_there.ensures ∙ ap (λ (b : List ℕ). node_at b c.args.kind c.args.node) c.bytes.ensures in
    let read = c.len.ensures.children ∙ ap (λ (n : Node). length n.children) is in
    let count = length-children c.args.kind (node_bytes c.args.image.now.bytes c.args.kind c.args.node) (node_at c.args.image.now.bytes c.args.kind c.args.node) refl in
    let form = form_p h.start c.args.image.now c.args.kind h.root h.level c.args.node c.args.above.now c.args.j c.args.child h.list h.owned h.own h.climbs in
    let roomy = form.roomy in
    let full : length (node_at c.args.image.now.bytes c.args.kind c.args.node).children ≡ 2 * c.args.kind.k
    = omega (arith, read, count, c.capacity.ensures.capacity, c.if-len-capacity.false, roomy) in
    let none : c.args.above.now ≡ [] = nil_from_length c.args.above.now c.in_default.ensures.cases in
    may_raise c.args.image.now c.args.kind c.args.node c.args.above.now c.args.j c.args.child h none full

pub raise-requires-clause-full : goal.raise-requires-clause-full
raise-requires-clause-full t c =
    let h = c.requires.climbs in
    let is : c.node_there.result ≡ node_at c.args.image.now.bytes c.args.kind c.args.node
    = c.node_there.ensures ∙ ap (λ (b : List ℕ). node_at b c.args.kind c.args.node) c.bytes.ensures in
    let read = c.len.ensures.children ∙ ap (λ (n : Node). length n.children) is in
    let count = length-children c.args.kind (node_bytes c.args.image.now.bytes c.args.kind c.args.node) (node_at c.args.image.now.bytes c.args.kind c.args.node) refl in
    let form = form_p h.start c.args.image.now c.args.kind h.root h.level c.args.node c.args.above.now c.args.j c.args.child h.list h.owned h.own h.climbs in
    let roomy = form.roomy in
    let full : length (node_at c.args.image.now.bytes c.args.kind c.args.node).children ≡ 2 * c.args.kind.k
    = omega (arith, read, count, c.capacity.ensures.capacity, c.if-len-capacity.false, roomy) in
    omega (arith, full, count)

pub split-new-requires-clause-full : goal.split-new-requires-clause-full
split-new-requires-clause-full t c =
    let h = c.requires.climbs in
    let is : c.node_there.result ≡ node_at c.args.image.now.bytes c.args.kind c.args.node
    = c.node_there.ensures ∙ ap (λ (b : List ℕ). node_at b c.args.kind c.args.node) c.bytes.ensures in
    let read = c.len.ensures.children ∙ ap (λ (n : Node). length n.children) is in
    let count = length-children c.args.kind (node_bytes c.args.image.now.bytes c.args.kind c.args.node) (node_at c.args.image.now.bytes c.args.kind c.args.node) refl in
    let form = form_p h.start c.args.image.now c.args.kind h.root h.level c.args.node c.args.above.now c.args.j c.args.child h.list h.owned h.own h.climbs in
    let roomy = form.roomy in
    let full : length (node_at c.args.image.now.bytes c.args.kind c.args.node).children ≡ 2 * c.args.kind.k
    = omega (arith, read, count, c.capacity.ensures.capacity, c.if-len-capacity.false, roomy) in
    omega (arith, full, count)

pub returns-in_default-clause-put : goal.returns-in_default-clause-put
returns-in_default-clause-put t c = λ start root m list owned own s.
    let h = c.requires.climbs in
    let is : c.node_there.result ≡ node_at c.args.image.now.bytes c.args.kind c.args.node
    = c.node_there.ensures ∙ ap (λ (b : List ℕ). node_at b c.args.kind c.args.node) c.bytes.ensures in
    let read = c.len.ensures.children ∙ ap (λ (n : Node). length n.children) is in
    let count = length-children c.args.kind (node_bytes c.args.image.now.bytes c.args.kind c.args.node) (node_at c.args.image.now.bytes c.args.kind c.args.node) refl in
    let form = form_p h.start c.args.image.now c.args.kind h.root h.level c.args.node c.args.above.now c.args.j c.args.child h.list h.owned h.own h.climbs in
    let roomy = form.roomy in
    let full : length (node_at c.args.image.now.bytes c.args.kind c.args.node).children ≡ 2 * c.args.kind.k
    = omega (arith, read, count, c.capacity.ensures.capacity, c.if-len-capacity.false, roomy) in
    let none : c.args.above.now ≡ [] = nil_from_length c.args.above.now c.in_default.ensures.cases in
    let low = root_low c.args.image.now c.args.kind c.args.node c.args.above.now c.args.j c.args.child h none full in
    let same = one_level start h.start c.args.image.now c.args.kind root h.root m h.level c.args.node c.args.above.now c.args.above.now c.args.j c.args.child list owned own h.list h.owned h.own s h.climbs in
    let put = c.raise.ensures.put start m list owned own
    (at_root start c.args.image.now c.args.kind root m c.args.node c.args.above.now c.args.j c.args.child list owned own s none) (omega (arith, low, same)) in
    put_back start c.args.image.now c.args.kind root m c.args.node c.args.above.now c.args.j c.args.child list owned own s none c.raise.new.image (suc m, put.0, put.1)

pub overflow_add-next : goal.overflow_add-next
overflow_add-next t c =
    let h = c.requires.climbs in
    let low = next_low h.start c.args.image.now c.args.kind h.root h.level c.args.node c.in-Some.next.now c.in-Some.higher.now c.args.j c.args.child h.list h.owned h.own
    (subst (λ (ws : List Step). IsClimbing h.start c.args.image.now c.args.kind h.root h.level c.args.node ws c.args.j c.args.child h.list h.owned h.own) c.in-Some.ensures.cases.0 h.climbs) in
    omega (arith, low, c.capacity.ensures.capacity, c.capacity.ensures.most)

pub climb-requires : goal.climb-requires
climb-requires t c =
    let h = c.requires.climbs in
    let is : c.node_there.result ≡ node_at c.args.image.now.bytes c.args.kind c.args.node
    = c.node_there.ensures ∙ ap (λ (b : List ℕ). node_at b c.args.kind c.args.node) c.bytes.ensures in
    let read = c.len.ensures.children ∙ ap (λ (n : Node). length n.children) is in
    let count = length-children c.args.kind (node_bytes c.args.image.now.bytes c.args.kind c.args.node) (node_at c.args.image.now.bytes c.args.kind c.args.node) refl in
    let form = form_p h.start c.args.image.now c.args.kind h.root h.level c.args.node c.args.above.now c.args.j c.args.child h.list h.owned h.own h.climbs in
    let roomy = form.roomy in
    let full : length (node_at c.args.image.now.bytes c.args.kind c.args.node).children ≡ 2 * c.args.kind.k
    = omega (arith, read, count, c.capacity.ensures.capacity, c.if-len-capacity.false, roomy) in
    let cut = c.in-Some.ensures.cases.0 in
    let now = (subst (λ (ws : List Step). IsClimbing h.start c.args.image.now c.args.kind h.root h.level c.args.node ws c.args.j c.args.child h.list h.owned h.own) c.in-Some.ensures.cases.0 h.climbs) in
    let one : length c.args.above.now ≡ suc (length c.in-Some.higher.now) = ap (λ (ws : List Step). length ws) cut in
    let bytes = subst (λ (n : ℕ). (n + 2) * node_length c.args.kind ≤ c.args.image.now.room_bytes) one c.requires.bytes in
    let short = subst (λ (n : ℕ). length c.args.image.now.bytes + (n + 2) * node_length c.args.kind < 2 ^ 64) one c.requires.short in
    let long = subst (λ (n : ℕ). (n + 1) * c.args.kind.key_length ≤ length c.args.keys.now) one c.requires.keys in (
      search rules,
      (
        record {
          start = h.start;
          root = h.root;
          level = suc h.level;
          list = h.list;
          owned = h.owned;
          own = c.split-new.result ∷ h.own;
          climbs = subst (λ (n : ℕ). IsClimbing h.start c.split-new.new.image c.args.kind h.root (suc h.level) c.in-Some.next.now.node c.in-Some.higher.now n c.split-new.result h.list h.owned (c.split-new.result ∷ h.own))
              (sym (add-one c.in-Some.next.now.place))
              (c.split-new.ensures.on h.start h.root h.level c.in-Some.next.now c.in-Some.higher.now h.list h.owned h.own now);
          low = λ next_full higher_full.
              let stay = stays h.start c.args.image.now c.split-new.new.image c.args.kind h.root h.level c.args.node c.in-Some.next.now c.in-Some.higher.now c.args.j c.args.child h.list h.owned h.own c.split-new.result now
              (c.split-new.ensures.others h.start h.root h.level c.in-Some.next.now c.in-Some.higher.now h.list h.owned h.own now) in
              let before = full_before c.args.image.now.bytes c.split-new.new.image.bytes c.args.kind (c.in-Some.next.now ∷ c.in-Some.higher.now) stay (next_full, higher_full) in
              let low = h.low full (subst (IsFullWay c.args.image.now.bytes c.args.kind) (sym cut) before) in
              omega (arith, low, one);
        },
        (
          c.requires.some,
          (
            keys_left (length c.in-Some.higher.now) c.args.kind.key_length (length c.args.keys.now) (length c.split_at.result.0.now) (length c.split_at.result.1.now) long
                (omega (arith, c.split_at.ensures.front_len, c.key_length.ensures.length)) (omega (arith, c.split_at.ensures.front_len, c.split_at.ensures.back_len, c.key_length.ensures.length, c.requires.keys)),
            (
              bytes_left (length c.in-Some.higher.now) (node_length c.args.kind) c.args.image.now.room_bytes c.split-new.new.image.room_bytes bytes c.split-new.ensures.spends.bytes_left,
              (
                search rules,
                short_left (length c.in-Some.higher.now) (node_length c.args.kind) (length c.args.image.now.bytes) (length c.split-new.new.image.bytes) (2 ^ 64) short c.split-new.ensures.spends.grown,
              ),
            ),
          ),
        ),
      ),
    )

pub returns-clause-put : goal.returns-clause-put
returns-clause-put t c = λ start root m list owned own s.
    let now = (subst (λ (ws : List Step). IsClimbing start c.args.image.now c.args.kind root m c.args.node ws c.args.j c.args.child list owned own) c.in-Some.ensures.cases.0 s) in
    c.climb.ensures.put start root (suc m) list owned (c.split-new.result ∷ own)
    (subst (λ (n : ℕ). IsClimbing start c.split-new.new.image c.args.kind root (suc m) c.in-Some.next.now.node c.in-Some.higher.now n c.split-new.result list owned (c.split-new.result ∷ own))
    (sym (add-one c.in-Some.next.now.place))
    (c.split-new.ensures.on start root m c.in-Some.next.now c.in-Some.higher.now list owned own now))

pub returns-then-len-capacity-clause-along : goal.returns-then-len-capacity-clause-along
returns-then-len-capacity-clause-along t c =
    let h = c.requires.climbs in
    let is : c.node_there.result ≡ node_at c.args.image.now.bytes c.args.kind c.args.node
    = c.node_there.ensures ∙ ap (λ (b : List ℕ). node_at b c.args.kind c.args.node) c.bytes.ensures in
    let read = c.len.ensures.children ∙ ap (λ (n : Node). length n.children) is in
    let count = length-children c.args.kind (node_bytes c.args.image.now.bytes c.args.kind c.args.node) (node_at c.args.image.now.bytes c.args.kind c.args.node) refl in
    let first : c.split_at.result.0.now ≡ take c.args.kind.key_length c.args.keys.now
    = c.split_at.ensures.front ∙ ap (λ (n : ℕ). take n c.args.keys.now) c.key_length.ensures.length in
    comes_in c.args.image.now.bytes c.insert_child.new.image.bytes c.args.kind c.args.node c.args.above.now c.args.j c.args.keys.now c.args.child
    (written_in c.args.image.now c.insert_child.new.image c.args.kind c.args.node c.args.j c.split_at.result.0.now c.args.keys.now c.args.child
    (omega (arith, read, c.capacity.ensures.capacity, c.if-len-capacity.true)) first c.insert_child.ensures)
    (above_keep h.start c.args.image.now c.insert_child.new.image c.args.kind h.root h.level c.args.node c.args.above.now c.args.j c.args.child h.list h.owned h.own _ h.climbs c.insert_child.ensures)

pub returns-then-len-capacity-clause-others : goal.returns-then-len-capacity-clause-others
returns-then-len-capacity-clause-others t c = λ start root m list owned own s n listed other above.
    filled_others start c.args.image.now c.insert_child.new.image c.args.kind root m c.args.node c.args.above.now c.args.j c.args.child list owned own _ s c.insert_child.ensures n listed other

pub returns-in_default-clause-along : goal.returns-in_default-clause-along
returns-in_default-clause-along t c =
    let h = c.requires.climbs in
    let is : c.node_there.result ≡ node_at c.args.image.now.bytes c.args.kind c.args.node
    = c.node_there.ensures ∙ ap (λ (b : List ℕ). node_at b c.args.kind c.args.node) c.bytes.ensures in
    let read = c.len.ensures.children ∙ ap (λ (n : Node). length n.children) is in
    let count = length-children c.args.kind (node_bytes c.args.image.now.bytes c.args.kind c.args.node) (node_at c.args.image.now.bytes c.args.kind c.args.node) refl in
    let form = form_p h.start c.args.image.now c.args.kind h.root h.level c.args.node c.args.above.now c.args.j c.args.child h.list h.owned h.own h.climbs in
    let roomy = form.roomy in
    let full : length (node_at c.args.image.now.bytes c.args.kind c.args.node).children ≡ 2 * c.args.kind.k
    = omega (arith, read, count, c.capacity.ensures.capacity, c.if-len-capacity.false, roomy) in
    let first : c.split_at.result.0.now ≡ take c.args.kind.key_length c.args.keys.now
    = c.split_at.ensures.front ∙ ap (λ (n : ℕ). take n c.args.keys.now) c.key_length.ensures.length in
    let none : c.args.above.now ≡ [] = nil_from_length c.args.above.now c.in_default.ensures.cases in
    let r = c.raise.ensures.raised in
    subst (λ (ws : List Step). IsPutAlong c.args.image.now.bytes c.raise.new.image.bytes c.args.kind c.args.node ws c.args.j c.args.keys.now c.args.child) (sym none)
    (inr (full, (r.0, r.1, risen c.args.image.now.bytes c.raise.new.image.bytes c.args.kind c.args.node c.args.j c.split_at.result.0.now (take c.args.kind.key_length c.args.keys.now) c.args.child r.0 r.1 first r.2)))

pub returns-in_default-clause-others : goal.returns-in_default-clause-others
returns-in_default-clause-others t c = λ start root m list owned own s n listed other above.
    let none : c.args.above.now ≡ [] = nil_from_length c.args.above.now c.in_default.ensures.cases in
    c.raise.ensures.others start m list owned own
    (at_root start c.args.image.now c.args.kind root m c.args.node c.args.above.now c.args.j c.args.child list owned own s none) n listed other

pub returns-clause-others : goal.returns-clause-others
returns-clause-others t c = λ start root m list owned own s n listed other above.
    let now = (subst (λ (ws : List Step). IsClimbing start c.args.image.now c.args.kind root m c.args.node ws c.args.j c.args.child list owned own) c.in-Some.ensures.cases.0 s) in
    let cut_above = subst (AllByRecursion (λ (step : Step). n ≢ step.node)) c.in-Some.ensures.cases.0 above in
    let next = (subst (λ (n : ℕ). IsClimbing start c.split-new.new.image c.args.kind root (suc m) c.in-Some.next.now.node c.in-Some.higher.now n c.split-new.result list owned (c.split-new.result ∷ own))
    (sym (add-one c.in-Some.next.now.place)) (c.split-new.ensures.on start root m c.in-Some.next.now c.in-Some.higher.now list owned own now)) in
    keeps_then c.args.image.now.bytes c.split-new.new.image.bytes c.climb.new.image.bytes c.args.kind n
    ((c.split-new.ensures.others start root m c.in-Some.next.now c.in-Some.higher.now list owned own now n listed).1 other)
    (c.climb.ensures.others start root (suc m) list owned (c.split-new.result ∷ own) next n (owns_more c.split-new.result n own listed) cut_above.0 cut_above.1)

pub returns-clause-along : goal.returns-clause-along
returns-clause-along t c =
    let h = c.requires.climbs in
    let is : c.node_there.result ≡ node_at c.args.image.now.bytes c.args.kind c.args.node
    = c.node_there.ensures ∙ ap (λ (b : List ℕ). node_at b c.args.kind c.args.node) c.bytes.ensures in
    let read = c.len.ensures.children ∙ ap (λ (n : Node). length n.children) is in
    let count = length-children c.args.kind (node_bytes c.args.image.now.bytes c.args.kind c.args.node) (node_at c.args.image.now.bytes c.args.kind c.args.node) refl in
    let form = form_p h.start c.args.image.now c.args.kind h.root h.level c.args.node c.args.above.now c.args.j c.args.child h.list h.owned h.own h.climbs in
    let roomy = form.roomy in
    let full : length (node_at c.args.image.now.bytes c.args.kind c.args.node).children ≡ 2 * c.args.kind.k
    = omega (arith, read, count, c.capacity.ensures.capacity, c.if-len-capacity.false, roomy) in
    let first : c.split_at.result.0.now ≡ take c.args.kind.key_length c.args.keys.now
    = c.split_at.ensures.front ∙ ap (λ (n : ℕ). take n c.args.keys.now) c.key_length.ensures.length in
    let back : c.split_at.result.1.now ≡ drop c.args.kind.key_length c.args.keys.now
    = c.split_at.ensures.back ∙ ap (λ (n : ℕ). drop n c.args.keys.now) c.key_length.ensures.length in
    let now = (subst (λ (ws : List Step). IsClimbing h.start c.args.image.now c.args.kind h.root h.level c.args.node ws c.args.j c.args.child h.list h.owned h.own) c.in-Some.ensures.cases.0 h.climbs) in
    let next = (subst (λ (n : ℕ). IsClimbing h.start c.split-new.new.image c.args.kind h.root (suc h.level) c.in-Some.next.now.node c.in-Some.higher.now n c.split-new.result h.list h.owned (c.split-new.result ∷ h.own))
    (sym (add-one c.in-Some.next.now.place)) (c.split-new.ensures.on h.start h.root h.level c.in-Some.next.now c.in-Some.higher.now h.list h.owned h.own now)) in
    let others = c.split-new.ensures.others h.start h.root h.level c.in-Some.next.now c.in-Some.higher.now h.list h.owned h.own now in
    let apart = above_apart h.start c.args.image.now c.args.kind h.root h.level c.args.node (c.in-Some.next.now ∷ c.in-Some.higher.now) c.args.j c.args.child h.list h.owned h.own now in
    let stay = stays h.start c.args.image.now c.split-new.new.image c.args.kind h.root h.level c.args.node c.in-Some.next.now c.in-Some.higher.now c.args.j c.args.child h.list h.owned h.own c.split-new.result now others in
    let mine = own_p h.start c.args.image.now c.args.kind h.root h.level c.args.node c.args.above.now c.args.j c.args.child h.list h.owned h.own h.climbs in
    let not_p = all_so (λ (step : Step). Owns h.own step.node × (step.node ≢ c.args.node)) (λ (step : Step). c.args.node ≢ step.node) (c.in-Some.next.now ∷ c.in-Some.higher.now) (λ step known e. known.1 (sym e)) apart in
    let not_q = all_so (λ (step : Step). Owns h.own step.node × (step.node ≢ c.args.node)) (λ (step : Step). c.split-new.result ≢ step.node) (c.in-Some.next.now ∷ c.in-Some.higher.now) (λ step known e. (others step.node known.0).0 (sym e)) apart in
    let keep_p = c.climb.ensures.others h.start h.root (suc h.level) h.list h.owned (c.split-new.result ∷ h.own) next c.args.node (owns_more c.split-new.result c.args.node h.own mine) not_p.0 not_p.1 in
    let keep_q = c.climb.ensures.others h.start h.root (suc h.level) h.list h.owned (c.split-new.result ∷ h.own) next c.split-new.result (owns_new c.split-new.result h.own) not_q.0 not_q.1 in
    subst (λ (ws : List Step). IsPutAlong c.args.image.now.bytes c.climb.new.image.bytes c.args.kind c.args.node ws c.args.j c.args.keys.now c.args.child) (sym c.in-Some.ensures.cases.0)
    (inr (
      full,
      (
        c.split-new.result,
        halves_stay c.args.image.now.bytes c.split-new.new.image.bytes c.climb.new.image.bytes c.args.kind c.args.node c.args.j c.split_at.result.0.now (take c.args.kind.key_length c.args.keys.now) c.args.child c.split-new.result
            first c.split-new.ensures.halves keep_p keep_q,
        along_before c.args.image.now.bytes c.split-new.new.image.bytes c.climb.new.image.bytes c.args.kind c.in-Some.next.now.node c.in-Some.higher.now (c.in-Some.next.now.place + 1) (drop c.args.kind.key_length c.args.keys.now)
            c.split-new.result stay.0 stay.1
            (subst (λ (ks : List ℕ). IsPutAlong c.split-new.new.image.bytes c.climb.new.image.bytes c.args.kind c.in-Some.next.now.node c.in-Some.higher.now (c.in-Some.next.now.place + 1) ks c.split-new.result) back c.climb.ensures.along),
      ),
    ))
