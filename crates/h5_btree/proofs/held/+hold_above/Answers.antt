use Rattle.std.proofs.Common.{◌≡◌, ℕ, suc, ◌+◌, ◌*◌, ◌≤◌, List, [], ◌++◌, length, take, drop, Some, refl, sym, ap, ◌∙◌, subst, arith}
use Rattle.std.specs.Prelude.{slice_get, slice_index_or}
use Rattle.std.specs.List.{AllByRecursion, insert}
use Rattle.std.proofs.lemmas.List.{length-take, take_at, drop_at}
use Rattle.std.proofs.lemmas.Option.{get_or_from_slice_get}
use Rattle.h5_model.specs.Format.Rows.{Node}
use Rattle.h5_model.specs.Format.Nodes.{node_at, node_bytes}
use Rattle.h5_btree.specs.Held.{AreHeldKeys, IsStepThere, held_key, key_between}
use Rattle.h5_btree.specs.Insertion.{left_count}
use Rattle.h5_btree.specs.declared.way.Step.{Step}
use Rattle.h5_btree.proofs.NodeLaws.{length-children, length-keys}
use Rattle.h5_btree.proofs.HalfLists.{left_bounds}
use Rattle.h5_btree.proofs.RaiseCalls.{key_long}
use Rattle.h5_btree.proofs.HeldKeys.{long_keys, between_long, held_long}
use Rattle.h5_btree.proofs.held.+hold_above.Goals as goal

pub key-low-requires : goal.key-low-requires
key-low-requires g t c =
    let cut = c.in-Some.ensures.cases.0 in
    let above = subst (AllByRecursion (IsStepThere c.args.image.now.bytes c.args.kind)) cut c.requires.above in
    let parent : c.node_there-parent.result ≡ node_at c.args.image.now.bytes c.args.kind c.in-Some.next.now.node
    = c.node_there-parent.ensures ∙ ap (λ (b : List ℕ). node_at b c.args.kind c.in-Some.next.now.node) c.bytes-2.ensures in
    let keys = length-keys c.args.kind (node_bytes c.args.image.now.bytes c.args.kind c.in-Some.next.now.node) (node_at c.args.image.now.bytes c.args.kind c.in-Some.next.now.node) refl in
    let same = ap (λ (n : Node). length n.keys) parent in
    let place = above.0.1 in
    omega (arith, keys, same, place)

pub key-high-requires : goal.key-high-requires
key-high-requires g t c =
    let cut = c.in-Some.ensures.cases.0 in
    let above = subst (AllByRecursion (IsStepThere c.args.image.now.bytes c.args.kind)) cut c.requires.above in
    let parent : c.node_there-parent.result ≡ node_at c.args.image.now.bytes c.args.kind c.in-Some.next.now.node
    = c.node_there-parent.ensures ∙ ap (λ (b : List ℕ). node_at b c.args.kind c.in-Some.next.now.node) c.bytes-2.ensures in
    let keys = length-keys c.args.kind (node_bytes c.args.image.now.bytes c.args.kind c.in-Some.next.now.node) (node_at c.args.image.now.bytes c.args.kind c.in-Some.next.now.node) refl in
    let same = ap (λ (n : Node). length n.keys) parent in
    let place = above.0.1 in
    omega (arith, keys, same, place)

pub between-requires-clause-full : goal.between-requires-clause-full
between-requires-clause-full g t c =
    let full : c.node_there-full.result ≡ node_at c.args.image.now.bytes c.args.kind c.args.node
    = c.node_there-full.ensures ∙ ap (λ (b : List ℕ). node_at b c.args.kind c.args.node) c.bytes.ensures in
    let count = length-children c.args.kind (node_bytes c.args.image.now.bytes c.args.kind c.args.node) (node_at c.args.image.now.bytes c.args.kind c.args.node) refl in
    let children = ap (λ (n : Node). length n.children) full in
    let roomy = c.requires.node.1.roomy in
    omega (arith, count, children, roomy, c.len.ensures.children, c.capacity.ensures.capacity, c.if-len-capacity.false)

pub between-requires-clause-keys : goal.between-requires-clause-keys
between-requires-clause-keys g t c =
    let full : c.node_there-full.result ≡ node_at c.args.image.now.bytes c.args.kind c.args.node
    = c.node_there-full.ensures ∙ ap (λ (b : List ℕ). node_at b c.args.kind c.args.node) c.bytes.ensures in
    let count = length-children c.args.kind (node_bytes c.args.image.now.bytes c.args.kind c.args.node) (node_at c.args.image.now.bytes c.args.kind c.args.node) refl in
    let children = ap (λ (n : Node). length n.children) full in
    let roomy = c.requires.node.1.roomy in
    omega (arith, count, children, roomy, c.len.ensures.children, c.len.ensures.keys, c.capacity.ensures.capacity, c.if-len-capacity.false)

pub held-key-requires-clause-low : goal.held-key-requires-clause-low
held-key-requires-clause-low g t c =
    let cut = c.in-Some.ensures.cases.0 in
    let above = subst (AllByRecursion (IsStepThere c.args.image.now.bytes c.args.kind)) cut c.requires.above in
    let parent : c.node_there-parent.result ≡ node_at c.args.image.now.bytes c.args.kind c.in-Some.next.now.node
    = c.node_there-parent.ensures ∙ ap (λ (b : List ℕ). node_at b c.args.kind c.in-Some.next.now.node) c.bytes-2.ensures in
    let low = key_long c.args.image.now.bytes c.args.kind c.in-Some.next.now.node c.in-Some.next.now.place c.key-low.result.now above.0.0.0 above.0.0.1
    (subst (λ (n : Node). slice_get n.keys c.in-Some.next.now.place ≡ Some c.key-low.result.now) parent c.key-low.ensures) in
    omega (arith, low)

pub held-key-requires-clause-high : goal.held-key-requires-clause-high
held-key-requires-clause-high g t c =
    let cut = c.in-Some.ensures.cases.0 in
    let above = subst (AllByRecursion (IsStepThere c.args.image.now.bytes c.args.kind)) cut c.requires.above in
    let parent : c.node_there-parent.result ≡ node_at c.args.image.now.bytes c.args.kind c.in-Some.next.now.node
    = c.node_there-parent.ensures ∙ ap (λ (b : List ℕ). node_at b c.args.kind c.in-Some.next.now.node) c.bytes-2.ensures in
    let high = key_long c.args.image.now.bytes c.args.kind c.in-Some.next.now.node (c.in-Some.next.now.place + 1) c.key-high.result.now above.0.0.0 above.0.0.1
    (subst (λ (n : Node). slice_get n.keys (c.in-Some.next.now.place + 1) ≡ Some c.key-high.result.now) parent c.key-high.ensures) in
    omega (arith, high)

pub held-key-requires-clause-key : goal.held-key-requires-clause-key
held-key-requires-clause-key g t c =
    let full : c.node_there-full.result ≡ node_at c.args.image.now.bytes c.args.kind c.args.node
    = c.node_there-full.ensures ∙ ap (λ (b : List ℕ). node_at b c.args.kind c.args.node) c.bytes.ensures in
    let count = length-children c.args.kind (node_bytes c.args.image.now.bytes c.args.kind c.args.node) (node_at c.args.image.now.bytes c.args.kind c.args.node) refl in
    let children = ap (λ (n : Node). length n.children) full in
    let roomy = c.requires.node.1.roomy in
    let keys_full = length-keys c.args.kind (node_bytes c.args.image.now.bytes c.args.kind c.args.node) (node_at c.args.image.now.bytes c.args.kind c.args.node) refl in
    let keys_same = ap (λ (n : Node). length n.keys) full in
    let bounds = left_bounds c.args.kind.k c.args.j in
    let all = subst (λ (n : Node). AllByRecursion (λ (k : List ℕ). length k ≡ c.args.kind.key_length) n.keys) (sym full) (long_keys c.args.image.now.bytes c.args.kind c.args.node c.requires.node) in
    let first : length c.split_at_mut-first.result.0.now ≡ c.args.kind.key_length = omega (arith, c.split_at_mut-first.ensures.front_len, c.key_length.ensures.length) in
    let key : length c.between.result.now ≡ c.args.kind.key_length
    = ap (λ (k : List ℕ). length k) c.between.ensures
    ∙ between_long c.node_there-full.result.keys c.args.j (left_count c.args.kind.k c.args.j) c.args.kind.key_length c.split_at_mut-first.result.0.now all first
    (omega (arith, c.len.ensures.keys, c.requires.place, count, children, c.len.ensures.children))
    (omega (arith, bounds, c.len.ensures.keys, c.capacity.ensures.capacity, c.if-len-capacity.false)) in
    omega (arith, key)

pub copy_from_slice-requires : goal.copy_from_slice-requires
copy_from_slice-requires g t c =
    let cut = c.in-Some.ensures.cases.0 in
    let above = subst (AllByRecursion (IsStepThere c.args.image.now.bytes c.args.kind)) cut c.requires.above in
    let parent : c.node_there-parent.result ≡ node_at c.args.image.now.bytes c.args.kind c.in-Some.next.now.node
    = c.node_there-parent.ensures ∙ ap (λ (b : List ℕ). node_at b c.args.kind c.in-Some.next.now.node) c.bytes-2.ensures in
    let low = key_long c.args.image.now.bytes c.args.kind c.in-Some.next.now.node c.in-Some.next.now.place c.key-low.result.now above.0.0.0 above.0.0.1
    (subst (λ (n : Node). slice_get n.keys c.in-Some.next.now.place ≡ Some c.key-low.result.now) parent c.key-low.ensures) in
    let high = key_long c.args.image.now.bytes c.args.kind c.in-Some.next.now.node (c.in-Some.next.now.place + 1) c.key-high.result.now above.0.0.0 above.0.0.1
    (subst (λ (n : Node). slice_get n.keys (c.in-Some.next.now.place + 1) ≡ Some c.key-high.result.now) parent c.key-high.ensures) in
    let full : c.node_there-full.result ≡ node_at c.args.image.now.bytes c.args.kind c.args.node
    = c.node_there-full.ensures ∙ ap (λ (b : List ℕ). node_at b c.args.kind c.args.node) c.bytes.ensures in
    let count = length-children c.args.kind (node_bytes c.args.image.now.bytes c.args.kind c.args.node) (node_at c.args.image.now.bytes c.args.kind c.args.node) refl in
    let children = ap (λ (n : Node). length n.children) full in
    let roomy = c.requires.node.1.roomy in
    let keys_full = length-keys c.args.kind (node_bytes c.args.image.now.bytes c.args.kind c.args.node) (node_at c.args.image.now.bytes c.args.kind c.args.node) refl in
    let keys_same = ap (λ (n : Node). length n.keys) full in
    let bounds = left_bounds c.args.kind.k c.args.j in
    let all = subst (λ (n : Node). AllByRecursion (λ (k : List ℕ). length k ≡ c.args.kind.key_length) n.keys) (sym full) (long_keys c.args.image.now.bytes c.args.kind c.args.node c.requires.node) in
    let first : length c.split_at_mut-first.result.0.now ≡ c.args.kind.key_length = omega (arith, c.split_at_mut-first.ensures.front_len, c.key_length.ensures.length) in
    let key : length c.between.result.now ≡ c.args.kind.key_length
    = ap (λ (k : List ℕ). length k) c.between.ensures
    ∙ between_long c.node_there-full.result.keys c.args.j (left_count c.args.kind.k c.args.j) c.args.kind.key_length c.split_at_mut-first.result.0.now all first
    (omega (arith, c.len.ensures.keys, c.requires.place, count, children, c.len.ensures.children))
    (omega (arith, bounds, c.len.ensures.keys, c.capacity.ensures.capacity, c.if-len-capacity.false)) in
    let held = ap (λ (k : List ℕ). length k) c.held-key.ensures
    ∙ held_long (g.F.Follows.follows c.args.follows.now) c.key-low.result.now c.between.result.now c.key-high.result.now c.args.kind.key_length low key high in
    let one : length c.args.above.now ≡ suc (length c.in-Some.higher.now) = ap (λ (ws : List Step). length ws) cut in
    let room = subst (λ (n : ℕ). (n + 1) * c.args.kind.key_length ≤ length c.args.keys.now) one c.requires.keys in
    let front = length-take c.key_length-2.result c.split_at_mut-first.result.1.now in
    omega (arith, front, held, room, c.split_at_mut-first.ensures.back_len, c.key_length.ensures.length, c.key_length-2.ensures.length)

pub returns-clause-held : goal.returns-clause-held
returns-clause-held g t c =
    let cut = c.in-Some.ensures.cases.0 in
    let above = subst (AllByRecursion (IsStepThere c.args.image.now.bytes c.args.kind)) cut c.requires.above in
    let parent : c.node_there-parent.result ≡ node_at c.args.image.now.bytes c.args.kind c.in-Some.next.now.node
    = c.node_there-parent.ensures ∙ ap (λ (b : List ℕ). node_at b c.args.kind c.in-Some.next.now.node) c.bytes-2.ensures in
    let low = key_long c.args.image.now.bytes c.args.kind c.in-Some.next.now.node c.in-Some.next.now.place c.key-low.result.now above.0.0.0 above.0.0.1
    (subst (λ (n : Node). slice_get n.keys c.in-Some.next.now.place ≡ Some c.key-low.result.now) parent c.key-low.ensures) in
    let high = key_long c.args.image.now.bytes c.args.kind c.in-Some.next.now.node (c.in-Some.next.now.place + 1) c.key-high.result.now above.0.0.0 above.0.0.1
    (subst (λ (n : Node). slice_get n.keys (c.in-Some.next.now.place + 1) ≡ Some c.key-high.result.now) parent c.key-high.ensures) in
    let full : c.node_there-full.result ≡ node_at c.args.image.now.bytes c.args.kind c.args.node
    = c.node_there-full.ensures ∙ ap (λ (b : List ℕ). node_at b c.args.kind c.args.node) c.bytes.ensures in
    let count = length-children c.args.kind (node_bytes c.args.image.now.bytes c.args.kind c.args.node) (node_at c.args.image.now.bytes c.args.kind c.args.node) refl in
    let children = ap (λ (n : Node). length n.children) full in
    let roomy = c.requires.node.1.roomy in
    let keys_full = length-keys c.args.kind (node_bytes c.args.image.now.bytes c.args.kind c.args.node) (node_at c.args.image.now.bytes c.args.kind c.args.node) refl in
    let keys_same = ap (λ (n : Node). length n.keys) full in
    let bounds = left_bounds c.args.kind.k c.args.j in
    let all = subst (λ (n : Node). AllByRecursion (λ (k : List ℕ). length k ≡ c.args.kind.key_length) n.keys) (sym full) (long_keys c.args.image.now.bytes c.args.kind c.args.node c.requires.node) in
    let first : length c.split_at_mut-first.result.0.now ≡ c.args.kind.key_length = omega (arith, c.split_at_mut-first.ensures.front_len, c.key_length.ensures.length) in
    let key : length c.between.result.now ≡ c.args.kind.key_length
    = ap (λ (k : List ℕ). length k) c.between.ensures
    ∙ between_long c.node_there-full.result.keys c.args.j (left_count c.args.kind.k c.args.j) c.args.kind.key_length c.split_at_mut-first.result.0.now all first
    (omega (arith, c.len.ensures.keys, c.requires.place, count, children, c.len.ensures.children))
    (omega (arith, bounds, c.len.ensures.keys, c.capacity.ensures.capacity, c.if-len-capacity.false)) in
    let held = ap (λ (k : List ℕ). length k) c.held-key.ensures
    ∙ held_long (g.F.Follows.follows c.args.follows.now) c.key-low.result.now c.between.result.now c.key-high.result.now c.args.kind.key_length low key high in
    let kl = c.args.kind.key_length in
    let front : List ℕ = c.split_at_mut-first.result.0.now in
    let made : List ℕ = c.hold_above.new.keys in
    let first_of : take kl (front ++ made) ≡ front = take_at front made kl first in
    let rest_of : drop kl (front ++ made) ≡ made = drop_at front made kl first in
    let kept : take kl made ≡ take kl (c.copy_from_slice.new.self ++ drop c.key_length-2.result c.split_at_mut-first.result.1.now) = c.hold_above.ensures.first in
    let copied : c.copy_from_slice.new.self ≡ c.held-key.result.now = c.copy_from_slice.ensures.after in
    let next_key : take kl made ≡ c.held-key.result.now
    = kept ∙ take_at c.copy_from_slice.new.self (drop c.key_length-2.result c.split_at_mut-first.result.1.now) kl (ap (λ (k : List ℕ). length k) copied ∙ held) ∙ copied in
    let l : List ℕ = slice_index_or (node_at c.args.image.now.bytes c.args.kind c.in-Some.next.now.node).keys c.in-Some.next.now.place [] in
    let h : List ℕ = slice_index_or (node_at c.args.image.now.bytes c.args.kind c.in-Some.next.now.node).keys (c.in-Some.next.now.place + 1) [] in
    let low_is : c.key-low.result.now ≡ l = sym (get_or_from_slice_get _ c.in-Some.next.now.place c.key-low.result.now []
    (subst (λ (n : Node). slice_get n.keys c.in-Some.next.now.place ≡ Some c.key-low.result.now) parent c.key-low.ensures)) in
    let high_is : c.key-high.result.now ≡ h = sym (get_or_from_slice_get _ (c.in-Some.next.now.place + 1) c.key-high.result.now []
    (subst (λ (n : Node). slice_get n.keys (c.in-Some.next.now.place + 1) ≡ Some c.key-high.result.now) parent c.key-high.ensures)) in
    let between_is : c.between.result.now ≡ key_between c.args.image.now.bytes c.args.kind c.args.node c.args.j (take kl (front ++ made))
    = c.between.ensures ∙ ap (λ (n : Node). slice_index_or (insert n.keys c.args.j front) (left_count c.args.kind.k c.args.j) []) full
    ∙ ap (λ (k : List ℕ). slice_index_or (insert (node_at c.args.image.now.bytes c.args.kind c.args.node).keys c.args.j k) (left_count c.args.kind.k c.args.j) []) (sym first_of) in
    subst (λ (ws : List Step). AreHeldKeys c.args.image.now.bytes c.args.kind (g.F.Follows.follows c.args.follows.now) c.args.node ws c.args.j (front ++ made)) (sym cut)
    (λ is_full. (
      ap (take kl) rest_of ∙ next_key ∙ c.held-key.ensures
          ∙ ap (λ (k : List ℕ). held_key (g.F.Follows.follows c.args.follows.now) k c.between.result.now c.key-high.result.now) low_is
          ∙ ap (λ (k : List ℕ). held_key (g.F.Follows.follows c.args.follows.now) l k c.key-high.result.now) between_is
          ∙ ap (λ (k : List ℕ). held_key (g.F.Follows.follows c.args.follows.now) l (key_between c.args.image.now.bytes c.args.kind c.args.node c.args.j (take kl (front ++ made))) k) high_is,
      subst (λ (ks : List ℕ). AreHeldKeys c.args.image.now.bytes c.args.kind (g.F.Follows.follows c.args.follows.now) c.in-Some.next.now.node c.in-Some.higher.now (c.in-Some.next.now.place + 1) ks) (sym rest_of) c.hold_above.ensures.held,
    ))
