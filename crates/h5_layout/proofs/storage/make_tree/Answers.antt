use Rattle.std.proofs.Common.{◌≡◌, ℕ, zero, suc, ◌*◌, ◌≤◌, ◌||◌, Bool, true, false, List, length, take, refl, ap, ◌∙◌, subst, arith}
use Rattle.std.proofs.lemmas.Bool.Decides.{nat_tests}
use Rattle.std.specs.Prelude.{IfErr, Result, nat_le}
use Rattle.h5_model.specs.Format.Chunks.{Chunks}
use Rattle.h5_model.specs.Format.Reached.{Shape}
use Rattle.h5_model.specs.Format.Superblock.{chunk_k, k_values}
use Rattle.h5_model.proofs.KLaws.{same_chunk}
use Rattle.h5_space.specs.Space.{Space}
use Rattle.h5_space.proofs.RunEdits.{on_ok_then}
use Rattle.h5_chunks.specs.Bushy.{IsBushy, is_low_level}
use Rattle.h5_chunks.specs.Edited.{chunk_node_length, store_room}
use Rattle.h5_chunks.specs.InsertFaultType.{InsertFault}
use Rattle.h5_chunks.specs.Told.{chunks_told}
use Rattle.h5_layout.specs.NewTrees.{IsTreeNamed}
use Rattle.h5_layout.specs.Storage.{HasStoredMore, IsFullInNewTree, IsFullInTurn}
use Rattle.h5_chunks.proofs.BushyTrees.{bushy_empty, empty_level}
use Rattle.h5_layout.proofs.FilledLaws.{never_refused, store_room_same, then_at}
use Rattle.h5_layout.proofs.RoomChanged.{named_from}
use Rattle.h5_layout.proofs.storage.make_tree.Goals as goal
use Rattle.h5_layout.proofs.storage.make_tree.Goals.{After-store_all}

pub store_all-requires-clause-chunks : goal.store_all-requires-clause-chunks
store_all-requires-clause-chunks c = c.name_tree-root.ensures.named.stand

module _ (c : After-store_all) where
  abbrev s : Shape
  s = c.args.shape.now

  abbrev named : Space
  named = c.name_tree-root.new.image

  abbrev tree : IsTreeNamed c.reserve.new.self named c.args.messages.now s c.name_tree-root.result
  tree = c.name_tree-root.ensures.named

  -- all K values are those of the image
  same_k : k_values named.bytes ≡ k_values c.args.image.now.bytes
  same_k = tree.moved.k ∙ ap (λ (x : Space). k_values x.bytes) c.in_default.ensures.ok

  room_is : store_room named.bytes s ≡ store_room c.args.image.now.bytes s
  room_is = store_room_same c.args.image.now named s same_k

  -- the tree has no chunk, and so finds room for the first one
  first_fits : (all : List (List ℕ)) → IsFullInTurn named.bytes s c.name_tree-root.result all 0 → ⊥
  first_fits all full =
      let flat = empty_level named.bytes s c.name_tree-root.result tree.stand.read tree.none in
      let high = full.1.high in
      absurd (omega (arith, flat, high))

  in_new : (all : List (List ℕ)) (n : ℕ) → IsFullInTurn named.bytes s c.name_tree-root.result all n → IsFullInNewTree c.args.image.now.bytes s all n
  in_new all zero full = first_fits all full
  in_new all (suc n) (low, (now, stand, k, more, full)) =
      let added = subst (λ (chunks : Chunks). HasStoredMore chunks (chunks_told now.bytes s c.name_tree-root.result) (take (suc n) all)) tree.none more in
      (low, (now, c.name_tree-root.result, stand, k ∙ same_k, added, full))

  -- where one chunk at most comes in, or a root at level 0 is low, all find room
  no_turn : (all : List (List ℕ)) → (nat_le (length all) 1 || is_low_level (chunk_k c.args.image.now.bytes) 0) ≡ true → ((n : ℕ) × IsFullInTurn named.bytes s c.name_tree-root.result all n)
      → ((low : ℕ) → is_low_level (chunk_k named.bytes) low ≡ true → IsBushy named.bytes s c.name_tree-root.result low → ⊥) → ⊥
  no_turn all test turn low = by_few (nat_le (length all) 1) refl test where
    by_turn : (n : ℕ) → IsFullInTurn named.bytes s c.name_tree-root.result all n → length all ≤ 1 → ⊥
    by_turn zero full few = first_fits all full
    by_turn (suc n) full few = omega (arith, full.0, few)

    by_few : (b : Bool) → nat_le (length all) 1 ≡ b → (b || is_low_level (chunk_k c.args.image.now.bytes) 0) ≡ true → ⊥
    by_few true few passes = by_turn turn.0 turn.1 (let most : length all ≤ 1 = grind (arith, nat_tests, few) in most)
    by_few false many passes =
        low 0 (ap (λ k. is_low_level k 0) (same_chunk named.bytes c.args.image.now.bytes same_k) ∙ passes)
        (bushy_empty named.bytes s c.name_tree-root.result tree.stand.read tree.none 0)

pub returns-clause-made : goal.returns-clause-made
returns-clause-made c =
    let d = (goal.at.returns-clause-made c).After-store_all in
    then_at c.store_all.result c.store_all.ensures.stored c.store_all.ensures.first (λ filled at first. record {
      named = named d;
      root = c.name_tree-root.result;
      tree = named_from c.args.image.now _ _ (named d) c.args.messages.now (s d) c.name_tree-root.result
          (subst (λ (x : Space). IsTreeNamed x (named d) c.args.messages.now (s d) c.name_tree-root.result) c.in_default.ensures.ok (tree d));
      filled = filled;
      first = first;
    })

pub returns-clause-spends : goal.returns-clause-spends
returns-clause-spends c =
    let d = (goal.at.returns-clause-spends c).After-store_all in
    on_ok_then c.store_all.result c.store_all.ensures.spends (λ spent.
    let first = c.name_tree-root.ensures.spends.grown in
    let second = spent.grown in
    let same = ap (λ (x : Space). length x.bytes) c.in_default.ensures.ok in
    let node = ap (λ (x : Space). chunk_node_length x.bytes c.args.shape.now) c.in_default.ensures.ok in
    let room = ap (λ n. length c.args.new.now.offsets * n) (room_is d) in
    omega (arith, first, second, same, node, room))

pub returns-clause-deep : goal.returns-clause-deep
returns-clause-deep c is =
    let d = (goal.at.returns-clause-deep c).After-store_all in
    let all = c.args.new.now.offsets in
    let turn = subst (λ (r : Result ℕ InsertFault). IfErr r (λ fault. (n : ℕ) × IsFullInTurn (named d).bytes (s d) c.name_tree-root.result all n)) is c.store_all.ensures.turn in
    (turn.0, in_new d all turn.0 turn.1)

pub returns-clause-refused : goal.returns-clause-refused
returns-clause-refused c test =
    let d = (goal.at.returns-clause-refused c).After-store_all in
    never_refused (c.store_all.new.image ≡ c.args.image.now) c.store_all.result c.store_all.ensures.turn c.store_all.ensures.low (no_turn d c.args.new.now.offsets test)
