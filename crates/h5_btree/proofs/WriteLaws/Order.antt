-- Where what stands at the children of a row forms a ladder, each of its nodes is ordered, and its nodes form one as children of the row
-- above.
use Rattle.std.proofs.Common.{◌≡◌, ℕ, zero, suc, ◌+◌, List, [], ◌∷◌, ◌++◌, length, map, refl, sym, ap, ◌∙◌, subst}
use Rattle.std.specs.List.{AllByRecursion, flat_map}
use Rattle.std.proofs.lemmas.List.{length-map}
use Rattle.h5_model.specs.Format.Nodes.{Kind, node_length}
use Rattle.h5_model.specs.Format.Rows.{Node, Reading}
use Rattle.h5_laws.specs.Ladders.{Bottom, IsLadder, IsOrderedBy, LieBetween, Sides, all_of, items_under, last_key, lists_below, IsOrderly}
use Rattle.h5_laws.proofs.LadderRows.{IsGathered, IsRowLadder, gathered}
use Rattle.h5_laws.proofs.LadderTrees.{all-map, all_lists, ladder_ordered}
use Rattle.h5_btree.specs.Writing.Laws.{IsBeside, lists_beside}
use Rattle.h5_btree.specs.Writing.Written.{as_children, keys_of, last_below, places_of, right_of}
use Rattle.h5_btree.specs.declared.write.child.Child.{Child}
use Rattle.h5_btree.proofs.WriteLaws.NodeReads.{one_more}
use Rattle.h5_btree.proofs.WriteLaws.RowReads.{AreRead, addresses, node_over}

-- ---- children with the key before each

module _ {K : Type 0} where
  abbrev pub with_keys : K → List (Child K) → List (K × Child K)
  with_keys before [] = []
  with_keys before (x ∷ c) = (before, x) ∷ with_keys x.key c

  with_keys-append : (before : K) (c more : List (Child K)) → with_keys before (c ++ more) ≡ with_keys before c ++ with_keys (last_below before c) more
  with_keys-append before [] more = refl
  with_keys-append before (x ∷ c) more = ap (λ (rest : List (K × Child K)). (before, x) ∷ rest) (with_keys-append x.key c more)

  module _ (bytes : K → List ℕ) where
    -- the key behind a child
    abbrev pub key_behind : K × Child K → List ℕ
    key_behind p = bytes (p.1).key

    keys_behind : (before : K) (c : List (Child K)) → map key_behind (with_keys before c) ≡ map (λ (x : Child K). bytes x.key) c
    keys_behind before [] = refl
    keys_behind before (x ∷ c) = ap (λ (ks : List (List ℕ)). bytes x.key ∷ ks) (keys_behind x.key c)

    last_behind : (before : K) (c : List (Child K)) → last_key key_behind (bytes before) (with_keys before c) ≡ bytes (last_below before c)
    last_behind before [] = refl
    last_behind before (x ∷ c) = last_behind x.key c

module _ {K X : Type 0} (kind : Kind) (bytes : K → List ℕ) (V : Reading) (sides : Sides (List ℕ) X) (orderly : IsOrderly sides)
    (beside : List ℕ → ℕ → List X) (bottom : Bottom X) (is_beside : IsBeside beside bottom) where
  -- what stands below a child of a node of this level
  abbrev pub beneath : ℕ → K × Child K → List X
  beneath zero p = beside (bytes p.0) (p.1).at
  beneath (suc level) p = items_under V bottom level (p.1).at

  -- it forms a ladder, with the key before these children and the one behind each
  abbrev pub AreOrderedUnder : ℕ → K → List (Child K) → Type 0
  AreOrderedUnder level before c = IsRowLadder sides (key_behind bytes) (beneath level) (bytes before) (with_keys before c)

  beneath_all : (before : K) (c : List (Child K)) → map (beneath 0) (with_keys before c) ≡ lists_beside beside (keys_of bytes before c) (places_of c)
  beneath_all before [] = refl
  beneath_all before (x ∷ c) = ap (λ (lists : List (List X)). beside (bytes before) x.at ∷ lists) (beneath_all x.key c)

  beneath_places : (level : ℕ) (before : K) (c : List (Child K)) → map (beneath (suc level)) (with_keys before c) ≡ map (items_under V bottom level) (places_of c)
  beneath_places level before [] = refl
  beneath_places level before (x ∷ c) = ap (λ (lists : List (List X)). items_under V bottom level x.at ∷ lists) (beneath_places level x.key c)

  -- at the bottom these are the lists beside their keys
  pub ordered_at_bottom : (before : K) (c : List (Child K)) → IsLadder sides (keys_of bytes before c) (lists_beside beside (keys_of bytes before c) (places_of c))
      → AreOrderedUnder 0 before c
  ordered_at_bottom before c are =
      subst (λ (ks : List (List ℕ)). IsLadder sides (bytes before ∷ ks) (map (beneath 0) (with_keys before c))) (sym (keys_behind bytes before c))
      (subst (IsLadder sides (keys_of bytes before c)) (sym (beneath_all before c)) are)

  -- the lists of a node over children
  lists_are : (level left right : ℕ) (before : K) (c : List (Child K))
      → map (beneath level) (with_keys before c) ≡ lists_below V bottom level (node_over kind bytes level left right before c)
  lists_are zero left right before c = beneath_all before c ∙ sym (is_beside (node_over kind bytes zero left right before c) (one_more bytes before c))
  lists_are (suc level) left right before c = beneath_places level before c

  with_keys_long : (before : K) (c : List (Child K)) → length (with_keys before c) ≡ length c
  with_keys_long before [] = refl
  with_keys_long before (x ∷ c) = ap suc (with_keys_long x.key c)

  lists_long : (level left right : ℕ) (before : K) (c : List (Child K))
      → length (lists_below V bottom level (node_over kind bytes level left right before c)) ≡ length (places_of c)
  lists_long level left right before c =
      ap length (sym (lists_are level left right before c)) ∙ length-map (with_keys before c) (beneath level) ∙ with_keys_long before c
      ∙ sym (length-map c (λ (x : Child K). x.at))

  -- a node over such children is ordered
  node_ordered : (level left right : ℕ) (before : K) (c : List (Child K)) → AreOrderedUnder level before c
      → IsOrderedBy sides V bottom (node_over kind bytes level left right before c)
  node_ordered level left right before c are =
      let node : Node = node_over kind bytes level left right before c in
      ladder_ordered V bottom sides node (lists_long level left right before c)
      (subst (λ (ks : List (List ℕ)). IsLadder sides (bytes before ∷ ks) (lists_below V bottom level node)) (keys_behind bytes before c)
      (subst (IsLadder sides (bytes before ∷ map (key_behind bytes) (with_keys before c))) (lists_are level left right before c) are))

  module _ (level : ℕ) where
    -- some children of a row, and those behind them
    record IsSplit (before : K) (c more : List (Child K)) : Type 0 where
      lie : LieBetween sides (bytes before) (bytes (last_below before c)) (flat_map (beneath level) (with_keys before c))
      rise : sides.Rise (bytes before) (bytes (last_below before c))
      here : AreOrderedUnder level before c
      behind : AreOrderedUnder level (last_below before c) more

    parts : (before : K) (c more : List (Child K)) → AreOrderedUnder level before (c ++ more) → IsSplit before c more
    parts before c more are =
        let all : IsGathered sides orderly (key_behind bytes) (beneath level) (bytes before) (with_keys before c) (with_keys (last_below before c) more)
        = gathered sides orderly (key_behind bytes) (beneath level) (bytes before) (with_keys before c) (with_keys (last_below before c) more)
        (subst (IsRowLadder sides (key_behind bytes) (beneath level) (bytes before)) (with_keys-append before c more) are) in
        let last = last_behind bytes before c in
        record {
          lie = subst (λ (k : List ℕ). LieBetween sides (bytes before) k (flat_map (beneath level) (with_keys before c))) last all.lie;
          rise = subst (sides.Rise (bytes before)) last all.rise;
          here = all.here;
          behind = subst (λ (k : List ℕ). IsRowLadder sides (key_behind bytes) (beneath level) k (with_keys (last_below before c) more)) last all.behind;
        }

    -- the nodes of a row as children
    pub raised_ordered : (left : ℕ) (before : K) (at : ℕ) (cs : List (List (Child K))) → AreRead kind bytes V level left before at cs
        → AreOrderedUnder level before (flat_map (λ (c : List (Child K)). c) cs) → AreOrderedUnder (suc level) before (as_children kind at before cs)
    raised_ordered left before at [] read are = tt
    raised_ordered left before at (c ∷ cs) read are =
        let all = parts before c (flat_map (λ (d : List (Child K)). d) cs) are in
        let below : flat_map (beneath level) (with_keys before c) ≡ items_under V bottom level at
        = sym (all-map (beneath level) (with_keys before c))
        ∙ ap (λ (lists : List (List X)). all_of lists) (lists_are level left (right_of kind at cs) before c)
        ∙ ap (λ (n : Node). all_of (lists_below V bottom level n)) (sym read.0) ∙ all_lists V bottom level at in (
          subst (LieBetween sides (bytes before) (bytes (last_below before c))) below all.lie,
          all.rise,
          raised_ordered at (last_below before c) (at + node_length kind) cs read.1 all.behind,
        )

    pub row_ordered : (left : ℕ) (before : K) (at : ℕ) (cs : List (List (Child K))) → AreRead kind bytes V level left before at cs
        → AreOrderedUnder level before (flat_map (λ (c : List (Child K)). c) cs)
        → AllByRecursion (λ n. IsOrderedBy sides V bottom (V n)) (addresses (node_length kind) at (length cs))
    row_ordered left before at [] read ordered = tt
    row_ordered left before at (c ∷ cs) read ordered =
        let all = parts before c (flat_map (λ (d : List (Child K)). d) cs) ordered in (
          subst (IsOrderedBy sides V bottom) (sym read.0) (node_ordered level left (right_of kind at cs) before c all.here),
          row_ordered at (last_below before c) (at + node_length kind) cs read.1 all.behind,
        )
