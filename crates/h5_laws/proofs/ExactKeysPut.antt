-- One node with exact keys into which an item goes: the keys before and behind the child on the way, and the last key of a node.
use Rattle.std.proofs.Common.{◌≡◌, ℕ, zero, suc, ◌≤◌, ◌⊎◌, inl, inr, Bool, true, false, List, [], ◌∷◌, ◌++◌, length, refl, sym, ap, ◌∙◌, subst, arith}
use Rattle.std.specs.Prelude.{Option, Some, if◌then◌else◌, nat_le}
use Rattle.std.specs.List.{flat_map, AllByRecursion}
use Rattle.std.proofs.Math.Nat.{mul-le-mul_right}
use Rattle.h5_bytes.proofs.BlockLaws.{all_right, all_so}
use Rattle.h5_laws.specs.Ladders.{Sides, IsOrderly}
use Rattle.h5_laws.specs.KeyTrees.{KeyTree, items_in}
use Rattle.h5_laws.specs.KeyEdits.{IsPut}
use Rattle.h5_laws.specs.ExactKeys.{IsBehind}
use Rattle.h5_laws.specs.ExactWays.{AreAround}
use Rattle.h5_laws.proofs.KeyDepth.{IsBushy, bushy_items, least, most}
use Rattle.h5_laws.proofs.KeyLadders.{Ladder, first_last}
use Rattle.h5_laws.proofs.ExactKeysLast.{IsLast, last_behind, last_front, last_of_two, none_left}
use Rattle.h5_laws.proofs.ExactKeysRows.{IsChild}
use Rattle.h5_laws.proofs.ExactKeysWays.{IsChildFor}

-- What is asked of the order: each item is to the left of its own key and of those of items behind it, and to the right of those of items
-- before it; and a key that lets an item in to its left may follow the item's own.
pub record HasOwnKeys {K X : Type 0} (sides : Sides K X) (Below : X → X → Type 0) (key_of : X → K) : Type 0 where
  pub own : (y : X) → sides.Left y (key_of y)
  pub under : (y z : X) → Below y z → sides.Left y (key_of z)
  pub over : (y z : X) → Below y z → sides.Right (key_of y) z
  pub up_to : (y : X) (k : K) → sides.Left y k → sides.Rise (key_of y) k

pub all_last : {X : Type 0} (P : X → Type 0) (xs : List X) (y : X) → AllByRecursion P xs → IsLast xs y → P y
all_last P xs y all last = (all_right P last.0 (y ∷ []) (subst (AllByRecursion P) last.1 all)).0

-- something stands below each of these
abbrev pub AreFilled : {X Y : Type 0} → (Y → List X) → List Y → Type 0
AreFilled N cs = AllByRecursion (λ c. N c ≡ [] → ⊥) cs

pub some_filled : {X Y : Type 0} (N : Y → List X) (cs : List Y) → 1 ≤ length cs → AreFilled N cs → flat_map N cs ≡ [] → ⊥
some_filled N [] long filled none = omega (arith, long)
some_filled N (c ∷ cs) long filled none = filled.0 (none_left (N c) (flat_map N cs) none)

-- and below each node of a tree that is bushy
module _ (K : Type 0) {B X : Type 0} (items : B → List X) (k : ℕ) (some : 1 ≤ k) where
  pub least_some : (low level : ℕ) → 1 ≤ least K items k some low level
  least_some low level = by_test (nat_le low level) where
    by_test : (c : Bool) → 1 ≤ (if c then k else 1)
    by_test true = some
    by_test false = omega arith

  most_some : (low height : ℕ) → 1 ≤ most K items k some low height
  most_some low zero = omega arith
  most_some low (suc level) =
      let rest = most_some low level in
      let up = mul-le-mul_right (most K items k some low level) (least_some low level) in
      omega (arith, rest, up)

  pub bushy_filled : (low height : ℕ) (t : KeyTree K B height) → IsBushy K items k some low height t → items_in K items height t ≡ [] → ⊥
  bushy_filled low height t bushy none =
      let many = bushy_items K items k some low height t bushy in
      let one = most_some low height in
      let long = ap (λ (es : List X). length es) none in
      omega (arith, many, one, long)

  pub bushy_below : (low height : ℕ) (node : KeyTree K B (suc height)) → IsBushy K items k some low (suc height) node → AreFilled (items_in K items height) node.1
  bushy_below low height node bushy =
      all_so (IsBushy K items k some low height) (λ c. items_in K items height c ≡ [] → ⊥) node.1 (bushy_filled low height) bushy.1

module _ {K B X : Type 0} (sides : Sides K X) (orderly : IsOrderly sides) (Below : X → X → Type 0) (key_of : X → K) (lowest : K) (keyed : HasOwnKeys sides Below key_of)
    (items : B → List X) (x : X) where
  -- ---- the key behind the child into which the item goes

  module _ (old new : List X) (p : IsPut Below x old new) (k j h : K) (ka : List K) (some : old ≡ [] → ⊥) (lies : AllByRecursion (λ y. sides.Left y h) old)
      (high_is : ((h ≡ j) × sides.Left x j) ⊎ ((ka ≡ []) × (h ≡ key_of x) × (sides.Left x j → ⊥))) where
    abbrev IsKeyOfLast : Type 0
    IsKeyOfLast = (y : X) × IsLast new y × (h ≡ key_of y)

    item_last : (back : List X) → p.back ≡ back → back ≡ [] → IsLast new x
    item_last back is none = (p.front, p.after ∙ ap (λ (es : List X). p.front ++ x ∷ es) (is ∙ none))

    -- it is the item's own key already
    key_there : j ≡ key_of x → (back : List X) → p.back ≡ back → IsKeyOfLast
    key_there is back back_is = elim high_is [
      | inr gone ↦ absurd (gone.2 (subst (sides.Left x) (sym is) (keyed.own x)))
      | inl stays ↦ by_back back back_is (stays.0 ∙ is)
    ] where
      by_back : (es : List X) → p.back ≡ es → h ≡ key_of x → IsKeyOfLast
      by_back [] same own = (x, item_last [] same refl, own)
      by_back (b ∷ es) same own =
          let after = (subst (AllByRecursion (Below x)) same p.below).0 in
          let all = subst (AllByRecursion (λ y. sides.Left y h)) (p.before ∙ ap (λ (vs : List X). p.front ++ vs) same) lies in
          let left = (all_right (λ y. sides.Left y h) p.front (b ∷ es) all).0 in
          absurd (orderly.apart (key_of x) b (keyed.over x b after) (subst (sides.Left b) own left))

    -- it is that of the last item
    key_last : (y : X) → IsLast old y → j ≡ key_of y → IsKeyOfLast
    key_last y last is = elim (last_of_two p.front p.back y last.0 (sym p.before ∙ last.1)) [
      | inl front ↦
          let before = all_last (λ z. Below z x) p.front y p.above front.1 in
          elim high_is [
            | inl stays ↦ absurd (orderly.apart (key_of y) x (keyed.over y x before) (subst (sides.Left x) is stays.1))
            | inr gone ↦ (x, item_last p.back refl front.0, gone.1)
          ]
      | inr back ↦
          let after = all_last (Below x) p.back y p.below back in
          elim high_is [
            | inl stays ↦ (y, there y back, stays.0 ∙ is)
            | inr gone ↦ absurd (gone.2 (subst (sides.Left x) (sym is) (keyed.under x y after)))
          ]
    ] where
      there : (z : X) → IsLast p.back z → IsLast new z
      there z back =
          let all = last_behind p.front (x ∷ p.back) z (x ∷ back.0, ap (λ (es : List X). x ∷ es) back.1) in
          (all.0, p.after ∙ all.1)

    -- THE KEY BEHIND THE CHILD is that of the last item below it then
    pub key_put : IsBehind (λ i. i ≡ key_of x) key_of k old j → (y : X) × IsLast new y × (h ≡ key_of y)
    key_put (inl is) = key_there is p.back refl
    key_put (inr (inl none)) = absurd (some none.0)
    key_put (inr (inr last)) = key_last last.0 (last.1, last.2) last.3

  module _ (height : ℕ) where
    abbrev T : Type 0
    T = KeyTree K B height

    abbrev N : T → List X
    N = items_in K items height

    abbrev E : Option K → K → T → K → Type 0
    E = IsChild (λ k. ⊥) key_of lowest items height

    abbrev F : Option K → K → T → K → Type 0
    F = IsChildFor sides key_of lowest items x height

    -- ---- no other child lets the item in: before the one on the way, and behind it

    pub left_exact : (before : Option K) (kb : List K) (m : K) (cs : List T) → sides.Right m x → Ladder sides N (kb ++ m ∷ []) cs → AreAround F before (kb ++ m ∷ []) cs
        → AreAround E before (kb ++ m ∷ []) cs
    left_exact before [] m [] right is are = tt
    left_exact before [] m (c ∷ cs) right is are = absurd are
    left_exact before (i ∷ []) m [] right is are = absurd are
    left_exact before (i ∷ j ∷ kb) m [] right is are = absurd are
    left_exact before (i ∷ []) m (c ∷ cs) right is are = (
      elim are.0 [ inl exact ↦ exact | inr lets ↦ absurd (orderly.apart m x right lets.1) ],
      left_exact (Some i) [] m cs right is.2 are.1,
    )
    left_exact before (i ∷ j ∷ kb) m (c ∷ cs) right is are = (
      elim are.0 [ inl exact ↦ exact | inr lets ↦ absurd (orderly.apart m x right (orderly.left x j m lets.1 (first_last sides N orderly j kb m cs is.2))) ],
      left_exact (Some i) (j ∷ kb) m cs right is.2 are.1,
    )

    pub right_exact : (before h : K) (ka : List K) (cs : List T) → sides.Left x h → Ladder sides N (h ∷ ka) cs → AreAround F (Some before) (h ∷ ka) cs
        → AreAround E (Some before) (h ∷ ka) cs
    right_exact before h [] [] left is are = tt
    right_exact before h [] (c ∷ cs) left is are = absurd are
    right_exact before h (i ∷ ka) [] left is are = absurd are
    right_exact before h (i ∷ ka) (c ∷ cs) left is are = (
      elim are.0 [ inl exact ↦ exact | inr lets ↦ absurd (orderly.apart h x lets.0 left) ],
      right_exact h i ka cs (orderly.left x h i left is.1) is.2 are.1,
    )

    -- ---- the last key of a node

    last_child : (k m : K) (c : T) → (N c ≡ [] → ⊥) → IsBehind (λ i. ⊥) key_of k (N c) m → (y : X) × IsLast (N c) y × (m ≡ key_of y)
    last_child k m c some (inl never) = absurd never
    last_child k m c some (inr (inl none)) = absurd (some none.0)
    last_child k m c some (inr (inr last)) = (last.0, (last.1, last.2), last.3)

    -- IT IS THAT OF THE LAST ITEM below the node
    pub last_row : (before : Option K) (kb : List K) (m : K) (cs : List T) → 1 ≤ length cs → AreFilled N cs → AreAround E before (kb ++ m ∷ []) cs
        → (y : X) × IsLast (flat_map N cs) y × (m ≡ key_of y)
    last_row before kb m [] long filled are = absurd (omega (arith, long))
    last_row before [] m (c ∷ cs) long filled are = absurd are
    last_row before (i ∷ []) m (c ∷ []) long filled are =
        let last = last_child i m c filled.0 are.0.0 in (last.0, last_front (N c) [] last.0 refl last.1, last.2)
    last_row before (i ∷ []) m (c ∷ d ∷ cs) long filled are = absurd are.1
    last_row before (i ∷ j ∷ []) m (c ∷ []) long filled are = absurd are.1
    last_row before (i ∷ j ∷ l ∷ kb) m (c ∷ []) long filled are = absurd are.1
    last_row before (i ∷ j ∷ kb) m (c ∷ d ∷ cs) long filled are =
        let rest = last_row (Some i) (j ∷ kb) m (d ∷ cs) (omega arith) filled.1 are.1 in
        (rest.0, last_behind (N c) (flat_map N (d ∷ cs)) rest.0 rest.1, rest.2)
