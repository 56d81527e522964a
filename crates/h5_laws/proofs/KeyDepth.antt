-- How many items a tree of keys has by the levels that insertions gave it.
use Rattle.std.proofs.Common.{◌≡◌, ℕ, zero, suc, Bool, true, false, ◌+◌, ◌*◌, ◌≤◌, List, [], ◌∷◌, length, sym, ap, ◌∙◌, subst, arith, suc-mul}
use Rattle.std.specs.Prelude.{if◌then◌else◌, nat_le}
use Rattle.std.proofs.Math.Nat.{mul-le-mul_right}
use Rattle.std.specs.List.{flat_map, AllByRecursion}
use Rattle.std.proofs.lemmas.List.{length-append}
use Rattle.h5_bytes.proofs.BlockLaws.{all_append, all_left, all_right}
use Rattle.h5_laws.specs.Ladders.{Sides}
use Rattle.h5_laws.specs.KeyTrees.{KeyTree, items_in}
use Rattle.h5_laws.specs.KeyEdits.{Grown, One, Two, Descends, Widens, Fits, Inserts}

-- what holds of each of those that stand in place of a subtree
abbrev pub EachGrown : {K Y : Type 0} → (Y → Type 0) → Grown K Y → Type 0
EachGrown P (One a) = P a
EachGrown P (Two a u b) = P a × P b

module _ (K : Type 0) {B X : Type 0} (items : B → List X) (k : ℕ) (some : 1 ≤ k) where
  -- how many children a node of this level has at least, where nodes from level `low` up have K
  abbrev pub least : ℕ → ℕ → ℕ
  least low level = if nat_le low level then k else 1

  -- what stands at the bottom has an item, and each node as many children
  abbrev pub IsBushy : (low height : ℕ) → KeyTree K B height → Type 0
  IsBushy low zero b = 1 ≤ length (items b)
  IsBushy low (suc level) node = (least low level ≤ length node.1) × AllByRecursion (IsBushy low level) node.1

  least_low : (low level : ℕ) → least low level ≤ k
  least_low low level = by_test (nat_le low level) where
    by_test : (c : Bool) → (if c then k else 1) ≤ k
    by_test true = omega arith
    by_test false = some

  module _ (sides : Sides K X) (x : X) (low_key high_key : K) (Puts : B → Grown K B → Type 0)
      (low : ℕ) (base : (b : B) (r : Grown K B) → IsBushy low 0 b → Puts b r → EachGrown (IsBushy low 0) r) where
    module _ {Y : Type 0} (P : Y → Type 0) (m : ℕ) (up_to : m ≤ k) where
      -- a node of m children or more of this kind, with what has grown from one of them
      grown_node : (keys : List K) (children : List Y) (r : Grown K (List K × List Y)) (keys' : List K) (children' : List Y)
          → m ≤ length children' → AllByRecursion P children' → Fits k keys' children' r → EachGrown (λ (n : List K × List Y). (m ≤ length n.1) × AllByRecursion P n.1) r
      grown_node keys children (One a) keys' children' long each fits =
          subst (λ (cs : List Y). (m ≤ length cs) × AllByRecursion P cs) (sym fits.2) (long, each)
      grown_node keys children (Two p u q) keys' children' long each h =
          let all = subst (AllByRecursion P) h.children_are each in
          ((omega (arith, h.some_left, up_to), all_left P p.1 q.1 all), (omega (arith, h.some_right, up_to), all_right P p.1 q.1 all))

      widened_all : (keys : List K) (children : List Y) (w : Descends sides x low_key high_key Y keys children) (r : Grown K Y) (keys' : List K) (children' : List Y)
          → AllByRecursion P children → EachGrown P r → Widens sides x low_key high_key Y keys children w r keys' children'
          → AllByRecursion P children' × (length children ≤ length children')
      widened_all keys children w r keys' children' each grown wide =
          let split = subst (AllByRecursion P) w.children_are each in
          let before = all_left P w.xs (w.child ∷ w.ys) split in
          let behind = (all_right P w.xs (w.child ∷ w.ys) split).1 in
          let long : length children ≡ length w.xs + suc (length w.ys) = ap length w.children_are ∙ length-append w.xs (w.child ∷ w.ys) in
          by_grown r grown wide before behind long
        where
          by_grown : (r : Grown K Y) → EachGrown P r → Widens sides x low_key high_key Y keys children w r keys' children' → AllByRecursion P w.xs → AllByRecursion P w.ys
              → length children ≡ length w.xs + suc (length w.ys) → AllByRecursion P children' × (length children ≤ length children')
          by_grown (One a) grown wide before behind long =
              let n : length children' ≡ length w.xs + suc (length w.ys) = ap length wide.1 ∙ length-append w.xs (a ∷ w.ys) in
              (subst (AllByRecursion P) (sym wide.1) (all_append P w.xs (a ∷ w.ys) before (grown, behind)), omega (arith, n, long))
          by_grown (Two a u b) grown wide before behind long =
              let n : length children' ≡ length w.xs + suc (suc (length w.ys)) = ap length wide.3 ∙ length-append w.xs (a ∷ b ∷ w.ys) in
              (subst (AllByRecursion P) (sym wide.3) (all_append P w.xs (a ∷ b ∷ w.ys) before (grown.0, (grown.1, behind))), omega (arith, n, long))

      node_grown : (keys : List K) (children : List Y) (w : Descends sides x low_key high_key Y keys children) (r' : Grown K Y) (keys' : List K) (children' : List Y)
          (r : Grown K (List K × List Y)) → (m ≤ length children) × AllByRecursion P children → EachGrown P r'
          → Widens sides x low_key high_key Y keys children w r' keys' children' → Fits k keys' children' r
          → EachGrown (λ (n : List K × List Y). (m ≤ length n.1) × AllByRecursion P n.1) r
      node_grown keys children w r' keys' children' r old grown wide fits =
          let all = widened_all keys children w r' keys' children' old.1 grown wide in
          let long : m ≤ length children' = omega (arith, old.0, all.1) in
          grown_node keys children r keys' children' long all.0 fits

    below_child : {Y : Type 0} (P : Y → Type 0) (keys : List K) (children : List Y) (w : Descends sides x low_key high_key Y keys children) → AllByRecursion P children → P w.child
    below_child P keys children w each = (all_right P w.xs (w.child ∷ w.ys) (subst (AllByRecursion P) w.children_are each)).0

    -- AN INSERTION LEAVES EACH NODE AS MANY CHILDREN
    pub bushy_grown : (height : ℕ) (t : KeyTree K B height) (r : Grown K (KeyTree K B height)) → IsBushy low height t → Inserts sides Puts k x low_key high_key height t r → EachGrown (IsBushy low height) r
    bushy_grown zero b r old ins = base b r old ins
    bushy_grown (suc level) node r old ins =
        let w = ins.0 in
        let below = bushy_grown level w.child ins.1 (below_child (IsBushy low level) node.0 node.1 w old.1) ins.2 in
        node_grown (IsBushy low level) (least low level) (least_low low level) node.0 node.1 w ins.1 ins.3.0 ins.3.1 r old below ins.3.2 ins.3.3

  -- ---- how many items there are

  -- each level multiplies
  abbrev pub most : ℕ → ℕ → ℕ
  most low zero = 1
  most low (suc level) = least low level * most low level

  many : (height n : ℕ) (P : KeyTree K B height → Type 0) (each : (t : KeyTree K B height) → P t → n ≤ length (items_in K items height t)) (ts : List (KeyTree K B height))
      → AllByRecursion P ts → length ts * n ≤ length (flat_map (items_in K items height) ts)
  many height n P each [] all = omega arith
  many height n P each (t ∷ ts) all =
      let here = each t all.0 in
      let rest = many height n P each ts all.1 in
      let long = length-append (items_in K items height t) (flat_map (items_in K items height) ts) in
      let step : suc (length ts) * n ≡ length ts * n + n = suc-mul (length ts) n in
      omega (arith, here, rest, long, step)

  pub bushy_items : (low height : ℕ) (t : KeyTree K B height) → IsBushy low height t → most low height ≤ length (items_in K items height t)
  bushy_items low zero b is = is
  bushy_items low (suc level) node is =
      let all = many level (most low level) (IsBushy low level) (bushy_items low level) node.1 is.1 in
      let up = mul-le-mul_right (most low level) is.0 in
      omega (arith, all, up)
