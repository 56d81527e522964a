-- The tree of keys of a tree in an image: read as the image stands, and at its own nodes alone; and a node of it, cut at a child.
use Rattle.std.proofs.Common.{◌≡◌, ℕ, suc, ◌+◌, ◌<◌, ◌≤◌, List, [], ◌∷◌, ◌++◌, length, take, drop, get_or, refl, sym, ap, ap₂, ◌∙◌, subst, arith, append-nil}
use Rattle.std.specs.List.{AllByRecursion, remove}
use Rattle.std.proofs.lemmas.List.{length-take-le}
use Rattle.std.proofs.Math.Seq.{drop-cons}
use Rattle.h5_model.specs.Format.Rows.{Node, Reading, AreRows, leaves}
use Rattle.h5_model.specs.Format.Nodes.{Kind, HasTree, node_at, node_bytes, reading_of}
use Rattle.h5_laws.specs.KeyTrees.{KeyTree}
use Rattle.h5_laws.specs.KeyEdits.{Enters}
use Rattle.h5_btree.specs.Keyed.{AtChild, trees_below, keys_from}
use Rattle.h5_btree.proofs.NodeLaws.{length-keys, length-children}
use Rattle.h5_btree.proofs.TreeReadings.{owned_at, owned_of_level}
use Rattle.h5_btree.proofs.KeyedTrees.{cut_at, tree_below, below_append, below_one, below_long, IsAlike, StandsAlike, AreAlike, alike_rows, keys-same}

-- there is one key more than there are children
pub keys_count : (image : List ℕ) (kind : Kind) (n : ℕ) → length (node_at image kind n).keys ≡ length (node_at image kind n).children + 1
keys_count image kind n =
    let k = length-keys kind (node_bytes image kind n) (node_at image kind n) refl in
    let c = length-children kind (node_bytes image kind n) (node_at image kind n) refl in
    omega (arith, k, c)

pub all_stand : {B : Type 0} (V W : Reading) (at : AtChild B) (list : List ℕ) → AllByRecursion (StandsAlike V W at at) list
all_stand V W at [] = tt
all_stand V W at (c ∷ list) = (λ key. refl, all_stand V W at list)

-- a tree by its own nodes
module _ {B : Type 0} (image : List ℕ) (kind : Kind) (root level : ℕ) (owned list : List ℕ) (has : HasTree image kind root level owned list) (at : AtChild B) where
  abbrev V : Reading
  V = reading_of image kind owned

  abbrev W : Reading
  W = node_at image kind

  own_alike : (n : ℕ) → (V n).level ≤ level → IsAlike V W at at n
  own_alike n low =
      let high = has.low in
      let same = sym (owned_at W owned n (owned_of_level W owned n (omega (arith, low, high)))) in
      (ap (λ (k : Node). k.keys) same, ap (λ (k : Node). k.children) same)

  pub keys_own : keys_from W at level root ≡ keys_from V at level root
  keys_own = by_level level has.rows own_alike where
    by_level : (l : ℕ) → AreRows V l (root ∷ []) → ((n : ℕ) → (V n).level ≤ l → IsAlike V W at at n) → keys_from W at l root ≡ keys_from V at l root
    by_level l rows each =
        let all = alike_rows V W at at l (root ∷ []) (leaves V l (root ∷ [])) rows refl each (all_stand V W at (leaves V l (root ∷ []))) in
        keys-same V W at at l root all.0.0 (alone l all.1)
      where
        alone : (m : ℕ) → AreAlike V W at at m ((V root).children ++ []) → AreAlike V W at at m (V root).children
        alone m = subst (AreAlike V W at at m) (append-nil (V root).children)

-- a node with these keys and children, cut at child i
module _ {B : Type 0} (V : Reading) (at : AtChild B) (m : ℕ) (keys : List (List ℕ)) (children : List ℕ) (i : ℕ)
    (long : length keys ≡ length children + 1) (low : i < length children) where
  abbrev pub kb : List (List ℕ)
  kb = take i keys

  abbrev pub k : List ℕ
  k = get_or keys i []

  abbrev pub j : List ℕ
  j = get_or keys (suc i) []

  abbrev pub ka : List (List ℕ)
  ka = drop (suc (suc i)) keys

  abbrev pub xs : List ℕ
  xs = take i children

  abbrev pub c : ℕ
  c = get_or children i 0

  abbrev pub ys : List ℕ
  ys = drop (suc i) children

  pub keys_behind : drop (suc i) keys ≡ j ∷ ka
  keys_behind = drop-cons keys (suc i) [] (omega (arith, long, low))

  pub keys_cut : keys ≡ kb ++ k ∷ j ∷ ka
  keys_cut = cut_at keys i [] (omega (arith, long, low)) ∙ ap (λ (more : List (List ℕ)). kb ++ k ∷ more) keys_behind

  pub children_cut : children ≡ xs ++ c ∷ ys
  children_cut = cut_at children i 0 low

  pub long_front : length kb ≡ length xs
  long_front = length-take-le i keys (omega (arith, long, low)) ∙ sym (length-take-le i children (omega (arith, low)))

  pub trees_cut : trees_below V at m keys children ≡ trees_below V at m kb xs ++ tree_below V at m k c ∷ trees_below V at m (j ∷ ka) ys
  trees_cut =
      ap₂ (trees_below V at m) keys_cut children_cut ∙ below_append V at m kb (k ∷ j ∷ ka) xs (c ∷ ys) long_front
      ∙ ap (λ (ts : List (KeyTree (List ℕ) B m)). trees_below V at m kb xs ++ ts) (below_one V at m k (j ∷ ka) c ys)

  pub long_trees : length kb ≡ length (trees_below V at m kb xs)
  long_trees = long_front ∙ sym (below_long V at m kb xs (omega (arith, long_front)))

  -- without the child and the key before it
  pub keys_less : remove keys i ≡ kb ++ j ∷ ka
  keys_less = ap (λ (more : List (List ℕ)). kb ++ more) keys_behind

  pub trees_less : trees_below V at m (remove keys i) (remove children i) ≡ trees_below V at m kb xs ++ trees_below V at m (j ∷ ka) ys
  trees_less = ap (λ (ks : List (List ℕ)). trees_below V at m ks (remove children i)) keys_less ∙ below_append V at m kb (j ∷ ka) xs ys long_front

  abbrev pub enters : Enters keys (trees_below V at m keys children)
  enters = record {
    kb = kb;
    k = k;
    j = j;
    ka = ka;
    xs = trees_below V at m kb xs;
    child = tree_below V at m k c;
    ys = trees_below V at m (j ∷ ka) ys;
    keys_are = keys_cut;
    children_are = trees_cut;
    place = long_trees;
  }
