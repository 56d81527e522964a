-- The keys and children of the nodes on the way of an insertion, from one step to the next.
use Rattle.std.proofs.Common.{◌≡◌, ◌≢◌, inl, inr, ℕ, suc, ◌+◌, ◌*◌, ◌<◌, List, [], ◌∷◌, length, take, drop, sym, ap, ◌∙◌, subst, arith}
use Rattle.std.specs.List.{AllByRecursion, insert}
use Rattle.h5_bytes.proofs.BlockLaws.{all_so}
use Rattle.h5_model.specs.Format.Rows.{Node}
use Rattle.h5_model.specs.Format.Nodes.{Kind, node_at, node_bytes, node_of, reading_of}
use Rattle.h5_space.specs.Space.{Space}
use Rattle.h5_btree.specs.Rewritten.{IsRewritten}
use Rattle.h5_btree.specs.Insertion.{HasComeIn, HasHalves, HasRisen, IsClimbing, IsFullWay, IsPutAlong, IsRootRaised, IsSplit, KeepsEntries, Owns, left_count}
use Rattle.h5_btree.specs.declared.way.Step.{Step}
use Rattle.h5_btree.proofs.ClimbSteps.{others_stay}
use Rattle.h5_btree.proofs.ClimbStands.{own_p, above_known, not_here}

-- ---- nodes that keep their keys and children

pub keeps_then : (t u v : List ℕ) (kind : Kind) (n : ℕ) → KeepsEntries t u kind n → KeepsEntries u v kind n → KeepsEntries t v kind n
keeps_then t u v kind n a b = (b.0 ∙ a.0, b.1 ∙ a.1, b.2 ∙ a.2)

pub keeps_bytes : (t u : List ℕ) (kind : Kind) (n : ℕ) → node_bytes u kind n ≡ node_bytes t kind n → KeepsEntries t u kind n
keeps_bytes t u kind n same = (
  ap (λ (b : List ℕ). (node_of kind b).keys) same,
  ap (λ (b : List ℕ). (node_of kind b).children) same,
  ap (λ (b : List ℕ). (node_of kind b).level) same,
)

-- they are as full as before
pub full_before : (old new : List ℕ) (kind : Kind) (steps : List Step) → AllByRecursion (λ (step : Step). KeepsEntries old new kind step.node) steps
    → IsFullWay new kind steps → IsFullWay old kind steps
full_before old new kind [] same full = tt
full_before old new kind (step ∷ steps) same full = (
  ap (λ (xs : List ℕ). length xs) (sym same.0.1) ∙ full.0,
  full_before old new kind steps same.1 full.1,
)

-- the nodes above are others
pub above_apart : (s t : Space) (kind : Kind) (root m p : ℕ) (way : List Step) (j child : ℕ) (list owned own : List ℕ)
    → IsClimbing s t kind root m p way j child list owned own → AllByRecursion (λ (step : Step). Owns own step.node × (step.node ≢ p)) way
above_apart s t kind root m p way j child list owned own c =
    all_so (λ (step : Step). Owns own step.node × ((reading_of t.bytes kind own step.node).level ≢ m)) (λ (step : Step). Owns own step.node × (step.node ≢ p)) way (λ step known. (known.0, not_here s t kind root m p way j child list owned own c step.node known.1)) (above_known s t kind root m p way j child list owned own c)

-- and keep theirs where those that are not p do
pub stays : (s t u : Space) (kind : Kind) (root m p : ℕ) (next : Step) (higher : List Step) (j child : ℕ) (list owned own : List ℕ) (q : ℕ)
    → IsClimbing s t kind root m p (next ∷ higher) j child list owned own → ((n : ℕ) → Owns own n → (n ≢ q) × (n ≢ p → KeepsEntries t.bytes u.bytes kind n))
    → AllByRecursion (λ (step : Step). KeepsEntries t.bytes u.bytes kind step.node) (next ∷ higher)
stays s t u kind root m p next higher j child list owned own q c others =
    all_so (λ (step : Step). Owns own step.node × (step.node ≢ p)) (λ (step : Step). KeepsEntries t.bytes u.bytes kind step.node) (next ∷ higher) (λ step known. (others step.node known.0).1 known.1) (above_apart s t kind root m p (next ∷ higher) j child list owned own c)

-- where a node is written, the others keep theirs
pub filled_others : (s t u : Space) (kind : Kind) (root m p : ℕ) (way : List Step) (j child : ℕ) (list owned own : List ℕ) (node : Node)
    → IsClimbing s t kind root m p way j child list owned own → IsRewritten t u kind p node → (n : ℕ) → Owns own n → n ≢ p → KeepsEntries t.bytes u.bytes kind n
filled_others s t u kind root m p way j child list owned own node c r n listed other =
    keeps_bytes t.bytes u.bytes kind n (others_stay t u kind own p r.moves c.apart (own_p s t kind root m p way j child list owned own c) n listed other)

-- the nodes above too
pub above_keep : (s t u : Space) (kind : Kind) (root m p : ℕ) (way : List Step) (j child : ℕ) (list owned own : List ℕ) (node : Node)
    → IsClimbing s t kind root m p way j child list owned own → IsRewritten t u kind p node → AllByRecursion (λ (step : Step). KeepsEntries t.bytes u.bytes kind step.node) way
above_keep s t u kind root m p way j child list owned own node c r =
    all_so (λ (step : Step). Owns own step.node × (step.node ≢ p)) (λ (step : Step). KeepsEntries t.bytes u.bytes kind step.node) way (λ step known. filled_others s t u kind root m p way j child list owned own node c r step.node known.0 known.1) (above_apart s t kind root m p way j child list owned own c)

-- ---- along the way

pub comes_in : (old new : List ℕ) (kind : Kind) (p : ℕ) (above : List Step) (j : ℕ) (keys : List ℕ) (child : ℕ) → HasComeIn old new kind p j (take kind.key_length keys) child
    → AllByRecursion (λ (step : Step). KeepsEntries old new kind step.node) above → IsPutAlong old new kind p above j keys child
comes_in old new kind p [] j keys child here stay = inl here
comes_in old new kind p (next ∷ above) j keys child here stay = inl (here, stay)

pub written_in : (t u : Space) (kind : Kind) (p j : ℕ) (key keys : List ℕ) (child : ℕ) → length (node_at t.bytes kind p).children < 2 * kind.k → key ≡ take kind.key_length keys
    → IsRewritten t u kind p (record (node_at t.bytes kind p) { keys = insert (node_at t.bytes kind p).keys j key; children = insert (node_at t.bytes kind p).children j child })
    → HasComeIn t.bytes u.bytes kind p j (take kind.key_length keys) child
written_in t u kind p j key keys child roomy same r = record {
  roomy = roomy;
  keys = ap (λ (n : Node). n.keys) r.says ∙ ap (λ (k : List ℕ). insert (node_at t.bytes kind p).keys j k) same;
  children = ap (λ (n : Node). n.children) r.says;
  level = ap (λ (n : Node). n.level) r.says;
}

pub risen : (old new : List ℕ) (kind : Kind) (root j : ℕ) (key first : List ℕ) (child l r : ℕ) → key ≡ first → IsRootRaised old new kind root j key child l r
    → HasRisen old new kind root j first child l r
risen old new kind root j key first child l r same is = subst (λ (k : List ℕ). HasRisen old new kind root j k child l r) same record {
  left_keys = ap (λ (n : Node). n.keys) is.left;
  left = ap (λ (n : Node). n.children) is.left;
  right_keys = ap (λ (n : Node). n.keys) is.right;
  right = ap (λ (n : Node). n.children) is.right;
  keys = ap (λ (n : Node). n.keys) is.over;
  children = ap (λ (n : Node). n.children) is.over;
  level = ap (λ (n : Node). n.level) is.over;
}

-- the halves keep theirs while the insertion goes on
pub halves_stay : (t u v : List ℕ) (kind : Kind) (p j : ℕ) (key first : List ℕ) (child q : ℕ) → key ≡ first → IsSplit t u kind p j key child q → KeepsEntries u v kind p → KeepsEntries u v kind q
    → HasHalves t v kind p j first child q
halves_stay t u v kind p j key first child q same is at_p at_q = subst (λ (k : List ℕ). HasHalves t v kind p j k child q) same record {
  left_keys = at_p.0 ∙ ap (λ (n : Node). n.keys) is.left;
  left = at_p.1 ∙ ap (λ (n : Node). n.children) is.left;
  right_keys = at_q.0 ∙ ap (λ (n : Node). n.keys) is.right;
  right = at_q.1 ∙ ap (λ (n : Node). n.children) is.right;
}

module _ (t u v : List ℕ) (kind : Kind) (p j : ℕ) (same : KeepsEntries t u kind p) where
  count : length (node_at u kind p).children ≡ length (node_at t kind p).children
  count = ap (λ (xs : List ℕ). length xs) same.1

  in_before : (key : List ℕ) (child : ℕ) → HasComeIn u v kind p j key child → HasComeIn t v kind p j key child
  in_before key child is = record {
    roomy = let low = is.roomy in omega (arith, low, count);
    keys = is.keys ∙ ap (λ (ks : List (List ℕ)). insert ks j key) same.0;
    children = is.children ∙ ap (λ (cs : List ℕ). insert cs j child) same.1;
    level = is.level ∙ same.2;
  }

  risen_before : (key : List ℕ) (child l r : ℕ) → HasRisen u v kind p j key child l r → HasRisen t v kind p j key child l r
  risen_before key child l r is = record {
    left_keys = subst (λ (ks : List (List ℕ)). (node_at v kind l).keys ≡ take (left_count kind.k j + 1) (insert ks j key)) same.0 is.left_keys;
    left = subst (λ (cs : List ℕ). (node_at v kind l).children ≡ take (left_count kind.k j) (insert cs j child)) same.1 is.left;
    right_keys = subst (λ (ks : List (List ℕ)). (node_at v kind r).keys ≡ drop (left_count kind.k j) (insert ks j key)) same.0 is.right_keys;
    right = subst (λ (cs : List ℕ). (node_at v kind r).children ≡ drop (left_count kind.k j) (insert cs j child)) same.1 is.right;
    keys = is.keys;
    children = is.children;
    level = is.level ∙ ap (λ (l : ℕ). suc l) same.2;
  }

  halves_before : (key : List ℕ) (child q : ℕ) → HasHalves u v kind p j key child q → HasHalves t v kind p j key child q
  halves_before key child q is = record {
    left_keys = subst (λ (ks : List (List ℕ)). (node_at v kind p).keys ≡ take (left_count kind.k j + 1) (insert ks j key)) same.0 is.left_keys;
    left = subst (λ (cs : List ℕ). (node_at v kind p).children ≡ take (left_count kind.k j) (insert cs j child)) same.1 is.left;
    right_keys = subst (λ (ks : List (List ℕ)). (node_at v kind q).keys ≡ drop (left_count kind.k j) (insert ks j key)) same.0 is.right_keys;
    right = subst (λ (cs : List ℕ). (node_at v kind q).children ≡ drop (left_count kind.k j) (insert cs j child)) same.1 is.right;
  }

all_keep_then : (t u v : List ℕ) (kind : Kind) (steps : List Step) → AllByRecursion (λ (step : Step). KeepsEntries t u kind step.node) steps
    → AllByRecursion (λ (step : Step). KeepsEntries u v kind step.node) steps → AllByRecursion (λ (step : Step). KeepsEntries t v kind step.node) steps
all_keep_then t u v kind [] first second = tt
all_keep_then t u v kind (step ∷ steps) first second = (keeps_then t u v kind step.node first.0 second.0, all_keep_then t u v kind steps first.1 second.1)

-- what an insertion makes of nodes that were as before
pub along_before : (t u v : List ℕ) (kind : Kind) (p : ℕ) (above : List Step) (j : ℕ) (keys : List ℕ) (child : ℕ) → KeepsEntries t u kind p
    → AllByRecursion (λ (step : Step). KeepsEntries t u kind step.node) above → IsPutAlong u v kind p above j keys child → IsPutAlong t v kind p above j keys child
along_before t u v kind p [] j keys child here all (inl is) = inl (in_before t u v kind p j here (take kind.key_length keys) child is)
along_before t u v kind p [] j keys child here all (inr is) =
    inr (sym (count t u v kind p j here) ∙ is.0, (is.1.0, is.1.1, risen_before t u v kind p j here (take kind.key_length keys) child is.1.0 is.1.1 is.1.2))
along_before t u v kind p (next ∷ above) j keys child here all (inl is) =
    inl (in_before t u v kind p j here (take kind.key_length keys) child is.0, all_keep_then t u v kind (next ∷ above) all is.1)
along_before t u v kind p (next ∷ above) j keys child here all (inr is) =
    inr (
      sym (count t u v kind p j here) ∙ is.0,
      (
        is.1.0,
        halves_before t u v kind p j here (take kind.key_length keys) child is.1.0 is.1.1,
        along_before t u v kind next.node above (next.place + 1) (drop kind.key_length keys) is.1.0 all.0 all.1 is.1.2,
      ),
    )
