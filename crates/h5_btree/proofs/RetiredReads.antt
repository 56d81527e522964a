-- The last key below an address, found from the last child on.
use Rattle.std.proofs.Common.{◌≡◌, inl, inr, ℕ, zero, suc, ◌<◌, true, false, List, [], ◌∷◌, ◌++◌, length, map, take, drop, get_or, Some, None, Option, refl, sym, ap, ap₂, ◌∙◌, subst, arith, append-nil, append_assoc}
use Rattle.std.specs.List.{AllByRecursion, flat_map, slice_get}
use Rattle.std.specs.Prelude.{slice_set}
use Rattle.std.specs.Option.{is_some}
use Rattle.std.proofs.lemmas.Grind.{flat_map-append}
use Rattle.h5_model.specs.Format.Rows.{Reading}
use Rattle.h5_model.specs.Format.Nodes.{Kind, node_at}
use Rattle.h5_btree.specs.Held.{IsNodeThere}
use Rattle.h5_btree.specs.Retired.{IsKeyBefore, IsLastOf, StandsUnder, keys_below}

drop_back : (xs : List ℕ) (i c : ℕ) → slice_get xs i ≡ Some c → drop i xs ≡ c ∷ drop (suc i) xs
drop_back [] zero c is = cc
drop_back [] (suc i) c is = cc
drop_back (x ∷ xs) zero c is = let same : x ≡ c = cc in ap (λ (y : ℕ). y ∷ xs) same
drop_back (x ∷ xs) (suc i) c is = drop_back xs i c is

pub all_got : (P : ℕ → Type 0) (xs : List ℕ) (i c : ℕ) → slice_get xs i ≡ Some c → AllByRecursion P xs → P c
all_got P [] zero c is all = cc
all_got P [] (suc i) c is all = cc
all_got P (x ∷ xs) zero c is all = let same : x ≡ c = cc in subst P same all.0
all_got P (x ∷ xs) (suc i) c is all = all_got P xs i c is all.1

take_drop : (xs : List ℕ) (i : ℕ) → xs ≡ take i xs ++ drop i xs
take_drop [] zero = refl
take_drop [] (suc i) = refl
take_drop (x ∷ xs) zero = refl
take_drop (x ∷ xs) (suc i) = ap (λ (ys : List ℕ). x ∷ ys) (take_drop xs i)

module _ (stands : ℕ → Type 0) (image : List ℕ) (kind : Kind) where
  pub under_there : (height low at : ℕ) → height ≡ suc low → StandsUnder stands image kind height at → IsNodeThere image kind at
  under_there height low at more is = (subst (λ (h : ℕ). StandsUnder stands image kind h at) more is).0

  pub under_child : (height low at i child : ℕ) → height ≡ suc low → StandsUnder stands image kind height at → slice_get (node_at image kind at).children i ≡ Some child
      → StandsUnder stands image kind low child
  under_child height low at i child more is got =
      all_got (StandsUnder stands image kind low) (node_at image kind at).children i child got (subst (λ (h : ℕ). StandsUnder stands image kind h at) more is).1

-- ---- lists of lists, from the right

module _ (f : ℕ → List (List ℕ)) (xs : List ℕ) where
  -- nothing stands at this one either
  pub none_more : (i c : ℕ) (found : Option (List ℕ)) → slice_get xs i ≡ Some c → is_some found ≡ false → IsLastOf (f c) found → flat_map f (drop (suc i) xs) ≡ []
      → flat_map f (drop i xs) ≡ []
  none_more i c None got off last none = ap (flat_map f) (drop_back xs i c got) ∙ ap₂ (λ (a b : List (List ℕ)). a ++ b) last none
  none_more i c (Some key) got off last none = cc

  -- the last one stands at this one
  pub last_here : (i c : ℕ) (found : Option (List ℕ)) → slice_get xs i ≡ Some c → is_some found ≡ true → IsLastOf (f c) found → flat_map f (drop (suc i) xs) ≡ []
      → IsLastOf (flat_map f xs) found
  last_here i c None got on last none = cc
  last_here i c (Some key) got on last none = (
    flat_map f (take i xs) ++ last.0,
    ap (flat_map f) (take_drop xs i ∙ ap (λ (ys : List ℕ). take i xs ++ ys) (drop_back xs i c got))
        ∙ flat_map-append f (take i xs) (c ∷ drop (suc i) xs)
        ∙ ap₂ (λ (a b : List (List ℕ)). flat_map f (take i xs) ++ (a ++ b)) last.1 none
        ∙ ap (λ (ys : List (List ℕ)). flat_map f (take i xs) ++ ys) (append-nil (last.0 ++ key ∷ []))
        ∙ sym (append_assoc (flat_map f (take i xs)) last.0 (key ∷ [])),
  )

-- ---- the key before another

got_map : (f : ℕ → List (List ℕ)) (xs : List ℕ) (i c : ℕ) → slice_get xs i ≡ Some c → get_or (map f xs) i [] ≡ f c
got_map f [] zero c is = cc
got_map f [] (suc i) c is = cc
got_map f (x ∷ xs) zero c is = let same : x ≡ c = cc in ap f same
got_map f (x ∷ xs) (suc i) c is = got_map f xs i c is

module _ (f : ℕ → List (List ℕ)) (children : List ℕ) (keys : List (List ℕ)) (i j child : ℕ) (more : i ≡ suc j) (got : slice_get children j ≡ Some child) where
  pub before_some : (last : List ℕ) → IsLastOf (f child) (Some last) → IsKeyBefore (map f children) keys i last
  before_some last is = subst (λ (n : ℕ). IsKeyBefore (map f children) keys n last) (sym more) (inr (last, is.0, got_map f children j child got ∙ is.1, refl))

  pub before_none : (key : List ℕ) → IsLastOf (f child) None → key ≡ get_or keys j [] → IsKeyBefore (map f children) keys i key
  before_none key none is = subst (λ (n : ℕ). IsKeyBefore (map f children) keys n key) (sym more) (inl (got_map f children j child got ∙ none, is))

-- what is so of all below a node's children is so of all below it
pub below_node : (V : Reading) (keys : ℕ → List (List ℕ)) (height low at : ℕ) (P : List (List ℕ) → Type 0) → height ≡ suc low → P (flat_map (keys_below V keys low) (V at).children)
    → P (keys_below V keys height at)
below_node V keys height low at P more is = subst (λ (h : ℕ). P (keys_below V keys h at)) (sym more) is

-- a key that stays
pub set_same : (keys : List (List ℕ)) (i : ℕ) → i < length keys → slice_set keys i (get_or keys i []) ≡ keys
set_same [] i low = absurd (omega (arith, low))
set_same (k ∷ keys) zero low = refl
set_same (k ∷ keys) (suc i) low = ap (λ (ks : List (List ℕ)). k ∷ ks) (set_same keys i (omega (arith, low)))
