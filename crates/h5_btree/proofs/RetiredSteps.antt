-- The keys of one node more have given way.
use Rattle.std.proofs.Common.{◌≡◌, ◌≢◌, ◌⊎◌, inl, inr, ℕ, zero, suc, ◌+◌, ◌<◌, Bool, false, List, [], ◌∷◌, ◌++◌, Some, length, map, take, refl, sym, ap, ◌∙◌, subst, arith, add-one}
use Rattle.std.specs.Prelude.{slice_set}
use Rattle.std.specs.List.{AllByRecursion, slice_get}
use Rattle.h5_bytes.proofs.BlockLaws.{all_append, all_so}
use Rattle.h5_model.specs.Format.Rows.{Node, Reading}
use Rattle.h5_model.specs.Format.Nodes.{Kind, node_at, node_of, tree_blocks}
use Rattle.h5_model.proofs.RowLaws.{all_listed, at_listed}
use Rattle.h5_space.specs.Space.{Space}
use Rattle.h5_space.proofs.MovesLaws.{moves_none}
use Rattle.h5_btree.specs.Insertion.{Owns}
use Rattle.h5_btree.specs.Retired.{AreKeysRetired, AreRetiredBelow, AreRetiredFrom, IsKeyRetired, IsNodeRetired, IsNodeRewritten, IsRetirable, IsRetiring, IsSubtree, KeepsRetired, StandsUnder, keys_below}
use Rattle.h5_btree.specs.Rewritten.{IsRewritten}
use Rattle.h5_btree.proofs.ClimbSteps.{all_from, at_or}
use Rattle.h5_btree.proofs.RewriteSteps.{rewritten_then}
use Rattle.h5_btree.proofs.RetiredKeys.{ArePartly, Unhit, partly_more, retired_unhit, unhit_same}
use Rattle.h5_btree.proofs.RetiredReads.{all_got}
use Rattle.h5_btree.proofs.RetiredNodes.{IsKeyed, keyed_lists, keyed_more, keyed_under, lists_named, node_other}

pub all_two : (P Q R : ℕ → Type 0) → ((x : ℕ) → P x → Q x → R x) → (xs : List ℕ) → AllByRecursion P xs → AllByRecursion Q xs → AllByRecursion R xs
all_two P Q R f [] ps qs = tt
all_two P Q R f (x ∷ xs) ps qs = (f x ps.0 qs.0, all_two P Q R f xs ps.1 qs.1)

module _ (hit : List ℕ → Bool) (stands : List ℕ → ℕ → Type 0) (keys_at : List ℕ → ℕ → List (List ℕ)) where
  -- what has given way stays so
  pub below_kept : (s t u : Space) (kind : Kind) (owned list : List ℕ) → KeepsRetired hit keys_at s t u kind owned → (height at : ℕ) → IsSubtree (node_at s.bytes kind) owned list height at
      → AreRetiredBelow hit keys_at s t kind height at → AreRetiredBelow hit keys_at s u kind height at
  below_kept s t u kind owned list keep zero at under is = tt
  below_kept s t u kind owned list keep (suc height) at under is = (
    keep at under.0 is.0,
    all_two (IsSubtree (node_at s.bytes kind) owned list height) (AreRetiredBelow hit keys_at s t kind height) (AreRetiredBelow hit keys_at s u kind height)
        (below_kept s t u kind owned list keep height) (node_at s.bytes kind at).children under.2 is.1,
  )

  pub retiring_start : (s : Space) (kind : Kind) (root level : ℕ) (owned list : List ℕ) → IsRetirable hit stands keys_at s kind root level owned list
      → IsRetiring hit stands keys_at s s kind root level owned list
  retiring_start s kind root level owned list r = record {
    start = r;
    nodes = all_from owned (λ n. (node_at s.bytes kind n ≡ node_at s.bytes kind n) ⊎ AreRetiredFrom hit keys_at s s kind owned list n) (λ n is. inl refl) owned (all_listed owned);
    formed = r.tree.formed;
    moves = moves_none s (tree_blocks kind owned);
  }

  module _ (s t : Space) (kind : Kind) (root level : ℕ) (owned list : List ℕ) (r : IsRetiring hit stands keys_at s t kind root level owned list) where
    abbrev V : Reading
    V = node_at s.bytes kind

    abbrev lists : ℕ → List (List (List ℕ))
    lists n = map (keys_below V (keys_at s.bytes) (V n).level) (V n).children

    pub retiring_keyed : IsKeyed s t kind owned
    retiring_keyed = record {
      nodes = λ n is. elim (at_listed (λ m. (node_at t.bytes kind m ≡ V m) ⊎ AreRetiredFrom hit keys_at s t kind owned list m) owned n r.nodes is) [
        | inl same ↦ ((V n).keys, same)
        | inr retired ↦ (retired.2.0.0, retired.2.0.1)
      ];
      formed = r.formed;
      moves = r.moves;
    }

    -- what stands at the bottom stands there still
    pub retiring_stands : AllByRecursion (stands t.bytes) list
    retiring_stands = all_so (λ at. stands t.bytes at × (keys_at t.bytes at ≡ keys_at s.bytes at)) (stands t.bytes) list (λ at is. is.0) (r.start.stays t r.moves)

    pub retiring_same : AllByRecursion (λ at. keys_at t.bytes at ≡ keys_at s.bytes at) list
    retiring_same = all_so (λ at. stands t.bytes at × (keys_at t.bytes at ≡ keys_at s.bytes at)) (λ at. keys_at t.bytes at ≡ keys_at s.bytes at) list (λ at is. is.1) (r.start.stays t r.moves)

    pub retiring_under : (height at : ℕ) → IsSubtree V owned list height at → StandsUnder (stands t.bytes) t.bytes kind height at
    retiring_under = keyed_under s t kind owned list r.start.apart retiring_keyed (stands t.bytes) retiring_stands

    -- no key of a node is hit then
    pub node_unhit : (n height : ℕ) → IsSubtree V owned list (suc height) n → (u : Space) → IsNodeRetired hit keys_at s u kind n → Unhit hit (node_at u.bytes kind n).keys
    node_unhit n height under u retired =
        let named = lists_named (λ (key : List ℕ). hit key ≡ false) V (keys_at s.bytes) owned list r.start.named height n under in
        subst (Unhit hit) (sym (ap (λ (o : Node). o.keys) retired.1))
        (retired_unhit hit (lists n) (V n).keys retired.0 r.start.lowest
        (subst (λ (l : ℕ). AllByRecursion (Unhit hit) (map (keys_below V (keys_at s.bytes) l) (V n).children)) (sym under.1) named) retired.2)

    -- while the keys of one node give way
    module _ (u : Space) (m at : ℕ) (under : IsSubtree V owned list (suc m) at) (keys : List (List ℕ)) (w : IsRewritten t u kind at (record (node_at t.bytes kind at) { keys = keys })) where
      abbrev partly : IsKeyed s u kind owned
      partly = keyed_more s t u kind owned r.start.apart retiring_keyed at under.0 keys w

      abbrev stay : AllByRecursion (λ c. stands u.bytes c × (keys_at u.bytes c ≡ keys_at s.bytes c)) list
      stay = r.start.stays u partly.moves

      pub partly_under : StandsUnder (stands u.bytes) u.bytes kind (suc m) at
      partly_under = keyed_under s u kind owned list r.start.apart partly (stands u.bytes)
          (all_so (λ c. stands u.bytes c × (keys_at u.bytes c ≡ keys_at s.bytes c)) (stands u.bytes) list (λ c is. is.0) stay) (suc m) at under

      abbrev lists_then : List (List (List ℕ))
      lists_then = map (keys_below (node_at t.bytes kind) (keys_at t.bytes) m) (node_at t.bytes kind at).children

      abbrev lists_now : List (List (List ℕ))
      lists_now = map (keys_below (node_at u.bytes kind) (keys_at u.bytes) m) (node_at u.bytes kind at).children

      partly_lists : lists_now ≡ lists_then
      partly_lists =
          keyed_lists s u kind owned list r.start.apart partly (keys_at s.bytes) (keys_at u.bytes)
          (all_so (λ c. stands u.bytes c × (keys_at u.bytes c ≡ keys_at s.bytes c)) (λ c. keys_at u.bytes c ≡ keys_at s.bytes c) list (λ c is. is.1) stay) m at under
          ∙ sym (keyed_lists s t kind owned list r.start.apart retiring_keyed (keys_at s.bytes) (keys_at t.bytes) retiring_same m at under)

      -- one key more
      module _ (n : ℕ) (low : n < length (node_at t.bytes kind at).keys) (p : ArePartly hit lists_then (node_at t.bytes kind at).keys keys n) (v : Space) (key : List ℕ)
          (is : IsKeyRetired hit lists_now (node_at u.bytes kind at).keys n key)
          (x : IsRewritten u v kind at (record (node_at u.bytes kind at) { keys = slice_set (node_at u.bytes kind at).keys n key })) where
        keys_then : (node_at u.bytes kind at).keys ≡ keys
        keys_then = ap (λ (o : Node). o.keys) w.says

        pub key_more : ArePartly hit lists_then (node_at t.bytes kind at).keys (slice_set keys n key) (n + 1)
        key_more = subst (ArePartly hit lists_then (node_at t.bytes kind at).keys (slice_set keys n key)) (sym (add-one n))
            (partly_more hit lists_then (node_at t.bytes kind at).keys keys n key low p
            (subst (λ (ks : List (List ℕ)). IsKeyRetired hit lists_then ks n key) keys_then
            (subst (λ (ls : List (List (List ℕ))). IsKeyRetired hit ls (node_at u.bytes kind at).keys n key) partly_lists is)))

        pub key_written : IsRewritten t v kind at (record (node_at t.bytes kind at) { keys = slice_set keys n key })
        key_written = rewritten_then t u v kind at _ _ w (subst (λ (o : Node). IsRewritten u v kind at (record o { keys = slice_set o.keys n key })) w.says x)

    module _ (u : Space) (m at : ℕ) (under : IsSubtree V owned list (suc m) at) (w : IsNodeRewritten hit keys_at t u kind m at) where
      abbrev now : List (List ℕ)
      now = w.0

      -- the lists below are those of the start
      from_start : AreKeysRetired hit (lists at) (node_at t.bytes kind at).keys now
      from_start =
          subst (λ (ls : List (List (List ℕ))). AreKeysRetired hit ls (node_at t.bytes kind at).keys now)
          (keyed_lists s t kind owned list r.start.apart retiring_keyed (keys_at s.bytes) (keys_at t.bytes) retiring_same m at under
          ∙ ap (λ (l : ℕ). map (keys_below V (keys_at s.bytes) l) (V at).children) (sym under.1)) w.1

      pub here : IsNodeRetired hit keys_at s u kind at
      here = elim (at_listed (λ n. (node_at t.bytes kind n ≡ V n) ⊎ AreRetiredFrom hit keys_at s t kind owned list n) owned at r.nodes under.0) [
        | inl same ↦ (
          now,
          w.2.says ∙ ap (λ (o : Node). record o { keys = now }) same,
          subst (λ (o : Node). AreKeysRetired hit (lists at) o.keys now) same from_start,
        )
        | inr from ↦
            let retired = from.2.0 in
            let none = node_unhit at m under t retired in
            let stay : now ≡ (node_at t.bytes kind at).keys = unhit_same hit (lists at) (node_at t.bytes kind at).keys now none from_start in
            let old : (node_at t.bytes kind at).keys ≡ retired.0 = ap (λ (o : Node). o.keys) retired.1 in (
              retired.0,
              w.2.says ∙ ap (λ (ks : List (List ℕ)). record (node_at t.bytes kind at) { keys = ks }) (stay ∙ old)
                  ∙ ap (λ (o : Node). record o { keys = retired.0 }) retired.1,
              retired.2,
            )
      ]

      abbrev keyed : IsKeyed s u kind owned
      keyed = keyed_more s t u kind owned r.start.apart retiring_keyed at under.0 now w.2

      other : (n : ℕ) → Owns owned n → n ≢ at → node_at u.bytes kind n ≡ node_at t.bytes kind n
      other n is far = ap (node_of kind) (node_other s t u kind owned r.start.apart retiring_keyed at under.0 now w.2 n is far)

      pub kept : KeepsRetired hit keys_at s t u kind owned
      kept n is retired = at_or at n
          (λ same. subst (IsNodeRetired hit keys_at s u kind) (sym same) here)
          (λ far. (retired.0, other n is far ∙ retired.1, retired.2))

      module _ (below : AllByRecursion (AreRetiredBelow hit keys_at s t kind m) (V at).children) where
        -- so have those of all nodes below it
        pub here_below : AreRetiredBelow hit keys_at s u kind (suc m) at
        here_below = (
          here,
          all_two (IsSubtree V owned list m) (AreRetiredBelow hit keys_at s t kind m) (AreRetiredBelow hit keys_at s u kind m) (below_kept s t u kind owned list kept m) (V at).children
              under.2 below,
        )

        pub retiring_more : IsRetiring hit stands keys_at s u kind root level owned list
        retiring_more = record {
          start = r.start;
          nodes = all_from owned (λ n. (node_at u.bytes kind n ≡ V n) ⊎ AreRetiredFrom hit keys_at s u kind owned list n) (λ n is. at_or at n
              (λ same. inr (subst (AreRetiredFrom hit keys_at s u kind owned list) (sym same) (m, under, here_below)))
              (λ far. elim (at_listed (λ i. (node_at t.bytes kind i ≡ V i) ⊎ AreRetiredFrom hit keys_at s t kind owned list i) owned n r.nodes is) [
                | inl same ↦ inl (other n is far ∙ same)
                | inr from ↦ inr (from.0, from.1, below_kept s t u kind owned list kept (suc from.0) n from.1 from.2)
              ])) owned (all_listed owned);
          formed = keyed.formed;
          moves = keyed.moves;
        }

-- ---- the children of a node, one after another

pub got_below : (xs : List ℕ) (i c : ℕ) → slice_get xs i ≡ Some c → i < length xs
got_below [] zero c is = cc
got_below [] (suc i) c is = cc
got_below (x ∷ xs) zero c is = omega arith
got_below (x ∷ xs) (suc i) c is = let low = got_below xs i c is in omega (arith, low)

pub take_got : (xs : List ℕ) (i c : ℕ) → slice_get xs i ≡ Some c → take (suc i) xs ≡ take i xs ++ c ∷ []
take_got [] zero c is = cc
take_got [] (suc i) c is = cc
take_got (x ∷ xs) zero c is = let same : x ≡ c = cc in ap (λ (y : ℕ). y ∷ []) same
take_got (x ∷ xs) (suc i) c is = ap (λ (ys : List ℕ). x ∷ ys) (take_got xs i c is)

all_take : (P : ℕ → Type 0) (xs : List ℕ) (i : ℕ) → AllByRecursion P xs → AllByRecursion P (take i xs)
all_take P [] zero all = tt
all_take P [] (suc i) all = tt
all_take P (x ∷ xs) zero all = tt
all_take P (x ∷ xs) (suc i) all = (all.0, all_take P xs i all.1)

pub under_got : (V : Reading) (owned list : List ℕ) (level low at i child : ℕ) → level ≡ suc low → IsSubtree V owned list (suc level) at → slice_get (V at).children i ≡ Some child
    → IsSubtree V owned list (suc low) child
under_got V owned list level low at i child more under got =
    subst (λ (h : ℕ). IsSubtree V owned list h child) more (all_got (IsSubtree V owned list level) (V at).children i child got under.2)

module _ (hit : List ℕ → Bool) (keys_at : List ℕ → ℕ → List (List ℕ)) where
  -- nothing is below the children of a node of level 0
  pub none_below : (s t : Space) (kind : Kind) (level : ℕ) (xs : List ℕ) → level ≡ 0 → AllByRecursion (AreRetiredBelow hit keys_at s t kind level) xs
  none_below s t kind level [] zero_is = tt
  none_below s t kind level (x ∷ xs) zero_is = (
    subst (λ (h : ℕ). AreRetiredBelow hit keys_at s t kind h x) (sym zero_is) tt,
    none_below s t kind level xs zero_is,
  )

  -- one child more
  pub below_more : (stands : List ℕ → ℕ → Type 0) (s t u : Space) (kind : Kind) (owned list : List ℕ) (level low at i child : ℕ) → level ≡ suc low
      → IsSubtree (node_at s.bytes kind) owned list (suc level) at → slice_get (node_at s.bytes kind at).children i ≡ Some child → KeepsRetired hit keys_at s t u kind owned
      → AreRetiredBelow hit keys_at s u kind (suc low) child → AllByRecursion (AreRetiredBelow hit keys_at s t kind level) (take i (node_at s.bytes kind at).children)
      → AllByRecursion (AreRetiredBelow hit keys_at s u kind level) (take (i + 1) (node_at s.bytes kind at).children)
  below_more stands s t u kind owned list level low at i child more under got keep new done =
      let P = AreRetiredBelow hit keys_at s u kind level in
      let cs = (node_at s.bytes kind at).children in
      subst (AllByRecursion P) (sym (ap (λ (n : ℕ). take n cs) (add-one i) ∙ take_got cs i child got))
      (all_append P (take i cs) (child ∷ [])
      (all_two (IsSubtree (node_at s.bytes kind) owned list level) (AreRetiredBelow hit keys_at s t kind level) P
      (below_kept hit stands keys_at s t u kind owned list keep level) (take i cs) (all_take (IsSubtree (node_at s.bytes kind) owned list level) cs i under.2) done)
      (subst (λ (h : ℕ). AreRetiredBelow hit keys_at s u kind h child) (sym more) new, tt))

-- all of them
pub take_all : (xs : List ℕ) (n : ℕ) → n ≡ length xs → take n xs ≡ xs
take_all [] zero is = refl
take_all [] (suc n) is = refl
take_all (x ∷ xs) zero is = absurd (omega (arith, is))
take_all (x ∷ xs) (suc n) is = ap (λ (ys : List ℕ). x ∷ ys) (take_all xs n (omega (arith, is)))
