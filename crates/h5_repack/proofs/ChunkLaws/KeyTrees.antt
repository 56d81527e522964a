-- A tree is written the same whatever its keys are kept as, if their bytes are the same (File Format Specification 3.0, section III.A.1).
use Rattle.std.proofs.Common.{◌≡◌, ℕ, zero, suc, ◌+◌, ◌*◌, List, [], ◌∷◌, ◌++◌, length, map, take, drop, refl, sym, ap, ◌∙◌, true, false, Bool, cond}
use Rattle.std.proofs.lemmas.List.{drop-map, length-map, take-map}
use Rattle.std.specs.Prelude.{nat_le}
use Rattle.h5_bytes.specs.Bytes.{undefined_address}
use Rattle.h5_model.specs.Format.Nodes.{Kind, node_length}
use Rattle.h5_model.specs.Format.Plain.{node_bytes_of}
use Rattle.h5_btree.specs.declared.write.child.Child.{Child}
use Rattle.h5_btree.specs.Writing.Written.{as_children, chunks, cut_into_lists, last_below, places_of, right_of, row_bytes, row_place, rows_bytes, tree_bytes}
use Rattle.h5_btree.proofs.WriteLaws.TreeLaws.{tree_bytes_is}

pub cut_mapped : {X Y : Type 0} (f : X → Y) (n m : ℕ) (xs : List X) → cut_into_lists n m (map f xs) ≡ map (map f) (cut_into_lists n m xs)
cut_mapped f zero m xs = refl
cut_mapped {X = X} {Y = Y} f (suc n) m xs =
    ap (λ k. by_test (nat_le k m)) (length-map xs f)
    ∙ by_cases (nat_le (length xs) m) (ap (cut_into_lists n m) (drop-map f m xs) ∙ cut_mapped f n m (drop m xs)) where
      by_test : Bool → List (List Y)
      by_test b = cond b (map f xs ∷ []) (take m (map f xs) ∷ cut_into_lists n m (drop m (map f xs)))

      own : Bool → List (List X)
      own b = cond b (xs ∷ []) (take m xs ∷ cut_into_lists n m (drop m xs))

      by_cases : (b : Bool) → cut_into_lists n m (drop m (map f xs)) ≡ map (map f) (cut_into_lists n m (drop m xs)) → by_test b ≡ map (map f) (own b)
      by_cases true rest = refl
      by_cases false rest = λ i. take-map f m xs i ∷ rest i

module _ {K L : Type 0} (g : L → List ℕ) (h : K → L) (kind : Kind) where
  abbrev bytes : K → List ℕ
  bytes key = g (h key)

  -- a child with its key kept the other way
  abbrev pub kept : Child K → Child L
  kept c = record { at = c.at; key = h c.key }

  last_kept : (before : K) (cs : List (Child K)) → last_below (h before) (map kept cs) ≡ h (last_below before cs)
  last_kept before [] = refl
  last_kept before (c ∷ cs) = last_kept c.key cs

  behind_kept : (cs : List (Child K)) → map (λ (c : Child L). g c.key) (map kept cs) ≡ map (λ (c : Child K). bytes c.key) cs
  behind_kept [] = refl
  behind_kept (c ∷ cs) = ap (λ (ks : List (List ℕ)). bytes c.key ∷ ks) (behind_kept cs)

  places_kept : (cs : List (Child K)) → places_of (map kept cs) ≡ places_of cs
  places_kept [] = refl
  places_kept (c ∷ cs) = ap (λ (ns : List ℕ). c.at ∷ ns) (places_kept cs)

  right_kept : (at : ℕ) (css : List (List (Child K))) → right_of kind at (map (map kept) css) ≡ right_of kind at css
  right_kept at [] = refl
  right_kept at (c ∷ cs) = refl

  row_kept : (level left : ℕ) (before : K) (at : ℕ) (css : List (List (Child K)))
      → row_bytes kind g level left (h before) at (map (map kept) css) ≡ row_bytes kind bytes level left before at css
  row_kept level left before at [] = refl
  row_kept level left before at (c ∷ css) =
      let rest : row_bytes kind g level at (last_below (h before) (map kept c)) (at + node_length kind) (map (map kept) css)
      ≡ row_bytes kind bytes level at (last_below before c) (at + node_length kind) css
      = ap (λ (k : L). row_bytes kind g level at k (at + node_length kind) (map (map kept) css)) (last_kept before c)
      ∙ row_kept level at (last_below before c) (at + node_length kind) css in
      (λ i. node_bytes_of kind level left (right_kept at css i) (bytes before ∷ behind_kept c i) (places_kept c i) ++ rest i)

  raised_kept : (at : ℕ) (before : K) (css : List (List (Child K))) → as_children kind at (h before) (map (map kept) css) ≡ map kept (as_children kind at before css)
  raised_kept at before [] = refl
  raised_kept at before (c ∷ css) =
      let last = last_kept before c in
      let rest : as_children kind (at + node_length kind) (last_below (h before) (map kept c)) (map (map kept) css)
      ≡ map kept (as_children kind (at + node_length kind) (last_below before c) css)
      = ap (λ (k : L). as_children kind (at + node_length kind) k (map (map kept) css)) last ∙ raised_kept (at + node_length kind) (last_below before c) css in
      (λ i. (record { at = at; key = last i }) ∷ rest i)

  module _ (first : K) where
    rows_kept : (levels level at : ℕ) (cs : List (Child K)) → rows_bytes kind g (h first) levels level at (map kept cs) ≡ rows_bytes kind bytes first levels level at cs
    rows_kept zero level at cs = refl
    rows_kept (suc levels) level at cs =
        ap (λ n. by_count n) (length-map cs kept) ∙ by_cases (nat_le (length cs) (2 * kind.k)) (λ upper. rows_kept levels (level + 1) at upper) where
          -- the rows over so many children
          by_test : ℕ → Bool → List ℕ
          by_test n b = cond b (row_bytes kind g level undefined_address (h first) at (map kept cs ∷ []))
              (rows_bytes kind g (h first) levels (level + 1) at (as_children kind (row_place levels kind at n) (h first) (cut_into_lists n (2 * kind.k) (map kept cs)))
              ++ row_bytes kind g level undefined_address (h first) (row_place levels kind at n) (cut_into_lists n (2 * kind.k) (map kept cs)))

          by_count : ℕ → List ℕ
          by_count n = by_test n (nat_le n (2 * kind.k))

          own : Bool → List ℕ
          own b = cond b (row_bytes kind bytes level undefined_address first at (cs ∷ []))
              (rows_bytes kind bytes first levels (level + 1) at (as_children kind (row_place levels kind at (length cs)) first (chunks (2 * kind.k) cs))
              ++ row_bytes kind bytes level undefined_address first (row_place levels kind at (length cs)) (chunks (2 * kind.k) cs))

          by_cases : (b : Bool)
              → ((upper : List (Child K)) → rows_bytes kind g (h first) levels (level + 1) at (map kept upper) ≡ rows_bytes kind bytes first levels (level + 1) at upper)
              → by_test (length cs) b ≡ own b
          by_cases true again = row_kept level undefined_address first at (cs ∷ [])
          by_cases false again =
              let place : ℕ = row_place levels kind at (length cs) in
              let cut : cut_into_lists (length cs) (2 * kind.k) (map kept cs) ≡ map (map kept) (chunks (2 * kind.k) cs) = cut_mapped kept (length cs) (2 * kind.k) cs in
              let upper : as_children kind place (h first) (cut_into_lists (length cs) (2 * kind.k) (map kept cs)) ≡ map kept (as_children kind place first (chunks (2 * kind.k) cs))
              = ap (as_children kind place (h first)) cut ∙ raised_kept place first (chunks (2 * kind.k) cs) in
              let above = ap (rows_bytes kind g (h first) levels (level + 1) at) upper ∙ again (as_children kind place first (chunks (2 * kind.k) cs)) in
              let row = ap (row_bytes kind g level undefined_address (h first) place) cut ∙ row_kept level undefined_address first place (chunks (2 * kind.k) cs) in
              (λ i. above i ++ row i)

    pub tree_kept : (at : ℕ) (cs : List (Child K)) → tree_bytes kind g (h first) at (map kept cs) ≡ tree_bytes kind bytes first at cs
    tree_kept at cs =
        tree_bytes_is kind g (h first) at (map kept cs) ∙ rows_kept 64 0 at cs ∙ sym (tree_bytes_is kind bytes first at cs)
