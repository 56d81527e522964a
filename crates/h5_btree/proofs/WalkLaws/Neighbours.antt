-- A row whose nodes name their neighbours, from left to right.
use Rattle.std.proofs.Common.{◌≡◌, ◌≢◌, ℕ, ◌+◌, ◌<◌, ◌≤◌, ◌⊎◌, inl, inr, List, [], ◌∷◌, ◌++◌, length, take, drop, get_or, refl, sym, ap, ◌∙◌, subst, add-one, drop-cons}
use Rattle.std.proofs.Math.Seq.{take-suc}
use Rattle.std.proofs.lemmas.List.{take-append-drop, append-nil, drop_all}
use Rattle.h5_bytes.specs.Bytes.{undefined_address}
use Rattle.h5_model.specs.Format.Rows.{Reading, IsRow, next_row, first_or_undefined}
use Rattle.h5_model.specs.Faults.TreeFaults.{last_or_undefined}
use Rattle.h5_btree.specs.Walk.Rows.{IsMisnamed}
use Rattle.h5_btree.proofs.LeafLaws.{next_row-append}

pub first_there : (xs : List ℕ) (n d : ℕ) → n < length xs → first_or_undefined (drop n xs) ≡ get_or xs n d
first_there xs n d low = ap first_or_undefined (drop-cons xs n d low)

pub first_none : (xs : List ℕ) (n : ℕ) → length xs ≤ n → first_or_undefined (drop n xs) ≡ undefined_address
first_none xs n past = ap first_or_undefined (drop_all n xs past)

last_snoc : (xs : List ℕ) (x : ℕ) → last_or_undefined (xs ++ x ∷ []) ≡ x
last_snoc [] x = refl
last_snoc (y ∷ []) x = refl
last_snoc (y ∷ z ∷ xs) x = last_snoc (z ∷ xs) x

pub last_taken : (xs : List ℕ) (k d : ℕ) → k < length xs → last_or_undefined (take (k + 1) xs) ≡ get_or xs k d
last_taken xs k d low = rw add-one (ap last_or_undefined (take-suc xs k d low) ∙ last_snoc (take k xs) (get_or xs k d))

pub parted : (xs : List ℕ) (k d : ℕ) → k < length xs → xs ≡ take k xs ++ get_or xs k d ∷ drop (k + 1) xs
parted xs k d low = rw add-one (sym (take-append-drop k xs) ∙ ap (λ (ys : List ℕ). take k xs ++ ys) (drop-cons xs k d low))

module _ (V : Reading) where
  -- one node more names its neighbours
  pub row_step : (level left : ℕ) (xs : List ℕ) (k d : ℕ) → k < length xs → (V (get_or xs k d)).level ≡ level → (V (get_or xs k d)).left ≡ left
      → (V (get_or xs k d)).right ≡ first_or_undefined (drop (k + 1) xs) → IsRow V level (get_or xs k d) (drop (k + 1) xs) → IsRow V level left (drop k xs)
  row_step level left xs k d low high is_left is_right rest =
      subst (IsRow V level left) (sym (rw (← add-one) at (drop-cons xs k d low))) (high, is_left, is_right, rest)

  -- the node does not
  pub misnamed_at : (xs : List ℕ) (k d left right : ℕ) → k < length xs → left ≡ last_or_undefined (take k xs) → right ≡ first_or_undefined (drop (k + 1) xs)
      → (((V (get_or xs k d)).left ≢ left) ⊎ ((V (get_or xs k d)).right ≢ right)) → IsMisnamed V xs (get_or xs k d)
  misnamed_at xs k d left right low is_left is_right (inl wrong) = (take k xs, drop (k + 1) xs, parted xs k d low, inl (λ e. wrong (e ∙ sym is_left)))
  misnamed_at xs k d left right low is_left is_right (inr wrong) = (take k xs, drop (k + 1) xs, parted xs k d low, inr (λ e. wrong (e ∙ sym is_right)))

  -- the next row, node by node
  pub next_taken : (xs : List ℕ) (k d : ℕ) → k < length xs → next_row V (take (k + 1) xs) ≡ next_row V (take k xs) ++ (V (get_or xs k d)).children
  next_taken xs k d low =
      let one : next_row V (get_or xs k d ∷ []) ≡ (V (get_or xs k d)).children = append-nil (V (get_or xs k d)).children in
      rw add-one (ap (next_row V) (take-suc xs k d low) ∙ next_row-append V (take k xs) (get_or xs k d ∷ [])
      ∙ ap (λ (ys : List ℕ). next_row V (take k xs) ++ ys) one)
