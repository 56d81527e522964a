-- A table after an edit of its places.
use Rattle.std.proofs.Common.{◌≡◌, ℕ, ◌+◌, ◌-◌, ◌<◌, ◌≤◌, length, get_or, take, drop, sym, ap, ◌∙◌, arith, inl, inr}
use Rattle.std.specs.List.{insert, remove}
use Rattle.h5_bytes.specs.Tables.{table}
use Rattle.std.proofs.lemmas.List.{same_lists, length-take, length-drop, get_or-take, get_or-drop}
use Rattle.std.proofs.lemmas.List.FromFn.{length-map-range_with_len, get_or-map-range_with_len}
use Rattle.std.proofs.lemmas.List.Edits.{length-insert, length-remove, get_or-insert_below, get_or-insert_at, get_or-insert_above, get_or-remove_below, get_or-remove_above}
use Rattle.std.proofs.lemmas.Bool.{cases_lt, cases_order}

module _ {X : Type 0} (f g : ℕ → X) (n k : ℕ) where
  pub length-table : length (table f n) ≡ n
  length-table = length-map-range_with_len f 0 n

  pub get_or-table : (d : X) → k < n → get_or (table f n) k d ≡ f k
  get_or-table d h = get_or-map-range_with_len f 0 n k k d h (omega arith)

module _ {X : Type 0} (f g : ℕ → X) (n k : ℕ) where
  -- the same values
  pub table_same : ((j : ℕ) → j < n → g j ≡ f j) → table g n ≡ table f n
  table_same same =
      let a = length-table f g n 0 in let b = length-table g f n 0 in
      same_lists _ _ (omega arith) (λ j d l.
      let h : j < n = omega arith in
      get_or-table g f n j d h ∙ same j h ∙ sym (get_or-table f g n j d h))

  -- a value comes in at place k
  pub table_insert : (x : X) → k ≤ n → ((j : ℕ) → j < k → g j ≡ f j) → g k ≡ x → ((j : ℕ) → k ≤ j → j < n → g (j + 1) ≡ f j) →
      table g (n + 1) ≡ insert (table f n) k x
  table_insert x h below here above =
      let a = length-table f g n 0 in let b = length-table g f (n + 1) 0 in
      let le : k ≤ length (table f n) = omega arith in
      let c = length-insert (table f n) k x le in
      same_lists _ _ (omega arith) (λ j d l.
      let hj : j < n + 1 = omega arith in
      get_or-table g f (n + 1) j d hj ∙ elim (cases_order j k) [
        | inl eq ↦ ap g eq ∙ here ∙ sym (ap (λ i. get_or (insert (table f n) k x) i d) eq ∙ get_or-insert_at (table f n) k x d le)
        | inr w ↦ elim w [
          | inl lt ↦ below j lt ∙ sym (get_or-insert_below (table f n) k x d j lt le ∙ get_or-table f g n j d (omega arith))
          | inr gt ↦
              let e : j ≡ (j - 1) + 1 = omega arith in
              ap g e ∙ above (j - 1) (omega arith) (omega arith)
              ∙ sym (ap (λ i. get_or (insert (table f n) k x) i d) e ∙ get_or-insert_above (table f n) k x d (j - 1) (omega arith) le ∙ get_or-table f g n (j - 1) d (omega arith))
        ]
      ])

  -- the value at place k goes
  pub table_remove : k < n → ((j : ℕ) → j < k → g j ≡ f j) → ((j : ℕ) → k ≤ j → j + 1 < n → g j ≡ f (j + 1)) →
      table g (n - 1) ≡ remove (table f n) k
  table_remove h below above =
      let a = length-table f g n 0 in let b = length-table g f (n - 1) 0 in
      let lt : k < length (table f n) = omega arith in
      let c = length-remove (table f n) k lt in
      same_lists _ _ (omega arith) (λ j d l.
      let hj : j < n - 1 = omega arith in
      get_or-table g f (n - 1) j d hj ∙ elim (cases_lt j k) [
        | inl under ↦ below j under ∙ sym (get_or-remove_below (table f n) k d j under lt ∙ get_or-table f g n j d (omega arith))
        | inr over ↦ above j over (omega arith) ∙ sym (get_or-remove_above (table f n) k d j over lt ∙ get_or-table f g n (j + 1) d (omega arith))
      ])

  -- the first k values
  pub table_take : k ≤ n → ((j : ℕ) → j < k → g j ≡ f j) → table g k ≡ take k (table f n)
  table_take h same =
      let a = length-table f g n 0 in let b = length-table g f k 0 in
      let c = length-take k (table f n) in
      same_lists _ _ (omega arith) (λ j d l.
      let hj : j < k = omega arith in
      get_or-table g f k j d hj ∙ same j hj ∙ sym (get_or-take k (table f n) j d hj ∙ get_or-table f g n j d (omega arith)))

  -- the values from place k on
  pub table_drop : k ≤ n → ((j : ℕ) → k + j < n → g j ≡ f (k + j)) → table g (n - k) ≡ drop k (table f n)
  table_drop h same =
      let a = length-table f g n 0 in let b = length-table g f (n - k) 0 in
      let c = length-drop k (table f n) in
      same_lists _ _ (omega arith) (λ j d l.
      let hj : j < n - k = omega arith in
      get_or-table g f (n - k) j d hj ∙ same j (omega arith) ∙ sym (get_or-drop k (table f n) j d ∙ get_or-table f g n (k + j) d (omega arith)))
