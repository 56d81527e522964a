-- What a node's bytes say after another level was written, or after children at its front or its end went.
use Rattle.std.proofs.Common.{◌≡◌, ◌⊎◌, inl, inr, ℕ, ◌+◌, ◌-◌, ◌*◌, ◌^◌, ◌<◌, ◌≤◌, List, [], ◌∷◌, length, take, drop, sym, ap, ◌∙◌, arith, rules}
use Rattle.std.specs.Prelude.{slice_set}
use Rattle.std.specs.List.{copy_within}
use Rattle.std.proofs.lemmas.List.{places, get_or-set_same, get_or-set_other, same_lists}
use Rattle.h5_bytes.specs.Bytes.{byte_at, little_bytes, number_at, part, with_field, with_part}
use Rattle.h5_bytes.specs.Tables.{table}
use Rattle.h5_bytes.proofs.PartLaws.{with_part_is, part-with_part_other, part-copy_within, part-copy_within_other}
use Rattle.h5_bytes.proofs.FieldLaws.{number_at-with_field, number_at-with_part_other}
use Rattle.h5_bytes.proofs.TableLaws.{table_take, table_drop}
use Rattle.h5_model.specs.Format.Nodes.{Kind, IsNode, node_of, node_length, entries_in, key_in, key_place, child_in}
use Rattle.h5_btree.proofs.NodeEdits.{place_before, place_within, level_same, form_same, left_same, right_same, number_moved, keys_stay, children_stay, end_fits}
use Rattle.h5_btree.proofs.NodeMoves.{length-copy_within}

-- ---- the level

module _ (kind : Kind) (bytes : List ℕ) (x : ℕ) (long : length bytes ≡ node_length kind) (form : IsNode kind bytes) where
  abbrev level_written : List ℕ
  level_written = slice_set bytes 5 x

  level_part : level_written ≡ with_part 5 (x ∷ []) bytes
  level_part = sym (with_part_is 5 (x ∷ []) bytes (omega (arith, long)) ∙ same_lists _ _ (search (rules, places)) (λ k d l. grind (arith, places)))

  level_other : (a n : ℕ) → (a + n ≤ 5) ⊎ (6 ≤ a) → part a n level_written ≡ part a n bytes
  level_other a n far = ap (part a n) level_part ∙ part-with_part_other 5 (x ∷ []) bytes a n (omega (arith, long)) far

  level_count : entries_in level_written ≡ entries_in bytes
  level_count = ap (λ (b : List ℕ). number_at b 6 2) level_part ∙ number_at-with_part_other 5 (x ∷ []) bytes 6 2 (omega (arith, long)) (inr (omega arith))

  pub level_says : node_of kind level_written ≡ record (node_of kind bytes) { level = x }
  unfolding node_of
  level_says =
      let neighbours = level_other 8 16 (inr (omega arith)) in
      let level : byte_at level_written 5 ≡ x = get_or-set_same bytes 5 x 0 (omega (arith, long)) in
      let left = left_same bytes level_written neighbours in
      let right = right_same bytes level_written neighbours in
      let body : (a n : ℕ) → 24 ≤ a → part a n level_written ≡ part a n bytes = λ a n low. level_other a n (inr (omega (arith, low))) in
      let keys = keys_stay kind bytes level_written level_count body in
      let children = children_stay kind bytes level_written level_count body in
      λ i. record { level = level i; left = left i; right = right i; keys = keys i; children = children i }

  pub level_form : IsNode kind level_written
  level_form = record {
    signed = level_other 0 4 (inl (omega arith)) ∙ form.signed;
    type_byte = get_or-set_other bytes 5 4 x 0 (λ e. absurd (omega (arith, e))) ∙ form.type_byte;
    roomy = omega (arith, level_count, form.roomy);
  }

-- ---- the first children stay

module _ (kind : Kind) (bytes : List ℕ) (k : ℕ) (long : length bytes ≡ node_length kind) (form : IsNode kind bytes) (place : k ≤ entries_in bytes) (few : k < 2 ^ 16) where
  abbrev front_kept : List ℕ
  front_kept = with_field bytes 6 2 k

  kept_other : (a n : ℕ) → (a + n ≤ 6) ⊎ (8 ≤ a) → part a n front_kept ≡ part a n bytes
  kept_other a n far = part-with_part_other 6 (little_bytes 2 k) bytes a n (omega (arith, long)) far

  kept_count : entries_in front_kept ≡ k
  kept_count = number_at-with_field bytes 6 2 k (omega (arith, long)) few

  pub kept_says : node_of kind front_kept
      ≡ record (node_of kind bytes) { keys = take (k + 1) (node_of kind bytes).keys; children = take k (node_of kind bytes).children }
  unfolding node_of
  kept_says =
      let level = level_same kind bytes front_kept (kept_other 0 6 (inl (omega arith))) in
      let neighbours = kept_other 8 16 (inr (omega arith)) in
      let left = left_same bytes front_kept neighbours in
      let right = right_same bytes front_kept neighbours in
      let keys : table (key_in kind front_kept) (entries_in front_kept + 1) ≡ take (k + 1) (table (key_in kind bytes) (entries_in bytes + 1))
      = ap (λ (n : ℕ). table (key_in kind front_kept) (n + 1)) kept_count
      ∙ table_take (key_in kind bytes) (key_in kind front_kept) (entries_in bytes + 1) (k + 1) (omega (arith, place))
      (λ j low. kept_other (key_place kind j) kind.key_length (inr (omega arith))) in
      let children : table (child_in kind front_kept) (entries_in front_kept) ≡ take k (table (child_in kind bytes) (entries_in bytes))
      = ap (table (child_in kind front_kept)) kept_count
      ∙ table_take (child_in kind bytes) (child_in kind front_kept) (entries_in bytes) k place
      (λ j low. let p = key_place kind j + kind.key_length in number_moved bytes front_kept p p 8 (kept_other p 8 (inr (omega arith)))) in
      λ i. record { level = level i; left = left i; right = right i; keys = keys i; children = children i }

  pub kept_form : IsNode kind front_kept
  kept_form = form_same kind bytes front_kept (kept_other 0 6 (inl (omega arith))) (omega (arith, kept_count, place, form.roomy)) form

-- ---- the first children go

module _ (kind : Kind) (bytes : List ℕ) (k n : ℕ) (is : n ≡ entries_in bytes) (long : length bytes ≡ node_length kind) (form : IsNode kind bytes)
    (place : k ≤ n) (few : n < 2 ^ 16) where
  abbrev start : ℕ
  start = key_place kind k

  abbrev end : ℕ
  end = key_place kind n + kind.key_length

  abbrev dest : ℕ
  dest = key_place kind 0

  abbrev width : ℕ
  width = k * (kind.key_length + 8)

  abbrev pub moved_front : List ℕ
  moved_front = copy_within bytes (key_place kind k) (key_place kind n + kind.key_length) (key_place kind 0)

  abbrev pub front_dropped : List ℕ
  front_dropped = with_field moved_front 6 2 (n - k)

  in_order : start ≤ end
  in_order = let p = place_within kind k n place in omega arith

  pub length-moved_front : length moved_front ≡ length bytes
  length-moved_front = let o = in_order in let e = end_fits kind bytes n is long form in length-copy_within bytes start end dest o e (omega arith)

  head_stays : (a m : ℕ) → (a + m ≤ 6) ⊎ (8 ≤ a) → a + m ≤ dest → part a m front_dropped ≡ part a m bytes
  head_stays a m far low =
      let o = in_order in let e = end_fits kind bytes n is long form in let l = length-moved_front in
      part-with_part_other 6 (little_bytes 2 (n - k)) moved_front a m (omega (arith, long)) far
      ∙ part-copy_within_other bytes start end dest a m o e (omega arith) (inl (omega arith))

  comes : (a m : ℕ) → dest ≤ a → a + m + width ≤ end → part a m front_dropped ≡ part (a + width) m bytes
  comes a m low high =
      let o = in_order in let e = end_fits kind bytes n is long form in let l = length-moved_front in
      part-with_part_other 6 (little_bytes 2 (n - k)) moved_front a m (omega (arith, long)) (inr (omega arith))
      ∙ part-copy_within bytes start end dest a (a + width) m o e (omega arith) low (omega arith) (omega arith)

  count_left : entries_in front_dropped ≡ n - k
  count_left = let l = length-moved_front in number_at-with_field moved_front 6 2 (n - k) (omega (arith, long)) (omega (arith, few))

  place_further : (i : ℕ) → key_place kind (k + i) ≡ key_place kind i + width
  place_further i = omega arith

  pub dropped_says : node_of kind front_dropped
      ≡ record (node_of kind bytes) { keys = drop k (node_of kind bytes).keys; children = drop k (node_of kind bytes).children }
  unfolding node_of
  dropped_says =
      let level = level_same kind bytes front_dropped (head_stays 0 6 (inl (omega arith)) (omega arith)) in
      let neighbours = head_stays 8 16 (inr (omega arith)) (omega arith) in
      let left = left_same bytes front_dropped neighbours in
      let right = right_same bytes front_dropped neighbours in
      let more : n - k + 1 ≡ n + 1 - k = omega (arith, place) in
      let keys : table (key_in kind front_dropped) (entries_in front_dropped + 1) ≡ drop k (table (key_in kind bytes) (entries_in bytes + 1))
      = ap (λ (c : ℕ). table (key_in kind front_dropped) (c + 1)) count_left ∙ ap (table (key_in kind front_dropped)) more
      ∙ table_drop (key_in kind bytes) (key_in kind front_dropped) (n + 1) k (omega (arith, place))
      (λ i low.
      let t = place_within kind (k + i) n (omega (arith, low)) in
      let x = place_further i in
      comes (key_place kind i) kind.key_length (omega arith) (omega arith) ∙ ap (λ (p : ℕ). part p kind.key_length bytes) (sym x))
      ∙ ap (λ (c : ℕ). drop k (table (key_in kind bytes) (c + 1))) is in
      let children : table (child_in kind front_dropped) (entries_in front_dropped) ≡ drop k (table (child_in kind bytes) (entries_in bytes))
      = ap (table (child_in kind front_dropped)) count_left
      ∙ table_drop (child_in kind bytes) (child_in kind front_dropped) n k place
      (λ i low.
      let t = place_before kind (k + i) n low in
      let x = place_further i in
      let p = key_place kind i + kind.key_length in
      let e : key_place kind (k + i) + kind.key_length ≡ p + width = omega arith in
      number_moved bytes front_dropped (p + width) p 8 (comes p 8 (omega arith) (omega arith)) ∙ ap (λ (q : ℕ). number_at bytes q 8) (sym e))
      ∙ ap (λ (c : ℕ). drop k (table (child_in kind bytes) c)) is in
      λ i. record { level = level i; left = left i; right = right i; keys = keys i; children = children i }

  pub dropped_form : IsNode kind front_dropped
  dropped_form = form_same kind bytes front_dropped (head_stays 0 6 (inl (omega arith)) (omega arith)) (let c = count_left in omega (arith, is, form.roomy)) form

  pub drop_fits : (s e d k₁ : ℕ) → s ≡ key_place kind k → e ≡ key_place kind n → d ≡ key_place kind 0 → k₁ ≡ kind.key_length → d + (e + k₁ - s) ≤ length bytes
  drop_fits s e d k₁ first last to one = let o = in_order in let f = end_fits kind bytes n is long form in omega (arith, first, last, to, one)

  -- the same from the writes of the code
  pub front_dropped_is : (s e d k₁ : ℕ) (moved last : List ℕ) → s ≡ key_place kind k → e ≡ key_place kind n → d ≡ key_place kind 0 → k₁ ≡ kind.key_length
      → moved ≡ copy_within bytes s (e + k₁) d → last ≡ with_field moved 6 2 (n - k) → last ≡ front_dropped
  front_dropped_is s e d k₁ moved last first end to one m l =
      l ∙ ap (λ (y : List ℕ). with_field y 6 2 (n - k)) (m ∙ (λ i. copy_within bytes (first i) (end i + one i) (to i)))
