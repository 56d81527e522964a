-- What a node's bytes say after a child and a key were put in, or taken out.
use Rattle.std.proofs.Common.{◌≡◌, ◌⊎◌, inl, inr, ℕ, ◌+◌, ◌-◌, ◌*◌, ◌^◌, ◌<◌, ◌≤◌, List, length, sym, ap, ◌∙◌, arith, rules}
use Rattle.std.specs.List.{insert, remove, copy_within}
use Rattle.std.proofs.lemmas.List.{places}
use borrow.Rule.Slice.PartMut.{put_mid}
use Rattle.h5_bytes.specs.Bytes.{little_bytes, number_at, part, with_field, with_part}
use Rattle.h5_bytes.specs.Tables.{table}
use Rattle.h5_bytes.proofs.PartLaws.{length-with_part, part-with_part_same, part-with_part_other, part-copy_within, part-copy_within_other, put_mid_is}
use Rattle.h5_bytes.proofs.FieldLaws.{number_at-with_field, number_at-with_part_other}
use Rattle.h5_bytes.proofs.TableLaws.{table_insert, table_remove}
use Rattle.h5_model.specs.Format.Nodes.{Kind, IsNode, node_of, node_length, entries_in, key_in, key_place, child_in}
use Rattle.h5_btree.proofs.NodeEdits.{place_next, place_before, place_within, key_fits, level_same, form_same, left_same, right_same, number_moved, end_fits}

pub length-copy_within : (xs : List ℕ) (from to dest : ℕ) → from ≤ to → to ≤ length xs → dest + (to - from) ≤ length xs → length (copy_within xs from to dest) ≡ length xs
length-copy_within xs from to dest a b c = search (rules, places)

module _ (kind : Kind) (bytes key : List ℕ) (j child n : ℕ) (is : n ≡ entries_in bytes) (long : length bytes ≡ node_length kind) (form : IsNode kind bytes)
    (place : j ≤ n) (room : n < 2 * kind.k) (width : length key ≡ kind.key_length) (small : child < 2 ^ 64) (few : n + 1 < 2 ^ 16) where
  abbrev from : ℕ
  from = key_place kind j

  abbrev to : ℕ
  to = key_place kind n + kind.key_length

  abbrev step : ℕ
  step = kind.key_length + 8

  abbrev pub shifted : List ℕ
  shifted = copy_within bytes (key_place kind j) (key_place kind n + kind.key_length) (key_place kind j + kind.key_length + 8)

  abbrev pub keyed : List ℕ
  keyed = with_part (key_place kind j) key shifted

  abbrev pub childed : List ℕ
  childed = with_field keyed (key_place kind j + kind.key_length) 8 child

  abbrev pub put_in : List ℕ
  put_in = with_field childed 6 2 (n + 1)

  within : from ≤ to
  within = let p = place_within kind j n place in omega arith

  fits : to + step ≤ length bytes
  fits =
      let e = place_next kind n in
      let f = key_fits kind (n + 1) (omega (arith, room)) in
      omega (arith, long)

  pub length-shifted : length shifted ≡ length bytes
  length-shifted = let w = within in let f = fits in
      length-copy_within bytes from to (key_place kind j + kind.key_length + 8) w (omega arith) (omega arith)

  pub length-keyed : length keyed ≡ length bytes
  length-keyed = let w = within in let f = fits in let l = length-shifted in
      length-with_part from key shifted (omega (arith, width)) ∙ l

  pub length-childed : length childed ≡ length bytes
  length-childed = let w = within in let f = fits in let l = length-keyed in
      length-with_part (from + kind.key_length) (little_bytes 8 child) keyed (omega arith) ∙ l

  below : (a m : ℕ) → (a + m ≤ 6) ⊎ (8 ≤ a) → a + m ≤ from → part a m put_in ≡ part a m bytes
  below a m far low =
      let w = within in let f = fits in let ls = length-shifted in let lk = length-keyed in let lc = length-childed in
      part-with_part_other 6 (little_bytes 2 (n + 1)) childed a m (omega (arith, long)) far
      ∙ part-with_part_other (from + kind.key_length) (little_bytes 8 child) keyed a m (omega arith) (inl (omega arith))
      ∙ part-with_part_other from key shifted a m (omega (arith, width)) (inl low)
      ∙ part-copy_within_other bytes from to (key_place kind j + kind.key_length + 8) a m w (omega arith) (omega arith) (inl (omega arith))

  above : (a m : ℕ) → from ≤ a → a + m ≤ to → part (a + step) m put_in ≡ part a m bytes
  above a m low high =
      let w = within in let f = fits in let ls = length-shifted in let lk = length-keyed in let lc = length-childed in
      part-with_part_other 6 (little_bytes 2 (n + 1)) childed (a + step) m (omega (arith, long)) (inr (omega arith))
      ∙ part-with_part_other (from + kind.key_length) (little_bytes 8 child) keyed (a + step) m (omega arith) (inr (omega arith))
      ∙ part-with_part_other from key shifted (a + step) m (omega (arith, width)) (inr (omega (arith, width)))
      ∙ part-copy_within bytes from to (key_place kind j + kind.key_length + 8) (a + step) a m w (omega arith) (omega arith) (omega arith) (omega arith) (omega arith)

  key_here : part from kind.key_length put_in ≡ key
  key_here =
      let w = within in let f = fits in let ls = length-shifted in let lk = length-keyed in let lc = length-childed in
      part-with_part_other 6 (little_bytes 2 (n + 1)) childed from kind.key_length (omega (arith, long)) (inr (omega arith))
      ∙ part-with_part_other (from + kind.key_length) (little_bytes 8 child) keyed from kind.key_length (omega arith) (inl (omega arith))
      ∙ part-with_part_same from kind.key_length key shifted (sym width) (omega (arith, width))

  child_here : number_at put_in (from + kind.key_length) 8 ≡ child
  child_here =
      let w = within in let f = fits in let lk = length-keyed in let lc = length-childed in
      number_at-with_part_other 6 (little_bytes 2 (n + 1)) childed (from + kind.key_length) 8 (omega (arith, long)) (inr (omega arith))
      ∙ number_at-with_field keyed (from + kind.key_length) 8 child (omega arith) small

  count_here : entries_in put_in ≡ n + 1
  count_here = let lc = length-childed in number_at-with_field childed 6 2 (n + 1) (omega (arith, long)) few

  pub put_in_says : node_of kind put_in
      ≡ record (node_of kind bytes) { keys = insert (node_of kind bytes).keys j key; children = insert (node_of kind bytes).children j child }
  unfolding node_of
  put_in_says =
      let level = level_same kind bytes put_in (below 0 6 (inl (omega arith)) (omega arith)) in
      let neighbours = below 8 16 (inr (omega arith)) (omega arith) in
      let left = left_same bytes put_in neighbours in
      let right = right_same bytes put_in neighbours in
      let keys : table (key_in kind put_in) (entries_in put_in + 1) ≡ insert (table (key_in kind bytes) (entries_in bytes + 1)) j key
      = ap (λ (k : ℕ). table (key_in kind put_in) (k + 1)) count_here
      ∙ table_insert (key_in kind bytes) (key_in kind put_in) (n + 1) j key (omega (arith, place))
      (λ i less. let b = place_before kind i j less in below (key_place kind i) kind.key_length (inr (omega arith)) (omega arith))
      key_here
      (λ i more low.
      let b = place_within kind j i more in
      let t = place_within kind i n (omega (arith, low)) in
      ap (λ (p : ℕ). part p kind.key_length put_in) (place_next kind i) ∙ above (key_place kind i) kind.key_length b (omega arith))
      ∙ ap (λ (k : ℕ). insert (table (key_in kind bytes) (k + 1)) j key) is in
      let children : table (child_in kind put_in) (entries_in put_in) ≡ insert (table (child_in kind bytes) (entries_in bytes)) j child
      = ap (table (child_in kind put_in)) count_here
      ∙ table_insert (child_in kind bytes) (child_in kind put_in) n j child place
      (λ i less.
      let b = place_before kind i j less in
      let p = key_place kind i + kind.key_length in
      number_moved bytes put_in p p 8 (below p 8 (inr (omega arith)) (omega arith)))
      child_here
      (λ i more low.
      let b = place_within kind j i more in
      let t = place_before kind i n low in
      let p = key_place kind i + kind.key_length in
      let e : key_place kind (i + 1) + kind.key_length ≡ p + step = let x = place_next kind i in omega arith in
      ap (λ (q : ℕ). number_at put_in q 8) e ∙ number_moved bytes put_in p (p + step) 8 (above p 8 (omega arith) (omega arith)))
      ∙ ap (λ (k : ℕ). insert (table (child_in kind bytes) k) j child) is in
      λ i. record { level = level i; left = left i; right = right i; keys = keys i; children = children i }

  pub put_in_form : IsNode kind put_in
  put_in_form = form_same kind bytes put_in (below 0 6 (inl (omega arith)) (omega arith)) (let c = count_here in omega (arith, room)) form

  -- where the code moves bytes to
  pub shift_fits : (p e k₁ k₂ : ℕ) → p ≡ key_place kind j → e ≡ key_place kind n → k₁ ≡ kind.key_length → k₂ ≡ kind.key_length → p + k₁ + 8 + (e + k₂ - p) ≤ length bytes
  shift_fits p e k₁ k₂ at end one two = let w = within in let f = fits in omega (arith, at, end, one, two)

  -- the same from the writes of the code, one after another
  pub put_in_is : (p e k₁ k₂ : ℕ) (moved body next last : List ℕ) → p ≡ key_place kind j → e ≡ key_place kind n → k₁ ≡ kind.key_length → k₂ ≡ kind.key_length
      → moved ≡ copy_within bytes p (e + k₂) (p + k₁ + 8) → body ≡ key → next ≡ with_field (put_mid p (p + k₁ - p) moved body) (p + k₁) 8 child
      → last ≡ with_field next 6 2 (n + 1) → last ≡ put_in
  put_in_is p e k₁ k₂ moved body next last at end one two m b x l =
      let w = within in
      let f = fits in
      let ls = length-shifted in
      let first : moved ≡ shifted = m ∙ (λ i. copy_within bytes (at i) (end i + two i) (at i + one i + 8)) in
      let wide : length body ≡ kind.key_length = ap (λ (y : List ℕ). length y) b ∙ width in
      let long_moved : length moved ≡ length bytes = ap (λ (y : List ℕ). length y) first ∙ ls in
      let second : put_mid p (p + k₁ - p) moved body ≡ keyed
      = put_mid_is p (p + k₁ - p) moved body (omega (arith, wide, one)) (omega (arith, long_moved, at, one)) ∙ (λ i. with_part (at i) (b i) (first i)) in
      l ∙ ap (λ (y : List ℕ). with_field y 6 2 (n + 1)) (x ∙ (λ i. with_field (second i) (at i + one i) 8 child))

module _ (kind : Kind) (bytes : List ℕ) (j n : ℕ) (is : n ≡ entries_in bytes) (long : length bytes ≡ node_length kind) (form : IsNode kind bytes)
    (place : j < n) (few : n < 2 ^ 16) where
  abbrev start : ℕ
  start = key_place kind (j + 1)

  abbrev end : ℕ
  end = key_place kind n + kind.key_length

  abbrev dest : ℕ
  dest = key_place kind j

  abbrev width_of : ℕ
  width_of = kind.key_length + 8

  abbrev pub shifted_back : List ℕ
  shifted_back = copy_within bytes (key_place kind (j + 1)) (key_place kind n + kind.key_length) (key_place kind j)

  abbrev pub taken_out : List ℕ
  taken_out = with_field shifted_back 6 2 (n - 1)

  start_is : start ≡ dest + width_of
  start_is = place_next kind j

  in_order : start ≤ end
  in_order = let p = place_within kind (j + 1) n (omega (arith, place)) in omega arith

  pub length-shifted_back : length shifted_back ≡ length bytes
  length-shifted_back = let s = start_is in let o = in_order in let e = end_fits kind bytes n is long form in length-copy_within bytes start end dest o e (omega arith)

  stays : (a m : ℕ) → (a + m ≤ 6) ⊎ (8 ≤ a) → a + m ≤ dest → part a m taken_out ≡ part a m bytes
  stays a m far low =
      let s = start_is in let o = in_order in let e = end_fits kind bytes n is long form in let l = length-shifted_back in
      part-with_part_other 6 (little_bytes 2 (n - 1)) shifted_back a m (omega (arith, long)) far
      ∙ part-copy_within_other bytes start end dest a m o e (omega arith) (inl low)

  comes : (a m : ℕ) → dest ≤ a → a + m + width_of ≤ end → part a m taken_out ≡ part (a + width_of) m bytes
  comes a m low high =
      let s = start_is in let o = in_order in let e = end_fits kind bytes n is long form in let l = length-shifted_back in
      part-with_part_other 6 (little_bytes 2 (n - 1)) shifted_back a m (omega (arith, long)) (inr (omega arith))
      ∙ part-copy_within bytes start end dest a (a + width_of) m o e (omega arith) low (omega arith) (omega arith)

  count_left : entries_in taken_out ≡ n - 1
  count_left = let l = length-shifted_back in number_at-with_field shifted_back 6 2 (n - 1) (omega (arith, long)) (omega (arith, few))

  pub taken_out_says : node_of kind taken_out
      ≡ record (node_of kind bytes) { keys = remove (node_of kind bytes).keys j; children = remove (node_of kind bytes).children j }
  unfolding node_of
  taken_out_says =
      let level = level_same kind bytes taken_out (stays 0 6 (inl (omega arith)) (omega arith)) in
      let neighbours = stays 8 16 (inr (omega arith)) (omega arith) in
      let left = left_same bytes taken_out neighbours in
      let right = right_same bytes taken_out neighbours in
      let one_less : n - 1 + 1 ≡ n + 1 - 1 = omega (arith, place) in
      let keys : table (key_in kind taken_out) (entries_in taken_out + 1) ≡ remove (table (key_in kind bytes) (entries_in bytes + 1)) j
      = ap (λ (k : ℕ). table (key_in kind taken_out) (k + 1)) count_left ∙ ap (table (key_in kind taken_out)) one_less
      ∙ table_remove (key_in kind bytes) (key_in kind taken_out) (n + 1) j (omega (arith, place))
      (λ i less. let b = place_before kind i j less in stays (key_place kind i) kind.key_length (inr (omega arith)) (omega arith))
      (λ i more low.
      let b = place_within kind j i more in
      let t = place_before kind i n (omega (arith, low)) in
      comes (key_place kind i) kind.key_length b (omega arith) ∙ ap (λ (p : ℕ). part p kind.key_length bytes) (sym (place_next kind i)))
      ∙ ap (λ (k : ℕ). remove (table (key_in kind bytes) (k + 1)) j) is in
      let children : table (child_in kind taken_out) (entries_in taken_out) ≡ remove (table (child_in kind bytes) (entries_in bytes)) j
      = ap (table (child_in kind taken_out)) count_left
      ∙ table_remove (child_in kind bytes) (child_in kind taken_out) n j place
      (λ i less.
      let b = place_before kind i j less in
      let p = key_place kind i + kind.key_length in
      number_moved bytes taken_out p p 8 (stays p 8 (inr (omega arith)) (omega arith)))
      (λ i more low.
      let b = place_within kind j i more in
      let t = place_before kind (i + 1) n (omega (arith, low)) in
      let x = place_next kind i in
      let p = key_place kind i + kind.key_length in
      let e : key_place kind (i + 1) + kind.key_length ≡ p + width_of = omega arith in
      number_moved bytes taken_out (p + width_of) p 8 (comes p 8 (omega arith) (omega arith)) ∙ ap (λ (q : ℕ). number_at bytes q 8) (sym e))
      ∙ ap (λ (k : ℕ). remove (table (child_in kind bytes) k) j) is in
      λ i. record { level = level i; left = left i; right = right i; keys = keys i; children = children i }

  pub taken_out_form : IsNode kind taken_out
  taken_out_form = form_same kind bytes taken_out (stays 0 6 (inl (omega arith)) (omega arith)) (let c = count_left in omega (arith, is, form.roomy)) form

  pub shift_back_fits : (s e d k₁ : ℕ) → s ≡ key_place kind (j + 1) → e ≡ key_place kind n → d ≡ key_place kind j → k₁ ≡ kind.key_length → d + (e + k₁ - s) ≤ length bytes
  shift_back_fits s e d k₁ first last to one = let o = in_order in let f = end_fits kind bytes n is long form in let x = start_is in omega (arith, first, last, to, one)

  -- the same from the writes of the code, one after another
  pub taken_out_is : (s e d k₁ : ℕ) (moved last : List ℕ) → s ≡ key_place kind (j + 1) → e ≡ key_place kind n → d ≡ key_place kind j → k₁ ≡ kind.key_length
      → moved ≡ copy_within bytes s (e + k₁) d → last ≡ with_field moved 6 2 (n - 1) → last ≡ taken_out
  taken_out_is s e d k₁ moved last first end to one m l =
      l ∙ ap (λ (y : List ℕ). with_field y 6 2 (n - 1)) (m ∙ (λ i. copy_within bytes (first i) (end i + one i) (to i)))
