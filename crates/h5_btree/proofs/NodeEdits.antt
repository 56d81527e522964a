-- What a node's bytes say after an edit.
use Rattle.std.proofs.Common.{◌≡◌, ◌≢◌, inl, inr, ℕ, suc, ◌+◌, ◌-◌, ◌*◌, ◌^◌, ◌<◌, ◌≤◌, List, length, get_or, sym, ap, ◌∙◌, arith}
use Rattle.std.proofs.Math.Nat.{mul-le-mul_right}
use Rattle.std.specs.Prelude.{slice_set}
use Rattle.std.proofs.lemmas.List.{same_lists, places, length-set, get_or-set_same, get_or-set_other}
use Rattle.std.proofs.lemmas.Bool.{cases_lt, cases_order}
use borrow.Rule.Slice.PartMut.{put_mid}
use Rattle.h5_bytes.specs.Bytes.{byte_at, little_bytes, number_at, part, with_field, with_part}
use Rattle.h5_bytes.specs.Tables.{table}
use Rattle.h5_bytes.proofs.PartLaws.{length-with_part, part-with_part_same, part-with_part_other, part-part, put_mid_is}
use Rattle.h5_bytes.proofs.FieldLaws.{number_at-same, number_at-part, number_at-with_field, number_at-with_part_other}
use Rattle.h5_bytes.proofs.TableLaws.{length-table, get_or-table, table_same}
use Rattle.h5_model.specs.Format.Rows.{Node}
use Rattle.h5_model.specs.Format.Nodes.{Kind, IsNode, node_of, node_bytes, node_length, entries_in, key_in, key_place, child_in}
use Rattle.h5_space.specs.Space.{Space}
use Rattle.h5_space.specs.Lending.{with_bytes_at}
use Rattle.h5_space.proofs.MovesLaws.{moves_write}
use Rattle.h5_btree.specs.Rewritten.{IsRewritten}

-- ---- places

-- one key and child further
pub place_next : (kind : Kind) (i : ℕ) → key_place kind (i + 1) ≡ key_place kind i + (kind.key_length + 8)
place_next kind i = omega arith

-- an earlier key and child end before a later one
pub place_before : (kind : Kind) (i j : ℕ) → i < j → key_place kind i + (kind.key_length + 8) ≤ key_place kind j
place_before kind i j less =
    let rows : suc i * (kind.key_length + 8) ≤ j * (kind.key_length + 8) = mul-le-mul_right (kind.key_length + 8) less in
    omega arith

pub place_within : (kind : Kind) (i j : ℕ) → i ≤ j → key_place kind i ≤ key_place kind j
place_within kind i j less =
    let rows : i * (kind.key_length + 8) ≤ j * (kind.key_length + 8) = mul-le-mul_right (kind.key_length + 8) less in
    omega arith

pub key_fits : (kind : Kind) (i : ℕ) → i ≤ 2 * kind.k → key_place kind i + kind.key_length ≤ node_length kind
key_fits kind i low =
    let rows : i * (kind.key_length + 8) ≤ 2 * kind.k * (kind.key_length + 8) = mul-le-mul_right (kind.key_length + 8) low in
    omega arith

-- the last key fits, as the code asks for it too
module _ (kind : Kind) (bytes : List ℕ) (n : ℕ) (is : n ≡ entries_in bytes) (long : length bytes ≡ node_length kind) (form : IsNode kind bytes) where
  pub end_fits : key_place kind n + kind.key_length ≤ length bytes
  end_fits = let f = key_fits kind n (omega (arith, is, form.roomy)) in omega (arith, long)

  pub end_within : (e k₁ : ℕ) → e ≡ key_place kind n → k₁ ≡ kind.key_length → e + k₁ ≤ length bytes
  end_within e k₁ last one = let f = end_fits in omega (arith, last, one)

-- ---- what the head says

byte_in_part : (len : ℕ) (bytes : List ℕ) (p : ℕ) → p < len → byte_at (part 0 len bytes) p ≡ byte_at bytes p
unfolding part
byte_in_part len bytes p low = grind (arith, places)

module _ (kind : Kind) (bytes new : List ℕ) (front : part 0 6 new ≡ part 0 6 bytes) where
  byte_same : (p : ℕ) → p < 6 → byte_at new p ≡ byte_at bytes p
  byte_same p low = sym (byte_in_part 6 new p low) ∙ ap (λ (b : List ℕ). byte_at b p) front ∙ byte_in_part 6 bytes p low

  pub level_same : byte_at new 5 ≡ byte_at bytes 5
  level_same = byte_same 5 (omega arith)

  pub form_same : entries_in new ≤ 2 * kind.k → IsNode kind bytes → IsNode kind new
  form_same roomy is = record {
    signed = sym (part-part 0 4 0 6 new (omega arith)) ∙ ap (part 0 4) front ∙ part-part 0 4 0 6 bytes (omega arith) ∙ is.signed;
    type_byte = byte_same 4 (omega arith) ∙ is.type_byte;
    roomy = roomy;
  }

module _ (bytes new : List ℕ) (neighbours : part 8 16 new ≡ part 8 16 bytes) where
  pub left_same : number_at new 8 8 ≡ number_at bytes 8 8
  left_same = number_at-same bytes new 8 16 0 8 neighbours (omega arith)

  pub right_same : number_at new 16 8 ≡ number_at bytes 16 8
  right_same = number_at-same bytes new 8 16 8 8 neighbours (omega arith)

-- ---- what the body says

-- a number of a part that was moved
pub number_moved : (old new : List ℕ) (a b n : ℕ) → part b n new ≡ part a n old → number_at new b n ≡ number_at old a n
number_moved old new a b n same =
    let za : a + 0 ≡ a = omega arith in
    let zb : b + 0 ≡ b = omega arith in
    ap (λ (i : ℕ). number_at new i n) (sym zb) ∙ sym (number_at-part 0 n b n new (omega arith)) ∙ ap (λ (x : List ℕ). number_at x 0 n) same
    ∙ number_at-part 0 n a n old (omega arith) ∙ ap (λ (i : ℕ). number_at old i n) za

-- the body is as it was
module _ (kind : Kind) (bytes new : List ℕ) (count : entries_in new ≡ entries_in bytes) (same : (a n : ℕ) → 24 ≤ a → part a n new ≡ part a n bytes) where
  pub keys_stay : table (key_in kind new) (entries_in new + 1) ≡ table (key_in kind bytes) (entries_in bytes + 1)
  keys_stay =
      table_same (key_in kind bytes) (key_in kind new) (entries_in new + 1) 0 (λ j low. same (key_place kind j) kind.key_length (omega arith))
      ∙ ap (λ (n : ℕ). table (key_in kind bytes) (n + 1)) count

  pub children_stay : table (child_in kind new) (entries_in new) ≡ table (child_in kind bytes) (entries_in bytes)
  children_stay =
      table_same (child_in kind bytes) (child_in kind new) (entries_in new) 0 (λ j low.
      let at = key_place kind j + kind.key_length in number_moved bytes new at at 8 (same at 8 (omega arith)))
      ∙ ap (table (child_in kind bytes)) count

-- a value is written at one place of a table
table_set : {X : Type 0} (f g : ℕ → X) (n k : ℕ) (x : X) → k < n → g k ≡ x → ((j : ℕ) → j < n → j ≢ k → g j ≡ f j) → table g n ≡ slice_set (table f n) k x
table_set f g n k x low here other =
    let a = length-table f g n 0 in
    let b = length-table g f n 0 in
    let l = length-set (table f n) k x in
    same_lists _ _ (omega arith) (λ j d less.
    let hj : j < n = omega arith in
    get_or-table g f n j d hj ∙ elim (cases_order j k) [
      | inl eq ↦ ap g eq ∙ here ∙ sym (ap (λ (i : ℕ). get_or (slice_set (table f n) k x) i d) eq ∙ get_or-set_same (table f n) k x d (omega arith))
      | inr w ↦
          let far : j ≢ k = elim w [ inl lt ↦ λ e. absurd (omega (arith, e, lt)) | inr gt ↦ λ e. absurd (omega (arith, e, gt)) ] in
          other j hj far ∙ sym (get_or-set_other (table f n) k j x d far ∙ get_or-table f g n j d hj)
    ])

-- ---- a field of the head is written

module _ (kind : Kind) (bytes : List ℕ) (x : ℕ) (long : length bytes ≡ node_length kind) (small : x < 2 ^ 64) (form : IsNode kind bytes) where
  abbrev left_written : List ℕ
  left_written = with_field bytes 8 8 x

  pub left_says : node_of kind left_written ≡ record (node_of kind bytes) { left = x }
  unfolding node_of
  left_says =
      let front : part 0 6 left_written ≡ part 0 6 bytes = part-with_part_other 8 (little_bytes 8 x) bytes 0 6 (omega arith) (inl (omega arith)) in
      let count : entries_in left_written ≡ entries_in bytes = number_at-with_part_other 8 (little_bytes 8 x) bytes 6 2 (omega arith) (inl (omega arith)) in
      let right : number_at left_written 16 8 ≡ number_at bytes 16 8 = number_at-with_part_other 8 (little_bytes 8 x) bytes 16 8 (omega arith) (inr (omega arith)) in
      let left : number_at left_written 8 8 ≡ x = number_at-with_field bytes 8 8 x (omega arith) small in
      let body : (a n : ℕ) → 24 ≤ a → part a n left_written ≡ part a n bytes = λ a n low. part-with_part_other 8 (little_bytes 8 x) bytes a n (omega arith) (inr (omega arith)) in
      let level = level_same kind bytes left_written front in
      let keys = keys_stay kind bytes left_written count body in
      let children = children_stay kind bytes left_written count body in
      λ i. record { level = level i; left = left i; right = right i; keys = keys i; children = children i }

  pub left_form : IsNode kind left_written
  left_form =
      let count : entries_in left_written ≡ entries_in bytes = number_at-with_part_other 8 (little_bytes 8 x) bytes 6 2 (omega arith) (inl (omega arith)) in
      form_same kind bytes left_written (part-with_part_other 8 (little_bytes 8 x) bytes 0 6 (omega arith) (inl (omega arith))) (omega (arith, count, form.roomy)) form

  abbrev right_written : List ℕ
  right_written = with_field bytes 16 8 x

  pub right_says : node_of kind right_written ≡ record (node_of kind bytes) { right = x }
  unfolding node_of
  right_says =
      let front : part 0 6 right_written ≡ part 0 6 bytes = part-with_part_other 16 (little_bytes 8 x) bytes 0 6 (omega arith) (inl (omega arith)) in
      let count : entries_in right_written ≡ entries_in bytes = number_at-with_part_other 16 (little_bytes 8 x) bytes 6 2 (omega arith) (inl (omega arith)) in
      let left : number_at right_written 8 8 ≡ number_at bytes 8 8 = number_at-with_part_other 16 (little_bytes 8 x) bytes 8 8 (omega arith) (inl (omega arith)) in
      let right : number_at right_written 16 8 ≡ x = number_at-with_field bytes 16 8 x (omega arith) small in
      let body : (a n : ℕ) → 24 ≤ a → part a n right_written ≡ part a n bytes = λ a n low. part-with_part_other 16 (little_bytes 8 x) bytes a n (omega arith) (inr (omega arith)) in
      let level = level_same kind bytes right_written front in
      let keys = keys_stay kind bytes right_written count body in
      let children = children_stay kind bytes right_written count body in
      λ i. record { level = level i; left = left i; right = right i; keys = keys i; children = children i }

  pub right_form : IsNode kind right_written
  right_form =
      let count : entries_in right_written ≡ entries_in bytes = number_at-with_part_other 16 (little_bytes 8 x) bytes 6 2 (omega arith) (inl (omega arith)) in
      form_same kind bytes right_written (part-with_part_other 16 (little_bytes 8 x) bytes 0 6 (omega arith) (inl (omega arith))) (omega (arith, count, form.roomy)) form

-- ---- a key or a child is written

module _ (kind : Kind) (bytes key : List ℕ) (k : ℕ) (long : length bytes ≡ node_length kind) (form : IsNode kind bytes) (place : k ≤ entries_in bytes)
    (width : length key ≡ kind.key_length) where
  abbrev key_written : List ℕ
  key_written = with_part (key_place kind k) key bytes

  key_room : key_place kind k + length key ≤ length bytes
  key_room = let fits = key_fits kind k (omega (arith, place, form.roomy)) in omega (arith, width, long)

  key_count : entries_in key_written ≡ entries_in bytes
  key_count = number_at-with_part_other (key_place kind k) key bytes 6 2 key_room (inl (omega arith))

  key_front : part 0 6 key_written ≡ part 0 6 bytes
  key_front = part-with_part_other (key_place kind k) key bytes 0 6 key_room (inl (omega arith))

  pub key_says : node_of kind key_written ≡ record (node_of kind bytes) { keys = slice_set (node_of kind bytes).keys k key }
  unfolding node_of
  key_says =
      let neighbours : part 8 16 key_written ≡ part 8 16 bytes = part-with_part_other (key_place kind k) key bytes 8 16 key_room (inl (omega arith)) in
      let level = level_same kind bytes key_written key_front in
      let left = left_same bytes key_written neighbours in
      let right = right_same bytes key_written neighbours in
      let keys : table (key_in kind key_written) (entries_in key_written + 1) ≡ slice_set (table (key_in kind bytes) (entries_in bytes + 1)) k key
      = table_set (key_in kind bytes) (key_in kind key_written) (entries_in key_written + 1) k key (omega (arith, key_count, place))
      (part-with_part_same (key_place kind k) kind.key_length key bytes (sym width) key_room)
      (λ j low far. part-with_part_other (key_place kind k) key bytes (key_place kind j) kind.key_length key_room (elim (cases_order j k) [
        | inl e ↦ absurd (far e)
        | inr (inl less) ↦ inl (let b = place_before kind j k less in omega arith)
        | inr (inr more) ↦ inr (let b = place_before kind k j more in omega arith)
      ]))
      ∙ ap (λ (n : ℕ). slice_set (table (key_in kind bytes) (n + 1)) k key) key_count in
      let children : table (child_in kind key_written) (entries_in key_written) ≡ table (child_in kind bytes) (entries_in bytes)
      = table_same (child_in kind bytes) (child_in kind key_written) (entries_in key_written) 0 (λ j low.
      number_at-with_part_other (key_place kind k) key bytes (key_place kind j + kind.key_length) 8 key_room (elim (cases_lt j k) [
        | inl less ↦ inl (let b = place_before kind j k less in omega arith)
        | inr more ↦ inr (let b = place_within kind k j more in omega arith)
      ]))
      ∙ ap (table (child_in kind bytes)) key_count in
      λ i. record { level = level i; left = left i; right = right i; keys = keys i; children = children i }

  pub key_form : IsNode kind key_written
  key_form = form_same kind bytes key_written key_front (omega (arith, key_count, form.roomy)) form

  -- the same from the write of the code
  pub key_written_is : (from len : ℕ) (new : List ℕ) → from ≡ key_place kind k → len ≡ kind.key_length → new ≡ key → put_mid from (from + len - from) bytes new ≡ key_written
  key_written_is from len new at wide is =
      let r = key_room in
      let l : length new ≡ kind.key_length = ap (λ (b : List ℕ). length b) is ∙ width in
      put_mid_is from (from + len - from) bytes new (omega (arith, l, wide)) (omega (arith, r, at, wide, width)) ∙ (λ i. with_part (at i) (is i) bytes)

module _ (kind : Kind) (bytes : List ℕ) (k x : ℕ) (long : length bytes ≡ node_length kind) (form : IsNode kind bytes) (place : k < entries_in bytes)
    (small : x < 2 ^ 64) where
  abbrev child_written : List ℕ
  child_written = with_field bytes (key_place kind k + kind.key_length) 8 x

  pub child_room : key_place kind k + kind.key_length + 8 ≤ length bytes
  child_room =
      let fits = key_fits kind (suc k) (omega (arith, place, form.roomy)) in
      let step = place_before kind k (suc k) (omega arith) in
      omega (arith, long)

  child_count : entries_in child_written ≡ entries_in bytes
  child_count = let r = child_room in number_at-with_part_other (key_place kind k + kind.key_length) (little_bytes 8 x) bytes 6 2 (omega arith) (inl (omega arith))

  child_front : part 0 6 child_written ≡ part 0 6 bytes
  child_front = let r = child_room in part-with_part_other (key_place kind k + kind.key_length) (little_bytes 8 x) bytes 0 6 (omega arith) (inl (omega arith))

  pub child_says : node_of kind child_written ≡ record (node_of kind bytes) { children = slice_set (node_of kind bytes).children k x }
  unfolding node_of
  child_says =
      let r = child_room in
      let neighbours : part 8 16 child_written ≡ part 8 16 bytes
      = part-with_part_other (key_place kind k + kind.key_length) (little_bytes 8 x) bytes 8 16 (omega arith) (inl (omega arith)) in
      let level = level_same kind bytes child_written child_front in
      let left = left_same bytes child_written neighbours in
      let right = right_same bytes child_written neighbours in
      let keys : table (key_in kind child_written) (entries_in child_written + 1) ≡ table (key_in kind bytes) (entries_in bytes + 1)
      = table_same (key_in kind bytes) (key_in kind child_written) (entries_in child_written + 1) 0 (λ j low.
      part-with_part_other (key_place kind k + kind.key_length) (little_bytes 8 x) bytes (key_place kind j) kind.key_length (omega arith) (elim (cases_lt k j) [
        | inl more ↦ inr (let b = place_before kind k j more in omega arith)
        | inr less ↦ inl (let b = place_within kind j k less in omega arith)
      ]))
      ∙ ap (λ (n : ℕ). table (key_in kind bytes) (n + 1)) child_count in
      let children : table (child_in kind child_written) (entries_in child_written) ≡ slice_set (table (child_in kind bytes) (entries_in bytes)) k x
      = table_set (child_in kind bytes) (child_in kind child_written) (entries_in child_written) k x (omega (arith, child_count, place))
      (number_at-with_field bytes (key_place kind k + kind.key_length) 8 x (omega arith) small)
      (λ j low far. number_at-with_part_other (key_place kind k + kind.key_length) (little_bytes 8 x) bytes (key_place kind j + kind.key_length) 8 (omega arith) (elim (cases_order j k) [
        | inl e ↦ absurd (far e)
        | inr (inl less) ↦ inl (let b = place_before kind j k less in omega arith)
        | inr (inr more) ↦ inr (let b = place_before kind k j more in omega arith)
      ]))
      ∙ ap (λ (n : ℕ). slice_set (table (child_in kind bytes) n) k x) child_count in
      λ i. record { level = level i; left = left i; right = right i; keys = keys i; children = children i }

  pub child_form : IsNode kind child_written
  child_form = form_same kind bytes child_written child_front (omega (arith, child_count, form.roomy)) form

-- ---- the image

pub rewritten : (old new : Space) (kind : Kind) (at : ℕ) (w : List ℕ) (node : Node) → length w ≡ node_length kind → at + node_length kind ≤ length old.bytes
    → new ≡ with_bytes_at old at w → node_of kind w ≡ node → IsNode kind w → IsRewritten old new kind at node
rewritten old new kind at w node size inside is says form =
    let bytes : new.bytes ≡ with_part at w old.bytes = ap (λ (s : Space). s.bytes) is in
    let there : node_bytes new.bytes kind at ≡ w
    = ap (part at (node_length kind)) bytes ∙ part-with_part_same at (node_length kind) w old.bytes (sym size) (omega arith) in
    let long : length new.bytes ≡ length old.bytes = ap (λ (b : List ℕ). length b) bytes ∙ length-with_part at w old.bytes (omega arith) in
    let room : new.room_bytes ≡ old.room_bytes = ap (λ (s : Space). s.room_bytes) is in
    let calls : new.room_blocks ≡ old.room_blocks = ap (λ (s : Space). s.room_blocks) is in
    record {
      says = ap (node_of kind) there ∙ says;
      form = rw there form;
      moves = moves_write old new at (node_length kind) w size inside bytes (ap (λ (s : Space). s.free) is);
      spends = record { grown = omega (arith, long); bytes_left = omega (arith, room); blocks_left = omega (arith, calls) };
    }
