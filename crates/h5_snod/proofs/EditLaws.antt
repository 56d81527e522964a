-- What the entries of a symbol node are after its bytes were moved and written.
use Rattle.std.proofs.Common.{◌≡◌, ℕ, ◌+◌, ◌-◌, ◌*◌, ◌^◌, ◌<◌, ◌≤◌, List, length, take, drop, refl, sym, ap, ◌∙◌, arith, inl, inr, rules}
use Rattle.std.specs.List.{copy_within, insert, remove}
use Rattle.std.proofs.lemmas.List.{places}
use Rattle.h5_bytes.specs.Bytes.{little_bytes, part, with_field, with_part}
use Rattle.h5_bytes.specs.Tables.{table}
use borrow.Rule.Slice.PartMut.{put_mid}
use Rattle.h5_bytes.proofs.PartLaws.{put_mid_is, part-with_part_same, part-with_part_other, length-with_part, part-copy_within, part-copy_within_other, part-part, length-part}
use Rattle.h5_bytes.proofs.FieldLaws.{number_at-with_field, number_at-with_part_other}
use Rattle.h5_bytes.proofs.TableLaws.{table_insert, table_remove, table_take, table_drop}
use Rattle.h5_model.specs.Format.Symbols.{Entry, entry_of, entries_of, symbols_in}
use Rattle.h5_snod.specs.Raw.{raw_at, raw_entries}

abbrev read_at : List ℕ → ℕ → Entry
read_at node k = entry_of (raw_at node k)

-- a part inside the one that was written
part-inside : (at : ℕ) (new bytes : List ℕ) (a n : ℕ) → a + n ≤ length new → at + length new ≤ length bytes →
    part (at + a) n (with_part at new bytes) ≡ part a n new
part-inside at new bytes a n h fits =
    sym (part-part a n at (length new) (with_part at new bytes) h)
    ∙ ap (part a n) (part-with_part_same at (length new) new bytes refl fits)

-- the count is written, and the entries stay where they are
module _ (node : List ℕ) (n : ℕ) (head : 8 ≤ length node) where
  abbrev pub counted : List ℕ
  counted = with_part 6 (little_bytes 2 n) node

  pub symbols_in-counted : n < 2 ^ 16 → symbols_in counted ≡ n
  symbols_in-counted small = number_at-with_field node 6 2 n (omega arith) (omega arith)

  pub raw_at-counted : (j : ℕ) → raw_at counted j ≡ raw_at node j
  raw_at-counted j = part-with_part_other 6 (little_bytes 2 n) node (8 + 40 * j) 40 (omega arith) (inr (omega arith))

  pub head-counted : part 0 6 counted ≡ part 0 6 node
  head-counted = part-with_part_other 6 (little_bytes 2 n) node 0 6 (omega arith) (inl (omega arith))

pub length-copy_within : (xs : List ℕ) (from to dest : ℕ) → from ≤ to → to ≤ length xs → dest + (to - from) ≤ length xs → length (copy_within xs from to dest) ≡ length xs
length-copy_within xs from to dest a b c = search (rules, places)

module _ (node entry : List ℕ) (k n : ℕ) (is : n ≡ symbols_in node) (place : k ≤ n) (room : 48 + 40 * n ≤ length node) (width : length entry ≡ 40) (small : n + 1 < 2 ^ 16) where
  abbrev pub moved_up : List ℕ
  moved_up = copy_within node (8 + 40 * k) (8 + 40 * n) (8 + 40 * k + 40)

  abbrev pub filled : List ℕ
  filled = with_part (8 + 40 * k) entry moved_up

  pub length-moved_up : length moved_up ≡ length node
  length-moved_up = length-copy_within node (8 + 40 * k) (8 + 40 * n) (8 + 40 * k + 40) (omega arith) (omega arith) (omega arith)

  pub length-filled : length filled ≡ length node
  length-filled = let l = length-moved_up in length-with_part (8 + 40 * k) entry moved_up (omega arith) ∙ l

  below : (j : ℕ) → j < k → raw_at filled j ≡ raw_at node j
  below j h = let l = length-moved_up in
      part-with_part_other (8 + 40 * k) entry moved_up (8 + 40 * j) 40 (omega arith) (inl (omega arith))
      ∙ part-copy_within_other node (8 + 40 * k) (8 + 40 * n) (8 + 40 * k + 40) (8 + 40 * j) 40 (omega arith) (omega arith) (omega arith) (inl (omega arith))

  here : raw_at filled k ≡ entry
  here = let l = length-moved_up in part-with_part_same (8 + 40 * k) 40 entry moved_up (omega arith) (omega arith)

  above : (j : ℕ) → k ≤ j → j < n → raw_at filled (j + 1) ≡ raw_at node j
  above j h m = let l = length-moved_up in
      part-with_part_other (8 + 40 * k) entry moved_up (8 + 40 * (j + 1)) 40 (omega arith) (inr (omega arith))
      ∙ part-copy_within node (8 + 40 * k) (8 + 40 * n) (8 + 40 * k + 40) (8 + 40 * (j + 1)) (8 + 40 * j) 40 (omega arith) (omega arith) (omega arith) (omega arith) (omega arith) (omega arith)

  pub head-inserted : part 0 6 (counted filled (n + 1) (let l = length-filled in omega arith)) ≡ part 0 6 node
  head-inserted =
      let l = length-filled in let m = length-moved_up in
      head-counted filled (n + 1) (omega arith)
      ∙ part-with_part_other (8 + 40 * k) entry moved_up 0 6 (omega arith) (inl (omega arith))
      ∙ part-copy_within_other node (8 + 40 * k) (8 + 40 * n) (8 + 40 * k + 40) 0 6 (omega arith) (omega arith) (omega arith) (inl (omega arith))

  pub entries_of-inserted : entries_of (with_part 6 (little_bytes 2 (n + 1)) filled) ≡ insert (entries_of node) k (entry_of entry)
  entries_of-inserted =
      let l = length-filled in
      let h : 8 ≤ length filled = omega arith in
      let c = symbols_in-counted filled (n + 1) h small in
      let new = with_part 6 (little_bytes 2 (n + 1)) filled in
      ap (table (read_at new)) c
      ∙ table_insert (read_at node) (read_at new) n k (entry_of entry) place
      (λ j lt. ap entry_of (raw_at-counted filled (n + 1) h j ∙ below j lt))
      (ap entry_of (raw_at-counted filled (n + 1) h k ∙ here))
      (λ j le lt. ap entry_of (raw_at-counted filled (n + 1) h (j + 1) ∙ above j le lt))
      ∙ ap (λ m. insert (table (read_at node) m) k (entry_of entry)) is

  pub raw-inserted : raw_entries (with_part 6 (little_bytes 2 (n + 1)) filled) ≡ insert (raw_entries node) k entry
  raw-inserted =
      let l = length-filled in
      let h : 8 ≤ length filled = omega arith in
      let new = with_part 6 (little_bytes 2 (n + 1)) filled in
      ap (table (raw_at new)) (symbols_in-counted filled (n + 1) h small)
      ∙ table_insert (raw_at node) (raw_at new) n k entry place
      (λ j lt. raw_at-counted filled (n + 1) h j ∙ below j lt)
      (raw_at-counted filled (n + 1) h k ∙ here)
      (λ j le lt. raw_at-counted filled (n + 1) h (j + 1) ∙ above j le lt)
      ∙ ap (λ m. insert (table (raw_at node) m) k entry) is

module _ (node : List ℕ) (k n : ℕ) (is : n ≡ symbols_in node) (place : k < n) (room : 8 + 40 * n ≤ length node) (small : n < 2 ^ 16) where
  abbrev pub moved_down : List ℕ
  moved_down = copy_within node (8 + 40 * k + 40) (8 + 40 * n) (8 + 40 * k)

  length-moved_down : length moved_down ≡ length node
  length-moved_down = length-copy_within node (8 + 40 * k + 40) (8 + 40 * n) (8 + 40 * k) (omega arith) (omega arith) (omega arith)

  stays : (j : ℕ) → j < k → raw_at moved_down j ≡ raw_at node j
  stays j h = part-copy_within_other node (8 + 40 * k + 40) (8 + 40 * n) (8 + 40 * k) (8 + 40 * j) 40 (omega arith) (omega arith) (omega arith) (inl (omega arith))

  comes : (j : ℕ) → k ≤ j → j + 1 < n → raw_at moved_down j ≡ raw_at node (j + 1)
  comes j h m = part-copy_within node (8 + 40 * k + 40) (8 + 40 * n) (8 + 40 * k) (8 + 40 * j) (8 + 40 * (j + 1)) 40 (omega arith) (omega arith) (omega arith) (omega arith) (omega arith) (omega arith)

  pub head-removed : part 0 6 (with_part 6 (little_bytes 2 (n - 1)) moved_down) ≡ part 0 6 node
  head-removed =
      let l = length-moved_down in
      head-counted moved_down (n - 1) (omega arith)
      ∙ part-copy_within_other node (8 + 40 * k + 40) (8 + 40 * n) (8 + 40 * k) 0 6 (omega arith) (omega arith) (omega arith) (inl (omega arith))

  pub entries_of-removed : entries_of (with_part 6 (little_bytes 2 (n - 1)) moved_down) ≡ remove (entries_of node) k
  entries_of-removed =
      let l = length-moved_down in
      let h : 8 ≤ length moved_down = omega arith in
      let c = symbols_in-counted moved_down (n - 1) h (omega arith) in
      let new = with_part 6 (little_bytes 2 (n - 1)) moved_down in
      ap (table (read_at new)) c
      ∙ table_remove (read_at node) (read_at new) n k place
      (λ j lt. ap entry_of (raw_at-counted moved_down (n - 1) h j ∙ stays j lt))
      (λ j le lt. ap entry_of (raw_at-counted moved_down (n - 1) h j ∙ comes j le lt))
      ∙ ap (λ m. remove (table (read_at node) m) k) is

  pub raw-removed : raw_entries (with_part 6 (little_bytes 2 (n - 1)) moved_down) ≡ remove (raw_entries node) k
  raw-removed =
      let l = length-moved_down in
      let h : 8 ≤ length moved_down = omega arith in
      let new = with_part 6 (little_bytes 2 (n - 1)) moved_down in
      ap (table (raw_at new)) (symbols_in-counted moved_down (n - 1) h (omega arith))
      ∙ table_remove (raw_at node) (raw_at new) n k place
      (λ j lt. raw_at-counted moved_down (n - 1) h j ∙ stays j lt)
      (λ j le lt. raw_at-counted moved_down (n - 1) h j ∙ comes j le lt)
      ∙ ap (λ m. remove (table (raw_at node) m) k) is

-- the first entries, by the count alone
pub raw-cut : (node : List ℕ) (k n : ℕ) → n ≡ symbols_in node → k ≤ n → 8 ≤ length node → n < 2 ^ 16 →
    raw_entries (with_part 6 (little_bytes 2 k) node) ≡ take k (raw_entries node)
raw-cut node k n is place head small =
    let new = with_part 6 (little_bytes 2 k) node in
    ap (table (raw_at new)) (symbols_in-counted node k head (omega arith))
    ∙ table_take (raw_at node) (raw_at new) n k place (λ j lt. raw_at-counted node k head j)
    ∙ ap (λ m. take k (table (raw_at node) m)) is

pub entries_of-cut : (node : List ℕ) (k n : ℕ) → n ≡ symbols_in node → k ≤ n → 8 ≤ length node → n < 2 ^ 16 →
    entries_of (with_part 6 (little_bytes 2 k) node) ≡ take k (entries_of node)
entries_of-cut node k n is place head small =
    let new = with_part 6 (little_bytes 2 k) node in
    ap (table (read_at new)) (symbols_in-counted node k head (omega arith))
    ∙ table_take (read_at node) (read_at new) n k place (λ j lt. ap entry_of (raw_at-counted node k head j))
    ∙ ap (λ m. take k (table (read_at node) m)) is

-- the entries from place k on are moved to the front
module _ (node : List ℕ) (k n : ℕ) (is : n ≡ symbols_in node) (place : k ≤ n) (room : 8 + 40 * n ≤ length node) (small : n < 2 ^ 16) where
  abbrev pub moved_front : List ℕ
  moved_front = copy_within node (8 + 40 * k) (8 + 40 * n) 8

  length-moved_front : length moved_front ≡ length node
  length-moved_front = length-copy_within node (8 + 40 * k) (8 + 40 * n) 8 (omega arith) (omega arith) (omega arith)

  fronts : (j : ℕ) → k + j < n → raw_at moved_front j ≡ raw_at node (k + j)
  fronts j h = part-copy_within node (8 + 40 * k) (8 + 40 * n) 8 (8 + 40 * j) (8 + 40 * (k + j)) 40 (omega arith) (omega arith) (omega arith) (omega arith) (omega arith) (omega arith)

  pub head-dropped : part 0 6 (with_part 6 (little_bytes 2 (n - k)) moved_front) ≡ part 0 6 node
  head-dropped =
      let l = length-moved_front in
      head-counted moved_front (n - k) (omega arith)
      ∙ part-copy_within_other node (8 + 40 * k) (8 + 40 * n) 8 0 6 (omega arith) (omega arith) (omega arith) (inl (omega arith))

  pub raw-dropped : raw_entries (with_part 6 (little_bytes 2 (n - k)) moved_front) ≡ drop k (raw_entries node)
  raw-dropped =
      let l = length-moved_front in
      let h : 8 ≤ length moved_front = omega arith in
      let new = with_part 6 (little_bytes 2 (n - k)) moved_front in
      ap (table (raw_at new)) (symbols_in-counted moved_front (n - k) h (omega arith))
      ∙ table_drop (raw_at node) (raw_at new) n k place (λ j lt. raw_at-counted moved_front (n - k) h j ∙ fronts j lt)
      ∙ ap (λ m. drop k (table (raw_at node) m)) is

  pub entries_of-dropped : entries_of (with_part 6 (little_bytes 2 (n - k)) moved_front) ≡ drop k (entries_of node)
  entries_of-dropped =
      let l = length-moved_front in
      let h : 8 ≤ length moved_front = omega arith in
      let new = with_part 6 (little_bytes 2 (n - k)) moved_front in
      ap (table (read_at new)) (symbols_in-counted moved_front (n - k) h (omega arith))
      ∙ table_drop (read_at node) (read_at new) n k place (λ j lt. ap entry_of (raw_at-counted moved_front (n - k) h j ∙ fronts j lt))
      ∙ ap (λ m. drop k (table (read_at node) m)) is

module _ (node other : List ℕ) (k n : ℕ) (is : n ≡ symbols_in node) (place : k ≤ n) (room : 8 + 40 * n ≤ length node) (small : n < 2 ^ 16) (fits : 8 + 40 * (n - k) ≤ length other) where
  abbrev pub headed : List ℕ
  headed = with_part 0 (part 0 6 node) other

  abbrev pub received : List ℕ
  received = with_part 8 (part (8 + 40 * k) (40 * (n - k)) node) (with_part 6 (little_bytes 2 (n - k)) headed)

  length-headed : length headed ≡ length other
  length-headed = let l = length-part 0 6 node (omega arith) in length-with_part 0 (part 0 6 node) other (omega arith)

  length-counted : length (with_part 6 (little_bytes 2 (n - k)) headed) ≡ length other
  length-counted = let l = length-headed in length-with_part 6 (little_bytes 2 (n - k)) headed (omega arith) ∙ l

  pub head-received : part 0 6 received ≡ part 0 6 node
  head-received =
      let l = length-headed in let m = length-counted in
      let p = length-part (8 + 40 * k) (40 * (n - k)) node (omega arith) in
      let q = length-part 0 6 node (omega arith) in
      part-with_part_other 8 (part (8 + 40 * k) (40 * (n - k)) node) (with_part 6 (little_bytes 2 (n - k)) headed) 0 6 (omega arith) (inl (omega arith))
      ∙ head-counted headed (n - k) (omega arith)
      ∙ part-with_part_same 0 6 (part 0 6 node) other (omega arith) (omega arith)

  symbols_in-received : symbols_in received ≡ n - k
  symbols_in-received =
      let l = length-headed in let m = length-counted in
      let p = length-part (8 + 40 * k) (40 * (n - k)) node (omega arith) in
      let c = symbols_in-counted headed (n - k) (omega arith) (omega arith) in
      number_at-with_part_other 8 (part (8 + 40 * k) (40 * (n - k)) node) (with_part 6 (little_bytes 2 (n - k)) headed) 6 2 (omega arith) (inl (omega arith)) ∙ c

  arrives : (j : ℕ) → k + j < n → raw_at received j ≡ raw_at node (k + j)
  arrives j h =
      let m = length-counted in
      let p = length-part (8 + 40 * k) (40 * (n - k)) node (omega arith) in
      let body = part (8 + 40 * k) (40 * (n - k)) node in
      let under = with_part 6 (little_bytes 2 (n - k)) headed in
      part-inside 8 body under (40 * j) 40 (omega arith) (omega arith)
      ∙ part-part (40 * j) 40 (8 + 40 * k) (40 * (n - k)) node (omega arith)
      ∙ ap (λ a. part a 40 node) (omega arith)

  pub entries_of-received : entries_of received ≡ drop k (entries_of node)
  entries_of-received =
      ap (table (read_at received)) symbols_in-received
      ∙ table_drop (read_at node) (read_at received) n k place (λ j lt. ap entry_of (arrives j lt))
      ∙ ap (λ m. drop k (table (read_at node) m)) is

  pub raw-received : raw_entries received ≡ drop k (raw_entries node)
  raw-received =
      ap (table (raw_at received)) symbols_in-received
      ∙ table_drop (raw_at node) (raw_at received) n k place (λ j lt. arrives j lt)
      ∙ ap (λ m. drop k (table (raw_at node) m)) is

  -- the same from the writes of the code, one after another
  pub received_is : (first body under : List ℕ) → first ≡ part 0 6 node → under ≡ with_field (put_mid 0 6 other first) 6 2 (n - k)
      → body ≡ part (8 + 40 * k) (40 * (n - k)) node → put_mid 8 (8 + 40 * (n - k) - 8) under body ≡ received
  received_is first body under front counted behind =
      let q : length first ≡ 6 = ap (λ (b : List ℕ). length b) front ∙ length-part 0 6 node (omega arith) in
      let p : length body ≡ 40 * (n - k) = ap (λ (b : List ℕ). length b) behind ∙ length-part (8 + 40 * k) (40 * (n - k)) node (omega arith) in
      let u : under ≡ with_part 6 (little_bytes 2 (n - k)) headed
      = counted ∙ ap (λ (b : List ℕ). with_field b 6 2 (n - k)) (put_mid_is 0 6 other first q (omega arith) ∙ ap (λ (b : List ℕ). with_part 0 b other) front) in
      let long : length under ≡ length other = ap (λ (b : List ℕ). length b) u ∙ length-counted in
      put_mid_is 8 (8 + 40 * (n - k) - 8) under body (omega (arith, p)) (omega (arith, long)) ∙ (λ i. with_part 8 (behind i) (u i))
