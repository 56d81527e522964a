-- The bytes of a node read back (File Format Specification 3.0, section III.A.1).
use Rattle.std.proofs.Common.{◌≡◌, ℕ, zero, suc, ◌+◌, ◌-◌, ◌*◌, ◌^◌, ◌<◌, ◌≤◌, List, [], ◌∷◌, ◌++◌, length, get_or, refl, sym, ap, ◌∙◌, arith, append_assoc, length-append}
use Rattle.std.specs.List.{AllByRecursion}
use Rattle.std.proofs.lemmas.List.{same_lists, get_or_default, length-map}
use Rattle.h5_bytes.specs.Bytes.{number_at, part}
use Rattle.h5_bytes.specs.Tables.{table}
use Rattle.h5_bytes.proofs.PartLaws.{part-behind, part-front}
use Rattle.h5_bytes.proofs.TableLaws.{length-table, get_or-table}
use Rattle.h5_model.specs.Format.Superblock.{highest_k}
use Rattle.h5_model.specs.Format.Nodes.{IsNode, Kind, node_length, node_of, node_signature, key_in, child_in, entries_in}
use Rattle.h5_bytes.specs.Numbers.{word, short, zeros}
use Rattle.h5_model.specs.Format.Plain.{keys_and_children, node_bytes_of}
use Rattle.h5_model.proofs.PaddedLaws.{length-padded}
use Rattle.h5_model.proofs.NumberLaws.{reads_back, number_at-append}
use Rattle.h5_btree.specs.declared.write.child.Child.{Child}
use Rattle.h5_btree.specs.Writing.Written.{FitsKind, AllFit, keys_of, places_of}

-- numbers of eight bytes
abbrev pub AreWords : List ℕ → Type 0
AreWords xs = AllByRecursion (λ x. x < 2 ^ 64) xs

-- of as many places some are taken
pub spread : (m n s : ℕ) → n ≤ m → m * s ≡ n * s + (m - n) * s
spread m n s room =
    let all : m ≡ n + (m - n) = omega arith in
    ap (λ k. k * s) all ∙ omega arith

-- ---- the keys and places of children

module _ {K : Type 0} (bytes : K → List ℕ) where
  pub one_more : (before : K) (c : List (Child K)) → length (keys_of bytes before c) ≡ length (places_of c) + 1
  one_more before c = omega (arith, length-map c (λ (x : Child K). x.at), length-map c (λ (x : Child K). bytes x.key))

module _ (kind : Kind) where
  abbrev pub AreKeys : List (List ℕ) → Type 0
  AreKeys keys = AllByRecursion (λ (key : List ℕ). length key ≡ kind.key_length) keys

  pub are_keys : {K : Type 0} (bytes : K → List ℕ) (before : K) (c : List (Child K)) → FitsKind kind bytes before → AllFit kind bytes c
      → AreKeys (keys_of bytes before c)
  are_keys bytes before [] first fit = (first, tt)
  are_keys bytes before (x ∷ c) first fit = (first, are_keys bytes x.key c fit.0 fit.1)

  -- ---- keys and children

  -- a key and a child
  abbrev step : ℕ
  step = kind.key_length + 8

  pub length-rows : (keys : List (List ℕ)) (children : List ℕ) → AreKeys keys → length keys ≡ length children + 1
      → length (keys_and_children keys children) ≡ kind.key_length + step * length children
  length-rows [] children are one = absurd (omega arith)
  length-rows (key ∷ keys) [] are one = omega (arith, are.0)
  length-rows (key ∷ keys) (child ∷ children) are one =
      let rest = length-rows keys children are.1 (omega arith) in
      simp length-append (omega (arith, are.0))

  -- the key and the child in front
  split_row : (key : List ℕ) (child : ℕ) (keys : List (List ℕ)) (children rest : List ℕ)
      → keys_and_children (key ∷ keys) (child ∷ children) ++ rest ≡ (key ++ word child) ++ (keys_and_children keys children ++ rest)
  split_row key child keys children rest = simp append_assoc

  long_row : (key : List ℕ) (child : ℕ) → length key ≡ kind.key_length → length (key ++ word child) ≡ step
  long_row key child e = length-append key (word child) ∙ ap (λ n. n + 8) e

  behind_row : (i n : ℕ) → n ≡ step → suc i * step ≡ n + i * step
  behind_row i n e = omega (arith, e)

  at_first : 0 * step ≡ 0
  at_first = omega arith

  key_first : (key rest : List ℕ) → length key ≡ kind.key_length → part 0 kind.key_length (key ++ rest) ≡ key
  key_first key rest e = ap (λ n. part 0 n (key ++ rest)) (sym e) ∙ part-front key rest

  key_read : (i : ℕ) (keys : List (List ℕ)) (children rest : List ℕ) → AreKeys keys → length keys ≡ length children + 1 → i < length keys
      → part (i * step) kind.key_length (keys_and_children keys children ++ rest) ≡ get_or keys i []
  key_read i [] children rest are one low = absurd (omega arith)
  key_read zero (key ∷ keys) [] rest are one low = ap (λ n. part n kind.key_length (key ++ rest)) at_first ∙ key_first key rest are.0
  key_read zero (key ∷ keys) (child ∷ children) rest are one low =
      ap (λ n. part n kind.key_length (keys_and_children (key ∷ keys) (child ∷ children) ++ rest)) at_first
      ∙ ap (part 0 kind.key_length) (append_assoc key (word child ++ keys_and_children keys children) rest)
      ∙ key_first key ((word child ++ keys_and_children keys children) ++ rest) are.0
  key_read (suc i) (key ∷ keys) [] rest are one low = absurd (omega arith)
  key_read (suc i) (key ∷ keys) (child ∷ children) rest are one low =
      let behind = behind_row i (length (key ++ word child)) (long_row key child are.0) in
      ap (λ n. part n kind.key_length (keys_and_children (key ∷ keys) (child ∷ children) ++ rest)) behind
      ∙ ap (part (length (key ++ word child) + i * step) kind.key_length) (split_row key child keys children rest)
      ∙ part-behind (key ++ word child) (keys_and_children keys children ++ rest) (i * step) kind.key_length
      ∙ key_read i keys children rest are.1 (omega arith) (omega arith)

  child_read : (i : ℕ) (keys : List (List ℕ)) (children rest : List ℕ) → AreKeys keys → AreWords children → length keys ≡ length children + 1
      → i < length children → number_at (keys_and_children keys children ++ rest) (i * step + kind.key_length) 8 ≡ get_or children i 0
  child_read i [] children rest are small one low = absurd (omega arith)
  child_read i (key ∷ keys) [] rest are small one low = absurd (omega arith)
  child_read zero (key ∷ keys) (child ∷ children) rest are small one low =
      let place : 0 * step + kind.key_length ≡ length key + 0 = omega (arith, are.0, at_first) in
      ap (λ n. number_at (keys_and_children (key ∷ keys) (child ∷ children) ++ rest) n 8) place
      ∙ ap (λ bytes. number_at bytes (length key + 0) 8) (append_assoc key (word child ++ keys_and_children keys children) rest)
      ∙ number_at-append key ((word child ++ keys_and_children keys children) ++ rest) 0 8
      ∙ ap (λ bytes. number_at bytes 0 8) (append_assoc (word child) (keys_and_children keys children) rest)
      ∙ reads_back 8 child (keys_and_children keys children ++ rest) (omega (arith, small.0))
  child_read (suc i) (key ∷ keys) (child ∷ children) rest are small one low =
      let behind : suc i * step + kind.key_length ≡ length (key ++ word child) + (i * step + kind.key_length)
      = omega (arith, behind_row i (length (key ++ word child)) (long_row key child are.0)) in
      ap (λ n. number_at (keys_and_children (key ∷ keys) (child ∷ children) ++ rest) n 8) behind
      ∙ ap (λ bytes. number_at bytes (length (key ++ word child) + (i * step + kind.key_length)) 8) (split_row key child keys children rest)
      ∙ number_at-append (key ++ word child) (keys_and_children keys children ++ rest) (i * step + kind.key_length) 8
      ∙ child_read i keys children rest are.1 small.1 (omega arith) (omega arith)

  -- ---- the node

  -- a node has the length of its kind
  pub length-node : (level left right : ℕ) (keys : List (List ℕ)) (children : List ℕ) → length children ≤ 2 * kind.k → length keys ≡ length children + 1
      → AreKeys keys → length (node_bytes_of kind level left right keys children) ≡ node_length kind
  length-node level left right keys children room one are =
      let written : List ℕ = node_signature ++ (kind.type_byte ∷ level ∷ (short (length children) ++ (word left ++ (word right ++ keys_and_children keys children)))) in
      let rows = length-rows keys children are one in
      let low : length written ≤ node_length kind = omega (arith, spread (2 * kind.k) (length children) step room) in
      length-padded written (node_length kind) low

-- what is read place by place is the list
table_is : {X : Type 0} (f : ℕ → X) (n : ℕ) (xs : List X) (x : X) → n ≡ length xs → ((i : ℕ) → i < length xs → f i ≡ get_or xs i x) → table f n ≡ xs
table_is f n xs x e same =
    let long : length (table f n) ≡ n = length-table f f n 0 in
    same_lists (table f n) xs (omega arith) (λ i d low.
    get_or-table f f n i d (omega arith) ∙ same i (omega arith) ∙ get_or_default xs i x d (omega arith))

module _ (kind : Kind) (level left right : ℕ) (keys : List (List ℕ)) (children : List ℕ) (high : kind.k ≤ highest_k) (room : length children ≤ 2 * kind.k)
    (one : length keys ≡ length children + 1) (are : AreKeys kind keys) (small : AreWords children) (left_small : left < 2 ^ 64) (right_small : right < 2 ^ 64) where
  abbrev bytes : List ℕ
  bytes = node_bytes_of kind level left right keys children

  abbrev head : List ℕ
  head = node_signature ++ (kind.type_byte ∷ level ∷ (short (length children) ++ (word left ++ word right)))

  abbrev written : List ℕ
  written = node_signature ++ (kind.type_byte ∷ level ∷ (short (length children) ++ (word left ++ (word right ++ keys_and_children keys children))))

  abbrev pad : List ℕ
  pad = zeros (node_length kind - length written)

  abbrev rest : List ℕ
  rest = keys_and_children keys children ++ pad

  pub entries_read : entries_in bytes ≡ length children
  unfolding number_at
  entries_read = reads_back 2 (length children) (word left ++ (word right ++ rest)) (omega arith)

  left_read : number_at bytes 8 8 ≡ left
  unfolding number_at
  left_read = reads_back 8 left (word right ++ rest) (omega arith)

  right_read : number_at bytes 16 8 ≡ right
  unfolding number_at
  right_read = reads_back 8 right rest (omega arith)

  keys_read : table (key_in kind bytes) (entries_in bytes + 1) ≡ keys
  keys_read = table_is (key_in kind bytes) (entries_in bytes + 1) keys [] (omega (arith, entries_read)) (λ i low.
      part-behind head rest (i * (kind.key_length + 8)) kind.key_length ∙ key_read kind i keys children pad are one low)

  children_read : table (child_in kind bytes) (entries_in bytes) ≡ children
  children_read = table_is (child_in kind bytes) (entries_in bytes) children 0 entries_read (λ i low.
      let place : 24 + i * (kind.key_length + 8) + kind.key_length ≡ 24 + (i * (kind.key_length + 8) + kind.key_length) = omega arith in
      ap (λ n. number_at bytes n 8) place ∙ number_at-append head rest (i * (kind.key_length + 8) + kind.key_length) 8
      ∙ child_read kind i keys children pad are small one low)

  pub node_reads : node_of kind bytes ≡ record { level = level; left = left; right = right; keys = keys; children = children }
  unfolding node_of
  node_reads = λ i. record { level = level; left = left_read i; right = right_read i; keys = keys_read i; children = children_read i }

  pub node_formed : IsNode kind bytes
  unfolding part
  node_formed = record { signed = refl; type_byte = refl; roomy = rw entries_read room }
