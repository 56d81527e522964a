-- What the value of a node says of its bytes, and the room that its keys and children have.
use Rattle.std.proofs.Common.{◌≡◌, ℕ, suc, ◌+◌, ◌*◌, ◌<◌, ◌≤◌, List, [], length, get_or, slice_get, Some, sym, ap, ◌∙◌, arith}
use Rattle.std.proofs.Math.Nat.{mul-le-mul_right}
use Rattle.std.specs.List.{AllByRecursion}
use Rattle.std.proofs.lemmas.Option.{slice_get-get_or}
use Rattle.std.proofs.lemmas.List.Elements.{recursion_from_All, All-from_get_or}
use Rattle.h5_bytes.specs.Bytes.{byte_at, number_at}
use Rattle.h5_bytes.specs.Tables.{table}
use Rattle.h5_bytes.proofs.PartLaws.{length-part}
use Rattle.h5_bytes.proofs.TableLaws.{length-table, get_or-table}
use Rattle.h5_model.specs.Format.Rows.{Node}
use Rattle.h5_model.specs.Format.Nodes.{Kind, node_of, node_length, entries_in, key_in, key_place, child_in}

-- an entry of a table
listed : {X : Type 0} (f : ℕ → X) (n : ℕ) (xs : List X) (i : ℕ) (d : X) → table f n ≡ xs → i < length xs → slice_get xs i ≡ Some (f i)
listed f n xs i d is low =
    let long : length xs ≡ n = ap length (sym is) ∙ length-table f f n i in
    slice_get-get_or xs i d low ∙ ap (λ (ys : List _). Some (get_or ys i d)) (sym is) ∙ ap Some (get_or-table f f n i d (omega arith))

module _ (kind : Kind) (bytes : List ℕ) (node : Node) (is : node_of kind bytes ≡ node) where
  pub level_is : byte_at bytes 5 ≡ node.level
  unfolding node_of
  level_is = ap (λ (n : Node). n.level) is

  pub left_is : number_at bytes 8 8 ≡ node.left
  unfolding node_of
  left_is = ap (λ (n : Node). n.left) is

  pub right_is : number_at bytes 16 8 ≡ node.right
  unfolding node_of
  right_is = ap (λ (n : Node). n.right) is

  keys_are : table (key_in kind bytes) (entries_in bytes + 1) ≡ node.keys
  unfolding node_of
  keys_are = ap (λ (n : Node). n.keys) is

  children_are : table (child_in kind bytes) (entries_in bytes) ≡ node.children
  unfolding node_of
  children_are = ap (λ (n : Node). n.children) is

  pub length-keys : entries_in bytes + 1 ≡ length node.keys
  length-keys = sym (length-table (key_in kind bytes) (key_in kind bytes) (entries_in bytes + 1) 0) ∙ ap length keys_are

  pub length-children : entries_in bytes ≡ length node.children
  length-children = sym (length-table (child_in kind bytes) (child_in kind bytes) (entries_in bytes) 0) ∙ ap length children_are

  pub key_is : (i : ℕ) → i < length node.keys → slice_get node.keys i ≡ Some (key_in kind bytes i)
  key_is i low = listed (key_in kind bytes) (entries_in bytes + 1) node.keys i [] keys_are low

  pub child_is : (i : ℕ) → i < length node.children → slice_get node.children i ≡ Some (child_in kind bytes i)
  child_is i low = listed (child_in kind bytes) (entries_in bytes) node.children i 0 children_are low

-- a child that there is room for
pub child_room : (long most i : ℕ) → i < most → 24 + i * (long + 8) + long + 8 ≤ 24 + long + most * (long + 8)
child_room long most i low =
    let rows : suc i * (long + 8) ≤ most * (long + 8) = mul-le-mul_right (long + 8) low in
    omega arith

-- a node's length is small
pub small_length : (long most : ℕ) → long ≤ 272 → most ≤ 65534 → most * (long + 8) ≤ 65534 * 280
small_length long most low few =
    let rows : most * (long + 8) ≤ 65534 * (long + 8) = mul-le-mul_right (long + 8) few in
    omega arith

-- a node is no shorter than it has children at most
pub capacity_low : (kind : Kind) → 2 * kind.k ≤ node_length kind
capacity_low kind =
    let rows : 1 * (2 * kind.k) ≤ (kind.key_length + 8) * (2 * kind.k) = mul-le-mul_right (2 * kind.k) (omega arith) in
    omega (arith, rows)

-- a key that there is room for
key_room : (long most i : ℕ) → i ≤ most → 24 + i * (long + 8) + long ≤ 24 + long + most * (long + 8)
key_room long most i low =
    let rows : i * (long + 8) ≤ most * (long + 8) = mul-le-mul_right (long + 8) low in
    omega arith

-- each key of a node has the length of its kind's keys
pub keys_long : (kind : Kind) (bytes : List ℕ) → length bytes ≡ node_length kind → entries_in bytes ≤ 2 * kind.k
    → AllByRecursion (λ (key : List ℕ). length key ≡ kind.key_length) (node_of kind bytes).keys
unfolding node_of
keys_long kind bytes long roomy =
    let keys : List (List ℕ) = table (key_in kind bytes) (entries_in bytes + 1) in
    let count : length keys ≡ entries_in bytes + 1 = length-table (key_in kind bytes) (key_in kind bytes) (entries_in bytes + 1) 0 in
    let P : List ℕ → Type 0 = λ key. length key ≡ kind.key_length in
    recursion_from_All P keys (All-from_get_or P keys [] (λ i low.
    let under : i < entries_in bytes + 1 = omega arith in
    let room = key_room kind.key_length (2 * kind.k) i (omega arith) in
    ap (λ (key : List ℕ). length key) (get_or-table (key_in kind bytes) (key_in kind bytes) (entries_in bytes + 1) i [] under)
    ∙ length-part (key_place kind i) kind.key_length bytes (omega arith)))
