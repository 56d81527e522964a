-- The nodes of a row as they are written one after another, and the rows as they are written one over the other.
use Rattle.std.proofs.Common.{◌≡◌, ℕ, suc, ◌+◌, ◌-◌, ◌*◌, ◌^◌, ◌<◌, ◌≤◌, inl, inr, List, [], ◌∷◌, ◌++◌, length, take, drop, get_or, refl, sym, ap, ◌∙◌, subst, arith, append-nil, append_assoc, length-append, ◌==◌, true, false}
use Rattle.std.proofs.lemmas.Bool.{cases_lt}
use Rattle.std.proofs.lemmas.Bool.Decides.{nat_tests}
use Rattle.std.proofs.lemmas.List.{take_all, drop_all, length-drop, take-append-drop}
use Rattle.h5_bytes.specs.Bytes.{undefined_address}
use Rattle.h5_bytes.proofs.BlockLaws.{all_left, all_right}
use Rattle.h5_model.specs.Format.Limits.{highest_level}
use Rattle.h5_model.specs.Format.Nodes.{Kind, node_length}
use Rattle.h5_model.specs.Format.PlainLength.{rows_of, nodes_over}
use Rattle.h5_btree.specs.Writing.Steps.{levels_from, rows_from}
use Rattle.h5_btree.specs.Writing.Written.{FitsKind, AllFit, chunks, last_below, level_over, as_children, right_of, root_level, row_bytes, rows_bytes, tree_bytes}
use Rattle.h5_btree.specs.declared.write.child.Child.{Child}
use Rattle.h5_btree.proofs.WriteLaws.Counts.{level_more, rows_few}
use Rattle.h5_btree.proofs.WriteLaws.Pieces.{chunks_more, cut_one, length-cut}
use Rattle.h5_btree.proofs.WriteLaws.RowReads.{bytes_over, length-raised}
use Rattle.h5_btree.proofs.WriteLaws.Trees.{length-chunks, length-rows_bytes, length-whole, raised_fit, rows_more, rows_top}

-- whether children are left
pub none_left : (n : ℕ) → true ≡ (n == 0) → n ≡ 0
none_left n h = grind (arith, nat_tests)

pub some_left : (n : ℕ) → false ≡ (n == 0) → 1 ≤ n
some_left n h = grind (arith, nat_tests)

-- ---- the children of nodes to come

-- the last child tells the key behind all
pub last_is_last : {K : Type 0} (before : K) (cs : List (Child K)) (d : Child K) → 1 ≤ length cs → (get_or cs (length cs - 1) d).key ≡ last_below before cs
last_is_last before [] d some = absurd (omega arith)
last_is_last before (c ∷ []) d some = refl
last_is_last before (c ∷ e ∷ cs) d some =
    let back : length (c ∷ e ∷ cs) - 1 ≡ suc (length (e ∷ cs) - 1) = omega arith in
    ap (λ n. (get_or (c ∷ e ∷ cs) n d).key) back ∙ last_is_last c.key (e ∷ cs) d (omega arith)

module _ {K : Type 0} (m : ℕ) where
  -- the children of the nodes to come: none where no children are left
  abbrev pub rest_of : List (Child K) → List (List (Child K))
  rest_of [] = []
  rest_of (c ∷ cs) = chunks m (c ∷ cs)

  pub rest_some : (cs : List (Child K)) → 1 ≤ length cs → rest_of cs ≡ chunks m cs
  rest_some [] some = absurd (omega arith)
  rest_some (c ∷ cs) some = refl

  pub rest_none : (cs : List (Child K)) → length cs ≡ 0 → rest_of cs ≡ []
  rest_none [] none = refl
  rest_none (c ∷ cs) none = absurd (omega arith)

  -- the first of them
  pub rest_more : (cs : List (Child K)) → 1 ≤ m → 1 ≤ length cs → rest_of cs ≡ take m cs ∷ rest_of (drop m cs)
  rest_more cs some one = elim (cases_lt m (length cs)) [
    | inl many ↦
        let left : length (drop m cs) ≡ length cs - m = length-drop m cs in
        rest_some cs one ∙ chunks_more m cs some many ∙ ap (λ (rest : List (List (Child K))). take m cs ∷ rest) (sym (rest_some (drop m cs) (omega arith)))
    | inr few ↦
        let none : drop m cs ≡ [] = drop_all m cs few in
        rest_some cs one ∙ cut_one m (length cs) cs few
        ∙ (λ i. sym (take_all m cs few) i ∷ rest_of (sym none i))
  ]

  pub length-rest : (cs : List (Child K)) → 1 ≤ m → 1 ≤ length cs → length (rest_of cs) ≡ rows_of m (length cs)
  length-rest cs some one = ap length (rest_some cs one) ∙ length-cut m (length cs) cs some one (omega arith)

  -- with the first of the nodes to come there is room for those behind it
  pub rest_room : (size place : ℕ) (cs : List (Child K)) → 1 ≤ m → 1 ≤ length cs → place + length (rest_of cs) * size < 2 ^ 63
      → (place + size < 2 ^ 63) × (place + size + length (rest_of (drop m cs)) * size < 2 ^ 63)
  rest_room size place cs some one room =
      let more : length (rest_of cs) ≡ suc (length (rest_of (drop m cs))) = ap length (rest_more cs some one) in
      let all = rw more at room in
      (omega arith, omega arith)

-- the keys behind some of these children fit, and so do those behind the others
module _ {K : Type 0} (kind : Kind) (bytes : K → List ℕ) (m : ℕ) (cs : List (Child K)) (fit : AllFit kind bytes cs) where
  both : AllFit kind bytes (take m cs ++ drop m cs)
  both = subst (AllFit kind bytes) (sym (take-append-drop m cs)) fit

  pub take_fits : AllFit kind bytes (take m cs)
  take_fits = all_left (λ (c : Child K). FitsKind kind bytes c.key) (take m cs) (drop m cs) both

  pub drop_fits : AllFit kind bytes (drop m cs)
  drop_fits = all_right (λ (c : Child K). FitsKind kind bytes c.key) (take m cs) (drop m cs) both

-- ---- one row

module _ {K : Type 0} (kind : Kind) (some : 1 ≤ kind.k) where
  raised_more : (place : ℕ) (before : K) (cs : List (Child K)) → 1 ≤ length cs
      → as_children kind place before (rest_of (2 * kind.k) cs)
      ≡ record { at = place; key = last_below before (take (2 * kind.k) cs) } ∷ as_children kind (place + node_length kind) (last_below before (take (2 * kind.k) cs)) (rest_of (2 * kind.k) (drop (2 * kind.k) cs))
  raised_more place before cs one = ap (as_children kind place before) (rest_more (2 * kind.k) cs (omega arith) one)

  -- the address of the node to the right, where there is one
  pub right_none : (place : ℕ) (cs : List (Child K)) → length cs ≡ 0 → right_of kind place (rest_of (2 * kind.k) cs) ≡ undefined_address
  right_none place cs none = ap (right_of kind place) (rest_none (2 * kind.k) cs none)

  pub right_some : (place : ℕ) (cs : List (Child K)) → 1 ≤ length cs → right_of kind place (rest_of (2 * kind.k) cs) ≡ place + node_length kind
  right_some place cs one = ap (right_of kind place) (rest_more (2 * kind.k) cs (omega arith) one)

  -- a node of the row was listed
  pub raised_step : (place : ℕ) (before : K) (size : ℕ) (last : K) (row listed rest node others all : List (Child K)) → 1 ≤ length rest → node ≡ take (2 * kind.k) rest
      → others ≡ drop (2 * kind.k) rest → last ≡ last_below before node → size ≡ node_length kind → listed ≡ row ++ record { at = place; key = last } ∷ []
      → row ++ as_children kind place before (rest_of (2 * kind.k) rest) ≡ all → listed ++ as_children kind (place + size) last (rest_of (2 * kind.k) others) ≡ all
  raised_step place before size last row listed rest node others all one node_is others_is last_is size_is listed_is so_far =
      let key : K = last_below before (take (2 * kind.k) rest) in
      let greatest : last ≡ key = last_is ∙ ap (last_below before) node_is in
      (λ i. listed_is i ++ as_children kind (place + size_is i) (greatest i) (rest_of (2 * kind.k) (others_is i)))
      ∙ (λ i. (row ++ record { at = place; key = greatest i } ∷ []) ++ as_children kind (place + node_length kind) key (rest_of (2 * kind.k) (drop (2 * kind.k) rest)))
      ∙ append_assoc row (record { at = place; key = key } ∷ []) (as_children kind (place + node_length kind) key (rest_of (2 * kind.k) (drop (2 * kind.k) rest)))
      ∙ ap (λ (more : List (Child K)). row ++ more) (sym (raised_more place before rest one)) ∙ so_far

  module _ (bytes : K → List ℕ) where
    row_more : (level left : ℕ) (before : K) (place : ℕ) (cs : List (Child K)) → 1 ≤ length cs
        → row_bytes kind bytes level left before place (rest_of (2 * kind.k) cs)
        ≡ bytes_over kind bytes level left (right_of kind place (rest_of (2 * kind.k) (drop (2 * kind.k) cs))) before (take (2 * kind.k) cs)
        ++ row_bytes kind bytes level place (last_below before (take (2 * kind.k) cs)) (place + node_length kind) (rest_of (2 * kind.k) (drop (2 * kind.k) cs))
    row_more level left before place cs one = ap (row_bytes kind bytes level left before place) (rest_more (2 * kind.k) cs (omega arith) one)

    -- a node of the row was written
    pub row_step : (level left right : ℕ) (before : K) (place size : ℕ) (last : K) (out written all : List ℕ) (rest node others : List (Child K)) → 1 ≤ length rest
        → node ≡ take (2 * kind.k) rest → others ≡ drop (2 * kind.k) rest → last ≡ last_below before node → size ≡ node_length kind
        → right ≡ right_of kind place (rest_of (2 * kind.k) others)
        → written ≡ out ++ bytes_over kind bytes level left right before node
        → out ++ row_bytes kind bytes level left before place (rest_of (2 * kind.k) rest) ≡ all
        → written ++ row_bytes kind bytes level place last (place + size) (rest_of (2 * kind.k) others) ≡ all
    row_step level left right before place size last out written all rest node others one node_is others_is last_is size_is right_is written_is so_far =
        let front : List (Child K) = take (2 * kind.k) rest in
        let behind : List (List (Child K)) = rest_of (2 * kind.k) (drop (2 * kind.k) rest) in
        let neighbour : right ≡ right_of kind place behind = right_is ∙ ap (λ (cs : List (Child K)). right_of kind place (rest_of (2 * kind.k) cs)) others_is in
        let greatest : last ≡ last_below before front = last_is ∙ ap (last_below before) node_is in
        let here : List ℕ = bytes_over kind bytes level left (right_of kind place behind) before front in
        let bytes_are : bytes_over kind bytes level left right before node ≡ here
        = λ i. bytes_over kind bytes level left (neighbour i) before (node_is i) in
        let others_bytes : row_bytes kind bytes level place last (place + size) (rest_of (2 * kind.k) others)
        ≡ row_bytes kind bytes level place (last_below before front) (place + node_length kind) behind
        = λ i. row_bytes kind bytes level place (greatest i) (place + size_is i) (rest_of (2 * kind.k) (others_is i)) in
        let both : written ≡ out ++ here = written_is ∙ ap (λ (bs : List ℕ). out ++ bs) bytes_are in
        (λ i. both i ++ others_bytes i)
        ∙ append_assoc out here (row_bytes kind bytes level place (last_below before front) (place + node_length kind) behind)
        ∙ ap (λ (bs : List ℕ). out ++ bs) (sym (row_more level left before place rest one)) ∙ so_far

-- ---- row over row

pub tree_is : {K : Type 0} (kind : Kind) (bytes : K → List ℕ) (first : K) (at : ℕ) (children : List (Child K))
    → tree_bytes kind bytes first at children ≡ rows_from kind bytes first 0 at children
unfolding tree_bytes rows_from
tree_is kind bytes first at children = refl

pub level_is : (k n : ℕ) → root_level k n ≡ levels_from k 0 n
unfolding root_level levels_from
level_is k n = refl

-- one node is the root
pub from_top : {K : Type 0} (kind : Kind) (bytes : K → List ℕ) (first : K) (level at : ℕ) (children : List (Child K)) → level ≤ highest_level → length children ≤ 2 * kind.k
    → rows_from kind bytes first level at children ≡ bytes_over kind bytes level undefined_address undefined_address first children
unfolding rows_from
from_top kind bytes first level at children low few =
    let next : 64 - level ≡ suc (63 - level) = omega arith in
    ap (λ levels. rows_bytes kind bytes first levels level at children) next ∙ rows_top kind bytes first (63 - level) level at children few
    ∙ append-nil (bytes_over kind bytes level undefined_address undefined_address first children)

-- a row of more than one node, and those above it
module _ {K : Type 0} (kind : Kind) (bytes : K → List ℕ) (first : K) (level at : ℕ) (children : List (Child K)) (low : level ≤ highest_level) (some : 1 ≤ kind.k)
    (fits : FitsKind kind bytes first) (fit : AllFit kind bytes children) (many : 2 * kind.k < length children) where
  abbrev width : ℕ
  width = rows_of (2 * kind.k) (length children)

  abbrev over : ℕ
  over = nodes_over (63 - level) (2 * kind.k) width

  abbrev place : ℕ
  place = at + over * node_length kind

  abbrev cs : List (List (Child K))
  cs = chunks (2 * kind.k) children

  abbrev upper : List (Child K)
  upper = as_children kind place first cs

  pub from_more : rows_from kind bytes first level at children ≡ rows_from kind bytes first (level + 1) at upper ++ row_bytes kind bytes level undefined_address first place cs
  unfolding rows_from
  from_more =
      let next : 64 - level ≡ suc (63 - level) = omega arith in
      let above : 63 - level ≡ 64 - (level + 1) = omega arith in
      ap (λ levels. rows_bytes kind bytes first levels level at children) next ∙ rows_more kind bytes first (63 - level) level at children many
      ∙ ap (λ levels. rows_bytes kind bytes first levels (level + 1) at upper ++ row_bytes kind bytes level undefined_address first place cs) above

  pub above_fit : AllFit kind bytes upper
  above_fit = raised_fit kind bytes first fits place children fit

  raised_wide : length upper ≡ width
  raised_wide = length-raised kind place first cs ∙ length-chunks kind children some many

  above_long : length (rows_from kind bytes first (level + 1) at upper) ≡ over * node_length kind
  unfolding rows_from
  above_long =
      let above : 64 - (level + 1) ≡ 63 - level = omega arith in
      length-rows_bytes kind bytes first some fits (64 - (level + 1)) (level + 1) at upper above_fit
      ∙ (λ i. nodes_over (above i) (2 * kind.k) (raised_wide i) * node_length kind)

  row_long : length (row_bytes kind bytes level undefined_address first place cs) ≡ width * node_length kind
  row_long = length-whole kind bytes first some fits level place children many fit

  all_long : length (rows_from kind bytes first level at children)
      ≡ length (rows_from kind bytes first (level + 1) at upper) + length (row_bytes kind bytes level undefined_address first place cs)
  all_long = ap length from_more ∙ length-append (rows_from kind bytes first (level + 1) at upper) (row_bytes kind bytes level undefined_address first place cs)

  sum_of : (whole a b : ℕ) → whole ≡ a + b → at + whole < 2 ^ 63 → (at + a < 2 ^ 63) × (at + a + b < 2 ^ 63)
  sum_of whole a b split room = (omega arith, omega arith)

  pub above_room : at + length (rows_from kind bytes first level at children) < 2 ^ 63 → at + length (rows_from kind bytes first (level + 1) at upper) < 2 ^ 63
  above_room room = (sum_of _ _ _ all_long room).0

  pub row_room : at + length (rows_from kind bytes first level at children) < 2 ^ 63 → place + width * node_length kind < 2 ^ 63
  row_room room = (sum_of (length (rows_from kind bytes first level at children)) (over * node_length kind) (width * node_length kind)
      (all_long ∙ (λ i. above_long i + row_long i)) room).1

  pub above_few : length children < 2 ^ 32 → length upper < 2 ^ 32
  above_few few = omega (arith, raised_wide, rows_few (2 * kind.k) (length children) (omega arith))

  pub above_low : level + levels_from kind.k level (length children) ≤ highest_level → level + 1 + levels_from kind.k (level + 1) (length upper) ≤ highest_level
  unfolding levels_from
  above_low deep =
      let more : 1 ≤ 64 - level = omega arith in
      let above : 64 - level - 1 ≡ 64 - (level + 1) = omega arith in
      let step : level_over (64 - level) (2 * kind.k) (length children) ≡ 1 + level_over (64 - (level + 1)) (2 * kind.k) width
      = level_more (64 - level) (2 * kind.k) (length children) more many ∙ ap (λ n. 1 + level_over n (2 * kind.k) width) above in
      rw raised_wide (omega (arith, step))

  -- the row is written behind those above it
  pub row_behind : (p : ℕ) (row : List (Child K)) (out above : List ℕ) → p ≡ place → row ≡ upper
      → above ≡ out ++ rows_from kind bytes first (level + 1) at row → above ++ row_bytes kind bytes level undefined_address first p cs ≡ out ++ rows_from kind bytes first level at children
  row_behind p row out above place_are row_is above_is =
      let bottom : List ℕ = row_bytes kind bytes level undefined_address first place cs in
      let whole : rows_from kind bytes first (level + 1) at row ++ bottom ≡ rows_from kind bytes first level at children
      = ap (λ (r : List (Child K)). rows_from kind bytes first (level + 1) at r ++ bottom) row_is ∙ sym from_more in
      (λ i. above_is i ++ row_bytes kind bytes level undefined_address first (place_are i) cs)
      ∙ append_assoc out (rows_from kind bytes first (level + 1) at row) bottom ∙ ap (λ (bs : List ℕ). out ++ bs) whole

-- where the row begins, as it is computed
pub place_is : (kind : Kind) (level at n m from rows above size : ℕ) → m ≡ 2 * kind.k → from ≡ level → rows ≡ rows_of m n
    → above ≡ nodes_over (63 - from) m rows → size ≡ node_length kind
    → at + above * size ≡ at + nodes_over (63 - level) (2 * kind.k) (rows_of (2 * kind.k) n) * node_length kind
place_is kind level at n m from rows above size m_is from_is rows_is above_is size_is =
    let width : rows ≡ rows_of (2 * kind.k) n = rows_is ∙ ap (λ x. rows_of x n) m_is in
    let count : above ≡ nodes_over (63 - level) (2 * kind.k) (rows_of (2 * kind.k) n) = above_is ∙ (λ i. nodes_over (63 - from_is i) (m_is i) (width i)) in
    λ i. at + count i * size_is i

-- it is a place
pub place_fits : (at above place rest : ℕ) → at + above ≡ place → place + rest < 2 ^ 63 → (above < 2 ^ 64) × (at + above < 2 ^ 64)
place_fits at above place rest there room = (omega arith, omega arith)
