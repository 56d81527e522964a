-- The bytes of a row of nodes read back: its nodes follow each other, each names its neighbours, and its children are the row below.
use Rattle.std.proofs.Common.{◌≡◌, ℕ, zero, suc, ◌+◌, ◌*◌, ◌^◌, ◌<◌, ◌≤◌, List, [], ◌∷◌, ◌++◌, length, refl, sym, ap, ◌∙◌, subst, arith, length-append}
use Rattle.std.specs.Prelude.{⊤}
use Rattle.std.specs.List.{AllByRecursion, flat_map}
use Rattle.std.proofs.lemmas.List.{length-map, map-append}
use Rattle.h5_bytes.specs.Bytes.{part}
use Rattle.h5_bytes.specs.Blocks.{Run}
use Rattle.h5_bytes.proofs.BlockLaws.{all_left, all_right}
use Rattle.h5_bytes.proofs.PartLaws.{part-part, part-front, part-appended}
use Rattle.h5_model.specs.Format.Superblock.{highest_k}
use Rattle.h5_model.specs.Format.Nodes.{IsNode, Kind, node_at, node_bytes, node_length, node_of, entries_in, tree_blocks}
use Rattle.h5_model.specs.Format.Plain.{node_bytes_of}
use Rattle.h5_model.specs.Format.Rows.{Node, Reading, IsRow, next_row, first_or_undefined}
use Rattle.h5_btree.specs.Writing.Written.{FitsKind, AllFit, keys_of, last_below, places_of, right_of, row_bytes, as_children}
use Rattle.h5_btree.specs.declared.write.child.Child.{Child}
use Rattle.h5_btree.proofs.WriteLaws.NodeReads.{AreWords, are_keys, length-node, entries_read, node_reads, node_formed, one_more}

-- ---- places

-- the addresses of so many nodes of one size, one behind the other
abbrev pub addresses : ℕ → ℕ → ℕ → List ℕ
addresses size at zero = []
addresses size at (suc n) = at ∷ addresses size (at + size) n

one_behind : (at n size : ℕ) → at + suc n * size ≡ at + size + n * size
one_behind at n size = omega arith

one_first : (n size : ℕ) → size + n * size ≡ suc n * size
one_first n size = omega arith

pub addresses-append : (size at n m : ℕ) → addresses size at (n + m) ≡ addresses size at n ++ addresses size (at + n * size) m
addresses-append size at zero m =
    let none : 0 + m ≡ m = omega arith in
    let here : at + 0 * size ≡ at = omega arith in
    rw (none, here) refl
addresses-append size at (suc n) m =
    let more : suc n + m ≡ suc (n + m) = omega arith in
    rw (more, one_behind at n size) (ap (λ rest. at ∷ rest) (addresses-append size (at + size) n m))

pub addresses_run : (kind : Kind) (at n : ℕ) → Run at (tree_blocks kind (addresses (node_length kind) at n)) (at + n * node_length kind)
addresses_run kind at zero = omega arith
addresses_run kind at (suc n) = (
  refl,
  subst (λ to. Run (at + node_length kind) (tree_blocks kind (addresses (node_length kind) (at + node_length kind) n)) to)
      (sym (one_behind at n (node_length kind))) (addresses_run kind (at + node_length kind) n),
)

-- the bytes in front and those behind them
pub part_split : (at : ℕ) (xs ys image : List ℕ) → part at (length (xs ++ ys)) image ≡ xs ++ ys
    → (part at (length xs) image ≡ xs) × (part (at + length xs) (length ys) image ≡ ys)
part_split at xs ys image there =
    let whole : length (xs ++ ys) ≡ length xs + length ys = length-append xs ys in
    let none : at + 0 ≡ at = omega arith in
    let front : part (at + 0) (length xs) image ≡ xs
    = sym (part-part 0 (length xs) at (length (xs ++ ys)) image (omega arith)) ∙ ap (part 0 (length xs)) there ∙ part-front xs ys in
    let back : part (at + length xs) (length ys) image ≡ ys
    = sym (part-part (length xs) (length ys) at (length (xs ++ ys)) image (omega arith)) ∙ ap (part (length xs) (length ys)) there ∙ part-appended xs ys in
    (ap (λ n. part n (length xs) image) (sym none) ∙ front, back)

-- this is read at each of the addresses
abbrev pub ReadsAt : List ℕ → Kind → Reading → List ℕ → Type 0
ReadsAt image kind V owned = AllByRecursion (λ at. V at ≡ node_at image kind at) owned

-- ---- the children of nodes

module _ {K : Type 0} (kind : Kind) where
  abbrev pub AreShort : List (List (Child K)) → Type 0
  AreShort cs = AllByRecursion (λ (c : List (Child K)). length c ≤ 2 * kind.k) cs

  pub fewer : (c : List (Child K)) → length c ≤ 2 * kind.k → length (places_of c) ≤ 2 * kind.k
  fewer c short = omega (arith, length-map c (λ (x : Child K). x.at))

  right_small : (at : ℕ) (cs : List (List (Child K))) → at + node_length kind < 2 ^ 64 → right_of kind at cs < 2 ^ 64
  right_small at [] low = omega arith
  right_small at (c ∷ cs) low = low

  pub length-raised : (at : ℕ) (before : K) (cs : List (List (Child K))) → length (as_children kind at before cs) ≡ length cs
  length-raised at before [] = refl
  length-raised at before (c ∷ cs) = ap suc (length-raised (at + node_length kind) (last_below before c) cs)

  pub places-raised : (at : ℕ) (before : K) (cs : List (List (Child K))) → places_of (as_children kind at before cs) ≡ addresses (node_length kind) at (length cs)
  places-raised at before [] = refl
  places-raised at before (c ∷ cs) = ap (λ rest. at ∷ rest) (places-raised (at + node_length kind) (last_below before c) cs)

  pub raised_small : (at : ℕ) (before : K) (cs : List (List (Child K))) → at + length cs * node_length kind < 2 ^ 64
      → AreWords (places_of (as_children kind at before cs))
  raised_small at before [] room = tt
  raised_small at before (c ∷ cs) room =
      let next : at + node_length kind + length cs * node_length kind < 2 ^ 64 = subst (λ n. n < 2 ^ 64) (one_behind at (length cs) (node_length kind)) room in
      (omega arith, raised_small (at + node_length kind) (last_below before c) cs next)

-- what holds of the key before children and of those behind them
module _ {K : Type 0} (Q : K → Type 0) where
  abbrev pub LastsAre : List (Child K) → Type 0
  LastsAre c = AllByRecursion (λ (x : Child K). Q x.key) c

  pub last_is : (before : K) (c : List (Child K)) → Q before → LastsAre c → Q (last_below before c)
  last_is before [] first are = first
  last_is before (x ∷ c) first are = last_is x.key c are.0 are.1

  -- it holds of those behind the nodes of a row
  pub raised_lasts : (kind : Kind) (at : ℕ) (before : K) (cs : List (List (Child K))) → Q before → AllByRecursion LastsAre cs
      → LastsAre (as_children kind at before cs)
  raised_lasts kind at before [] first lasts = tt
  raised_lasts kind at before (c ∷ cs) first lasts =
      let last = last_is before c first lasts.0 in
      (last, raised_lasts kind (at + node_length kind) (last_below before c) cs last lasts.1)

-- ---- the bytes of a row

module _ {K : Type 0} (kind : Kind) (bytes : K → List ℕ) where
  -- children that fit into one node
  pub record IsPiece (c : List (Child K)) : Type 0 where
    pub short : length c ≤ 2 * kind.k
    pub fit : AllFit kind bytes c
    pub small : AreWords (places_of c)

  pub pieces : (cs : List (List (Child K))) → AreShort kind cs → AllByRecursion (AllFit kind bytes) cs → AreWords (places_of (flat_map (λ (c : List (Child K)). c) cs))
      → AllByRecursion IsPiece cs
  pieces [] short fit small = tt
  pieces (c ∷ cs) short fit small =
      let split : places_of (c ++ flat_map (λ (d : List (Child K)). d) cs) ≡ places_of c ++ places_of (flat_map (λ (d : List (Child K)). d) cs)
      = map-append (λ (x : Child K). x.at) c (flat_map (λ (d : List (Child K)). d) cs) in
      let both = subst AreWords split small in (
        record { short = short.0; fit = fit.0; small = all_left (λ n. n < 2 ^ 64) (places_of c) (places_of (flat_map (λ (d : List (Child K)). d) cs)) both },
        pieces cs short.1 fit.1 (all_right (λ n. n < 2 ^ 64) (places_of c) (places_of (flat_map (λ (d : List (Child K)). d) cs)) both),
      )

  -- what a node over these children says
  abbrev pub node_over : ℕ → ℕ → ℕ → K → List (Child K) → Node
  node_over level left right before c = record { level = level; left = left; right = right; keys = keys_of bytes before c; children = places_of c }

  -- and its bytes
  abbrev pub bytes_over : ℕ → ℕ → ℕ → K → List (Child K) → List ℕ
  bytes_over level left right before c = node_bytes_of kind level left right (keys_of bytes before c) (places_of c)

  pub length-over : (level left right : ℕ) (before : K) (c : List (Child K)) → FitsKind kind bytes before → length c ≤ 2 * kind.k → AllFit kind bytes c
      → length (bytes_over level left right before c) ≡ node_length kind
  length-over level left right before c first short fit =
      length-node kind level left right (keys_of bytes before c) (places_of c) (fewer kind c short) (one_more bytes before c) (are_keys kind bytes before c first fit)

  pub last_fits : (before : K) (c : List (Child K)) → FitsKind kind bytes before → AllFit kind bytes c → FitsKind kind bytes (last_below before c)
  last_fits before c first fit = last_is (FitsKind kind bytes) before c first fit

  pub length-row : (level left : ℕ) (before : K) (at : ℕ) (cs : List (List (Child K))) → FitsKind kind bytes before → AreShort kind cs
      → AllByRecursion (AllFit kind bytes) cs → length (row_bytes kind bytes level left before at cs) ≡ length cs * node_length kind
  length-row level left before at [] first short fit = omega arith
  length-row level left before at (c ∷ cs) first short fit =
      length-append (bytes_over level left (right_of kind at cs) before c) (row_bytes kind bytes level at (last_below before c) (at + node_length kind) cs)
      ∙ (λ i. length-over level left (right_of kind at cs) before c first short.0 fit.0 i
      + length-row level at (last_below before c) (at + node_length kind) cs (last_fits before c first fit.0) short.1 fit.1 i)
      ∙ one_first (length cs) (node_length kind)

  -- each node's bytes stand at its address
  abbrev pub AreWritten : List ℕ → ℕ → ℕ → K → ℕ → List (List (Child K)) → Type 0
  AreWritten image level left before at [] = ⊤
  AreWritten image level left before at (c ∷ cs) =
      (node_bytes image kind at ≡ bytes_over level left (right_of kind at cs) before c)
      × AreWritten image level at (last_below before c) (at + node_length kind) cs

  pub row_written : (image : List ℕ) (level left : ℕ) (before : K) (at : ℕ) (cs : List (List (Child K))) → FitsKind kind bytes before → AreShort kind cs
      → AllByRecursion (AllFit kind bytes) cs
      → part at (length (row_bytes kind bytes level left before at cs)) image ≡ row_bytes kind bytes level left before at cs
      → AreWritten image level left before at cs
  row_written image level left before at [] first short fit there = tt
  row_written image level left before at (c ∷ cs) first short fit there =
      let node : List ℕ = bytes_over level left (right_of kind at cs) before c in
      let rest : List ℕ = row_bytes kind bytes level at (last_below before c) (at + node_length kind) cs in
      let both = part_split at node rest image there in
      let long : length node ≡ node_length kind = length-over level left (right_of kind at cs) before c first short.0 fit.0 in (
        ap (λ n. part at n image) (sym long) ∙ both.0,
        row_written image level at (last_below before c) (at + node_length kind) cs (last_fits before c first fit.0) short.1 fit.1
            (ap (λ n. part (at + n) (length rest) image) (sym long) ∙ both.1),
      )

  -- each node reads as a node over its children
  abbrev pub AreRead : Reading → ℕ → ℕ → K → ℕ → List (List (Child K)) → Type 0
  AreRead V level left before at [] = ⊤
  AreRead V level left before at (c ∷ cs) =
      (V at ≡ node_over level left (right_of kind at cs) before c) × AreRead V level at (last_below before c) (at + node_length kind) cs

  module _ (image : List ℕ) (level : ℕ) (high : kind.k ≤ highest_k) where
    -- the row's premises: neighbour and key before it, its children, and its end
    pub record IsRowThere (left : ℕ) (before : K) (at : ℕ) (cs : List (List (Child K))) : Type 0 where
      pub are : AllByRecursion IsPiece cs
      pub left_low : left < 2 ^ 64
      pub first : FitsKind kind bytes before
      pub room : at + length cs * node_length kind < 2 ^ 64
      pub there : AreWritten image level left before at cs

    behind : (left : ℕ) (before : K) (at : ℕ) (c : List (Child K)) (cs : List (List (Child K))) → IsRowThere left before at (c ∷ cs)
        → IsRowThere at (last_below before c) (at + node_length kind) cs
    behind left before at c cs row = record {
      are = (row.are).1;
      left_low = omega (arith, row.room);
      first = last_fits before c row.first ((row.are).0).fit;
      room = subst (λ n. n < 2 ^ 64) (one_behind at (length cs) (node_length kind)) row.room;
      there = (row.there).1;
    }

    right_low : (left : ℕ) (before : K) (at : ℕ) (c : List (Child K)) (cs : List (List (Child K))) → IsRowThere left before at (c ∷ cs) → right_of kind at cs < 2 ^ 64
    right_low left before at c cs row =
        right_small kind at cs (omega (arith, row.room, one_behind at (length cs) (node_length kind)))

    pub row_reads : (V : Reading) (left : ℕ) (before : K) (at : ℕ) (cs : List (List (Child K))) → IsRowThere left before at cs
        → ReadsAt image kind V (addresses (node_length kind) at (length cs)) → AreRead V level left before at cs
    row_reads V left before at [] row reads = tt
    row_reads V left before at (c ∷ cs) row reads =
        let piece = (row.are).0 in
        let said : node_of kind (node_bytes image kind at) ≡ node_over level left (right_of kind at cs) before c
        = ap (node_of kind) (row.there).0
        ∙ node_reads kind level left (right_of kind at cs) (keys_of bytes before c) (places_of c) high (fewer kind c piece.short) (one_more bytes before c)
        (are_keys kind bytes before c row.first piece.fit) piece.small row.left_low (right_low left before at c cs row) in
        (reads.0 ∙ said, row_reads V at (last_below before c) (at + node_length kind) cs (behind left before at c cs row) reads.1)

    pub row_formed : (left : ℕ) (before : K) (at : ℕ) (cs : List (List (Child K))) → IsRowThere left before at cs
        → AllByRecursion (λ a. IsNode kind (node_bytes image kind a)) (addresses (node_length kind) at (length cs))
    row_formed left before at [] row = tt
    row_formed left before at (c ∷ cs) row =
        let piece = (row.are).0 in (
          subst (IsNode kind) (sym (row.there).0)
              (node_formed kind level left (right_of kind at cs) (keys_of bytes before c) (places_of c) high (fewer kind c piece.short) (one_more bytes before c)
              (are_keys kind bytes before c row.first piece.fit) piece.small row.left_low (right_low left before at c cs row)),
          row_formed at (last_below before c) (at + node_length kind) cs (behind left before at c cs row),
        )

    pub row_filled : (left : ℕ) (before : K) (at : ℕ) (cs : List (List (Child K))) → IsRowThere left before at cs
        → AllByRecursion (λ (c : List (Child K)). 1 ≤ length c) cs
        → AllByRecursion (λ a. 1 ≤ entries_in (node_bytes image kind a)) (addresses (node_length kind) at (length cs))
    row_filled left before at [] row some = tt
    row_filled left before at (c ∷ cs) row some =
        let piece = (row.are).0 in
        let count : entries_in (node_bytes image kind at) ≡ length (places_of c)
        = ap entries_in (row.there).0
        ∙ entries_read kind level left (right_of kind at cs) (keys_of bytes before c) (places_of c) high (fewer kind c piece.short) (one_more bytes before c)
        (are_keys kind bytes before c row.first piece.fit) piece.small row.left_low (right_low left before at c cs row) in
        let long : length (places_of c) ≡ length c = length-map c (λ (x : Child K). x.at) in
        let one = some.0 in
        (omega arith, row_filled at (last_below before c) (at + node_length kind) cs (behind left before at c cs row) some.1)

  -- ---- what a row says

  first_is_right : (at : ℕ) (cs : List (List (Child K))) → right_of kind at cs ≡ first_or_undefined (addresses (node_length kind) (at + node_length kind) (length cs))
  first_is_right at [] = refl
  first_is_right at (c ∷ cs) = refl

  pub row_is : (V : Reading) (level left : ℕ) (before : K) (at : ℕ) (cs : List (List (Child K))) → AreRead V level left before at cs
      → IsRow V level left (addresses (node_length kind) at (length cs))
  row_is V level left before at [] read = tt
  row_is V level left before at (c ∷ cs) read = (
    ap (λ (n : Node). n.level) read.0,
    ap (λ (n : Node). n.left) read.0,
    ap (λ (n : Node). n.right) read.0 ∙ first_is_right at cs,
    row_is V level at (last_below before c) (at + node_length kind) cs read.1,
  )

  pub next_row_is : (V : Reading) (level left : ℕ) (before : K) (at : ℕ) (cs : List (List (Child K))) → AreRead V level left before at cs
      → next_row V (addresses (node_length kind) at (length cs)) ≡ places_of (flat_map (λ (c : List (Child K)). c) cs)
  next_row_is V level left before at [] read = refl
  next_row_is V level left before at (c ∷ cs) read =
      let rest = next_row_is V level at (last_below before c) (at + node_length kind) cs read.1 in
      ap (λ (n : Node). n.children ++ next_row V (addresses (node_length kind) (at + node_length kind) (length cs))) read.0
      ∙ ap (λ row. places_of c ++ row) rest ∙ sym (map-append (λ (x : Child K). x.at) c (flat_map (λ (d : List (Child K)). d) cs))

  -- ---- the keys of a row

  module _ (Q : List ℕ → Type 0) where
    -- each key of a node is one of which this holds
    abbrev pub IsKeyedBy : Node → Type 0
    IsKeyedBy node = AllByRecursion Q node.keys

    abbrev of_key : K → Type 0
    of_key key = Q (bytes key)

    keys_are : (before : K) (c : List (Child K)) → of_key before → LastsAre of_key c → AllByRecursion Q (keys_of bytes before c)
    keys_are before [] first are = (first, tt)
    keys_are before (x ∷ c) first are = (first, keys_are x.key c are.0 are.1)

    pub row_keys : (V : Reading) (level left : ℕ) (before : K) (at : ℕ) (cs : List (List (Child K))) → AreRead V level left before at cs
        → of_key before → AllByRecursion (LastsAre of_key) cs → AllByRecursion (λ n. IsKeyedBy (V n)) (addresses (node_length kind) at (length cs))
    row_keys V level left before at [] read first lasts = tt
    row_keys V level left before at (c ∷ cs) read first lasts = (
      subst IsKeyedBy (sym read.0) (keys_are before c first lasts.0),
      row_keys V level at (last_below before c) (at + node_length kind) cs read.1 (last_is of_key before c first lasts.0) lasts.1,
    )
