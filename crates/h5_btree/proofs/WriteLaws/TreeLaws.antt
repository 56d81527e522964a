-- Trees in the plain layout read as their children, and are as long as their nodes.
use Rattle.std.proofs.Common.{◌≡◌, ℕ, zero, suc, ◌+◌, ◌-◌, ◌*◌, ◌^◌, ◌<◌, ◌≤◌, inl, inr, List, [], ◌∷◌, ◌++◌, length, refl, sym, ap, ◌∙◌, subst, arith, length-append}
use Rattle.std.specs.List.{AllByRecursion, Contains}
use Rattle.std.proofs.lemmas.Bool.{cases_lt}
use Rattle.h5_bytes.specs.Bytes.{part, undefined_address}
use Rattle.h5_bytes.proofs.BlockLaws.{all_left, all_right, all_so}
use Rattle.h5_model.specs.Format.Limits.{highest_level}
use Rattle.h5_model.specs.Format.Superblock.{highest_k}
use Rattle.h5_model.specs.Format.Nodes.{HasTree, Kind, node_at, node_length, reading_of, tree_blocks}
use Rattle.h5_bytes.specs.Blocks.{Run}
use Rattle.h5_model.specs.Format.PlainLength.{rows_of, nodes_over}
use Rattle.h5_model.specs.Format.Rows.{Reading, blank}
use Rattle.h5_model.proofs.RowLaws.{only_here}
use Rattle.h5_btree.specs.Writing.Laws.{TreeReads, TreeLength}
use Rattle.h5_btree.specs.Writing.Written.{FitsKind, AllFit, chunks, keys_of, level_over, as_children, places_of, root_level, row_bytes, row_place, rows_bytes, tree_bytes}
use Rattle.h5_btree.specs.declared.write.child.Child.{Child}
use Rattle.h5_btree.proofs.WriteLaws.Counts.{nodes_one, nodes_more, level_one, level_more, rows_some, root_level_is}
use Rattle.h5_btree.proofs.WriteLaws.Levels.{down_to_zero}
use Rattle.h5_btree.proofs.WriteLaws.NodeReads.{AreWords}
use Rattle.h5_btree.proofs.WriteLaws.Order.{ordered_at_bottom}
use Rattle.h5_btree.proofs.WriteLaws.RowReads.{IsRowThere, LastsAre, ReadsAt, addresses, addresses-append, addresses_run, length-raised, part_split, pieces, raised_lasts, raised_small, row_written}
use Rattle.h5_btree.proofs.WriteLaws.Trees.{IsTree, chunks_all, chunks_filled, chunks_short, flat-chunks, length-chunks, length-one, length-rows_bytes, length-whole, one_node, raised_fit, row_more, rows_top, rows_more}

-- ---- the whole tree, from the bottom row up

module _ {K : Type 0} (image : List ℕ) (kind : Kind) (bytes : K → List ℕ) (first : K) (V : Reading) (Q : List ℕ → Type 0) (holds : Q (bytes first))
    (some : 1 ≤ kind.k) (high : kind.k ≤ highest_k) (fits : FitsKind kind bytes first) where
  abbrev size : ℕ
  size = node_length kind

  abbrev most : ℕ
  most = 2 * kind.k

  abbrev Lasts : List (Child K) → Type 0
  Lasts c = LastsAre (λ (key : K). Q (bytes key)) c

  -- these many nodes from a place on
  abbrev nodes_at : ℕ → ℕ → List ℕ
  nodes_at at n = addresses size at n

  abbrev Tree : ℕ → ℕ → ℕ → List (Child K) → List ℕ → Type 1
  Tree level depth at children owned = IsTree kind bytes first image V Q level depth at children owned

  -- rows with a root over so many children
  abbrev Grown : ℕ → ℕ → ℕ → List (Child K) → Type 1
  Grown levels level at children = Tree level (level_over levels most (length children)) at children (nodes_at at (nodes_over levels most (length children)))

  -- the bytes of the rows stand there, and are read; and what is known of the children
  pub record IsGrown (levels level at : ℕ) (children : List (Child K)) : Type 0 where
    pub fit : AllFit kind bytes children
    pub small : AreWords (places_of children)
    pub room : at + length (rows_bytes kind bytes first levels level at children) < 2 ^ 63
    pub there : part at (length (rows_bytes kind bytes first levels level at children)) image ≡ rows_bytes kind bytes first levels level at children
    pub reads : ReadsAt image kind V (nodes_at at (nodes_over levels most (length children)))
    pub lasts : Lasts children

  far : (n : ℕ) → n < 2 ^ 63 → n < 2 ^ 64
  far n low = omega (arith, low)

  one_grown : (levels level at : ℕ) (children : List (Child K)) → length children ≤ most → IsGrown (suc levels) level at children
      → Grown (suc levels) level at children
  one_grown levels level at children few is =
      let bytes_are : rows_bytes kind bytes first (suc levels) level at children ≡ row_bytes kind bytes level undefined_address first at (children ∷ [])
      = rows_top kind bytes first levels level at children few in
      let count : nodes_over (suc levels) most (length children) ≡ 1 = nodes_one (suc levels) most (length children) (omega arith) few in
      let flat : level_over (suc levels) most (length children) ≡ 0 = level_one (suc levels) most (length children) few in
      let long : length (rows_bytes kind bytes first (suc levels) level at children) ≡ 1 * size
      = ap length bytes_are ∙ length-one kind bytes first some fits level at children few is.fit in
      let one : 1 * size ≡ size = omega arith in
      let stands = subst (λ bs. part at (length bs) image ≡ bs) bytes_are is.there in
      let node = one_node kind bytes first image V Q holds some high fits level at children few is.fit is.small
      (far (at + size) (subst (λ n. at + n < 2 ^ 63) (long ∙ one) is.room)) stands
      (subst (λ n. ReadsAt image kind V (nodes_at at n)) count is.reads) is.lasts in
      subst (λ d. Tree level d at children (nodes_at at (nodes_over (suc levels) most (length children)))) (sym flat)
      (subst (λ n. Tree level 0 at children (nodes_at at n)) (sym count) node)

  module _ (levels level at : ℕ) (children : List (Child K)) (many : most < length children) (is : IsGrown (suc levels) level at children) where
    abbrev width : ℕ
    width = rows_of most (length children)

    abbrev place : ℕ
    place = row_place levels kind at (length children)

    abbrev cs : List (List (Child K))
    cs = chunks most children

    abbrev upper : List (Child K)
    upper = as_children kind place first cs

    abbrev above : List ℕ
    above = rows_bytes kind bytes first levels (level + 1) at upper

    abbrev row : List ℕ
    row = row_bytes kind bytes level undefined_address first place cs

    wide : length cs ≡ width
    wide = length-chunks kind children some many

    upper_wide : length upper ≡ width
    upper_wide = length-raised kind place first cs ∙ wide

    count : nodes_over (suc levels) most (length children) ≡ nodes_over levels most width + length cs
    count =
        let one : suc levels - 1 ≡ levels = omega arith in
        nodes_more (suc levels) most (length children) (omega arith) many ∙ ap (λ n. width + nodes_over n most width) one ∙ omega (arith, wide)

    deep : level_over (suc levels) most (length children) ≡ suc (level_over levels most width)
    deep =
        let one : suc levels - 1 ≡ levels = omega arith in
        level_more (suc levels) most (length children) (omega arith) many ∙ ap (λ n. 1 + level_over n most width) one ∙ omega arith

    owned_are : nodes_at at (nodes_over (suc levels) most (length children)) ≡ nodes_at at (nodes_over levels most width) ++ nodes_at place (length cs)
    owned_are = ap (nodes_at at) count ∙ addresses-append size at (nodes_over levels most width) (length cs)

    pub upper_fit : AllFit kind bytes upper
    upper_fit = raised_fit kind bytes first fits place children is.fit

    above_long : length above ≡ nodes_over levels most width * size
    above_long = length-rows_bytes kind bytes first some fits levels (level + 1) at upper upper_fit ∙ ap (λ n. nodes_over levels most n * size) upper_wide

    row_long : length row ≡ length cs * size
    row_long = length-whole kind bytes first some fits level place children many is.fit ∙ ap (λ n. n * size) (sym wide)

    whole_is : rows_bytes kind bytes first (suc levels) level at children ≡ above ++ row
    whole_is = rows_more kind bytes first levels level at children many

    sum_of : (a b whole s : ℕ) → at + whole < 2 ^ 63 → whole ≡ a + b → a ≡ s → (at + a < 2 ^ 63) × (at + s + b < 2 ^ 64)
    sum_of a b whole s low split above_is = (omega arith, omega arith)

    all_long : length (rows_bytes kind bytes first (suc levels) level at children) ≡ length above + length row
    all_long = ap length whole_is ∙ length-append above row

    rooms : (at + length above < 2 ^ 63) × (at + nodes_over levels most width * size + length row < 2 ^ 64)
    rooms = sum_of (length above) (length row) (length (rows_bytes kind bytes first (suc levels) level at children)) (nodes_over levels most width * size)
        is.room all_long above_long

    both : (part at (length above) image ≡ above) × (part (at + length above) (length row) image ≡ row)
    both = part_split at above row image (subst (λ bs. part at (length bs) image ≡ bs) whole_is is.there)

    row_stands : part place (length row) image ≡ row
    row_stands = ap (λ n. part (at + n) (length row) image) (sym above_long) ∙ both.1

    all_read : ReadsAt image kind V (nodes_at at (nodes_over levels most width) ++ nodes_at place (length cs))
    all_read = subst (ReadsAt image kind V) owned_are is.reads

    above_read : ReadsAt image kind V (nodes_at at (nodes_over levels most width))
    above_read = all_left (λ a. V a ≡ node_at image kind a) (nodes_at at (nodes_over levels most width)) (nodes_at place (length cs)) all_read

    row_read : ReadsAt image kind V (nodes_at place (length cs))
    row_read = all_right (λ a. V a ≡ node_at image kind a) (nodes_at at (nodes_over levels most width)) (nodes_at place (length cs)) all_read

    cs_fit : AllByRecursion (AllFit kind bytes) cs
    cs_fit = chunks_all kind children (λ (c : Child K). FitsKind kind bytes c.key) is.fit

    cs_lasts : AllByRecursion Lasts cs
    cs_lasts = chunks_all kind children (λ (c : Child K). Q (bytes c.key)) is.lasts

    row_room : place + length cs * size < 2 ^ 64
    row_room = subst (λ n. place + n < 2 ^ 64) row_long rooms.1

    row_there : IsRowThere kind bytes image level high undefined_address first place cs
    row_there = record {
      are = pieces kind bytes cs (chunks_short kind children some many) cs_fit
          (subst (λ (c : List (Child K)). AreWords (places_of c)) (sym (flat-chunks kind children)) is.small);
      left_low = omega arith;
      first = fits;
      room = row_room;
      there = row_written kind bytes image level undefined_address first place cs fits (chunks_short kind children some many) cs_fit row_stands;
    }

    pub upper_grown : IsGrown levels (level + 1) at upper
    upper_grown = record {
      fit = upper_fit;
      small = raised_small kind place first cs row_room;
      room = rooms.0;
      there = both.0;
      reads = subst (λ n. ReadsAt image kind V (nodes_at at (nodes_over levels most n))) (sym upper_wide) above_read;
      lasts = raised_lasts (λ (key : K). Q (bytes key)) kind place first cs holds cs_lasts;
    }

    pub upper_low : level + level_over (suc levels) most (length children) ≤ highest_level → level + 1 + level_over levels most (length upper) ≤ highest_level
    upper_low low = rw upper_wide (omega (arith, deep))

    pub more_grown : Grown levels (level + 1) at upper → Grown (suc levels) level at children
    more_grown grown =
        let tree : Tree (level + 1) (level_over levels most width) at upper (nodes_at at (nodes_over levels most width))
        = subst (λ n. Tree (level + 1) (level_over levels most n) at upper (nodes_at at (nodes_over levels most n))) upper_wide grown in
        let one : 1 ≤ length cs = omega (arith, wide, rows_some most (length children) (omega arith) (omega arith)) in
        let all = row_more kind bytes first image V Q holds some high fits level (level_over levels most width) at place cs (nodes_at at (nodes_over levels most width)) one
        (chunks_filled kind children some many) row_there row_read cs_lasts tree in
        subst (λ d. Tree level d at children (nodes_at at (nodes_over (suc levels) most (length children)))) (sym deep)
        (subst (λ owned. Tree level (suc (level_over levels most width)) at children owned) (sym owned_are)
        (subst (λ c. Tree level (suc (level_over levels most width)) at c (nodes_at at (nodes_over levels most width) ++ nodes_at place (length cs)))
        (flat-chunks kind children) all))

  pub grown : (levels level at : ℕ) (children : List (Child K)) → level + level_over levels most (length children) ≤ highest_level → 16 ≤ level + levels
      → IsGrown levels level at children → Grown levels level at children
  grown zero level at children low enough is = absurd (omega arith)
  grown (suc levels) level at children low enough is = elim (cases_lt most (length children)) [
    | inr few ↦ one_grown levels level at children few is
    | inl many ↦ more_grown levels level at children many is
        (grown levels (level + 1) at (upper levels level at children many is) (upper_low levels level at children many is low) (omega arith)
        (upper_grown levels level at children many is))
  ]

-- ---- the laws

pub tree_bytes_is : {K : Type 0} (kind : Kind) (bytes : K → List ℕ) (first : K) (at : ℕ) (children : List (Child K))
    → tree_bytes kind bytes first at children ≡ rows_bytes kind bytes first 64 0 at children
unfolding tree_bytes
tree_bytes_is kind bytes first at children = refl

pub tree_length : TreeLength
tree_length K kind bytes first at children some fits fit =
    ap length (tree_bytes_is kind bytes first at children) ∙ length-rows_bytes kind bytes first some fits 64 0 at children fit

-- a root above other nodes has children
deep_some : (levels m n : ℕ) → 1 ≤ level_over levels m n → 1 ≤ n
deep_some levels m zero deep =
    let flat : level_over levels m 0 ≡ 0 = level_one levels m 0 (omega arith) in
    absurd (omega (arith, flat))
deep_some levels m (suc n) deep = omega arith

-- each key behind a child is one of them
contained : {K : Type 0} (bytes : K → List ℕ) (before : K) (cs : List (Child K)) → LastsAre (λ (key : K). Contains (keys_of bytes before cs) (bytes key)) cs
contained bytes before [] = tt
contained {K = K} bytes before (c ∷ cs) = (
  (1, omega arith, refl),
  all_so (λ (x : Child K). Contains (keys_of bytes c.key cs) (bytes x.key)) (λ (x : Child K). Contains (keys_of bytes before (c ∷ cs)) (bytes x.key)) cs
      (λ x is. (suc is.0, omega (arith, is.1), is.2)) (contained bytes c.key cs),
)

pub tree_reads : TreeReads
tree_reads K image kind bytes first at children some high fits fit small low room there =
    let count : ℕ = nodes_over 64 (2 * kind.k) (length children) in
    let owned : List ℕ = addresses (node_length kind) at count in
    let V : Reading = reading_of image kind owned in
    let Q : List ℕ → Type 0 = Contains (keys_of bytes first children) in
    let holds : Q (bytes first) = (0, omega arith, refl) in
    let level : root_level kind.k (length children) ≡ level_over 64 (2 * kind.k) (length children) = root_level_is kind.k (length children) in
    let bytes_are = tree_bytes_is kind bytes first at children in
    let long : length (tree_bytes kind bytes first at children) ≡ count * node_length kind = tree_length K kind bytes first at children some fits fit in
    let tree : IsTree kind bytes first image V Q 0 (level_over 64 (2 * kind.k) (length children)) at children owned
    = grown image kind bytes first V Q holds some high fits 64 0 at children (omega (arith, low, level)) (omega arith) (record {
      fit = fit;
      small = small;
      room = subst (λ bs. at + length bs < 2 ^ 63) bytes_are room;
      there = subst (λ bs. part at (length bs) image ≡ bs) bytes_are there;
      reads = all_so (λ a. node_at image kind a ≡ V a) (λ a. V a ≡ node_at image kind a) owned (λ a e. sym e) (only_here blank (node_at image kind) owned);
      lasts = contained bytes first children;
    }) in
    record {
      owned = owned;
      tree = subst (λ l. HasTree image kind at l owned (places_of children)) (sym level) (record {
        low = omega (arith, low, level);
        formed = tree.formed;
        filled = λ deep. tree.filled (deep_some 64 (2 * kind.k) (length children) deep);
        rows = down_to_zero V (level_over 64 (2 * kind.k) (length children)) (at ∷ []) tree.down;
        owns = tree.owns;
        all = tree.all;
      });
      run = subst (λ n. Run at (tree_blocks kind owned) (at + n)) (sym long) (addresses_run kind at count);
      keyed = tree.keyed;
      ordered = λ sides beside bottom orderly is h. tree.ordered sides orderly beside bottom is
          (ordered_at_bottom kind bytes V sides orderly beside bottom is first children h);
    }
