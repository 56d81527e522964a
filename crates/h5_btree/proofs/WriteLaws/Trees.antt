-- The rows of a tree from the root down, one over the other.
use Rattle.std.proofs.Common.{◌≡◌, ℕ, zero, suc, ◌+◌, ◌-◌, ◌*◌, ◌^◌, ◌<◌, ◌≤◌, inl, inr, List, [], ◌∷◌, ◌++◌, length, refl, sym, ap, ◌∙◌, subst, arith, append-nil, length-append}
use Rattle.std.specs.List.{AllByRecursion, flat_map}
use Rattle.std.proofs.lemmas.Bool.{cases_lt}
use Rattle.h5_bytes.specs.Bytes.{part, undefined_address}
use Rattle.h5_bytes.proofs.BlockLaws.{all_append}
use Rattle.h5_model.specs.Format.Superblock.{highest_k}
use Rattle.h5_model.specs.Format.Nodes.{IsNode, Kind, node_bytes, node_length, entries_in}
use Rattle.h5_model.specs.Format.PlainLength.{rows_of, nodes_over}
use Rattle.h5_model.specs.Format.Rows.{Reading, IsRow, leaves, nodes, next_row}
use Rattle.h5_laws.specs.Ladders.{Bottom, IsOrderedBy, Sides, IsOrderly}
use Rattle.h5_btree.specs.Writing.Laws.{IsBeside}
use Rattle.h5_btree.specs.Writing.Written.{FitsKind, AllFit, chunks, as_children, places_of, row_bytes, row_place, rows_bytes}
use Rattle.h5_btree.specs.declared.write.child.Child.{Child}
use Rattle.h5_btree.proofs.WriteLaws.Counts.{is_over, is_within, nodes_one, nodes_more}
use Rattle.h5_btree.proofs.WriteLaws.Levels.{AreDownTo, down_more, leaves-more, nodes-more}
use Rattle.h5_btree.proofs.WriteLaws.NodeReads.{AreWords}
use Rattle.h5_btree.proofs.WriteLaws.Order.{AreOrderedUnder, raised_ordered, row_ordered}
use Rattle.h5_btree.proofs.WriteLaws.Pieces.{all_apart, flat-cut, short-cut, filled-cut, length-cut}
use Rattle.h5_btree.proofs.WriteLaws.RowReads.{AreShort, IsKeyedBy, IsRowThere, LastsAre, ReadsAt, addresses, length-raised, length-row, next_row_is, places-raised, raised_lasts, row_filled, row_formed, row_is, row_keys, row_reads, row_written}

-- ---- the children of a row of more than one node, cut into its nodes

module _ {K : Type 0} (kind : Kind) (children : List (Child K)) where
  pub flat-chunks : flat_map (λ (c : List (Child K)). c) (chunks (2 * kind.k) children) ≡ children
  flat-chunks = flat-cut (2 * kind.k) (length children) children

  -- what holds of all children holds in each node
  pub chunks_all : (P : Child K → Type 0) → AllByRecursion P children → AllByRecursion (AllByRecursion P) (chunks (2 * kind.k) children)
  chunks_all P all = all_apart P (chunks (2 * kind.k) children) (subst (AllByRecursion P) (sym flat-chunks) all)

  module _ (some : 1 ≤ kind.k) (many : 2 * kind.k < length children) where
    pub chunks_short : AreShort kind (chunks (2 * kind.k) children)
    chunks_short = short-cut (2 * kind.k) (length children) children (omega arith) (omega arith)

    pub chunks_filled : AllByRecursion (λ (c : List (Child K)). 1 ≤ length c) (chunks (2 * kind.k) children)
    chunks_filled = filled-cut (2 * kind.k) (length children) children (omega arith) (omega arith)

    pub length-chunks : length (chunks (2 * kind.k) children) ≡ rows_of (2 * kind.k) (length children)
    length-chunks = length-cut (2 * kind.k) (length children) children (omega arith) (omega arith) (omega arith)

module _ {K : Type 0} (kind : Kind) (bytes : K → List ℕ) (first : K) where
  -- ---- the bytes, level by level

  pub rows_top : (levels level at : ℕ) (children : List (Child K)) → length children ≤ 2 * kind.k
      → rows_bytes kind bytes first (suc levels) level at children ≡ row_bytes kind bytes level undefined_address first at (children ∷ [])
  rows_top levels level at children few = rw (is_within (length children) (2 * kind.k) few) refl

  pub rows_more : (levels level at : ℕ) (children : List (Child K)) → 2 * kind.k < length children
      → rows_bytes kind bytes first (suc levels) level at children
      ≡ rows_bytes kind bytes first levels (level + 1) at (as_children kind (row_place levels kind at (length children)) first (chunks (2 * kind.k) children))
      ++ row_bytes kind bytes level undefined_address first (row_place levels kind at (length children)) (chunks (2 * kind.k) children)
  rows_more levels level at children many = rw (is_over (length children) (2 * kind.k) many) refl

  -- the keys behind the nodes of a row fit
  pub raised_fit : FitsKind kind bytes first → (at : ℕ) (children : List (Child K)) → AllFit kind bytes children
      → AllFit kind bytes (as_children kind at first (chunks (2 * kind.k) children))
  raised_fit fits at children fit =
      raised_lasts (FitsKind kind bytes) kind at first (chunks (2 * kind.k) children) fits (chunks_all kind children (λ (c : Child K). FitsKind kind bytes c.key) fit)

  module _ (some : 1 ≤ kind.k) (fits : FitsKind kind bytes first) where
    pub length-one : (level at : ℕ) (children : List (Child K)) → length children ≤ 2 * kind.k → AllFit kind bytes children
        → length (row_bytes kind bytes level undefined_address first at (children ∷ [])) ≡ 1 * node_length kind
    length-one level at children few fit = length-row kind bytes level undefined_address first at (children ∷ []) fits (few, tt) (fit, tt)

    pub length-whole : (level at : ℕ) (children : List (Child K)) → 2 * kind.k < length children → AllFit kind bytes children
        → length (row_bytes kind bytes level undefined_address first at (chunks (2 * kind.k) children)) ≡ rows_of (2 * kind.k) (length children) * node_length kind
    length-whole level at children many fit =
        length-row kind bytes level undefined_address first at (chunks (2 * kind.k) children) fits (chunks_short kind children some many)
        (chunks_all kind children (λ (c : Child K). FitsKind kind bytes c.key) fit)
        ∙ ap (λ n. n * node_length kind) (length-chunks kind children some many)

    sum_times : (a b s : ℕ) → b * s + a * s ≡ (a + b) * s
    sum_times a b s = omega arith

    pub length-rows_bytes : (levels level at : ℕ) (children : List (Child K)) → AllFit kind bytes children
        → length (rows_bytes kind bytes first levels level at children) ≡ nodes_over levels (2 * kind.k) (length children) * node_length kind
    length-rows_bytes zero level at children fit = omega arith
    length-rows_bytes (suc levels) level at children fit = elim (cases_lt (2 * kind.k) (length children)) [
      | inr few ↦
          ap length (rows_top levels level at children few) ∙ length-one level at children few fit
          ∙ ap (λ n. n * node_length kind) (sym (nodes_one (suc levels) (2 * kind.k) (length children) (omega arith) few))
      | inl many ↦
          let place : ℕ = row_place levels kind at (length children) in
          let cs : List (List (Child K)) = chunks (2 * kind.k) children in
          let width : ℕ = rows_of (2 * kind.k) (length children) in
          let long : length (as_children kind place first cs) ≡ width = length-raised kind place first cs ∙ length-chunks kind children some many in
          let above : length (rows_bytes kind bytes first levels (level + 1) at (as_children kind place first cs)) ≡ nodes_over levels (2 * kind.k) width * node_length kind
          = length-rows_bytes levels (level + 1) at (as_children kind place first cs) (raised_fit fits place children fit)
          ∙ ap (λ n. nodes_over levels (2 * kind.k) n * node_length kind) long in
          let one : suc levels - 1 ≡ levels = omega arith in
          let count : nodes_over (suc levels) (2 * kind.k) (length children) ≡ width + nodes_over levels (2 * kind.k) width
          = nodes_more (suc levels) (2 * kind.k) (length children) (omega arith) many ∙ ap (λ n. width + nodes_over n (2 * kind.k) width) one in
          ap length (rows_more levels level at children many)
          ∙ length-append (rows_bytes kind bytes first levels (level + 1) at (as_children kind place first cs)) (row_bytes kind bytes level undefined_address first place cs)
          ∙ (λ i. above i + length-whole level place children many fit i)
          ∙ sum_times width (nodes_over levels (2 * kind.k) width) (node_length kind) ∙ ap (λ n. n * node_length kind) (sym count)
    ]

  -- ---- what the rows say, level by level

  -- The rows from the root at this place down to this level, over these children: Q holds of their keys.
  pub record IsTree (image : List ℕ) (V : Reading) (Q : List ℕ → Type 0) (level depth at : ℕ) (children : List (Child K)) (owned : List ℕ) : Type 1 where
    pub down : AreDownTo V level depth (at ∷ [])
    pub owns : owned ≡ nodes V depth (at ∷ [])
    pub all : places_of children ≡ leaves V depth (at ∷ [])
    pub formed : AllByRecursion (λ a. IsNode kind (node_bytes image kind a)) owned
    pub filled : 1 ≤ length children → AllByRecursion (λ a. 1 ≤ entries_in (node_bytes image kind a)) owned
    pub keyed : AllByRecursion (λ n. IsKeyedBy kind bytes Q (V n)) owned
    pub ordered : {X : Type 0} (sides : Sides (List ℕ) X) (orderly : IsOrderly sides) (beside : List ℕ → ℕ → List X) (bottom : Bottom X)
        (is_beside : IsBeside beside bottom) → AreOrderedUnder kind bytes V sides orderly beside bottom is_beside level first children
        → AllByRecursion (λ n. IsOrderedBy sides V bottom (V n)) owned

  module _ (image : List ℕ) (V : Reading) (Q : List ℕ → Type 0) (holds : Q (bytes first)) (some : 1 ≤ kind.k) (high : kind.k ≤ highest_k)
      (fits : FitsKind kind bytes first) where
    abbrev Lasts : List (Child K) → Type 0
    Lasts c = LastsAre (λ (key : K). Q (bytes key)) c

    -- one node
    pub one_node : (level at : ℕ) (children : List (Child K)) → length children ≤ 2 * kind.k → AllFit kind bytes children → AreWords (places_of children)
        → at + node_length kind < 2 ^ 64
        → part at (length (row_bytes kind bytes level undefined_address first at (children ∷ []))) image ≡ row_bytes kind bytes level undefined_address first at (children ∷ [])
        → ReadsAt image kind V (at ∷ []) → Lasts children → IsTree image V Q level 0 at children (at ∷ [])
    one_node level at children few fit small room there reads lasts =
        let cs : List (List (Child K)) = children ∷ [] in
        let row : IsRowThere kind bytes image level high undefined_address first at cs = record {
          are = (record { short = few; fit = fit; small = small }, tt);
          left_low = omega arith;
          first = fits;
          room = omega (arith, room);
          there = row_written kind bytes image level undefined_address first at cs fits (few, tt) (fit, tt) there;
        } in
        let read = row_reads kind bytes image level high V undefined_address first at cs row reads in
        let flat : flat_map (λ (c : List (Child K)). c) cs ≡ children = append-nil children in
        record {
          down = row_is kind bytes V level undefined_address first at cs read;
          owns = refl;
          all = sym (next_row_is kind bytes V level undefined_address first at cs read ∙ ap places_of flat);
          formed = row_formed kind bytes image level high undefined_address first at cs row;
          filled = λ one. row_filled kind bytes image level high undefined_address first at cs row (one, tt);
          keyed = row_keys kind bytes Q V level undefined_address first at cs read holds (lasts, tt);
          ordered = λ sides orderly beside bottom is h. row_ordered kind bytes V sides orderly beside bottom is level undefined_address first at cs read
              (subst (AreOrderedUnder kind bytes V sides orderly beside bottom is level first) (sym flat) h);
        }

    -- one row more
    pub row_more : (level depth at place : ℕ) (cs : List (List (Child K))) (owned : List ℕ) → 1 ≤ length cs
        → AllByRecursion (λ (c : List (Child K)). 1 ≤ length c) cs → IsRowThere kind bytes image level high undefined_address first place cs
        → ReadsAt image kind V (addresses (node_length kind) place (length cs)) → AllByRecursion Lasts cs
        → IsTree image V Q (level + 1) depth at (as_children kind place first cs) owned
        → IsTree image V Q level (suc depth) at (flat_map (λ (c : List (Child K)). c) cs) (owned ++ addresses (node_length kind) place (length cs))
    row_more level depth at place cs owned one full there reads lasts above =
        let row : List ℕ = addresses (node_length kind) place (length cs) in
        let read = row_reads kind bytes image level high V undefined_address first place cs there reads in
        let bottom_row : row ≡ leaves V depth (at ∷ []) = sym (places-raised kind place first cs) ∙ above.all in
        let next : level + 1 ≡ suc level = omega arith in
        let long : length (as_children kind place first cs) ≡ length cs = length-raised kind place first cs in
        record {
          down = down_more V level depth (at ∷ []) above.down (subst (IsRow V level undefined_address) bottom_row (row_is kind bytes V level undefined_address first place cs read));
          owns = (λ i. above.owns i ++ bottom_row i) ∙ sym (nodes-more V depth (at ∷ []));
          all = sym (leaves-more V depth (at ∷ []) ∙ ap (next_row V) (sym bottom_row) ∙ next_row_is kind bytes V level undefined_address first place cs read);
          formed = all_append (λ a. IsNode kind (node_bytes image kind a)) owned row above.formed
              (row_formed kind bytes image level high undefined_address first place cs there);
          filled = λ _. all_append (λ a. 1 ≤ entries_in (node_bytes image kind a)) owned row (above.filled (omega (arith, long, one)))
              (row_filled kind bytes image level high undefined_address first place cs there full);
          keyed = all_append (λ n. IsKeyedBy kind bytes Q (V n)) owned row above.keyed (row_keys kind bytes Q V level undefined_address first place cs read holds lasts);
          ordered = λ sides orderly beside bottom is h. all_append (λ n. IsOrderedBy sides V bottom (V n)) owned row
              (above.ordered sides orderly beside bottom is
              (subst (λ l. AreOrderedUnder kind bytes V sides orderly beside bottom is l first (as_children kind place first cs)) (sym next)
              (raised_ordered kind bytes V sides orderly beside bottom is level undefined_address first place cs read h)))
              (row_ordered kind bytes V sides orderly beside bottom is level undefined_address first place cs read h);
        }
