-- Where keys alone are others, a way ends in the same tree.
use Rattle.std.proofs.Common.{◌≡◌, ◌≢◌, ℕ, suc, ◌+◌, ◌<◌, ◌≤◌, List, [], ◌∷◌, ◌++◌, length, take, drop, slice_index, Bool, true, false, refl, sym, ap, ◌∙◌, subst, arith, ◌==◌}
use Rattle.std.specs.Prelude.{if◌then◌else◌}
use Rattle.std.specs.List.{list_any}
use Rattle.h5_bytes.specs.Bytes.{undefined_address}
use Rattle.h5_model.specs.Format.Rows.{Node, Reading, blank, next_row}
use Rattle.h5_model.specs.Format.Nodes.{Kind, IsNode, entries_in, node_at, node_bytes, node_of, reading_of}
use Rattle.h5_model.proofs.RowLaws.{all_listed, at_listed}
use Rattle.h5_space.specs.Space.{Space}
use Rattle.h5_btree.specs.Climb.{IsWay, KeepsRows}
use Rattle.h5_btree.specs.Rewritten.{IsRewritten}
use Rattle.h5_btree.specs.Removal.{EndsInTree}
use Rattle.h5_btree.specs.declared.way.Step.{Step}
use Rattle.h5_btree.proofs.NodeLaws.{length-children}
use Rattle.h5_btree.proofs.TreeReadings.{Listed}
use Rattle.h5_btree.proofs.WayRows.{next_row-keyed, IsRow-keyed, AreRows-keyed, leaves-keyed, nodes-keyed}
use Rattle.h5_btree.proofs.ClimbSteps.{all_from, at_or}
use Rattle.h5_btree.proofs.SplitSteps.{written_apart, written_others}

module _ (V W : Reading) (same : KeepsRows V W) where
  pub children-keyed : (n : ℕ) → (W n).children ≡ (V n).children
  children-keyed n = ap (λ (k : Node). k.children) (same n).1

  pub IsWay-keyed : (m root : ℕ) (way : List Step) (a : ℕ) (front back : List ℕ) → IsWay V m root way a front back → IsWay W m root way a front back
  IsWay-keyed m root [] a front back is = is
  IsWay-keyed m root (s ∷ way) a front back (f, bk, below, rest) = (
    f,
    bk,
    record {
      place = subst (λ (xs : List ℕ). s.place < length xs) (sym (children-keyed s.node)) below.place;
      child = ap (λ (xs : List ℕ). slice_index xs s.place) (children-keyed s.node) ∙ below.child;
      fronts = below.fronts ∙ ap (λ (xs : List ℕ). xs ++ take s.place (V s.node).children) (sym (next_row-keyed V W same f))
          ∙ ap (λ (xs : List ℕ). next_row W f ++ take s.place xs) (sym (children-keyed s.node));
      backs = below.backs ∙ ap (λ (xs : List ℕ). drop (suc s.place) xs ++ next_row V bk) (sym (children-keyed s.node))
          ∙ ap (λ (xs : List ℕ). drop (suc s.place) (W s.node).children ++ xs) (sym (next_row-keyed V W same bk));
      row = IsRow-keyed V W same (suc m) undefined_address (f ++ s.node ∷ bk) below.row;
    },
    IsWay-keyed (suc m) root way s.node f bk rest,
  )

-- one node has other keys
module _ (s t : Space) (kind : Kind) (root level : ℕ) (way : List Step) (owned list : List ℕ) (k : ℕ) (e : EndsInTree s kind root level way owned list k)
    (n : ℕ) (listed : Listed owned n) (keys : List (List ℕ)) (r : IsRewritten s t kind n (record (node_at s.bytes kind n) { keys = keys })) where
  abbrev V : Reading
  V = reading_of s.bytes kind owned

  abbrev W : Reading
  W = reading_of t.bytes kind owned

  others : (m : ℕ) → Listed owned m → m ≢ n → node_bytes t.bytes kind m ≡ node_bytes s.bytes kind m
  others = written_others s t kind owned n _ e.apart listed r

  same_rows : KeepsRows V W
  same_rows m = go (list_any (λ i. i == m) owned) refl where
    go : (b : Bool) → list_any (λ i. i == m) owned ≡ b
        → (ks : List (List ℕ)) × ((if b then node_at t.bytes kind m else blank) ≡ record (if b then node_at s.bytes kind m else blank) { keys = ks })
    go false off = ([], refl)
    go true on = at_or n m
        (λ same. (keys, subst (λ (i : ℕ). node_at t.bytes kind i ≡ record (node_at s.bytes kind i) { keys = keys }) (sym same) r.says))
        (λ other. ((node_at s.bytes kind m).keys, ap (node_of kind) (others m on other)))

  count : (m : ℕ) → Listed owned m → entries_in (node_bytes t.bytes kind m) ≡ entries_in (node_bytes s.bytes kind m)
  count m is = at_or n m
      (λ same. subst (λ (i : ℕ). entries_in (node_bytes t.bytes kind i) ≡ entries_in (node_bytes s.bytes kind i)) (sym same)
      (length-children kind (node_bytes t.bytes kind n) (node_at t.bytes kind n) refl ∙ ap (λ (o : Node). length o.children) r.says
      ∙ sym (length-children kind (node_bytes s.bytes kind n) (node_at s.bytes kind n) refl)))
      (λ other. ap (λ (b : List ℕ). entries_in b) (others m is other))

  pub ends_keyed : EndsInTree t kind root level way owned list k
  ends_keyed = record {
    tree = record {
      low = e.tree.low;
      formed = all_from owned (λ at. IsNode kind (node_bytes t.bytes kind at)) (λ m is. at_or n m
          (λ same. subst (λ (i : ℕ). IsNode kind (node_bytes t.bytes kind i)) (sym same) r.form)
          (λ other. subst (IsNode kind) (sym (others m is other)) (at_listed (λ at. IsNode kind (node_bytes s.bytes kind at)) owned m e.tree.formed is))) owned (all_listed owned);
      filled = λ high. all_from owned (λ at. 1 ≤ entries_in (node_bytes t.bytes kind at))
          (λ m is. let c = count m is in let old = at_listed (λ at. 1 ≤ entries_in (node_bytes s.bytes kind at)) owned m (e.tree.filled high) is in omega (arith, c, old)) owned (all_listed owned);
      rows = AreRows-keyed V W same_rows level (root ∷ []) e.tree.rows;
      owns = e.tree.owns ∙ sym (nodes-keyed V W same_rows level (root ∷ []));
      all = e.tree.all ∙ sym (leaves-keyed V W same_rows level (root ∷ []));
    };
    apart = written_apart s t kind owned n _ e.apart listed r;
    short = let g = r.spends.grown in let low = e.short in omega (arith, g, low);
    step = e.step;
    above = e.above;
    way_is = e.way_is;
    front = e.front;
    back = e.back;
    leads = IsWay-keyed V W same_rows 0 root e.above e.step.node e.front e.back e.leads;
    row = IsRow-keyed V W same_rows 0 undefined_address (e.front ++ e.step.node ∷ e.back) e.row;
    place = subst (λ (xs : List ℕ). e.step.place < length xs) (sym (children-keyed V W same_rows e.step.node)) e.place;
    number = e.number ∙ ap (λ (xs : List ℕ). length xs + e.step.place) (sym (next_row-keyed V W same_rows e.front));
  }
