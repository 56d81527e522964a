-- Cells of an array that are written run by run: what one run leaves, and what two of them make.
use Rattle.std.proofs.Common.{◌≡◌, ℕ, ◌+◌, inl, inr, ℤ, List, [], ◌∷◌, ◌++◌, length, length-append, refl, sym, ap, ◌∙◌, subst, arith, Option, Some, None}
use Rattle.std.proofs.lemmas.Bool.{cases_eq}
use Rattle.std.specs.Prelude.{slice_set}
use Rattle.std.specs.Cmp.{nat_cmp_total}
use Rattle.std.specs.FinMap.{get, insert, nat_cmp-IsAntisymmetric, same_map}
use Rattle.std.specs.List.{range_with_len}
use Rattle.std.specs.Option.{option_and_then, option_map_or}
use Rattle.std.proofs.lemmas.List.FromFn.{length-range_with_len}
use Rattle.std.proofs.lemmas.Option.{same_Some}
use Rattle.h5_bytes.specs.Blocks.{cover}
use Rattle.h5_bytes.specs.declared.Block.{Block}
use Rattle.h5_model.specs.Edits.Applied.{with_cells, with_dataset}
use Rattle.h5_model.specs.Tree.Objects.{Tree, Object, Content, Group, Array, Dataset, dataset_in, dataset_of, with_object}
use Rattle.h5_model.proofs.SelectionLaws.{range-append}
use Rattle.h5_laws.proofs.SoundLaws.Inserted.{number_here, number_other}
use Rattle.h5_layout.proofs.StandingWritten.{parts_of_type}
use Rattle.h5_open.specs.ChangedInPlace.{IsChangedInPlace}
use Rattle.h5_open.specs.Opened.Sound.{IsSound}
use Rattle.h5_open.specs.Opened.State.{FileState}
use Rattle.h5_open.specs.Written.{with_places, with_run, AreCellsWritten, AreWrittenAt, IsCellStored, IsStoredRun}
use Rattle.h5_open.proofs.ChangedThen.{changed_none as none_changed, changed_then}

-- ---- cells

-- some places, and others behind them
cells_append : (cs : List ℤ) (ps qs : List ℕ) (vs ws : List ℤ) → length ps ≡ length vs
    → with_cells cs (ps ++ qs) (vs ++ ws) ≡ with_cells (with_cells cs ps vs) qs ws
cells_append cs [] qs [] ws same = refl
cells_append cs [] qs (v ∷ vs) ws same = absurd (omega (arith, same))
cells_append cs (p ∷ ps) qs [] ws same = absurd (omega (arith, same))
cells_append cs (p ∷ ps) qs (v ∷ vs) ws same = cells_append (slice_set cs p v) ps qs vs ws (omega (arith, same))

no_cells : (o : Object) → with_dataset (with_places [] []) o ≡ o
no_cells o = go o.content where
  go : (c : Content) → with_dataset (with_places [] []) (record o { content = c }) ≡ record o { content = c }
  go (Group links) = refl
  go (Array d) = refl

both_cells : (ps qs : List ℕ) (vs ws : List ℤ) → length ps ≡ length vs → (o : Object)
    → with_dataset (with_places qs ws) (with_dataset (with_places ps vs) o) ≡ with_dataset (with_places (ps ++ qs) (vs ++ ws)) o
both_cells ps qs vs ws same o = go o.content where
  go : (c : Content) → with_dataset (with_places qs ws) (with_dataset (with_places ps vs) (record o { content = c }))
      ≡ with_dataset (with_places (ps ++ qs) (vs ++ ws)) (record o { content = c })
  go (Group links) = refl
  go (Array d) = ap (λ (cs : List ℤ). record o { content = Array (record d { cells = cs }) }) (sym (cells_append d.cells ps qs vs ws same))

-- ---- an object of the tree

module _ (tree : Tree) (number : ℕ) where
  insert_again : (a b : Object) → insert (insert tree number a) number b ≡ insert tree number b
  insert_again a b = same_map nat_cmp_total nat_cmp-IsAntisymmetric (insert (insert tree number a) number b) (insert tree number b) (λ n. elim (cases_eq n number) [
    | inl same ↦ ap (get (insert (insert tree number a) number b)) same ∙ number_here (insert tree number a) number b ∙ sym (number_here tree number b) ∙ ap (get (insert tree number b)) (sym same)
    | inr other ↦ number_other (insert tree number a) number b n other ∙ number_other tree number a n other ∙ sym (number_other tree number b n other)
  ])

  insert_same : (o : Object) → get tree number ≡ Some o → insert tree number o ≡ tree
  insert_same o there = same_map nat_cmp_total nat_cmp-IsAntisymmetric (insert tree number o) tree (λ n. elim (cases_eq n number) [
    | inl same ↦ ap (get (insert tree number o)) same ∙ number_here tree number o ∙ sym there ∙ ap (get tree) (sym same)
    | inr other ↦ number_other tree number o n other
  ])

changed_some : (tree : Tree) (number : ℕ) (change : Object → Object) (o : Object) → get tree number ≡ Some o → with_object tree number change ≡ insert tree number (change o)
changed_some tree number change o there = ap (λ (found : Option Object). option_map_or (λ p. insert tree number (change p)) found tree) there

changed_none : (tree : Tree) (number : ℕ) (change : Object → Object) → get tree number ≡ None → with_object tree number change ≡ tree
changed_none tree number change none = ap (λ (found : Option Object). option_map_or (λ p. insert tree number (change p)) found tree) none

unchanged : (tree : Tree) (number : ℕ) (change : Object → Object) → ((o : Object) → change o ≡ o) → with_object tree number change ≡ tree
unchanged tree number change same = go (get tree number) refl where
  go : (x : Option Object) → get tree number ≡ x → with_object tree number change ≡ tree
  go None none = changed_none tree number change none
  go (Some o) there = changed_some tree number change o there ∙ ap (insert tree number) (same o) ∙ insert_same tree number o there

pub changed_twice : (tree : Tree) (number : ℕ) (first next both : Object → Object) → ((o : Object) → next (first o) ≡ both o)
    → with_object (with_object tree number first) number next ≡ with_object tree number both
changed_twice tree number first next both same = go (get tree number) refl where
  go : (x : Option Object) → get tree number ≡ x → with_object (with_object tree number first) number next ≡ with_object tree number both
  go None none =
      ap (λ (t : Tree). with_object t number next) (changed_none tree number first none) ∙ changed_none tree number next none ∙ sym (changed_none tree number both none)
  go (Some o) there =
      ap (λ (t : Tree). with_object t number next) (changed_some tree number first o there)
      ∙ changed_some (insert tree number (first o)) number next (first o) (number_here tree number (first o))
      ∙ insert_again tree number (first o) (next (first o)) ∙ ap (insert tree number) (same o) ∙ sym (changed_some tree number both o there)

-- the array of a number, once it is changed
pub array_changed : (tree : Tree) (number : ℕ) (change : Dataset → Dataset) (d : Dataset) → dataset_of tree number ≡ Some d
    → dataset_of (with_object tree number (with_dataset change)) number ≡ Some (change d)
array_changed tree number change d is = go (get tree number) refl is where
  by_content : (o : Object) (c : Content) → dataset_in c ≡ Some d → dataset_in (with_dataset change (record o { content = c })).content ≡ Some (change d)
  by_content o (Group links) at = absurd (let never : None ≡ Some d = at in cc)
  by_content o (Array e) at = ap (λ (x : Dataset). Some (change x)) (same_Some e d at)

  go : (x : Option Object) → get tree number ≡ x → option_and_then (λ (o : Object). dataset_in o.content) x ≡ Some d
      → dataset_of (with_object tree number (with_dataset change)) number ≡ Some (change d)
  go None none at = absurd (let never : None ≡ Some d = at in cc)
  go (Some o) there at =
      ap (λ (t : Tree). dataset_of t number) (changed_some tree number (with_dataset change) o there)
      ∙ ap (option_and_then (λ (p : Object). dataset_in p.content)) (number_here tree number (with_dataset change o))
      ∙ by_content o o.content at

-- ---- an opened image

-- where no cell is written, all is as before
pub none_written : (f : FileState) (number : ℕ) → IsSound f → AreWrittenAt f number [] [] f
none_written f number sound = record {
  changed = ap (λ (t : Tree). record f { tree = t }) (sym (unchanged f.tree number (with_dataset (with_places [] [])) no_cells));
  in_place = subst (λ (t : Tree). IsChangedInPlace f f t f.next (number ∷ []) 0) (sym (unchanged f.tree number (with_dataset (with_places [] [])) no_cells))
      (none_changed f (number ∷ []) sound);
  k = refl;
  whole = λ whole. whole;
  stored = λ p stored. stored;
  local = λ a there. record { long = refl; kept = λ p none. refl };
  again = λ a there. (a, there, refl);
}

module _ (f g : FileState) (number : ℕ) (ps : List ℕ) (vs : List ℤ) (same : length ps ≡ length vs) (first : AreWrittenAt f number ps vs g) where
  tree_then : g.tree ≡ with_object f.tree number (with_dataset (with_places ps vs))
  tree_then = ap (λ (s : FileState). s.tree) first.changed

  pub array_then : (d : Dataset) → dataset_of f.tree number ≡ Some d → dataset_of g.tree number ≡ Some (with_places ps vs d)
  array_then d array = ap (λ (t : Tree). dataset_of t number) tree_then ∙ array_changed f.tree number (with_places ps vs) d array

  tree_both : (qs : List ℕ) (ws : List ℤ) → with_object (with_object f.tree number (with_dataset (with_places ps vs))) number (with_dataset (with_places qs ws))
      ≡ with_object f.tree number (with_dataset (with_places (ps ++ qs) (vs ++ ws)))
  tree_both qs ws =
      changed_twice f.tree number (with_dataset (with_places ps vs)) (with_dataset (with_places qs ws)) (with_dataset (with_places (ps ++ qs) (vs ++ ws)))
      (both_cells ps qs vs ws same)

  -- both together
  pub both_written : IsSound f → (qs : List ℕ) (ws : List ℤ) (h : FileState) → AreWrittenAt g number qs ws h → AreWrittenAt f number (ps ++ qs) (vs ++ ws) h
  both_written sound qs ws h next = record {
    changed = next.changed
        ∙ ap (λ (s : FileState). record s { image = h.image; tree = with_object s.tree number (with_dataset (with_places qs ws)) }) first.changed
        ∙ ap (λ (t : Tree). record f { image = h.image; tree = t }) (tree_both qs ws);
    in_place =
        let then = changed_then f g h _ _ f.next g.next (number ∷ []) 0 0 sound first.in_place next.in_place in
        subst (λ (t : Tree). IsChangedInPlace f h t f.next (number ∷ []) 0)
        (ap (λ (t : Tree). with_object t number (with_dataset (with_places qs ws))) tree_then ∙ tree_both qs ws)
        (subst (λ (n : ℕ). IsChangedInPlace f h (with_object g.tree number (with_dataset (with_places qs ws))) n (number ∷ []) 0)
        (ap (λ (s : FileState). s.next) first.changed) then);
    k = next.k ∙ first.k;
    whole = λ whole. next.whole (first.whole whole);
    stored = λ p stored. next.stored p (first.stored p stored);
    local = λ a there.
        let now = first.again a there in
        let one = first.local a there in
        let two = next.local now.0 now.1 in
        record {
          long = two.long ∙ one.long;
          kept = λ p none. two.kept p (subst (λ (bs : List Block). cover p bs ≡ 0) (sym now.2) none) ∙ one.kept p none;
        };
    again = λ a there.
        let now = first.again a there in
        let then = next.again now.0 now.1 in
        (then.0, then.1, then.2 ∙ now.2);
  }

-- ---- a run of which the first cells are written

module _ (f g : FileState) (number place : ℕ) (vs : List ℤ) (first : AreCellsWritten f number place vs g) where
  abbrev ps : List ℕ
  ps = range_with_len place (length vs)

  as_many : length ps ≡ length vs
  as_many = length-range_with_len place (length vs)

  -- the cells behind can be written next
  pub run_behind : (ws : List ℤ) (d : Dataset) → IsStoredRun f number place (vs ++ ws) d → IsStoredRun g number (place + length vs) ws (with_run place vs d)
  run_behind ws d run =
      let long = length-append vs ws in
      record {
        array = array_then f g number ps vs as_many first d run.array;
        stored = λ k low.
            let on : place + (length vs + k) ≡ (place + length vs) + k = omega arith in
            first.stored ((place + length vs) + k) (subst (IsCellStored f number) on (run.stored (length vs + k) (omega (arith, long, low))));
        room = omega (arith, long, run.room);
        of_type = (parts_of_type d.fixed vs ws run.of_type).1;
      }

  -- and once they are, all are
  pub more_written : IsSound f → (ws : List ℤ) (h : FileState) → AreCellsWritten g number (place + length vs) ws h → AreCellsWritten f number place (vs ++ ws) h
  more_written sound ws h next =
      subst (λ (qs : List ℕ). AreWrittenAt f number qs (vs ++ ws) h)
      (sym (ap (range_with_len place) (length-append vs ws) ∙ range-append place (length vs) (length ws)))
      (both_written f g number ps vs as_many first sound (range_with_len (place + length vs) (length ws)) ws h next)
