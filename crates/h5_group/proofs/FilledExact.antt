-- An entry comes into the symbol node at the end of a way, in a group whose keys are exact but for those that were moved to let its name in:
-- they are exact then (File Format Specification 3.0, sections III.A.1 and III.B).
use Rattle.std.proofs.Common.{◌≡◌, inl, ℕ, zero, suc, ◌+◌, ◌^◌, ◌<◌, ◌≤◌, IsTrue, List, [], ◌∷◌, ◌++◌, length, get_or, take, drop, refl, sym, ap, ◌∙◌, subst, arith}
use Rattle.std.specs.List.{AllByRecursion, insert, remove}
use Rattle.std.proofs.lemmas.List.{drop-map, length-map, take-append-drop, take-map}
use Rattle.h5_bytes.specs.Numbers.{word}
use Rattle.h5_bytes.specs.Texts.{text_at}
use Rattle.h5_bytes.specs.declared.Block.{Block}
use Rattle.h5_bytes.proofs.BlockLaws.{all_append, all_left, all_right, all_so}
use Rattle.h5_model.specs.Format.Addresses.{SymbolTable}
use Rattle.h5_model.specs.Format.Superblock.{leaf_k}
use Rattle.h5_model.specs.Format.Heap.{segment_of}
use Rattle.h5_model.specs.Format.Links.{Before, IsBetween, NotAfter}
use Rattle.h5_model.specs.Format.Nodes.{Kind, group_kind, node_at}
use Rattle.h5_model.specs.Format.Symbols.{Entry, Target, symbols_at}
use Rattle.h5_model.specs.Tree.Paths.{is_name}
use Rattle.h5_model.proofs.Members.{all_both}
use Rattle.h5_laws.specs.KeyEdits.{IsPut}
use Rattle.h5_laws.specs.NameLadders.{key_text}
use Rattle.h5_laws.proofs.Lists.{In, all_in, in_right}
use Rattle.h5_space.specs.Space.{Space}
use Rattle.h5_btree.specs.Exact.{AreKeysExact}
use Rattle.h5_btree.specs.Insertion.{KeepsEntries, Owns}
use Rattle.h5_btree.specs.Removal.{EndsInTree}
use Rattle.h5_btree.specs.declared.way.Step.{Step}
use Rattle.h5_btree.proofs.KeyedExact.{kept_exact}
use Rattle.h5_btree.proofs.KeyedExactPuts.{filled_exact}
use Rattle.h5_snod.specs.Names.{IsPlace, entry_names}
use Rattle.h5_group.specs.Edited.{IsGroupIn, IsWayFor, offsets_of}
use Rattle.h5_group.specs.Exact.{AreSymbolsFilled, HasExactKeys, HasKeysFor}
use Rattle.h5_group.specs.Nodes.Trees.{kind_in}
use Rattle.h5_group.specs.Retired.{entry_keys, name_keys}
use Rattle.h5_group.specs.SymbolEdits.{IsSymbolsRewritten}
use Rattle.h5_group.proofs.EntryFrames.{backs_same, fronts_same, internal_same, leaf_same, trees_kept}
use Rattle.h5_group.proofs.EntryWays.{end_cut, ends_own}
use Rattle.h5_group.proofs.ExactTrees.{keeps_kept, keys_so, root_level_kept, told_kept}
use Rattle.h5_group.proofs.NameKeys.{keys_in_order, lowest_empty, name_low}
use Rattle.h5_group.proofs.NewKeys.{each_keyed, exact_for, key_put, new_above, new_text}
use Rattle.h5_group.proofs.SplitEntry.{insert_cut}
use Rattle.h5_group.proofs.ToldLaws.{symbol_nodes_are_told}

long_insert : {X : Type 0} (xs : List X) (k : ℕ) (x : X) → 1 ≤ length (insert xs k x)
long_insert [] zero x = omega arith
long_insert [] (suc k) x = omega arith
long_insert (y ∷ xs) zero x = omega arith
long_insert (y ∷ xs) (suc k) x = omega arith

module _ (s t : Space) (table : SymbolTable) (node k : ℕ) (e : Entry) (set : IsSymbolsRewritten s t (leaf_k s.bytes) node (insert (symbols_at s.bytes (leaf_k s.bytes) node) k e))
    (place : IsPlace (entry_names (segment_of s.bytes table.heap) (symbols_at s.bytes (leaf_k s.bytes) node)) (text_at (segment_of s.bytes table.heap) e.name) k)
    (way : List Step) (w : IsWayFor s table (text_at (segment_of s.bytes table.heap) e.name) way)
    (named : IsTrue (is_name (text_at (segment_of s.bytes table.heap) e.name)))
    (links : List (List ℕ × Target)) (spare : List ℕ) (blocks : List Block) (group : IsGroupIn s table links (offsets_of e ++ spare) blocks)
    (at_end : (step : Step) (above : List Step) → way ≡ step ∷ above → node ≡ get_or (node_at s.bytes (kind_in s.bytes) step.node).children step.place 0) where
  abbrev kind : Kind
  kind = kind_in s.bytes

  abbrev leaf : ℕ
  leaf = leaf_k s.bytes

  abbrev own : List ℕ
  own = (group.linked).owned

  abbrev list : List ℕ
  list = (group.linked).symbol_nodes

  abbrev level : ℕ
  level = (group.linked).level

  abbrev segment : List ℕ
  segment = segment_of s.bytes table.heap

  abbrev text : List ℕ → List ℕ
  text = key_text segment

  abbrev x : List ℕ
  x = word e.name

  abbrev name_of : Entry → List ℕ
  name_of o = text_at segment o.name

  ends : EndsInTree s kind table.tree level way own list w.number
  ends = ends_own s table links (offsets_of e ++ spare) blocks group w.level way w.owned w.symbol_nodes w.number w.ends

  here : node ≡ get_or (node_at s.bytes kind (ends.step).node).children (ends.step).place 0
  here = at_end ends.step ends.above ends.way_is

  cut : list ≡ take w.number list ++ node ∷ drop (suc w.number) list
  cut = end_cut s kind table.tree level way own list w.number ends ∙ ap (λ (n : ℕ). take w.number list ++ n ∷ drop (suc w.number) list) (sym here)

  leaf_is : leaf_k t.bytes ≡ leaf
  leaf_is = leaf_same s t table links (offsets_of e ++ spare) blocks group node (take w.number list) (drop (suc w.number) list) cut set.moves

  kind_is : kind_in t.bytes ≡ kind
  kind_is = ap group_kind (internal_same s t table links (offsets_of e ++ spare) blocks group node (take w.number list) (drop (suc w.number) list) cut set.moves)

  keeps : (n : ℕ) → Owns own n → KeepsEntries s.bytes t.bytes kind n
  keeps = keeps_kept s.bytes t.bytes kind own
      (trees_kept s t table links (offsets_of e ++ spare) blocks group node (take w.number list) (drop (suc w.number) list) cut set.moves)

  abbrev IsSame : ℕ → Type 0
  IsSame at = symbols_at t.bytes leaf at ≡ symbols_at s.bytes leaf at

  fronts : AllByRecursion IsSame (take w.number list)
  fronts = fronts_same s t table links (offsets_of e ++ spare) blocks group node (take w.number list) (drop (suc w.number) list) cut set.moves

  backs : AllByRecursion IsSame (drop (suc w.number) list)
  backs = backs_same s t table links (offsets_of e ++ spare) blocks group node (take w.number list) (drop (suc w.number) list) cut set.moves

  others : AllByRecursion (λ c. (key : List ℕ) → entry_keys leaf t.bytes c ≡ entry_keys leaf s.bytes c) (remove list w.number)
  others = all_so IsSame (λ c. (key : List ℕ) → entry_keys leaf t.bytes c ≡ entry_keys leaf s.bytes c) (remove list w.number) (λ c is key. ap name_keys is)
      (all_append IsSame (take w.number list) (drop (suc w.number) list) fronts backs)

  -- ---- the name comes in

  first : In e.name (offsets_of e ++ spare)
  first = inl refl

  low_here : (o : Entry) → In o (symbols_at s.bytes leaf node) → o.name < 2 ^ 64
  low_here = name_low s table links (offsets_of e ++ spare) blocks group node (subst (In node) (sym cut) (in_right node (take w.number list) (node ∷ drop (suc w.number) list) (inl refl)))

  abbrev Put : List (List ℕ) → List (List ℕ) → Type 0
  Put = IsPut (λ (y z : List ℕ). Before (text y) (text z)) x

  put_here : Put (entry_keys leaf s.bytes node) (entry_keys leaf t.bytes node)
  put_here =
      let es = symbols_at s.bytes leaf node in
      let cut_es : take k es ++ drop k es ≡ es = take-append-drop k es in
      let inside = place.inside in
      let now : symbols_at t.bytes leaf node ≡ take k es ++ e ∷ drop k es = set.says ∙ insert_cut es k e (omega (arith, inside, length-map es name_of)) in
      let put = key_put s table links (offsets_of e ++ spare) blocks group e first named (take k es) (drop k es)
      (λ o at. low_here o (subst (In o) cut_es at))
      (subst (AllByRecursion (λ other. Before other (name_of e))) (take-map name_of k es) place.above) (subst (AllByRecursion (Before (name_of e))) (drop-map name_of k es) place.below) in
      subst (λ (ns : List Entry). Put (entry_keys leaf s.bytes node) (name_keys ns)) (sym now)
      (subst (λ (ns : List Entry). Put (name_keys ns) (name_keys (take k es ++ e ∷ drop k es))) cut_es put)

  abbrev Admits : Step → Type 0
  Admits st = Before (text (get_or (node_at s.bytes kind st.node).keys st.place [])) (text x) × NotAfter (text x) (text (get_or (node_at s.bytes kind st.node).keys (suc st.place) []))

  admits : AllByRecursion Admits (ends.step ∷ ends.above)
  admits =
      all_so (λ (st : Step). IsBetween segment (node_at s.bytes kind st.node) st.place (name_of e)) Admits (ends.step ∷ ends.above)
      (λ st is.
      let next : st.place + 1 ≡ suc st.place = omega arith in
      let same = new_text s table links (offsets_of e ++ spare) blocks group e first named in
      subst (λ (n : List ℕ). Before (text (get_or (node_at s.bytes kind st.node).keys st.place [])) n × NotAfter n (text (get_or (node_at s.bytes kind st.node).keys (suc st.place) []))) (sym same)
      (is.0, subst (λ (i : ℕ). NotAfter (name_of e) (text (get_or (node_at s.bytes kind st.node).keys i []))) next is.1))
      (subst (AllByRecursion (λ (st : Step). IsBetween segment (node_at s.bytes kind st.node) st.place (name_of e))) ends.way_is w.between)

  exact_now : HasKeysFor e.name s.bytes table → AreKeysExact (λ key. ⊥) (entry_keys leaf t.bytes) (node_at s.bytes kind) level table.tree
  exact_now has =
      filled_exact text (lowest_empty s table links (offsets_of e ++ spare) blocks group) x (new_above s table links (offsets_of e ++ spare) blocks group e first named)
      s kind table.tree level way own list w.number ends group.some (entry_keys leaf s.bytes) (entry_keys leaf t.bytes)
      (each_keyed s table links (offsets_of e ++ spare) blocks group has.filled) others admits.1 admits.0.0 admits.0.1
      (subst (λ (n : ℕ). Put (entry_keys leaf s.bytes n) (entry_keys leaf t.bytes n)) here put_here)
      (keys_in_order s table links (offsets_of e ++ spare) blocks group) (exact_for s table links (offsets_of e ++ spare) blocks group e first named has)

  filled_now : AreSymbolsFilled s.bytes table → AreSymbolsFilled t.bytes table
  filled_now filled =
      let P : ℕ → Type 0 = λ at. 1 ≤ length (symbols_at t.bytes (leaf_k t.bytes) at) in
      let Q : ℕ → Type 0 = λ at. 1 ≤ length (symbols_at s.bytes leaf at) in
      let told = symbol_nodes_are_told s.bytes table links blocks group.linked in
      let old = subst (AllByRecursion Q) (sym told ∙ cut) filled in
      let one : (at : ℕ) → IsSame at × Q at → P at
      = λ at both. subst (λ (l : ℕ). 1 ≤ length (symbols_at t.bytes l at)) (sym leaf_is) (subst (λ (es : List Entry). 1 ≤ length es) (sym both.0) both.1) in
      let mine : P node = subst (λ (l : ℕ). 1 ≤ length (symbols_at t.bytes l node)) (sym leaf_is)
      (subst (λ (es : List Entry). 1 ≤ length es) (sym set.says) (long_insert (symbols_at s.bytes leaf node) k e)) in
      let fr = take w.number list in
      let bk = drop (suc w.number) list in
      subst (AllByRecursion P) (sym cut ∙ told ∙ sym (told_kept s.bytes t.bytes table leaf_is kind_is level own list (group.linked).tree keeps))
      (all_append P fr (node ∷ bk) (all_so (λ at. IsSame at × Q at) P fr one (all_both IsSame Q fr fronts (all_left Q fr (node ∷ bk) old))) (
        mine,
        all_so (λ at. IsSame at × Q at) P bk one (all_both IsSame Q bk backs (all_right Q fr (node ∷ bk) old).1),
      ))

  -- THE GROUP HAS EXACT KEYS
  pub entry_filled_exact : HasKeysFor e.name s.bytes table → HasExactKeys t.bytes table
  entry_filled_exact has = record {
    exact = keys_so (λ key. ⊥) t.bytes table leaf kind level leaf_is kind_is (root_level_kept s.bytes t.bytes table leaf_is kind_is level own list (group.linked).tree keeps)
        (kept_exact (entry_keys leaf t.bytes) (entry_keys leaf t.bytes) (λ key. ⊥) s.bytes t.bytes kind table.tree level own list (group.linked).tree keeps
        (all_in (λ at. entry_keys leaf t.bytes at ≡ entry_keys leaf t.bytes at) list (λ at there. refl)) (exact_now has));
    filled = filled_now has.filled;
  }
