-- An entry goes from a symbol node of a group with exact keys: they are exact but for those that name what the entry did, and each other
-- symbol node has an entry still (File Format Specification 3.0, sections III.A.1 and III.B).
use Rattle.std.proofs.Common.{◌≡◌, inl, inr, ◌⊎◌, ℕ, suc, ◌≤◌, true, false, List, ◌∷◌, ◌++◌, length, take, drop, refl, sym, ap, ◌∙◌, subst, arith, Some}
use Rattle.std.specs.Prelude.{slice_get}
use Rattle.std.specs.List.{AllByRecursion, Contains, remove}
use Rattle.std.proofs.lemmas.Bool.{eq-eqb}
use Rattle.std.proofs.lemmas.List.{map-append}
use Rattle.h5_bytes.specs.Numbers.{word}
use Rattle.h5_bytes.specs.declared.Block.{Block}
use Rattle.h5_bytes.proofs.BlockLaws.{all_append, all_left, all_right, all_so}
use Rattle.h5_model.specs.Format.Addresses.{SymbolTable}
use Rattle.h5_model.specs.Format.Superblock.{leaf_k}
use Rattle.h5_model.specs.Format.Links.{offset_in}
use Rattle.h5_model.specs.Format.Nodes.{Kind, group_kind, node_at}
use Rattle.h5_model.specs.Format.Reached.{level_at}
use Rattle.h5_model.specs.Format.Symbols.{Entry, Target, symbols_at}
use Rattle.h5_model.proofs.Members.{all_both}
use Rattle.h5_laws.specs.KeyEdits.{IsTaken}
use Rattle.h5_laws.proofs.Lists.{In, all_in}
use Rattle.h5_space.specs.Space.{Space}
use Rattle.h5_heap.proofs.TakenLaws.{contains_head}
use Rattle.h5_btree.specs.Exact.{AreKeysExact}
use Rattle.h5_btree.specs.Insertion.{KeepsEntries, Owns}
use Rattle.h5_btree.specs.Looked.{AreHitsLooked}
use Rattle.h5_btree.specs.Removal.{EndsInTree}
use Rattle.h5_btree.specs.declared.way.Step.{Step}
use Rattle.h5_btree.proofs.KeyedExact.{kept_exact, lessened_exact}
use Rattle.h5_btree.proofs.KeyedFrom.{all_removed}
use Rattle.h5_btree.proofs.LookedLaws.{items_along, looked_along}
use Rattle.h5_group.specs.Edited.{IsGroupIn, node_below, offsets_of}
use Rattle.h5_group.specs.Exact.{AreExactBut, AreFilledBut, AreKeysLooked, HasExactKeys}
use Rattle.h5_group.specs.Nodes.Trees.{kind_in}
use Rattle.h5_group.specs.Retired.{entry_keys, is_of, name_keys}
use Rattle.h5_group.specs.SymbolEdits.{IsSymbolsRewritten}
use Rattle.h5_group.specs.Told.{symbol_nodes_told}
use Rattle.h5_group.proofs.EntryFrames.{backs_same, fronts_same, internal_same, leaf_same, trees_kept}
use Rattle.h5_group.proofs.EntrySets.{got_cut, loose_low, taken_all}
use Rattle.h5_group.proofs.EntryWays.{end_cut, ends_kept, ends_own}
use Rattle.h5_group.proofs.ExactTrees.{keeps_kept, keys_so, root_level_kept, told_kept}
use Rattle.h5_group.proofs.NameKeys.{offset_is}
use Rattle.h5_group.proofs.RetiredGroup.{retirable}
use Rattle.h5_group.proofs.ToldLaws.{symbol_nodes_are_told}
use Rattle.h5_group.proofs.EntryKept.{told_back, told_cut, told_front}
use Rattle.h5_group.proofs.Ways.{level_there}

-- ---- the keys of a symbol node without one of its entries

keys_taken : (es : List Entry) (k : ℕ) (e : Entry) → slice_get es k ≡ Some e → IsTaken (word e.name) (name_keys es) (name_keys (remove es k))
keys_taken es k e got = record {
  front = name_keys (take k es);
  back = name_keys (drop (suc k) es);
  before = ap name_keys (got_cut es k e got) ∙ map-append (λ (x : Entry). word x.name) (take k es) (e ∷ drop (suc k) es);
  after = map-append (λ (x : Entry). word x.name) (take k es) (drop (suc k) es);
}

module _ (s t : Space) (table : SymbolTable) (node k : ℕ) (set : IsSymbolsRewritten s t (leaf_k s.bytes) node (remove (symbols_at s.bytes (leaf_k s.bytes) node) k))
    (told : Contains (symbol_nodes_told s.bytes table) node) (links : List (List ℕ × Target)) (spare : List ℕ) (blocks : List Block) (group : IsGroupIn s table links spare blocks)
    (e : Entry) (got : slice_get (symbols_at s.bytes (leaf_k s.bytes) node) k ≡ Some e) where
  abbrev kind : Kind
  kind = kind_in s.bytes

  abbrev leaf : ℕ
  leaf = leaf_k s.bytes

  abbrev owned : List ℕ
  owned = (group.linked).owned

  abbrev list : List ℕ
  list = (group.linked).symbol_nodes

  abbrev front : List ℕ
  front = told_front s table links spare blocks group node told

  abbrev back : List ℕ
  back = told_back s table links spare blocks group node told

  cut : list ≡ front ++ node ∷ back
  cut = told_cut s table links spare blocks group node told

  leaf_is : leaf_k t.bytes ≡ leaf
  leaf_is = leaf_same s t table links spare blocks group node front back cut set.moves

  kind_is : kind_in t.bytes ≡ kind
  kind_is = ap group_kind (internal_same s t table links spare blocks group node front back cut set.moves)

  keeps : (n : ℕ) → Owns owned n → KeepsEntries s.bytes t.bytes kind n
  keeps = keeps_kept s.bytes t.bytes kind owned (trees_kept s t table links spare blocks group node front back cut set.moves)

  fronts : AllByRecursion (λ at. symbols_at t.bytes leaf at ≡ symbols_at s.bytes leaf at) front
  fronts = fronts_same s t table links spare blocks group node front back cut set.moves

  backs : AllByRecursion (λ at. symbols_at t.bytes leaf at ≡ symbols_at s.bytes leaf at) back
  backs = backs_same s t table links spare blocks group node front back cut set.moves

  -- the name stands in the heap, so that its key names it
  named : is_of e.name (word e.name) ≡ true
  named =
      let m = (taken_all s t table node k set told e got links spare blocks group).2 in
      let g = m.group in
      let first : In e.name (g.linked).listed.loose = subst (In e.name) (sym g.spared) (inl refl) in
      let low = loose_low t table _ (offsets_of e ++ spare) m.blocks g e.name first in
      eq-eqb (offset_in (word e.name)) e.name (offset_is e.name (omega (arith, low)))

  now_level : (node_at t.bytes kind table.tree).level ≡ (group.linked).level
  now_level = root_level_kept s.bytes t.bytes table leaf_is kind_is (group.linked).level owned list (group.linked).tree keeps

  -- no node has changed
  on_nodes : (spared : List ℕ → Type 0) (keys : ℕ → List (List ℕ)) → AreKeysExact spared keys (node_at s.bytes kind) (group.linked).level table.tree
      → AreKeysExact spared keys (node_at t.bytes kind) (group.linked).level table.tree
  on_nodes spared keys exact =
      kept_exact keys keys spared s.bytes t.bytes kind table.tree (group.linked).level owned list (group.linked).tree keeps
      (all_in (λ at. keys at ≡ keys at) list (λ at there. refl)) exact

  exact_before : HasExactKeys s.bytes table → AreKeysExact (λ key. ⊥) (entry_keys leaf s.bytes) (node_at s.bytes kind) (group.linked).level table.tree
  exact_before has = subst (λ (l : ℕ). AreKeysExact (λ key. ⊥) (entry_keys leaf s.bytes) (node_at s.bytes kind) l table.tree) (level_there s table links spare blocks group) has.exact

  filled_then : HasExactKeys s.bytes table → AreFilledBut node t.bytes table
  filled_then has =
      let P : ℕ → Type 0 = λ at. (at ≡ node) ⊎ (1 ≤ length (symbols_at t.bytes (leaf_k t.bytes) at)) in
      let Q : ℕ → Type 0 = λ at. 1 ≤ length (symbols_at s.bytes leaf at) in
      let old = subst (AllByRecursion Q) (sym (symbol_nodes_are_told s.bytes table links blocks group.linked) ∙ cut) has.filled in
      let one : (at : ℕ) → (symbols_at t.bytes leaf at ≡ symbols_at s.bytes leaf at) × Q at → P at
      = λ at both. inr (subst (λ (l : ℕ). 1 ≤ length (symbols_at t.bytes l at)) (sym leaf_is) (subst (λ (es : List Entry). 1 ≤ length es) (sym both.0) both.1)) in
      let same : ℕ → Type 0 = λ at. symbols_at t.bytes leaf at ≡ symbols_at s.bytes leaf at in
      subst (AllByRecursion P)
      (sym cut ∙ symbol_nodes_are_told s.bytes table links blocks group.linked
      ∙ sym (told_kept s.bytes t.bytes table leaf_is kind_is (group.linked).level owned list (group.linked).tree keeps))
      (all_append P front (node ∷ back) (all_so (λ at. same at × Q at) P front one (all_both same Q front fronts (all_left Q front (node ∷ back) old))) (
        inl refl,
        all_so (λ at. same at × Q at) P back one (all_both same Q back backs (all_right Q front (node ∷ back) old).1),
      ))

  -- ---- by the way to the symbol node

  module _ (has : HasExactKeys s.bytes table) (way : List Step) (level : ℕ) (owned' list' : List ℕ) (number : ℕ)
      (ends' : EndsInTree s (kind_in s.bytes) table.tree level way owned' list' number)
      (below : (step : Step) (above : List Step) → way ≡ step ∷ above → node ≡ node_below s table step) where
    own : EndsInTree s kind table.tree (group.linked).level way owned list number
    own = ends_own s table links spare blocks group level way owned' list' number ends'

    own_cut : list ≡ take number list ++ node ∷ drop (suc number) list
    own_cut = end_cut s kind table.tree (group.linked).level way owned list number own
        ∙ ap (λ (n : ℕ). take number list ++ n ∷ drop (suc number) list) (sym (below own.step own.above own.way_is))

    others : AllByRecursion (λ at. symbols_at t.bytes leaf at ≡ symbols_at s.bytes leaf at) (remove list number)
    others = all_append (λ at. symbols_at t.bytes leaf at ≡ symbols_at s.bytes leaf at) (take number list) (drop (suc number) list)
        (fronts_same s t table links spare blocks group node (take number list) (drop (suc number) list) own_cut set.moves)
        (backs_same s t table links spare blocks group node (take number list) (drop (suc number) list) own_cut set.moves)

    -- the keys are exact but for those that name what the entry did
    exact_then : AreExactBut e.name t.bytes table
    exact_then =
        let spared : List ℕ → Type 0 = λ key. is_of e.name key ≡ true in
        let level = (group.linked).level in
        let at_end = below own.step own.above own.way_is in
        let gone : IsTaken (word e.name) (entry_keys leaf s.bytes node) (entry_keys leaf t.bytes node)
        = subst (λ (es : List Entry). IsTaken (word e.name) (entry_keys leaf s.bytes node) (name_keys es)) (sym set.says) (keys_taken (symbols_at s.bytes leaf node) k e got) in
        let less : AreKeysExact spared (entry_keys leaf t.bytes) (node_at s.bytes kind) level table.tree
        = lessened_exact (entry_keys leaf s.bytes) (entry_keys leaf t.bytes) (λ key. ⊥) s kind table.tree level way owned list number own
        (all_so (λ at. symbols_at t.bytes leaf at ≡ symbols_at s.bytes leaf at) (λ at. entry_keys leaf t.bytes at ≡ entry_keys leaf s.bytes at) (remove list number)
        (λ at is. ap name_keys is) others)
        (word e.name) spared (λ key never. absurd never) named
        (subst (λ (n : ℕ). IsTaken (word e.name) (entry_keys leaf s.bytes n) (entry_keys leaf t.bytes n)) at_end gone) (exact_before has) in
        keys_so spared t.bytes table leaf kind level leaf_is kind_is now_level (on_nodes spared (entry_keys leaf t.bytes) less)

    -- which stand where they are looked for
    looked_then : AreKeysLooked e.name (Some way) t.bytes table
    looked_then =
        let m = (taken_all s t table node k set told e got links spare blocks group).2 in
        let g = m.group in
        let hit = is_of e.name in
        let keys = entry_keys leaf s.bytes in
        let r = retirable t table _ (offsets_of e ++ spare) m.blocks g e.name (contains_head e.name _) in
        let lists : (g.linked).symbol_nodes ≡ list
        = symbol_nodes_are_told t.bytes table _ m.blocks g.linked
        ∙ told_kept s.bytes t.bytes table leaf_is kind_is (group.linked).level owned list (group.linked).tree keeps ∙ sym (symbol_nodes_are_told s.bytes table links blocks group.linked) in
        let Unhit : ℕ → Type 0 = λ at. AllByRecursion (λ (key : List ℕ). hit key ≡ false) (entry_keys leaf t.bytes at) in
        let named : AllByRecursion Unhit list
        = subst (λ (l : ℕ). AllByRecursion (λ at. AllByRecursion (λ (key : List ℕ). hit key ≡ false) (entry_keys l t.bytes at)) list) leaf_is
        (subst (AllByRecursion (λ at. AllByRecursion (λ (key : List ℕ). hit key ≡ false) (entry_keys (leaf_k t.bytes) t.bytes at))) lists r.named) in
        let unhit : AllByRecursion (λ at. AllByRecursion (λ (key : List ℕ). hit key ≡ false) (keys at)) (remove list number)
        = all_so (λ at. (symbols_at t.bytes leaf at ≡ symbols_at s.bytes leaf at) × Unhit at) (λ at. AllByRecursion (λ (key : List ℕ). hit key ≡ false) (keys at)) (remove list number)
        (λ at both. subst (λ (es : List Entry). AllByRecursion (λ (key : List ℕ). hit key ≡ false) (name_keys es)) both.0 both.1)
        (all_both (λ at. symbols_at t.bytes leaf at ≡ symbols_at s.bytes leaf at) Unhit (remove list number) others (all_removed Unhit list number named)) in
        let along = items_along hit keys t kind table.tree (group.linked).level way owned list number
        (ends_kept s kind table.tree (group.linked).level way owned list number own t (trees_kept s t table links spare blocks group node front back cut set.moves) set.free set.size) unhit in
        let here = looked_along hit (node_at t.bytes kind) keys way (group.linked).level table.tree r.lowest (on_nodes (λ key. ⊥) keys (exact_before has)) along in
        subst (λ (c : Kind). AreHitsLooked hit (node_at t.bytes c) (Some way) (suc (level_at t.bytes c table.tree)) true table.tree) (sym kind_is)
        (subst (λ (l : ℕ). AreHitsLooked hit (node_at t.bytes kind) (Some way) (suc l) true table.tree) (sym now_level) here)

    -- THE KEYS ARE EXACT BUT FOR THE NAME, whose keys stand along the way, and each other symbol node has an entry
    pub taken_exact : AreExactBut e.name t.bytes table × AreKeysLooked e.name (Some way) t.bytes table × AreFilledBut node t.bytes table
    taken_exact = (exact_then, looked_then, filled_then has)
