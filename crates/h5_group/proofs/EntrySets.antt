-- A symbol node of a group is written with an entry more, or with one less: then its links are those of before with one more, or with one less
-- (File Format Specification 3.0, sections III.A.1, III.B and III.D).
use Rattle.std.proofs.Common.{◌≡◌, ℕ, zero, suc, ◌+◌, ◌^◌, ◌<◌, ◌≤◌, inl, IsTrue, List, [], ◌∷◌, ◌++◌, length, get_or, take, drop, refl, sym, ap, ◌∙◌, subst, arith, Some}
use Rattle.std.specs.Prelude.{slice_get}
use Rattle.std.proofs.lemmas.Option.{same_Some}
use Rattle.std.proofs.lemmas.List.{drop-map, length-drop, length-take, take-append-drop, take-map}
use Rattle.std.specs.List.{AllByRecursion, Contains, flat_map, insert, remove}
use Rattle.h5_bytes.specs.Bytes.{part, with_field}
use Rattle.h5_bytes.specs.Texts.{text_at}
use Rattle.h5_bytes.specs.declared.Block.{Block}
use Rattle.h5_bytes.proofs.BlockLaws.{all_append}
use Rattle.h5_bytes.proofs.FieldLaws.{number_at-with_field}
use Rattle.h5_model.specs.Format.Addresses.{SymbolTable}
use Rattle.h5_model.specs.Format.Superblock.{leaf_k}
use Rattle.h5_model.specs.Format.Heap.{segment_block, segment_of, span_of}
use Rattle.h5_model.specs.Format.Links.{Before}
use Rattle.h5_model.specs.Format.Nodes.{node_at}
use Rattle.h5_model.specs.Format.Symbols.{Entry, IsEntry, Target, link_of, symbols_at, symbols_of, texts_of}
use Rattle.h5_model.specs.Tree.Paths.{is_name}
use Rattle.h5_laws.specs.KeyEdits.{LetIn}
use Rattle.h5_laws.specs.NameLadders.{key_text, name_sides}
use Rattle.h5_laws.proofs.KeyInstances.{name_let_in}
use Rattle.h5_laws.proofs.Lists.{In, in_all, in_contains, in_right}
use Rattle.h5_laws.proofs.Pigeonhole.{split_in}
use Rattle.h5_heap.proofs.RefusedLaws.{empty_text}
use Rattle.h5_space.specs.Space.{Space}
use Rattle.h5_btree.specs.Removal.{EndsInTree}
use Rattle.h5_btree.specs.declared.way.Step.{Step}
use Rattle.h5_snod.specs.Names.{IsPlace, entry_names}
use Rattle.h5_group.specs.Edited.{HasEntryPut, HasEntryTaken, HasGroupMoved, IsGroupIn, IsLinkPut, IsWayFor, offsets_of}
use Rattle.h5_group.specs.Nodes.Trees.{kind_in}
use Rattle.h5_group.specs.SymbolEdits.{IsSymbolsRewritten}
use Rattle.h5_group.specs.Told.{symbol_nodes_told}
use Rattle.h5_group.proofs.EntryFrames.{backs_same, fronts_same}
use Rattle.h5_group.proofs.EntryLinks.{entry_put, entry_taken}
use Rattle.h5_group.proofs.EntryOrder.{above_empty, names_put, put_ordered}
use Rattle.h5_group.proofs.EntryWays.{end_cut, ends_own}
use Rattle.h5_group.proofs.MovedNames.{all_spans, names_of}
use Rattle.h5_group.proofs.ToldLaws.{symbol_nodes_are_told}

-- ---- what a group says of its symbol nodes

part_short : (at len : ℕ) (bytes : List ℕ) → length (part at len bytes) ≤ length bytes
unfolding part
part_short at len bytes = omega (arith, length-take len (drop at bytes), length-drop at bytes)

module _ (s : Space) (table : SymbolTable) (links : List (List ℕ × Target)) (spare : List ℕ) (blocks : List Block) (group : IsGroupIn s table links spare blocks) where
  abbrev leaf : ℕ
  leaf = leaf_k s.bytes

  abbrev segment : List ℕ
  segment = segment_of s.bytes table.heap

  -- the offset of a loose text is one in the image
  pub loose_low : (offset : ℕ) → In offset (group.linked).listed.loose → offset < 256 ^ 8
  loose_low offset at =
      let offsets = names_of (all_old) ++ texts_of (all_old) ++ (group.linked).listed.loose in
      let within = in_all (λ n. (span_of segment n).at + (span_of segment n).len ≤ length segment) offset offsets
      (all_spans segment (length segment) offsets (group.linked).listed.spans.within) (in_right offset (names_of all_old ++ texts_of all_old) (group.linked).listed.loose at) in
      omega (arith, within, part_short (segment_block s.bytes table.heap).at (segment_block s.bytes table.heap).len s.bytes, group.short)
    where
      all_old : List Entry
      all_old = flat_map (symbols_of s.bytes leaf (group.linked).symbol_nodes) (group.linked).symbol_nodes

  -- keys that let a name in
  blank_key : List ℕ
  blank_key = 0 ∷ 0 ∷ 0 ∷ 0 ∷ 0 ∷ 0 ∷ 0 ∷ 0 ∷ []

  key_of : ℕ → List ℕ
  key_of offset = with_field blank_key 0 8 offset

  key_reads : (offset : ℕ) → offset < 256 ^ 8 → key_text segment (key_of offset) ≡ text_at segment offset
  unfolding blank_key key_of
  key_reads offset low = ap (text_at segment) (number_at-with_field blank_key 0 8 offset (omega arith) low)

  lets_in : (offset : ℕ) → In offset (group.linked).listed.loose → IsTrue (is_name (text_at segment offset))
      → LetIn (name_sides (key_text segment)) (text_at segment offset) (key_of 0) (key_of offset)
  lets_in offset at named = name_let_in (key_text segment) (text_at segment offset) (key_of 0) (key_of offset)
      (key_reads 0 (omega arith) ∙ empty_text segment (group.linked).listed.spans.empty) (key_reads offset (loose_low offset at)) (above_empty (text_at segment offset) named)

-- ---- an entry comes in

module _ (s t : Space) (table : SymbolTable) (node k : ℕ) (e : Entry) (set : IsSymbolsRewritten s t (leaf_k s.bytes) node (insert (symbols_at s.bytes (leaf_k s.bytes) node) k e))
    (place : IsPlace (entry_names (segment_of s.bytes table.heap) (symbols_at s.bytes (leaf_k s.bytes) node)) (text_at (segment_of s.bytes table.heap) e.name) k)
    (way : List Step) (w : IsWayFor s table (text_at (segment_of s.bytes table.heap) e.name) way)
    (named : IsTrue (is_name (text_at (segment_of s.bytes table.heap) e.name))) (known : IsEntry e) where
  abbrev gone : List ℕ
  gone = segment_of s.bytes table.heap

  module _ (links : List (List ℕ × Target)) (spare : List ℕ) (blocks : List Block) (group : IsGroupIn s table links (offsets_of e ++ spare) blocks)
      (own : EndsInTree s (kind_in s.bytes) table.tree (group.linked).level way (group.linked).owned (group.linked).symbol_nodes w.number)
      (at_end : node ≡ get_or (node_at s.bytes (kind_in s.bytes) (own.step).node).children (own.step).place 0) where
    abbrev end_node : ℕ
    end_node = get_or (node_at s.bytes (kind_in s.bytes) (own.step).node).children (own.step).place 0

    abbrev listed : List ℕ
    listed = (group.linked).symbol_nodes

    abbrev front : List ℕ
    front = take w.number listed

    abbrev back : List ℕ
    back = drop (suc w.number) listed

    abbrev IsSet : ℕ → Type 0
    IsSet n = IsSymbolsRewritten s t (leaf_k s.bytes) n (insert (symbols_at s.bytes (leaf_k s.bytes) n) k e)
        × IsPlace (entry_names gone (symbols_at s.bytes (leaf_k s.bytes) n)) (text_at gone e.name) k

    here : IsSet end_node
    here = subst IsSet at_end (set, place)

    pub put_in : (links' : List (List ℕ × Target)) × IsLinkPut (link_of gone e) links links' × HasGroupMoved s t table blocks links' spare
    put_in =
        let l = leaf_k s.bytes in
        let entries = symbols_at s.bytes l end_node in
        let cut = end_cut s (kind_in s.bytes) table.tree (group.linked).level way (group.linked).owned listed w.number own in
        let moves = (here.0).moves in
        let xs = take k entries in
        let ys = drop k entries in
        let was : entries ≡ xs ++ ys = sym (take-append-drop k entries) in
        let now = (here.0).says in
        let others = all_append (λ n. symbols_at t.bytes l n ≡ symbols_at s.bytes l n) front back
        (fronts_same s t table links (offsets_of e ++ spare) blocks group end_node front back cut moves)
        (backs_same s t table links (offsets_of e ++ spare) blocks group end_node front back cut moves) in
        let name_of : Entry → List ℕ = λ (x : Entry). text_at gone x.name in
        let above = subst (AllByRecursion (λ other. Before other (text_at gone e.name))) (take-map name_of k entries) (here.1).above in
        let below = subst (AllByRecursion (λ other. Before (text_at gone e.name) other)) (drop-map name_of k entries) (here.1).below in
        let first : In e.name (group.linked).listed.loose = subst (In e.name) (sym group.spared) (inl refl) in
        let lets = lets_in s table links (offsets_of e ++ spare) blocks group e.name first named in
        let low = key_of s table links (offsets_of e ++ spare) blocks group 0 in
        let high = key_of s table links (offsets_of e ++ spare) blocks group e.name in
        let ordered = put_ordered s (kind_in s.bytes) table.tree (group.linked).level way (group.linked).owned listed w.number own group.some
        (symbols_at s.bytes l) (symbols_at t.bytes l) others gone (text_at gone e.name) low high lets w.between xs ys e refl was now above below (group.linked).listed.ordered in
        let put = names_put s (kind_in s.bytes) table.tree (group.linked).level way (group.linked).owned listed w.number own group.some
        (symbols_at s.bytes l) (symbols_at t.bytes l) others gone (text_at gone e.name) low high lets w.between xs ys e refl was now above below (group.linked).listed.ordered in
        entry_put s t table links (offsets_of e ++ spare) blocks group end_node front back cut moves (here.0).size (here.0).form e xs ys spare refl was now known named
        put ordered

  pub put_all : ((step : Step) (above : List Step) → way ≡ step ∷ above → node ≡ get_or (node_at s.bytes (kind_in s.bytes) step.node).children step.place 0) → HasEntryPut s t table e
  put_all at_end links spare blocks group new_name =
      let own = ends_own s table links (offsets_of e ++ spare) blocks group w.level way w.owned w.symbol_nodes w.number w.ends in
      put_in links spare blocks group own (at_end own.step own.above own.way_is)

-- ---- an entry goes

pub got_cut : {X : Type 0} (xs : List X) (k : ℕ) (x : X) → slice_get xs k ≡ Some x → xs ≡ take k xs ++ x ∷ drop (suc k) xs
got_cut [] k x got = absurd (cc)
got_cut {X} (y ∷ ys) zero x got = ap (λ (z : X). z ∷ ys) (same_Some y x got)
got_cut {X} (y ∷ ys) (suc k) x got = ap (λ (zs : List X). y ∷ zs) (got_cut ys k x got)

module _ (s t : Space) (table : SymbolTable) (node k : ℕ) (set : IsSymbolsRewritten s t (leaf_k s.bytes) node (remove (symbols_at s.bytes (leaf_k s.bytes) node) k))
    (told : Contains (symbol_nodes_told s.bytes table) node) where
  pub taken_all : (e : Entry) → slice_get (symbols_at s.bytes (leaf_k s.bytes) node) k ≡ Some e → HasEntryTaken s t table e
  taken_all e got links spare blocks group =
      let entries = symbols_at s.bytes (leaf_k s.bytes) node in
      let listed : In node (group.linked).symbol_nodes
      = subst (In node) (sym (symbol_nodes_are_told s.bytes table links blocks group.linked)) (in_contains node (symbol_nodes_told s.bytes table) told) in
      let cut = split_in node (group.linked).symbol_nodes listed in
      entry_taken s t table links spare blocks group node cut.0 cut.1 cut.2 set.moves set.size set.form e (take k entries) (drop (suc k) entries)
      (got_cut entries k e got) set.says
