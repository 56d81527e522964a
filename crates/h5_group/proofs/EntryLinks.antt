-- The links of a group, one of whose symbol nodes has an entry more than before, or one less, where the rest of the group stays (File Format
-- Specification 3.0, sections III.A.1, III.B and III.D).
use Rattle.std.proofs.Common.{◌≡◌, ℕ, ◌^◌, ◌<◌, IsTrue, List, ◌∷◌, ◌++◌, map, length, sym, ap, ap₂, ◌∙◌, subst, arith}
use Rattle.std.proofs.lemmas.List.{append_assoc, map-append}
use Rattle.std.specs.List.{AllByRecursion, flat_map}
use Rattle.h5_bytes.specs.Texts.{text_at}
use Rattle.h5_bytes.specs.declared.Block.{Block}
use Rattle.h5_bytes.proofs.BlockLaws.{all_append, all_so, cover-append}
use Rattle.h5_model.specs.Format.Addresses.{SymbolTable}
use Rattle.h5_model.specs.Format.Superblock.{leaf_k}
use Rattle.h5_model.specs.Format.Heap.{HasNames, KeyNames, heap_header, segment_of}
use Rattle.h5_model.specs.Format.Links.{AreLinks, Ascend, Before, IsOrdered, Symbols, key_offsets, names_in}
use Rattle.h5_model.specs.Format.Nodes.{HasTree, reading_of, tree_blocks}
use Rattle.h5_model.specs.Format.Rows.{Reading}
use Rattle.h5_model.specs.Format.Symbols.{Entry, IsEntry, IsSymbolNode, Target, link_of, symbol_block, symbol_bytes, symbols_at, symbols_of, texts_of}
use Rattle.h5_model.specs.Tree.Paths.{is_name}
use Rattle.h5_laws.specs.KeyEdits.{IsPut}
use Rattle.h5_laws.proofs.Entries.{flat-same}
use Rattle.h5_space.specs.Space.{Space}
use Rattle.h5_space.specs.Moves.{Moves}
use Rattle.h5_group.specs.Edited.{HasGroupMoved, IsGroupIn, IsLinkPut, offsets_of}
use Rattle.h5_group.specs.Nodes.Trees.{group_nodes_blocks, kind_in}
use Rattle.h5_group.proofs.GrownGroup.{entry_grown, group_grown}
use Rattle.h5_group.proofs.LinkLists.{all_taken, fewer_ordered, links_less}
use Rattle.h5_group.proofs.MovedNames.{entry_loosened, names_of}
use Rattle.h5_group.proofs.EntryFrames.{backs_same, entries_cut, formed_still, fronts_same, kind, rows_same, symbols_parted, tree_still, written}
use Rattle.h5_btree.proofs.WideningLaws.{moves_wider}

-- ---- the group

module _ (s t : Space) (table : SymbolTable) (links : List (List ℕ × Target)) (spare : List ℕ) (blocks : List Block)
    (group : IsGroupIn s table links spare blocks) (node : ℕ) (front back : List ℕ) (cut : (group.linked).symbol_nodes ≡ front ++ node ∷ back)
    (moves : Moves s t (written s t table links spare blocks group node front back cut) (written s t table links spare blocks group node front back cut))
    (same_size : length t.bytes ≡ length s.bytes) (formed : IsSymbolNode (leaf_k s.bytes) (symbol_bytes t.bytes (leaf_k s.bytes) node)) where
  abbrev l : ℕ
  l = leaf_k s.bytes

  abbrev own : List ℕ
  own = (group.linked).owned

  abbrev listed : List ℕ
  listed = (group.linked).symbol_nodes

  abbrev pub old_symbols : Symbols
  old_symbols = symbols_of s.bytes (leaf_k s.bytes) (group.linked).symbol_nodes

  abbrev pub new_symbols : Symbols
  new_symbols = symbols_of t.bytes (leaf_k s.bytes) (group.linked).symbol_nodes

  abbrev pub rows : Reading
  rows = reading_of s.bytes (kind s t table links spare blocks group node front back cut) (group.linked).owned

  abbrev segment : List ℕ
  segment = segment_of s.bytes table.heap

  abbrev nodes : List Block
  nodes = group_nodes_blocks s.bytes own listed

  nodes_moved : Moves s t nodes nodes
  nodes_moved =
      moves_wider s t (written s t table links spare blocks group node front back cut) nodes
      (λ p none. let parts = symbols_parted s t table links spare blocks group node front back cut p in
      omega (arith, none, parts, cover-append p (tree_blocks (kind_in s.bytes) own) (map (symbol_block l) listed))) moves

  abbrev tree : HasTree t.bytes (kind_in s.bytes) table.tree (group.linked).level own listed
  tree = tree_still s t table links spare blocks group node front back cut moves

  abbrev all_formed : AllByRecursion (λ at. IsSymbolNode l (symbol_bytes t.bytes l at)) listed
  all_formed = formed_still s t table links spare blocks group node front back cut moves formed

  short : length t.bytes < 2 ^ 63
  short = omega (arith, same_size, group.short)

  rows_are : reading_of t.bytes (kind_in s.bytes) own ≡ rows
  rows_are = rows_same s t table links spare blocks group node front back cut moves

  -- ---- an entry, at a place of the symbol node

  abbrev before : List Entry
  before = flat_map (symbols_at s.bytes (leaf_k s.bytes)) front

  abbrev behind : List Entry
  behind = flat_map (symbols_at s.bytes (leaf_k s.bytes)) back

  regroup : (xs ys more : List Entry) → before ++ ((xs ++ ys) ++ more) ≡ (before ++ xs) ++ (ys ++ more)
  regroup xs ys more = ap (λ (es : List Entry). before ++ es) (append_assoc xs ys more) ∙ sym (append_assoc before xs (ys ++ more))

  -- all entries, cut at a place of this symbol node
  pub old_entries : (xs ys : List Entry) → symbols_at s.bytes l node ≡ xs ++ ys → flat_map old_symbols listed ≡ (before ++ xs) ++ (ys ++ behind)
  old_entries xs ys is = entries_cut s.bytes l node front back listed cut ∙ ap (λ (es : List Entry). before ++ (es ++ behind)) is ∙ regroup xs ys behind

  pub new_entries : (xs ys : List Entry) → symbols_at t.bytes l node ≡ xs ++ ys → flat_map new_symbols listed ≡ (before ++ xs) ++ (ys ++ behind)
  new_entries xs ys is =
      let ahead = flat-same (symbols_at t.bytes l) (symbols_at s.bytes l) front (fronts_same s t table links spare blocks group node front back cut moves) in
      let after = flat-same (symbols_at t.bytes l) (symbols_at s.bytes l) back (backs_same s t table links spare blocks group node front back cut moves) in
      entries_cut t.bytes l node front back listed cut
      ∙ ap₂ (λ (us vs : List Entry). us ++ (symbols_at t.bytes l node ++ vs)) ahead after
      ∙ ap (λ (es : List Entry). before ++ (es ++ behind)) is ∙ regroup xs ys behind

  abbrev IsNamed : List ℕ × Target → Type 0
  IsNamed x = IsTrue (is_name x.0)

  module _ (e : Entry) (xs ys : List Entry) where
    abbrev ahead : List Entry
    ahead = before ++ xs

    abbrev after : List Entry
    after = ys ++ behind

    abbrev with_it : List (List ℕ × Target)
    with_it = map (link_of segment) (ahead ++ e ∷ after)

    abbrev without_it : List (List ℕ × Target)
    without_it = map (link_of segment) (ahead ++ after)

    with_is : with_it ≡ map (link_of segment) ahead ++ link_of segment e ∷ map (link_of segment) after
    with_is = map-append (link_of segment) ahead (e ∷ after)

    without_is : without_it ≡ map (link_of segment) ahead ++ map (link_of segment) after
    without_is = map-append (link_of segment) ahead after

    -- AN ENTRY COMES IN, whose texts were spare, at its place in the order
    pub entry_put : (spare' : List ℕ) → spare ≡ offsets_of e ++ spare' → symbols_at s.bytes l node ≡ xs ++ ys → symbols_at t.bytes l node ≡ xs ++ e ∷ ys
        → IsEntry e → IsTrue (is_name (text_at segment e.name)) → IsPut Before (text_at segment e.name) (names_in old_symbols segment listed) (names_in new_symbols segment listed)
        → AllByRecursion (λ at. IsOrdered rows new_symbols segment (rows at)) own
        → (links' : List (List ℕ × Target)) × IsLinkPut (link_of segment e) links links' × HasGroupMoved s t table blocks links' spare'
    entry_put spare' spare_is was now known named put ordered =
        let has = (group.linked).listed in
        entry_grown s t table links spare blocks group own listed nodes_moved (group.linked).level tree all_formed short e spare' spare_is ahead after
        (old_entries xs ys was) (new_entries xs (e ∷ ys) now) known named put
        (subst (λ (V : Reading). AllByRecursion (λ at. IsOrdered V new_symbols segment (V at)) own) (sym rows_are) ordered)
        (subst (λ (V : Reading). AllByRecursion (KeyNames (names_of (flat_map old_symbols listed) ++ texts_of (flat_map old_symbols listed)) has.loose) (key_offsets V own)) (sym rows_are)
        has.spans.keyed)

    -- AN ENTRY GOES, and its texts are spare then
    pub entry_taken : symbols_at s.bytes l node ≡ xs ++ e ∷ ys → symbols_at t.bytes l node ≡ xs ++ ys
        → (links' : List (List ℕ × Target)) × IsLinkPut (link_of segment e) links' links × HasGroupMoved s t table blocks links' (offsets_of e ++ spare)
    entry_taken was now =
        let old = old_entries xs (e ∷ ys) was in
        let new = new_entries xs ys now in
        let links_are : links ≡ with_it = (group.linked).listed.all ∙ ap (map (link_of segment)) old in
        let more = group.more in
        let keys = key_offsets rows own in
        let free = (group.linked).listed.free in
        let spans : HasNames segment free (names_of (ahead ++ e ∷ after)) (texts_of (ahead ++ e ∷ after)) keys (spare ++ more)
        = subst (λ (es : List Entry). HasNames segment free (names_of es) (texts_of es) keys (spare ++ more)) old
        (subst (HasNames segment free (names_of (flat_map old_symbols listed)) (texts_of (flat_map old_symbols listed)) keys) group.spared (group.linked).listed.spans) in
        let each : (Q : Entry → Type 0) → AllByRecursion (λ n. AllByRecursion Q (symbols_at s.bytes l n) → AllByRecursion Q (symbols_at t.bytes l n)) listed
        = λ Q. subst (AllByRecursion (λ n. AllByRecursion Q (symbols_at s.bytes l n) → AllByRecursion Q (symbols_at t.bytes l n))) (sym cut)
        (all_append (λ n. AllByRecursion Q (symbols_at s.bytes l n) → AllByRecursion Q (symbols_at t.bytes l n)) front (node ∷ back)
        (all_so (λ n. symbols_at t.bytes l n ≡ symbols_at s.bytes l n) (λ n. AllByRecursion Q (symbols_at s.bytes l n) → AllByRecursion Q (symbols_at t.bytes l n)) front
        (λ n same all. subst (AllByRecursion Q) (sym same) all) (fronts_same s t table links spare blocks group node front back cut moves)) (
          λ all. subst (AllByRecursion Q) (sym now) (all_taken Q xs e ys (subst (AllByRecursion Q) was all)),
          all_so (λ n. symbols_at t.bytes l n ≡ symbols_at s.bytes l n) (λ n. AllByRecursion Q (symbols_at s.bytes l n) → AllByRecursion Q (symbols_at t.bytes l n)) back
              (λ n same all. subst (AllByRecursion Q) (sym same) all) (backs_same s t table links spare blocks group node front back cut moves),
        )) in
        let are : AreLinks rows new_symbols (heap_header s.bytes table.heap) segment own listed without_it = record {
          cached = subst (AllByRecursion IsEntry) (sym new) (all_taken IsEntry ahead e after (subst (AllByRecursion IsEntry) old (group.linked).listed.cached));
          all = ap (map (link_of segment)) (sym new);
          ascending = subst Ascend (sym without_is) (links_less (map (link_of segment) ahead) (link_of segment e) (map (link_of segment) after)
              (subst Ascend with_is (subst Ascend links_are (group.linked).listed.ascending)));
          named = subst (AllByRecursion IsNamed) (sym without_is)
              (all_taken IsNamed (map (link_of segment) ahead) (link_of segment e) (map (link_of segment) after)
              (subst (AllByRecursion IsNamed) with_is (subst (AllByRecursion IsNamed) links_are (group.linked).listed.named)));
          ordered = all_so (λ at. IsOrdered rows old_symbols segment (rows at)) (λ at. IsOrdered rows new_symbols segment (rows at)) own
              (λ at. fewer_ordered rows (symbols_at s.bytes l) (symbols_at t.bytes l) listed segment each (rows at)) (group.linked).listed.ordered;
          free = free;
          loose = offsets_of e ++ (spare ++ more);
          heap_form = (group.linked).listed.heap_form;
          spans = subst (λ (es : List Entry). HasNames segment free (names_of es) (texts_of es) keys (offsets_of e ++ (spare ++ more))) (sym new)
              (entry_loosened segment free e ahead after keys (spare ++ more) spans);
        } in
        let taken : IsLinkPut (link_of segment e) without_it links
        = record { front = map (link_of segment) ahead; back = map (link_of segment) after; before = without_is; after = links_are ∙ with_is } in
        let there : (a : AreLinks (reading_of t.bytes (kind_in s.bytes) own) new_symbols (heap_header s.bytes table.heap) segment own listed without_it)
        × (a.loose ≡ (offsets_of e ++ spare) ++ more)
        = subst (λ (V : Reading). (a : AreLinks V new_symbols (heap_header s.bytes table.heap) segment own listed without_it) × (a.loose ≡ (offsets_of e ++ spare) ++ more)) (sym rows_are)
        (are, sym (append_assoc (offsets_of e) spare more)) in (
          without_it,
          taken,
          group_grown s t table links spare blocks group own listed nodes_moved (group.linked).level tree all_formed short without_it (offsets_of e ++ spare) more there.0 there.1,
        )
