-- Where the entry of a name stands in a group, and what its going leaves.
use Rattle.std.proofs.Common.{◌≡◌, ℕ, zero, suc, ◌<◌, ◌≤◌, List, [], ◌∷◌, ◌++◌, length, map, option_map, None, Some, refl, sym, ap, ◌∙◌, subst, arith}
use Rattle.std.specs.Prelude.{Result, Ok, Err, IfErr, slice_get}
use Rattle.std.specs.Result.{result_ok}
use Rattle.std.specs.List.{Contains, remove}
use Rattle.h5_bytes.specs.Texts.{text_at}
use Rattle.h5_bytes.specs.declared.Block.{Block}
use Rattle.h5_laws.proofs.Lists.{In, contains_in, in_map, in_flat, in_contains, in_at}
use Rattle.h5_model.specs.Faults.TreeFaults.{all_entries}
use Rattle.h5_model.specs.Format.Addresses.{SymbolTable}
use Rattle.h5_model.specs.Format.Heap.{segment_of}
use Rattle.h5_model.specs.Format.Links.{Ascend, names_in}
use Rattle.h5_model.specs.Format.Nodes.{Kind}
use Rattle.h5_model.specs.Format.Symbols.{Entry, Target, link_of, symbols_at}
use Rattle.h5_model.specs.Format.Superblock.{leaf_k}
use Rattle.h5_space.specs.Space.{Space}
use Rattle.h5_space.specs.Moves.{Spends}
use Rattle.h5_btree.specs.Removal.{EndsInTree}
use Rattle.h5_btree.specs.declared.way.Step.{Step}
use Rattle.h5_btree.proofs.WaySteps.{way_low}
use Rattle.h5_snod.specs.Entries.{symbol_from}
use Rattle.h5_snod.specs.Names.{IsPlace, entry_names}
use Rattle.h5_snod.specs.declared.entry.SymbolEntry.{SymbolEntry}
use Rattle.h5_btree.proofs.DropLaws.{remove_alone}
use Rattle.h5_group.specs.Edited.{HasGroupMoved, HasGroupStayed, IsGroupIn, IsLinkPut, HasEntryTaken, IsSomeGroup, entries_below, node_below, offsets_of}
use Rattle.h5_group.specs.Links.{HasNone, IsGroupRead}
use Rattle.h5_group.specs.Nodes.Trees.{kind_in}
use Rattle.h5_group.specs.Removal.{offsets_named}
use Rattle.h5_group.specs.Told.{links_told, symbol_nodes_told}
use Rattle.h5_group.specs.Ways.{IsWayOf}
use Rattle.h5_group.proofs.EditSteps.{moved_then, offsets_are, one_link}
use Rattle.h5_group.proofs.Searched.{none_found}
use Rattle.h5_group.proofs.Standing.{ascending}
use Rattle.h5_group.proofs.ToldLaws.{links_are_told}
use Rattle.h5_group.proofs.Ways.{group_read}

-- a group that stands can be read
pub some_read : (s : Space) (table : SymbolTable) (spare : List ℕ) → IsSomeGroup s table spare → IsGroupRead s.bytes table
some_read s table spare g = group_read s table g.0 spare g.1 g.2

-- without symbol nodes there are no links
pub none_there : (image : List ℕ) (table : SymbolTable) (name : List ℕ) → symbol_nodes_told image table ≡ [] → HasNone image table name
none_there image table name none t has =
    in_contains (name, t) [] (subst (λ (nodes : List ℕ). Contains (map (link_of (segment_of image table.heap)) (all_entries image nodes)) (name, t)) none has)

-- the symbol node at the end of the way has the name, if any has it
pub only_there : (s : Space) (table : SymbolTable) (name : List ℕ) (way : List Step) (node : ℕ) → IsWayOf s table name way
    → ((step : Step) (above : List Step) → way ≡ step ∷ above → node ≡ node_below s table step)
    → ((step : Step) (above : List Step) → way ≡ step ∷ above
    → Contains (names_in (symbols_at s.bytes (leaf_k s.bytes)) (segment_of s.bytes table.heap) (symbol_nodes_told s.bytes table)) name
    → Contains (names_in (symbols_at s.bytes (leaf_k s.bytes)) (segment_of s.bytes table.heap) (node_below s table step ∷ [])) name)
    → Contains (names_in (symbols_at s.bytes (leaf_k s.bytes)) (segment_of s.bytes table.heap) (symbol_nodes_told s.bytes table)) name
    → Contains (names_in (symbols_at s.bytes (leaf_k s.bytes)) (segment_of s.bytes table.heap) (node ∷ [])) name
only_there s table name way node of below only has =
    let e = of.ends in
    subst (λ (n : ℕ). Contains (names_in (symbols_at s.bytes (leaf_k s.bytes)) (segment_of s.bytes table.heap) (n ∷ [])) name) (sym (below e.step e.above e.way_is))
    (only e.step e.above e.way_is has)

-- what is so of a place that was found to be empty
empty_place : (P : ℕ → Type 0) (r : Result ℕ ℕ) → IfErr r P → None ≡ result_ok r → (k : ℕ) × P k
empty_place P (Ok k) if is = absurd (let never : None ≡ Some k = is in cc)
empty_place P (Err k) if is = (k, if)

-- so no link has it, where the search finds no entry
pub none_placed : (image : List ℕ) (table : SymbolTable) (node : ℕ) (name segment : List ℕ) (es : List Entry) (r : Result ℕ ℕ) → segment ≡ segment_of image table.heap
    → es ≡ symbols_at image (leaf_k image) node → IfErr r (IsPlace (entry_names segment es) name) → None ≡ result_ok r
    → (Contains (names_in (symbols_at image (leaf_k image)) (segment_of image table.heap) (symbol_nodes_told image table)) name
    → Contains (names_in (symbols_at image (leaf_k image)) (segment_of image table.heap) (node ∷ [])) name)
    → HasNone image table name
none_placed image table node name segment es r segment_is es_is place is only =
    let at = empty_place (IsPlace (entry_names segment es) name) r place is in
    none_found image table node at.0 name
    (subst (λ (seg : List ℕ). IsPlace (entry_names seg (symbols_at image (leaf_k image) node)) name at.0) segment_is
    (subst (λ (entries : List Entry). IsPlace (entry_names segment entries) name at.0) es_is at.1)) only

-- ---- the entry that was read

-- what stands at a place that was read
pub read_there : (es : List Entry) (k : ℕ) (r : SymbolEntry) → option_map symbol_from (slice_get es k) ≡ Some r → (e : Entry) × (slice_get es k ≡ Some e)
read_there [] k r read = absurd (let never = read in cc)
read_there (e ∷ es) zero r read = (e, refl)
read_there (e ∷ es) (suc k) r read = read_there es k r read

-- the offsets that were read of it
pub read_offsets : (e : Entry) (r : SymbolEntry) (spare : List ℕ) → symbol_from e ≡ r → offsets_of e ++ spare ≡ offsets_named r ++ spare
read_offsets e r spare is = ap (λ (offsets : List ℕ). offsets ++ spare) (sym (offsets_are e) ∙ ap offsets_named is)

-- so nothing is left in the symbol node to which a way leads
pub none_left : (s t : Space) (table : SymbolTable) (way : List Step) (level : ℕ) (owned list : List ℕ) (number node k : ℕ)
    → EndsInTree s (kind_in s.bytes) table.tree level way owned list number
    → ((step : Step) (above : List Step) → way ≡ step ∷ above → node ≡ node_below s table step)
    → ((step : Step) (above : List Step) (level : ℕ) (owned list : List ℕ) (number : ℕ) → EndsInTree s (kind_in s.bytes) table.tree level (step ∷ above) owned list number
    → node_below t table step ≡ node_below s table step)
    → symbols_at t.bytes (leaf_k t.bytes) node ≡ remove (symbols_at s.bytes (leaf_k s.bytes) node) k
    → length (symbols_at s.bytes (leaf_k s.bytes) node) ≡ 1 → k < length (symbols_at s.bytes (leaf_k s.bytes) node)
    → (step : Step) (above : List Step) → way ≡ step ∷ above → entries_below t table step ≡ []
none_left s t table way level owned list number node k e there stays gone one low step above is =
    let same = stays step above level owned list number (subst (λ (w : List Step). EndsInTree s (kind_in s.bytes) table.tree level w owned list number) is e) in
    let at : node_below t table step ≡ node = same ∙ sym (there step above is) in
    ap (symbols_at t.bytes (leaf_k t.bytes)) at ∙ gone ∙ remove_alone (symbols_at s.bytes (leaf_k s.bytes) node) k one low

-- ---- a way has 16 steps at most

pub way_short : (s : Space) (kind : Kind) (root level : ℕ) (way : List Step) (owned list : List ℕ) (k : ℕ) → EndsInTree s kind root level way owned list k → length way ≤ 16
way_short s kind root level way owned list k e =
    subst (λ (w : List Step). length w ≤ 16) (sym e.way_is) (let low = way_low s kind root level way owned list k e in omega (arith, low))

-- ---- an entry goes, its texts are freed, and what is left stays

module _ (s t : Space) (table : SymbolTable) (e : Entry) (r : SymbolEntry) (is : symbol_from e ≡ r) (taken : HasEntryTaken s t table e) where
  abbrev link : List ℕ × Target
  link = link_of (segment_of s.bytes table.heap) e

  pub loosened : (links : List (List ℕ × Target)) (spare : List ℕ) (blocks : List Block) → IsGroupIn s table links spare blocks
      → (links' : List (List ℕ × Target)) × IsLinkPut link links' links × HasGroupMoved s t table blocks links' (offsets_named r ++ spare)
  loosened links spare blocks g =
      let first = taken links spare blocks g in
      (first.0, first.1, subst (HasGroupMoved s t table blocks first.0) (read_offsets e r spare is) first.2)

  module _ (u : Space)
      (freed : (links : List (List ℕ × Target)) (spare : List ℕ) (blocks : List Block) → IsGroupIn t table links (offsets_named r ++ spare) blocks → HasGroupMoved t u table blocks links spare) where
    pub unnamed : (links : List (List ℕ × Target)) (blocks : List Block) → IsGroupIn s table links [] blocks
        → (links' : List (List ℕ × Target)) × IsLinkPut link links' links × HasGroupMoved s u table blocks links' []
    unnamed links blocks g =
        let first = loosened links [] blocks g in
        let m = first.2 in
        (first.0, first.1, moved_then s t u table blocks first.0 first.0 (offsets_named r ++ []) [] m (freed first.0 [] m.blocks m.group))

    pub gone : (v : Space) → HasGroupStayed u v table → (links : List (List ℕ × Target)) (blocks : List Block) → IsGroupIn s table links [] blocks
        → (links' : List (List ℕ × Target)) × IsLinkPut link links' links × HasGroupMoved s v table blocks links' []
    gone v stayed links blocks g =
        let first = unnamed links blocks g in
        let m = first.2 in
        (first.0, first.1, moved_then s u v table blocks first.0 first.0 [] [] m (stayed first.0 [] m.blocks m.group))

pub spent_in_turn : (s t u v : Space) (n m : ℕ) → n ≤ m → Spends s t 0 0 → Spends t u 0 0 → Spends u v 0 n → Spends s v 0 m
spent_in_turn s t u v n m low first second third = record {
  grown = omega (arith, first.grown, second.grown, third.grown);
  bytes_left = omega (arith, first.bytes_left, second.bytes_left, third.bytes_left);
  blocks_left = omega (arith, low, first.blocks_left, second.blocks_left, third.blocks_left);
}

-- ---- the link of an entry

name_got : (segment : List ℕ) (es : List Entry) (k : ℕ) (e : Entry) (name : List ℕ) → slice_get es k ≡ Some e → slice_get (entry_names segment es) k ≡ Some name → text_at segment e.name ≡ name
name_got segment [] k e name is named = absurd (let never = is in cc)
name_got segment (x ∷ es) zero e name is named =
    let same : x ≡ e = (let given = is in cc) in
    let text : text_at segment x.name ≡ name = (let given = named in cc) in
    subst (λ (y : Entry). text_at segment y.name ≡ name) same text
name_got segment (x ∷ es) (suc k) e name is named = name_got segment es k e name is named

-- what stands at a place that has a name
pub named_there : (segment : List ℕ) (es : List Entry) (k : ℕ) (name : List ℕ) → slice_get (entry_names segment es) k ≡ Some name → (e : Entry) × (slice_get es k ≡ Some e)
named_there segment [] k name named = absurd (let never = named in cc)
named_there segment (e ∷ es) zero name named = (e, refl)
named_there segment (e ∷ es) (suc k) name named = named_there segment es k name named

module _ (s : Space) (table : SymbolTable) (links : List (List ℕ × Target)) (spare : List ℕ) (blocks : List Block) (group : IsGroupIn s table links spare blocks)
    (node k : ℕ) (e : Entry) (name : List ℕ) (told : Contains (symbol_nodes_told s.bytes table) node)
    (is : slice_get (symbols_at s.bytes (leaf_k s.bytes) node) k ≡ Some e)
    (named : slice_get (entry_names (segment_of s.bytes table.heap) (symbols_at s.bytes (leaf_k s.bytes) node)) k ≡ Some name) where
  abbrev segment : List ℕ
  segment = segment_of s.bytes table.heap

  abbrev S : ℕ → List Entry
  S = symbols_at s.bytes (leaf_k s.bytes)

  told_are : links ≡ links_told s.bytes table
  told_are = links_are_told s.bytes table links blocks group.linked

  own : In (link_of segment e) links
  own = subst (In (link_of segment e)) (sym told_are)
      (in_map (link_of segment) e (all_entries s.bytes (symbol_nodes_told s.bytes table))
      (in_flat S node e (symbol_nodes_told s.bytes table) (in_contains node (symbol_nodes_told s.bytes table) told) (in_at (S node) k e is)))

  -- it is one of the group's entries
  pub entry_told : Contains (all_entries s.bytes (symbol_nodes_told s.bytes table)) e
  entry_told = contains_in e (all_entries s.bytes (symbol_nodes_told s.bytes table))
      (in_flat S node e (symbol_nodes_told s.bytes table) (in_contains node (symbol_nodes_told s.bytes table) told) (in_at (S node) k e is))

  rises : Ascend links
  rises = subst Ascend (sym told_are) (ascending s.bytes table (group_read s table links spare blocks group))

  pub named_so : text_at segment e.name ≡ name
  named_so = name_got segment (S node) k e name is named

  -- it is the one link of this name
  pub link_is : (t : Target) → Contains links (name, t) → link_of segment e ≡ (name, t)
  link_is t has =
      let target : Target = (link_of segment e).1 in
      let here : In (name, target) links = subst (λ (n : List ℕ). In (n, target) links) named_so own in
      let same : target ≡ t = one_link links name target t rises here (in_contains (name, t) links has) in
      ap (λ (n : List ℕ). (n, target)) named_so ∙ ap (λ (u : Target). (name, u)) same
