-- A group no key of which names a text that stands on its own: its keys gave way, and all links stay.
use Rattle.std.proofs.Common.{◌≡◌, ◌≢◌, ℕ, ◌+◌, ◌*◌, ◌≤◌, Bool, true, false, inl, inr, List, [], ◌∷◌, ◌++◌, length, map, refl, sym, ap, ◌∙◌, subst, arith}
use Rattle.std.specs.Bool.{⊤}
use Rattle.std.specs.List.{AllByRecursion, Contains, flat_map}
use Rattle.std.proofs.lemmas.Bool.{eqb-false, ne_eqb}
use Rattle.std.proofs.lemmas.List.{map-append}
use Rattle.h5_bytes.specs.Blocks.{cover, holds}
use Rattle.h5_bytes.specs.Numbers.{word}
use Rattle.h5_bytes.specs.Texts.{text_at}
use Rattle.h5_bytes.specs.declared.Block.{Block}
use Rattle.h5_bytes.proofs.BlockLaws.{all_so, cover-append, holds_in}
use Rattle.h5_model.specs.Format.Addresses.{SymbolTable}
use Rattle.h5_model.specs.Format.Superblock.{leaf_k}
use Rattle.h5_model.specs.Format.Heap.{HasNames, KeyNames, segment_of, span_of}
use Rattle.h5_model.specs.Format.Links.{Ascend, Before, IsOrdered, Symbols, key_offsets, names_in, offset_in}
use Rattle.h5_model.specs.Format.Nodes.{Kind, node_at, reading_of, tree_blocks}
use Rattle.h5_model.specs.Format.Rows.{Reading}
use Rattle.h5_model.specs.Format.Symbols.{Entry, IsSymbolNode, Target, entries_of, link_of, symbol_block, symbols_at, symbols_of, texts_of}
use Rattle.h5_model.proofs.RowLaws.{only_here}
use Rattle.h5_laws.specs.NameLadders.{key_text, name_lists, name_sides}
use Rattle.h5_laws.proofs.Ascending.{before_trans}
use Rattle.h5_laws.proofs.Lists.{In, all_in, contains_in, in_all, in_contains, in_flat, in_left, in_map}
use Rattle.h5_laws.proofs.NameLadders.{names_under}
use Rattle.h5_space.specs.Space.{Space}
use Rattle.h5_space.specs.Whole.{IsApart}
use Rattle.h5_btree.specs.Keyed.{items_of_tree}
use Rattle.h5_btree.specs.Retired.{IsRetirable, IsTreeRetired, lowest_key}
use Rattle.h5_btree.proofs.KeyedForms.{group_in_order, group_ordered, names_at_child, names_bottom}
use Rattle.h5_btree.proofs.KeyedNames.{AreAscending}
use Rattle.h5_btree.proofs.KeyedOrder.{items-tree}
use Rattle.h5_btree.proofs.RetiredBeside.{stays_beside}
use Rattle.h5_btree.proofs.RetiredGroups.{group_retired}
use Rattle.h5_group.specs.Edited.{HasGroupMoved, IsGroupIn, IsNamedByNoKey}
use Rattle.h5_group.specs.Nodes.Trees.{kind_in}
use Rattle.h5_group.specs.Retired.{StandsAt, is_of, entry_keys, name_keys}
use Rattle.h5_group.proofs.RetiredKeys.{retired_keys}
use Rattle.h5_group.proofs.HeapMoves.{keys_there}
use Rattle.h5_group.proofs.NameKeys.{lowest_empty, lowest_is, offset_is, segment_short, texts_same}
use Rattle.h5_group.proofs.KeyOffsets.{offsets_joined, offsets_parts}
use Rattle.h5_group.proofs.TreeMoves.{keys_moved, kind_now}
use Rattle.h5_group.proofs.Ways.{cover_parts, symbols_inside, trees_apart}

-- ---- texts that stand apart

-- the bytes of a text are of the texts
held_by : (segment : List ℕ) (xs : List ℕ) (x : ℕ) → In x xs → 1 ≤ cover x (map (span_of segment) xs)
held_by segment [] x there = absurd there
held_by segment (y ∷ xs) x (inl e) =
    let here : holds x y (span_of segment y).len ≡ 1 = subst (λ (z : ℕ). holds z y (span_of segment y).len ≡ 1) e (holds_in y y (span_of segment y).len (omega arith) (omega arith)) in
    omega (arith, here)
held_by segment (y ∷ xs) x (inr there) = let rest = held_by segment xs x there in omega (arith, rest)

module _ (segment : List ℕ) (free : List Block) (names texts keys loose : List ℕ) (has : HasNames segment free names texts keys loose) (offset : ℕ) (spared : In offset loose) where
  spans : (p : ℕ) → cover p (map (span_of segment) (names ++ texts ++ loose))
      ≡ (cover p (map (span_of segment) names) + cover p (map (span_of segment) texts)) + cover p (map (span_of segment) loose)
  spans p =
      ap (cover p) (map-append (span_of segment) (names ++ texts) loose) ∙ cover-append p (map (span_of segment) (names ++ texts)) (map (span_of segment) loose)
      ∙ ap (λ (n : ℕ). n + cover p (map (span_of segment) loose))
      (ap (cover p) (map-append (span_of segment) names texts) ∙ cover-append p (map (span_of segment) names) (map (span_of segment) texts))

  -- one on its own is not a name, and not the empty name
  pub not_named : (n : ℕ) → In n names → n ≢ offset
  not_named n there same =
      let name : 1 ≤ cover offset (map (span_of segment) names) = subst (λ (p : ℕ). 1 ≤ cover p (map (span_of segment) names)) same (held_by segment names n there) in
      let alone = held_by segment loose offset spared in
      let all = cover-append offset (map (span_of segment) (names ++ texts ++ loose)) free in
      omega (arith, name, alone, spans offset, all, has.apart offset)

  pub not_empty : 0 ≢ offset
  not_empty same =
      let alone : 1 ≤ cover 0 (map (span_of segment) loose) = subst (λ (p : ℕ). 1 ≤ cover p (map (span_of segment) loose)) (sym same) (held_by segment loose offset spared) in
      let here = holds_in 0 0 8 (omega arith) (omega arith) in
      let all = cover-append 0 (map (span_of segment) (names ++ texts ++ loose)) free in
      omega (arith, here, alone, spans 0, all, has.apart 0)

  -- names lie in the segment
  pub name_low : (n : ℕ) → In n names → n ≤ length segment
  name_low n there =
      let low = in_all (λ (b : Block). b.at + b.len ≤ length segment) (span_of segment n) (map (span_of segment) (names ++ texts ++ loose)) has.within
      (in_map (span_of segment) n (names ++ texts ++ loose) (in_left n (names ++ texts) loose (in_left n names texts there))) in
      omega (arith, low)

-- ---- names that ascend

rise_after : (segment : List ℕ) (e : Entry) (es : List Entry) → Ascend (map (link_of segment) (e ∷ es)) → AllByRecursion (Before (text_at segment e.name)) (map (λ (x : Entry). text_at segment x.name) es)
rise_after segment e [] rises = tt
rise_after segment e (f ∷ es) rises = (
  rises.0,
  all_so (Before (text_at segment f.name)) (Before (text_at segment e.name)) (map (λ (x : Entry). text_at segment x.name) es)
      (λ n behind. before_trans (text_at segment e.name) (text_at segment f.name) n rises.0 behind) (rise_after segment f es rises.1),
)

names_rise : (segment : List ℕ) (es : List Entry) → Ascend (map (link_of segment) es) → AreAscending (map (λ (x : Entry). text_at segment x.name) es)
names_rise segment [] rises = tt
names_rise segment (e ∷ []) rises = (tt, tt)
names_rise segment (e ∷ f ∷ es) rises = (rise_after segment e (f ∷ es) rises, names_rise segment (f ∷ es) rises.1)

-- ---- a group

module _ (s : Space) (table : SymbolTable) (links : List (List ℕ × Target)) (spare : List ℕ) (blocks : List Block) (group : IsGroupIn s table links spare blocks) (offset : ℕ)
    (spared : Contains spare offset) where
  abbrev kind : Kind
  kind = kind_in s.bytes

  abbrev leaf : ℕ
  leaf = leaf_k s.bytes

  abbrev level : ℕ
  level = (group.linked).level

  abbrev owned : List ℕ
  owned = (group.linked).owned

  abbrev symbol_nodes : List ℕ
  symbol_nodes = (group.linked).symbol_nodes

  abbrev S : Symbols
  S = symbols_of s.bytes leaf symbol_nodes

  abbrev segment : List ℕ
  segment = segment_of s.bytes table.heap

  abbrev names : List ℕ
  names = map (λ (e : Entry). e.name) (flat_map S symbol_nodes)

  abbrev texts : List ℕ
  texts = texts_of (flat_map S symbol_nodes)

  abbrev loose : List ℕ
  loose = (group.linked).listed.loose

  abbrev Names : ℕ → Type 0
  Names = KeyNames (names ++ texts) loose

  abbrev hit : List ℕ → Bool
  hit = is_of offset

  has : HasNames segment (group.linked).listed.free names texts (key_offsets (reading_of s.bytes kind owned) owned) loose
  has = (group.linked).listed.spans

  there : In offset loose
  there = subst (In offset) (sym group.spared) (in_left offset spare group.more (in_contains offset spare spared))

  -- ---- what is so of the names

  abbrev IsNameOf : Entry → Type 0
  IsNameOf e = (offset_in (word e.name) ≡ e.name) × (e.name ≢ offset) × Names e.name

  abbrev ListedSo : ℕ → Type 0
  ListedSo c = AllByRecursion IsNameOf (symbols_at s.bytes leaf c)

  name_so : (c : ℕ) → In c symbol_nodes → (e : Entry) → In e (symbols_at s.bytes leaf c) → IsNameOf e
  name_so c in_list e in_node =
      let own : symbols_at s.bytes leaf c ≡ S c = in_all (λ n. symbols_at s.bytes leaf n ≡ S n) c symbol_nodes (only_here [] (symbols_at s.bytes leaf) symbol_nodes) in_list in
      let listed : In e.name names = in_map (λ (x : Entry). x.name) e (flat_map S symbol_nodes) (in_flat S c e symbol_nodes in_list (subst (In e) own in_node)) in
      let low = name_low segment (group.linked).listed.free names texts (key_offsets (reading_of s.bytes kind owned) owned) loose has offset there e.name listed in
      let short = segment_short s table links spare blocks group in (
        offset_is e.name (omega (arith, low, short)),
        not_named segment (group.linked).listed.free names texts (key_offsets (reading_of s.bytes kind owned) owned) loose has offset there e.name listed,
        inr (inl (contains_in e.name (names ++ texts) (in_left e.name names texts listed))),
      )

  all_names_so : AllByRecursion ListedSo symbol_nodes
  all_names_so = all_in ListedSo symbol_nodes (λ c in_list. all_in IsNameOf (symbols_at s.bytes leaf c) (name_so c in_list))

  -- ---- the tree's keys may give way

  keys_unhit : (es : List Entry) → AllByRecursion IsNameOf es → AllByRecursion (λ (key : List ℕ). hit key ≡ false) (name_keys es)
  keys_unhit [] all = tt
  keys_unhit (e ∷ es) all = (ne_eqb (offset_in (word e.name)) offset (λ same. all.0.1 (sym all.0.0 ∙ same)), keys_unhit es all.1)

  no_entry_hit : AllByRecursion (λ at. AllByRecursion (λ (key : List ℕ). hit key ≡ false) (entry_keys leaf s.bytes at)) symbol_nodes
  no_entry_hit = all_so ListedSo (λ at. AllByRecursion (λ (key : List ℕ). hit key ≡ false) (entry_keys leaf s.bytes at)) symbol_nodes
      (λ c all. keys_unhit (symbols_at s.bytes leaf c) all) all_names_so

  nodes_apart : IsApart (tree_blocks kind owned ++ map (symbol_block leaf) symbol_nodes) s.free (length s.bytes)
  nodes_apart p = omega (
    arith,
    group.apart p,
    cover_parts s table links spare blocks group p,
    cover-append p (tree_blocks kind owned) (map (symbol_block leaf) symbol_nodes),
  )

  pub retirable : IsRetirable hit (StandsAt leaf) (entry_keys leaf) s kind table.tree level owned symbol_nodes
  retirable = record {
    tree = (group.linked).tree;
    apart = trees_apart s table links spare blocks group;
    width = refl;
    lowest = ne_eqb (offset_in lowest_key) offset
        (λ same. not_empty segment (group.linked).listed.free names texts (key_offsets (reading_of s.bytes kind owned) owned) loose has offset there (sym lowest_is ∙ same));
    named = no_entry_hit;
    stays = stays_beside (8 + 80 * leaf) (IsSymbolNode leaf) (λ (bytes : List ℕ). name_keys (entries_of bytes)) s kind owned symbol_nodes nodes_apart
        (symbols_inside s table links spare blocks group) (group.linked).formed;
  }

  -- ---- and have given way

  module _ (t : Space) (is : IsTreeRetired hit (entry_keys leaf) s t kind table.tree level owned symbol_nodes) (short : length t.bytes ≤ length s.bytes) where
    abbrev V : Reading
    V = node_at s.bytes kind

    abbrev W : Reading
    W = node_at t.bytes kind

    abbrev Y : Reading
    Y = reading_of s.bytes kind owned

    abbrev Z : Reading
    Z = reading_of t.bytes kind owned

    all_names : items_of_tree (λ (b : List (List ℕ)). b) s.bytes kind (names_at_child S segment) level table.tree ≡ names_in S segment symbol_nodes
    all_names =
        items-tree (name_sides (key_text segment)) (λ (b : List (List ℕ)). b) (λ (b : List (List ℕ)). ⊤) (names_at_child S segment) s.bytes kind table.tree level owned symbol_nodes
        (group.linked).tree (name_lists S segment) (names_bottom s.bytes kind owned S segment)
        ∙ names_under Y S segment level table.tree ∙ ap (names_in S segment) (sym ((group.linked).tree).all)

    ascend : AreAscending (items_of_tree (λ (b : List (List ℕ)). b) s.bytes kind (names_at_child S segment) level table.tree)
    ascend = subst AreAscending (sym all_names) (names_rise segment (flat_map S symbol_nodes) (subst Ascend (group.linked).listed.all (group.linked).listed.ascending))

    ordered_now : AllByRecursion (λ at. IsOrdered Z S segment (Z at)) owned
    ordered_now =
        group_ordered t.bytes kind table.tree level owned symbol_nodes is.tree S segment
        (group_retired hit (entry_keys leaf) s t kind table.tree level owned symbol_nodes (group.linked).tree is S segment (lowest_empty s table links spare blocks group) (texts_same s table links spare blocks group) ascend
        (group_in_order s.bytes kind table.tree level owned symbol_nodes (group.linked).tree S segment (group.linked).listed.ordered)).0

    -- ---- each key names a text still

    abbrev NamesIn : List ℕ → Type 0
    NamesIn key = Names (offset_in key)

    abbrev HaveNamesNow : ℕ → Type 0
    HaveNamesNow n = AllByRecursion NamesIn (W n).keys

    entry_names : (es : List Entry) → AllByRecursion IsNameOf es → AllByRecursion NamesIn (name_keys es)
    entry_names [] all = tt
    entry_names (e ∷ es) all = (subst Names (sym all.0.0) all.0.2, entry_names es all.1)

    names_now : AllByRecursion HaveNamesNow owned
    names_now =
        retired_keys NamesIn (λ (key : List ℕ). hit key ≡ true) lowest_key (inl lowest_is) s t kind table.tree level owned symbol_nodes (group.linked).tree is.tree (entry_keys leaf s.bytes) is.keys
        (offsets_parts V Names owned (subst (AllByRecursion Names) (sym (keys_there s.bytes kind owned)) has.keyed))
        (all_so ListedSo (λ c. AllByRecursion NamesIn (entry_keys leaf s.bytes c)) symbol_nodes (λ c all. entry_names (symbols_at s.bytes leaf c) all) all_names_so)

    keyed_now : AllByRecursion Names (key_offsets Z owned)
    keyed_now = subst (AllByRecursion Names) (keys_there t.bytes kind owned) (offsets_joined W Names owned names_now)

    -- ---- so all links stay, and no key names the text

    moved : (m : HasGroupMoved s t table blocks links spare) × (((m.group).linked).owned ≡ owned)
    moved = keys_moved s t table links spare blocks group is.moves is.tree ordered_now keyed_now (let low = group.short in omega (arith, low, short))

    others : (keys : List (List ℕ)) → AllByRecursion (λ (key : List ℕ). hit key ≡ false) keys → AllByRecursion (λ (key : List ℕ). offset_in key ≢ offset) keys
    others keys all = all_so (λ (key : List ℕ). hit key ≡ false) (λ (key : List ℕ). offset_in key ≢ offset) keys (λ key unhit. eqb-false (offset_in key) offset unhit) all

    unnamed : AllByRecursion (λ key. key ≢ offset) (key_offsets W owned)
    unnamed = offsets_joined W (λ key. key ≢ offset) owned
        (all_so (λ n. AllByRecursion (λ (key : List ℕ). hit key ≡ false) (W n).keys) (λ n. AllByRecursion (λ (key : List ℕ). offset_in key ≢ offset) (W n).keys) owned
        (λ n all. others (W n).keys all) is.unhit)

    pub group_moved : (m : HasGroupMoved s t table blocks links spare) × IsNamedByNoKey t table links spare m.blocks m.group offset
    group_moved = (
      moved.0,
      subst (λ (ns : List ℕ). AllByRecursion (λ key. key ≢ offset) (key_offsets (node_at t.bytes (kind_in t.bytes)) ns)) (sym moved.1)
          (subst (λ (k : Kind). AllByRecursion (λ key. key ≢ offset) (key_offsets (node_at t.bytes k) owned)) (sym (kind_now s t table links spare blocks group is.moves)) unnamed),
    )
