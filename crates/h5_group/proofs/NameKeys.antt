-- The keys that name what the entries of a group's symbol nodes do: they stand for the names, and are in order as these are.
use Rattle.std.proofs.Common.{◌≡◌, inl, inr, ℕ, ◌+◌, ◌^◌, ◌<◌, ◌≤◌, List, [], ◌∷◌, ◌++◌, length, map, refl, sym, ap, ◌∙◌, subst, arith, append-nil}
use Rattle.std.specs.Bool.{⊤}
use Rattle.std.specs.List.{AllByRecursion, flat_map}
use Rattle.h5_bytes.specs.Bytes.{number_at}
use Rattle.h5_bytes.specs.Numbers.{word}
use Rattle.h5_bytes.specs.Texts.{text_at}
use Rattle.h5_bytes.specs.declared.Block.{Block}
use Rattle.h5_bytes.proofs.PartLaws.{length-part}
use Rattle.h5_model.specs.Format.Addresses.{SymbolTable}
use Rattle.h5_model.specs.Format.Superblock.{leaf_k}
use Rattle.h5_model.specs.Format.Heap.{segment_block, segment_of, span_of}
use Rattle.h5_model.specs.Format.Links.{Symbols, names_in, offset_in}
use Rattle.h5_model.specs.Format.Symbols.{Entry, Target, symbols_at, symbols_of, texts_of}
use Rattle.h5_model.proofs.NumberLaws.{reads_back}
use Rattle.h5_model.proofs.RowLaws.{only_here}
use Rattle.h5_laws.specs.NameLadders.{key_sides, key_text}
use Rattle.h5_laws.proofs.Lists.{In, all_in, in_all, in_flat, in_left, in_map}
use Rattle.h5_space.specs.Space.{Space}
use Rattle.h5_btree.specs.Keyed.{IsInOrder}
use Rattle.h5_btree.specs.Retired.{lowest_key}
use Rattle.h5_btree.proofs.KeyedForms.{group_in_order}
use Rattle.h5_btree.proofs.RetiredGroups.{group_key_order}
use Rattle.h5_group.specs.Edited.{IsGroupIn}
use Rattle.h5_group.specs.Nodes.Trees.{kind_in}
use Rattle.h5_group.specs.Retired.{entry_keys, name_keys}
use Rattle.h5_group.proofs.MovedNames.{all_spans, names_of}
use Rattle.h5_group.proofs.Ways.{heap_inside}
use Rattle.h5_heap.proofs.RefusedLaws.{empty_text}

-- ---- keys of eight bytes

pub offset_is : (n : ℕ) → n < 2 ^ 64 → offset_in (word n) ≡ n
offset_is n low = ap (λ (bytes : List ℕ). number_at bytes 0 8) (sym (append-nil (word n))) ∙ reads_back 8 n [] (omega (arith, low))

pub lowest_is : offset_in lowest_key ≡ 0
unfolding number_at
lowest_is = refl

-- ---- a group

module _ (s : Space) (table : SymbolTable) (links : List (List ℕ × Target)) (spare : List ℕ) (blocks : List Block) (group : IsGroupIn s table links spare blocks) where
  abbrev leaf : ℕ
  leaf = leaf_k s.bytes

  abbrev list : List ℕ
  list = (group.linked).symbol_nodes

  abbrev S : Symbols
  S = symbols_of s.bytes leaf list

  abbrev segment : List ℕ
  segment = segment_of s.bytes table.heap

  pub segment_short : length segment < 2 ^ 63
  segment_short =
      let inside = (heap_inside s table links spare blocks group).1.0 in
      let long = length-part (segment_block s.bytes table.heap).at (segment_block s.bytes table.heap).len s.bytes inside in
      let short = group.short in
      omega (arith, inside, long, short)

  abbrev offsets : List ℕ
  offsets = names_of (flat_map S list) ++ texts_of (flat_map S list) ++ (group.linked).listed.loose

  -- the offset of a text is one of eight bytes
  pub text_low : (offset : ℕ) → In offset offsets → offset < 2 ^ 64
  text_low offset at =
      let within = in_all (λ n. (span_of segment n).at + (span_of segment n).len ≤ length segment) offset offsets
      (all_spans segment (length segment) offsets (group.linked).listed.spans.within) at in
      let short = segment_short in
      omega (arith, within, short)

  -- the offset of a name of a symbol node is
  pub name_low : (c : ℕ) → In c list → (e : Entry) → In e (symbols_at s.bytes leaf c) → e.name < 2 ^ 64
  name_low c in_list e in_node =
      let own : symbols_at s.bytes leaf c ≡ S c = in_all (λ n. symbols_at s.bytes leaf n ≡ S n) c list (only_here [] (symbols_at s.bytes leaf) list) in_list in
      let flat = flat_map S list in
      text_low e.name (in_left e.name (names_of flat ++ texts_of flat) (group.linked).listed.loose (in_left e.name (names_of flat) (texts_of flat)
      (in_map (λ (x : Entry). x.name) e flat (in_flat S c e list in_list (subst (In e) own in_node)))))

  -- so its key stands for it
  pub texts_of_keys : (es : List Entry) → ((e : Entry) → In e es → e.name < 2 ^ 64) → map (λ (e : Entry). text_at segment e.name) es ≡ map (key_text segment) (name_keys es)
  texts_of_keys [] low = refl
  texts_of_keys (e ∷ es) low =
      ap (λ (n : List ℕ). n ∷ map (λ (x : Entry). text_at segment x.name) es) (ap (text_at segment) (sym (offset_is e.name (low e (inl refl)))))
      ∙ ap (λ (ns : List (List ℕ)). key_text segment (word e.name) ∷ ns) (texts_of_keys es (λ x at. low x (inr at)))

  pub texts_same : AllByRecursion (λ c. names_in S segment (c ∷ []) ≡ map (key_text segment) (entry_keys leaf s.bytes c)) list
  texts_same = all_in (λ c. names_in S segment (c ∷ []) ≡ map (key_text segment) (entry_keys leaf s.bytes c)) list (λ c in_list.
      let own : symbols_at s.bytes leaf c ≡ S c = in_all (λ n. symbols_at s.bytes leaf n ≡ S n) c list (only_here [] (symbols_at s.bytes leaf) list) in_list in
      ap (map (λ (e : Entry). text_at segment e.name)) (append-nil (S c) ∙ sym own) ∙ texts_of_keys (symbols_at s.bytes leaf c) (name_low c in_list))

  -- the key with the offset 0 names the empty text
  pub low_empty : (low : List ℕ) → offset_in low ≡ 0 → key_text segment low ≡ []
  low_empty low is = ap (text_at segment) is ∙ empty_text segment (group.linked).listed.spans.empty

  pub lowest_empty : key_text segment lowest_key ≡ []
  lowest_empty = low_empty lowest_key lowest_is

  -- THE KEYS OF ITS TREE ARE IN ORDER with those of its names
  pub keys_in_order : IsInOrder (key_sides (key_text segment)) (λ (b : List (List ℕ)). b) (λ (b : List (List ℕ)). ⊤) s.bytes (kind_in s.bytes) (λ key c. entry_keys leaf s.bytes c)
      (group.linked).level table.tree
  keys_in_order =
      group_key_order s (kind_in s.bytes) table.tree (group.linked).level (group.linked).owned list (group.linked).tree S segment (entry_keys leaf s.bytes) texts_same
      (group_in_order s.bytes (kind_in s.bytes) table.tree (group.linked).level (group.linked).owned list (group.linked).tree S segment (group.linked).listed.ordered)
