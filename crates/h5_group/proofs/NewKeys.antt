-- The key of a name that comes into a group whose keys are exact but for those that were moved to let it in.
use Rattle.std.proofs.Common.{◌≡◌, ℕ, suc, ◌^◌, ◌<◌, ◌≤◌, IsTrue, List, [], ◌∷◌, ◌++◌, length, map, sym, ap, subst, arith, None}
use Rattle.std.specs.List.{AllByRecursion, flat_map}
use Rattle.std.proofs.lemmas.List.{length-map, map-append}
use Rattle.h5_bytes.specs.Numbers.{word}
use Rattle.h5_bytes.specs.Texts.{text_at}
use Rattle.h5_bytes.specs.declared.Block.{Block}
use Rattle.h5_bytes.proofs.BlockLaws.{all_so}
use Rattle.h5_model.specs.Format.Addresses.{SymbolTable}
use Rattle.h5_model.specs.Format.Superblock.{leaf_k}
use Rattle.h5_model.specs.Format.Heap.{segment_of}
use Rattle.h5_model.specs.Format.Links.{Before}
use Rattle.h5_model.specs.Format.Nodes.{node_at}
use Rattle.h5_model.specs.Format.Symbols.{Entry, Target, symbols_at, symbols_of, texts_of}
use Rattle.h5_model.specs.Tree.Paths.{is_name}
use Rattle.h5_laws.specs.ExactWays.{IsExactFor}
use Rattle.h5_laws.specs.KeyEdits.{IsPut}
use Rattle.h5_laws.specs.NameLadders.{key_sides, key_text}
use Rattle.h5_laws.proofs.Lists.{In, in_left, in_right}
use Rattle.h5_space.specs.Space.{Space}
use Rattle.h5_btree.specs.Keyed.{keys_from}
use Rattle.h5_btree.specs.Retired.{lowest_key}
use Rattle.h5_btree.proofs.KeyedExactPuts.{AreExactFor}
use Rattle.h5_group.specs.Edited.{IsGroupIn}
use Rattle.h5_group.specs.Exact.{AreSymbolsFilled, HasKeysFor}
use Rattle.h5_group.specs.Nodes.Trees.{kind_in}
use Rattle.h5_group.specs.Retired.{entry_keys, name_keys}
use Rattle.h5_group.proofs.EntryOrder.{above_empty}
use Rattle.h5_group.proofs.MovedNames.{names_of}
use Rattle.h5_group.proofs.NameKeys.{lowest_empty, offset_is, text_low, texts_of_keys}
use Rattle.h5_group.proofs.ToldLaws.{symbol_nodes_are_told}
use Rattle.h5_group.proofs.Ways.{level_there}

-- what is so of each text is so of each key
of_texts : (text : List ℕ → List ℕ) (P : List ℕ → Type 0) (keys : List (List ℕ)) → AllByRecursion P (map text keys) → AllByRecursion (λ (key : List ℕ). P (text key)) keys
of_texts text P [] all = tt
of_texts text P (k ∷ keys) all = (all.0, of_texts text P keys all.1)

module _ (s : Space) (table : SymbolTable) (links : List (List ℕ × Target)) (spare : List ℕ) (blocks : List Block) (group : IsGroupIn s table links spare blocks) where
  abbrev leaf : ℕ
  leaf = leaf_k s.bytes

  abbrev list : List ℕ
  list = (group.linked).symbol_nodes

  abbrev segment : List ℕ
  segment = segment_of s.bytes table.heap

  abbrev name_of : Entry → List ℕ
  name_of e = text_at segment e.name

  -- each symbol node has a key
  pub each_keyed : AreSymbolsFilled s.bytes table → AllByRecursion (λ c. 1 ≤ length (entry_keys leaf s.bytes c)) list
  each_keyed filled =
      all_so (λ c. 1 ≤ length (symbols_at s.bytes leaf c)) (λ c. 1 ≤ length (entry_keys leaf s.bytes c)) list
      (λ c some. let long = length-map (symbols_at s.bytes leaf c) (λ (e : Entry). word e.name) in omega (arith, some, long))
      (subst (AllByRecursion (λ c. 1 ≤ length (symbols_at s.bytes leaf c))) (sym (symbol_nodes_are_told s.bytes table links blocks group.linked)) filled)

  -- what is so of each name is so of each key
  pub of_names : (P : List ℕ → Type 0) (es : List Entry) → ((e : Entry) → In e es → e.name < 2 ^ 64) → AllByRecursion P (map name_of es)
      → AllByRecursion (λ (key : List ℕ). P (key_text segment key)) (name_keys es)
  of_names P es low all =
      of_texts (key_text segment) P (name_keys es) (subst (AllByRecursion P) (texts_of_keys s table links spare blocks group es low) all)

  module _ (e : Entry) (spared : In e.name spare) (named : IsTrue (is_name (text_at (segment_of s.bytes table.heap) e.name))) where
    pub new_low : e.name < 2 ^ 64
    new_low =
        let flat = flat_map (symbols_of s.bytes leaf list) list in
        let loose : In e.name (group.linked).listed.loose = subst (In e.name) (sym group.spared) (in_left e.name spare group.more spared) in
        text_low s table links spare blocks group e.name (in_right e.name (names_of flat ++ texts_of flat) (group.linked).listed.loose loose)

    -- its key stands for it, and is above the lowest one
    pub new_text : key_text segment (word e.name) ≡ name_of e
    new_text = ap (text_at segment) (offset_is e.name new_low)

    pub new_above : Before [] (key_text segment (word e.name))
    new_above = subst (Before []) (sym new_text) (above_empty (name_of e) named)

    -- the keys let it in
    pub exact_for : HasKeysFor e.name s.bytes table
        → AreExactFor (key_text segment) (lowest_empty s table links spare blocks group) (word e.name) new_above (node_at s.bytes (kind_in s.bytes)) (entry_keys leaf s.bytes)
        (group.linked).level table.tree
    exact_for has =
        subst (λ (l : ℕ). IsExactFor (key_sides (key_text segment)) (word e.name) (λ (key : List ℕ). key) lowest_key (λ (keys : List (List ℕ)). keys) (suc l) None
        (keys_from (node_at s.bytes (kind_in s.bytes)) (λ key at. entry_keys leaf s.bytes at) l table.tree)) (level_there s table links spare blocks group) has.exact

    -- it comes in among others as its name does
    pub key_put : (xs ys : List Entry) → ((o : Entry) → In o (xs ++ ys) → o.name < 2 ^ 64) → AllByRecursion (λ other. Before other (name_of e)) (map name_of xs)
        → AllByRecursion (Before (name_of e)) (map name_of ys)
        → IsPut (λ (y z : List ℕ). Before (key_text segment y) (key_text segment z)) (word e.name) (name_keys (xs ++ ys)) (name_keys (xs ++ e ∷ ys))
    key_put xs ys low above below = record {
      front = name_keys xs;
      back = name_keys ys;
      before = map-append (λ (o : Entry). word o.name) xs ys;
      after = map-append (λ (o : Entry). word o.name) xs (e ∷ ys);
      above = subst (λ (n : List ℕ). AllByRecursion (λ (key : List ℕ). Before (key_text segment key) n) (name_keys xs)) (sym new_text)
          (of_names (λ n. Before n (name_of e)) xs (λ o at. low o (in_left o xs ys at)) above);
      below = subst (λ (n : List ℕ). AllByRecursion (λ (key : List ℕ). Before n (key_text segment key)) (name_keys ys)) (sym new_text)
          (of_names (Before (name_of e)) ys (λ o at. low o (in_right o xs ys at)) below);
    }
