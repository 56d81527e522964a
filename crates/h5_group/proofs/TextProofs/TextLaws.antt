-- The texts of a group are sound where all were taken and named, and else a rule of the group is broken (File Format Specification
-- 3.0, sections III.A.1, III.B and III.D).
use Rattle.std.proofs.Common.{◌≡◌, ℕ, ◌≤◌, inl, inr, zero, suc, List, [], ◌∷◌, ◌++◌, length, map, Bool, true, false, refl, sym, ap, ◌∙◌, subst, arith, append-nil}
use Rattle.std.specs.Prelude.{◌==◌, if◌then◌else◌, IsTrue, not}
use Rattle.std.specs.List.{AllByRecursion, Contains, flat_map}
use Rattle.std.specs.List.Sorted.{IsPermutation}
use Rattle.std.proofs.lemmas.Grind.{flat_map-append}
use Rattle.std.proofs.lemmas.List.Sorted.{IsPermutation-sym, Contains-permutation}
use Rattle.std.proofs.lemmas.List.Elements.{Contains-append_left, Contains-append_right}
use Rattle.h5_bytes.specs.Bytes.{byte_at, part}
use Rattle.h5_bytes.specs.Texts.{text_at}
use Rattle.h5_bytes.specs.declared.Block.{Block}
use Rattle.h5_bytes.proofs.BlockLaws.{all_so}
use Rattle.h5_bytes.proofs.PartLaws.{length-part}
use Rattle.h5_model.specs.Format.Addresses.{SymbolTable}
use Rattle.h5_model.specs.Format.Heap.{segment_of, HasNames}
use Rattle.h5_model.specs.Format.Rows.{nodes as nodes_of}
use Rattle.h5_model.specs.Format.Nodes.{node_at}
use Rattle.h5_model.specs.Tree.Paths.{is_name}
use Rattle.h5_model.specs.Format.Symbols.{Entry, texts_of}
use Rattle.h5_model.specs.Faults.TreeFaults.{HasSymbolNodes, HeapNameBreach, all_entries, all_key_offsets}
use Rattle.h5_model.specs.declared.open_fault.Cause.{Cause}
use Rattle.h5_model.specs.declared.open_fault.Cause.TheVariants.{HeapName, BadName, NoMemory}
use Rattle.h5_model.proofs.OneTree.{level_is, owned_is}
use Rattle.h5_heap.specs.Kept.{HeapState, segment_in}
use Rattle.h5_heap.specs.Spans.{HasTaken}
use Rattle.h5_heap.proofs.NameLaws.{link_offsets, walk_takes_all, has_names}
use Rattle.h5_heap.proofs.BreachLaws.{name_breach}
use Rattle.h5_snod.specs.Entries.{symbol_from}
use Rattle.h5_snod.specs.declared.entry.SymbolTarget.TheVariants.{Header, Text}
use Rattle.h5_btree.specs.Walk.Forms.{OfGroup}
use Rattle.h5_btree.specs.Walk.Trees.{IsTree}
use Rattle.h5_group.specs.Nodes.Trees.{kind_in}
use Rattle.h5_group.specs.Texts.Named.{AreTexts, IsFreshHeap}
use Rattle.h5_group.specs.Texts.Refused.{AreTextsRefused, IsFirstTextFault}
use Rattle.h5_group.specs.Nodes.Stands.{entries_at, keys_at}
use Rattle.h5_group.specs.Texts.Linked.{linked_by, linked_at, text_of, IsNamed, IsEntrySound, AreEntriesSound, AreEntriesRefused}
use Rattle.h5_group.specs.Texts.Taken.{IsSameHeap, TakesLinked, NamesKeys, AreKeysNamed, AreUnsound, AreKeysRefused}
use Rattle.h5_group.proofs.TextProofs.LinkedLaws.{segment_same}

-- ---- the texts of all entries

linked_is : (e : Entry) (rest : List ℕ) → linked_by e ++ rest ≡ (if e.cache == 2 then e.name ∷ e.text ∷ rest else e.name ∷ rest)
linked_is e rest = by (e.cache == 2) where
  by : (soft : Bool) → e.name ∷ text_of (if soft then Text e.text else Header e.header) ++ rest ≡ (if soft then e.name ∷ e.text ∷ rest else e.name ∷ rest)
  by true = refl
  by false = refl

all_linked : (es : List Entry) → flat_map linked_by es ≡ link_offsets es
all_linked [] = refl
all_linked (e ∷ es) = ap (λ (rest : List ℕ). linked_by e ++ rest) (all_linked es) ∙ linked_is e (link_offsets es)

pub linked_all : (image : List ℕ) (symbol_nodes : List ℕ) → flat_map (linked_at image) symbol_nodes ≡ link_offsets (all_entries image symbol_nodes)
linked_all image symbol_nodes = by symbol_nodes ∙ all_linked (all_entries image symbol_nodes) where
  by : (ats : List ℕ) → flat_map (linked_at image) ats ≡ flat_map linked_by (flat_map (entries_at image) ats)
  by [] = refl
  by (at ∷ ats) = ap (λ (rest : List ℕ). linked_at image at ++ rest) (by ats) ∙ sym (flat_map-append linked_by (entries_at image at) (flat_map (entries_at image) ats))

-- a text that an entry names is one of these
in_linked : (es : List Entry) (e : Entry) (offset : ℕ) → Contains es e → Contains (linked_by e) offset → Contains (flat_map linked_by es) offset
in_linked [] e offset (k, low, is) there = absurd (omega (arith, low))
in_linked (x ∷ es) e offset (zero, low, is) there =
    Contains-append_left (linked_by x) (flat_map linked_by es) offset (subst (λ (y : Entry). Contains (linked_by y) offset) (sym is) there)
in_linked (x ∷ es) e offset (suc k, low, is) there =
    Contains-append_right (linked_by x) (flat_map linked_by es) offset (in_linked es e offset (k, omega arith, is) there)

-- ---- the heap

-- where the empty name was taken, and then these texts, the heap stays where it is
module _ (image : List ℕ) (heap begun : HeapState) (is : begun ≡ record heap { held = begun.held }) (empty : HasTaken (segment_in image heap) begun [] []) where
  pub same_begun : IsSameHeap heap begun
  same_begun = record {
    at = ap (λ (h : HeapState). h.at) is;
    segment = ap (λ (h : HeapState). h.segment) is;
    free = ap (λ (h : HeapState). h.free) is;
  }

  pub taken_begun : HasTaken (segment_in image begun) begun [] []
  taken_begun = subst (λ (s : List ℕ). HasTaken s begun [] []) (sym (segment_same image heap begun same_begun)) empty

  module _ (now : HeapState) (offsets : List ℕ) (takes : TakesLinked image begun now offsets) where
    pub taken_now : HasTaken (segment_in image now) now offsets []
    taken_now = subst (λ (s : List ℕ). HasTaken s now offsets []) (sym (segment_same image begun now takes.same)) (takes.taken [] taken_begun)

-- ---- a group whose tree and heap were read

module _ (image : List ℕ) (table : SymbolTable) (heap : HeapState) (nodes symbol_nodes : List ℕ) (tree : IsTree image OfGroup table.tree nodes symbol_nodes)
    (fresh : IsFreshHeap image table.heap heap) where
  abbrev es : List Entry
  es = all_entries image symbol_nodes

  abbrev names : List ℕ
  names = map (λ (e : Entry). e.name) es

  abbrev linked : List ℕ
  linked = flat_map (linked_at image) symbol_nodes

  abbrev keys : List ℕ
  keys = flat_map (keys_at image) nodes

  segment_is : segment_in image heap ≡ segment_of image table.heap
  segment_is = ap (λ (b : Block). part b.at b.len image) fresh.segment

  has : HasSymbolNodes image table.tree symbol_nodes
  has = (tree.level, nodes, tree.tree)

  same_linked : IsPermutation linked (names ++ texts_of es)
  same_linked = subst (λ (zs : List ℕ). IsPermutation zs (names ++ texts_of es)) (sym (linked_all image symbol_nodes)) (walk_takes_all es)

  keys_are : keys ≡ all_key_offsets image table.tree
  keys_are = ap (flat_map (keys_at image))
      (owned_is image (kind_in image) table.tree tree.level nodes symbol_nodes tree.tree
      ∙ ap (λ (level : ℕ). nodes_of (node_at image (kind_in image)) level (table.tree ∷ [])) (sym (level_is image (kind_in image) table.tree tree.level nodes symbol_nodes tree.tree)))

  -- ---- refusals

  in_offsets : (e : Entry) (offset : ℕ) → Contains es e → Contains (linked_by e) offset → Contains (names ++ texts_of es) offset
  in_offsets e offset there names_it = Contains-permutation (link_offsets es) (names ++ texts_of es) offset (walk_takes_all es)
      (subst (λ (zs : List ℕ). Contains zs offset) (all_linked es) (in_linked es e offset there names_it))

  among : (cause : Cause) (r : AreEntriesRefused (segment_in image heap) es cause) → Contains es r.entry
  among cause r = subst (λ (xs : List Entry). Contains xs r.entry) (sym r.parts) (Contains-append_right r.before (r.entry ∷ r.after) r.entry (0, omega arith, refl))

  pub names_refused : (cause : Cause) → AreEntriesRefused (segment_in image heap) es cause → AreTextsRefused image table cause
  names_refused HeapName r =
      let (offset, names_it, none, named) = r.refused in
      name_breach image table.tree table.heap symbol_nodes has heap fresh.segment fresh.read offset (in_offsets r.entry offset (among HeapName r) names_it) none
  names_refused BadName r =
      (symbol_nodes, r.entry, has, among BadName r, subst (λ (s : List ℕ). IsTrue (not (is_name (text_at s (r.entry).name)))) segment_is (r.refused).1)
  names_refused _ r = absurd r.refused

  -- ---- and it is the first fault

  abbrev IsFirst : Cause → Type 0
  IsFirst cause = IsFirstTextFault (segment_of image table.heap) es cause

  pub none_first : (byte_at (segment_in image heap) 0 ≡ 0 → ⊥) → IsFirst HeapName
  none_first none = inl (subst (λ (s : List ℕ). byte_at s 0 ≡ 0 → ⊥) segment_is none)

  pub names_first : (cause : Cause) → byte_at (segment_in image heap) 0 ≡ 0 → AreEntriesRefused (segment_in image heap) es cause → IsFirst cause
  names_first HeapName empty r = inr (inl (subst (λ (s : List ℕ). AreEntriesRefused s es HeapName) segment_is r))
  names_first BadName empty r =
      (subst (λ (s : List ℕ). byte_at s 0 ≡ 0) segment_is empty, subst (λ (s : List ℕ). AreEntriesRefused s es BadName) segment_is r)
  names_first _ empty r = absurd r.refused

  module _ (sound : AreEntriesSound (segment_in image heap) es) where
    all_sound : AreEntriesSound (segment_of image table.heap) es
    all_sound = subst (λ (s : List ℕ). AreEntriesSound s es) segment_is sound

    pub linked_first : IsFirst HeapName
    linked_first = inr (inr all_sound)

    pub keys_first : (now : HeapState) → HasTaken (segment_in image now) now linked [] → (cause : Cause) → AreKeysRefused image now keys cause → IsFirst cause
    keys_first now taken HeapName refused = inr (inr all_sound)
    keys_first now taken NoMemory refused = tt
    keys_first now taken _ refused = absurd (refused linked [] taken)

  -- the heap as it is now, after some texts were taken
  module _ (now : HeapState) (same : IsSameHeap heap now) where
    segment_now : segment_in image now ≡ segment_of image table.heap
    segment_now = segment_same image heap now same ∙ segment_is

    sound_now : (loose : List ℕ) → HasNames (segment_of image table.heap) heap.free names (texts_of es) keys loose
        → HasNames (segment_in image now) now.free names (texts_of es) keys loose
    sound_now loose sound = rw (segment_now, same.free) sound

    sound_then : (loose : List ℕ) → HasNames (segment_in image now) now.free names (texts_of es) keys loose
        → HasNames (segment_of image table.heap) heap.free names (texts_of es) keys loose
    sound_then loose sound = rw (segment_now, same.free) at sound

    breach : ((loose : List ℕ) → HasNames (segment_in image now) now.free names (texts_of es) keys loose → ⊥) → HeapNameBreach image table.tree table.heap
    breach unsound = (
      symbol_nodes,
      has,
      heap.free,
      fresh.read,
      λ loose sound. unsound loose (sound_now loose (subst (λ (ks : List ℕ). HasNames (segment_of image table.heap) heap.free names (texts_of es) ks loose) (sym keys_are) sound)),
    )

    -- the texts that links name were taken
    module _ (taken : HasTaken (segment_in image now) now linked []) where
      room : 8 ≤ length (segment_in image now)
      room =
          let size = (fresh.read).size in
          let long = length-part heap.segment.at heap.segment.len image fresh.inside in
          let len = ap (λ (b : Block). b.len) fresh.segment in
          let kept = ap length (segment_same image heap now same) in
          omega (arith, size, long, len, kept)

      pub keys_refused : (cause : Cause) → AreKeysRefused image now keys cause → AreTextsRefused image table cause
      keys_refused HeapName refused = breach (λ loose sound. refused linked [] taken names (texts_of es) keys loose
          (IsPermutation-sym linked (names ++ texts_of es) same_linked) (λ k there. there) room sound)
      keys_refused NoMemory refused = tt
      keys_refused _ refused = absurd (refused linked [] taken)

      -- and the keys name texts
      pub are_texts : (new : HeapState) → NamesKeys image now new keys → AreEntriesSound (segment_in image heap) es
          → AreTexts image (segment_of image table.heap) heap.free nodes symbol_nodes
      are_texts new named good =
          let all : AreKeysNamed (segment_in image now) new linked [] keys = named.named linked [] taken in
          let sound = has_names (segment_in image now) new linked all.loose' names (texts_of es) keys all.taken same_linked all.names in
          record {
            named = subst (λ (s : List ℕ). AllByRecursion (IsNamed s) es) segment_is
                (all_so (λ (e : Entry). IsEntrySound (segment_in image heap) (symbol_from e)) (IsNamed (segment_in image heap)) es (λ e s. s.named) good);
            loose = all.loose';
            spans = sound_then all.loose' (subst (λ (free : List Block). HasNames (segment_in image now) free names (texts_of es) keys all.loose') (named.same).free sound);
          }

  -- the texts that links name cannot be taken
  pub linked_refused : AreUnsound (segment_in image heap) heap.free linked → AreTextsRefused image table HeapName
  linked_refused unsound = breach heap (record { at = refl; segment = refl; free = refl }) (λ loose sound. unsound names (texts_of es) keys loose []
      (subst (IsPermutation (names ++ texts_of es)) (sym (append-nil linked)) (IsPermutation-sym linked (names ++ texts_of es) same_linked)) sound)
