-- Links stay where the texts that they and the keys of their tree name do.
use Rattle.std.proofs.Common.{◌≡◌, ℕ, zero, suc, ◌+◌, ◌<◌, inl, inr, Bool, true, false, List, [], ◌∷◌, ◌++◌, map, length, refl, sym, ◌∙◌, subst}
use Rattle.std.specs.Prelude.{◌==◌, if◌then◌else◌, slice_index_or}
use Rattle.std.specs.List.{AllByRecursion, flat_map, list_any}
use Rattle.h5_bytes.specs.Bytes.{byte_at, number_at}
use Rattle.h5_bytes.specs.Texts.{text_at}
use Rattle.h5_bytes.specs.declared.Block.{Block}
use Rattle.h5_bytes.proofs.BlockLaws.{all_so, all_append, all_left, all_right}
use Rattle.h5_model.specs.Format.Heap.{IsHeap, HasNames, KeyNames}
use Rattle.h5_model.specs.Format.Rows.{Node, Reading, only}
use Rattle.h5_model.specs.Format.Symbols.{Entry, Target, Text, Header, link_of, texts_of}
use Rattle.h5_model.specs.Format.Links.{AreLinks, IsOrdered, IsBetween, Symbols, Before, NotAfter, names_in, offset_in, key_name, symbol_nodes_below, key_offsets}
use Rattle.h5_model.proofs.RowLaws.{at_listed}
use Rattle.h5_heap.proofs.NameLaws.{each_of}
use Rattle.h5_heap.proofs.RefusedLaws.{empty_text}
use Rattle.h5_btree.proofs.OrderLaws.BetweenLaws.{each_down}
use Rattle.h5_btree.proofs.KeyedKeys.{all_unmapped}
use Rattle.h5_btree.proofs.RetiredNodes.{map_same}

number_of_none : offset_in [] ≡ 0
unfolding number_at
number_of_none = refl

module _ (old new : List ℕ) where
  -- the text at an offset is as before
  abbrev pub IsTextKept : ℕ → Type 0
  IsTextKept offset = text_at new offset ≡ text_at old offset

  pub begin_kept : byte_at old 0 ≡ 0 → byte_at new 0 ≡ 0 → IsTextKept 0
  begin_kept was is = empty_text new is ∙ sym (empty_text old was)

  -- ---- links

  links_same : (es : List Entry) → AllByRecursion IsTextKept (map (λ (e : Entry). e.name) es) → AllByRecursion IsTextKept (texts_of es)
      → map (link_of new) es ≡ map (link_of old) es
  links_same [] names texts = refl
  links_same (e ∷ es) names texts = by (e.cache == 2) texts (links_same es names.1) where
    by : (soft : Bool) → AllByRecursion IsTextKept (if soft then e.text ∷ texts_of es else texts_of es)
        → (AllByRecursion IsTextKept (texts_of es) → map (link_of new) es ≡ map (link_of old) es)
        → (text_at new e.name, (if soft then Text (text_at new e.text) else Header e.header)) ∷ map (link_of new) es
        ≡ (text_at old e.name, (if soft then Text (text_at old e.text) else Header e.header)) ∷ map (link_of old) es
    by true all rest =
        let name = names.0 in
        let text = all.0 in
        let more = rest all.1 in
        λ i. (name i, Text (text i)) ∷ more i
    by false all rest =
        let name = names.0 in
        let more = rest all in
        λ i. (name i, Header e.header) ∷ more i

  -- ---- the order of names and keys

  module _ (begin : IsTextKept 0) where
    key_same : (keys : List (List ℕ)) (i : ℕ) → AllByRecursion IsTextKept (map offset_in keys)
        → text_at new (offset_in (slice_index_or keys i [])) ≡ text_at old (offset_in (slice_index_or keys i []))
    key_same [] zero all = subst IsTextKept (sym number_of_none) begin
    key_same [] (suc i) all = subst IsTextKept (sym number_of_none) begin
    key_same (key ∷ keys) zero all = all.0
    key_same (key ∷ keys) (suc i) all = key_same keys i all.1

    module _ (V : Reading) (S : Symbols) (each : (n : ℕ) → AllByRecursion (λ (e : Entry). IsTextKept e.name) (S n)) where
      entries_kept : (ns : List ℕ) → AllByRecursion (λ (e : Entry). IsTextKept e.name) (flat_map S ns)
      entries_kept [] = tt
      entries_kept (n ∷ ns) = all_append (λ (e : Entry). IsTextKept e.name) (S n) (flat_map S ns) (each n) (entries_kept ns)

      names_same : (ns : List ℕ) → names_in S new ns ≡ names_in S old ns
      names_same ns = map_same (λ (e : Entry). text_at new e.name) (λ (e : Entry). text_at old e.name) (flat_map S ns) (entries_kept ns)

      node_ordered : (node : Node) → AllByRecursion IsTextKept (map offset_in node.keys) → IsOrdered V S old node → IsOrdered V S new node
      node_ordered node kept is = record { between = between; rising = rising } where
        between : (i : ℕ) → i < length node.children → AllByRecursion (IsBetween new node i) (names_in S new (symbol_nodes_below V node i))
        between i low =
            let left = key_same node.keys i kept in
            let right = key_same node.keys (i + 1) kept in
            subst (AllByRecursion (IsBetween new node i)) (sym (names_same (symbol_nodes_below V node i)))
            (all_so (IsBetween old node i) (IsBetween new node i) (names_in S old (symbol_nodes_below V node i)) (λ name lies.
            (subst (λ (key : List ℕ). Before key name) (sym left) lies.0, subst (NotAfter name) (sym right) lies.1)) (is.between i low))

        rising : (i : ℕ) → i < length node.children → NotAfter (key_name new node i) (key_name new node (i + 1))
        rising i low =
            let left = key_same node.keys i kept in
            let right = key_same node.keys (i + 1) kept in
            subst (λ (key : List ℕ). NotAfter key (key_name new node (i + 1))) (sym left)
            (subst (NotAfter (key_name old node i)) (sym right) (is.rising i low))

      all_ordered : (owned : List ℕ) → AllByRecursion IsTextKept (key_offsets V owned) → AllByRecursion (λ at. IsOrdered V S old (V at)) owned
          → AllByRecursion (λ at. IsOrdered V S new (V at)) owned
      all_ordered [] kept is = tt
      all_ordered (at ∷ owned) kept is =
          let here = all_left IsTextKept (map offset_in (V at).keys) (key_offsets V owned) kept in
          let more = all_right IsTextKept (map offset_in (V at).keys) (key_offsets V owned) kept in
          (node_ordered (V at) here is.0, all_ordered owned more is.1)

  -- ---- all of them

  -- the entries of these symbol nodes alone have names that stay
  each_kept : (f : ℕ → List Entry) (ns : List ℕ) → AllByRecursion IsTextKept (map (λ (e : Entry). e.name) (flat_map (only [] f ns) ns))
      → (n : ℕ) → AllByRecursion (λ (e : Entry). IsTextKept e.name) (only [] f ns n)
  each_kept f ns kept n = by (list_any (λ (m : ℕ). m == n) ns) refl where
    names : AllByRecursion (λ (m : ℕ). AllByRecursion (λ (e : Entry). IsTextKept e.name) (only [] f ns m)) ns
    names = each_down (λ (e : Entry). IsTextKept e.name) (only [] f ns) ns (all_unmapped IsTextKept (λ (e : Entry). e.name) (flat_map (only [] f ns) ns) kept)

    by : (b : Bool) → list_any (λ (m : ℕ). m == n) ns ≡ b → AllByRecursion (λ (e : Entry). IsTextKept e.name) (only [] f ns n)
    by true is = at_listed (λ (m : ℕ). AllByRecursion (λ (e : Entry). IsTextKept e.name) (only [] f ns m)) ns n names is
    by false is = rw is tt

  -- what keys name stays where these texts and the empty name do
  pub keys_kept : (linked kept keys : List ℕ) → IsTextKept 0 → AllByRecursion IsTextKept (linked ++ kept) → AllByRecursion (KeyNames linked kept) keys
      → AllByRecursion IsTextKept keys
  keys_kept linked kept keys begin all named = all_so (KeyNames linked kept) IsTextKept keys (λ key names. elim names [
    | inl none ↦ subst IsTextKept (sym none) begin
    | inr (inl there) ↦ each_of IsTextKept linked key (all_left IsTextKept linked kept all) there
    | inr (inr there) ↦ each_of IsTextKept kept key (all_right IsTextKept linked kept all) there
  ]) named

  -- The links stay in another segment with its free blocks, where the texts that links name are as before, and those that keys name.
  module _ (V : Reading) (f : ℕ → List Entry) (header header' owned symbol_nodes : List ℕ) (links : List (List ℕ × Target))
      (listed : AreLinks V (only [] f symbol_nodes) header old owned symbol_nodes links) where
    abbrev entries : List Entry
    entries = flat_map (only [] f symbol_nodes) symbol_nodes

    abbrev names : List ℕ
    names = map (λ (e : Entry). e.name) entries

    abbrev texts : List ℕ
    texts = texts_of entries

    pub links_stay : (kept : List ℕ) → AllByRecursion IsTextKept (names ++ texts ++ kept) → AllByRecursion (KeyNames (names ++ texts) kept) (key_offsets V owned)
        → (free : List Block) (loose : List ℕ) → IsHeap header' new free → HasNames new free names texts (key_offsets V owned) loose
        → (l : AreLinks V (only [] f symbol_nodes) header' new owned symbol_nodes links) × (l.loose ≡ loose)
    links_stay kept all named free loose form has =
        let begin : IsTextKept 0 = begin_kept listed.spans.empty has.empty in
        let linked : AllByRecursion IsTextKept (names ++ texts) = all_left IsTextKept (names ++ texts) kept all in
        let name_kept : AllByRecursion IsTextKept names = all_left IsTextKept names texts linked in
        let text_kept : AllByRecursion IsTextKept texts = all_right IsTextKept names texts linked in (
          record {
            cached = listed.cached;
            all = listed.all ∙ sym (links_same entries name_kept text_kept);
            ascending = listed.ascending;
            named = listed.named;
            ordered = all_ordered begin V (only [] f symbol_nodes) (each_kept f symbol_nodes name_kept) owned
                (keys_kept (names ++ texts) kept (key_offsets V owned) begin all named) listed.ordered;
            free = free;
            loose = loose;
            heap_form = form;
            spans = has;
          },
          refl,
        )
