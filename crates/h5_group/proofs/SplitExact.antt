-- A symbol node is cut in two, with an entry more, in a group whose keys are exact but for those that were moved to let its name in: they are
-- exact then (File Format Specification 3.0, sections III.A.1 and III.B).
use Rattle.std.proofs.Common.{◌≡◌, ◌≢◌, inl, inr, ℕ, suc, ◌+◌, ◌^◌, ◌<◌, ◌≤◌, true, IsTrue, List, [], ◌∷◌, ◌++◌, map, length, get_or, take, None, refl, sym, ap, ◌∙◌, subst, arith}
use Rattle.std.specs.Bool.{⊤}
use Rattle.std.specs.Cmp.Lexicographic.{slice_cmp}
use Rattle.std.specs.Ordering.{is_le, nat_cmp}
use Rattle.std.specs.List.{AllByRecursion, remove}
use Rattle.std.proofs.lemmas.List.{map-append}
use Rattle.h5_bytes.specs.Numbers.{word}
use Rattle.h5_bytes.specs.Texts.{text_at}
use Rattle.h5_bytes.specs.declared.Block.{Block}
use Rattle.h5_bytes.proofs.BlockLaws.{all_append, all_left, all_right, all_so}
use Rattle.h5_model.specs.Format.Addresses.{SymbolTable}
use Rattle.h5_model.specs.Format.Superblock.{leaf_k}
use Rattle.h5_model.specs.Format.Heap.{segment_of}
use Rattle.h5_model.specs.Format.Links.{Before, IsBetween, NotAfter, offset_in}
use Rattle.h5_model.specs.Format.Nodes.{Kind, node_at}
use Rattle.h5_model.specs.Format.Rows.{Node}
use Rattle.h5_model.specs.Format.Symbols.{Entry, Target, symbols_at}
use Rattle.h5_model.specs.Tree.Paths.{is_name}
use Rattle.h5_model.proofs.Members.{all_both}
use Rattle.h5_laws.specs.ExactWays.{IsExactFor}
use Rattle.h5_laws.specs.KeyEdits.{IsPut, Two}
use Rattle.h5_laws.specs.KeyTrees.{IsSorted}
use Rattle.h5_laws.specs.NameLadders.{key_sides, key_text}
use Rattle.h5_laws.proofs.ExactKeysNames.{key_let_in}
use Rattle.h5_laws.proofs.Lists.{In, in_left, in_right, put_or_old}
use Rattle.h5_space.specs.Space.{Space}
use Rattle.h5_btree.specs.Exact.{AreKeysExact}
use Rattle.h5_btree.specs.Held.{AreHeldKeys}
use Rattle.h5_btree.specs.Insertion.{IsChildPut, IsPutAlong, KeepsEntries, Owns}
use Rattle.h5_btree.specs.Keyed.{IsInOrder, keys_from}
use Rattle.h5_btree.specs.Removal.{EndsInTree}
use Rattle.h5_btree.specs.Retired.{lowest_key}
use Rattle.h5_btree.specs.declared.way.Step.{Step}
use Rattle.h5_btree.proofs.KeyedComes.{ComesInAt}
use Rattle.h5_btree.proofs.KeyedExactPuts.{AreExactFor, Cuts, put_exact}
use Rattle.h5_btree.proofs.KeyedFills.{kept_keys}
use Rattle.h5_group.specs.Edited.{IsGroupIn}
use Rattle.h5_group.specs.Exact.{AreSymbolsFilled, HasKeysFor}
use Rattle.h5_group.specs.Nodes.Trees.{kind_in}
use Rattle.h5_group.specs.Retired.{entry_keys, name_keys}
use Rattle.h5_group.specs.Split.{AreHalves}
use Rattle.h5_group.proofs.ExactTrees.{keeps_kept}
use Rattle.h5_group.proofs.NameKeys.{keys_in_order, lowest_empty, name_low}
use Rattle.h5_group.proofs.NameTests.{name_test}
use Rattle.h5_group.proofs.NewKeys.{each_keyed, exact_for, key_put, new_above, new_low, new_text, of_names}
use Rattle.h5_group.proofs.SplitFrames.{left_says, nodes_kept, others_same, right_says}
use Rattle.h5_group.proofs.SplitOrder.{admits as lets_through, cut, end_back, end_front, end_node, ends_then, halves_grown, key_lies, split_nodes, way_same, x_lies}
use Rattle.h5_group.proofs.ToldLaws.{symbol_nodes_are_told}

module _ (s u t : Space) (table : SymbolTable) (links : List (List ℕ × Target)) (spare : List ℕ) (blocks : List Block)
    (group : IsGroupIn s table links spare blocks) (way : List Step) (k : ℕ)
    (ends : EndsInTree s (kind_in s.bytes) table.tree (group.linked).level way (group.linked).owned (group.linked).symbol_nodes k)
    (new : ℕ) (left right : List Entry)
    (halves : AreHalves s u (leaf_k s.bytes) (get_or (node_at s.bytes (kind_in s.bytes) (ends.step).node).children (ends.step).place 0) new left right)
    (short : length u.bytes < 2 ^ 64) where
  abbrev kind : Kind
  kind = kind_in s.bytes

  abbrev l : ℕ
  l = leaf_k s.bytes

  abbrev root : ℕ
  root = table.tree

  abbrev level : ℕ
  level = (group.linked).level

  abbrev own : List ℕ
  own = (group.linked).owned

  abbrev listed : List ℕ
  listed = (group.linked).symbol_nodes

  abbrev here : ℕ
  here = end_node s u t table links spare blocks group way k ends new left right halves short

  abbrev front : List ℕ
  front = end_front s u t table links spare blocks group way k ends new left right halves short

  abbrev back : List ℕ
  back = end_back s u t table links spare blocks group way k ends new left right halves short

  list_cut : listed ≡ front ++ here ∷ back
  list_cut = cut s u t table links spare blocks group way k ends new left right halves short

  -- no node has changed yet
  keeps : (n : ℕ) → Owns own n → KeepsEntries s.bytes u.bytes kind n
  keeps = keeps_kept s.bytes u.bytes kind own (nodes_kept s u table links spare blocks group here new front back list_cut left right halves)

  module _ (height : ℕ) (all : List ℕ) (put : IsChildPut u t kind root height (split_nodes s u t table links spare blocks group way k ends new left right halves short) own all) (keys : List ℕ)
      (along : IsPutAlong u.bytes t.bytes kind (ends.step).node ends.above ((ends.step).place + 1) keys new)
      (others : (n : ℕ) → Owns own n → AllByRecursion (λ (step : Step). n ≢ step.node) way → KeepsEntries u.bytes t.bytes kind n)
      (held : AreHeldKeys u.bytes kind (λ key next. is_le (slice_cmp nat_cmp (key_text (segment_of s.bytes table.heap) key) (key_text (segment_of s.bytes table.heap) next)))
      (ends.step).node ends.above ((ends.step).place + 1) keys)
      (e : Entry) (xs ys lf : List Entry) (le : Entry) (was : symbols_at s.bytes (leaf_k s.bytes) (end_node s u t table links spare blocks group way k ends new left right halves short) ≡ xs ++ ys) (halved : left ++ right ≡ xs ++ e ∷ ys) (last : left ≡ lf ++ le ∷ [])
      (key_is : offset_in (take 8 keys) ≡ le.name)
      (above : AllByRecursion (λ other. Before other (text_at (segment_of s.bytes table.heap) e.name)) (map (λ (o : Entry). text_at (segment_of s.bytes table.heap) o.name) xs))
      (below : AllByRecursion (Before (text_at (segment_of s.bytes table.heap) e.name)) (map (λ (o : Entry). text_at (segment_of s.bytes table.heap) o.name) ys))
      (between : AllByRecursion (λ (step : Step). IsBetween (segment_of s.bytes table.heap) (node_at s.bytes (kind_in s.bytes) step.node) step.place (text_at (segment_of s.bytes table.heap) e.name)) way)
      (key_word : take 8 keys ≡ word le.name) (some_right : 1 ≤ length right) (spared : In e.name spare)
      (named : IsTrue (is_name (text_at (segment_of s.bytes table.heap) e.name))) where
    abbrev segment : List ℕ
    segment = segment_of s.bytes table.heap

    abbrev text : List ℕ → List ℕ
    text = key_text segment

    abbrev x : List ℕ
    x = word e.name

    abbrev key : List ℕ
    key = take 8 keys

    abbrev name_of : Entry → List ℕ
    name_of o = text_at segment o.name

    abbrev keys_was : ℕ → List (List ℕ)
    keys_was c = entry_keys l s.bytes c

    abbrev keys_now : ℕ → List (List ℕ)
    keys_now c = entry_keys l t.bytes c

    -- ---- what stands at each child

    others_are : AllByRecursion (λ at. symbols_at t.bytes l at ≡ symbols_at s.bytes l at) (front ++ back)
    others_are = others_same s u table links spare blocks group here new front back list_cut left right halves t height all put

    left_is : symbols_at t.bytes l here ≡ left
    left_is = left_says s u table links spare blocks group here new front back list_cut left right halves t height all put

    right_is : symbols_at t.bytes l new ≡ right
    right_is = right_says s u table links spare blocks group here new front back list_cut left right halves t height all put

    same : AllByRecursion (λ c. (i : List ℕ) → keys_now c ≡ keys_was c) (remove listed k)
    same = all_so (λ at. symbols_at t.bytes l at ≡ symbols_at s.bytes l at) (λ c. (i : List ℕ) → keys_now c ≡ keys_was c) (front ++ back) (λ c is i. ap name_keys is) others_are

    low_old : (o : Entry) → In o (xs ++ ys) → o.name < 2 ^ 64
    low_old o at =
        let in_list : In here listed = subst (In here) (sym list_cut) (in_right here front (here ∷ back) (inl refl)) in
        name_low s table links spare blocks group here in_list o (subst (In o) (sym was) at)

    low_all : (o : Entry) → In o (left ++ right) → o.name < 2 ^ 64
    low_all o at = elim (put_or_old o e xs ys (subst (In o) halved at)) [
      | inl is ↦ subst (λ (n : ℕ). n < 2 ^ 64) (ap (λ (d : Entry). d.name) (sym is)) (new_low s table links spare blocks group e spared named)
      | inr old ↦ low_old o old
    ]

    same_text : text x ≡ name_of e
    same_text = new_text s table links spare blocks group e spared named

    empty : text lowest_key ≡ []
    empty = lowest_empty s table links spare blocks group

    over : Before [] (text x)
    over = new_above s table links spare blocks group e spared named

    -- ---- the new half comes in

    abbrev IsCut : List (List ℕ) → List (List ℕ) → List (List ℕ) → Type 0
    IsCut b a c = Cuts text empty x over b (Two a key c)

    is_cut : IsCut (keys_was here) (keys_now here) (keys_now new)
    is_cut =
        let grown = halves_grown s u t table links spare blocks group way k ends new left right halves short height all put keys along others held e xs ys lf le was halved last key_is above below between in
        let lefts = of_names s table links spare blocks group (λ n. NotAfter n (text key)) left (λ o at. low_all o (in_left o left right at)) grown.2 in
        let rights = of_names s table links spare blocks group (Before (text key)) right (λ o at. low_all o (in_right o left right at)) grown.3 in
        let put_names = key_put s table links spare blocks group e spared named xs ys low_old above below in
        let Put : List (List ℕ) → List (List ℕ) → Type 0 = IsPut (λ (y z : List ℕ). Before (text y) (text z)) x in
        let puts : Put (name_keys (xs ++ ys)) (name_keys left ++ name_keys right)
        = subst (Put (name_keys (xs ++ ys))) (ap name_keys (sym halved) ∙ map-append (λ (o : Entry). word o.name) left right) put_names in
        let ends_so : name_keys left ≡ name_keys lf ++ key ∷ []
        = ap name_keys last ∙ map-append (λ (o : Entry). word o.name) lf (le ∷ []) ∙ ap (λ (i : List ℕ). name_keys lf ++ i ∷ []) (sym key_word) in
        let more : name_keys right ≡ [] → ⊥ = λ none. long_keys right some_right none in
        subst (λ (b : List (List ℕ)). IsCut b (keys_now here) (keys_now new)) (ap name_keys (sym was))
        (subst (λ (a : List (List ℕ)). IsCut (name_keys (xs ++ ys)) a (keys_now new)) (ap name_keys (sym left_is))
        (subst (λ (c : List (List ℕ)). IsCut (name_keys (xs ++ ys)) (name_keys left) c) (ap name_keys (sym right_is))
        ((tt, tt, lefts, rights, puts), more, (name_keys lf, ends_so))))
      where
        long_keys : (es : List Entry) → 1 ≤ length es → name_keys es ≡ [] → ⊥
        long_keys [] long none = omega (arith, long)
        long_keys (o ∷ es) long none = cc

    abbrev p : ℕ
    p = (ends.step).node

    abbrev Comes : Node → Type 0
    Comes o = ComesInAt (key_sides text) (λ (b : List (List ℕ)). b) (λ (b : List (List ℕ)). ⊤) (Cuts text empty x over) x lowest_key x (key_let_in text x lowest_key empty over)
        (λ i next. is_le (slice_cmp nat_cmp (text i) (text next))) true (λ i c. keys_was c) (λ i c. keys_now c) o.keys o.children (ends.step).place key new

    lies : (kk jj : List ℕ) → Before (text kk) (name_of e) × NotAfter (name_of e) (text jj) → Before (text kk) (text x) × NotAfter (text x) (text jj)
    lies kk jj is = subst (λ (n : List ℕ). Before (text kk) n × NotAfter n (text jj)) (sym same_text) is

    comes : Comes (node_at u.bytes kind p)
    comes =
        let here_lies = lies _ _ (x_lies s u t table links spare blocks group way k ends new left right halves short height all put keys along others held e xs ys lf le was halved last key_is above below between) in
        let held_so = key_lies s u t table links spare blocks group way k ends new left right halves short height all put keys along others held e xs ys lf le was halved last key_is above below between in
        subst Comes (sym (way_same s u t table links spare blocks group way k ends new left right halves short height all put keys along others held e xs ys lf le was halved last key_is above below between).0) (here_lies.0, here_lies.1, (key, is_cut, inr (inr (refl, held_so.0, held_so.1))))

    admit : AllByRecursion (λ (st : Step). Before (text (get_or (node_at u.bytes kind st.node).keys st.place [])) (text x)
        × NotAfter (text x) (text (get_or (node_at u.bytes kind st.node).keys (suc st.place) []))) ends.above
    admit = all_so
        (λ (st : Step). Before (text (get_or (node_at u.bytes kind st.node).keys st.place [])) (name_of e)
        × NotAfter (name_of e) (text (get_or (node_at u.bytes kind st.node).keys (suc st.place) [])))
        (λ (st : Step). Before (text (get_or (node_at u.bytes kind st.node).keys st.place [])) (text x)
        × NotAfter (text x) (text (get_or (node_at u.bytes kind st.node).keys (suc st.place) []))) ends.above
        (λ st is. lies (get_or (node_at u.bytes kind st.node).keys st.place []) (get_or (node_at u.bytes kind st.node).keys (suc st.place) []) is) (lets_through s u t table links spare blocks group way k ends new left right halves short height all put keys along others held e xs ys lf le was halved last key_is above below between).1

    -- ---- the tree before

    tree_same : keys_from (node_at u.bytes kind) (λ i c. keys_was c) level root ≡ keys_from (node_at s.bytes kind) (λ i c. keys_was c) level root
    tree_same = kept_keys s.bytes u.bytes kind root level own listed (group.linked).tree keeps (λ i c. keys_was c)

    sorted : IsInOrder (key_sides text) (λ (b : List (List ℕ)). b) (λ (b : List (List ℕ)). ⊤) u.bytes kind (λ i c. keys_was c) level root
    sorted = subst (IsSorted (key_sides text) (λ (b : List (List ℕ)). b) (λ (b : List (List ℕ)). ⊤) (suc level)) (sym tree_same) (keys_in_order s table links spare blocks group)

    ready : HasKeysFor e.name s.bytes table → AreExactFor text empty x over (node_at u.bytes kind) keys_was level root
    ready has = subst (IsExactFor (key_sides text) x (λ (i : List ℕ). i) lowest_key (λ (b : List (List ℕ)). b) (suc level) None) (sym tree_same)
        (exact_for s table links spare blocks group e spared named has)

    -- THE KEYS ARE EXACT
    pub split_exact : HasKeysFor e.name s.bytes table → AreKeysExact (λ i. ⊥) keys_now (node_at t.bytes kind) height root
    split_exact has =
        put_exact text empty x over u kind root level way own listed k (ends_then s u t table links spare blocks group way k ends new left right halves short) group.some keys_was keys_now (each_keyed s table links spare blocks group has.filled) same admit
        t true keys new along others (λ i next. is_le (slice_cmp nat_cmp (text i) (text next))) held comes height all (split_nodes s u t table links spare blocks group way k ends new left right halves short) put.tree (name_test segment) sorted (ready has)

    -- and each symbol node has an entry
    pub split_filled : 1 ≤ length left → AreSymbolsFilled s.bytes table → AllByRecursion (λ at. 1 ≤ length (symbols_at t.bytes l at)) (split_nodes s u t table links spare blocks group way k ends new left right halves short)
    split_filled some_left filled =
        let Q : ℕ → Type 0 = λ at. 1 ≤ length (symbols_at s.bytes l at) in
        let P : ℕ → Type 0 = λ at. 1 ≤ length (symbols_at t.bytes l at) in
        let Same : ℕ → Type 0 = λ at. symbols_at t.bytes l at ≡ symbols_at s.bytes l at in
        let old = subst (AllByRecursion Q) (sym (symbol_nodes_are_told s.bytes table links blocks group.linked) ∙ list_cut) filled in
        let one : (at : ℕ) → Same at × Q at → P at = λ at both. subst (λ (es : List Entry). 1 ≤ length es) (sym both.0) both.1 in
        all_append P front (here ∷ new ∷ back)
        (all_so (λ at. Same at × Q at) P front one (all_both Same Q front (all_left Same front back others_are) (all_left Q front (here ∷ back) old))) (
          subst (λ (es : List Entry). 1 ≤ length es) (sym left_is) some_left,
          (
            subst (λ (es : List Entry). 1 ≤ length es) (sym right_is) some_right,
            all_so (λ at. Same at × Q at) P back one (all_both Same Q back (all_right Same front back others_are) (all_right Q front (here ∷ back) old).1),
          ),
        )
