-- The new half of a symbol node that was cut in two comes into the tree, with the key between the halves: the group's nodes are ordered, its
-- names are those of before with the new one in its place, and its keys name what they may (File Format Specification 3.0, sections III.A.1
-- and III.B).
use Rattle.std.proofs.Common.{◌≡◌, ◌≢◌, inl, inr, ℕ, suc, ◌+◌, ◌^◌, ◌<◌, Bool, true, List, [], ◌∷◌, ◌++◌, map, length, get_or, take, drop, refl, sym, ap, ◌∙◌, subst, arith, append-nil}
use Rattle.std.specs.Bool.{⊤}
use Rattle.std.specs.Cmp.Lexicographic.{slice_cmp}
use Rattle.std.specs.Ordering.{is_le, nat_cmp}
use Rattle.std.specs.List.{AllByRecursion, flat_map, remove}
use Rattle.std.proofs.lemmas.List.{append_assoc, map-append}
use Rattle.h5_bytes.specs.Texts.{text_at}
use Rattle.h5_bytes.specs.declared.Block.{Block}
use Rattle.h5_bytes.proofs.BlockLaws.{all_append, all_left, all_right, all_so}
use Rattle.h5_model.specs.Format.Addresses.{SymbolTable}
use Rattle.h5_model.specs.Format.Superblock.{leaf_k}
use Rattle.h5_model.specs.Format.Heap.{segment_of}
use Rattle.h5_model.specs.Format.Links.{Before, IsBetween, IsOrdered, NotAfter, Symbols, key_offsets, names_in, offset_in}
use Rattle.h5_model.specs.Format.Nodes.{HasTree, Kind, node_at, reading_of}
use Rattle.h5_model.specs.Format.Rows.{Node, Reading}
use Rattle.h5_model.specs.Format.Symbols.{Entry, Target, symbols_at, symbols_of}
use Rattle.h5_model.proofs.Frames.{reading-same}
use Rattle.h5_model.proofs.RowLaws.{at_listed, only_here}
use Rattle.h5_laws.specs.KeyEdits.{IsPut, IsHeld, LetIn, Two}
use Rattle.h5_laws.specs.NameLadders.{key_text, name_lists, name_sides}
use Rattle.h5_laws.proofs.KeyInstances.{name_parts, name_through}
use Rattle.h5_laws.proofs.NameLadders.{name_order, names_under}
use Rattle.h5_space.specs.Space.{Space}
use Rattle.h5_space.proofs.AddressLaws.{all_at}
use Rattle.h5_btree.specs.Held.{AreHeldKeys}
use Rattle.h5_btree.specs.Insertion.{IsChildPut, IsPutAlong, KeepsEntries, Owns}
use Rattle.h5_btree.specs.Keyed.{AtChild, IsInOrder, items_of_tree}
use Rattle.h5_btree.specs.Removal.{EndsInTree}
use Rattle.h5_btree.specs.declared.way.Step.{Step}
use Rattle.h5_btree.proofs.ClimbSteps.{undefined_free}
use Rattle.h5_btree.proofs.KeyedForms.{group_in_order, group_ordered, names_at_child, names_bottom}
use Rattle.h5_btree.proofs.KeyedKeys.{put_known}
use Rattle.h5_btree.proofs.KeyedNames.{AreAscending, IsNameGrown, ascending_left, ascending_right}
use Rattle.h5_btree.proofs.KeyedOrder.{items-tree}
use Rattle.h5_btree.proofs.KeyedOwn.{keys_count}
use Rattle.h5_btree.proofs.KeyedPuts.{ComesIn, IsCutIn, put_sorted}
use Rattle.h5_btree.proofs.RowEdits.{level_here}
use Rattle.h5_btree.proofs.TreeReadings.{Listed, owned_at, owned_of_level}
use Rattle.h5_group.specs.Edited.{IsGroupIn}
use Rattle.h5_group.specs.Nodes.Trees.{kind_in}
use Rattle.h5_group.specs.Split.{AreHalves}
use Rattle.h5_group.proofs.LinkLists.{all_taken, ascend_names, link_names, names_of_links}
use Rattle.h5_group.proofs.EntryWays.{below_kept, end_cut, place_low}
use Rattle.h5_group.proofs.NameTests.{name_test}
use Rattle.h5_group.proofs.SplitFrames.{ends_still, left_says, nodes_kept, old_flat, others_same, right_says, tree_apart}
use Rattle.h5_group.proofs.SplitNames.{below_bottom, cut_grown, key_between, lets_between}

-- all names in a group's tree, from left to right
pub tree_names : (image : List ℕ) (kind : Kind) (root level : ℕ) (owned list : List ℕ) → HasTree image kind root level owned list → (S : Symbols) (segment : List ℕ)
    → items_of_tree (λ (b : List (List ℕ)). b) image kind (names_at_child S segment) level root ≡ names_in S segment list
tree_names image kind root level owned list has S segment =
    items-tree (name_sides (key_text segment)) (λ (b : List (List ℕ)). b) (λ (b : List (List ℕ)). ⊤) (names_at_child S segment) image kind root level owned list has
    (name_lists S segment) (names_bottom image kind owned S segment)
    ∙ names_under (reading_of image kind owned) S segment level root ∙ ap (names_in S segment) (sym has.all)

-- two facts give a third
all_three : {X : Type 0} (P Q R Z : X → Type 0) → ((x : X) → P x → Q x → R x → Z x) → (xs : List X) → AllByRecursion P xs → AllByRecursion Q xs → AllByRecursion R xs
    → AllByRecursion Z xs
all_three P Q R Z so [] p q r = tt
all_three P Q R Z so (x ∷ xs) p q r = (so x p.0 q.0 r.0, all_three P Q R Z so xs p.1 q.1 r.1)

-- the offsets in the keys of nodes
map_all : (P : ℕ → Type 0) (keys : List (List ℕ)) → AllByRecursion P (map offset_in keys) → AllByRecursion (λ (k : List ℕ). P (offset_in k)) keys
map_all P [] all = tt
map_all P (k ∷ keys) all = (all.0, map_all P keys all.1)

all_map : (P : ℕ → Type 0) (keys : List (List ℕ)) → AllByRecursion (λ (k : List ℕ). P (offset_in k)) keys → AllByRecursion P (map offset_in keys)
all_map P [] all = tt
all_map P (k ∷ keys) all = (all.0, all_map P keys all.1)

keys_each : (P : ℕ → Type 0) (V : Reading) (owned : List ℕ) → AllByRecursion P (key_offsets V owned) → AllByRecursion (λ n. AllByRecursion (λ (k : List ℕ). P (offset_in k)) (V n).keys) owned
keys_each P V [] all = tt
keys_each P V (n ∷ owned) all = (map_all P (V n).keys (all_left P (map offset_in (V n).keys) (key_offsets V owned) all), keys_each P V owned (all_right P (map offset_in (V n).keys) (key_offsets V owned) all))

each_keys : (P : ℕ → Type 0) (V : Reading) (owned : List ℕ) → AllByRecursion (λ n. AllByRecursion (λ (k : List ℕ). P (offset_in k)) (V n).keys) owned → AllByRecursion P (key_offsets V owned)
each_keys P V [] all = tt
each_keys P V (n ∷ owned) all = all_append P (map offset_in (V n).keys) (key_offsets V owned) (all_map P (V n).keys all.0) (each_keys P V owned all.1)

module _ (s u t : Space) (table : SymbolTable) (links : List (List ℕ × Target)) (spare : List ℕ) (blocks : List Block)
    (group : IsGroupIn s table links spare blocks) (way : List Step) (k : ℕ)
    (ends : EndsInTree s (kind_in s.bytes) table.tree (group.linked).level way (group.linked).owned (group.linked).symbol_nodes k)
    (new : ℕ) (left right : List Entry)
    (halves : AreHalves s u (leaf_k s.bytes) (get_or (node_at s.bytes (kind_in s.bytes) (ends.step).node).children (ends.step).place 0) new left right)
    (short : length u.bytes < 2 ^ 64) where
  abbrev kind : Kind
  kind = kind_in s.bytes

  abbrev l : ℕ
  l = leaf_k s.bytes

  abbrev root : ℕ
  root = table.tree

  abbrev level : ℕ
  level = (group.linked).level

  abbrev own : List ℕ
  own = (group.linked).owned

  abbrev listed : List ℕ
  listed = (group.linked).symbol_nodes

  abbrev pub end_node : ℕ
  end_node = get_or (node_at s.bytes (kind_in s.bytes) (ends.step).node).children (ends.step).place 0

  abbrev pub end_front : List ℕ
  end_front = take k (group.linked).symbol_nodes

  abbrev pub end_back : List ℕ
  end_back = drop (suc k) (group.linked).symbol_nodes

  pub cut : listed ≡ end_front ++ end_node ∷ end_back
  cut = end_cut s kind root level way own listed k ends

  -- the way ends in the tree still
  abbrev pub ends_then : EndsInTree u kind root level way own listed k
  ends_then = ends_still s u kind root level way own listed k ends
      (nodes_kept s u table links spare blocks group end_node new end_front end_back cut left right halves)
      (tree_apart s u table links spare blocks group end_node new end_front end_back cut left right halves) short

  abbrev pub split_nodes : List ℕ
  split_nodes = end_front ++ end_node ∷ new ∷ end_back

  module _ (height : ℕ) (all : List ℕ) (put : IsChildPut u t kind root height split_nodes own all) (keys : List ℕ)
      (along : IsPutAlong u.bytes t.bytes kind (ends.step).node ends.above ((ends.step).place + 1) keys new)
      (others : (n : ℕ) → Owns own n → AllByRecursion (λ (step : Step). n ≢ step.node) way → KeepsEntries u.bytes t.bytes kind n)
      (held : AreHeldKeys u.bytes kind (λ key next. is_le (slice_cmp nat_cmp (key_text (segment_of s.bytes table.heap) key) (key_text (segment_of s.bytes table.heap) next)))
      (ends.step).node ends.above ((ends.step).place + 1) keys)
      (e : Entry) (xs ys lf : List Entry) (le : Entry) (was : symbols_at s.bytes (leaf_k s.bytes) end_node ≡ xs ++ ys) (halved : left ++ right ≡ xs ++ e ∷ ys) (last : left ≡ lf ++ le ∷ [])
      (key_is : offset_in (take 8 keys) ≡ le.name)
      (above : AllByRecursion (λ other. Before other (text_at (segment_of s.bytes table.heap) e.name)) (map (λ (o : Entry). text_at (segment_of s.bytes table.heap) o.name) xs))
      (below : AllByRecursion (Before (text_at (segment_of s.bytes table.heap) e.name)) (map (λ (o : Entry). text_at (segment_of s.bytes table.heap) o.name) ys))
      (between : AllByRecursion (λ (step : Step). IsBetween (segment_of s.bytes table.heap) (node_at s.bytes (kind_in s.bytes) step.node) step.place (text_at (segment_of s.bytes table.heap) e.name)) way) where
    abbrev segment : List ℕ
    segment = segment_of s.bytes table.heap

    abbrev x : List ℕ
    x = text_at segment e.name

    abbrev key : List ℕ
    key = take 8 keys

    abbrev text : List ℕ → List ℕ
    text = key_text segment

    abbrev follows : List ℕ → List ℕ → Bool
    follows = λ key next. is_le (slice_cmp nat_cmp (key_text segment key) (key_text segment next))

    abbrev name_of : Entry → List ℕ
    name_of o = text_at segment o.name

    abbrev f : Symbols
    f = symbols_at s.bytes l

    abbrev g : Symbols
    g = symbols_at t.bytes l

    abbrev F : Symbols
    F = symbols_of s.bytes l listed

    abbrev G : Symbols
    G = symbols_of t.bytes l split_nodes

    abbrev at_was : AtChild (List (List ℕ))
    at_was = names_at_child F segment

    abbrev at_now : AtChild (List (List ℕ))
    at_now = names_at_child G segment

    -- ---- what stands at each child

    old_reads : AllByRecursion (λ n. f n ≡ F n) (end_front ++ end_node ∷ end_back)
    old_reads = subst (AllByRecursion (λ n. f n ≡ F n)) cut (only_here [] f listed)

    new_reads : AllByRecursion (λ n. g n ≡ G n) (end_front ++ end_node ∷ new ∷ end_back)
    new_reads = only_here [] g split_nodes

    same : AllByRecursion (λ c. (key : List ℕ) → at_now key c ≡ at_was key c) (remove listed k)
    same = all_three (λ n. f n ≡ F n) (λ n. g n ≡ G n) (λ n. g n ≡ f n) (λ c. (key : List ℕ) → at_now key c ≡ at_was key c)
        (λ n a b c key. ap (λ (es : List Entry). map name_of (es ++ [])) (sym b ∙ c ∙ a)) (end_front ++ end_back)
        (all_taken (λ n. f n ≡ F n) end_front end_node end_back old_reads)
        (all_taken (λ n. g n ≡ G n) end_front new end_back (all_taken (λ n. g n ≡ G n) end_front end_node (new ∷ end_back) new_reads))
        (others_same s u table links spare blocks group end_node new end_front end_back cut left right halves t height all put)

    at_old : names_in F segment (end_node ∷ []) ≡ map name_of (xs ++ ys)
    at_old = ap (map name_of) (append-nil (F end_node) ∙ sym (all_right (λ n. f n ≡ F n) end_front (end_node ∷ end_back) old_reads).0 ∙ was)

    at_left : names_in G segment (end_node ∷ []) ≡ map name_of left
    at_left = ap (map name_of) (append-nil (G end_node) ∙ sym (all_right (λ n. g n ≡ G n) end_front (end_node ∷ new ∷ end_back) new_reads).0
        ∙ left_says s u table links spare blocks group end_node new end_front end_back cut left right halves t height all put)

    at_right : names_in G segment (new ∷ []) ≡ map name_of right
    at_right = ap (map name_of) (append-nil (G new) ∙ sym (all_right (λ n. g n ≡ G n) end_front (end_node ∷ new ∷ end_back) new_reads).1.0
        ∙ right_says s u table links spare blocks group end_node new end_front end_back cut left right halves t height all put)

    -- ---- the names ascend, and lie between the keys around the symbol node

    all_rising : AreAscending (names_in F segment listed)
    all_rising = subst AreAscending (ap link_names (group.linked).listed.all ∙ names_of_links segment (flat_map F listed)) (ascend_names links (group.linked).listed.ascending)

    here_rising : AreAscending (map name_of (xs ++ ys))
    here_rising =
        let a = flat_map f end_front in
        let b = flat_map f end_back in
        let flat : flat_map F listed ≡ (a ++ xs) ++ (ys ++ b)
        = old_flat s u table links spare blocks group end_node new end_front end_back cut left right halves t height all put e xs ys was halved in
        let cut_flat : flat_map F listed ≡ a ++ ((xs ++ ys) ++ b) = flat ∙ append_assoc a xs (ys ++ b) ∙ ap (λ (es : List Entry). a ++ es) (sym (append_assoc xs ys b)) in
        let names = subst AreAscending (ap (map name_of) cut_flat ∙ map-append name_of a ((xs ++ ys) ++ b)) all_rising in
        ascending_left (map name_of (xs ++ ys)) (map name_of b)
        (subst AreAscending (map-append name_of (xs ++ ys) b) (ascending_right (map name_of a) (map name_of ((xs ++ ys) ++ b)) names))

    abbrev Y : Reading
    Y = reading_of s.bytes kind own

    abbrev p : ℕ
    p = (ends.step).node

    abbrev i : ℕ
    i = (ends.step).place

    abbrev kk : List ℕ
    kk = get_or (node_at s.bytes kind p).keys i []

    abbrev jj : List ℕ
    jj = get_or (node_at s.bytes kind p).keys (suc i) []

    p_level : (Y p).level ≡ 0
    p_level = level_here Y 0 p ends.front ends.back (omega arith) (undefined_free s kind own ends.apart ends.short) ends.row

    p_listed : Listed own p
    p_listed = owned_of_level (node_at s.bytes kind) own p (let h = p_level in omega (arith, h))

    p_is : Y p ≡ node_at s.bytes kind p
    p_is = owned_at (node_at s.bytes kind) own p p_listed

    abbrev Lies : List ℕ → Type 0
    Lies name = Before (text kk) name × NotAfter name (text jj)

    abbrev LiesAt : Node → List ℕ → Type 0
    LiesAt o name = IsBetween segment o i name

    next : i + 1 ≡ suc i
    next = omega arith

    lies_here : (name : List ℕ) → IsBetween segment (node_at s.bytes kind p) i name → Lies name
    lies_here name is = (is.0, subst (λ (j : ℕ). NotAfter name (text (get_or (node_at s.bytes kind p).keys j []))) next is.1)

    old_between : AllByRecursion Lies (map name_of (xs ++ ys))
    old_between =
        let ordered = at_listed (λ n. IsOrdered Y F segment (Y n)) own p (group.linked).listed.ordered p_listed in
        let all_names = ordered.between i ends.place in
        let at_child : AllByRecursion (LiesAt (Y p)) (names_in F segment (get_or (Y p).children i 0 ∷ []))
        = subst (λ (ns : List ℕ). AllByRecursion (LiesAt (Y p)) (names_in F segment ns)) (below_bottom Y (Y p) i p_level) all_names in
        let there : AllByRecursion (LiesAt (node_at s.bytes kind p)) (names_in F segment (end_node ∷ []))
        = subst (λ (o : Node). AllByRecursion (LiesAt o) (names_in F segment (get_or o.children i 0 ∷ []))) p_is at_child in
        all_so (LiesAt (node_at s.bytes kind p)) Lies (map name_of (xs ++ ys)) lies_here (subst (AllByRecursion (LiesAt (node_at s.bytes kind p))) at_old there)

    own_between : AllByRecursion (λ (step : Step). IsBetween segment (node_at s.bytes kind step.node) step.place x) (ends.step ∷ ends.above)
    own_between = subst (AllByRecursion (λ (step : Step). IsBetween segment (node_at s.bytes kind step.node) step.place x)) ends.way_is between

    pub x_lies : Lies x
    x_lies = lies_here x own_between.0

    pub key_lies : NotAfter (text kk) (text key) × NotAfter (text key) (text jj)
    key_lies = key_between segment e xs ys lf le left right halved last above below key key_is kk jj old_between x_lies

    -- ---- the nodes on the way read as before the cut

    pub way_same : AllByRecursion (λ (step : Step). node_at u.bytes kind step.node ≡ node_at s.bytes kind step.node) (ends.step ∷ ends.above)
    way_same = subst (AllByRecursion (λ (step : Step). node_at u.bytes kind step.node ≡ node_at s.bytes kind step.node)) ends.way_is
        (below_kept s kind root level way own listed k ends u (nodes_kept s u table links spare blocks group end_node new end_front end_back cut left right halves))

    abbrev Admits : Step → Type 0
    Admits st = Before (text (get_or (node_at u.bytes kind st.node).keys st.place [])) x × NotAfter x (text (get_or (node_at u.bytes kind st.node).keys (suc st.place) []))

    admit : (st : Step) → IsBetween segment (node_at s.bytes kind st.node) st.place x → node_at u.bytes kind st.node ≡ node_at s.bytes kind st.node → ⊤ → Admits st
    admit st is read top =
        let more : st.place + 1 ≡ suc st.place = omega arith in
        subst (λ (o : Node). Before (text (get_or o.keys st.place [])) x × NotAfter x (text (get_or o.keys (suc st.place) []))) (sym read)
        (is.0, subst (λ (j : ℕ). NotAfter x (text (get_or (node_at s.bytes kind st.node).keys j []))) more is.1)

    all_top : (steps : List Step) → AllByRecursion (λ (st : Step). ⊤) steps
    all_top [] = tt
    all_top (st ∷ steps) = (tt, all_top steps)

    pub admits : AllByRecursion Admits (ends.step ∷ ends.above)
    admits = all_three (λ (st : Step). IsBetween segment (node_at s.bytes kind st.node) st.place x) (λ (st : Step). node_at u.bytes kind st.node ≡ node_at s.bytes kind st.node)
        (λ (st : Step). ⊤) Admits admit (ends.step ∷ ends.above) own_between way_same (all_top (ends.step ∷ ends.above))

    -- ---- the new half comes in

    abbrev Id : List (List ℕ) → List (List ℕ)
    Id = λ b. b

    abbrev Top : List (List ℕ) → Type 0
    Top = λ b. ⊤

    lets : LetIn (name_sides text) x kk jj
    lets = lets_between text x kk jj x_lies.0 x_lies.1

    abbrev Cut : List (List ℕ) → List (List ℕ) → List (List ℕ) → Type 0
    Cut b a c = IsCutIn (name_sides text) (name_order text) Before (name_through text) (name_parts text) Id Top x kk jj lets follows b a key c

    -- the names left and right of the key between the halves
    pub halves_grown : IsNameGrown text x (map name_of (xs ++ ys)) (Two (map name_of left) key (map name_of right))
    halves_grown = cut_grown segment e xs ys lf le left right halved last above below key key_is here_rising

    is_cut : Cut (names_in F segment (end_node ∷ [])) (names_in G segment (end_node ∷ [])) (names_in G segment (new ∷ []))
    is_cut =
        let grown = halves_grown in
        subst (λ (b : List (List ℕ)). Cut b (names_in G segment (end_node ∷ [])) (names_in G segment (new ∷ []))) (sym at_old)
        (subst (λ (a : List (List ℕ)). Cut (map name_of (xs ++ ys)) a (names_in G segment (new ∷ []))) (sym at_left)
        (subst (λ (c : List (List ℕ)). Cut (map name_of (xs ++ ys)) (map name_of left) c) (sym at_right) (tt, tt, grown.2, grown.3, grown.4)))

    abbrev Comes : Node → Type 0
    Comes o = ComesIn (name_sides text) (name_order text) Before (name_through text) (name_parts text) Id Top x kk jj lets follows true at_was at_now o.keys o.children i key new

    comes : Comes (node_at u.bytes kind p)
    comes = subst Comes (sym way_same.0) (x_lies.0, x_lies.1, (key, is_cut, inr (inr (refl, key_lies.0, key_lies.1))))

    ordered_then : IsInOrder (name_sides text) Id Top u.bytes kind at_was level root
    ordered_then = group_in_order u.bytes kind root level own listed ends_then.tree F segment
        (subst (λ (v : Reading). AllByRecursion (λ n. IsOrdered v F segment (v n)) own)
        (sym (reading-same s.bytes u.bytes kind own (nodes_kept s u table links spare blocks group end_node new end_front end_back cut left right halves)))
        (group.linked).listed.ordered)

    sorted : IsInOrder (name_sides text) Id Top t.bytes kind at_now height root
        × IsPut Before x (items_of_tree Id u.bytes kind at_was level root) (items_of_tree Id t.bytes kind at_now height root)
    sorted = put_sorted (name_sides text) (name_order text) Before (name_through text) (name_parts text) Id Top x kk jj lets follows
        u t kind root level way own listed k ends_then group.some true keys new along others held at_was at_now same comes admits.1 height all split_nodes put.tree
        (inl (name_test segment)) ordered_then

    -- THE NODES ARE ORDERED
    pub split_ordered : AllByRecursion (λ at. IsOrdered (reading_of t.bytes kind all) G segment (reading_of t.bytes kind all at)) all
    split_ordered = group_ordered t.bytes kind root height all split_nodes put.tree G segment sorted.0

    -- AND THE NAMES are those of before, with the new one in its place
    pub split_names : IsPut Before x (names_in F segment listed) (names_in G segment split_nodes)
    split_names = subst (λ (ns : List (List ℕ)). IsPut Before x ns (names_in G segment split_nodes)) (tree_names u.bytes kind root level own listed ends_then.tree F segment)
        (subst (IsPut Before x (items_of_tree Id u.bytes kind at_was level root)) (tree_names t.bytes kind root height all split_nodes put.tree G segment) sorted.1)

    -- AND THE KEYS name what they may, if the last entry on the left names what they may
    module _ (P : ℕ → Type 0) (known : P le.name) (old : AllByRecursion P (key_offsets (reading_of s.bytes (kind_in s.bytes) (group.linked).owned) (group.linked).owned)) where
      abbrev Knows : List ℕ → Type 0
      Knows = λ (k : List ℕ). P (offset_in k)

      old_each : AllByRecursion (λ n. AllByRecursion Knows (Y n).keys) own
      old_each = keys_each P Y own old

      p_known : AllByRecursion Knows (node_at u.bytes kind p).keys
      p_known = subst (λ (o : Node). AllByRecursion Knows o.keys) (p_is ∙ sym way_same.0) (at_listed (λ n. AllByRecursion Knows (Y n).keys) own p old_each p_listed)

      p_long : suc i < length (node_at u.bytes kind p).keys
      p_long =
          let count = keys_count u.bytes kind p in
          let low = subst (λ (o : Node). i < length o.children) (sym way_same.0) (place_low s kind root level way own listed k ends) in
          omega (arith, count, low)

      pub split_keys : AllByRecursion P (key_offsets (reading_of t.bytes kind all) all)
      split_keys = each_keys P (reading_of t.bytes kind all) all
          (put_known (name_sides text) Id Top x follows (name_test segment) Knows u t kind root level way own listed k ends_then group.some keys new along others held at_was at_now same
          admits.0.0 admits.0.1 key (subst (λ (o : Node). IsHeld (name_sides text) (get_or o.keys i []) (get_or o.keys (suc i) []) key key) (sym way_same.0) (inr (inr (refl, key_lies.0, key_lies.1))))
          (subst P (sym key_is) known) admits.1
          (all_at Knows (node_at u.bytes kind p).keys i [] p_known (let h = p_long in omega (arith, h))) (all_at Knows (node_at u.bytes kind p).keys (suc i) [] p_known p_long)
          height all split_nodes put.tree ordered_then
          (subst (λ (v : Reading). AllByRecursion (λ n. AllByRecursion Knows (v n).keys) own)
          (sym (reading-same s.bytes u.bytes kind own (nodes_kept s u table links spare blocks group end_node new end_front end_back cut left right halves))) old_each))
