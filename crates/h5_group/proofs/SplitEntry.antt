-- An entry comes into a full symbol node of a group, which is cut in two: the group has its link then (File Format Specification 3.0, sections
-- III.A.1 and III.B).
use Rattle.std.proofs.Common.{◌≡◌, ◌≢◌, ◌⊎◌, inl, inr, ℕ, zero, suc, ◌+◌, ◌*◌, ◌^◌, ◌<◌, ◌≤◌, IsTrue, List, [], ◌∷◌, ◌++◌, map, length, get_or, take, drop, refl, sym, ap, ◌∙◌, subst, arith}
use Rattle.std.specs.List.{AllByRecursion, insert, flat_map}
use Rattle.std.proofs.lemmas.List.{drop-map, length-map, take-append-drop, take-map}
use Rattle.h5_bytes.specs.Numbers.{word}
use Rattle.h5_bytes.specs.Texts.{text_at}
use Rattle.h5_bytes.specs.declared.Block.{Block}
use Rattle.h5_model.specs.Format.Addresses.{SymbolTable}
use Rattle.h5_model.specs.Format.Superblock.{leaf_k}
use Rattle.h5_model.specs.Format.Heap.{KeyNames, segment_of}
use Rattle.h5_model.specs.Format.Links.{Before, offset_in}
use Rattle.h5_model.specs.Format.Nodes.{Kind, group_kind, node_at}
use Rattle.h5_model.specs.Format.Symbols.{Entry, IsEntry, Target, link_of, symbols_at, symbols_of, texts_of}
use Rattle.h5_model.specs.Tree.Paths.{is_name}
use Rattle.h5_model.proofs.KLaws.{same_internal, same_leaf}
use Rattle.h5_model.proofs.OneTree.{level_is}
use Rattle.h5_laws.proofs.Lists.{In, contains_in, in_left, in_map, in_right, put_or_old}
use Rattle.h5_space.specs.Space.{Space}
use Rattle.h5_btree.specs.Held.{AreHeldKeys}
use Rattle.h5_btree.specs.Insertion.{IsChildPut, IsPutAlong, KeepsEntries, Owns, left_count}
use Rattle.h5_btree.specs.Removal.{EndsInTree}
use Rattle.h5_btree.specs.declared.way.Step.{Step}
use Rattle.h5_btree.proofs.HalfLists.{halves_long, left_bounds}
use Rattle.h5_btree.proofs.KeyedGrown.{insert_behind}
use Rattle.h5_btree.proofs.WayEnds.{end_listed}
use Rattle.h5_snod.specs.Names.{IsPlace, entry_names}
use Rattle.h5_group.specs.Edited.{HasEntryPut, HasGroupMoved, IsGroupIn, IsLinkPut, IsWayFor, offsets_of}
use Rattle.h5_group.specs.Exact.{HasExactKeys, HasKeysFor}
use Rattle.h5_group.specs.Nodes.Trees.{kind_in}
use Rattle.h5_group.specs.Split.{IsCutInTwo, follows_in}
use Rattle.h5_group.proofs.EntryWays.{ends_own}
use Rattle.h5_group.proofs.EntryFrames.{entries_cut}
use Rattle.h5_group.proofs.ExactTrees.{keys_so, told_so}
use Rattle.h5_group.proofs.GrownGroup.{entry_grown}
use Rattle.h5_group.proofs.MovedNames.{names_of}
use Rattle.h5_group.proofs.NameKeys.{name_low, offset_is}
use Rattle.h5_group.proofs.NewKeys.{new_low}
use Rattle.h5_group.proofs.SplitExact.{split_exact, split_filled}
use Rattle.h5_group.proofs.SplitFrames.{ahead, all_formed, all_moves, behind, new_flat, old_flat}
use Rattle.h5_group.proofs.SplitNames.{with_last}
use Rattle.h5_group.proofs.SplitOrder.{cut, ends_then, split_keys, split_names, split_ordered}
use Rattle.h5_group.proofs.LinkLists.{in_take}

pub insert_cut : {X : Type 0} (xs : List X) (j : ℕ) (x : X) → j ≤ length xs → insert xs j x ≡ take j xs ++ x ∷ drop j xs
insert_cut xs zero x low = refl
insert_cut [] (suc j) x low = absurd (omega (arith, low))
insert_cut {X} (y ∷ ys) (suc j) x low = ap (λ (zs : List X). y ∷ zs) (insert_cut ys j x (omega (arith, low)))

module _ (s u t : Space) (table : SymbolTable) (e : Entry) (j new : ℕ) (way : List Step) (w : IsWayFor s table (text_at (segment_of s.bytes table.heap) e.name) way)
    (keys : List ℕ)
    (held : (step : Step) (above : List Step) → way ≡ step ∷ above
    → AreHeldKeys u.bytes (kind_in s.bytes) (follows_in (segment_of s.bytes table.heap)) step.node above (step.place + 1) keys)
    (put : (root level k : ℕ) (owned list : List ℕ) → EndsInTree u (kind_in s.bytes) root level way owned list k
    → (height : ℕ) × (all : List ℕ) × IsChildPut u t (kind_in s.bytes) root height (insert list (k + 1) new) owned all)
    (along : (step : Step) (above : List Step) → way ≡ step ∷ above → IsPutAlong u.bytes t.bytes (kind_in s.bytes) step.node above (step.place + 1) keys new)
    (others : (root level k : ℕ) (owned list : List ℕ) → EndsInTree u (kind_in s.bytes) root level way owned list k
    → (n : ℕ) → Owns owned n → AllByRecursion (λ (step : Step). n ≢ step.node) way → KeepsEntries u.bytes t.bytes (kind_in s.bytes) n)
    (short : length u.bytes < 2 ^ 64) (small : length t.bytes < 2 ^ 63)
    (named : IsTrue (is_name (text_at (segment_of s.bytes table.heap) e.name))) (known : IsEntry e) where
  abbrev l : ℕ
  l = leaf_k s.bytes

  abbrev kind : Kind
  kind = kind_in s.bytes

  abbrev segment : List ℕ
  segment = segment_of s.bytes table.heap

  -- the symbol node at this address is full, the name has its place in it, and it was cut in two; the first key names the last name on the left
  abbrev pub IsSplitAt : ℕ → Type 0
  IsSplitAt node =
      IsPlace (entry_names (segment_of s.bytes table.heap) (symbols_at s.bytes (leaf_k s.bytes) node)) (text_at (segment_of s.bytes table.heap) e.name) j
      × (length (symbols_at s.bytes (leaf_k s.bytes) node) ≡ 2 * leaf_k s.bytes)
      × IsCutInTwo s u (leaf_k s.bytes) node j e new
      × ((front : List Entry) (last : Entry) → symbols_at u.bytes (leaf_k s.bytes) node ≡ front ++ last ∷ [] → take 8 keys ≡ word last.name)

  module _ (links : List (List ℕ × Target)) (spare : List ℕ) (blocks : List Block) (group : IsGroupIn s table links (offsets_of e ++ spare) blocks)
      (own_ends : EndsInTree s (kind_in s.bytes) table.tree (group.linked).level way (group.linked).owned (group.linked).symbol_nodes w.number)
      (here : IsSplitAt (get_or (node_at s.bytes (kind_in s.bytes) (own_ends.step).node).children (own_ends.step).place 0)) where
    abbrev own : List ℕ
    own = (group.linked).owned

    abbrev listed : List ℕ
    listed = (group.linked).symbol_nodes

    abbrev node : ℕ
    node = get_or (node_at s.bytes kind (own_ends.step).node).children (own_ends.step).place 0

    abbrev E : List Entry
    E = symbols_at s.bytes l node

    abbrev left : List Entry
    left = take (left_count l j) (insert E j e)

    abbrev right : List Entry
    right = drop (left_count l j) (insert E j e)

    abbrev name_of : Entry → List ℕ
    name_of o = text_at segment o.name

    low : j ≤ length E
    low = let h = (here.0).inside in omega (arith, h, length-map E name_of)

    was : E ≡ take j E ++ drop j E
    was = sym (take-append-drop j E)

    halved : left ++ right ≡ take j E ++ e ∷ drop j E
    halved = take-append-drop (left_count l j) (insert E j e) ∙ insert_cut E j e low

    long_left : 1 ≤ length left
    long_left =
        let some = group.leaf_some in
        let bounds = left_bounds l j in
        let long = (halves_long E l j (left_count l j) e here.1 low bounds.1).0 in
        omega (arith, long, bounds.0, some)

    last : (front : List Entry) × (o : Entry) × (left ≡ front ++ o ∷ [])
    last = with_last left long_left

    key_word : take 8 keys ≡ word (last.1).name
    key_word = here.3 last.0 last.1 ((here.2).left_says ∙ last.2)

    long_right : 1 ≤ length right
    long_right =
        let bounds = left_bounds l j in
        let long = (halves_long E l j (left_count l j) e here.1 low bounds.1).1 in
        let some = group.leaf_some in
        omega (arith, long, bounds.1, some)

    in_list : In node listed
    in_list = subst (In node) (sym (cut s u t table links (offsets_of e ++ spare) blocks group way w.number own_ends new left right here.2 short))
        (in_right node (take w.number listed) (node ∷ drop (suc w.number) listed) (inl refl))

    -- the last entry on the left is the new one, or one of before
    last_old : (last.1 ≡ e) ⊎ In last.1 (take j E ++ drop j E)
    last_old = put_or_old last.1 e (take j E) (drop j E) (subst (In last.1) (insert_cut E j e low)
        (in_take last.1 (insert E j e) (left_count l j) (subst (In last.1) (sym last.2) (in_right last.1 last.0 (last.1 ∷ []) (inl refl)))))

    key_is : offset_in (take 8 keys) ≡ (last.1).name
    key_is = ap offset_in key_word ∙ offset_is (last.1).name (elim last_old [
      | inl is ↦ subst (λ (n : ℕ). n < 2 ^ 64) (ap (λ (o : Entry). o.name) (sym is)) (new_low s table links (offsets_of e ++ spare) blocks group e (inl refl) named)
      | inr old ↦ name_low s table links (offsets_of e ++ spare) blocks group node in_list last.1 (subst (In last.1) (sym was) old)
    ])

    above : AllByRecursion (λ other. Before other (text_at segment e.name)) (map name_of (take j E))
    above = subst (AllByRecursion (λ other. Before other (text_at segment e.name))) (take-map name_of j E) (here.0).above

    below : AllByRecursion (Before (text_at segment e.name)) (map name_of (drop j E))
    below = subst (AllByRecursion (Before (text_at segment e.name))) (drop-map name_of j E) (here.0).below

    abbrev then_ends : EndsInTree u kind table.tree (group.linked).level way own listed w.number
    then_ends = ends_then s u t table links (offsets_of e ++ spare) blocks group way w.number own_ends new left right here.2 short

    abbrev nodes : List ℕ
    nodes = take w.number listed ++ node ∷ new ∷ drop (suc w.number) listed

    list_is : insert listed (w.number + 1) new ≡ nodes
    list_is =
        let more : w.number + 1 ≡ suc w.number = omega arith in
        let inside = (end_listed s kind table.tree (group.linked).level way own listed w.number own_ends).0 in
        ap (λ (i : ℕ). insert listed i new) more ∙ insert_behind listed w.number 0 new inside
        ∙ ap (λ (c : ℕ). take w.number listed ++ c ∷ new ∷ drop (suc w.number) listed) (end_listed s kind table.tree (group.linked).level way own listed w.number own_ends).1

    is_put : (height : ℕ) × (all : List ℕ) × IsChildPut u t kind table.tree height (insert listed (w.number + 1) new) own all
    is_put = put table.tree (group.linked).level w.number own listed then_ends

    abbrev height : ℕ
    height = is_put.0

    abbrev all : List ℕ
    all = is_put.1

    child_put : IsChildPut u t kind table.tree height nodes own all
    child_put = subst (λ (ns : List ℕ). IsChildPut u t kind table.tree height ns own all) list_is is_put.2

    abbrev flat : List Entry
    flat = flat_map (symbols_of s.bytes l listed) listed

    -- what keys may name
    abbrev May : ℕ → Type 0
    May = KeyNames (names_of flat ++ texts_of flat) (group.linked).listed.loose

    in_flat_of : (o : Entry) → In o E → In o flat
    in_flat_of o at =
        let F = flat_map (symbols_at s.bytes l) (take w.number listed) in
        let G = flat_map (symbols_at s.bytes l) (drop (suc w.number) listed) in
        subst (In o) (sym (entries_cut s.bytes l node (take w.number listed) (drop (suc w.number) listed) listed
        (cut s u t table links (offsets_of e ++ spare) blocks group way w.number own_ends new left right here.2 short)))
        (in_right o F (E ++ G) (in_left o E G at))

    last_may : May (last.1).name
    last_may =
        elim last_old [
          | inl is ↦ inr (inr (contains_in (last.1).name (group.linked).listed.loose
              (subst (In (last.1).name) (sym group.spared) (inl (sym (ap (λ (o : Entry). o.name) is))))))
          | inr old ↦ inr (inl (contains_in (last.1).name (names_of flat ++ texts_of flat)
              (in_left (last.1).name (names_of flat) (texts_of flat) (in_map (λ (o : Entry). o.name) last.1 flat (in_flat_of last.1 (subst (In last.1) (sym was) old))))))
        ]

    -- THE ENTRY COMES IN
    pub split_put : (links' : List (List ℕ × Target)) × IsLinkPut (link_of segment e) links links' × HasGroupMoved s t table blocks links' spare
    split_put =
        let g = offsets_of e ++ spare in
        let fr = take w.number listed in
        let bk = drop (suc w.number) listed in
        let at = cut s u t table links g blocks group way w.number own_ends new left right here.2 short in
        let al = along (own_ends.step) own_ends.above own_ends.way_is in
        let ot = others table.tree (group.linked).level w.number own listed then_ends in
        let he = held (own_ends.step) own_ends.above own_ends.way_is in
        entry_grown s t table links g blocks group all nodes
        (all_moves s u table links g blocks group node new fr bk at left right here.2 t height all child_put) height child_put.tree
        (all_formed s u table links g blocks group node new fr bk at left right here.2 t height all child_put) small e spare refl
        (ahead s u table links g blocks group node new fr bk at left right here.2 t height all child_put e (take j E) (drop j E) was halved)
        (behind s u table links g blocks group node new fr bk at left right here.2 t height all child_put e (take j E) (drop j E) was halved)
        (old_flat s u table links g blocks group node new fr bk at left right here.2 t height all child_put e (take j E) (drop j E) was halved)
        (new_flat s u table links g blocks group node new fr bk at left right here.2 t height all child_put e (take j E) (drop j E) was halved)
        known named
        (split_names s u t table links g blocks group way w.number own_ends new left right here.2 short height all child_put keys al ot he e (take j E) (drop j E) last.0 last.1
        was halved last.2 key_is above below w.between)
        (split_ordered s u t table links g blocks group way w.number own_ends new left right here.2 short height all child_put keys al ot he e (take j E) (drop j E) last.0 last.1
        was halved last.2 key_is above below w.between)
        (split_keys s u t table links g blocks group way w.number own_ends new left right here.2 short height all child_put keys al ot he e (take j E) (drop j E) last.0 last.1
        was halved last.2 key_is above below w.between May last_may (group.linked).listed.spans.keyed)

    -- AND THE KEYS ARE EXACT
    pub split_exact_keys : HasKeysFor e.name s.bytes table → HasExactKeys t.bytes table
    split_exact_keys has =
        let g = offsets_of e ++ spare in
        let al = along (own_ends.step) own_ends.above own_ends.way_is in
        let ot = others table.tree (group.linked).level w.number own listed then_ends in
        let he = held (own_ends.step) own_ends.above own_ends.way_is in
        let m = split_put.2 in
        let leaf_is = same_leaf t.bytes s.bytes m.k in
        let kind_is : kind_in t.bytes ≡ kind = ap group_kind (same_internal t.bytes s.bytes m.k) in
        let filled = split_filled s u t table links g blocks group way w.number own_ends new left right here.2 short height all child_put keys al ot he e (take j E) (drop j E) last.0 last.1
        was halved last.2 key_is above below w.between key_word long_right (inl refl) named long_left has.filled in
        record {
          exact = keys_so (λ key. ⊥) t.bytes table l kind height leaf_is kind_is (level_is t.bytes kind table.tree height all nodes child_put.tree)
              (split_exact s u t table links g blocks group way w.number own_ends new left right here.2 short height all child_put keys al ot he e (take j E) (drop j E) last.0 last.1
              was halved last.2 key_is above below w.between key_word long_right (inl refl) named has);
          filled = subst (AllByRecursion (λ at. 1 ≤ length (symbols_at t.bytes (leaf_k t.bytes) at))) (sym (told_so t.bytes table kind height all nodes kind_is child_put.tree))
              (subst (λ (n : ℕ). AllByRecursion (λ at. 1 ≤ length (symbols_at t.bytes n at)) nodes) (sym leaf_is) filled);
        }

  pub split_all : (at : ℕ) → ((step : Step) (above : List Step) → way ≡ step ∷ above → at ≡ get_or (node_at s.bytes (kind_in s.bytes) step.node).children step.place 0)
      → IsSplitAt at → HasEntryPut s t table e
  split_all at at_end split links spare blocks group new_name =
      let own_ends = ends_own s table links (offsets_of e ++ spare) blocks group w.level way w.owned w.symbol_nodes w.number w.ends in
      split_put links spare blocks group own_ends (subst IsSplitAt (at_end own_ends.step own_ends.above own_ends.way_is) split)

  pub split_all_exact : (at : ℕ) → ((step : Step) (above : List Step) → way ≡ step ∷ above → at ≡ get_or (node_at s.bytes (kind_in s.bytes) step.node).children step.place 0)
      → IsSplitAt at → (links : List (List ℕ × Target)) (spare : List ℕ) (blocks : List Block) → IsGroupIn s table links (offsets_of e ++ spare) blocks
      → HasKeysFor e.name s.bytes table → HasExactKeys t.bytes table
  split_all_exact at at_end split links spare blocks group =
      let own_ends = ends_own s table links (offsets_of e ++ spare) blocks group w.level way w.owned w.symbol_nodes w.number w.ends in
      split_exact_keys links spare blocks group own_ends (subst IsSplitAt (at_end own_ends.step own_ends.above own_ends.way_is) split)
