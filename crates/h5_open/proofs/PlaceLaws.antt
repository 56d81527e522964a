-- The links of a group that was read wait, each at the field of its entry.
use Rattle.std.proofs.Common.{◌≡◌, ◌≢◌, ◌⊎◌, inl, inr, ℕ, zero, suc, ◌+◌, ◌-◌, ◌*◌, ◌<◌, ◌≤◌, List, [], ◌∷◌, ◌++◌, map, refl, sym, ◌∙◌, subst, Bool, true, false, arith}
use Rattle.std.specs.Prelude.{◌==◌, if◌then◌else◌}
use Rattle.std.specs.List.{AllByRecursion, Contains, flat_map, range_with_len}
use Rattle.std.proofs.lemmas.Bool.Decides.{nat_tests}
use Rattle.h5_bytes.specs.Blocks.{holds, cover, Separate}
use Rattle.h5_bytes.specs.Texts.{text_at}
use Rattle.h5_bytes.specs.declared.Block.{Block}
use Rattle.h5_bytes.proofs.BlockLaws.{holds_in, cover-append, all_so}
use Rattle.h5_model.specs.Format.Addresses.{SymbolTable}
use Rattle.h5_model.specs.Format.Superblock.{leaf_k}
use Rattle.h5_model.specs.Format.Symbols.{Entry, Header, Text, symbol_block, symbol_bytes, symbols_in, symbols_at, link_of}
use Rattle.h5_model.specs.Format.Nodes.{tree_blocks}
use Rattle.h5_model.specs.Format.Heap.{segment_of, heap_blocks}
use Rattle.h5_model.specs.Format.Reached.{Named, entry_in}
use Rattle.h5_laws.proofs.Lists.{In, contains_in, from_range}
use Rattle.h5_laws.proofs.Pigeonhole.{Apart}
use Rattle.h5_group.specs.Nodes.Trees.{kind_in, group_nodes_blocks}
use Rattle.h5_group.specs.Told.{nodes_told, symbol_nodes_told, links_told, blocks_told}
use Rattle.h5_group.specs.Walk.{IsGroupFollowed, IsHard}
use Rattle.h5_group.proofs.DropExact.{begins_in}
use Rattle.h5_open.specs.Read.{AreWaiting}

-- ---- lists

range_apart : (from n : ℕ) → Apart (range_with_len from n)
range_apart from zero = tt
range_apart from (suc n) = ((λ at. let place = from_range (from + 1) n from at in omega (arith, place.2)), range_apart (from + 1) n)

-- ---- symbol nodes that share no byte differ

nodes_apart : (leaf : ℕ) (nodes : List ℕ) → ((p : ℕ) → cover p (map (symbol_block leaf) nodes) ≤ 1) → Apart nodes
nodes_apart leaf [] once = tt
nodes_apart leaf (x ∷ xs) once = (
  (λ at.
      let here : holds x x (8 + 80 * leaf) ≡ 1 = holds_in x x (8 + 80 * leaf) (omega arith) (omega arith) in
      omega (arith, here, begins_in leaf x xs at, once x)),
  nodes_apart leaf xs (λ p. omega (arith, once p)),
)

module _ (image : List ℕ) (t : SymbolTable) (base held now : List Block) (more : (p : ℕ) → cover p base ≤ cover p held) (followed : List Named) (first second depth : ℕ)
    (is : IsGroupFollowed image held now followed first second depth t) where
  abbrev walked : List Named
  walked = is.new ++ followed

  abbrev nodes_of : List ℕ
  nodes_of = symbol_nodes_told image t

  abbrev segment : List ℕ
  segment = segment_of image t.heap

  abbrev count : ℕ → ℕ
  count node = symbols_in (symbol_bytes image (leaf_k image) node)

  -- the field of an entry that leads to a header, in one of these symbol nodes
  record IsPlaced (Among : ℕ → ℕ → Type 0) (field : ℕ) : Type 0 where
    pub node : ℕ
    pub i : ℕ
    pub hard : IsHard image t node i
    pub is_field : field ≡ node + 16 + 40 * i
    pub among : Among node i

  record HasFields (Among : ℕ → ℕ → Type 0) (entries : List Entry) : Type 0 where
    pub fields : List ℕ
    pub placed : AllByRecursion (IsPlaced Among) fields
    pub waiting : AreWaiting image base now walked depth (map (link_of segment) entries) fields

  -- another place has another field
  differ : (node i : ℕ) → IsHard image t node i → (Among : ℕ → ℕ → Type 0) → (Among node i → ⊥) → (fields : List ℕ) → AllByRecursion (IsPlaced Among) fields
      → AllByRecursion (λ (other : ℕ). other ≢ node + 16 + 40 * i) fields
  differ node i hard Among none [] placed = tt
  differ node i hard Among none (f ∷ fields) placed = (
    (λ e.
        let p = placed.0 in
        let same = is.entries_apart p.node p.i node i p.hard hard (sym p.is_field ∙ e) in
        none (subst (λ (k : ℕ). Among node k) same.1 (subst (λ (n : ℕ). Among n p.i) same.0 p.among))),
    differ node i hard Among none fields placed.1,
  )

  widen : (Among Wider : ℕ → ℕ → Type 0) → ((n k : ℕ) → Among n k → Wider n k) → (fields : List ℕ) → AllByRecursion (IsPlaced Among) fields → AllByRecursion (IsPlaced Wider) fields
  widen Among Wider f fields placed = all_so (IsPlaced Among) (IsPlaced Wider) fields (λ x p. record { node = p.node; i = p.i; hard = p.hard; is_field = p.is_field; among = f p.node p.i p.among }) placed

  module _ (node : ℕ) (stands : Contains nodes_of node) (nodes : List ℕ) (other : In node nodes → ⊥) (rest : List Entry) where
    abbrev Here : List ℕ → ℕ → ℕ → Type 0
    Here places n k = ((n ≡ node) × In k places) ⊎ In n nodes

    later : (i : ℕ) (places : List ℕ) (n k : ℕ) → Here places n k → Here (i ∷ places) n k
    later i places n k (inl (e, at)) = inl (e, inr at)
    later i places n k (inr at) = inr at

    none : (i : ℕ) (places : List ℕ) → (In i places → ⊥) → Here places node i → ⊥
    none i places apart (inl (e, at)) = apart at
    none i places apart (inr at) = other at

    abbrev Waits : ℕ → List ℕ → Bool → List ℕ → Type 0
    Waits i places b fields = AreWaiting image base now walked depth
        ((text_at segment (entry_in image node i).name, (if b then Text (text_at segment (entry_in image node i).text) else Header (entry_in image node i).header)) ∷ map (link_of segment) (map (entry_in image node) places ++ rest)) fields

    one_more : (i : ℕ) (places : List ℕ) → Apart (i ∷ places) → i < count node → HasFields (Here places) (map (entry_in image node) places ++ rest)
        → HasFields (Here (i ∷ places)) (map (entry_in image node) (i ∷ places) ++ rest)
    one_more i places apart below before = go ((entry_in image node i).cache == 2) refl where
      go : (b : Bool) → ((entry_in image node i).cache == 2) ≡ b → HasFields (Here (i ∷ places)) (map (entry_in image node) (i ∷ places) ++ rest)
      go true soft = record {
        fields = before.fields;
        placed = widen (Here places) (Here (i ∷ places)) (later i places) before.fields before.placed;
        waiting = subst (λ (b : Bool). Waits i places b before.fields) (sym soft) before.waiting;
      }
      go false hard_is =
          let hard : IsHard image t node i = record { node_of = stands; below = below; hard = λ e. let same : ((entry_in image node i).cache == 2) ≡ true = grind (arith, nat_tests, e) in absurd (cc) } in
          record {
            fields = (node + 16 + 40 * i) ∷ before.fields;
            placed = (record { node = node; i = i; hard = hard; is_field = refl; among = inl (refl, inl refl) }, widen (Here places) (Here (i ∷ places)) (later i places) before.fields before.placed);
            waiting = subst (λ (b : Bool). Waits i places b ((node + 16 + 40 * i) ∷ before.fields)) (sym hard_is) (
              is.entries_met node i hard,
              (let new = is.entries_new node i hard in omega (arith, new, more (node + 16 + 40 * i - 8))),
              differ node i hard (Here places) (none i places apart.0) before.fields before.placed,
              before.waiting,
            );
          }

    entries_wait : (places : List ℕ) → Apart places → ((i : ℕ) → In i places → i < count node) → HasFields (λ n k. In n nodes) rest
        → HasFields (Here places) (map (entry_in image node) places ++ rest)
    entries_wait [] apart low tail = record { fields = tail.fields; placed = widen (λ n k. In n nodes) (Here []) (λ n k at. inr at) tail.fields tail.placed; waiting = tail.waiting }
    entries_wait (i ∷ places) apart low tail = one_more i places apart (low i (inl refl)) (entries_wait places apart.1 (λ k at. low k (inr at)) tail)

  nodes_wait : (nodes : List ℕ) → ((node : ℕ) → In node nodes → Contains nodes_of node) → Apart nodes → HasFields (λ n k. In n nodes) (flat_map (symbols_at image (leaf_k image)) nodes)
  nodes_wait [] stand apart = record { fields = []; placed = tt; waiting = refl }
  nodes_wait (node ∷ nodes) stand apart =
      let tail = nodes_wait nodes (λ n at. stand n (inr at)) apart.1 in
      let all = entries_wait node (stand node (inl refl)) nodes apart.0 (flat_map (symbols_at image (leaf_k image)) nodes) (range_with_len 0 (count node)) (range_apart 0 (count node))
      (λ i at. let place = from_range 0 (count node) i at in omega (arith, place.1, place.2)) tail in
      record {
        fields = all.fields;
        placed = widen (Here node (stand node (inl refl)) nodes apart.0 (flat_map (symbols_at image (leaf_k image)) nodes) (range_with_len 0 (count node))) (λ n k. In n (node ∷ nodes)) wider all.fields all.placed;
        waiting = all.waiting;
      } where
        wider : (n k : ℕ) → ((n ≡ node) × In k (range_with_len 0 (count node))) ⊎ In n nodes → In n (node ∷ nodes)
        wider n k (inl (e, at)) = inl (sym e)
        wider n k (inr at) = inr at

  -- all links of the group wait
  pub links_wait : Separate now → ((p : ℕ) → cover p now ≡ cover p held + cover p (blocks_told image t))
      → (fields : List ℕ) × AreWaiting image base now walked depth (links_told image t) fields
  links_wait separate claimed =
      let once : (p : ℕ) → cover p (map (symbol_block (leaf_k image)) nodes_of) ≤ 1
      = λ p. omega (
        arith,
        separate p,
        claimed p,
        cover-append p (group_nodes_blocks image (nodes_told image t) nodes_of) (heap_blocks image t.heap),
        cover-append p (tree_blocks (kind_in image) (nodes_told image t)) (map (symbol_block (leaf_k image)) nodes_of),
      ) in
      let all = nodes_wait nodes_of (λ n at. contains_in n nodes_of at) (nodes_apart (leaf_k image) nodes_of once) in
      (all.fields, all.waiting)
