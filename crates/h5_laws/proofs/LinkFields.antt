-- The fields that name headers: that of the superblock, and the entries of symbol nodes that are no soft links.
use Rattle.std.proofs.Common.{◌≡◌, ◌≢◌, inl, inr, ℕ, ◌+◌, ◌*◌, List, [], ◌∷◌, ◌++◌, map, refl, sym, ap, ap₂, ◌∙◌, subst, arith, Option, Some, None, true, false, Bool, cond}
use Rattle.std.proofs.lemmas.Bool.Decides.{nat_tests}
use Rattle.std.proofs.lemmas.List.Sums.{sum_by-cons}
use Rattle.std.proofs.lemmas.List.Recursion.{is_count_by}
use Rattle.std.proofs.lemmas.Simd.{map-map}
use Rattle.std.specs.Prelude.{◌==◌, if◌then◌else◌}
use Rattle.std.specs.Option.{option_map_or}
use Rattle.std.specs.Ordering.{nat_cmp}
use Rattle.std.specs.FinMap.{FinMap, get, entries, values}
use Rattle.std.specs.List.{AllByRecursion, AllZip, flat_map, find, range_with_len, count_by, sum_by}
use Rattle.h5_bytes.specs.Texts.{text_at}
use Rattle.h5_bytes.specs.declared.Block.{Block}
use Rattle.h5_model.specs.Format.Addresses.{SymbolTable, symbol_table_of}
use Rattle.h5_model.specs.Format.MessageTypes.{symbol_table_kind}
use Rattle.h5_model.specs.Format.Messages.{Message, HasMessages}
use Rattle.h5_model.specs.Format.Heap.{segment_of}
use Rattle.h5_model.specs.Format.Rows.{leaves}
use Rattle.h5_model.specs.Format.Nodes.{group_kind, node_at}
use Rattle.h5_model.specs.Format.Symbols.{Entry, Target, Header, Text, symbols_at, symbols_in, symbol_bytes, link_of}
use Rattle.h5_model.specs.Format.Links.{HasLinks}
use Rattle.h5_model.specs.Format.Superblock.{leaf_k, internal_k, root_header, root_header_place}
use Rattle.h5_model.specs.Tree.Objects.{Tree, Content, Dataset, Group, Array, Object, Link, ToObject, Soft, links_to, leads_to, hard_links}
use Rattle.h5_model.specs.Format.Reads.{Placed, IsPlaced, HasObject, HasContent, HasDataset, HasGroup, IsSame, Holds}
use Rattle.h5_model.specs.Format.Reached.{entry_in, level_at}
use Rattle.h5_model.specs.Faults.TreeFaults.{all_entries}
use Rattle.h5_model.proofs.OneReading.{one_messages}
use Rattle.h5_model.proofs.OneTree.{level_is, children_are}
use Rattle.h5_laws.proofs.Lists.{In, in_left, in_right, in_range, in_flat}
use Rattle.h5_laws.proofs.Objects.{of_dataset_kind}
use Rattle.h5_laws.proofs.Datasets.{find_none, said_first}
use Rattle.h5_laws.proofs.Entries.{links_are}
use Rattle.h5_laws.proofs.Located.{KnownEntry}
use Rattle.h5_laws.proofs.Pigeonhole.{linking, linking-append}

-- the field of entry i of a symbol node, and the header that it names; a soft link names none
abbrev pub entry_link : List ℕ → ℕ → ℕ → List (ℕ × ℕ)
entry_link image node i = if (entry_in image node i).cache == 2 then [] else (node + 16 + 40 * i, (entry_in image node i).header) ∷ []

abbrev pub node_links : List ℕ → ℕ → List (ℕ × ℕ)
node_links image node = flat_map (entry_link image node) (range_with_len 0 (symbols_in (symbol_bytes image (leaf_k image) node)))

abbrev pub tree_links : List ℕ → ℕ → List (ℕ × ℕ)
tree_links image root =
    flat_map (node_links image) (leaves (node_at image (group_kind (internal_k image))) (level_at image (group_kind (internal_k image)) root) (root ∷ []))

abbrev pub object_links : List ℕ → List Message → List (ℕ × ℕ)
object_links image ms =
    option_map_or (λ (m : Message). option_map_or (λ (s : SymbolTable). tree_links image s.tree) (symbol_table_of m.body) []) (find (λ m. m.kind == symbol_table_kind) ms) []

abbrev pub placed_links : (image : List ℕ) (table : FinMap nat_cmp ℕ) (placed : List Placed) → AllByRecursion (IsPlaced image table) placed → List (ℕ × ℕ)
placed_links image table [] each = []
placed_links image table (x ∷ placed) each = object_links image each.0.messages ++ placed_links image table placed each.1

-- ---- the links of an object, by its messages

pub table_links : (image : List ℕ) (ms : List Message) (m : Message) (s : SymbolTable) (found : List (List ℕ × Target)) (blocks : List Block)
    → find (λ x. x.kind == symbol_table_kind) ms ≡ Some m → symbol_table_of m.body ≡ Some s → (has : HasLinks image (leaf_k image) (internal_k image) s.tree s.heap found blocks)
    → object_links image ms ≡ flat_map (node_links image) has.symbol_nodes
table_links image ms m s found blocks first says has =
    let kind = group_kind (internal_k image) in
    let V = node_at image kind in
    let bottom : leaves V (level_at image kind s.tree) (s.tree ∷ []) ≡ has.symbol_nodes
    = ap (λ (n : ℕ). leaves V n (s.tree ∷ [])) (level_is image kind s.tree has.level has.owned has.symbol_nodes has.tree)
    ∙ sym (children_are image kind s.tree has.level has.owned has.symbol_nodes has.tree) in
    ap (λ (o : Option Message). option_map_or (λ (x : Message). option_map_or (λ (t : SymbolTable). tree_links image t.tree) (symbol_table_of x.body) []) o []) first
    ∙ ap (λ (o : Option SymbolTable). option_map_or (λ (t : SymbolTable). tree_links image t.tree) o []) says
    ∙ ap (flat_map (node_links image)) bottom

pub group_links : (image : List ℕ) (ms : List Message) (found : List (List ℕ × Target)) (blocks : List Block) (has : HasGroup image ms found blocks)
    → object_links image ms ≡ flat_map (node_links image) has.linked.symbol_nodes
group_links image ms found blocks has =
    let first = said_first symbol_table_of symbol_table_kind ms has.symbol_table has.chosen in
    table_links image ms first.0 has.symbol_table found blocks first.1 first.2 has.linked

-- a dataset has none
pub no_links : (image : List ℕ) (ms : List Message) (d : Dataset) (blocks : List Block) → HasDataset image ms d blocks → object_links image ms ≡ []
no_links image ms d blocks has =
    let none : find (λ m. m.kind == symbol_table_kind) ms ≡ None
    = find_none symbol_table_kind ms (λ m at is. let never : false ≡ true = of_dataset_kind ms m symbol_table_kind has.known at is in absurd (cc)) in
    ap (λ (o : Option Message). option_map_or (λ (x : Message). option_map_or (λ (t : SymbolTable). tree_links image t.tree) (symbol_table_of x.body) []) o []) none

-- ---- how many lead to a header

-- an entry names this header
abbrev pub hard : ℕ → List Entry → ℕ
hard h [] = 0
hard h (e ∷ es) = (if e.cache == 2 then 0 else (if e.header == h then 1 else 0)) + hard h es

abbrev pub aimed : ℕ → List (List ℕ × Target) → ℕ
aimed h [] = 0
aimed h ((name, Header a) ∷ ls) = (if a == h then 1 else 0) + aimed h ls
aimed h ((name, Text t) ∷ ls) = aimed h ls

hard-append : (h : ℕ) (xs ys : List Entry) → hard h (xs ++ ys) ≡ hard h xs + hard h ys
hard-append h [] ys = omega arith
hard-append h (e ∷ xs) ys = omega (arith, hard-append h xs ys)

entry_counts : (image : List ℕ) (h node i : ℕ) → linking h (entry_link image node i) ≡ hard h (entry_in image node i ∷ [])
entry_counts image h node i = go ((entry_in image node i).cache == 2) refl where
  go : (b : Bool) → ((entry_in image node i).cache == 2) ≡ b → linking h (entry_link image node i) ≡ hard h (entry_in image node i ∷ [])
  go true e = rw e refl
  go false e = rw e refl

indexes_count : (image : List ℕ) (h node : ℕ) (is : List ℕ) → linking h (flat_map (entry_link image node) is) ≡ hard h (map (entry_in image node) is)
indexes_count image h node [] = refl
indexes_count image h node (i ∷ is) =
    let a = linking-append h (entry_link image node i) (flat_map (entry_link image node) is) in
    let b = hard-append h (entry_in image node i ∷ []) (map (entry_in image node) is) in
    let c = entry_counts image h node i in
    let d = indexes_count image h node is in
    omega (arith, a, b, c, d)

pub nodes_count : (image : List ℕ) (h : ℕ) (ns : List ℕ) → linking h (flat_map (node_links image) ns) ≡ hard h (all_entries image ns)
nodes_count image h [] = refl
nodes_count image h (n ∷ ns) =
    let a = linking-append h (node_links image n) (flat_map (node_links image) ns) in
    let b = hard-append h (symbols_at image (leaf_k image) n) (all_entries image ns) in
    let c : linking h (node_links image n) ≡ hard h (symbols_at image (leaf_k image) n)
    = indexes_count image h n (range_with_len 0 (symbols_in (symbol_bytes image (leaf_k image) n))) in
    let d = nodes_count image h ns in
    omega (arith, a, b, c, d)

aim : (b : Bool) (h a k : ℕ) (name t : List ℕ) (ls : List (List ℕ × Target)) → aimed h ls ≡ k
    → aimed h ((name, if b then Text t else Header a) ∷ ls) ≡ (if b then 0 else (if a == h then 1 else 0)) + k
aim true h a k name t ls e = omega (arith, e)
aim false h a k name t ls e = ap (λ (n : ℕ). (if a == h then 1 else 0) + n) e

pub aimed_entries : (segment : List ℕ) (h : ℕ) (es : List Entry) → aimed h (map (link_of segment) es) ≡ hard h es
aimed_entries segment h [] = refl
aimed_entries segment h (e ∷ es) =
    aim (e.cache == 2) h e.header (hard h es) (text_at segment e.name) (text_at segment e.text) (map (link_of segment) es) (aimed_entries segment h es)

module _ (table : FinMap nat_cmp ℕ) (own : (a b header : ℕ) → get table a ≡ Some header → get table b ≡ Some header → a ≡ b) (number h : ℕ)
    (here : get table number ≡ Some h) where
  one_tested : (other a : ℕ) → get table other ≡ Some a → (a == h) ≡ (number == other)
  one_tested other a there = go (a == h) refl where
    go : (b : Bool) → (a == h) ≡ b → (a == h) ≡ (number == other)
    go true e =
        let same : a ≡ h = grind (arith, nat_tests) in
        let one : number ≡ other = own number other h here (there ∙ ap (λ (n : ℕ). Some n) same) in
        let tested : (number == other) ≡ true = grind (arith, nat_tests, one) in
        e ∙ sym tested
    go false e = e ∙ sym (other_test (number == other) refl) where
      other_test : (b : Bool) → (number == other) ≡ b → (number == other) ≡ false
      other_test false f = f
      other_test true f =
          let one : number ≡ other = grind (arith, nat_tests) in
          let both : Some h ≡ Some a = sym here ∙ ap (get table) one ∙ there in
          let same : h ≡ a = cc in
          let yes_test : (a == h) ≡ true = grind (arith, nat_tests, same) in
          let never : false ≡ true = sym e ∙ yes_test in
          absurd (cc)

  led : List Link → ℕ
  led [] = 0
  led (l ∷ ls) = cond (leads_to number l) (1 + led ls) (led ls)

  led_is : (ls : List Link) → led ls ≡ count_by (leads_to number) ls
  unfolding led
  led_is ls = is_count_by led (leads_to number) refl (λ _ _. refl) ls

  one_more : (b : Bool) (x y : ℕ) → x ≡ y → (if b then 1 else 0) + x ≡ cond b (1 + y) y
  one_more true x y e = omega (arith, e)
  one_more false x y e = omega (arith, e)

  led_count : (ls : List (List ℕ × Link)) (fs : List (List ℕ × Target)) → AllZip (IsSame table) ls fs → aimed h fs ≡ led (map (λ (e : List ℕ × Link). e.1) ls)
  unfolding led
  led_count [] [] zip = refl
  led_count [] (f ∷ fs) zip = absurd zip
  led_count (l ∷ ls) [] zip = absurd zip
  led_count ((n, ToObject k) ∷ ls) ((n', Header a) ∷ fs) zip =
      let tested = one_tested k a zip.0.1 in
      let rest = led_count ls fs zip.1 in
      ap (λ (b : Bool). (if b then 1 else 0) + aimed h fs) tested ∙ one_more (number == k) (aimed h fs) (led (map (λ (e : List ℕ × Link). e.1) ls)) rest
  led_count ((n, ToObject k) ∷ ls) ((n', Text t) ∷ fs) zip = absurd zip.0
  led_count ((n, Soft s) ∷ ls) ((n', Header a) ∷ fs) zip = absurd zip.0
  led_count ((n, Soft s) ∷ ls) ((n', Text t) ∷ fs) zip = led_count ls fs zip.1

  content_count : (image : List ℕ) (ms : List Message) (c : Content) (blocks : List Block) → HasContent image table ms c blocks
      → linking h (object_links image ms) ≡ links_to number c
  content_count image ms (Array d) blocks has = ap (linking h) (no_links image ms d blocks has)
  content_count image ms (Group links) blocks (found, has, zip) =
      let s = has.symbol_table in
      let linked = has.linked in
      ap (linking h) (group_links image ms found blocks has) ∙ nodes_count image h linked.symbol_nodes
      ∙ sym (aimed_entries (segment_of image s.heap) h (all_entries image linked.symbol_nodes))
      ∙ ap (aimed h) (sym (links_are image s.tree s.heap found blocks linked))
      ∙ led_count (entries links) found zip ∙ led_is (values links)

  placed_count : (image : List ℕ) (placed : List Placed) (each : AllByRecursion (IsPlaced image table) placed)
      → linking h (placed_links image table placed each) ≡ sum_by (λ (o : Object). links_to number o.content) (map (λ (x : Placed). x.object) placed)
  placed_count image [] each = refl
  placed_count image (x ∷ placed) each =
      let a = linking-append h (object_links image each.0.messages) (placed_links image table placed each.1) in
      let b = content_count image each.0.messages x.object.content each.0.content_blocks each.0.content in
      let c = placed_count image placed each.1 in
      let d = sum_by-cons (λ (o : Object). links_to number o.content) x.object (map (λ (y : Placed). y.object) placed) in
      omega (arith, a, b, c, d)

-- all of them
abbrev pub all_links : (image : List ℕ) (table : FinMap nat_cmp ℕ) (placed : List Placed) → AllByRecursion (IsPlaced image table) placed → List (ℕ × ℕ)
all_links image table placed each = (root_header_place image, root_header image) ∷ placed_links image table placed each

module _ (image : List ℕ) (table : FinMap nat_cmp ℕ) (tree : Tree) (placed : List Placed) (reads : Holds image table tree placed) where
  -- as many fields name a header as the reading counts
  pub all_count : (number h : ℕ) → get table number ≡ Some h
      → linking h (all_links image table placed reads.each) ≡ hard_links tree number + (if number == 0 then 1 else 0)
  all_count number h here =
      let objects : values tree ≡ map (λ (x : Placed). x.object) placed
      = ap (map (λ (e : ℕ × Object). e.1)) reads.objects ∙ map-map (λ (e : ℕ × Object). e.1) (λ (x : Placed). (x.number, x.object)) placed in
      let counts : linking h (placed_links image table placed reads.each) ≡ hard_links tree number
      = placed_count table reads.own number h here image placed reads.each ∙ ap (sum_by (λ (o : Object). links_to number o.content)) (sym objects) in
      let root : (root_header image == h) ≡ (number == 0) = one_tested table reads.own number h here 0 (root_header image) reads.root in
      let first : linking h (all_links image table placed reads.each) ≡ (if number == 0 then 1 else 0) + linking h (placed_links image table placed reads.each)
      = ap (λ (b : Bool). (if b then 1 else 0) + linking h (placed_links image table placed reads.each)) root in
      omega (arith, first, counts)

  in_placed_links : (some : List Placed) (each : AllByRecursion (IsPlaced image table) some) (o : Placed) (z : ℕ × ℕ) → In o some
      → (has : HasObject image table o.header o.object o.blocks) → In z (object_links image has.messages) → In z (placed_links image table some each)
  in_placed_links [] each o z at has there = absurd at
  in_placed_links (x ∷ some) each o z (inl e) has there =
      let header : o.header ≡ x.header = ap (λ (y : Placed). y.header) (sym e) in
      let listed : HasMessages image x.header has.messages has.header_blocks = subst (λ (h : ℕ). HasMessages image h has.messages has.header_blocks) header has.listed in
      let same : has.messages ≡ each.0.messages = one_messages image x.header has.messages each.0.messages has.header_blocks each.0.header_blocks listed each.0.listed in
      in_left z (object_links image each.0.messages) (placed_links image table some each.1) (subst (λ (ms : List Message). In z (object_links image ms)) same there)
  in_placed_links (x ∷ some) each o z (inr at) has there =
      in_right z (object_links image each.0.messages) (placed_links image table some each.1) (in_placed_links some each.1 o z at has there)

  entry_link_in : (node i : ℕ) → (entry_in image node i).cache ≢ 2 → In (node + 16 + 40 * i, (entry_in image node i).header) (entry_link image node i)
  entry_link_in node i hard_one = let no_text : ((entry_in image node i).cache == 2) ≡ false = grind (arith, nat_tests) in rw no_text (inl refl)

  -- the field of an entry that names a header is one of them
  pub entry_is_link : (field at : ℕ) → KnownEntry image table tree placed field at → In (field, at) (all_links image table placed reads.each)
  entry_is_link field at k =
      let linked = k.g.linked in
      let s : SymbolTable = record { tree = k.root; heap = k.heap } in
      let z : ℕ × ℕ = (k.node + 16 + 40 * k.i, (entry_in image k.node k.i).header) in
      let n = symbols_in (symbol_bytes image (leaf_k image) k.node) in
      let range : In k.i (range_with_len 0 n) = subst (λ (i : ℕ). In i (range_with_len 0 n)) (zero_add k.i) (in_range 0 n k.i k.low) in
      let in_node : In z (node_links image k.node) = in_flat (entry_link image k.node) k.i z (range_with_len 0 n) range (entry_link_in k.node k.i k.hard) in
      let in_nodes : In z (flat_map (node_links image) linked.symbol_nodes) = in_flat (node_links image) k.node z linked.symbol_nodes k.member in_node in
      let in_object : In z (object_links image k.g.k.has.messages)
      = subst (In z) (sym (table_links image k.g.k.has.messages k.g.m s k.g.found k.g.k.has.content_blocks k.g.first k.g.says linked)) in_nodes in
      let same : z ≡ (field, at) = ap₂ (λ (a b : ℕ). (a, b)) (sym k.place) (sym k.names) in
      inr (in_placed_links placed reads.each k.g.k.o (field, at) k.g.k.member k.g.k.has (subst (λ (y : ℕ × ℕ). In y (object_links image k.g.k.has.messages)) same in_object)) where
        zero_add : (n : ℕ) → 0 + n ≡ n
        zero_add n = omega arith
