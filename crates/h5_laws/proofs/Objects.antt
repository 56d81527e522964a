-- Objects of a reading: the root, and those that links name.
use Rattle.std.proofs.Common.{◌≡◌, ◌⊎◌, inl, inr, ℕ, ◌+◌, ◌≤◌, List, [], ◌∷◌, ◌++◌, map, refl, sym, ap, ◌∙◌, subst, arith, Some, None, length-append, true, false, Bool}
use Rattle.std.specs.Prelude.{◌==◌, ◌||◌}
use Rattle.std.specs.Option.{option_and_then}
use Rattle.std.specs.Ordering.{nat_cmp}
use Rattle.std.specs.Cmp.{nat_cmp_total}
use Rattle.std.specs.Cmp.Lexicographic.{nat_list_cmp_total}
use Rattle.std.specs.FinMap.{FinMap, get, entries}
use Rattle.std.specs.List.{AllZip, AllByRecursion}
use Rattle.h5_bytes.specs.declared.Block.{Block}
use Rattle.h5_model.specs.Format.MessageTypes.{symbol_table_kind, nil_kind, dataspace_kind, datatype_kind, old_fill_value_kind, fill_value_kind, data_layout_kind, attribute_kind, comment_kind, old_modification_time_kind, continuation_kind, modification_time_kind}
use Rattle.h5_model.specs.Format.Addresses.{SymbolTable, symbol_table_of}
use Rattle.h5_model.specs.Format.Messages.{Message, count_of, first_body}
use Rattle.h5_model.specs.Format.Symbols.{Target, Header}
use Rattle.h5_model.specs.Format.Links.{HasLinks}
use Rattle.h5_model.specs.Format.Superblock.{leaf_k, internal_k, root_header}
use Rattle.h5_model.specs.Tree.Objects.{Tree, Object, Content, Group, Array, Dataset, Links, Link, ToObject, Soft, follow, links_of, links_in, link_in}
use Rattle.h5_model.specs.Format.Reads.{Placed, HasObject, IsPlaced, HasContent, IsSame, HasGroup, HasDataset, InGroup, InDataset, Holds}
use Rattle.h5_model.proofs.OneReading.{some_same}
use Rattle.h5_laws.proofs.Lists.{In, in_all, in_map, from_map}
use Rattle.h5_laws.proofs.Maps.{get_of_entry, entry_of_get, tied_left}
use Rattle.h5_laws.proofs.Counts.{only_one, only_body}
use Rattle.h5_laws.proofs.Located.{Known, KnownGroup, KnownAt}

-- following a path, and then one more name
pub follow-more : (tree : Tree) (from link : Link) (names : List (List ℕ)) (name : List ℕ) (number : ℕ) → follow tree from names ≡ Some (ToObject number)
    → link_in tree number name ≡ Some link → follow tree from (names ++ name ∷ []) ≡ Some link
follow-more tree from link [] name number h e =
    let same : from ≡ ToObject number = cc in
    subst (λ (f : Link). follow tree f (name ∷ []) ≡ Some link) (sym same) (ap (option_and_then (λ (l : Link). follow tree l [])) e)
follow-more tree (Soft text) link (n ∷ names) name number h e = absurd (let none : None ≡ Some (ToObject number) = h in cc)
follow-more tree (ToObject m) link (n ∷ names) name number h e = elim (link_in tree m n) as (λ o. option_and_then (λ l. follow tree l names) o ≡ Some (ToObject number)
    → option_and_then (λ l. follow tree l (names ++ name ∷ [])) o ≡ Some link) [
      | None ↦ λ none. absurd (cc)
      | Some l ↦ λ here. follow-more tree l link names name number here e
    ] h

-- a link of the tree that is a hard link of the file
hard_link : (table : FinMap nat_cmp ℕ) (l : List ℕ × Link) (name : List ℕ) (header : ℕ) → IsSame table l (name, Header header)
    → (number : ℕ) × (l ≡ (name, ToObject number)) × (get table number ≡ Some header)
hard_link table (n, ToObject number) name header is = (number, ap (λ (x : List ℕ). (x, ToObject number)) is.0, is.1)
hard_link table (n, Soft text) name header is = absurd is

-- what a header may be: a group's or a dataset's
pub content_cases : (image : List ℕ) (table : FinMap nat_cmp ℕ) (messages : List Message) (c : Content) (blocks : List Block) → HasContent image table messages c blocks
    → ((links : Links) × (c ≡ Group links) × (found : List (List ℕ × Target)) × HasGroup image messages found blocks × AllZip (IsSame table) (entries links) found)
    ⊎ ((d : Dataset) × (c ≡ Array d) × HasDataset image messages d blocks)
content_cases image table messages (Group links) blocks has = inl (links, refl, has.0, has.1, has.2)
content_cases image table messages (Array d) blocks has = inr (d, refl, has)

-- its messages are those of one or of the other
pub one_of_two : (image : List ℕ) (table : FinMap nat_cmp ℕ) (ms : List Message) (c : Content) (blocks : List Block) → HasContent image table ms c blocks
    → ((found : List (List ℕ × Target)) × HasGroup image ms found blocks) ⊎ ((d : Dataset) × HasDataset image ms d blocks)
one_of_two image table ms c blocks has = elim (content_cases image table ms c blocks has) [ inl g ↦ inl (g.2, g.3) | inr d ↦ inr (d.0, d.2) ]

-- message types of groups and of datasets
abbrev pub of_group : ℕ → Bool
of_group k = k == symbol_table_kind || ((k == nil_kind || k == continuation_kind) || (k == attribute_kind || ((k == comment_kind || k == old_modification_time_kind) || k == modification_time_kind)))

abbrev pub of_dataset : ℕ → Bool
of_dataset k = ((k == dataspace_kind || k == datatype_kind) || (k == old_fill_value_kind || k == fill_value_kind)) || (k == data_layout_kind || ((k == nil_kind || k == continuation_kind) || (k == attribute_kind || ((k == comment_kind || k == old_modification_time_kind) || k == modification_time_kind))))

pub of_group_kind : (ms : List Message) (m : Message) (k : ℕ) → AllByRecursion InGroup ms → In m ms → m.kind ≡ k → of_group k ≡ true
of_group_kind ms m k all at e = subst (λ (x : ℕ). of_group x ≡ true) e (in_all InGroup m ms all at)

pub of_dataset_kind : (ms : List Message) (m : Message) (k : ℕ) → AllByRecursion InDataset ms → In m ms → m.kind ≡ k → of_dataset k ≡ true
of_dataset_kind ms m k all at e = subst (λ (x : ℕ). of_dataset x ≡ true) e (in_all InDataset m ms all at)

module _ (image : List ℕ) (table : FinMap nat_cmp ℕ) (tree : Tree) (placed : List Placed) (reads : Holds image table tree placed) where
  pub has_object : (o : Placed) → In o placed → HasObject image table o.header o.object o.blocks
  has_object o at = in_all (IsPlaced image table) o placed reads.each at

  -- the object that the table has at a number
  pub object_at : (number header : ℕ) → get table number ≡ Some header → (o : Placed) × In o placed × (o.number ≡ number) × (o.header ≡ header)
  object_at number header h =
      let entry : In (number, header) (map (λ (x : Placed). (x.number, x.header)) placed) = subst (In (number, header)) reads.numbered (entry_of_get table number header h) in
      let by = from_map (λ (x : Placed). (x.number, x.header)) (number, header) placed entry in
      (by.0, by.1, ap (λ (p : ℕ × ℕ). p.0) by.2, ap (λ (p : ℕ × ℕ). p.1) by.2)

  pub in_tree : (o : Placed) → In o placed → get tree o.number ≡ Some o.object
  in_tree o at =
      get_of_entry nat_cmp_total tree o.number o.object
      (subst (In (o.number, o.object)) (sym reads.objects) (in_map (λ (x : Placed). (x.number, x.object)) o placed at))

  pub in_table : (o : Placed) → In o placed → get table o.number ≡ Some o.header
  in_table o at =
      get_of_entry nat_cmp_total table o.number o.header
      (subst (In (o.number, o.header)) (sym reads.numbered) (in_map (λ (x : Placed). (x.number, x.header)) o placed at))

  pub root_known : KnownAt image table tree placed 0 (root_header image)
  root_known =
      let by = object_at 0 (root_header image) reads.root in (
        record {
          o = by.0;
          member = by.1;
          path = [];
          long = refl;
          leads = ap (λ n. Some (ToObject n)) (sym by.2);
          has = has_object by.0 by.1;
        },
        by.3,
      )

  -- the links of a group stand in the tree
  group_links : (depth root heap : ℕ) (g : KnownGroup image table tree placed depth root heap) → links_of tree g.k.o.number ≡ Some g.links
  group_links depth root heap g =
      ap (option_and_then (λ (ob : Object). links_in ob.content)) (in_tree g.k.o g.k.member) ∙ ap links_in g.is

  -- the path to a group, and the name of one of its links
  pub name_leads : (depth root heap : ℕ) (g : KnownGroup image table tree placed depth root heap) (name : List ℕ) (link : Link) → get g.links name ≡ Some link
      → follow tree (ToObject 0) (g.k.path ++ name ∷ []) ≡ Some link
  name_leads depth root heap g name link linked =
      let here : link_in tree g.k.o.number name ≡ Some link = ap (option_and_then (λ (ls : Links). get ls name)) (group_links depth root heap g) ∙ linked in
      follow-more tree (ToObject 0) link g.k.path name g.k.o.number g.k.leads here

  -- the object that a link of a group leads to
  pub linked_known : (depth root heap : ℕ) (g : KnownGroup image table tree placed depth root heap) (name : List ℕ) (header : ℕ)
      → In (name, Header header) g.found → KnownAt image table tree placed (depth + 1) header
  linked_known depth root heap g name header at =
      let tied = tied_left (IsSame table) (entries g.links) g.found (name, Header header) g.same at in
      let hard = hard_link table tied.0 name header tied.2 in
      let linked : get g.links name ≡ Some (ToObject hard.0)
      = get_of_entry nat_list_cmp_total g.links name (ToObject hard.0) (subst (λ (x : List ℕ × Link). In x (entries g.links)) hard.1 tied.1) in
      let there = name_leads depth root heap g name (ToObject hard.0) linked in
      let by = object_at hard.0 header hard.2 in (
        record {
          o = by.0;
          member = by.1;
          path = g.k.path ++ name ∷ [];
          long = length-append g.k.path (name ∷ []) ∙ ap (λ (n : ℕ). n + 1) g.k.long;
          leads = there ∙ ap (λ (n : ℕ). Some (ToObject n)) (sym by.2);
          has = has_object by.0 by.1;
        },
        by.3,
      )

  -- an object with a Symbol Table message is a group
  pub group_known : (depth : ℕ) (k : Known image table tree placed depth) (m : Message) (root heap : ℕ) → In m k.has.messages → m.kind ≡ symbol_table_kind
      → symbol_table_of m.body ≡ Some (record { tree = root; heap = heap })
      → (g : KnownGroup image table tree placed depth root heap) × (g.m ≡ m) × (g.k ≡ k)
  group_known depth k m root heap at is says = elim (content_cases image table k.has.messages k.o.object.content k.has.content_blocks k.has.content) [
    | inl group ↦
        let low : count_of symbol_table_kind k.has.messages ≤ 1 = omega (arith, (group.3).once) in
        let body : first_body symbol_table_kind k.has.messages ≡ Some m.body = only_body symbol_table_kind k.has.messages m low at is in
        let chosen : option_and_then symbol_table_of (first_body symbol_table_kind k.has.messages) ≡ Some (record { tree = root; heap = heap }) = ap (option_and_then symbol_table_of) body ∙ says in
        let same : (group.3).symbol_table ≡ record { tree = root; heap = heap } = some_same _ _ _ (group.3).chosen chosen in (
          record {
            k = k;
            links = group.0;
            is = group.1;
            found = group.2;
            linked = subst (λ (s : SymbolTable). HasLinks image (leaf_k image) (internal_k image) s.tree s.heap group.2 k.has.content_blocks) same (group.3).linked;
            same = group.4;
            in_group = (group.3).known;
            once = (group.3).once;
            m = m;
            first = only_one symbol_table_kind k.has.messages m low at is;
            says = says;
          },
          refl,
          refl,
        )
    | inr array ↦ absurd (let none : false ≡ true = of_dataset_kind k.has.messages m symbol_table_kind (array.2).known at is in cc)
  ]
