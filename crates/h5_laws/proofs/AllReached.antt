-- The header of each object is reached, and so is each field that names it.
use Rattle.std.proofs.Common.{◌≡◌, ◌≢◌, inl, inr, ℕ, ◌+◌, ◌*◌, ◌<◌, List, [], ◌∷◌, length, refl, sym, ap, ◌∙◌, subst, arith, Option, Some, None, true, false, Bool}
use Rattle.std.proofs.lemmas.Bool.Decides.{nat_tests}
use Rattle.std.specs.Prelude.{◌==◌, if◌then◌else◌, is_some}
use Rattle.std.specs.Option.{option_and_then}
use Rattle.std.specs.Ordering.{nat_cmp}
use Rattle.std.specs.Cmp.Lexicographic.{slice_cmp}
use Rattle.std.specs.FinMap.{FinMap, get, entries, get-entries}
use Rattle.std.specs.List.{AllByRecursion, range_with_len, flat_map}
use Rattle.h5_model.specs.Format.MessageTypes.{symbol_table_kind}
use Rattle.h5_bytes.specs.Bytes.{part}
use Rattle.h5_bytes.specs.Texts.{text_at}
use Rattle.h5_model.specs.Format.Addresses.{symbol_table_of}
use Rattle.h5_model.specs.Format.Heap.{segment_of}
use Rattle.h5_model.specs.Format.Symbols.{Entry, entry_of, Target, Header, Text, symbols_at, symbols_in, symbol_bytes, link_of}
use Rattle.h5_model.specs.Format.Superblock.{leaf_k, root_header, root_header_place}
use Rattle.h5_model.specs.Tree.Objects.{Tree, Object, Content, Group, Array, Links, Link, ToObject, Soft, follow, links_of, links_in}
use Rattle.h5_model.specs.Format.Reads.{Placed, HasObject, IsSame, IsPlaced, Holds}
use Rattle.h5_model.specs.Format.Reached.{naming_of, ObjectHeader, Reached, by_superblock, entry_in}
use Rattle.h5_model.specs.Faults.TreeFaults.{all_entries}
use Rattle.h5_laws.proofs.Lists.{In, in_either, from_map, from_flat, from_table, from_range}
use Rattle.h5_laws.proofs.Maps.{found_value, tied_right}
use Rattle.h5_laws.proofs.Objects.{has_object, content_cases, in_tree, in_table, object_at}
use Rattle.h5_laws.proofs.Datasets.{said_first}
use Rattle.h5_laws.proofs.Entries.{links_are}
use Rattle.h5_laws.proofs.LinkFields.{entry_link, node_links, object_links, placed_links, all_links, table_links, no_links}
use Rattle.h5_laws.proofs.Reachable.{IsReached, entry_reached}
use Rattle.h5_laws.proofs.Located.{KnownGroup}

-- no path through a text leads to an object
pub soft_leads : (tree : Tree) (text : List ℕ) (path : List (List ℕ)) (b : ℕ) → follow tree (Soft text) path ≡ Some (ToObject b) → ⊥
soft_leads tree text [] b h = absurd (let e : Some (Soft text) ≡ Some (ToObject b) = h in cc)
soft_leads tree text (name ∷ path) b h = absurd (let e : None ≡ Some (ToObject b) = h in cc)

-- the first link of a path
pub first_link : (tree : Tree) (a b : ℕ) (name : List ℕ) (path : List (List ℕ)) → follow tree (ToObject a) (name ∷ path) ≡ Some (ToObject b)
    → (links : Links) × (number : ℕ) × (links_of tree a ≡ Some links) × (get links name ≡ Some (ToObject number)) × (follow tree (ToObject number) path ≡ Some (ToObject b))
first_link tree a b name path leads = by_links (links_of tree a) refl leads where
  by_link : (links : Links) → links_of tree a ≡ Some links → (o : Option Link) → get links name ≡ o → option_and_then (λ link. follow tree link path) o ≡ Some (ToObject b)
      → (links : Links) × (number : ℕ) × (links_of tree a ≡ Some links) × (get links name ≡ Some (ToObject number)) × (follow tree (ToObject number) path ≡ Some (ToObject b))
  by_link links has None e h = absurd (let never : None ≡ Some (ToObject b) = h in cc)
  by_link links has (Some (Soft text)) e h = absurd (soft_leads tree text path b h)
  by_link links has (Some (ToObject number)) e h = (links, number, has, e, h)

  by_links : (o : Option Links) → links_of tree a ≡ o → option_and_then (λ link. follow tree link path) (option_and_then (λ links. get links name) o) ≡ Some (ToObject b)
      → (links : Links) × (number : ℕ) × (links_of tree a ≡ Some links) × (get links name ≡ Some (ToObject number)) × (follow tree (ToObject number) path ≡ Some (ToObject b))
  by_links None e h = absurd (let never : None ≡ Some (ToObject b) = h in cc)
  by_links (Some links) e h = by_link links e (get links name) refl h

-- a link of the tree is a hard link of the file
file_link : (table : FinMap nat_cmp ℕ) (name : List ℕ) (number : ℕ) (f : List ℕ × Target) → IsSame table (name, ToObject number) f
    → (n : List ℕ) × (h : ℕ) × (f ≡ (n, Header h)) × (get table number ≡ Some h)
file_link table name number (n, Header h) is = (n, h, refl, is.1)
file_link table name number (n, Text t) is = absurd is

-- an entry that is such a link
entry_is_hard : (segment : List ℕ) (e : Entry) (n : List ℕ) (h : ℕ) → link_of segment e ≡ (n, Header h) → (e.cache ≢ 2) × (e.header ≡ h)
entry_is_hard segment e n h is = go (e.cache == 2) refl (ap (λ (l : List ℕ × Target). l.1) is) where
  go : (b : Bool) → (e.cache == 2) ≡ b → (if b then Text (text_at segment e.text) else Header e.header) ≡ Header h → (e.cache ≢ 2) × (e.header ≡ h)
  go true tested same = absurd (let never : Text (text_at segment e.text) ≡ Header h = same in cc)
  go false tested same = (
    (λ soft. let text : (e.cache == 2) ≡ true = grind (arith, nat_tests, soft) in let never : false ≡ true = sym tested ∙ text in absurd (cc)),
    let one : Header e.header ≡ Header h = same in let header : e.header ≡ h = cc in header,
  )

same_header : (e f : Entry) (h : ℕ) → e ≡ f → f.header ≡ h → e.header ≡ h
same_header e f h same is = ap (λ (x : Entry). x.header) same ∙ is

same_hard : (e f : Entry) → e ≡ f → f.cache ≢ 2 → e.cache ≢ 2
same_hard e f same hard soft = hard (sym (ap (λ (x : Entry). x.cache) same) ∙ soft)

module _ (image : List ℕ) (table : FinMap nat_cmp ℕ) (tree : Tree) (placed : List Placed) (reads : Holds image table tree placed) where
  -- an object that is placed, as a group where it is one
  group_at : (o : Placed) → In o placed → (has : HasObject image table o.header o.object o.blocks) → (links : Links) → o.object.content ≡ Group links
      → (path : List (List ℕ)) → follow tree (ToObject 0) path ≡ Some (ToObject o.number)
      → (root : ℕ) × (heap : ℕ) × (g : KnownGroup image table tree placed (length path) root heap) × (g.k.o ≡ o) × (g.links ≡ links)
      × (object_links image has.messages ≡ flat_map (node_links image) g.linked.symbol_nodes)
  group_at o at has links is path leads = elim (content_cases image table has.messages o.object.content has.content_blocks has.content) [
    | inl g ↦
        let s = (g.3).symbol_table in
        let first = said_first symbol_table_of symbol_table_kind has.messages s (g.3).chosen in
        let both : Group g.0 ≡ Group links = sym g.1 ∙ is in
        let same : g.0 ≡ links = cc in (
          s.tree,
          s.heap,
          record {
            k = record {
              o = o;
              member = at;
              path = path;
              long = refl;
              leads = leads;
              has = has;
            };
            links = g.0;
            is = g.1;
            found = g.2;
            linked = (g.3).linked;
            same = g.4;
            in_group = (g.3).known;
            once = (g.3).once;
            m = first.0;
            first = first.1;
            says = first.2;
          },
          refl,
          same,
          table_links image has.messages first.0 s g.2 has.content_blocks first.1 first.2 (g.3).linked,
        )
    | inr d ↦ absurd (let never : Array d.0 ≡ Group links = sym d.1 ∙ is in cc)
  ]

  -- an entry of a reached group that names a header
  header_reached : (n depth root heap : ℕ) (g : KnownGroup image table tree placed n root heap) → IsReached image ObjectHeader g.k.o.header depth
      → (e : Entry) → In e (all_entries image g.linked.symbol_nodes) → e.cache ≢ 2 → (h : ℕ) → e.header ≡ h → IsReached image ObjectHeader h (depth + 1)
  header_reached n depth root heap g reached e at hard h names =
      let node = from_flat (symbols_at image (leaf_k image)) e g.linked.symbol_nodes at in
      let bytes = symbol_bytes image (leaf_k image) node.0 in
      let i = from_table (λ (j : ℕ). entry_of (part (8 + 40 * j) 40 bytes)) (symbols_in bytes) e node.2 in
      let place = node.0 + 16 + 40 * i.0 in
      let y = entry_reached image table tree placed reads n depth root heap g reached node.0 i.0 node.1 i.1 (same_hard (entry_in image node.0 i.0) e i.2 hard) in
      (place, subst (λ (a : ℕ). Reached image (naming_of place ObjectHeader a (depth + 1))) (same_header (entry_in image node.0 i.0) e h i.2 names) y)

  -- a link of a reached group leads to a header that is reached
  linked_reached : (n depth root heap : ℕ) (g : KnownGroup image table tree placed n root heap) → IsReached image ObjectHeader g.k.o.header depth
      → (name : List ℕ) (number : ℕ) → In (name, ToObject number) (entries g.links)
      → (h : ℕ) × (get table number ≡ Some h) × IsReached image ObjectHeader h (depth + 1)
  linked_reached n depth root heap g reached name number at =
      let tied = tied_right (IsSame table) (entries g.links) g.found (name, ToObject number) g.same at in
      let file = file_link table name number tied.0 tied.2 in
      let link = subst (λ (l : List ℕ × Target). In l g.found) file.2 tied.1 in
      let by = from_map (link_of (segment_of image heap)) (file.0, Header file.1) (all_entries image g.linked.symbol_nodes)
      (subst (In (file.0, Header file.1)) (links_are image root heap g.found g.k.has.content_blocks g.linked) link) in
      let hard = entry_is_hard (segment_of image heap) by.0 file.0 file.1 by.2 in
      (file.1, file.3, header_reached n depth root heap g reached by.0 by.1 hard.0 file.1 hard.1)

  -- links of a group in the tree
  content_of : (o : Placed) → In o placed → (links : Links) → links_of tree o.number ≡ Some links → o.object.content ≡ Group links
  content_of o at links is = go o.object.content refl where
    go : (c : Content) → o.object.content ≡ c → o.object.content ≡ Group links
    go (Group ls) e =
        let has : links_of tree o.number ≡ Some ls = ap (option_and_then (λ (ob : Object). links_in ob.content)) (in_tree image table tree placed reads o at) ∙ ap links_in e in
        let both : Some ls ≡ Some links = sym has ∙ is in
        let same : ls ≡ links = cc in
        e ∙ ap (λ (l : Links). Group l) same
    go (Array d) e =
        let has : links_of tree o.number ≡ None = ap (option_and_then (λ (ob : Object). links_in ob.content)) (in_tree image table tree placed reads o at) ∙ ap links_in e in
        let never : None ≡ Some links = sym has ∙ is in
        absurd (cc)

  abbrev HeaderReached : Placed → Type 0
  HeaderReached o = (depth : ℕ) × IsReached image ObjectHeader o.header depth

  -- a group that is reached, by its own path
  reached_group : (o : Placed) (at : In o placed) (has : HasObject image table o.header o.object o.blocks) (links : Links) → o.object.content ≡ Group links
      → (n : ℕ) × (root : ℕ) × (heap : ℕ) × (g : KnownGroup image table tree placed n root heap) × (g.k.o ≡ o) × (g.links ≡ links)
      × (object_links image has.messages ≡ flat_map (node_links image) g.linked.symbol_nodes)
  reached_group o at has links content =
      let path = reads.reached o.number (ap is_some (in_tree image table tree placed reads o at)) in
      let g = group_at o at has links content path.0 path.1 in
      (length path.0, g.0, g.1, g.2, g.3, g.4, g.5)

  -- by the next name of a path
  next_reached : (o : Placed) → In o placed → HeaderReached o → (links : Links) → links_of tree o.number ≡ Some links → (name : List ℕ) (number : ℕ)
      → get links name ≡ Some (ToObject number) → (p : Placed) × In p placed × (p.number ≡ number) × HeaderReached p
  next_reached o at reached links is name number linked =
      let g = reached_group o at (has_object image table tree placed reads o at) links (content_of o at links is) in
      let stands = found_value (slice_cmp nat_cmp) (entries links) name (ToObject number) (sym (get-entries links name) ∙ linked) in
      let header = subst (λ (p : Placed). IsReached image ObjectHeader p.header reached.0) (sym g.4) reached.1 in
      let next = linked_reached g.0 reached.0 g.1 g.2 g.3 header stands.0 number (subst (λ (ls : Links). In (stands.0, ToObject number) (entries ls)) (sym g.5) stands.1) in
      let p = object_at image table tree placed reads number next.0 next.1 in
      (p.0, p.1, p.2, (reached.0 + 1, subst (λ (h : ℕ). IsReached image ObjectHeader h (reached.0 + 1)) (sym p.3) next.2))

  -- an object to which the names of a path lead from one that is reached
  path_reached : (path : List (List ℕ)) (o p : Placed) → In o placed → In p placed → HeaderReached o → follow tree (ToObject o.number) path ≡ Some (ToObject p.number)
      → HeaderReached p
  path_reached [] o p at at_p reached leads =
      let number : o.number ≡ p.number = cc in
      let both : Some o.header ≡ Some p.header
      = sym (in_table image table tree placed reads o at) ∙ ap (get table) number ∙ in_table image table tree placed reads p at_p in
      let same : o.header ≡ p.header = cc in
      (reached.0, subst (λ (h : ℕ). IsReached image ObjectHeader h reached.0) same reached.1)
  path_reached (name ∷ path) o p at at_p reached leads =
      let first = first_link tree o.number p.number name path leads in
      let next = next_reached o at reached first.0 first.2 name first.1 first.3 in
      path_reached path next.0 p next.1 at_p next.3 (subst (λ (m : ℕ). follow tree (ToObject m) path ≡ Some (ToObject p.number)) (sym next.2) first.4)

  root_reached : Reached image (naming_of (root_header_place image) ObjectHeader (root_header image) 0)
  root_reached = by_superblock reads.superblock.whole refl

  -- each object's header
  pub all_reached : (p : Placed) → In p placed → HeaderReached p
  all_reached p at =
      let root = object_at image table tree placed reads 0 (root_header image) reads.root in
      let path = reads.reached p.number (ap is_some (in_tree image table tree placed reads p at)) in
      path_reached path.0 root.0 p root.1 at (0, subst (λ (h : ℕ). IsReached image ObjectHeader h 0) (sym root.3) (root_header_place image, root_reached))
      (subst (λ (m : ℕ). follow tree (ToObject m) path.0 ≡ Some (ToObject p.number)) (sym root.2) path.1)

  -- ---- fields that name headers

  abbrev IsNaming : ℕ × ℕ → Type 0
  IsNaming z = (depth : ℕ) × Reached image (naming_of z.0 ObjectHeader z.1 depth)

  entry_field : (z : ℕ × ℕ) (node i : ℕ) → In z (entry_link image node i) → ((entry_in image node i).cache ≢ 2) × ((node + 16 + 40 * i, (entry_in image node i).header) ≡ z)
  entry_field z node i at = go ((entry_in image node i).cache == 2) refl at where
    go : (b : Bool) → ((entry_in image node i).cache == 2) ≡ b → In z (if b then [] else (node + 16 + 40 * i, (entry_in image node i).header) ∷ [])
        → ((entry_in image node i).cache ≢ 2) × ((node + 16 + 40 * i, (entry_in image node i).header) ≡ z)
    go true e there = absurd there
    go false e (inl same) =
        ((λ soft. let text : ((entry_in image node i).cache == 2) ≡ true = grind (arith, nat_tests, soft) in let never : false ≡ true = sym e ∙ text in absurd (cc)), same)
    go false e (inr none) = absurd none

  object_naming : (o : Placed) (at : In o placed) (has : HasObject image table o.header o.object o.blocks) (z : ℕ × ℕ) → In z (object_links image has.messages) → IsNaming z
  object_naming o at has z there = elim (content_cases image table has.messages o.object.content has.content_blocks has.content) [
    | inr d ↦ absurd (subst (In z) (no_links image has.messages d.0 has.content_blocks d.2) there)
    | inl group ↦
        let g = reached_group o at has group.0 group.1 in
        let reached = all_reached o at in
        let header = subst (λ (p : Placed). IsReached image ObjectHeader p.header reached.0) (sym g.4) reached.1 in
        let node = from_flat (node_links image) z g.3.linked.symbol_nodes (subst (In z) g.6 there) in
        let i = from_flat (entry_link image node.0) z (range_with_len 0 (symbols_in (symbol_bytes image (leaf_k image) node.0))) node.2 in
        let place = from_range 0 (symbols_in (symbol_bytes image (leaf_k image) node.0)) i.0 i.1 in
        let low : i.0 < symbols_in (symbol_bytes image (leaf_k image) node.0) = omega (arith, place.1, place.2) in
        let field = entry_field z node.0 i.0 i.2 in
        let y = entry_reached image table tree placed reads g.0 reached.0 g.1 g.2 g.3 header node.0 i.0 node.1 low field.0 in
        (reached.0 + 1, subst (λ (w : ℕ × ℕ). Reached image (naming_of w.0 ObjectHeader w.1 (reached.0 + 1))) field.1 y)
  ]

  placed_naming : (some : List Placed) (each : AllByRecursion (IsPlaced image table) some) → ((o : Placed) → In o some → In o placed) → (z : ℕ × ℕ)
      → In z (placed_links image table some each) → IsNaming z
  placed_naming [] each sub z at = absurd at
  placed_naming (x ∷ some) each sub z at = elim (in_either z (object_links image each.0.messages) (placed_links image table some each.1) at) [
    | inl here ↦ object_naming x (sub x (inl refl)) each.0 z here
    | inr later ↦ placed_naming some each.1 (λ o there. sub o (inr there)) z later
  ]

  -- each of them names a header that is reached
  pub link_reached : (z : ℕ × ℕ) → In z (all_links image table placed reads.each) → IsNaming z
  link_reached z (inl same) = (0, subst (λ (w : ℕ × ℕ). Reached image (naming_of w.0 ObjectHeader w.1 0)) same root_reached)
  link_reached z (inr at) = placed_naming placed reads.each (λ o there. there) z at
