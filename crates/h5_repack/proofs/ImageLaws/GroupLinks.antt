-- The links of a group as they are written are plain links: their names ascend, and they lead where the tree says.
use Rattle.std.proofs.Common.{◌≡◌, ℕ, ◌+◌, ◌*◌, ◌^◌, ◌≤◌, ◌<◌, List, [], ◌∷◌, map, length, refl, sym, ap, ◌∙◌, subst, arith, inl, inr, true, false, Option, Some, None}
use Rattle.std.proofs.lemmas.List.{length-map}
use Rattle.std.proofs.lemmas.Simd.{map-map}
use Rattle.std.specs.Prelude.{T, is_some}
use Rattle.std.specs.Ordering.{nat_cmp, is_lt}
use Rattle.std.specs.Cmp.Lexicographic.{slice_cmp, nat_list_cmp_total}
use Rattle.std.specs.FinMap.{FinMap, get, entries, len, len-entries, is_sorted, entries_sorted}
use Rattle.std.specs.FinMap.Entries.{below_all}
use Rattle.std.specs.List.{AllByRecursion, AllZip}
use Rattle.std.specs.Option.{option_map_or, option_and_then}
use Rattle.h5_model.specs.Format.Limits.{most_bytes, highest_level}
use Rattle.h5_model.specs.Format.Links.{Before, Ascend}
use Rattle.h5_model.specs.Tree.Paths.{is_name}
use Rattle.h5_model.specs.Format.PlainLength.{content_bytes, group_bytes, nodes_over, rows_of, plain_segment_size}
use Rattle.h5_model.specs.Format.Reads.{IsSame}
use Rattle.h5_model.specs.Edits.Refusal.{has_zero}
use Rattle.h5_model.specs.Format.Sizes.{group_node, symbol_node, header_size}
use Rattle.h5_model.specs.Format.Symbols.{Target, Header}
use Rattle.h5_model.specs.Tree.Objects.{Tree, Object, Content, Group, Array, Link, Links, ToObject, Soft, link_in, links_in}
use Rattle.h5_model.proofs.ReachLaws.{halves}
use Rattle.h5_laws.proofs.Lists.{In}
use Rattle.h5_laws.proofs.Maps.{true_of, value_of, get_of_entry}
use Rattle.h5_btree.specs.Writing.Written.{root_level}
use Rattle.h5_group.specs.Heap.Laws.{IsLead, IsSpelled}
use Rattle.h5_group.specs.Heap.Links.{Leads, ToGroup, ToArray, ToText, target_of_leads, target_link}
use Rattle.h5_model.specs.Format.Superblock.{AreK}
use Rattle.h5_laws.specs.Trees.Sound.{IsSoundTree}
use Rattle.h5_group.specs.Writing.Laws.{ArePlainLinks, IsLinkWritten, LinksLength, GroupLength}
use Rattle.h5_group.specs.Writing.Written.{links_bytes}
use Rattle.h5_group.proofs.PutTexts.{no_zero}
use Rattle.h5_repack.specs.Image.Written.{object_length, header_in, leads_to_object, content_place, group_heap_place, written_link, written_links}
use Rattle.h5_repack.proofs.ImageLaws.BareLinks.{bare, length-bare}
use Rattle.h5_model.specs.declared.k_values.KValues.{KValues}

-- ---- lists

all_made : {X Y : Type 0} (P : Y → Type 0) (f : X → Y) (xs : List X) → ((x : X) → In x xs → P (f x)) → AllByRecursion P (map f xs)
all_made P f [] each = tt
all_made P f (x ∷ xs) each = (each x (inl refl), all_made P f xs (λ y at. each y (inr at)))

zip_made : {X Y : Type 0} (R : X → Y → Type 0) (f : X → Y) (xs : List X) → ((x : X) → In x xs → R x (f x)) → AllZip R xs (map f xs)
zip_made R f [] each = tt
zip_made R f (x ∷ xs) each = (each x (inl refl), zip_made R f xs (λ y at. each y (inr at)))

-- ---- names

-- names in order ascend, whatever stands beside them
ascend_made : (f : List ℕ × Link → List ℕ × Target) → ((e : List ℕ × Link) → (f e).0 ≡ e.0) → (es : List (List ℕ × Link)) → T (is_sorted (slice_cmp nat_cmp) es) → Ascend (map f es)
ascend_made f same [] h = tt
ascend_made f same (a ∷ []) h = tt
ascend_made f same (a ∷ b ∷ es) h =
    let parts : T (below_all (slice_cmp nat_cmp) a.0 (b ∷ es)) × T (is_sorted (slice_cmp nat_cmp) (b ∷ es)) = halves _ _ h in
    let first : T (is_lt (slice_cmp nat_cmp a.0 b.0)) = (halves (is_lt (slice_cmp nat_cmp a.0 b.0)) (below_all (slice_cmp nat_cmp) a.0 es) parts.0).0 in
    let before : Before a.0 b.0 = true_of (is_lt (slice_cmp nat_cmp a.0 b.0)) first in
    ((λ i. is_lt (slice_cmp nat_cmp (same a i) (same b i))) ∙ before, ascend_made f same (b ∷ es) parts.1)

-- ---- where links lead

leads_group : (k : KValues) (o : Object) (links : Links) (h : ℕ) → o.content ≡ Group links
    → leads_to_object k o h ≡ ToGroup h (content_place o h) (group_heap_place k o links h)
leads_group k o links h e = rw e refl

leads_array : (k : KValues) (o : Object) (h : ℕ) (c : Content) → o.content ≡ c → (links_in c ≡ None) → leads_to_object k o h ≡ ToArray h
leads_array k o h (Group links) e none = absurd (cc)
leads_array k o h (Array d) e none = rw e refl

-- the heap of a group ends with it
heap_within : (n s x h hs all : ℕ) → all ≡ n + 32 + s + x → h + (hs + all) ≤ most_bytes → h + hs + n < 2 ^ 32
heap_within n s x h hs all is low = omega arith

-- a link to an object that ends low leads there
lead_to : (k : KValues) (count : ℕ) (o : Object) (h : ℕ) (c : Content) → o.content ≡ c → h + object_length k count o ≤ most_bytes
    → IsLead (leads_to_object k o h) × (target_of_leads (leads_to_object k o h) ≡ Header h)
lead_to k count o h (Group links) e low =
    let leads = leads_group k o links h e in
    let heap_low : group_heap_place k o links h < 2 ^ 32
    = heap_within (nodes_over 64 (2 * k.internal) (rows_of (2 * k.leaf) (len links)) * group_node k.internal) (plain_segment_size links)
    (rows_of (2 * k.leaf) (len links) * symbol_node k.leaf) h (header_size o) (content_bytes k count o.content)
    (ap (content_bytes k count) e) low in (
      subst IsLead (sym leads) (omega (arith, low), omega (arith, low), heap_low),
      ap target_of_leads leads,
    )
lead_to k count o h (Array d) e low =
    let leads = leads_array k o h (Array d) e refl in
    (subst IsLead (sym leads) (omega (arith, low)), ap target_of_leads leads)

-- ---- the links of a tree's group

-- the objects of the tree stand where the table says, below this end
abbrev pub ArePlaced : KValues → (ℕ → ℕ) → Tree → FinMap nat_cmp ℕ → ℕ → Type 0
ArePlaced k counts tree table end = (n : ℕ) (o : Object) → get tree n ≡ Some o
    → (place : ℕ) × (get table n ≡ Some place) × (place + object_length k (counts n) o ≤ end)

pub header_is : (table : FinMap nat_cmp ℕ) (n place : ℕ) → get table n ≡ Some place → header_in table n ≡ place
header_is table n place e = ap (λ (r : Option ℕ). option_map_or (λ h. h) r 0) e

-- a link to an object leads to no text
no_text : (k : KValues) (r : Option Object) (h : ℕ) (text : List ℕ) → option_map_or (λ (x : Object). leads_to_object k x h) r (ToArray 0) ≡ ToText text → ⊥
no_text k None h text e = absurd (cc)
no_text k (Some o) h text e = by_content o.content refl where
  by_content : (c : Content) → o.content ≡ c → ⊥
  by_content (Group links) is = let lead = leads_group k o links h is in absurd (cc)
  by_content (Array d) is = let lead = leads_array k o h (Array d) is refl in absurd (cc)

module _ (k : KValues) (tree : Tree) (table : FinMap nat_cmp ℕ) (sound : IsSoundTree tree) where
  abbrev as_written : List ℕ × Link → List ℕ × Leads
  as_written e = written_link k tree table e

  same_name : (e : List ℕ × Link) → (target_link (as_written e)).0 ≡ e.0
  same_name (name, ToObject n) = refl
  same_name (name, Soft text) = refl

  module _ (number : ℕ) (o : Object) (links : Links) (is : get tree number ≡ Some o) (group : o.content ≡ Group links) where
    -- a link of the group is one of the tree
    link_is : (e : List ℕ × Link) → In e (entries links) → link_in tree number e.0 ≡ Some e.1
    link_is e at =
        ap (λ (r : Option Object). option_and_then (λ (l : Links). get l e.0) (option_and_then (λ (x : Object). links_in x.content) r)) is
        ∙ ap (λ (c : Content). option_and_then (λ (l : Links). get l e.0) (links_in c)) group
        ∙ get_of_entry nat_list_cmp_total links e.0 e.1 at

    named : (e : List ℕ × Link) → In e (entries links) → is_name e.0 ≡ true
    named e at = sound.named number e.0 (ap is_some (link_is e at))

    found : (name : List ℕ) (n : ℕ) → In (name, ToObject n) (entries links) → (x : Object) × (get tree n ≡ Some x)
    found name n at = value_of (get tree n) (sound.linked number n name (link_is (name, ToObject n) at))

    no_zero_text : (name text : List ℕ) → In (name, Soft text) (entries links) → has_zero text ≡ false
    no_zero_text name text at = sound.spelled number name text (link_is (name, Soft text) at)

    abbrev written : List (List ℕ × Leads)
    written = written_links k tree table links

    pub length-written : length written ≡ len links
    length-written = length-map (entries links) as_written ∙ sym (len-entries links)

    -- ---- how they are spelled

    each_named : (e : List ℕ × Link) → In e (entries links) → is_name (as_written e).0 ≡ true
    each_named (name, ToObject n) at = named (name, ToObject n) at
    each_named (name, Soft text) at = named (name, Soft text) at

    each_written : (e : List ℕ × Link) → In e (entries links) → IsLinkWritten e (as_written e)
    each_written (name, ToObject n) at = by_lead (option_map_or (λ (x : Object). leads_to_object k x (header_in table n)) (get tree n) (ToArray 0)) (no_text k (get tree n) (header_in table n)) where
      by_lead : (l : Leads) → ((t : List ℕ) → l ≡ ToText t → ⊥) → IsLinkWritten (name, ToObject n) (name, l)
      by_lead (ToGroup h t p) never = refl
      by_lead (ToArray h) never = refl
      by_lead (ToText t) never = absurd (never t refl)
    each_written (name, Soft text) at = (refl, refl)

    pub all_written : AllZip IsLinkWritten (entries links) written
    all_written = zip_made IsLinkWritten as_written (entries links) each_written

    -- ---- without addresses

    bare_name : (l : List ℕ × Leads) → (bare l).0 ≡ l.0
    bare_name (name, ToGroup h t p) = refl
    bare_name (name, ToArray h) = refl
    bare_name (name, ToText text) = refl

    bare_same_name : (e : List ℕ × Link) → (target_link (bare (as_written e))).0 ≡ e.0
    bare_same_name e = bare_name (as_written e) ∙ same_name e

    bare_named : (e : List ℕ × Link) → In e (entries links) → is_name (bare (as_written e)).0 ≡ true
    bare_named e at = ap is_name (bare_name (as_written e)) ∙ each_named e at

    bare_spelled : (e : List ℕ × Link) → In e (entries links) → IsSpelled (bare (as_written e))
    bare_spelled (name, ToObject n) at = by_lead (option_map_or (λ (x : Object). leads_to_object k x (header_in table n)) (get tree n) (ToArray 0)) (no_text k (get tree n) (header_in table n)) where
      by_lead : (l : Leads) → ((t : List ℕ) → l ≡ ToText t → ⊥) → IsSpelled (bare (name, l))
      by_lead (ToGroup h t p) never = (no_zero name (named (name, ToObject n) at), (omega arith, omega arith, omega arith))
      by_lead (ToArray h) never = (no_zero name (named (name, ToObject n) at), omega arith)
      by_lead (ToText t) never = absurd (never t refl)
    bare_spelled (name, Soft text) at = (no_zero name (named (name, Soft text) at), no_zero_text name text at)

    bare_written : (e : List ℕ × Link) → IsLinkWritten e (as_written e) → IsLinkWritten e (bare (as_written e))
    bare_written (name, ToObject n) is_written = by_lead (option_map_or (λ (x : Object). leads_to_object k x (header_in table n)) (get tree n) (ToArray 0)) is_written where
      by_lead : (l : Leads) → IsLinkWritten (name, ToObject n) (name, l) → IsLinkWritten (name, ToObject n) (bare (name, l))
      by_lead (ToGroup h t p) e = e
      by_lead (ToArray h) e = e
      by_lead (ToText t) e = absurd e
    bare_written (name, Soft text) is_written = is_written

    abbrev bare_links : List (List ℕ × Leads)
    bare_links = map (λ (e : List ℕ × Link). bare (as_written e)) (entries links)

    plain_bare_links : AreK k.leaf k.internal → root_level k.internal (rows_of (2 * k.leaf) (len links)) ≤ highest_level → ArePlainLinks k.leaf k.internal bare_links
    plain_bare_links range low = record {
      k = range;
      ascending = subst Ascend (sym (map-map target_link (λ (e : List ℕ × Link). bare (as_written e)) (entries links)))
          (ascend_made (λ (e : List ℕ × Link). target_link (bare (as_written e))) bare_same_name (entries links) (entries_sorted links));
      named = all_made (λ (l : List ℕ × Leads). is_name l.0 ≡ true) (λ (e : List ℕ × Link). bare (as_written e)) (entries links) bare_named;
      spelled = all_made IsSpelled (λ (e : List ℕ × Link). bare (as_written e)) (entries links) bare_spelled;
      low = subst (λ (n : ℕ). root_level k.internal (rows_of (2 * k.leaf) n) ≤ highest_level) (sym (length-map (entries links) (λ (e : List ℕ × Link). bare (as_written e)) ∙ sym (len-entries links))) low;
    }

    -- so they are as long as the group's links, wherever they lead
    pub length-links : LinksLength → GroupLength → (at : ℕ) → AreK k.leaf k.internal → root_level k.internal (rows_of (2 * k.leaf) (len links)) ≤ highest_level
        → length (links_bytes k.leaf k.internal at written) ≡ group_bytes k.leaf k.internal links
    length-links links_length_is group_length at range low =
        sym (length-bare k.leaf k.internal at written)
        ∙ ap (λ (ls : List (List ℕ × Leads)). length (links_bytes k.leaf k.internal at ls)) (map-map bare as_written (entries links))
        ∙ links_length_is k.leaf k.internal at bare_links (plain_bare_links range low)
        ∙ group_length k.leaf k.internal links bare_links (zip_made IsLinkWritten (λ (e : List ℕ × Link). bare (as_written e)) (entries links) (λ e there. bare_written e (each_written e there)))

  -- ---- where they lead

  module _ (counts : ℕ → ℕ) (end : ℕ) (placed : ArePlaced k counts tree table end) (fits_in : end ≤ most_bytes) where
    -- where a link to an object leads
    object_lead : (n : ℕ) (o : Object) → get tree n ≡ Some o
        → IsLead (option_map_or (λ (x : Object). leads_to_object k x (header_in table n)) (get tree n) (ToArray 0))
        × (target_of_leads (option_map_or (λ (x : Object). leads_to_object k x (header_in table n)) (get tree n) (ToArray 0)) ≡ Header (header_in table n))
        × (get table n ≡ Some (header_in table n))
    object_lead n o is =
        let at = placed n o is in
        let here = header_is table n at.0 at.1 in
        let lead : IsLead (leads_to_object k o (header_in table n)) × (target_of_leads (leads_to_object k o (header_in table n)) ≡ Header (header_in table n))
        = lead_to k (counts n) o (header_in table n) o.content refl (omega (arith, here, at.2)) in
        let chosen : option_map_or (λ (x : Object). leads_to_object k x (header_in table n)) (get tree n) (ToArray 0) ≡ leads_to_object k o (header_in table n)
        = ap (λ (r : Option Object). option_map_or (λ (x : Object). leads_to_object k x (header_in table n)) r (ToArray 0)) is in
        (subst IsLead (sym chosen) lead.0, ap target_of_leads chosen ∙ lead.1, at.1 ∙ ap (λ (h : ℕ). Some h) (sym here))

    module _ (number : ℕ) (o : Object) (links : Links) (is : get tree number ≡ Some o) (group : o.content ≡ Group links) where
      each_spelled : (e : List ℕ × Link) → In e (entries links) → IsSpelled (as_written e)
      each_spelled (name, ToObject n) at =
          let x = found number o links is group name n at in
          (no_zero name (named number o links is group (name, ToObject n) at), (object_lead n x.0 x.1).0)
      each_spelled (name, Soft text) at =
          (no_zero name (named number o links is group (name, Soft text) at), no_zero_text number o links is group name text at)

      -- each leads where the tree says
      each_same : (e : List ℕ × Link) → In e (entries links) → IsSame table e (target_link (as_written e))
      each_same (name, ToObject n) at =
          let x = found number o links is group name n at in
          let lead = object_lead n x.0 x.1 in
          subst (λ (t : Target). IsSame table (name, ToObject n) (name, t)) (sym lead.1) (refl, lead.2)
      each_same (name, Soft text) at = (refl, refl)

      pub plain_links : AreK k.leaf k.internal → root_level k.internal (rows_of (2 * k.leaf) (len links)) ≤ highest_level → ArePlainLinks k.leaf k.internal (written_links k tree table links)
      plain_links range low = record {
        k = range;
        ascending = subst Ascend (sym (map-map target_link as_written (entries links))) (ascend_made (λ (e : List ℕ × Link). target_link (as_written e)) same_name (entries links) (entries_sorted links));
        named = all_made (λ (l : List ℕ × Leads). is_name l.0 ≡ true) as_written (entries links) (each_named number o links is group);
        spelled = all_made IsSpelled as_written (entries links) each_spelled;
        low = subst (λ (n : ℕ). root_level k.internal (rows_of (2 * k.leaf) n) ≤ highest_level) (sym (length-written number o links is group)) low;
      }

      pub same_links : AllZip (IsSame table) (entries links) (map target_link (written_links k tree table links))
      same_links = subst (AllZip (IsSame table) (entries links)) (sym (map-map target_link as_written (entries links)))
          (zip_made (IsSame table) (λ (e : List ℕ × Link). target_link (as_written e)) (entries links) each_same)
