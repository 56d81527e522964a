-- With two tables of headers, an image reads as trees that differ in the numbers of their objects alone.
use Rattle.std.proofs.Common.{◌≡◌, ℕ, Bool, true, false, List, [], ◌∷◌, map, refl, sym, ap, ap₂, ◌∙◌, subst, arith, Option, Some, inl, inr}
use Rattle.std.specs.Prelude.{IsSome, is_some, ◌==◌, if◌then◌else◌}
use Rattle.std.specs.Option.{option_map_or}
use Rattle.std.specs.Ordering.{nat_cmp}
use Rattle.std.specs.Cmp.{nat_cmp_total}
use Rattle.std.specs.FinMap.{FinMap, get, entries}
use Rattle.std.specs.List.{AllZip, filter}
use Rattle.h5_bytes.specs.declared.Block.{Block}
use Rattle.h5_model.specs.Format.Messages.{Message}
use Rattle.h5_model.specs.Format.Symbols.{Target, Header, Text}
use Rattle.h5_model.specs.Format.Reads.{Placed, IsSame, HasAttributes, HasContent, HasObject, Holds, ReadsAs, is_kept, kept_of}
use Rattle.h5_model.specs.Tree.Objects.{Tree, Object, Content, Group, Array, Link, ToObject, Soft}
use Rattle.h5_model.specs.Tree.Renumbered.{renumbered_link, IsRenumbered}
use Rattle.h5_model.proofs.RowLaws.{same_number, equal_number}
use Rattle.h5_model.proofs.OneReading.{one_messages, one_group, one_dataset, one_attributes, no_table}
use Rattle.h5_laws.proofs.Lists.{In}
use Rattle.h5_laws.proofs.Maps.{entry_of_get, get_of_entry, value_of}
use Rattle.h5_laws.proofs.Objects.{has_object, object_at, in_tree, in_table}
use Rattle.h5_laws.proofs.Steps.{located}
use Rattle.h5_laws.proofs.AllReached.{all_reached}
use Rattle.h5_laws.proofs.SoundLaws.Read.{placed_at}
use Rattle.h5_laws.specs.Readings.{ReadsAlike}

-- ---- numbers by header

-- the number that is listed with a header
abbrev holder : List (ℕ × ℕ) → ℕ → ℕ
holder [] header = 0
holder (e ∷ es) header = if e.1 == header then e.0 else holder es header

holder_in : (es : List (ℕ × ℕ)) (number header : ℕ) → In (number, header) es → In (holder es header, header) es
holder_in [] number header at = absurd at
holder_in (e ∷ es) number header at = go (λ rest. holder_in es number header rest) (e.1 == header) refl where
  later : (e.1 == header) ≡ false → In (number, header) (e ∷ es) → In (number, header) es
  later other (inl same) =
      let never : true ≡ false = sym (same_number header) ∙ ap (λ (x : ℕ × ℕ). x.1 == header) (sym same) ∙ other in absurd (cc)
  later other (inr rest) = rest

  go : (In (number, header) es → In (holder es header, header) es) → (b : Bool) → (e.1 == header) ≡ b → In (if b then e.0 else holder es header, header) (e ∷ es)
  go below true is = inl (ap (λ (h : ℕ). (e.0, h)) (equal_number e.1 header is))
  go below false is = inr (below (later is at))

-- the number that the second table has for the object at this number of the first
abbrev renumber : FinMap nat_cmp ℕ → FinMap nat_cmp ℕ → ℕ → ℕ
renumber table table' number = option_map_or (holder (entries table')) (get table number) 0

-- ---- one reading

module _ (image : List ℕ) (table : FinMap nat_cmp ℕ) (tree : Tree) (placed : List Placed) (reads : ReadsAs image table tree placed) where
  -- the object with the header has this number
  numbered_by : (other : FinMap nat_cmp ℕ) (a b header : ℕ) → get other a ≡ Some header → get table b ≡ Some header → renumber other table a ≡ b
  numbered_by other a b header there here =
      let listed = get_of_entry nat_cmp_total table (holder (entries table) header) header (holder_in (entries table) b header (entry_of_get table b header here)) in
      ap (λ (o : Option ℕ). option_map_or (holder (entries table)) o 0) there ∙ reads.holds.own (holder (entries table) header) b header listed here

  header_of : (number : ℕ) → IsSome (get tree number) → (header : ℕ) × (get table number ≡ Some header)
  header_of number some =
      let o = value_of (get tree number) some in
      let by = placed_at image table tree placed reads number o.0 o.1 in
      (by.0.header, ap (get table) (sym by.2) ∙ in_table image table tree placed reads.holds by.0 by.1)

  stands : (number header : ℕ) → get table number ≡ Some header → IsSome (get tree number)
  stands number header at =
      let by = object_at image table tree placed reads.holds number header at in
      subst (λ (n : ℕ). IsSome (get tree n)) by.2 (ap (λ (o : Option Object). is_some o) (in_tree image table tree placed reads.holds by.0 by.1))

-- ---- two readings

-- the header of each object of one tree is reached, so it is a header of the other
pub shared : (image : List ℕ) (table table' : FinMap nat_cmp ℕ) (tree tree' : Tree) (placed placed' : List Placed)
    → Holds image table tree placed → Holds image table' tree' placed'
    → (number header : ℕ) → get table number ≡ Some header → (other : ℕ) × (get table' other ≡ Some header)
shared image table table' tree tree' placed placed' holds holds' number header at =
    let o = object_at image table tree placed holds number header at in
    let reached = all_reached image table tree placed holds o.0 o.1 in
    let known = (located image table' tree' placed' holds' reached.1.1).0 in
    (known.0.o.number, in_table image table' tree' placed' holds' known.0.o known.0.member ∙ ap (λ (h : ℕ). Some h) (known.1 ∙ o.3))

module _ (image : List ℕ) (table table' : FinMap nat_cmp ℕ) (tree tree' : Tree) (placed placed' : List Placed)
    (reads : ReadsAs image table tree placed) (reads' : ReadsAs image table' tree' placed') where
  abbrev there : ℕ → ℕ
  there = renumber table table'

  -- ---- one header

  same_link : (l m : List ℕ × Link) (f : List ℕ × Target) → IsSame table l f → IsSame table' m f → m ≡ (l.0, renumbered_link there l.1)
  same_link (name, ToObject a) (name', ToObject b) (name'', Header h) left right =
      ap₂ (λ (x : List ℕ) (n : ℕ). (x, ToObject n)) (right.0 ∙ sym left.0) (sym (numbered_by image table' tree' placed' reads' table a b h left.1 right.1))
  same_link (name, ToObject a) (name', m) (name'', Text text) left right = absurd left
  same_link (name, ToObject a) (name', Soft text) (name'', Header h) left right = absurd right
  same_link (name, Soft text) (name', m) (name'', Header h) left right = absurd left
  same_link (name, Soft text) (name', ToObject b) (name'', Text text') left right = absurd right
  same_link (name, Soft text) (name', Soft text') (name'', Text text'') left right =
      ap₂ (λ (x y : List ℕ). (x, Soft y)) (right.0 ∙ sym left.0) (right.1 ∙ sym left.1)

  same_links : (ls ms : List (List ℕ × Link)) (found : List (List ℕ × Target)) → AllZip (IsSame table) ls found → AllZip (IsSame table') ms found
      → ms ≡ map (λ e. (e.0, renumbered_link there e.1)) ls
  same_links [] [] found left right = refl
  same_links [] (m ∷ ms) [] left right = absurd right
  same_links [] (m ∷ ms) (f ∷ found) left right = absurd left
  same_links (l ∷ ls) ms [] left right = absurd left
  same_links (l ∷ ls) [] (f ∷ found) left right = absurd right
  same_links (l ∷ ls) (m ∷ ms) (f ∷ found) left right =
      ap₂ (λ (e : List ℕ × Link) (es : List (List ℕ × Link)). e ∷ es) (same_link l m f left.0 right.0) (same_links ls ms found left.1 right.1)

  same_content : (ms : List Message) (a b : Content) (bs cs : List Block) → HasContent image table ms a bs → HasContent image table' ms b cs → IsRenumbered there a b
  same_content ms (Group l) (Group m) bs cs has has' =
      let both : has'.0 ≡ has.0 = one_group image ms has'.0 has.0 cs bs has'.1 has.1 in
      same_links (entries l) (entries m) has.0 has.2 (subst (AllZip (IsSame table') (entries m)) both has'.2)
  same_content ms (Group l) (Array d) bs cs has has' = absurd (omega (arith, has.1.once, no_table ms has'.known))
  same_content ms (Array d) (Group l) bs cs has has' = absurd (omega (arith, has'.1.once, no_table ms has.known))
  same_content ms (Array d) (Array e) bs cs has has' = one_dataset image ms d e bs cs has has'

  -- what objects at one header have in common
  abbrev IsAlike : Object → Object → Type 0
  IsAlike x y = IsRenumbered there x.content y.content × (x.attributes ≡ y.attributes) × (x.kept ≡ y.kept)

  same_object : (header : ℕ) (x y : Object) (bs cs : List Block) → HasObject image table header x bs → HasObject image table' header y cs → IsAlike x y
  same_object header x y bs cs has has' =
      let messages : has'.messages ≡ has.messages = one_messages image header has'.messages has.messages has'.header_blocks has.header_blocks has'.listed has.listed in
      let content : HasContent image table' has.messages y.content has'.content_blocks
      = subst (λ (ms : List Message). HasContent image table' ms y.content has'.content_blocks) messages has'.content in
      let attributes : HasAttributes has.messages y.attributes = subst (λ (ms : List Message). HasAttributes ms y.attributes) messages has'.attributes in (
        same_content has.messages x.content y.content has.content_blocks has'.content_blocks has.content content,
        one_attributes has.messages x.attributes y.attributes has.attributes attributes,
        has.kept ∙ ap (λ (ms : List Message). map kept_of (filter is_kept ms)) (sym messages) ∙ sym has'.kept,
      )

  -- ---- all objects

  each : (number : ℕ) (x : Object) → get tree number ≡ Some x → (y : Object) × (get tree' (there number) ≡ Some y)
      × IsRenumbered there x.content y.content × (x.attributes ≡ y.attributes) × (x.kept ≡ y.kept)
  each number x is =
      let p = placed_at image table tree placed reads number x is in
      let at = ap (get table) (sym p.2) ∙ in_table image table tree placed reads.holds p.0 p.1 in
      let other = shared image table table' tree tree' placed placed' reads.holds reads'.holds number p.0.header at in
      let q = object_at image table' tree' placed' reads'.holds other.0 p.0.header other.1 in
      let has = subst (λ (o : Object). HasObject image table p.0.header o p.0.blocks) p.3 (has_object image table tree placed reads.holds p.0 p.1) in
      let has' = subst (λ (h : ℕ). HasObject image table' h q.0.object q.0.blocks) q.3 (has_object image table' tree' placed' reads'.holds q.0 q.1) in
      let alike = same_object p.0.header x q.0.object p.0.blocks q.0.blocks has has' in
      let here = numbered_by image table' tree' placed' reads' table number other.0 p.0.header at other.1 in
      (q.0.object, ap (get tree') (here ∙ sym q.2) ∙ in_tree image table' tree' placed' reads'.holds q.0 q.1, alike.0, alike.1, alike.2)

  turned : (number : ℕ) → IsSome (get tree number) → (renumber table' table (there number) ≡ number) × IsSome (get tree' (there number))
  turned number some =
      let h = header_of image table tree placed reads number some in
      let other = shared image table table' tree tree' placed placed' reads.holds reads'.holds number h.0 h.1 in
      let here = numbered_by image table' tree' placed' reads' table number other.0 h.0 h.1 other.1 in (
        ap (renumber table' table) here ∙ numbered_by image table tree placed reads table' other.0 number h.0 other.1 h.1,
        subst (λ (n : ℕ). IsSome (get tree' n)) (sym here) (stands image table' tree' placed' reads' other.0 h.0 other.1),
      )

pub reads_alike : ReadsAlike
reads_alike image table table' tree tree' (placed, reads) (placed', reads') = record {
  there = renumber table table';
  back = renumber table' table;
  root = numbered_by image table' tree' placed' reads' table 0 0 _ reads.holds.root reads'.holds.root;
  forth_back = λ number some. (turned image table table' tree tree' placed placed' reads reads' number some).0;
  back_forth = turned image table' table tree' tree placed' placed reads' reads;
  each = each image table table' tree tree' placed placed' reads reads';
}
