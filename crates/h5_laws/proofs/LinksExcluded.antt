-- Too many links to a header, and two to that of a group, exclude the reading.
use Rattle.std.proofs.Common.{◌≡◌, ◌≢◌, inl, inr, ℕ, ◌+◌, ◌≤◌, List, [], ◌∷◌, refl, sym, ap, ◌∙◌, subst, arith, true, false, Bool}
use Rattle.std.proofs.lemmas.Bool.Decides.{nat_tests}
use Rattle.std.specs.Prelude.{◌==◌, IsTrue, if◌then◌else◌, is_some}
use Rattle.std.specs.Option.{option_and_then}
use Rattle.std.specs.Ordering.{nat_cmp}
use Rattle.std.specs.FinMap.{FinMap}
use Rattle.h5_bytes.specs.declared.Block.{Block}
use Rattle.h5_model.specs.Format.Limits.{most_hard_links}
use Rattle.h5_model.specs.Format.MessageTypes.{symbol_table_kind}
use Rattle.h5_model.specs.Format.Messages.{Message}
use Rattle.h5_model.specs.Tree.Objects.{Tree, Object, Content, Group, Array, hard_links, links_of, links_in}
use Rattle.h5_model.specs.Format.Reads.{Placed, ReadsAs, IsCounted, IsGroup, HasContent, Holds}
use Rattle.h5_model.specs.Format.Reached.{Named, Reached, kind_at}
use Rattle.h5_model.specs.Faults.HeaderFaults.{SomeMessage}
use Rattle.h5_model.specs.Faults.Breaches.{AreLinkFields, IsLinkedTwice, IsLinkedTooOften}
use Rattle.h5_laws.proofs.Lists.{In, in_all}
use Rattle.h5_laws.proofs.Objects.{in_tree, of_dataset_kind}
use Rattle.h5_laws.proofs.Steps.{header_inside}
use Rattle.h5_laws.proofs.MetExcluded.{met_head}
use Rattle.h5_laws.proofs.Breaches.{header_known}
use Rattle.h5_laws.proofs.Pigeonhole.{apart_of_distinct}
use Rattle.h5_laws.proofs.LinkFields.{all_links}
use Rattle.h5_laws.proofs.LinkCounts.{counts, reached_link, linked_fields, fields_bound}

-- a content with a Symbol Table message is a group's
table_is_group : (image : List ℕ) (table : FinMap nat_cmp ℕ) (ms : List Message) (c : Content) (blocks : List Block)
    → HasContent image table ms c blocks → (m : Message) → In m ms → m.kind ≡ symbol_table_kind → IsGroup c
table_is_group image table ms (Group links) blocks has m at is = tt
table_is_group image table ms (Array d) blocks has m at is = absurd (let never : false ≡ true = of_dataset_kind ms m symbol_table_kind has.known at is in cc)

links_are_group : (c : Content) → is_some (links_in c) ≡ true → IsGroup c
links_are_group (Group links) h = tt
links_are_group (Array d) h = absurd (let never : false ≡ true = h in cc)

module _ (image : List ℕ) (table : FinMap nat_cmp ℕ) (tree : Tree) (placed : List Placed) (reads : ReadsAs image table tree placed) where
  abbrev stands : Holds image table tree placed
  stands = reads.holds

  root_is_group : (o : Placed) → In o placed → o.number ≡ 0 → IsGroup o.object.content
  root_is_group o at zero_number =
      let links : links_of tree o.number ≡ links_in o.object.content
      = ap (option_and_then (λ (ob : Object). links_in ob.content)) (in_tree image table tree placed stands o at) in
      links_are_group o.object.content (sym (ap is_some (subst (λ (n : ℕ). links_of tree n ≡ links_in o.object.content) zero_number links)) ∙ stands.root_group)

  is_counted : (o : Placed) → In o placed → IsCounted image tree o
  is_counted o at = in_all (IsCounted image tree) o placed reads.counted at

  few : (o : Placed) → In o placed → counts tree o ≤ most_hard_links
  few o at = go (o.number == 0) refl where
    go : (b : Bool) → (o.number == 0) ≡ b → counts tree o ≤ most_hard_links
    go true e =
        let zero_number : o.number ≡ 0 = grind (arith, nat_tests) in
        let once = (is_counted o at).once (root_is_group o at zero_number) in
        omega (arith, once, (is_counted o at).counted)
    go false e =
        let plain : counts tree o ≡ hard_links tree o.number + 0 = ap (λ (b : Bool). hard_links tree o.number + (if b then 1 else 0)) e in
        omega (arith, plain, (is_counted o at).limit)

  pub often_excluded : (x : Named) → Reached image x → IsLinkedTooOften image x → ⊥
  often_excluded x reached (is, (fields, are, many)) =
      let k = header_known image table tree placed stands x reached is in
      let here : AreLinkFields image k.0.o.header fields = subst (λ (h : ℕ). AreLinkFields image h fields) (sym k.1) are in
      let bound = fields_bound image table tree placed stands k.0.o k.0.member fields (apart_of_distinct fields here.once)
      (linked_fields image table tree placed stands k.0.o.header fields here) in
      absurd (omega (arith, many, bound, few k.0.o k.0.member))

  abbrev links : List (ℕ × ℕ)
  links = all_links image table placed stands.each

  of_table : (n : ℕ) → IsTrue (n == symbol_table_kind) → n ≡ symbol_table_kind
  of_table n h = grind (arith, nat_tests)

  two_apart : (f g : ℕ) → g ≢ f → In f (g ∷ []) → ⊥
  two_apart f g other (inl e) = other e
  two_apart f g other (inr none) = none

  both_linked : (h a b : ℕ) → In (a, h) links → In (b, h) links → (f : ℕ) → In f (a ∷ b ∷ []) → In (f, h) links
  both_linked h a b at_a at_b f (inl e) = subst (λ (n : ℕ). In (n, h) links) e at_a
  both_linked h a b at_a at_b f (inr (inl e)) = subst (λ (n : ℕ). In (n, h) links) e at_b
  both_linked h a b at_a at_b f (inr (inr none)) = absurd none

  pub twice_excluded : (x : Named) → Reached image x → IsLinkedTwice image x → ⊥
  twice_excluded x reached (is, some, (y, reached_y, other, same, is_y)) =
      let k = header_known image table tree placed stands x reached is in
      let message = subst (λ (h : ℕ). SomeMessage image h (λ kind. kind == symbol_table_kind)) (sym k.1) some in
      let head = met_head image k.0.o.header k.0.has.messages k.0.has.header_blocks k.0.has.listed (header_inside image table tree placed stands x.depth k.0) message.0 message.1 in
      let kind : kind_at image message.0 ≡ symbol_table_kind = of_table (kind_at image message.0) message.2 in
      let group = table_is_group image table k.0.has.messages k.0.o.object.content k.0.has.content_blocks k.0.has.content head.m head.member (head.kind ∙ kind) in
      let once = (is_counted k.0.o k.0.member).once group in
      let first : In (x.field, k.0.o.header) links = subst (λ (h : ℕ). In (x.field, h) links) (sym k.1) (reached_link image table tree placed stands x reached is) in
      let second : In (y.field, k.0.o.header) links = subst (λ (h : ℕ). In (y.field, h) links) (same ∙ sym k.1) (reached_link image table tree placed stands y reached_y is_y) in
      let bound = fields_bound image table tree placed stands k.0.o k.0.member (x.field ∷ y.field ∷ []) (two_apart x.field y.field other, (λ none. none, tt))
      (both_linked k.0.o.header x.field y.field first second) in
      absurd (omega (arith, once, bound, (is_counted k.0.o k.0.member).counted))
