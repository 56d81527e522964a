-- Links to a header are as many as the tree has.
use Rattle.std.proofs.Common.{◌≡◌, inl, inr, ℕ, ◌+◌, ◌≤◌, List, length, sym, ap₂, subst, arith}
use Rattle.std.specs.Prelude.{◌==◌, IsTrue, if◌then◌else◌}
use Rattle.std.specs.Ordering.{nat_cmp}
use Rattle.std.specs.FinMap.{FinMap}
use Rattle.h5_model.specs.Tree.Objects.{Tree, hard_links}
use Rattle.h5_model.specs.Format.Reads.{Placed, Holds}
use Rattle.h5_model.specs.Format.Reached.{Named, Reached}
use Rattle.h5_model.specs.Faults.Breaches.{is_header, AreLinkFields}
use Rattle.h5_laws.proofs.Lists.{In, contains_in}
use Rattle.h5_laws.proofs.Objects.{in_table}
use Rattle.h5_laws.proofs.Breaches.{link_known}
use Rattle.h5_laws.proofs.Pigeonhole.{linking, Apart, no_more}
use Rattle.h5_laws.proofs.LinkFields.{all_links, all_count, entry_is_link}

-- how many links name the header of an object: the superblock's field counts for the root
abbrev pub counts : Tree → Placed → ℕ
counts tree o = hard_links tree o.number + (if o.number == 0 then 1 else 0)

module _ (image : List ℕ) (table : FinMap nat_cmp ℕ) (tree : Tree) (placed : List Placed) (reads : Holds image table tree placed) where
  abbrev links : List (ℕ × ℕ)
  links = all_links image table placed reads.each

  -- a field of a header that is reached is one of them
  pub reached_link : (y : Named) → Reached image y → IsTrue (is_header y.role) → In (y.field, y.at) links
  reached_link y reached is = elim (link_known image table tree placed reads y reached is) [
    | inl super ↦ inl (ap₂ (λ (a b : ℕ). (a, b)) (sym super.0) (sym super.1))
    | inr entry ↦ entry_is_link image table tree placed reads y.field y.at entry
  ]

  -- as many of them name a header as the tree has links to its object
  pub object_count : (o : Placed) → In o placed → linking o.header links ≡ counts tree o
  object_count o at = all_count image table tree placed reads o.number o.header (in_table image table tree placed reads o at)

  pub linked_fields : (header : ℕ) (fields : List ℕ) → AreLinkFields image header fields → (f : ℕ) → In f fields → In (f, header) links
  linked_fields header fields are f at =
      let y = are.each f (contains_in f fields at) in
      subst (λ (h : ℕ). In (f, h) links) y.3 (subst (λ (g : ℕ). In (g, y.0.at) links) y.2 (reached_link y.0 y.1 y.4))

  -- fields that name a header are not more than those
  pub fields_bound : (o : Placed) → In o placed → (fields : List ℕ) → Apart fields → ((f : ℕ) → In f fields → In (f, o.header) links) → length fields ≤ counts tree o
  fields_bound o at fields apart all =
      let bound = no_more o.header fields links apart all in
      omega (arith, bound, object_count o at)
