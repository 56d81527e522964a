-- An image that holds a tree has as many links to a header as the tree has to its object.
use Rattle.std.proofs.Common.{◌≡◌, ℕ, ◌+◌, List, length, refl, subst, ◌∙◌}
use Rattle.std.specs.Prelude.{◌==◌, IsTrue, if◌then◌else◌}
use Rattle.std.specs.Ordering.{nat_cmp}
use Rattle.std.specs.FinMap.{FinMap}
use Rattle.std.specs.List.{Contains}
use Rattle.h5_model.specs.Tree.Objects.{Tree, hard_links}
use Rattle.h5_model.specs.Format.Reads.{Placed, Holds}
use Rattle.h5_model.specs.Format.Reached.{Named, naming_of, ObjectHeader, Reached}
use Rattle.h5_model.specs.Faults.Breaches.{is_header, AreAllLinks}
use Rattle.h5_laws.proofs.Lists.{In, in_contains, contains_in}
use Rattle.h5_laws.proofs.Pigeonhole.{distinct_of_apart}
use Rattle.h5_laws.proofs.LinkFields.{all_links}
use Rattle.h5_laws.proofs.AllReached.{link_reached}
use Rattle.h5_laws.proofs.FieldsApart.{fields_to, length-fields_to, in_fields_to, to_fields, fields_apart, links_once}
use Rattle.h5_laws.proofs.LinkCounts.{reached_link, object_count}

module _ (image : List ℕ) (table : FinMap nat_cmp ℕ) (tree : Tree) (placed : List Placed) (holds : Holds image table tree placed) where
  abbrev links : List (ℕ × ℕ)
  links = all_links image table placed holds.each

  -- fields that lead to a header are all that name it, each once
  fields_are : (header : ℕ) → AreAllLinks image header (fields_to header links)
  fields_are header = record {
    links = record {
      once = distinct_of_apart (fields_to header links) (fields_apart header links (links_once image table tree placed holds));
      each = each;
    };
    all = all;
  } where
    each : (field : ℕ) → Contains (fields_to header links) field → (y : Named) × Reached image y × (y.field ≡ field) × (y.at ≡ header) × IsTrue (is_header y.role)
    each field contained =
        let y = link_reached image table tree placed holds (field, header) (in_fields_to header field links (in_contains field (fields_to header links) contained)) in
        (naming_of field ObjectHeader header y.0, y.1, refl, refl, refl)

    all : (y : Named) → Reached image y → y.at ≡ header → IsTrue (is_header y.role) → Contains (fields_to header links) y.field
    all y reached here is =
        contains_in y.field (fields_to header links) (to_fields header y.field links
        (subst (λ (h : ℕ). In (y.field, h) links) here (reached_link image table tree placed holds y reached is)))

  -- the fields that name an object's header are as many as the tree has links to it
  pub linked_by : (x : Placed) → In x placed
      → (fields : List ℕ) × AreAllLinks image x.header fields × (length fields ≡ hard_links tree x.number + (if x.number == 0 then 1 else 0))
  linked_by x at = (fields_to x.header links, fields_are x.header, length-fields_to x.header links ∙ object_count image table tree placed holds x at)
