-- What the calls answer at an object.
use Rattle.std.proofs.Common.{◌≡◌, ℕ, List, [], ◌∷◌, length, refl, sym, ap, ◌∙◌, Option, Some, None, Bool, not, true, false, arith, ℤ, Vec, subst}
use Rattle.std.specs.Prelude.{◌==◌, option_map, option_and_then}
use Rattle.std.specs.Option.{option_map_or}
use Rattle.std.specs.FinMap.{get, entries, contains_key}
use Rattle.std.specs.declared.alloc.Global.{Global}
use Rattle.std.proofs.lemmas.Option.{same_Some}
use Rattle.std.proofs.lemmas.Bool.Decides.{nat_tests}
use Rattle.h5_model.specs.Tree.Places.{is_inside}
use Rattle.h5_model.specs.Tree.Objects.{Tree, Object, Content, Array, Dataset, ToObject, Attribute}
use Rattle.h5_model.specs.Tree.Paths.{location_of, object_at}
use Rattle.h5_model.specs.Edits.Refusal.{first_holding, is_soft}
use Rattle.h5_model.specs.Scripts.Reading.{path_rules, list_rules, object_rules, dataset_rules, cell_at}
use Rattle.h5_model.specs.declared.edit_fault.EditFault.{EditFault}
use Rattle.h5_model.specs.declared.edit_fault.EditFault.TheVariants.{NotAGroup, NotFound, NoSuchAttribute}
use Rattle.h5_header.specs.Listed.{Listed, messages_in}
use Rattle.h5_open.specs.Attributes.{attributes_of}
use Rattle.h5_model.specs.Format.Addresses.{SymbolTable}
use Rattle.h5_open.specs.declared.opened.object.OpenedObject.{OpenedObject}
use Rattle.h5_open.specs.declared.opened.object.OpenedContent.TheVariants as content
use Rattle.h5_open.specs.Opened.Sound.{IsObjectOf}
use Rattle.h5_open.specs.Opened.State.{FileState}
use Rattle.h5_open.specs.Opened.Objects.{links_by, content_in, object_in}
use Rattle.h5_open.specs.GroupTold.{links_told}
use Rattle.h5_query.specs.declared.kind.Kind.{Kind}
use Rattle.h5_query.specs.declared.kind.Kind.TheVariants as kind
use Rattle.h5_query.specs.declared.found.Found.TheVariants as found
use Rattle.h5_model.specs.declared.object_no.ObjectNo.{ObjectNo}
use Rattle.h5_query.specs.Found.{HasFound, TreeHasObject}
use Rattle.h5_query.specs.Place.{PathLeadsTo}
use Rattle.h5_query.specs.Look.{HasKind, HasLinksNamed, HasCell, HasAttribute, IsArrayKind}
use Rattle.h5_query.specs.Kept.{IsHeaderThere, IsArrayAt, names_of_group, array_dataset}
use Rattle.h5_query.proofs.GroupLaws.{keys_are}
use Rattle.h5_query.proofs.Indexed.{group_read, group_links, array_there, array_no_group}
use Rattle.h5_query.proofs.RuleLaws.{list_here, dataset_here, first-behind, index_rules}

abbrev attribute_rule : Tree → List ℕ → List ℕ → List (EditFault × Bool)
attribute_rule tree path name =
    (NoSuchAttribute, option_map_or (λ (o : Object). not (contains_key o.attributes name)) (option_and_then (get tree) (object_at tree path)) false) ∷ []

-- the attribute that is found is the object's
pub has_attribute : (image : List ℕ) (tree : Tree) (path : List ℕ) (m : Listed) → IsHeaderThere image tree path m → (name : List ℕ) (a : List ℕ × Attribute)
    → Some a ≡ option_map (λ x. (name, x)) (get (attributes_of (messages_in image m.list)) name) → HasAttribute tree path name a
has_attribute image tree path m there name a found =
    by_got (get (attributes_of (messages_in image m.list)) name) refl found where
      by_got : (o : Option Attribute) → get (attributes_of (messages_in image m.list)) name ≡ o → Some a ≡ option_map (λ x. (name, x)) o → HasAttribute tree path name a
      by_got None e h = absurd (cc)
      by_got (Some x) e h =
          let same : a ≡ (name, x) = same_Some a (name, x) h in
          let got : get (there.object).attributes name ≡ Some x = rw there.attributes_are e in
          let test : contains_key (there.object).attributes name ≡ true = rw got refl in
          rw same (record {
            accepted = first-behind (object_rules tree path) (attribute_rule tree path name) there.accepted ∙ rw (there.found, test) refl;
            named = refl;
            found = rw there.found got;
          })

-- the cell at an index of the array that stands there
pub cell_there : (tree : Tree) (path : List ℕ) (at : ℕ × Dataset) → IsArrayAt tree path at → (index : List ℕ) (value : ℤ) → length index ≡ length (at.1).sizes
    → is_inside (at.1).sizes index ≡ true → value ≡ cell_at at.1 index → HasCell tree path index value
cell_there tree path at there index value same inside is =
    let rank : (length index == length (at.1).sizes) ≡ true = grind (arith, nat_tests, same) in
    record {
      accepted = first-behind (dataset_rules tree path) (index_rules tree path index) there.accepted ∙ rw (there.found, rank, inside) refl;
      dataset = at.1;
      found = there.found;
      value_is = is;
    }

module _ (f : FileState) (number : ℕ) (object : OpenedObject) (of : IsObjectOf f number object) where
  abbrev T : Tree
  T = f.tree

  -- ---- by a path

  module _ (path : List ℕ) (leads : PathLeadsTo T path (ToObject number)) where
    pub header_there : IsHeaderThere f.image T path object.messages
    header_there = record {
      accepted = first-behind (path_rules T path) ((NotFound, is_soft (location_of T path)) ∷ []) leads.0 ∙ rw leads.1 refl;
      object = object_in f.image f.table object;
      found = rw leads.1 of.there;
      kept = of.kept.header;
      attributes_are = refl;
    }

    -- what it holds
    holds : (attributes : List (List ℕ × Attribute)) → attributes ≡ entries (attributes_of (messages_in f.image object.messages.list)) → (c : Content)
        → content_in f.image f.table (messages_in f.image object.messages.list) object.content ≡ c → TreeHasObject T number attributes c
    holds attributes listed c same = record { object = object_in f.image f.table object; found = of.there; listed = listed; content_is = same }

    -- ---- a group

    module _ (g : SymbolTable) (is : object.content ≡ content.Group g) where
      pub group_kind : HasKind T path kind.Group
      group_kind = record { accepted = leads.0; found = rw (leads.1, group_links f number object of g is) refl }

      pub group_found : (n : ObjectNo) → n.0 ≡ number → (attributes : Vec (List ℕ × Attribute) Global)
          → attributes.items ≡ entries (attributes_of (messages_in f.image object.messages.list)) → HasFound T path (found.Group n attributes)
      group_found n same attributes listed = record {
        accepted = leads.0;
        there = rw leads.1 (same, links_by f.table (links_told f.image g), holds attributes.items listed _ (ap (content_in f.image f.table (messages_in f.image object.messages.list)) is));
      }

      pub group_names : (names : List (List ℕ)) → names ≡ names_of_group f.image g → HasLinksNamed T path names
      group_names names same = record {
        accepted = list_here T path number leads.0 leads.1 ∙ rw (group_links f number object of g is) refl;
        listed =
            same
            ∙ sym (keys_are f.image f.table g (group_read f number object of g is))
            ∙ rw (leads.1, group_links f number object of g is) refl;
      }

    -- ---- an array

    module _ (is : object.content ≡ content.Array) where
      abbrev D : Dataset
      D = array_dataset f.image (messages_in f.image object.messages.list)

      pub array_kind : (k : Kind) → IsArrayKind D k → HasKind T path k
      array_kind kind.Group shown = absurd shown
      array_kind (kind.Dataset fixed dims maxima stored fill) shown = record {
        accepted = leads.0;
        found = rw leads.1 (D, array_there f number object of is, shown);
      }
      array_kind (kind.Soft text) shown = absurd shown

      pub known_kind : (d : Dataset) → d ≡ D → (k : Kind) → IsArrayKind d k → HasKind T path k
      known_kind d same k shown = array_kind k (subst (λ (x : Dataset). IsArrayKind x k) same shown)

      pub array_found : (n : ObjectNo) → n.0 ≡ number → (attributes : Vec (List ℕ × Attribute) Global)
          → attributes.items ≡ entries (attributes_of (messages_in f.image object.messages.list)) → (d : Dataset) → d ≡ D → HasFound T path (found.Array n attributes d)
      array_found n same attributes listed d told = record {
        accepted = leads.0;
        there =
            rw leads.1 (
              same,
              holds attributes.items listed _
                  (ap (content_in f.image f.table (messages_in f.image object.messages.list)) is ∙ ap Array (sym told)),
            );
      }

      pub array_no_list : first_holding (list_rules T path) ≡ Some NotAGroup
      array_no_list = list_here T path number leads.0 leads.1 ∙ rw (array_no_group f number object of is) refl

      pub array_numbered : (d : Dataset) × IsArrayAt T path (number, d)
      array_numbered =
          let here = dataset_here T path number D leads.0 leads.1 (array_there f number object of is) in
          (D, record { accepted = here.0; number = rw leads.1 refl; found = here.1 })
