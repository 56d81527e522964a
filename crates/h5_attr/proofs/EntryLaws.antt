-- The attributes of a header by their messages, and as a map.
use Rattle.std.proofs.Common.{◌≡◌, ℕ, List, [], ◌∷◌, Option, Some, Bool, true, false, cond, map, option_map, refl, sym, ◌∙◌, ap, subst, nat_eq}
use Rattle.std.specs.Ordering.{nat_cmp, eq_by_cmp}
use Rattle.std.specs.Cmp.Lexicographic.{slice_cmp, nat_list_cmp_total, pointwise, same_text, texts_ties}
use Rattle.std.specs.List.{AllZip, cons_option, filter, filter_map, find, IsDistinct}
use Rattle.std.specs.FinMap.{get, find as value_at, from_entries, get-from_entries}
use Rattle.h5_model.specs.Format.Messages.{Message}
use Rattle.h5_model.specs.Format.AttributeBody.{attribute_of}
use Rattle.h5_model.specs.Tree.Objects.{Attribute, Attributes}
use Rattle.h5_model.specs.Format.Reads.{HasAttributes, is_attribute_message}
use Rattle.h5_attr.specs.Attributes.{attributes_in, attribute_named, HasNamesOnce}

listed_by : (ms : List Message) (listed : List (List ℕ × Attribute)) → AllZip (λ (m : Message) a. attribute_of m.body ≡ Some a) ms listed
    → listed ≡ filter_map (λ (m : Message). attribute_of m.body) ms
listed_by [] [] each = refl
listed_by [] (a ∷ listed) each = absurd each
listed_by (m ∷ ms) [] each = absurd each
listed_by (m ∷ ms) (a ∷ listed) each = ap (λ (others : List (List ℕ × Attribute)). a ∷ others) (listed_by ms listed each.1)
    ∙ ap (λ (o : Option (List ℕ × Attribute)). cons_option o (filter_map (λ (x : Message). attribute_of x.body) ms)) (sym each.0)

module _ (ms : List Message) (attributes : Attributes) (has : HasAttributes ms attributes) where
  listed-is : has.listed ≡ attributes_in ms
  listed-is = listed_by (filter is_attribute_message ms) has.listed has.each

  -- their names differ
  pub names_once : HasNamesOnce ms
  names_once = subst (λ (found : List (List ℕ × Attribute)). IsDistinct (eq_by_cmp (slice_cmp nat_cmp)) (map (λ (a : List ℕ × Attribute). a.0) found)) listed-is has.distinct

  pub attributes-is : attributes ≡ from_entries (attributes_in ms)
  attributes-is = has.all ∙ ap from_entries listed-is

-- the first entry of a name is what the map has there
found-is : (name : List ℕ) (es : List (List ℕ × Attribute)) → find (λ a. pointwise nat_eq name a.0) es ≡ option_map (λ a. (name, a)) (value_at (slice_cmp nat_cmp) name es)
found-is name [] = refl
found-is name (e ∷ es) =
    elim (pointwise nat_eq name e.0) as (λ (b : Bool). b ≡ pointwise nat_eq name e.0
    → cond b (Some e) (find (λ a. pointwise nat_eq name a.0) es) ≡ option_map (λ a. (name, a)) (cond b (Some e.1) (value_at (slice_cmp nat_cmp) name es))) [
      | true ↦ λ same. ap (λ (n : List ℕ). Some (n, e.1)) (sym (same_text name e.0 same))
      | false ↦ λ other. found-is name es
    ] refl
    ∙ ap (λ b. option_map (λ a. (name, a)) (cond b (Some e.1) (value_at (slice_cmp nat_cmp) name es))) (texts_ties name e.0)

-- of a header that has attributes, the one of a name is the map's
pub named-is : (name : List ℕ) (ms : List Message) (attributes : Attributes) → HasAttributes ms attributes
    → attribute_named name ms ≡ option_map (λ a. (name, a)) (get attributes name)
named-is name ms attributes has =
    found-is name (attributes_in ms)
    ∙ ap (option_map (λ a. (name, a))) (sym (ap (λ (m : Attributes). get m name) (attributes-is ms attributes has) ∙ get-from_entries nat_list_cmp_total (attributes_in ms) name))
