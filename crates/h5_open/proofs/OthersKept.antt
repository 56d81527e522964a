-- Messages whose attributes and kept messages say what those of others said: they are the same attributes.
use Rattle.std.proofs.Common.{◌≡◌, ℕ, List, [], ◌∷◌, Some, map, refl, sym, ap, ◌∙◌, subst}
use Rattle.std.specs.Ordering.{nat_cmp, eq_by_cmp}
use Rattle.std.specs.Cmp.Lexicographic.{slice_cmp}
use Rattle.std.specs.FinMap.{from_entries}
use Rattle.std.specs.List.{AllZip, IsDistinct, cons_option, filter, filter_map}
use Rattle.h5_model.specs.Format.AttributeBody.{attribute_of}
use Rattle.h5_model.specs.Format.Messages.{Message}
use Rattle.h5_model.specs.Format.Reads.{HasAttributes, is_attribute_message}
use Rattle.h5_model.specs.Tree.Objects.{Attribute}
use Rattle.h5_attr.specs.Attributes.{HasNamesOnce, attributes_in, attributes_of}
use Rattle.h5_layout.specs.ArrayEdits.{AreOthersKept}

abbrev Says : List ℕ → (List ℕ × Attribute) → Type 0
Says body a = attribute_of body ≡ Some a

-- what messages say, they say by their bodies
abbrev bodies : List Message → List (List ℕ)
bodies ms = map (λ (m : Message). m.body) ms

said_by : (ms : List Message) → filter_map (λ (m : Message). attribute_of m.body) ms ≡ filter_map attribute_of (bodies ms)
said_by [] = refl
said_by (m ∷ ms) = ap (cons_option (attribute_of m.body)) (said_by ms)

to_bodies : (ms : List Message) (listed : List (List ℕ × Attribute)) → AllZip (λ (m : Message) a. Says m.body a) ms listed → AllZip Says (bodies ms) listed
to_bodies [] [] each = tt
to_bodies [] (a ∷ listed) each = absurd each
to_bodies (m ∷ ms) [] each = absurd each
to_bodies (m ∷ ms) (a ∷ listed) each = (each.0, to_bodies ms listed each.1)

from_bodies : (ms : List Message) (listed : List (List ℕ × Attribute)) → AllZip Says (bodies ms) listed → AllZip (λ (m : Message) a. Says m.body a) ms listed
from_bodies [] [] each = tt
from_bodies [] (a ∷ listed) each = absurd each
from_bodies (m ∷ ms) [] each = absurd each
from_bodies (m ∷ ms) (a ∷ listed) each = (each.0, from_bodies ms listed each.1)

module _ (old new : List Message) (kept : AreOthersKept old new) where
  entries_kept : attributes_in new ≡ attributes_in old
  entries_kept = said_by (filter is_attribute_message new) ∙ ap (filter_map attribute_of) kept.attributes ∙ sym (said_by (filter is_attribute_message old))

  pub attributes_kept : attributes_of new ≡ attributes_of old
  attributes_kept = ap from_entries entries_kept

  pub names_kept : HasNamesOnce old → HasNamesOnce new
  names_kept once =
      subst (λ (es : List (List ℕ × Attribute)). IsDistinct (eq_by_cmp (slice_cmp nat_cmp)) (map (λ (a : List ℕ × Attribute). a.0) es)) (sym entries_kept) once

  pub has_kept : HasAttributes old (attributes_of old) → HasAttributes new (attributes_of new)
  has_kept has = record {
    listed = has.listed;
    each = from_bodies (filter is_attribute_message new) has.listed
        (subst (λ (bs : List (List ℕ)). AllZip Says bs has.listed) (sym kept.attributes) (to_bodies (filter is_attribute_message old) has.listed has.each));
    distinct = has.distinct;
    small = has.small;
    all = attributes_kept ∙ has.all;
  }
