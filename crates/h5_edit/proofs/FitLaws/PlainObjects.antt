-- Objects that are read, and new ones, can be written in the plain layout (File Format Specification 3.0, section IV.A.2).
use Rattle.std.proofs.Common.{◌≡◌, ℕ, ◌+◌, ◌≤◌, List, [], ◌∷◌, length, map, true, false, cond, Some, refl, sym, ap, ◌∙◌, subst, arith, length-append}
use Rattle.std.specs.Prelude.{◌==◌, ◌||◌}
use Rattle.std.specs.List.{AllByRecursion, AllZip, filter}
use Rattle.std.specs.Ordering.{nat_cmp}
use Rattle.std.specs.Cmp.Lexicographic.{slice_cmp}
use Rattle.std.specs.FinMap.{FinMap, entries}
use Rattle.std.proofs.Math.ListN.{length-map}
use Rattle.std.proofs.lemmas.Bool.Decides.{nat_tests}
use Rattle.h5_bytes.specs.declared.Block.{Block}
use Rattle.h5_model.specs.Format.Limits.{most_cells}
use Rattle.h5_model.specs.Format.MessageTypes.{data_layout_kind, dataspace_kind, datatype_kind, fill_value_kind, old_fill_value_kind, symbol_table_kind, attribute_kind, comment_kind, old_modification_time_kind, modification_time_kind}
use Rattle.h5_model.specs.Format.Messages.{Message, count_of, most_messages}
use Rattle.h5_model.specs.Tree.Places.{extent_cells}
use Rattle.h5_model.specs.Format.AttributeBody.{attribute_of}
use Rattle.h5_model.specs.Tree.Objects.{Object, Content, Attribute, Attributes}
use Rattle.h5_model.specs.Format.Reads.{HasObject, is_kept, kept_of, is_attribute_message}
use Rattle.h5_model.specs.Edits.Applied.{new_object}
use Rattle.h5_model.proofs.MapSteps.{entries-empty}
use Rattle.h5_repack.specs.Bodies.Bodies.{others_of, kept_message, attribute_message}
use Rattle.h5_repack.specs.Bodies.Sound.{IsPlainKept, IsPlainAttribute, IsPlainObject}
use Rattle.h5_edit.specs.Fits.Laws.{AreBytes}
use Rattle.h5_edit.proofs.FitLaws.NamedEntries.{all_filter, length_filter, all_entries, few_entries}
use Rattle.h5_edit.proofs.FitLaws.PlainBodies.{IsPlainBody, plain_bodies, few_messages, plain_attribute}

-- how many messages an object's header has besides those of its content
pub length-others : (o : Object) → length (others_of o) ≡ length o.kept + length (entries o.attributes)
length-others o = length-append (map kept_message o.kept) (map attribute_message (entries o.attributes))
    ∙ omega (arith, length-map o.kept kept_message, length-map (entries o.attributes) attribute_message)

kept_here : (m : Message) → IsPlainBody m → is_kept m ≡ true → IsPlainKept (kept_of m)
kept_here m body is = record { kind = is; padded = body.padded; low = body.short }

plain_kept : (ms : List Message) → AllByRecursion IsPlainBody ms → AllByRecursion IsPlainKept (map kept_of (filter is_kept ms))
plain_kept [] all = tt
plain_kept (m ∷ ms) all = elim (is_kept m) as (λ b. is_kept m ≡ b → AllByRecursion IsPlainKept (map kept_of (cond b (m ∷ filter is_kept ms) (filter is_kept ms)))) [
  | true ↦ λ is. (kept_here m all.0 is, plain_kept ms all.1)
  | false ↦ λ _. plain_kept ms all.1
] refl

abbrev IsRead : Message → List ℕ × Attribute → Type 0
IsRead m a = attribute_of m.body ≡ Some a

abbrev IsSmall : List ℕ × Attribute → Type 0
IsSmall a = extent_cells (a.1).sizes ≤ most_cells

plain_listed : (ms : List Message) (listed : List (List ℕ × Attribute)) → AllByRecursion IsPlainBody ms → AllZip IsRead ms listed → AllByRecursion IsSmall listed
    → AllByRecursion IsPlainAttribute listed
plain_listed [] [] all each small = tt
plain_listed [] (a ∷ listed) all each small = absurd each
plain_listed (m ∷ ms) [] all each small = tt
plain_listed (m ∷ ms) (a ∷ listed) all each small =
    (plain_attribute m.body all.0.low all.0.short all.0.padded a small.0 each.0, plain_listed ms listed all.1 each.1 small.1)

length-listed : (ms : List Message) (listed : List (List ℕ × Attribute)) → AllZip IsRead ms listed → length listed ≡ length ms
length-listed [] [] each = refl
length-listed [] (a ∷ listed) each = absurd each
length-listed (m ∷ ms) [] each = absurd each
length-listed (m ∷ ms) (a ∷ listed) each = omega (arith, length-listed ms listed each.1)

-- how many messages are of the types that a content has
abbrev pub content_count : List Message → ℕ
content_count ms = count_of dataspace_kind ms + (count_of datatype_kind ms + (count_of old_fill_value_kind ms + (count_of fill_value_kind ms + (count_of data_layout_kind ms + count_of symbol_table_kind ms))))

-- a message has one type
one_type : (k : ℕ) → cond ((k == comment_kind || k == old_modification_time_kind) || k == modification_time_kind) 1 0 + cond (k == attribute_kind) 1 0
    + (cond (k == dataspace_kind) 1 0 + (cond (k == datatype_kind) 1 0 + (cond (k == old_fill_value_kind) 1 0 + (cond (k == fill_value_kind) 1 0 + (cond (k == data_layout_kind) 1 0 + cond (k == symbol_table_kind) 1 0))))) ≤ 1
one_type k = grind (arith, nat_tests)

each_once : (ms : List Message) → length (filter is_kept ms) + length (filter is_attribute_message ms) + content_count ms ≤ length ms
each_once [] = omega arith
each_once (m ∷ ms) = omega (arith, one_type m.kind, length_filter is_kept m ms, length_filter is_attribute_message m ms, each_once ms)

-- ---- an object that was read

module _ (image : List ℕ) (low : AreBytes image) (table : FinMap nat_cmp ℕ) (header : ℕ) (o : Object) (blocks : List Block) (has : HasObject image table header o blocks) where
  abbrev ms : List Message
  ms = has.messages

  pub read_bodies : AllByRecursion IsPlainBody ms
  read_bodies = plain_bodies image low header ms has.header_blocks has.listed

  -- its attributes and kept messages can be written
  pub plain_object : IsPlainObject o
  plain_object =
      let names = has.attributes in
      record {
        kept = subst (AllByRecursion IsPlainKept) (sym has.kept) (plain_kept ms read_bodies);
        attributes = subst (λ (a : Attributes). AllByRecursion IsPlainAttribute (entries a)) (sym names.all)
            (all_entries IsPlainAttribute names.listed (plain_listed (filter is_attribute_message ms) names.listed (all_filter IsPlainBody is_attribute_message ms read_bodies) names.each names.small));
      }

  -- these, and those of its content, are all messages or less
  pub others_few : length (others_of o) + content_count ms ≤ length ms
  others_few =
      let names = has.attributes in
      omega (
        arith,
        length-others o,
        ap length has.kept,
        length-map (filter is_kept ms) kept_of,
        ap (λ (a : Attributes). length (entries a)) names.all,
        few_entries names.listed,
        length-listed (filter is_attribute_message ms) names.listed names.each,
        each_once ms,
      )

  pub total_few : length ms ≤ most_messages
  total_few = few_messages image low header ms has.header_blocks has.listed

-- ---- a new object

pub plain_new : (content : Content) → IsPlainObject (new_object content)
plain_new content = record { kept = tt; attributes = subst (AllByRecursion IsPlainAttribute) (sym (entries-empty {X = Attribute} (slice_cmp nat_cmp))) tt }

pub no_others : (content : Content) → others_of (new_object content) ≡ []
no_others content = ap (map attribute_message) (entries-empty {X = Attribute} (slice_cmp nat_cmp))
