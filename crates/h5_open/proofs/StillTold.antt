-- Messages that say what others said, attributes aside: they are those of the same group or array, with the same kept messages.
use Rattle.std.proofs.Common.{◌≡◌, ℕ, ◌==◌, ◌||◌, Bool, false, IsTrue, Option, Some, List, [], ◌∷◌, map, refl, sym, ap, ◌∙◌, subst, arith}
use Rattle.std.specs.Prelude.{option_and_then}
use Rattle.std.specs.List.{AllByRecursion, filter}
use Rattle.h5_model.specs.Format.MessageTypes.{symbol_table_kind, nil_kind, dataspace_kind, datatype_kind, old_fill_value_kind, fill_value_kind, data_layout_kind, attribute_kind, comment_kind, old_modification_time_kind, continuation_kind, modification_time_kind}
use Rattle.h5_model.specs.Format.Addresses.{SymbolTable, symbol_table_of}
use Rattle.h5_model.specs.Format.Extent.{extent_of}
use Rattle.h5_model.specs.Format.Fill.{fill_value, old_fill_value}
use Rattle.h5_model.specs.Format.Layout.{layout_of}
use Rattle.h5_model.specs.Format.Messages.{Message, count_of, first_body}
use Rattle.h5_model.specs.Format.Reads.{HasAttributes, is_kept, kept_of}
use Rattle.h5_model.specs.Format.Described.{IsFill, Described, HasArray}
use Rattle.h5_model.specs.Tree.Objects.{Attributes}
use Rattle.h5_header.specs.Heads.{is_read}
use Rattle.h5_header.specs.Kinds.{IsOfDataset, IsOfGroup}
use Rattle.h5_header.specs.Listed.{messages_in}
use Rattle.h5_header.specs.declared.message.Message.{Message as Placed}
use Rattle.h5_attr.specs.Attributes.{attributes_of}
use Rattle.h5_attr.specs.Still.{IsSaidStill}
use Rattle.h5_attr.proofs.EntryLaws.{attributes-is}
use Rattle.h5_layout.specs.Told.{array_told}
use Rattle.h5_layout.proofs.ToldLaws.{told}
use Rattle.h5_open.specs.Opened.Judged.{IsArrayList}

-- the attributes of messages are those that they have
pub attributes_now : (ms : List Message) (attributes : Attributes) → HasAttributes ms attributes → HasAttributes ms (attributes_of ms)
attributes_now ms attributes has = subst (HasAttributes ms) (attributes-is ms attributes has) has

module _ (ms ms' : List Message) (still : IsSaidStill ms ms') where
  same_count : (kind : ℕ) → (nil_kind == kind) ≡ false → (attribute_kind == kind) ≡ false → (continuation_kind == kind) ≡ false → count_of kind ms' ≡ count_of kind ms
  same_count kind a b c = still.counts kind (a, (b, (c, tt)))

  same_body : (kind : ℕ) → (nil_kind == kind) ≡ false → (datatype_kind == kind) ≡ false → (attribute_kind == kind) ≡ false → (continuation_kind == kind) ≡ false → (symbol_table_kind == kind) ≡ false
      → first_body kind ms' ≡ first_body kind ms
  same_body kind a b c d e = still.bodies kind (a, (b, (c, (d, (e, tt)))))

  pub group_still : IsOfGroup ms → IsOfGroup ms'
  group_still is = record {
    table = same_count symbol_table_kind refl refl refl ∙ is.table;
    alone = (
      same_count dataspace_kind refl refl refl ∙ (is.alone).0,
      (
        same_count datatype_kind refl refl refl ∙ ((is.alone).1).0,
        (same_count old_fill_value_kind refl refl refl ∙ (((is.alone).1).1).0, (same_count fill_value_kind refl refl refl ∙ ((((is.alone).1).1).1).0, (same_count data_layout_kind refl refl refl ∙ (((((is.alone).1).1).1).1).0, tt))),
      ),
    );
  }

  pub table_still : (table : SymbolTable) → IsOfGroup ms → option_and_then symbol_table_of (first_body symbol_table_kind ms) ≡ Some table
      → option_and_then symbol_table_of (first_body symbol_table_kind ms') ≡ Some table
  table_still table is chosen = still.table (omega (arith, is.table)) ∙ chosen

  pub kinds_still : IsOfDataset ms → IsOfDataset ms'
  kinds_still is = record {
    no_table = same_count symbol_table_kind refl refl refl ∙ is.no_table;
    once = (same_count dataspace_kind refl refl refl ∙ (is.once).0, (same_count datatype_kind refl refl refl ∙ ((is.once).1).0, (same_count data_layout_kind refl refl refl ∙ (((is.once).1).1).0, tt)));
    fills = (omega (arith, same_count old_fill_value_kind refl refl refl, (is.fills).0), (omega (arith, same_count fill_value_kind refl refl refl, ((is.fills).1).0), tt));
  }

  pub array_still : (a : Described) → HasArray ms a → HasArray ms' a
  array_still a has = record {
    one_space = same_count dataspace_kind refl refl refl ∙ has.one_space;
    one_type = same_count datatype_kind refl refl refl ∙ has.one_type;
    one_layout = same_count data_layout_kind refl refl refl ∙ has.one_layout;
    old_fills = omega (arith, same_count old_fill_value_kind refl refl refl, has.old_fills);
    fills = omega (arith, same_count fill_value_kind refl refl refl, has.fills);
    space = ap (option_and_then extent_of) (same_body dataspace_kind refl refl refl refl refl) ∙ has.space;
    type = still.datatype (omega (arith, has.one_type)) ∙ has.type;
    filled = record {
      old_fill = (has.filled).old_fill;
      new_fill = (has.filled).new_fill;
      old_filled = subst (λ (b : Option (List ℕ)). IsFill (old_fill_value a.fixed) b (has.filled).old_fill) (sym (same_body old_fill_value_kind refl refl refl refl refl)) (has.filled).old_filled;
      new_filled = subst (λ (b : Option (List ℕ)). IsFill (fill_value a.fixed) b (has.filled).new_fill) (sym (same_body fill_value_kind refl refl refl refl refl)) (has.filled).new_filled;
      filled = (has.filled).filled;
    };
    laid_out = ap (option_and_then (layout_of a.sizes a.fixed.size)) (same_body data_layout_kind refl refl refl refl refl) ∙ has.laid_out;
    small = has.small;
    chunk_small = has.chunk_small;
  }

  -- the array that they tell is the one that was told
  pub told_still : HasArray ms (array_told ms) → array_told ms' ≡ array_told ms
  told_still has = told ms' (array_told ms) (array_still (array_told ms) has)

  pub list_still : (attributes : Attributes) → HasAttributes ms' attributes → IsArrayList ms → IsArrayList ms'
  list_still attributes has is = record {
    kinds = kinds_still is.kinds;
    attributes = attributes_now ms' attributes has;
    array = subst (HasArray ms') (sym (told_still is.array)) (array_still (array_told ms) is.array);
  }

  pub kept_still : map kept_of (filter is_kept ms') ≡ map kept_of (filter is_kept ms)
  kept_still = ap (map kept_of) (still.others (λ (kind : ℕ). (kind == comment_kind || kind == old_modification_time_kind) || kind == modification_time_kind) (refl, (refl, (refl, (refl, (refl, tt))))))

-- what holds of the types of messages holds of those of what they say
said_types : (p : ℕ → Bool) (image : List ℕ) (list : List Placed) → AllByRecursion (λ (x : Placed). IsTrue (p x.kind)) list → AllByRecursion (λ (m : Message). IsTrue (p m.kind)) (messages_in image list)
said_types p image [] all = tt
said_types p image (x ∷ list) all = (all.0, said_types p image list all.1)

-- and the other way
pub types_said : (p : ℕ → Bool) (image : List ℕ) (list : List Placed) → AllByRecursion (λ (m : Message). IsTrue (p m.kind)) (messages_in image list) → AllByRecursion (λ (x : Placed). IsTrue (p x.kind)) list
types_said p image [] all = tt
types_said p image (x ∷ list) all = (all.0, types_said p image list all.1)

pub known_still : (old new : List ℕ) (list list' : List Placed) → IsSaidStill (messages_in old list) (messages_in new list')
    → AllByRecursion (λ (x : Placed). IsTrue (is_read x.kind)) list → AllByRecursion (λ (x : Placed). IsTrue (is_read x.kind)) list'
known_still old new list list' still known =
    types_said is_read new list' (still.types is_read (refl, (refl, (refl, tt))) (said_types is_read old list known))
