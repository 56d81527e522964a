-- Messages that say another extent, and else what others say: they are those of the array with these sizes (File Format Specification
-- 3.0, section IV.A.2.b).
use Rattle.std.proofs.Common.{◌≡◌, ℕ, ◌+◌, ◌*◌, ◌≤◌, Bool, true, false, cond, ◌==◌, ◌||◌, List, [], ◌∷◌, length, map, Option, Some, None, refl, sym, ap, ◌∙◌, subst, arith}
use Rattle.std.specs.Prelude.{option_and_then, option_map}
use Rattle.std.specs.List.{filter, find}
use Rattle.h5_model.specs.Format.Limits.{most_cells}
use Rattle.h5_model.specs.Format.MessageTypes.{data_layout_kind, nil_kind, dataspace_kind, datatype_kind, old_fill_value_kind, fill_value_kind, comment_kind, old_modification_time_kind, continuation_kind, symbol_table_kind, modification_time_kind, attribute_kind}
use Rattle.h5_model.specs.Edits.Refusal.{is_chunked}
use Rattle.h5_model.specs.Format.Extent.{Extent}
use Rattle.h5_model.specs.Format.Fill.{fill_value, old_fill_value}
use Rattle.h5_model.specs.Format.Layout.{Layout, InMessage, InBlock, InChunks, layout_of, compact_layout, contiguous_layout, chunked_layout}
use Rattle.h5_model.specs.Format.Messages.{Message, count_of, first_body}
use Rattle.h5_model.specs.Format.Reads.{kept_of}
use Rattle.h5_model.specs.Format.Described.{IsFill, storage_of, Described, HasArray}
use Rattle.h5_model.specs.Tree.Places.{cells, extent_cells}
use Rattle.h5_header.specs.Kinds.{IsOfDataset}
use Rattle.h5_layout.specs.ArrayEdits.{AreOthersKept}
use Rattle.h5_layout.specs.ExtentNow.{SaysExtent}
use Rattle.h5_layout.proofs.LayoutBodies.{block_no_chunks, no_chunks}

-- ---- the messages of one type

abbrev pub of_type : ℕ → List Message → List Message
of_type k ms = filter (λ (m : Message). m.kind == k) ms

pub count_filtered : (k : ℕ) (ms : List Message) → count_of k ms ≡ length (of_type k ms)
count_filtered k [] = refl
count_filtered k (m ∷ ms) = elim (m.kind == k) as (λ b. cond b 1 0 + count_of k ms ≡ length (cond b (m ∷ of_type k ms) (of_type k ms))) [
  | true ↦ omega (arith, count_filtered k ms)
  | false ↦ omega (arith, count_filtered k ms)
]

abbrev pub first_of : List Message → Option (List ℕ)
first_of [] = None
first_of (m ∷ ms) = Some m.body

pub first_filtered : (k : ℕ) (ms : List Message) → first_body k ms ≡ first_of (of_type k ms)
first_filtered k [] = refl
first_filtered k (m ∷ ms) = elim (m.kind == k) as (λ b.
    option_map (λ (x : Message). x.body) (cond b (Some m) (find (λ (x : Message). x.kind == k) ms)) ≡ first_of (cond b (m ∷ of_type k ms) (of_type k ms))) [
      | true ↦ refl
      | false ↦ first_filtered k ms
    ]

-- ---- a layout in chunks, which goes by how many sizes there are

by_rank : (a b c d : Bool) (x y z v w u : Option Layout) (l : Layout) → (x ≡ Some l → ⊥) → (y ≡ Some l → ⊥) → z ≡ u
    → cond a (cond b x (cond c y (cond d z None))) None ≡ Some l → cond a (cond b v (cond c w (cond d u None))) None ≡ Some l
by_rank false b c d x y z v w u l p q same h = absurd (cc)
by_rank true true c d x y z v w u l p q same h = absurd (p h)
by_rank true false true d x y z v w u l p q same h = absurd (q h)
by_rank true false false true x y z v w u l p q same h = sym same ∙ h
by_rank true false false false x y z v w u l p q same h = h

layout_by_rank : (old new : List ℕ) (size : ℕ) (body chunk : List ℕ) (root : Option ℕ) → length new ≡ length old
    → layout_of old size body ≡ Some (InChunks chunk root) → layout_of new size body ≡ Some (InChunks chunk root)
unfolding layout_of
layout_by_rank old new size body chunk root ranked =
    by_rank _ _ _ _ (compact_layout (cells old * size) body) (contiguous_layout (cells old * size) body) (chunked_layout (length old) size body)
    (compact_layout (cells new * size) body) (contiguous_layout (cells new * size) body) (chunked_layout (length new) size body) (InChunks chunk root)
    (no_chunks _ _ chunk root) (block_no_chunks _ _ _ _ chunk root) (ap (λ (n : ℕ). chunked_layout n size body) (sym ranked))

pub layout_still : (old new : List ℕ) (size : ℕ) (l : Layout) (body : Option (List ℕ)) → is_chunked (storage_of old l) ≡ true → length new ≡ length old
    → option_and_then (layout_of old size) body ≡ Some l → option_and_then (layout_of new size) body ≡ Some l
layout_still old new size (InMessage bytes) body chunked ranked says = absurd (let never : false ≡ true = chunked in cc)
layout_still old new size (InBlock b) body chunked ranked says = absurd (let never : false ≡ true = chunked in cc)
layout_still old new size (InChunks chunk root) None chunked ranked says = absurd (cc)
layout_still old new size (InChunks chunk root) (Some body) chunked ranked says = layout_by_rank old new size body chunk root ranked says

-- ---- the array

module _ (ms ms' : List Message) (e : Extent) (says : SaysExtent ms ms' e) where
  abbrev IsOther : ℕ → Type 0
  IsOther k = ((nil_kind == k) ≡ false) × ((dataspace_kind == k) ≡ false) × ((datatype_kind == k) ≡ false) × ((continuation_kind == k) ≡ false) × ((symbol_table_kind == k) ≡ false)

  same_types : (k : ℕ) → IsOther k → of_type k ms' ≡ of_type k ms
  same_types k (a, b, c, d, f) = says.others (λ (n : ℕ). n == k) (a, (b, (c, (d, (f, tt)))))

  same_count : (k : ℕ) → IsOther k → count_of k ms' ≡ count_of k ms
  same_count k other = count_filtered k ms' ∙ ap (λ (xs : List Message). length xs) (same_types k other) ∙ sym (count_filtered k ms)

  same_body : (k : ℕ) → IsOther k → first_body k ms' ≡ first_body k ms
  same_body k other = first_filtered k ms' ∙ ap first_of (same_types k other) ∙ sym (first_filtered k ms)

  layouts : IsOther 8
  layouts = (refl, refl, refl, refl, refl)

  fills : IsOther 5
  fills = (refl, refl, refl, refl, refl)

  old_fills : IsOther 4
  old_fills = (refl, refl, refl, refl, refl)

  pub kinds_now : IsOfDataset ms → IsOfDataset ms'
  kinds_now is = record {
    no_table = says.tables ∙ is.no_table;
    once = (says.once, (says.types ∙ ((is.once).1).0, (same_count data_layout_kind layouts ∙ (((is.once).1).1).0, tt)));
    fills = (omega (arith, same_count old_fill_value_kind old_fills, (is.fills).0), (omega (arith, same_count fill_value_kind fills, ((is.fills).1).0), tt));
  }

  pub others_now : AreOthersKept ms ms'
  others_now = record {
    attributes = ap (map (λ (m : Message). m.body)) (says.others (λ (k : ℕ). k == attribute_kind) (refl, (refl, (refl, (refl, (refl, tt))))));
    kept = ap (map kept_of) (says.others (λ (k : ℕ). (k == comment_kind || k == old_modification_time_kind) || k == modification_time_kind) (refl, (refl, (refl, (refl, (refl, tt))))));
  }

  pub array_now : (a : Described) → HasArray ms a → is_chunked (storage_of a.sizes a.layout) ≡ true → length e.sizes ≡ length a.sizes → e.maxima ≡ a.maxima
      → extent_cells e.sizes ≤ most_cells → HasArray ms' (record a { sizes = e.sizes })
  array_now a has chunked ranked maxima few = record {
    one_space = says.once;
    one_type = says.types ∙ has.one_type;
    one_layout = same_count data_layout_kind layouts ∙ has.one_layout;
    old_fills = omega (arith, same_count old_fill_value_kind old_fills, has.old_fills);
    fills = omega (arith, same_count fill_value_kind fills, has.fills);
    space = says.space ∙ ap (λ (ns : List (Option ℕ)). Some (record { sizes = e.sizes; maxima = ns })) maxima;
    type = says.datatype ∙ has.type;
    filled = record {
      old_fill = (has.filled).old_fill;
      new_fill = (has.filled).new_fill;
      old_filled = subst (λ (b : Option (List ℕ)). IsFill (old_fill_value a.fixed) b (has.filled).old_fill) (sym (same_body old_fill_value_kind old_fills)) (has.filled).old_filled;
      new_filled = subst (λ (b : Option (List ℕ)). IsFill (fill_value a.fixed) b (has.filled).new_fill) (sym (same_body fill_value_kind fills)) (has.filled).new_filled;
      filled = (has.filled).filled;
    };
    laid_out = ap (option_and_then (layout_of e.sizes a.fixed.size)) (same_body data_layout_kind layouts)
        ∙ layout_still a.sizes e.sizes a.fixed.size a.layout (first_body data_layout_kind ms) chunked ranked has.laid_out;
    small = few;
    chunk_small = has.chunk_small;
  }
