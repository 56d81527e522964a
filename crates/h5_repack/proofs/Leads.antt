-- Where links lead in a layout, and that their texts don't depend on it.
use Rattle.std.proofs.Common.{◌≡◌, ℕ, ◌+◌, ◌*◌, ◌≤◌, List, [], ◌∷◌, map, refl, sym, ap, ◌∙◌, subst, arith, length, Option, Some, None}
use Rattle.std.proofs.lemmas.Slice.Zip.{AllZip-long}
use Rattle.std.specs.Prelude.{slice_get}
use Rattle.std.specs.List.{AllZip}
use Rattle.std.specs.Option.{option_map_or}
use Rattle.h5_model.specs.Format.Limits.{most_bytes, highest_level}
use Rattle.h5_model.specs.Format.Plain.{segment_bytes}
use Rattle.h5_model.specs.Format.PlainLength.{nodes_over, rows_of}
use Rattle.h5_model.specs.Format.Sizes.{group_node, symbol_node}
use Rattle.h5_model.specs.Tree.Objects.{Link, ToObject, Soft}
use Rattle.h5_btree.specs.Writing.Written.{root_level}
use Rattle.h5_group.specs.Heap.Links.{Leads, ToGroup, ToArray, ToText, heap_texts}
use Rattle.h5_group.specs.Writing.Laws as laws
use Rattle.h5_group.specs.Writing.Places.{ArePlaces}
use Rattle.h5_group.specs.declared.write.places.GroupPlaces.{GroupPlaces}
use Rattle.h5_repack.specs.declared.size.Extent.{Extent}
use Rattle.h5_repack.specs.declared.size.Extent.TheVariants as extent
use Rattle.h5_repack.specs.declared.size.Size.{Size}
use Rattle.h5_repack.specs.declared.group.Layout.{Layout}
use Rattle.h5_repack.specs.Layout.{IsLowExtent, IsLowSize, extent_length, header_by, leads_at, leads_behind, leads_by, size_length, written_at}

-- ---- addresses

pub heap_low : (h : ℕ) (s : Size) (p : GroupPlaces) → s.extent ≡ extent.Links p → IsLowSize s → h + size_length s ≤ most_bytes → h + s.header + p.tree ≤ most_bytes
heap_low h s p e low within =
    let own : (p.tree ≤ p.length) × (p.length ≤ most_bytes) = subst IsLowExtent e low.extent_low in
    let length_is : extent_length s.extent ≡ p.length = ap extent_length e in
    omega (arith, own.0, length_is, within)

pub leads_found : (l : Layout) (n : ℕ) (s : Size) (x : Extent) → slice_get l.sizes.now n ≡ Some s → s.extent ≡ x
    → leads_behind (header_by l n) (header_by l n + s.header) x ≡ leads_by l n
leads_found l n s x found e =
    ap (leads_behind (header_by l n) (header_by l n + s.header)) (sym e)
    ∙ sym (ap (λ (r : Option Size). option_map_or (leads_at (header_by l n)) r (ToArray 0)) found)

-- ---- texts

leads_object : (name : List ℕ) (n : ℕ) (h tree : ℕ) (x : Extent) → laws.IsLinkWritten (name, ToObject n) (name, leads_behind h tree x)
leads_object name n h tree (extent.Links p) = refl
leads_object name n h tree (extent.Data k) = refl

leads_some : (name : List ℕ) (n h : ℕ) (r : Option Size) → laws.IsLinkWritten (name, ToObject n) (name, option_map_or (leads_at h) r (ToArray 0))
leads_some name n h None = refl
leads_some name n h (Some s) = leads_object name n h (h + s.header) s.extent

is_written : (l : Layout) (e : List ℕ × Link) → laws.IsLinkWritten e (written_at l e)
is_written l (name, ToObject n) = leads_some name n (header_by l n) (slice_get l.sizes.now n)
is_written l (name, Soft text) = (refl, refl)

-- links are written as links of their names and texts
pub all_written : (l : Layout) (es : List (List ℕ × Link)) → AllZip laws.IsLinkWritten es (map (written_at l) es)
all_written l [] = tt
all_written l (e ∷ es) = (is_written l e, all_written l es)

texts_of : List (List ℕ × Link) → List (List ℕ)
texts_of [] = []
texts_of ((name, ToObject n) ∷ es) = name ∷ texts_of es
texts_of ((name, Soft text) ∷ es) = name ∷ text ∷ texts_of es

spelled_is : (es : List (List ℕ × Link)) (ls : List (List ℕ × Leads)) → AllZip laws.IsLinkWritten es ls → heap_texts ls ≡ texts_of es
unfolding texts_of
spelled_is [] [] all = refl
spelled_is [] (l ∷ ls) all = absurd all
spelled_is (e ∷ es) [] all = absurd all
spelled_is ((name, ToObject n) ∷ es) ((own, ToGroup header tree heap) ∷ ls) all = (λ i. sym all.0 i ∷ spelled_is es ls all.1 i)
spelled_is ((name, ToObject n) ∷ es) ((own, ToArray header) ∷ ls) all = (λ i. sym all.0 i ∷ spelled_is es ls all.1 i)
spelled_is ((name, ToObject n) ∷ es) ((own, ToText text) ∷ ls) all = absurd all.0
spelled_is ((name, Soft text) ∷ es) ((own, ToGroup header tree heap) ∷ ls) all = absurd all.0
spelled_is ((name, Soft text) ∷ es) ((own, ToArray header) ∷ ls) all = absurd all.0
spelled_is ((name, Soft text) ∷ es) ((own, ToText other) ∷ ls) all = (λ i. sym all.0.0 i ∷ sym all.0.1 i ∷ spelled_is es ls all.1 i)

-- so their parts lie alike wherever they lead
pub same_places : (leaf internal : ℕ) (es : List (List ℕ × Link)) (xs ys : List (List ℕ × Leads)) (p : GroupPlaces) → AllZip laws.IsLinkWritten es xs → AllZip laws.IsLinkWritten es ys
    → ArePlaces leaf internal xs p → ArePlaces leaf internal ys p
same_places leaf internal es xs ys p all_xs all_ys are =
    let texts : heap_texts xs ≡ heap_texts ys = spelled_is es xs all_xs ∙ sym (spelled_is es ys all_ys) in
    let count : length xs ≡ length ys = AllZip-long laws.IsLinkWritten es xs all_xs ∙ sym (AllZip-long laws.IsLinkWritten es ys all_ys) in
    record {
      tree = are.tree ∙ ap (λ n. nodes_over 64 (2 * internal) (rows_of (2 * leaf) n) * group_node internal) count;
      segment = are.segment ∙ ap (λ (t : List (List ℕ)). length (segment_bytes t)) texts;
      length_is = are.length_is ∙ (λ i. nodes_over 64 (2 * internal) (rows_of (2 * leaf) (count i)) * group_node internal + 32 + length (segment_bytes (texts i)) + rows_of (2 * leaf) (count i) * symbol_node leaf);
      few = are.few;
      low = subst (λ n. root_level internal (rows_of (2 * leaf) n) ≤ highest_level) count are.low;
    }
