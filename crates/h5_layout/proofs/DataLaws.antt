-- The cells of an array by its layout, and by where they stand.
use Rattle.std.proofs.Common.{◌≡◌, ℕ, ℤ, ◌+◌, ◌*◌, ◌<◌, ◌≤◌, List, [], ◌++◌, length, map, Option, Some, None, true, refl, sym, ap, ◌∙◌, subst, arith, append-nil}
use Rattle.std.specs.Prelude.{nat_le, option_map, slice_index_or}
use Rattle.std.proofs.lemmas.Option.{same_Some}
use Rattle.std.specs.Ordering.{nat_cmp}
use Rattle.std.specs.Cmp.Lexicographic.{slice_cmp}
use Rattle.std.specs.FinMap.{get-empty}
use Rattle.std.specs.List.{range_with_len}
use Rattle.std.proofs.lemmas.Bool.Decides.{nat_tests}
use Rattle.std.proofs.lemmas.List.FromFn.{length-map-range_with_len, fill_by_all}
use Rattle.h5_bytes.specs.Bytes.{part}
use Rattle.h5_bytes.specs.Tables.{table}
use Rattle.h5_bytes.specs.declared.Block.{Block}
use Rattle.h5_bytes.proofs.PartLaws.{length-part}
use Rattle.h5_model.specs.Format.Cells.{cell_of, value_in}
use Rattle.h5_model.specs.Format.Fixed.{Fixed, IsFixed, fits}
use Rattle.h5_model.specs.Format.Layout.{Layout, InMessage, InBlock, InChunks}
use Rattle.h5_model.specs.Format.Described.{Described}
use Rattle.h5_model.specs.Format.Limits.{most_cells}
use Rattle.h5_model.specs.Tree.Places.{cells, index_of}
use Rattle.h5_model.proofs.PlaceLaws.{place-index}
use Rattle.h5_shape.proofs.Products.{cells_le}
use Rattle.h5_layout.specs.Data.{AreDataRead, IsSoundDataset, dataset_told, stored_chunks}
use Rattle.h5_layout.specs.Stored.{IsArray, has_room}
use Rattle.h5_layout.proofs.CellLaws.{map_ranges}

-- ---- one behind another, or nowhere

module _ (image : List ℕ) (t : Fixed) (fill : ℤ) (sizes : List ℕ) where
  abbrev pub cell_at_place : Layout → ℕ → ℤ
  cell_at_place layout place = cell_of image t fill sizes layout (stored_chunks image t layout) (index_of sizes place)

  pub cell_in_message : (layout : Layout) (bytes : List ℕ) → InMessage bytes ≡ layout → (place : ℕ) → place < cells sizes → value_in t bytes place ≡ cell_at_place layout place
  cell_in_message layout bytes is place low =
      subst (λ (l : Layout). value_in t bytes place ≡ cell_at_place l place) is (ap (value_in t bytes) (sym (place-index sizes place low)))

  -- a block, where it is known which bytes it has
  pub cell_in_block : (layout : Layout) (o : Option Block) (bytes : List ℕ) → InBlock o ≡ layout → option_map (λ (b : Block). part b.at b.len image) o ≡ Some bytes
      → (place : ℕ) → place < cells sizes → value_in t bytes place ≡ cell_at_place layout place
  cell_in_block layout None bytes is same place low = absurd (cc)
  cell_in_block layout (Some b) bytes is same place low =
      subst (λ (l : Layout). value_in t bytes place ≡ cell_at_place l place) is
      (ap (λ (bs : List ℕ). value_in t bs place) (sym (same_Some (part b.at b.len image) bytes same)) ∙ ap (value_in t (part b.at b.len image)) (sym (place-index sizes place low)))

  pub cell_in_no_chunk : (layout : Layout) (chunk : List ℕ) (o : Option ℕ) → InChunks chunk o ≡ layout → o ≡ None → (place : ℕ) → fill ≡ cell_at_place layout place
  cell_in_no_chunk layout chunk o is none place =
      subst (λ (l : Layout). fill ≡ cell_at_place l place) (ap (InChunks chunk) (sym none) ∙ is)
      (rw (get-empty (slice_cmp nat_cmp)) refl)

-- ---- room

pub room_in_block : (image : List ℕ) (t : Fixed) (sizes : List ℕ) (layout : Layout) (o : Option Block) (bytes : List ℕ) → InBlock o ≡ layout
    → option_map (λ (b : Block). part b.at b.len image) o ≡ Some bytes → AreDataRead image t layout → has_room sizes t.size layout ≡ true → cells sizes * t.size ≤ length bytes
room_in_block image t sizes layout None bytes is same read room = absurd (cc)
room_in_block image t sizes layout (Some b) bytes is same read room =
    let end : b.at + b.len ≤ length image = subst (AreDataRead image t) (sym is) read in
    let enough : nat_le (cells sizes * t.size) b.len ≡ true = subst (λ (l : Layout). has_room sizes t.size l ≡ true) (sym is) room in
    let long : length bytes ≡ b.len = ap length (sym (same_Some (part b.at b.len image) bytes same)) ∙ length-part b.at b.len image end in
    grind (arith, nat_tests)

pub few_cells : (sizes lent : List ℕ) (a : Described) → lent ≡ a.sizes → IsArray a → cells lent ≤ most_cells
few_cells sizes lent a same sound = rw same (omega (arith, cells_le a.sizes, sound.small))

-- ---- the dataset

pub sound_dataset : (image : List ℕ) (a : Described) → IsFixed a.fixed → fits a.fixed a.fill ≡ true → IsArray a → IsSoundDataset (dataset_told image a)
sound_dataset image a fixed fill sound = record {
  fixed = fixed;
  fill = fill;
  counted = length-map-range_with_len (cell_at_place image a.fixed a.fill a.sizes a.layout) 0 (cells a.sizes);
  few = omega (arith, cells_le a.sizes, sound.small);
}

pub length-told : (image : List ℕ) (a : Described) → length (dataset_told image a).cells ≡ cells a.sizes
length-told image a = length-map-range_with_len (cell_at_place image a.fixed a.fill a.sizes a.layout) 0 (cells a.sizes)

-- all cells by their places
pub all_values : (vs : List ℤ) (fill : ℤ) (n : ℕ) → n ≡ length vs → map (λ p. slice_index_or vs p fill) (range_with_len 0 n ++ []) ≡ vs
all_values vs fill n long =
    ap (map (λ p. slice_index_or vs p fill)) (append-nil (range_with_len 0 n))
    ∙ sym (fill_by_all (λ p. slice_index_or vs p fill) vs n fill (sym long) (λ k low. refl))

-- the cells of a table of values are those of the dataset
pub told_cells : (image : List ℕ) (a : Described) (f : ℕ → ℤ) (count : ℕ) → count ≡ cells a.sizes
    → ((place : ℕ) → place < cells a.sizes → f place ≡ cell_at_place image a.fixed a.fill a.sizes a.layout place) → table f count ≡ (dataset_told image a).cells
told_cells image a f count all each =
    ap (table f) all ∙ map_ranges f (cell_at_place image a.fixed a.fill a.sizes a.layout) 0 0 (cells a.sizes) (λ j low.
    let here : 0 + j ≡ j = omega arith in
    each (0 + j) (omega (arith, low, here)))
