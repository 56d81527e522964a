-- The array that messages describe: there is one at most, and with its data it is the dataset.
use Rattle.std.proofs.Common.{◌≡◌, ℕ, List, Option, Some, None, ℤ, refl, sym, ap, ap₂, ◌∙◌, subst}
use Rattle.std.specs.Prelude.{option_and_then}
use Rattle.std.proofs.lemmas.Option.{same_Some}
use Rattle.std.specs.List.{AllByRecursion}
use Rattle.h5_bytes.specs.declared.Block.{Block}
use Rattle.h5_model.specs.Format.MessageTypes.{data_layout_kind, fill_value_kind, old_fill_value_kind}
use Rattle.h5_model.specs.Format.Messages.{Message, first_body}
use Rattle.h5_model.specs.Format.Fixed.{Fixed}
use Rattle.h5_model.specs.Format.Extent.{Extent}
use Rattle.h5_model.specs.Format.Fill.{fill_value, old_fill_value, chosen_fill}
use Rattle.h5_model.specs.Format.Layout.{layout_of}
use Rattle.h5_model.specs.Format.Chunks.{Chunks}
use Rattle.h5_model.specs.Tree.Objects.{Dataset}
use Rattle.h5_model.specs.Format.Described.{Described, array_of, IsFill, HasFill, HasArray, described_dataset}
use Rattle.h5_model.specs.Format.Reads.{HasData, HasDataset, InDataset}

-- ---- one array at most

one_value : (value : List ℕ → Option ℤ) (body : Option (List ℕ)) (f g : Option ℤ) → IsFill value body f → IsFill value body g → f ≡ g
one_value value None f g p q = p ∙ sym q
one_value value (Some body) f g p q = sym p.0 ∙ q.0

one_fill : (ms : List Message) (t : Fixed) (f g : ℤ) → HasFill ms t f → HasFill ms t g → f ≡ g
one_fill ms t f g p q =
    let old : p.old_fill ≡ q.old_fill = one_value (old_fill_value t) (first_body old_fill_value_kind ms) p.old_fill q.old_fill p.old_filled q.old_filled in
    let new : p.new_fill ≡ q.new_fill = one_value (fill_value t) (first_body fill_value_kind ms) p.new_fill q.new_fill p.new_filled q.new_filled in
    p.filled ∙ ap₂ chosen_fill new old ∙ sym q.filled

pub same_array : (a b : Described) → a.fixed ≡ b.fixed → a.sizes ≡ b.sizes → a.maxima ≡ b.maxima → a.fill ≡ b.fill → a.layout ≡ b.layout → a ≡ b
same_array a b p q r s t = λ i. record { fixed = p i; sizes = q i; maxima = r i; fill = s i; layout = t i }

pub one_array : (ms : List Message) (a b : Described) → HasArray ms a → HasArray ms b → a ≡ b
one_array ms a b h g =
    let space = same_Some _ _ (sym h.space ∙ g.space) in
    let sizes : a.sizes ≡ b.sizes = ap (λ (x : Extent). x.sizes) space in
    let maxima : a.maxima ≡ b.maxima = ap (λ (x : Extent). x.maxima) space in
    let fixed : a.fixed ≡ b.fixed = same_Some _ _ (sym h.type ∙ g.type) in
    let fill : a.fill ≡ b.fill = one_fill ms b.fixed a.fill b.fill (subst (λ (t : Fixed). HasFill ms t a.fill) fixed h.filled) g.filled in
    let read : option_and_then (layout_of a.sizes a.fixed.size) (first_body data_layout_kind ms) ≡ option_and_then (layout_of b.sizes b.fixed.size) (first_body data_layout_kind ms)
    = λ i. option_and_then (layout_of (sizes i) ((fixed i).size)) (first_body data_layout_kind ms) in
    let layout : a.layout ≡ b.layout = same_Some _ _ (sym h.laid_out ∙ read ∙ g.laid_out) in
    same_array a b fixed sizes maxima fill layout

-- ---- the dataset

pub has_dataset : (image : List ℕ) (ms : List Message) (a : Described) (chunks : Chunks) (blocks : List Block) → HasArray ms a → AllByRecursion InDataset ms
    → HasData image a.fixed a.layout chunks blocks → HasDataset image ms (described_dataset image a chunks) blocks
has_dataset image ms a chunks blocks h known stored = record { known = known; layout = a.layout; array = h; storage = refl; chunks = chunks; stored = stored; cells = refl }

-- what the messages of a dataset describe
abbrev pub in_header : (image : List ℕ) (ms : List Message) (d : Dataset) (blocks : List Block) → HasDataset image ms d blocks → Described
in_header image ms d blocks h = array_of d.fixed d.sizes d.maxima d.fill h.layout

-- the dataset is that of the description, with its stored chunks
pub dataset_in-in_header : (image : List ℕ) (ms : List Message) (d : Dataset) (blocks : List Block) (h : HasDataset image ms d blocks)
    → described_dataset image (in_header image ms d blocks h) h.chunks ≡ d
dataset_in-in_header image ms d blocks h =
    λ i. record { fixed = d.fixed; sizes = d.sizes; maxima = d.maxima; storage = (sym h.storage) i; fill = d.fill; cells = (sym h.cells) i }
