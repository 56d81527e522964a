-- What a view shows, kept or lent.
use Rattle.std.proofs.Common.{Bor, ◌≡◌, ℕ, true, false, cond, List, length, Option, Some, None, Ok, Err, sym, ap, ◌∙◌, subst}
use Rattle.std.specs.Prelude.{MatchOption}
use Rattle.std.specs.List.{list_any}
use Rattle.std.specs.Option.{is_some, option_map_or}
use Rattle.h5_model.specs.Format.Fixed.{Fixed, IsFixed}
use Rattle.h5_model.specs.Format.Plain.{cells_bytes}
use Rattle.h5_model.specs.Tree.Objects.{Tree, Dataset, dataset_of}
use Rattle.h5_model.specs.Views.Selection.{Slab, is_within, overlaps}
use Rattle.h5_model.specs.Views.Shown.{is_lent, selected_values, shown_by, shown_of}
use Rattle.h5_model.specs.declared.view_fault.ViewFault.TheVariants as fault
use Rattle.h5_model.proofs.CountLaws.{length-selection}
use Rattle.h5_model.proofs.WithinLaws.{from_is_within}
use Rattle.h5_edit.specs.Fits.Laws.{AreBytes}
use Rattle.h5_edit.specs.Lent.{IsLent}
use Rattle.h5_edit.proofs.ChangedLaws.CellLaws.{bytes_of_stored}
use Rattle.h5_file.specs.OpenViews.{IsKeptOf, IsViewShown, view_of}
use Rattle.h5_file.specs.Patched.{KeptState}
use Rattle.h5_file.specs.declared.views.KeptView.{KeptView}
use Rattle.h5_file.proofs.KeptLaws.{kept_shown}

-- whether the bytes are lent
pub lent_is : (d : Dataset) (slab : Slab) (r : Option (Bor (List ℕ))) → MatchOption r (is_lent d slab ≡ false) (λ bytes. IsLent d slab bytes.now) → is_some r ≡ is_lent d slab
lent_is d slab None none = sym none
lent_is d slab (Some bytes) lent = sym lent.allowed

-- what is lent
pub lent_bytes : (d : Dataset) (slab : Slab) (bytes : List ℕ) → IsFixed d.fixed → AreBytes bytes → IsLent d slab bytes → bytes ≡ cells_bytes d.fixed (selected_values d slab)
lent_bytes d slab bytes sound low lent = bytes_of_stored d.fixed (length (selected_values d slab)) bytes sound low lent.long ∙ ap (cells_bytes d.fixed) lent.values

pub lent_found : (d : Dataset) (slab : Slab) (bytes : Bor (List ℕ)) (r : Option (Bor (List ℕ))) → MatchOption r (is_lent d slab ≡ false) (λ bytes. IsLent d slab bytes.now) → r ≡ Some bytes
    → IsLent d slab bytes.now
lent_found d slab bytes None none is = absurd (let never : None ≡ Some bytes = is in cc)
lent_found d slab bytes (Some b) lent is = let same : b ≡ bytes = cc in subst (λ (x : Bor (List ℕ)). IsLent d slab x.now) same lent

module _ (tree : Tree) (v : KeptView) (d : Dataset) (there : dataset_of tree v.object ≡ Some d) (within : is_within d.sizes v.slab ≡ true) (t : Fixed) (same : t ≡ d.fixed) where
  pub shown_there : (bytes : List ℕ) → bytes ≡ cells_bytes d.fixed (selected_values d v.slab) → shown_of tree (view_of v) ≡ Ok (record { fixed = t; bytes = bytes })
  shown_there bytes is =
      ap (λ (o : Option Dataset). option_map_or (λ d. shown_by d v.slab) o (Err fault.Gone)) there
      ∙ ap (λ b. cond b (Ok (record { fixed = d.fixed; bytes = cells_bytes d.fixed (selected_values d v.slab) })) (Err fault.OutsideNow)) within
      ∙ (λ i. Ok (record { fixed = sym same i; bytes = sym is i }))

  pub kept_there : length v.slab ≡ length d.sizes → list_any overlaps v.slab ≡ false → IsViewShown tree v → (k : KeptState) → v.kept ≡ Some k → (bytes : List ℕ) → bytes ≡ k.bytes
      → shown_of tree (view_of v) ≡ Ok (record { fixed = t; bytes = bytes })
  kept_there rank apart shown k keeps bytes is =
      let kept = subst (IsKeptOf d v.slab) keeps (shown d there) in
      let inside = from_is_within d.sizes v.slab (sym rank) within in
      let counted = length-selection d.sizes v.slab (sym rank) within apart in
      shown_there bytes (is ∙ kept_shown d v.slab rank inside apart counted k.bytes kept.1)
