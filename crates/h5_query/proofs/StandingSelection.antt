-- Four lists that are a selection within an array: no rule refuses them.
use Rattle.std.proofs.Common.{◌≡◌, ℕ, List, [], ◌∷◌, Bool, true, false, not, Result, Ok, Err, if◌then◌else◌, None, length, refl, sym, ◌∙◌, subst, arith}
use Rattle.std.specs.Prelude.{nat_le}
use Rattle.std.specs.List.{list_any}
use Rattle.std.proofs.lemmas.Bool.{and_parts}
use Rattle.h5_model.specs.Edits.Refusal.{first_holding}
use Rattle.h5_model.specs.Views.Selection.{Slab, Within, axes_of, has_rank, has_no_stride, overlaps, is_within}
use Rattle.h5_model.specs.declared.edit_fault.EditFault.TheVariants as fault
use Rattle.h5_model.specs.declared.hyperslab.Hyper.{Hyper}
use Rattle.h5_model.proofs.CountLaws.{length-selection}
use Rattle.h5_model.proofs.RefusalLaws.{length-axes_of}
use Rattle.h5_model.proofs.WithinLaws.{to_is_within}
use Rattle.h5_shape.specs.Slab.{is_of_one_rank, slab_of}
use Rattle.h5_shape.specs.declared.slab.SlabFault.{SlabFault}
use Rattle.h5_shape.specs.declared.slab.SlabFault.TheVariants as slab_fault
use Rattle.h5_query.specs.Selected.{IsSlabOf, hyper_rules}
use Rattle.h5_query.proofs.SelectionLaws.{selection_few}

-- what four lists keep to that are a selection
module _ (slab : Slab) where
  abbrev judged : Bool → Bool → Bool → Result Slab SlabFault
  judged rank strides apart =
      if not rank then Err slab_fault.RankMismatch
      else if strides then Err slab_fault.StrideZero
      else if apart then Err slab_fault.BlocksOverlap
      else Ok slab

  kept : (rank strides apart : Bool) → judged rank strides apart ≡ Ok slab → (rank ≡ true) × (strides ≡ false) × (apart ≡ false)
  kept false strides apart is = absurd (cc)
  kept true true apart is = absurd (cc)
  kept true false true is = absurd (cc)
  kept true false false is = (refl, refl, refl)

module _ (sizes : List ℕ) (hyper : Hyper) (selection : slab_of hyper ≡ Ok (axes_of hyper)) (rank : length (axes_of hyper) ≡ length sizes) (within : Within sizes (axes_of hyper)) where
  rules : (is_of_one_rank hyper ≡ true) × (list_any has_no_stride (axes_of hyper) ≡ false) × (list_any overlaps (axes_of hyper) ≡ false)
  rules = kept (axes_of hyper) (is_of_one_rank hyper) (list_any has_no_stride (axes_of hyper)) (list_any overlaps (axes_of hyper)) selection

  ranked : has_rank (length sizes) hyper ≡ true
  ranked =
      let own = (and_parts (has_rank (length hyper.start) hyper) (nat_le (length hyper.start) 32) rules.0).0 in
      let long = length-axes_of (length hyper.start) hyper own in
      subst (λ n. has_rank n hyper ≡ true) (sym long ∙ rank) own

  inside : is_within sizes (axes_of hyper) ≡ true
  inside = to_is_within sizes (axes_of hyper) within

  pub selection_accepted : first_holding (hyper_rules sizes hyper) ≡ None
  selection_accepted = λ i. first_holding (
      (fault.RankMismatch, not (ranked i))
      ∷ (fault.StrideZero, rules.1 i)
      ∷ (fault.BlocksOverlap, rules.2 i)
      ∷ (fault.OutOfExtent, not (inside i))
      ∷ []
      )

  pub selection_is : IsSlabOf sizes (axes_of hyper)
  selection_is =
      let counted = length-selection sizes (axes_of hyper) (sym rank) inside rules.2 in
      let few = selection_few sizes (axes_of hyper) in
      record { rank = rank; within = within; counted = counted; few = omega (arith, few, counted) }
