-- The array that messages describe is the one that they tell.
use Rattle.std.proofs.Common.{◌≡◌, ℕ, List, [], Option, Some, None, ℤ, false, sym, ap, ap₂, ◌∙◌}
use Rattle.std.specs.Prelude.{option_and_then, unwrap_or}
use Rattle.h5_model.specs.Format.MessageTypes.{fill_value_kind, old_fill_value_kind}
use Rattle.h5_model.specs.Format.Messages.{Message, first_body}
use Rattle.h5_model.specs.Format.Fixed.{Fixed}
use Rattle.h5_model.specs.Format.Extent.{Extent}
use Rattle.h5_model.specs.Format.Fill.{fill_value, old_fill_value, chosen_fill}
use Rattle.h5_model.specs.Format.Layout.{Layout, InBlock}
use Rattle.h5_model.specs.Format.Reached.{layout_among, layout_by}
use Rattle.h5_model.specs.Format.Described.{IsFill, Described, HasArray}
use Rattle.h5_model.proofs.DescribedLaws.{same_array}
use Rattle.h5_layout.specs.Told.{extent_told, type_told, fill_told, layout_told, array_told}

told_value : (value : List ℕ → Option ℤ) (body : Option (List ℕ)) (f : Option ℤ) → IsFill value body f → option_and_then value body ≡ f
told_value value None f is = sym is
told_value value (Some body) f is = is.0

module _ (ms : List Message) (a : Described) (has : HasArray ms a) where
  extent : extent_told ms ≡ record { sizes = a.sizes; maxima = a.maxima }
  extent = ap (λ (o : Option Extent). unwrap_or o (record { sizes = []; maxima = [] })) has.space

  type : type_told ms ≡ a.fixed
  type = ap (λ (o : Option Fixed). unwrap_or o (record { size = 1; signed = false; big = false })) has.type

  fill : fill_told ms a.fixed ≡ a.fill
  fill = ap₂ chosen_fill (told_value (fill_value a.fixed) (first_body fill_value_kind ms) (has.filled).new_fill (has.filled).new_filled)
      (told_value (old_fill_value a.fixed) (first_body old_fill_value_kind ms) (has.filled).old_fill (has.filled).old_filled) ∙ sym (has.filled).filled

  pub laid_out : layout_among ms ≡ Some a.layout
  laid_out = (λ i. option_and_then (λ (e : Extent). option_and_then (layout_by ms e) (has.type i)) (has.space i)) ∙ has.laid_out

  layout : layout_told ms ≡ a.layout
  layout = ap (λ (o : Option Layout). unwrap_or o (InBlock None)) laid_out

  pub told : array_told ms ≡ a
  told = same_array (array_told ms) a type (ap (λ (e : Extent). e.sizes) extent) (ap (λ (e : Extent). e.maxima) extent)
      (ap (fill_told ms) type ∙ fill) layout
