-- Where headers stand that are placed one after another, and that these are the places of the table.
use Rattle.std.proofs.Common.{◌≡◌, ℕ, zero, suc, ◌+◌, ◌<◌, ◌≤◌, inl, inr, List, [], ◌∷◌, map, refl, sym, ap, ◌∙◌, subst, arith, length, length-set, set, drop, get_or, Option, Some, None}
use Rattle.std.proofs.lemmas.List.Elements.{All-get_or, All-from_recursion}
use Rattle.std.proofs.lemmas.Option.{slice_get-get_or}
use Rattle.std.specs.Prelude.{slice_get}
use Rattle.std.specs.List.{AllByRecursion}
use Rattle.std.specs.Option.{option_flatten, option_map_or}
use Rattle.std.specs.Ordering.{nat_cmp}
use Rattle.std.specs.FinMap.{find}
use Rattle.std.proofs.lemmas.List.{drop_more}
use Rattle.h5_model.specs.Tree.Objects.{Object}
use Rattle.h5_repack.specs.Image.Written.{object_length, headers_from, end_from}
use Rattle.h5_repack.proofs.ImageLaws.Places.{found_first, found_later}
use Rattle.h5_laws.proofs.Lists.{In}
use Rattle.h5_laws.proofs.Pigeonhole.{Apart}
use Rattle.h5_repack.specs.declared.size.Size.{Size}
use Rattle.h5_repack.specs.Layout.{end_of, headers_of, length_by_number, size_length}
use Rattle.h5_model.specs.declared.k_values.KValues.{KValues}

-- ---- an element that is set

set_here : {X : Type 0} (hs : List X) (n : ℕ) (v : X) → n < length hs → slice_get (set hs n v) n ≡ Some v
set_here [] n v low = absurd (omega (arith, low))
set_here (h ∷ hs) zero v low = refl
set_here (h ∷ hs) (suc n) v low = set_here hs n v (omega (arith, low))

set_other : {X : Type 0} (hs : List X) (m n : ℕ) (v : X) → (m ≡ n → ⊥) → slice_get (set hs n v) m ≡ slice_get hs m
set_other [] m n v other = refl
set_other (h ∷ hs) zero zero v other = absurd (other refl)
set_other (h ∷ hs) (suc m) zero v other = refl
set_other (h ∷ hs) zero (suc n) v other = refl
set_other (h ∷ hs) (suc m) (suc n) v other = set_other hs m n v (λ e. other (ap (λ (y : ℕ). suc y) e))

module _ (lengths : ℕ → ℕ) where
  pub end_rises : (at : ℕ) (ns : List ℕ) → at ≤ end_of lengths at ns
  end_rises at [] = omega arith
  end_rises at (n ∷ ns) = omega (arith, end_rises (at + lengths n) ns)

  pub length-headers : (at : ℕ) (ns : List ℕ) (hs : List (Option ℕ)) → length (headers_of lengths at ns hs) ≡ length hs
  length-headers at [] hs = refl
  length-headers at (n ∷ ns) hs = length-headers (at + lengths n) ns (set hs n (Some at)) ∙ length-set hs n (Some at)

  -- what is not placed is kept
  pub headers_kept : (at : ℕ) (ns : List ℕ) (hs : List (Option ℕ)) (m : ℕ) → (In m ns → ⊥) → slice_get (headers_of lengths at ns hs) m ≡ slice_get hs m
  headers_kept at [] hs m other = refl
  headers_kept at (n ∷ ns) hs m other =
      headers_kept (at + lengths n) ns (set hs n (Some at)) m (λ there. other (inr there)) ∙ set_other hs m n (Some at) (λ e. other (inl (sym e)))

  -- each ends within the end
  pub placed_within : (at : ℕ) (ns : List ℕ) (hs : List (Option ℕ)) → Apart ns → ((n : ℕ) → In n ns → n < length hs) → (m : ℕ) → In m ns
      → (place : ℕ) × (slice_get (headers_of lengths at ns hs) m ≡ Some (Some place)) × (place + lengths m ≤ end_of lengths at ns)
  placed_within at [] hs apart below m there = absurd there
  placed_within at (n ∷ ns) hs apart below m (inl e) = (
    at,
    subst (λ (y : ℕ). slice_get (headers_of lengths (at + lengths n) ns (set hs n (Some at))) y ≡ Some (Some at)) e
        (headers_kept (at + lengths n) ns (set hs n (Some at)) n apart.0 ∙ set_here hs n (Some at) (below n (inl refl))),
    subst (λ (y : ℕ). at + lengths y ≤ end_of lengths (at + lengths n) ns) e (end_rises (at + lengths n) ns),
  )
  placed_within at (n ∷ ns) hs apart below m (inr there) =
      placed_within (at + lengths n) ns (set hs n (Some at)) apart.1 (λ y there. subst (λ (z : ℕ). y < z) (sym (length-set hs n (Some at))) (below y (inr there))) m there

  module _ (k : KValues) (counts : ℕ → ℕ) (object : ℕ → Object) where
    abbrev pub AreLengths : List ℕ → Type 0
    AreLengths ns = (n : ℕ) → In n ns → object_length k (counts n) (object n) ≡ lengths n

    abbrev pub pairs : List ℕ → List (ℕ × Object)
    pairs ns = map (λ (n : ℕ). (n, object n)) ns

    pub end_same : (at : ℕ) (ns : List ℕ) → AreLengths ns → end_from k counts at (pairs ns) ≡ end_of lengths at ns
    end_same at [] same = refl
    end_same at (n ∷ ns) same =
        ap (λ y. end_from k counts (at + y) (pairs ns)) (same n (inl refl)) ∙ end_same (at + lengths n) ns (λ m there. same m (inr there))

    pub find_none : (at : ℕ) (ns : List ℕ) (m : ℕ) → (In m ns → ⊥) → find nat_cmp m (headers_from k counts at (pairs ns)) ≡ None
    find_none at [] m other = refl
    find_none at (n ∷ ns) m other =
        found_later m n at (headers_from k counts (at + object_length k (counts n) (object n)) (pairs ns)) (λ e. other (inl (sym e)))
        ∙ find_none (at + object_length k (counts n) (object n)) ns m (λ there. other (inr there))

    pub headers_found : (at : ℕ) (ns : List ℕ) (hs : List (Option ℕ)) → AreLengths ns → Apart ns → ((n : ℕ) → In n ns → n < length hs) → (m : ℕ) → In m ns
        → option_flatten (slice_get (headers_of lengths at ns hs) m) ≡ find nat_cmp m (headers_from k counts at (pairs ns))
    headers_found at [] hs same apart below m there = absurd there
    headers_found at (n ∷ ns) hs same apart below m (inl e) =
        subst (λ (y : ℕ). option_flatten (slice_get (headers_of lengths at (n ∷ ns) hs) y) ≡ find nat_cmp y (headers_from k counts at (pairs (n ∷ ns)))) e
        (ap option_flatten (headers_kept (at + lengths n) ns (set hs n (Some at)) n apart.0 ∙ set_here hs n (Some at) (below n (inl refl)))
        ∙ sym (found_first n at (headers_from k counts (at + object_length k (counts n) (object n)) (pairs ns))))
    headers_found at (n ∷ ns) hs same apart below m (inr there) =
        headers_found (at + lengths n) ns (set hs n (Some at)) (λ y there. same y (inr there)) apart.1
        (λ y there. subst (λ (z : ℕ). y < z) (sym (length-set hs n (Some at))) (below y (inr there))) m there
        ∙ ap (λ y. find nat_cmp m (headers_from k counts (at + y) (pairs ns))) (sym (same n (inl refl)))
        ∙ sym (found_later m n at (headers_from k counts (at + object_length k (counts n) (object n)) (pairs ns))
        (λ e. apart.0 (subst (λ (y : ℕ). In y ns) e there)))

-- ---- one object more

pub length_read : (sizes : List Size) (n : ℕ) (d : Size) → n < length sizes → size_length (get_or sizes n d) ≡ length_by_number sizes n
length_read sizes n d low = sym (ap (λ (r : Option Size). option_map_or size_length r 0) (slice_get-get_or sizes n d low))

pub all_at : (P : ℕ → Type 0) (ns : List ℕ) (i : ℕ) → AllByRecursion P ns → i < length ns → P (get_or ns i 0)
all_at P ns i all low = All-get_or P ns i 0 low (All-from_recursion P ns all)

module _ (sizes : List Size) (ns : List ℕ) (i end length_here : ℕ) (d : Size) (low : i < length ns) (within : get_or ns i 0 < length sizes)
    (here : length_here ≡ size_length (get_or sizes (get_or ns i 0) d)) where
  next_end : end + length_here ≡ end + length_by_number sizes (get_or ns i 0)
  next_end = ap (λ y. end + y) (here ∙ length_read sizes (get_or ns i 0) d within)

  pub end_step : end_of (length_by_number sizes) (end + length_here) (drop (i + 1) ns) ≡ end_of (length_by_number sizes) end (drop i ns)
  end_step = ap (λ y. end_of (length_by_number sizes) y (drop (i + 1) ns)) next_end ∙ sym (ap (end_of (length_by_number sizes) end) (drop_more ns i 0 low))

  pub headers_step : (hs : List (Option ℕ)) → headers_of (length_by_number sizes) (end + length_here) (drop (i + 1) ns) (set hs (get_or ns i 0) (Some end))
      ≡ headers_of (length_by_number sizes) end (drop i ns) hs
  headers_step hs =
      ap (λ y. headers_of (length_by_number sizes) y (drop (i + 1) ns) (set hs (get_or ns i 0) (Some end))) next_end
      ∙ sym (ap (λ ms. headers_of (length_by_number sizes) end ms hs) (drop_more ns i 0 low))

  pub end_over : (most total : ℕ) → most < end + length_here → end_of (length_by_number sizes) end (drop i ns) ≡ total → most < total
  end_over most total over total_is = omega (arith, end_rises (length_by_number sizes) (end + length_here) (drop (i + 1) ns), end_step, over, total_is)
