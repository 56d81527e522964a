-- The headers that are given for numbers, of which some have none.
use Rattle.std.proofs.Common.{◌≡◌, ℕ, List, refl, sym, ap, ◌∙◌, Option, Some, None}
use Rattle.std.specs.Prelude.{slice_get}
use Rattle.std.specs.Option.{option_flatten}
use Rattle.std.specs.FinMap.{get}
use Rattle.std.proofs.lemmas.Option.{same_Some}
use Rattle.h5_model.specs.Tree.Objects.{Tree}
use Rattle.h5_model.specs.Format.Reads.{Reads}
use Rattle.h5_open.proofs.OpenedLaws.Made.{get_standing}
use Rattle.h5_open.specs.Renumbered.Headers.{table_with}

-- the table has what is given for a number, and no more
pub header_given : (hs : List (Option ℕ)) (n h : ℕ) → slice_get hs n ≡ Some (Some h) → get (table_with hs) n ≡ Some h
header_given hs n h at = get_standing hs n ∙ ap option_flatten at

pub given_header : (hs : List (Option ℕ)) (n h : ℕ) → get (table_with hs) n ≡ Some h → slice_get hs n ≡ Some (Some h)
given_header hs n h at = go (slice_get hs n) refl (sym (get_standing hs n) ∙ at) where
  go : (slot : Option (Option ℕ)) → slice_get hs n ≡ slot → option_flatten slot ≡ Some h → slice_get hs n ≡ Some (Some h)
  go None is there = absurd (cc)
  go (Some None) is there = absurd (cc)
  go (Some (Some g)) is there = is ∙ ap (λ (x : ℕ). Some (Some x)) (same_Some g h there)

-- each header stands once
abbrev pub Own : List (Option ℕ) → Type 0
Own hs = (a b h : ℕ) → slice_get hs a ≡ Some (Some h) → slice_get hs b ≡ Some (Some h) → a ≡ b

-- the headers of a reading do
pub own_of : (image : List ℕ) (hs : List (Option ℕ)) (tree : Tree) → Reads image (table_with hs) tree → Own hs
own_of image hs tree reads a b h p q = reads.1.holds.own a b h (header_given hs a h p) (header_given hs b h q)
