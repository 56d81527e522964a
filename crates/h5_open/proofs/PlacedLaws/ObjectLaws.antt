-- Each object that was read is the one that a reading of the image places at its header.
use Rattle.std.proofs.Common.{◌≡◌, ℕ, zero, suc, ◌+◌, List, [], ◌∷◌, ◌∙◌, subst, Some}
use Rattle.std.specs.List.{AllByRecursion, IsDistinct}
use Rattle.std.specs.Ordering.{nat_cmp, eq_by_cmp}
use Rattle.std.specs.FinMap.{get}
use Rattle.h5_model.specs.Format.Symbols.{Header}
use Rattle.h5_model.specs.Format.Reads.{HasObject, IsPlaced}
use Rattle.h5_open.specs.declared.opened.object.OpenedObject.{OpenedObject}
use Rattle.h5_open.specs.Opened.Kept.{IsObjectKept}
use Rattle.h5_open.specs.Opened.Objects.{headers, number_in, content_links, object_in, object_blocks, table_of, slots_of}
use Rattle.h5_laws.proofs.Lists.{In, in_all, in_contains}
use Rattle.h5_open.specs.Opened.Sound.{IsHeaderIn}
use Rattle.h5_open.proofs.ToldObject.{told_object}
use Rattle.h5_open.specs.Placed.Whole.{IsLedTo, HasHeight, AreLed, placed_from}
use Rattle.h5_open.proofs.OpenedLaws.Entries.{get_table_dense, header_at_dense}
use Rattle.h5_open.proofs.PlacedLaws.Places.{at_number}

module _ (image : List ℕ) (objects : List OpenedObject) (distinct : IsDistinct (eq_by_cmp nat_cmp) (headers objects)) where
  -- the table has each header at its number
  header_there : (o : OpenedObject) → In o objects → get (table_of (slots_of objects)) (number_in (table_of (slots_of objects)) o.messages.header) ≡ Some o.messages.header
  header_there o there =
      let number = number_in (table_of (slots_of objects)) o.messages.header in
      get_table_dense objects number ∙ header_at_dense objects number o (at_number objects distinct o there)

  -- a hard link names the header of one of them
  led_header : (height : ℕ) (o : OpenedObject) → HasHeight image objects height o → (name : List ℕ) (h : ℕ) → In (name, Header h) (content_links image o.content)
      → IsHeaderIn (table_of (slots_of objects)) h
  led_header zero o none name h at = absurd (subst (In (name, Header h)) none at)
  led_header (suc height) o led name h at =
      let to = in_all (IsLedTo objects (HasHeight image objects height)) (name, Header h) (content_links image o.content) led at in
      (number_in (table_of (slots_of objects)) h, subst (λ (g : ℕ). get (table_of (slots_of objects)) (number_in (table_of (slots_of objects)) g) ≡ Some g) to.2 (header_there to.0 (in_contains to.0 objects to.1)))

  has_object : (o : OpenedObject) → IsObjectKept image o → AreLed image objects o
      → HasObject image (table_of (slots_of objects)) o.messages.header (object_in image (table_of (slots_of objects)) o) (object_blocks image o)
  has_object o kept led = told_object image (table_of (slots_of objects)) o kept
      (λ name h at. led_header led.0 o led.1 name h (in_contains (name, Header h) (content_links image o.content) at))

  pub all_placed : (n : ℕ) (os : List OpenedObject) → AllByRecursion (IsObjectKept image) os → AllByRecursion (AreLed image objects) os
      → AllByRecursion (IsPlaced image (table_of (slots_of objects))) (placed_from image (table_of (slots_of objects)) n os)
  all_placed n [] kept led = tt
  all_placed n (o ∷ os) kept led = (has_object o kept.0 led.0, all_placed (n + 1) os kept.1 led.1)
