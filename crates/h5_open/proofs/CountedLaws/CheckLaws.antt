-- What the check of all objects says of the image.
use Rattle.std.proofs.Common.{◌≡◌, ◌≢◌, ◌∙◌, ℕ, List, [], length, refl, sym, subst, get_or, Some, arith}
use Rattle.std.proofs.lemmas.Option.{slice_get_read}
use Rattle.std.specs.Prelude.{slice_get}
use Rattle.h5_model.specs.Format.Messages.{prefix_at, reference_count}
use Rattle.h5_model.specs.Format.Reads.{ReadsAs}
use Rattle.h5_model.specs.declared.open_fault.Cause.{Cause}
use Rattle.h5_model.specs.declared.open_fault.Cause.TheVariants.{LinkCount}
use Rattle.h5_group.specs.Nodes.Walk.{IsFault}
use Rattle.h5_open.specs.declared.opened.object.OpenedObject.{OpenedObject}
use Rattle.h5_open.specs.Opened.Objects.{table_of, tree_of, slots_of}
use Rattle.h5_open.specs.Placed.Whole.{IsWholeImage, placed_of}
use Rattle.h5_open.proofs.PlacedLaws.WholeHolds.{whole_holds}
use Rattle.h5_laws.proofs.Lists.{contains_in, in_at, in_contains}
use Rattle.h5_open.specs.Counted.Links.{leading_links, all_links}
use Rattle.h5_open.specs.Counted.Counts.{AreCounted, HasMiscount}
use Rattle.h5_open.proofs.CountedLaws.ObjectLaws.{right_reads, wrong_fault}

module _ (image : List ℕ) (objects : List OpenedObject) (whole : IsWholeImage image objects) (counts : List ℕ) (are : AreCounted image objects counts []) where
  pub all_right : ((number : ℕ) (o : OpenedObject) → slice_get objects number ≡ Some o → reference_count (prefix_at image o.messages.header) ≡ get_or counts number 0)
      → ReadsAs image (table_of (slots_of objects)) (tree_of image (slots_of objects)) (placed_of image objects)
  all_right right =
      right_reads image objects whole (whole_holds image objects whole) (λ o member.
      let place = contains_in o objects member in
      let here : slice_get objects place.0 ≡ Some o = slice_get_read objects (length objects) place.0 o refl place.1 (sym place.2) in
      (get_or counts place.0 0, right place.0 o here, are.each place.0 o here))

  pub one_miscounted : (number : ℕ) (o : OpenedObject) → slice_get objects number ≡ Some o → (cause : Cause) (address : ℕ) → cause ≡ LinkCount → address ≡ o.messages.header
      → reference_count (prefix_at image o.messages.header) ≢ get_or counts number 0 → HasMiscount image objects cause address
  one_miscounted number o here cause address is at wrong = record {
    object = o;
    among = contains_in o objects (in_at objects number o here);
    header = at;
    is = is;
    wrong = λ same. (let count = are.each number o here in let all : leading_links o.messages.header (all_links image objects) ≡ get_or counts number 0 = omega (arith, count.exact) in wrong (same ∙ all));
  }

  pub one_wrong : (cause : Cause) (address : ℕ) → HasMiscount image objects cause address → IsFault image cause address
  one_wrong cause address miscount =
      subst (λ (c : Cause). IsFault image c address) (sym miscount.is)
      (subst (IsFault image LinkCount) (sym miscount.header)
      (wrong_fault image objects whole (whole_holds image objects whole) miscount.object (in_contains miscount.object objects miscount.among) miscount.wrong))
