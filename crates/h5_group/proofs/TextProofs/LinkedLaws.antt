-- Texts that links name, taken one after another (File Format Specification 3.0, section III.D).
use Rattle.std.proofs.Common.{false, Result, Ok, Err, ◌≡◌, ℕ, ◌+◌, ◌<◌, List, [], ◌∷◌, ◌++◌, length, take, drop, get_or, sym, ap, ◌∙◌, subst, append_assoc}
use Rattle.std.specs.Prelude.{IfErr}
use Rattle.std.specs.Result.{is_ok}
use Rattle.std.specs.List.{flat_map}
use Rattle.std.specs.List.Sorted.{IsPermutation}
use Rattle.h5_bytes.specs.Bytes.{part}
use Rattle.h5_bytes.specs.Blocks.{cover}
use Rattle.h5_bytes.specs.declared.Block.{Block}
use Rattle.h5_model.specs.declared.open_fault.Cause.{Cause}
use Rattle.h5_model.specs.declared.open_fault.OpenFault.{OpenFault}
use Rattle.h5_model.specs.declared.open_fault.Cause.TheVariants.{HeapName}
use Rattle.h5_heap.specs.Kept.{HeapState, segment_in}
use Rattle.h5_heap.specs.Spans.{Takes, IsNotEmpty, IsUntaken, HasTaken}
use Rattle.h5_heap.proofs.RefusedLaws.{begin_refused, take_refused}
use Rattle.h5_group.specs.Texts.Taken.{IsSameHeap, TakesLinked, AreUnsound, AreLinkedRefused}
use Rattle.h5_group.proofs.TextProofs.ListLaws.{flat_step, flat_around}

-- ---- the heap stays where it is

pub same_both : (a b c : HeapState) → IsSameHeap a b → IsSameHeap b c → IsSameHeap a c
same_both a b c first second = record {
  at = second.at ∙ first.at;
  segment = second.segment ∙ first.segment;
  free = second.free ∙ first.free;
}

pub segment_same : (image : List ℕ) (a b : HeapState) → IsSameHeap a b → segment_in image b ≡ segment_in image a
segment_same image a b same = ap (λ (s : Block). part s.at s.len image) same.segment

-- ---- texts that were taken

pub takes_one : (image : List ℕ) (old new : HeapState) (offset : ℕ) → Takes (segment_in image old) old new offset
    → ((linked loose : List ℕ) → HasTaken (segment_in image old) old linked loose → HasTaken (segment_in image old) new (linked ++ offset ∷ []) loose)
    → TakesLinked image old new (offset ∷ [])
takes_one image old new offset takes taken = record {
  same = record {
    at = ap (λ (h : HeapState). h.at) takes.noted;
    segment = ap (λ (h : HeapState). h.segment) takes.noted;
    free = ap (λ (h : HeapState). h.free) takes.noted;
  };
  taken = λ linked before. taken linked [] before;
}

module _ (image : List ℕ) (a b : HeapState) (xs : List ℕ) (first : TakesLinked image a b xs) where
  -- what was taken, as the heap has it now
  taken_now : (linked : List ℕ) → HasTaken (segment_in image a) a linked [] → HasTaken (segment_in image b) b (linked ++ xs) []
  taken_now linked taken = subst (λ (s : List ℕ). HasTaken s b (linked ++ xs) []) (sym (segment_same image a b first.same)) (first.taken linked taken)

  pub takes_both : (c : HeapState) (ys : List ℕ) → TakesLinked image b c ys → TakesLinked image a c (xs ++ ys)
  takes_both c ys second = record {
    same = same_both a b c first.same second.same;
    taken = λ linked taken.
        let done : HasTaken (segment_in image b) c (linked ++ xs ++ ys) [] = second.taken (linked ++ xs) (taken_now linked taken) in
        subst (λ (s : List ℕ). HasTaken s c (linked ++ (xs ++ ys)) []) (segment_same image a b first.same)
        (subst (λ (zs : List ℕ). HasTaken (segment_in image b) c zs []) (append_assoc linked xs ys) done);
  }

  pub refused_after : (ys : List ℕ) → AreLinkedRefused image b ys → AreLinkedRefused image a (xs ++ ys)
  refused_after ys refused = λ linked taken.
      subst (λ (free : List Block). AreUnsound (segment_in image a) free (linked ++ (xs ++ ys))) first.same.free
      (subst (λ (s : List ℕ). AreUnsound s b.free (linked ++ (xs ++ ys))) (segment_same image a b first.same)
      (subst (AreUnsound (segment_in image b) b.free) (append_assoc linked xs ys) (refused (linked ++ xs) (taken_now linked taken))))

-- ---- texts that were refused

pub refused_more : (image : List ℕ) (heap : HeapState) (xs ys : List ℕ) → AreLinkedRefused image heap xs → AreLinkedRefused image heap (xs ++ ys)
refused_more image heap xs ys refused = λ linked taken names texts keys loose more same sound.
    let whole : (linked ++ (xs ++ ys)) ++ more ≡ (linked ++ xs) ++ (ys ++ more)
    = ap (λ (zs : List ℕ). zs ++ more) (sym (append_assoc linked xs ys)) ∙ append_assoc (linked ++ xs) ys more in
    refused linked taken names texts keys loose (ys ++ more) (subst (IsPermutation (names ++ texts)) whole same) sound

untaken_name : (segment : List ℕ) (held : List Block) (offset : ℕ) (cause : Cause) → IsUntaken segment held offset cause → IsUntaken segment held offset HeapName
untaken_name segment held offset HeapName refused = refused
untaken_name segment held offset _ refused = absurd refused

-- what a call says of a text that is not taken
pub untaken_by : {T : Type 0} (segment : List ℕ) (held : List Block) (offset : ℕ) (r : Result T OpenFault) → IfErr r (λ fault. IsUntaken segment held offset fault.cause)
    → is_ok r ≡ false → IsUntaken segment held offset HeapName
untaken_by segment held offset (Ok x) refused none = cc
untaken_by segment held offset (Err fault) refused none = untaken_name segment held offset fault.cause refused

-- one text is refused
pub refused_one : (image : List ℕ) (heap : HeapState) (offset : ℕ) (cause : Cause) → IsUntaken (segment_in image heap) heap.held offset cause
    → AreLinkedRefused image heap (offset ∷ [])
refused_one image heap offset cause refused = λ linked taken names texts keys loose more same sound.
    take_refused (segment_in image heap) heap names texts keys loose sound linked offset more taken
    (subst (IsPermutation (names ++ texts)) (append_assoc linked (offset ∷ []) more) same)
    (untaken_name (segment_in image heap) heap.held offset cause refused)

-- the empty name is refused
pub empty_refused : (segment : List ℕ) (heap : HeapState) → ((p : ℕ) → cover p heap.held ≡ cover p heap.free) → (cause : Cause) → IsNotEmpty segment heap.held cause
    → (offsets : List ℕ) → AreUnsound segment heap.free offsets
empty_refused segment heap covered HeapName refused offsets = λ names texts keys loose more same sound.
    begin_refused segment heap names texts keys loose sound covered refused
empty_refused segment heap covered _ refused offsets = absurd refused

-- texts that come before and behind
pub refused_within : (image : List ℕ) (a b : HeapState) (whole before offsets behind : List ℕ) → whole ≡ before ++ (offsets ++ behind)
    → TakesLinked image a b before → AreLinkedRefused image b offsets → AreLinkedRefused image a whole
refused_within image a b whole before offsets behind is first refused =
    subst (AreLinkedRefused image a) (sym is) (refused_after image a b before first (offsets ++ behind) (refused_more image b offsets behind refused))

-- ---- texts of one after another

module _ {X : Type 0} (f : X → List ℕ) (xs : List X) (i : ℕ) (d : X) (low : i < length xs) (image : List ℕ) (a b : HeapState)
    (first : TakesLinked image a b (flat_map f (take i xs))) where
  pub taken_step : (c : HeapState) → TakesLinked image b c (f (get_or xs i d)) → TakesLinked image a c (flat_map f (take (i + 1) xs))
  taken_step c second = subst (TakesLinked image a c) (sym (flat_step f xs i d low)) (takes_both image a b (flat_map f (take i xs)) first c (f (get_or xs i d)) second)

  pub refused_step : AreLinkedRefused image b (f (get_or xs i d)) → AreLinkedRefused image a (flat_map f xs)
  refused_step refused = refused_within image a b (flat_map f xs) (flat_map f (take i xs)) (f (get_or xs i d)) (flat_map f (drop (i + 1) xs))
      (flat_around f xs i d low) first refused
