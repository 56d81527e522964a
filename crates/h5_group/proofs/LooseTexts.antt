-- Texts of a heap that stand on their own: one more, and one less.
use Rattle.std.proofs.Common.{◌≡◌, ◌≢◌, ℕ, ◌+◌, ◌%◌, ◌≤◌, inl, inr, List, [], ◌∷◌, ◌++◌, map, length, ◌∙◌, arith}
use Rattle.std.specs.List.{AllByRecursion}
use Rattle.h5_bytes.specs.Blocks.{holds, cover, Inside}
use Rattle.h5_bytes.specs.declared.Block.{Block}
use Rattle.h5_bytes.proofs.BlockLaws.{cover-append, holds_in, all_so, all_append, all_left, all_right}
use Rattle.h5_model.specs.Format.Heap.{HasNames, KeyNames, span_of}
use Rattle.h5_heap.specs.Chain.{free_from, HasChain}
use Rattle.h5_heap.specs.Inserted.{InsertsText}
use Rattle.h5_heap.specs.Released.{Releases}
use Rattle.h5_heap.specs.Spans.{IsSpan}
use Rattle.h5_heap.proofs.InsertedNames as inserted
use Rattle.h5_heap.proofs.ReleasedNames as released
use Rattle.h5_heap.proofs.TakenLaws.{contains_tail, contains_cases, cover_between}
use Rattle.h5_heap.proofs.WriteLaws.Standing.{HasNoZero}
use Rattle.h5_group.proofs.HeapLinks.{IsTextKept}

-- a text comes in
module _ (old new : List ℕ) (first first' : ℕ) (text : List ℕ) (room at : ℕ) (i : InsertsText old new first first' text room at) (zero_free : HasNoZero text)
    (c : HasChain old first) (some : 8 ≤ length old) (names texts keys loose : List ℕ) (has : HasNames old (free_from old first) names texts keys loose) where
  first_free : cover 0 (free_from old first) ≡ 0
  first_free = omega (
    arith,
    has.apart 0,
    holds_in 0 0 8 (omega arith) (omega arith),
    cover-append 0 (map (span_of old) (names ++ texts ++ loose)) (free_from old first),
  )

  pub texts_kept : AllByRecursion (IsTextKept old new) (names ++ texts ++ loose)
  texts_kept = inserted.all_stay old new first first' text room at i zero_free c some (names ++ texts) loose has.aligned has.within has.apart

  pub loose_more : HasNames new (free_from new first') names texts keys (at ∷ loose)
  loose_more = record {
    empty = i.kept 0 (omega (arith, some)) first_free ∙ has.empty;
    aligned = inserted.all_aligned old new first first' text room at i zero_free c some (names ++ texts) loose has.aligned has.within has.apart;
    apart = inserted.all_apart old new first first' text room at i zero_free c some (names ++ texts) loose has.aligned has.within has.apart;
    within = inserted.all_within old new first first' text room at i zero_free c some (names ++ texts) loose has.aligned has.within has.apart;
    keyed = all_so (KeyNames (names ++ texts) loose) (KeyNames (names ++ texts) (at ∷ loose)) keys (λ k key. elim key [
      | inl none ↦ inl none
      | inr (inl linked) ↦ inr (inl linked)
      | inr (inr alone) ↦ inr (inr (contains_tail at loose k alone))
    ]) has.keyed;
  }

-- a text that is the first of them
module _ (old : List ℕ) (free : List Block) (names texts keys : List ℕ) (at : ℕ) (loose : List ℕ) (has : HasNames old free names texts keys (at ∷ loose)) where
  spans_right : (end : ℕ) (xs ys : List ℕ) → Inside end (map (span_of old) (xs ++ ys)) → Inside end (map (span_of old) ys)
  spans_right end [] ys inside = inside
  spans_right end (x ∷ xs) ys inside = spans_right end xs ys inside.1

  pub first_span : IsSpan old at
  first_span = record {
    aligned = (all_right (λ offset. offset % 8 ≡ 0) (names ++ texts) (at ∷ loose) has.aligned).0;
    within = (spans_right (length old) (names ++ texts) (at ∷ loose) has.within).0;
  }

  pub first_apart : (p : ℕ) → cover p free + holds p at (span_of old at).len ≤ 1
  first_apart p = omega (
    arith,
    has.apart p,
    cover-append p (map (span_of old) (names ++ texts ++ at ∷ loose)) free,
    cover_between old p (names ++ texts) loose at,
  )

-- it goes
module _ (old new : List ℕ) (first first' at : ℕ) (r : Releases old new first first' at (span_of old at).len)
    (names texts keys loose : List ℕ) (has : HasNames old (free_from old first) names texts keys (at ∷ loose)) where
  pub others_kept : AllByRecursion (IsTextKept old new) (names ++ texts ++ loose)
  others_kept = released.others_stay old new first first' at r (names ++ texts) loose has.aligned has.within has.apart

  begin_apart : (cover 0 (free_from old first) ≡ 0) × (holds 0 at (span_of old at).len ≡ 0)
  begin_apart =
      let all = has.apart 0 in
      let here : holds 0 0 8 ≡ 1 = holds_in 0 0 8 (omega arith) (omega arith) in
      let split = cover-append 0 (map (span_of old) (names ++ texts ++ at ∷ loose)) (free_from old first) in
      let between = cover_between old 0 (names ++ texts) loose at in
      (omega (arith, all, here, split, between), omega (arith, all, here, split, between))

  less : (ks : List ℕ) → AllByRecursion (λ key. key ≢ at) ks → AllByRecursion (KeyNames (names ++ texts) (at ∷ loose)) ks
      → AllByRecursion (KeyNames (names ++ texts) loose) ks
  less [] other keyed = tt
  less (k ∷ ks) other keyed = (
    elim keyed.0 [
      | inl none ↦ inl none
      | inr (inl linked) ↦ inr (inl linked)
      | inr (inr alone) ↦ elim (contains_cases at loose k alone) [ inl same ↦ absurd (other.0 same) | inr later ↦ inr (inr later) ]
    ],
    less ks other.1 keyed.1,
  )

  module _ (unnamed : AllByRecursion (λ key. key ≢ at) keys) where
    pub still_named : AllByRecursion (KeyNames (names ++ texts) loose) keys
    still_named = less keys unnamed has.keyed

    pub loose_less : HasNames new (free_from new first') names texts keys loose
    loose_less = record {
      empty = r.kept 0 begin_apart.0 begin_apart.1 ∙ has.empty;
      aligned = all_append (λ offset. offset % 8 ≡ 0) (names ++ texts) loose (all_left (λ offset. offset % 8 ≡ 0) (names ++ texts) (at ∷ loose) has.aligned)
          (all_right (λ offset. offset % 8 ≡ 0) (names ++ texts) (at ∷ loose) has.aligned).1;
      apart = released.others_apart old new first first' at r (names ++ texts) loose has.aligned has.within has.apart;
      within = released.others_within old new first first' at r (names ++ texts) loose has.aligned has.within has.apart;
      keyed = still_named;
    }
