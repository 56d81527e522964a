-- Names of a group whose heap has a text more: they are sound, and each text is as before.
use Rattle.std.proofs.Common.{◌≡◌, ℕ, ◌+◌, ◌-◌, ◌%◌, ◌≤◌, inl, inr, List, [], ◌∷◌, ◌++◌, map, length, drop, refl, sym, ◌∙◌, ap, ap₂, subst, arith, append_assoc}
use Rattle.std.specs.List.{AllByRecursion, Contains}
use Rattle.std.proofs.lemmas.Bool.{cases_lt}
use Rattle.std.proofs.lemmas.List.{take-append-drop}
use Rattle.h5_bytes.specs.Bytes.{part}
use Rattle.h5_bytes.specs.Texts.{until_zero, text_at, pad8}
use Rattle.h5_bytes.specs.Blocks.{block, holds, cover, Separate, Inside}
use Rattle.h5_bytes.specs.declared.Block.{Block}
use Rattle.h5_bytes.proofs.BlockLaws.{cover-append, cover_past, holds_past, holds-le, holds_before, holds_in, all_so, all_append, all_left, all_right}
use Rattle.h5_model.specs.Format.Heap.{HasNames, KeyNames, span_of}
use Rattle.h5_model.specs.Format.Plain.{padded_text}
use Rattle.h5_model.specs.Format.Sizes.{text_span}
use Rattle.h5_heap.specs.Chain.{free_from, HasChain}
use Rattle.h5_heap.specs.Inserted.{InsertsText}
use Rattle.h5_heap.specs.Spans.{IsSpan}
use Rattle.h5_heap.proofs.EditedLaws.{text_stays, inserted_long}
use Rattle.h5_heap.proofs.TakenLaws.{cover_between, contains_between}
use Rattle.h5_heap.proofs.WriteLaws.Standing.{HasNoZero, until_padding}

-- ---- the new text

pub text_reads : (segment : List ℕ) (at : ℕ) (text : List ℕ) → part at (text_span text) segment ≡ padded_text text → HasNoZero text → text_at segment at ≡ text
unfolding text_at part
text_reads segment at text is free =
    let all : drop at segment ≡ padded_text text ++ drop (text_span text) (drop at segment)
    = sym (take-append-drop (text_span text) (drop at segment)) ∙ ap (λ (bs : List ℕ). bs ++ drop (text_span text) (drop at segment)) is in
    ap until_zero all ∙ until_padding text (text_span text - length text) (drop (text_span text) (drop at segment)) free (omega arith)

-- ---- all of them

-- texts that are as before occupy what they did
pub same_spans : (old new : List ℕ) (offsets : List ℕ) → AllByRecursion (λ offset. text_at new offset ≡ text_at old offset) offsets
    → map (span_of new) offsets ≡ map (span_of old) offsets
same_spans old new [] same = refl
same_spans old new (o ∷ os) same =
    ap₂ (λ (b : Block) (bs : List Block). b ∷ bs) (ap (λ (x : List ℕ). block o (pad8 (length x + 1))) same.0) (same_spans old new os same.1)

module _ (old new : List ℕ) (first first' : ℕ) (text : List ℕ) (room at : ℕ) (i : InsertsText old new first first' text room at) (zero_free : HasNoZero text)
    (c : HasChain old first) (some : 8 ≤ length old) where
  pub new_span : span_of new at ≡ block at (text_span text)
  new_span = ap (λ (x : List ℕ). block at (pad8 (length x + 1))) (text_reads new at text i.written zero_free)

  pub new_is_span : IsSpan new at
  new_is_span = record { aligned = i.aligned; within = omega (arith, ap (λ (b : Block). b.len) new_span, i.within) }

  grown : length old ≤ length new
  grown = inserted_long old new first first' text room at i

  each_stays : (offsets : List ℕ) → AllByRecursion (λ offset. offset % 8 ≡ 0) offsets → Inside (length old) (map (span_of old) offsets)
      → ((p : ℕ) → cover p (map (span_of old) offsets) + cover p (free_from old first) ≤ 1)
      → AllByRecursion (λ offset. text_at new offset ≡ text_at old offset) offsets
  each_stays [] aligned within apart = tt
  each_stays (o ∷ os) aligned within apart = (
    text_stays old new first first' text room at o i (record { aligned = aligned.0; within = within.0 }) (λ p. omega (arith, apart p)),
    each_stays os aligned.1 within.1 (λ p. omega (arith, apart p)),
  )

  module _ (xs ys : List ℕ) (aligned : AllByRecursion (λ offset. offset % 8 ≡ 0) (xs ++ ys)) (within : Inside (length old) (map (span_of old) (xs ++ ys)))
      (apart : Separate (block 0 8 ∷ map (span_of old) (xs ++ ys) ++ free_from old first)) where
    abbrev spans : List Block
    spans = map (span_of old) (xs ++ ys)

    old_apart : (p : ℕ) → holds p 0 8 + (cover p (map (span_of old) (xs ++ ys)) + cover p (free_from old first)) ≤ 1
    old_apart p = omega (arith, apart p, cover-append p (map (span_of old) (xs ++ ys)) (free_from old first))

    pub all_stay : AllByRecursion (λ offset. text_at new offset ≡ text_at old offset) (xs ++ ys)
    all_stay = each_stays (xs ++ ys) aligned within (λ p. omega (arith, old_apart p))

    stay : map (span_of new) (xs ++ ys) ≡ map (span_of old) (xs ++ ys)
    stay = same_spans old new (xs ++ ys) all_stay

    pub all_apart : Separate (block 0 8 ∷ map (span_of new) (xs ++ at ∷ ys) ++ free_from new first')
    all_apart p = elim (cases_lt p (length old)) [
      | inl below ↦ omega (
        arith,
        old_apart p,
        ap (cover p) stay,
        cover_between new p xs ys at,
        ap (λ (b : Block). holds p b.at b.len) new_span,
        i.covered p,
        holds_before p (length old) (length new - length old) below,
        cover-append p (map (span_of new) (xs ++ at ∷ ys)) (free_from new first'),
      )
      | inr past ↦ omega (
        arith,
        ap (cover p) stay,
        cover_between new p xs ys at,
        ap (λ (b : Block). holds p b.at b.len) new_span,
        i.covered p,
        holds-le p (length old) (length new - length old),
        cover_past p (length old) (free_from old first) c.within past,
        cover_past p (length old) (map (span_of old) (xs ++ ys)) within past,
        holds_past p 0 8 (omega (arith, past, some)),
        cover-append p (map (span_of new) (xs ++ at ∷ ys)) (free_from new first'),
      )
    ]

    pub all_aligned : AllByRecursion (λ offset. offset % 8 ≡ 0) (xs ++ at ∷ ys)
    all_aligned = all_append (λ offset. offset % 8 ≡ 0) xs (at ∷ ys) (all_left (λ offset. offset % 8 ≡ 0) xs ys aligned)
        (i.aligned, all_right (λ offset. offset % 8 ≡ 0) xs ys aligned)

    pub all_within : Inside (length new) (map (span_of new) (xs ++ at ∷ ys))
    all_within = between xs (subst (Inside (length old)) (sym stay) within) where
      between : (zs : List ℕ) → Inside (length old) (map (span_of new) (zs ++ ys)) → Inside (length new) (map (span_of new) (zs ++ at ∷ ys))
      between [] inside = (
        omega (arith, new_is_span.within),
        all_so (λ (b : Block). b.at + b.len ≤ length old) (λ (b : Block). b.at + b.len ≤ length new) (map (span_of new) ys) (λ b is. omega (arith, is, grown)) inside,
      )
      between (z ∷ zs) inside = (omega (arith, inside.0, grown), between zs inside.1)

  -- the names are sound with it among them, wherever it comes in
  named : (xs ys names names' texts texts' keys loose : List ℕ) → names ++ texts ++ loose ≡ xs ++ ys → names' ++ texts' ++ loose ≡ xs ++ at ∷ ys
      → ((k : ℕ) → Contains (names ++ texts) k → Contains (names' ++ texts') k)
      → HasNames old (free_from old first) names texts keys loose → HasNames new (free_from new first') names' texts' keys loose
  named xs ys names names' texts texts' keys loose before after more has =
      let aligned : AllByRecursion (λ offset. offset % 8 ≡ 0) (xs ++ ys) = subst (AllByRecursion (λ offset. offset % 8 ≡ 0)) before has.aligned in
      let within : Inside (length old) (map (span_of old) (xs ++ ys)) = subst (λ (os : List ℕ). Inside (length old) (map (span_of old) os)) before has.within in
      let apart : Separate (block 0 8 ∷ map (span_of old) (xs ++ ys) ++ free_from old first)
      = subst (λ (os : List ℕ). Separate (block 0 8 ∷ map (span_of old) os ++ free_from old first)) before has.apart in
      record {
        empty = i.kept 0 (omega (arith, some)) (omega (arith, old_apart xs ys aligned within apart 0, holds_in 0 0 8 (omega arith) (omega arith))) ∙ has.empty;
        aligned = subst (AllByRecursion (λ offset. offset % 8 ≡ 0)) (sym after) (all_aligned xs ys aligned within apart);
        apart = subst (λ (os : List ℕ). Separate (block 0 8 ∷ map (span_of new) os ++ free_from new first')) (sym after) (all_apart xs ys aligned within apart);
        within = subst (λ (os : List ℕ). Inside (length new) (map (span_of new) os)) (sym after) (all_within xs ys aligned within apart);
        keyed = all_so (KeyNames (names ++ texts) loose) (KeyNames (names' ++ texts') loose) keys (λ k key. elim key [
          | inl none ↦ inl none
          | inr linked ↦ inr (elim linked [ inl there ↦ inl (more k there) | inr alone ↦ inr alone ])
        ]) has.keyed;
      }

  between : (xs ys : List ℕ) (k : ℕ) → Contains (xs ++ ys) k → Contains (xs ++ at ∷ ys) k
  between xs ys k there = (contains_between xs ys at k).1 (inr there)

  -- as a link's name
  pub name_inserted : (front back texts keys loose : List ℕ) → HasNames old (free_from old first) (front ++ back) texts keys loose
      → HasNames new (free_from new first') (front ++ at ∷ back) texts keys loose
  name_inserted front back texts keys loose has =
      named front (back ++ texts ++ loose) (front ++ back) (front ++ at ∷ back) texts texts keys loose
      (ap (λ (os : List ℕ). os ++ loose) (append_assoc front back texts) ∙ append_assoc front (back ++ texts) loose)
      (ap (λ (os : List ℕ). os ++ loose) (append_assoc front (at ∷ back) texts) ∙ append_assoc front (at ∷ back ++ texts) loose) more has
    where
      more : (k : ℕ) → Contains ((front ++ back) ++ texts) k → Contains ((front ++ at ∷ back) ++ texts) k
      more k there = subst (λ (os : List ℕ). Contains os k) (sym (append_assoc front (at ∷ back) texts))
          (between front (back ++ texts) k (subst (λ (os : List ℕ). Contains os k) (append_assoc front back texts) there))

  -- as a soft link's text
  pub text_inserted : (names front back keys loose : List ℕ) → HasNames old (free_from old first) names (front ++ back) keys loose
      → HasNames new (free_from new first') names (front ++ at ∷ back) keys loose
  text_inserted names front back keys loose has =
      named (names ++ front) (back ++ loose) names names (front ++ back) (front ++ at ∷ back) keys loose
      (ap (λ (os : List ℕ). os ++ loose) (sym (append_assoc names front back)) ∙ append_assoc (names ++ front) back loose)
      (ap (λ (os : List ℕ). os ++ loose) (sym (append_assoc names front (at ∷ back))) ∙ append_assoc (names ++ front) (at ∷ back) loose) more has
    where
      more : (k : ℕ) → Contains (names ++ (front ++ back)) k → Contains (names ++ (front ++ at ∷ back)) k
      more k there = subst (λ (os : List ℕ). Contains os k) (append_assoc names front (at ∷ back))
          (between (names ++ front) back k (subst (λ (os : List ℕ). Contains os k) (sym (append_assoc names front back)) there))
