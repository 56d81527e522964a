-- Names of a group, one of whose texts is freed: without it they are sound, and each other text is as before.
use Rattle.std.proofs.Common.{◌≡◌, ◌≢◌, ℕ, ◌+◌, ◌%◌, ◌≤◌, inl, inr, List, [], ◌∷◌, ◌++◌, map, length, sym, ◌∙◌, ap, subst, arith, append_assoc}
use Rattle.std.specs.List.{AllByRecursion, Contains}
use Rattle.h5_bytes.specs.Texts.{text_at}
use Rattle.h5_bytes.specs.Blocks.{block, holds, cover, Separate, Inside}
use Rattle.h5_bytes.specs.declared.Block.{Block}
use Rattle.h5_bytes.proofs.BlockLaws.{cover-append, holds_in, all_append, all_left, all_right}
use Rattle.h5_model.specs.Format.Heap.{HasNames, KeyNames, span_of}
use Rattle.h5_heap.specs.Chain.{free_from}
use Rattle.h5_heap.specs.Released.{Releases}
use Rattle.h5_heap.proofs.EditedLaws.{text_kept}
use Rattle.h5_heap.proofs.InsertedNames.{same_spans}
use Rattle.h5_heap.proofs.TakenLaws.{cover_between, contains_between}

module _ (old new : List ℕ) (first first' at : ℕ) (r : Releases old new first first' at (span_of old at).len) where
  each_stays : (offsets : List ℕ) → AllByRecursion (λ offset. offset % 8 ≡ 0) offsets → Inside (length old) (map (span_of old) offsets)
      → ((p : ℕ) → cover p (map (span_of old) offsets) + (cover p (free_from old first) + holds p at (span_of old at).len) ≤ 1)
      → AllByRecursion (λ offset. text_at new offset ≡ text_at old offset) offsets
  each_stays [] aligned within apart = tt
  each_stays (o ∷ os) aligned within apart = (
    text_kept old new first first' at (span_of old at).len o r (record { aligned = aligned.0; within = within.0 }) (λ p. omega (arith, apart p)),
    each_stays os aligned.1 within.1 (λ p. omega (arith, apart p)),
  )

  -- what is free now was free, or the text's
  freed-le : (p : ℕ) → cover p (free_from new first') ≤ cover p (free_from old first) + holds p at (span_of old at).len
  freed-le p = elim r.freed [ inl all ↦ omega (arith, all p) | inr left ↦ omega (arith, left.1 p) ]

  all_less : (P : ℕ → Type 0) (xs ys : List ℕ) → AllByRecursion P (xs ++ at ∷ ys) → AllByRecursion P (xs ++ ys)
  all_less P xs ys all = all_append P xs ys (all_left P xs (at ∷ ys) all) (all_right P xs (at ∷ ys) all).1

  inside_less : (end : ℕ) (xs ys : List ℕ) → Inside end (map (span_of old) (xs ++ at ∷ ys)) → Inside end (map (span_of old) (xs ++ ys))
  inside_less end [] ys inside = inside.1
  inside_less end (x ∷ xs) ys inside = (inside.0, inside_less end xs ys inside.1)

  module _ (xs ys : List ℕ) (aligned : AllByRecursion (λ offset. offset % 8 ≡ 0) (xs ++ at ∷ ys))
      (within : Inside (length old) (map (span_of old) (xs ++ at ∷ ys)))
      (apart : Separate (block 0 8 ∷ map (span_of old) (xs ++ at ∷ ys) ++ free_from old first)) where
    old_apart : (p : ℕ) → holds p 0 8 + (cover p (map (span_of old) (xs ++ ys)) + (cover p (free_from old first) + holds p at (span_of old at).len)) ≤ 1
    old_apart p = omega (arith, apart p, cover-append p (map (span_of old) (xs ++ at ∷ ys)) (free_from old first), cover_between old p xs ys at)

    pub others_stay : AllByRecursion (λ offset. text_at new offset ≡ text_at old offset) (xs ++ ys)
    others_stay = each_stays (xs ++ ys) (all_less (λ offset. offset % 8 ≡ 0) xs ys aligned) (inside_less (length old) xs ys within)
        (λ p. omega (arith, old_apart p))

    stay : map (span_of new) (xs ++ ys) ≡ map (span_of old) (xs ++ ys)
    stay = same_spans old new (xs ++ ys) others_stay

    pub others_apart : Separate (block 0 8 ∷ map (span_of new) (xs ++ ys) ++ free_from new first')
    others_apart p = omega (arith, old_apart p, ap (cover p) stay, freed-le p, cover-append p (map (span_of new) (xs ++ ys)) (free_from new first'))

    pub others_within : Inside (length new) (map (span_of new) (xs ++ ys))
    others_within = subst (λ (bs : List Block). Inside (length new) bs) (sym stay)
        (subst (λ (n : ℕ). Inside n (map (span_of old) (xs ++ ys))) (sym r.size) (inside_less (length old) xs ys within))

  -- the names are sound without it, where no key names it
  named : (xs ys names names' texts texts' keys loose : List ℕ) → names ++ texts ++ loose ≡ xs ++ at ∷ ys → names' ++ texts' ++ loose ≡ xs ++ ys
      → ((k : ℕ) → k ≢ at → Contains (names ++ texts) k → Contains (names' ++ texts') k) → AllByRecursion (λ key. key ≢ at) keys
      → HasNames old (free_from old first) names texts keys loose → HasNames new (free_from new first') names' texts' keys loose
  named xs ys names names' texts texts' keys loose before after less unnamed has =
      let aligned : AllByRecursion (λ offset. offset % 8 ≡ 0) (xs ++ at ∷ ys) = subst (AllByRecursion (λ offset. offset % 8 ≡ 0)) before has.aligned in
      let within : Inside (length old) (map (span_of old) (xs ++ at ∷ ys)) = subst (λ (os : List ℕ). Inside (length old) (map (span_of old) os)) before has.within in
      let apart : Separate (block 0 8 ∷ map (span_of old) (xs ++ at ∷ ys) ++ free_from old first)
      = subst (λ (os : List ℕ). Separate (block 0 8 ∷ map (span_of old) os ++ free_from old first)) before has.apart in
      let first_byte = old_apart xs ys aligned within apart 0 in
      let here : holds 0 0 8 ≡ 1 = holds_in 0 0 8 (omega arith) (omega arith) in
      record {
        empty = r.kept 0 (omega (arith, first_byte, here)) (omega (arith, first_byte, here)) ∙ has.empty;
        aligned = subst (AllByRecursion (λ offset. offset % 8 ≡ 0)) (sym after) (all_less (λ offset. offset % 8 ≡ 0) xs ys aligned);
        apart = subst (λ (os : List ℕ). Separate (block 0 8 ∷ map (span_of new) os ++ free_from new first')) (sym after) (others_apart xs ys aligned within apart);
        within = subst (λ (os : List ℕ). Inside (length new) (map (span_of new) os)) (sym after) (others_within xs ys aligned within apart);
        keyed = each keys unnamed has.keyed;
      }
    where
      each : (ks : List ℕ) → AllByRecursion (λ key. key ≢ at) ks → AllByRecursion (KeyNames (names ++ texts) loose) ks
          → AllByRecursion (KeyNames (names' ++ texts') loose) ks
      each [] other keyed = tt
      each (k ∷ ks) other keyed = (
        elim keyed.0 [
          | inl none ↦ inl none
          | inr linked ↦ inr (elim linked [ inl there ↦ inl (less k other.0 there) | inr alone ↦ inr alone ])
        ],
        each ks other.1 keyed.1,
      )

  out : (xs ys : List ℕ) (k : ℕ) → k ≢ at → Contains (xs ++ at ∷ ys) k → Contains (xs ++ ys) k
  out xs ys k other there = elim ((contains_between xs ys at k).0 there) [ inl same ↦ absurd (other same) | inr later ↦ later ]

  -- as a link's name
  pub name_released : (front back texts keys loose : List ℕ) → AllByRecursion (λ key. key ≢ at) keys
      → HasNames old (free_from old first) (front ++ at ∷ back) texts keys loose → HasNames new (free_from new first') (front ++ back) texts keys loose
  name_released front back texts keys loose unnamed has =
      named front (back ++ texts ++ loose) (front ++ at ∷ back) (front ++ back) texts texts keys loose
      (ap (λ (os : List ℕ). os ++ loose) (append_assoc front (at ∷ back) texts) ∙ append_assoc front (at ∷ back ++ texts) loose)
      (ap (λ (os : List ℕ). os ++ loose) (append_assoc front back texts) ∙ append_assoc front (back ++ texts) loose) less unnamed has
    where
      less : (k : ℕ) → k ≢ at → Contains ((front ++ at ∷ back) ++ texts) k → Contains ((front ++ back) ++ texts) k
      less k other there = subst (λ (os : List ℕ). Contains os k) (sym (append_assoc front back texts))
          (out front (back ++ texts) k other (subst (λ (os : List ℕ). Contains os k) (append_assoc front (at ∷ back) texts) there))

  -- as a soft link's text
  pub text_released : (names front back keys loose : List ℕ) → AllByRecursion (λ key. key ≢ at) keys
      → HasNames old (free_from old first) names (front ++ at ∷ back) keys loose → HasNames new (free_from new first') names (front ++ back) keys loose
  text_released names front back keys loose unnamed has =
      named (names ++ front) (back ++ loose) names names (front ++ at ∷ back) (front ++ back) keys loose
      (ap (λ (os : List ℕ). os ++ loose) (sym (append_assoc names front (at ∷ back))) ∙ append_assoc (names ++ front) (at ∷ back) loose)
      (ap (λ (os : List ℕ). os ++ loose) (sym (append_assoc names front back)) ∙ append_assoc (names ++ front) back loose) less unnamed has
    where
      less : (k : ℕ) → k ≢ at → Contains (names ++ (front ++ at ∷ back)) k → Contains (names ++ (front ++ back)) k
      less k other there = subst (λ (os : List ℕ). Contains os k) (append_assoc names front back)
          (out (names ++ front) back k other (subst (λ (os : List ℕ). Contains os k) (sym (append_assoc names front (at ∷ back))) there))
