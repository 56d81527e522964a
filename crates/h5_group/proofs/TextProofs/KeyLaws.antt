-- Keys that are read one after another, and the texts that they name (File Format Specification 3.0, sections III.A.1 and III.D).
use Rattle.std.proofs.Common.{◌≡◌, ℕ, ◌+◌, ◌<◌, inl, inr, List, [], ◌∷◌, ◌++◌, length, map, take, drop, get_or, sym, ap, ◌∙◌, subst, append_assoc}
use Rattle.std.specs.Prelude.{slice_index_or}
use Rattle.std.specs.List.{AllByRecursion, Contains, flat_map}
use Rattle.std.proofs.Math.ListN.{length-map}
use Rattle.std.proofs.lemmas.List.{get_or-map, take_more}
use Rattle.std.proofs.lemmas.List.Elements.{Contains-append_left, Contains-append_right, Contains-append_cases}
use Rattle.h5_bytes.specs.declared.Block.{Block}
use Rattle.h5_bytes.proofs.BlockLaws.{all_append}
use Rattle.h5_model.specs.Format.Heap.{KeyNames}
use Rattle.h5_model.specs.Format.Links.{offset_in}
use Rattle.h5_model.specs.declared.open_fault.Cause.{Cause}
use Rattle.h5_model.specs.declared.open_fault.Cause.TheVariants.{HeapName, NoMemory}
use Rattle.h5_heap.specs.Kept.{HeapState, segment_in}
use Rattle.h5_heap.specs.Spans.{TakesOnce, IsUnnamed, HasTaken, HasNamed}
use Rattle.h5_heap.proofs.RefusedLaws.{key_refused}
use Rattle.h5_heap.proofs.TakenLaws.{contains_head}
use Rattle.h5_group.specs.Texts.Taken.{IsSameHeap, AreKeysNamed, NamesKeys, AreUnnamed, AreKeysRefused}
use Rattle.h5_group.proofs.TextProofs.LinkedLaws.{same_both, segment_same}
use Rattle.h5_group.proofs.TextProofs.ListLaws.{around, flat_step, flat_around}

-- ---- the keys of a node

module _ (keys : List (List ℕ)) (i offset : ℕ) (low : i < length keys) (is : offset ≡ offset_in (slice_index_or keys i [])) where
  inside : i < length (map offset_in keys)
  inside = subst (λ (n : ℕ). i < n) (sym (length-map keys offset_in)) low

  offset_is : get_or (map offset_in keys) i 0 ≡ offset
  offset_is = get_or-map offset_in keys i [] 0 low ∙ sym is

  pub keys_step : take (i + 1) (map offset_in keys) ≡ take i (map offset_in keys) ++ offset ∷ []
  keys_step = take_more (map offset_in keys) i 0 inside ∙ ap (λ (k : ℕ). take i (map offset_in keys) ++ k ∷ []) offset_is

  pub keys_around : map offset_in keys ≡ take i (map offset_in keys) ++ (offset ∷ [] ++ drop (i + 1) (map offset_in keys))
  keys_around = around (map offset_in keys) i 0 inside ∙ ap (λ (k : ℕ). take i (map offset_in keys) ++ k ∷ drop (i + 1) (map offset_in keys)) offset_is

-- ---- keys that name a text

same_key : (segment : List ℕ) (old new : HeapState) (offset : ℕ) → TakesOnce segment old new offset → IsSameHeap old new
same_key segment old new offset (inl (known, same)) = record {
  at = ap (λ (h : HeapState). h.at) same;
  segment = ap (λ (h : HeapState). h.segment) same;
  free = ap (λ (h : HeapState). h.free) same;
}
same_key segment old new offset (inr (some, unknown, takes)) = record {
  at = ap (λ (h : HeapState). h.at) takes.noted;
  segment = ap (λ (h : HeapState). h.segment) takes.noted;
  free = ap (λ (h : HeapState). h.free) takes.noted;
}

pub names_one : (image : List ℕ) (old new : HeapState) (offset : ℕ) → TakesOnce (segment_in image old) old new offset
    → ((linked loose : List ℕ) → HasTaken (segment_in image old) old linked loose → HasNamed (segment_in image old) new linked loose offset)
    → NamesKeys image old new (offset ∷ [])
names_one image old new offset names named = record {
  same = same_key (segment_in image old) old new offset names;
  named = λ linked loose taken.
      let one = named linked loose taken in
      record {
        loose' = one.loose';
        taken = one.taken;
        names = (one.names, tt);
        more = one.more;
        only = λ k there. elim (one.only k there) [
          | inl before ↦ inl before
          | inr is ↦ inr (subst (Contains (offset ∷ [])) (sym is) (contains_head offset []))
        ];
      };
}

more_names : (linked loose loose' : List ℕ) (k : ℕ) → ((x : ℕ) → Contains loose x → Contains loose' x) → KeyNames linked loose k → KeyNames linked loose' k
more_names linked loose loose' k more (inl empty) = inl empty
more_names linked loose loose' k more (inr (inl link)) = inr (inl link)
more_names linked loose loose' k more (inr (inr alone)) = inr (inr (more k alone))

all_more : (linked loose loose' keys : List ℕ) → ((x : ℕ) → Contains loose x → Contains loose' x) → AllByRecursion (KeyNames linked loose) keys
    → AllByRecursion (KeyNames linked loose') keys
all_more linked loose loose' [] more all = tt
all_more linked loose loose' (k ∷ keys) more all = (more_names linked loose loose' k more all.0, all_more linked loose loose' keys more all.1)

module _ (image : List ℕ) (a b : HeapState) (xs : List ℕ) (first : NamesKeys image a b xs) where
  -- what was taken, as the heap has it now
  module _ (linked loose : List ℕ) (taken : HasTaken (segment_in image a) a linked loose) where
    now : AreKeysNamed (segment_in image a) b linked loose xs
    now = first.named linked loose taken

    taken_now : HasTaken (segment_in image b) b linked now.loose'
    taken_now = subst (λ (s : List ℕ). HasTaken s b linked now.loose') (sym (segment_same image a b first.same)) now.taken

    known_both : (c : HeapState) (ys : List ℕ) → AreKeysNamed (segment_in image a) c linked now.loose' ys → AreKeysNamed (segment_in image a) c linked loose (xs ++ ys)
    known_both c ys next = record {
      loose' = next.loose';
      taken = next.taken;
      names = all_append (KeyNames linked next.loose') xs ys (all_more linked now.loose' next.loose' xs next.more now.names) next.names;
      more = λ k there. next.more k (now.more k there);
      only = λ k there. elim (next.only k there) [
        | inl before ↦ elim (now.only k before) [
          | inl known ↦ inl known
          | inr key ↦ inr (Contains-append_left xs ys k key)
        ]
        | inr key ↦ inr (Contains-append_right xs ys k key)
      ];
    }

    -- keys that were named before, and others, are all that there were
    within_now : (ys all : List ℕ) → ((k : ℕ) → Contains (loose ++ (xs ++ ys)) k → Contains all k) → (k : ℕ) → Contains (now.loose' ++ ys) k → Contains all k
    within_now ys all within k there = elim (Contains-append_cases now.loose' ys k there) [
      | inl before ↦ elim (now.only k before) [
        | inl known ↦ within k (Contains-append_left loose (xs ++ ys) k known)
        | inr key ↦ within k (Contains-append_right loose (xs ++ ys) k (Contains-append_left xs ys k key))
      ]
      | inr key ↦ within k (Contains-append_right loose (xs ++ ys) k (Contains-append_right xs ys k key))
    ]

  pub names_both : (c : HeapState) (ys : List ℕ) → NamesKeys image b c ys → NamesKeys image a c (xs ++ ys)
  names_both c ys second = record {
    same = same_both a b c first.same second.same;
    named = λ linked loose taken.
        let next = second.named linked (now linked loose taken).loose' (taken_now linked loose taken) in
        known_both linked loose taken c ys
        (subst (λ (s : List ℕ). AreKeysNamed s c linked (now linked loose taken).loose' ys) (segment_same image a b first.same) next);
  }

  unnamed_after : (linked loose : List ℕ) (taken : HasTaken (segment_in image a) a linked loose) (ys : List ℕ) (cause : Cause)
      → AreUnnamed (segment_in image a) a.free linked ((now linked loose taken).loose' ++ ys) cause
      → AreUnnamed (segment_in image a) a.free linked (loose ++ (xs ++ ys)) cause
  unnamed_after linked loose taken ys HeapName refused = λ names texts all loose' same within room sound.
      refused names texts all loose' same (within_now linked loose taken ys all within) room sound
  unnamed_after linked loose taken ys NoMemory refused = tt
  unnamed_after linked loose taken ys _ refused = absurd refused

  pub refused_after : (ys : List ℕ) (cause : Cause) → AreKeysRefused image b ys cause → AreKeysRefused image a (xs ++ ys) cause
  refused_after ys cause refused = λ linked loose taken.
      let keys = (now linked loose taken).loose' ++ ys in
      unnamed_after linked loose taken ys cause
      (subst (λ (free : List Block). AreUnnamed (segment_in image a) free linked keys cause) first.same.free
      (subst (λ (s : List ℕ). AreUnnamed s b.free linked keys cause) (segment_same image a b first.same)
      (refused linked (now linked loose taken).loose' (taken_now linked loose taken))))

-- ---- keys that were refused

unnamed_more : (segment : List ℕ) (free : List Block) (linked loose xs ys : List ℕ) (cause : Cause) → AreUnnamed segment free linked (loose ++ xs) cause
    → AreUnnamed segment free linked (loose ++ (xs ++ ys)) cause
unnamed_more segment free linked loose xs ys HeapName refused = λ names texts all loose' same within room sound.
    refused names texts all loose' same
    (λ k there. within k (subst (λ (zs : List ℕ). Contains zs k) (append_assoc loose xs ys) (Contains-append_left (loose ++ xs) ys k there))) room sound
unnamed_more segment free linked loose xs ys NoMemory refused = tt
unnamed_more segment free linked loose xs ys _ refused = absurd refused

-- one key is refused
unnamed_one : (segment : List ℕ) (heap : HeapState) (linked loose : List ℕ) (offset : ℕ) → HasTaken segment heap linked loose → (cause : Cause)
    → IsUnnamed segment heap offset cause → AreUnnamed segment heap.free linked (loose ++ offset ∷ []) cause
unnamed_one segment heap linked loose offset taken HeapName refused = λ names texts all loose' same within room sound.
    key_refused segment heap names texts all loose' sound linked loose taken same
    (λ k there. within k (Contains-append_left loose (offset ∷ []) k there)) room offset refused
    (within offset (Contains-append_right loose (offset ∷ []) offset (contains_head offset [])))
unnamed_one segment heap linked loose offset taken NoMemory refused = tt
unnamed_one segment heap linked loose offset taken _ refused = absurd refused

pub refused_one : (image : List ℕ) (heap : HeapState) (offset : ℕ) (cause : Cause) → IsUnnamed (segment_in image heap) heap offset cause
    → AreKeysRefused image heap (offset ∷ []) cause
refused_one image heap offset cause refused = λ linked loose taken. unnamed_one (segment_in image heap) heap linked loose offset taken cause refused

-- keys that come before and behind
pub refused_within : (image : List ℕ) (a b : HeapState) (whole before keys behind : List ℕ) (cause : Cause) → whole ≡ before ++ (keys ++ behind)
    → NamesKeys image a b before → AreKeysRefused image b keys cause → AreKeysRefused image a whole cause
refused_within image a b whole before keys behind cause is first refused =
    subst (λ (zs : List ℕ). AreKeysRefused image a zs cause) (sym is)
    (refused_after image a b before first (keys ++ behind) cause
    (λ linked loose taken. unnamed_more (segment_in image b) b.free linked loose keys behind cause (refused linked loose taken)))

-- ---- keys of one node after another

module _ (f : ℕ → List ℕ) (xs : List ℕ) (i : ℕ) (low : i < length xs) (image : List ℕ) (a b : HeapState) (first : NamesKeys image a b (flat_map f (take i xs))) where
  pub names_step : (c : HeapState) → NamesKeys image b c (f (get_or xs i 0)) → NamesKeys image a c (flat_map f (take (i + 1) xs))
  names_step c second = subst (NamesKeys image a c) (sym (flat_step f xs i 0 low)) (names_both image a b (flat_map f (take i xs)) first c (f (get_or xs i 0)) second)

  pub refused_step : (cause : Cause) → AreKeysRefused image b (f (get_or xs i 0)) cause → AreKeysRefused image a (flat_map f xs) cause
  refused_step cause refused = refused_within image a b (flat_map f xs) (flat_map f (take i xs)) (f (get_or xs i 0)) (flat_map f (drop (i + 1) xs)) cause
      (flat_around f xs i 0 low) first refused
