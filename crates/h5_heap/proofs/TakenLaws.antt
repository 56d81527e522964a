-- What was taken of a segment, after one text more.
use Rattle.std.proofs.Common.{◌≡◌, ℕ, zero, suc, ◌+◌, ◌⊎◌, ◌↔◌, inl, inr, List, [], ◌∷◌, ◌++◌, map, refl, sym, ap, subst, arith, append_assoc, append-nil, Result, Ok, Err}
use Rattle.std.specs.List.{AllByRecursion, Contains}
use Rattle.std.specs.Result.{OnOk}
use Rattle.std.proofs.lemmas.List.Elements.{Contains-append_left, Contains-append_right, Contains-append_cases, Contains-push_cases}
use Rattle.h5_bytes.specs.Blocks.{holds, cover}
use Rattle.h5_bytes.specs.declared.Block.{Block}
use Rattle.h5_bytes.proofs.BlockLaws.{cover-append, all_append, all_left, all_right}
use Rattle.h5_model.specs.Format.Heap.{span_of}
use Rattle.h5_heap.specs.Kept.{HeapState}
use Rattle.h5_heap.specs.Spans.{IsSpan, Takes, HasTaken, HasNamed, all_spans}

-- ---- elements

pub contains_head : (x : ℕ) (xs : List ℕ) → Contains (x ∷ xs) x
contains_head x xs = (0, omega arith, refl)

pub contains_tail : (y : ℕ) (xs : List ℕ) (x : ℕ) → Contains xs x → Contains (y ∷ xs) x
contains_tail y xs x there = Contains-append_right (y ∷ []) xs x there

pub contains_cases : (y : ℕ) (xs : List ℕ) (x : ℕ) → Contains (y ∷ xs) x → (x ≡ y) ⊎ Contains xs x
contains_cases y xs x (zero, low, is) = inl (sym is)
contains_cases y xs x (suc k, low, is) = inr (k, omega arith, is)

-- an element comes in between others
pub contains_between : (xs ys : List ℕ) (offset x : ℕ) → Contains (xs ++ offset ∷ ys) x ↔ ((x ≡ offset) ⊎ Contains (xs ++ ys) x)
contains_between xs ys offset x = (
  λ there. elim (Contains-append_cases xs (offset ∷ ys) x there) [
    | inl front ↦ inr (Contains-append_left xs ys x front)
    | inr back ↦ elim (contains_cases offset ys x back) [
      | inl same ↦ inl same
      | inr later ↦ inr (Contains-append_right xs ys x later)
    ]
  ],
  λ either. elim either [
    | inl same ↦ Contains-append_right xs (offset ∷ ys) x (subst (λ (y : ℕ). Contains (offset ∷ ys) y) (sym same) (contains_head offset ys))
    | inr there ↦ elim (Contains-append_cases xs ys x there) [
      | inl front ↦ Contains-append_left xs (offset ∷ ys) x front
      | inr back ↦ Contains-append_right xs (offset ∷ ys) x (contains_tail offset ys x back)
    ]
  ],
)

-- ---- spans

pub cover_between : (segment : List ℕ) (p : ℕ) (xs ys : List ℕ) (offset : ℕ) → cover p (map (span_of segment) (xs ++ offset ∷ ys))
    ≡ cover p (map (span_of segment) (xs ++ ys)) + holds p offset (span_of segment offset).len
cover_between segment p [] ys offset = omega arith
cover_between segment p (x ∷ xs) ys offset = omega (arith, cover_between segment p xs ys offset)

pub cover-all : (segment : List ℕ) (p : ℕ) (offsets : List ℕ) (free : List Block)
    → cover p (all_spans segment offsets free) ≡ holds p 0 8 + (cover p (map (span_of segment) offsets) + cover p free)
cover-all segment p offsets free = ap (λ n. holds p 0 8 + n) (cover-append p (map (span_of segment) offsets) free)

-- one text more is taken, among those of links or behind them
module _ (segment : List ℕ) (old new : HeapState) (offset : ℕ) (span : IsSpan segment offset) (takes : Takes segment old new offset)
    (linked loose : List ℕ) (taken : HasTaken segment old linked loose) where
  one_more : (linked' loose' xs ys : List ℕ) → linked ++ loose ≡ xs ++ ys → linked' ++ loose' ≡ xs ++ offset ∷ ys → HasTaken segment new linked' loose'
  one_more linked' loose' xs ys before after =
      let free : new.free ≡ old.free = ap (λ (h : HeapState). h.free) takes.noted in
      let spans : AllByRecursion (IsSpan segment) (xs ++ ys) = subst (AllByRecursion (IsSpan segment)) before taken.spans in
      record {
        empty = taken.empty;
        spans = subst (AllByRecursion (IsSpan segment)) (sym after)
            (all_append (IsSpan segment) xs (offset ∷ ys) (all_left (IsSpan segment) xs ys spans) (span, all_right (IsSpan segment) xs ys spans));
        covered = λ p. rw (free, after) (omega (
          arith,
          takes.covered p,
          taken.covered p,
          cover-all segment p (linked ++ loose) old.free,
          ap (λ (zs : List ℕ). cover p (map (span_of segment) zs)) before,
          cover-all segment p (xs ++ offset ∷ ys) old.free,
          cover_between segment p xs ys offset,
        ));
        noted = λ x. rw after (
          (λ there. elim ((takes.begun x).0 there) [
            | inl same ↦ (contains_between xs ys offset x).1 (inl same)
            | inr earlier ↦ (contains_between xs ys offset x).1 (inr (subst (λ (zs : List ℕ). Contains zs x) before ((taken.noted x).0 earlier)))
          ]),
          (λ there. elim ((contains_between xs ys offset x).0 there) [
            | inl same ↦ (takes.begun x).1 (inl same)
            | inr earlier ↦ (takes.begun x).1 (inr ((taken.noted x).1 (subst (λ (zs : List ℕ). Contains zs x) (sym before) earlier)))
          ]),
        );
        separate = takes.separate;
      }

  pub link_more : HasTaken segment new (linked ++ offset ∷ []) loose
  link_more = one_more (linked ++ offset ∷ []) loose linked loose refl (simp append_assoc)

  pub loose_more : HasTaken segment new linked (loose ++ offset ∷ [])
  loose_more = one_more linked (loose ++ offset ∷ []) (linked ++ loose) [] (simp append-nil) (simp append_assoc)

  pub named_more : HasNamed segment new linked loose offset
  named_more = record {
    loose' = loose ++ offset ∷ [];
    taken = loose_more;
    names = inr (inr (Contains-append_right loose (offset ∷ []) offset (contains_head offset [])));
    more = λ k there. Contains-append_left loose (offset ∷ []) k there;
    only = λ k there. elim (Contains-push_cases loose offset k there) [ inl earlier ↦ inl earlier | inr same ↦ inr (sym same) ];
  }

-- the key names what was taken before
pub named_before : (segment : List ℕ) (heap : HeapState) (linked loose : List ℕ) (offset : ℕ) → HasTaken segment heap linked loose
    → (offset ≡ 0) ⊎ Contains heap.taken offset → HasNamed segment heap linked loose offset
named_before segment heap linked loose offset taken known = record {
  loose' = loose;
  taken = taken;
  names = elim known [
    | inl none ↦ inl none
    | inr there ↦ inr (Contains-append_cases linked loose offset ((taken.noted offset).0 there))
  ];
  more = λ k there. there;
  only = λ k there. inl there;
}

-- ---- results

pub ok_with : {T E P : Type 0} (r : Result T E) → P → OnOk r P
ok_with (Ok v) p = p
ok_with (Err e) p = tt

pub ok_by_both : {T E P Q R : Type 0} (r : Result T E) → OnOk r P → OnOk r Q → (P → Q → R) → OnOk r R
ok_by_both (Ok v) p q both = both p q
ok_by_both (Err e) p q both = tt
