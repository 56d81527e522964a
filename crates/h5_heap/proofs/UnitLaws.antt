-- What the units of a segment say of its bytes, and what they say when a text is taken.
use Rattle.std.proofs.Common.{◌≡◌, ◌≢◌, ℕ, zero, suc, ◌+◌, ◌*◌, ◌/◌, ◌%◌, ◌<◌, ◌≤◌, ◌⊎◌, ◌↔◌, inl, inr, List, [], ◌∷◌, ◌++◌, length, refl, sym, ◌∙◌, ap, subst, min, arith}
use Rattle.std.specs.Prelude.{◌==◌, if◌then◌else◌, Bool, true, false}
use Rattle.std.specs.List.{AllByRecursion, Contains}
use Rattle.std.proofs.lemmas.Bool.{cases_lt}
use Rattle.std.proofs.lemmas.Bool.Decides.{nat_tests}
use Rattle.h5_bytes.specs.Blocks.{holds, cover, Separate}
use Rattle.h5_bytes.specs.declared.Block.{Block}
use Rattle.h5_bytes.proofs.BlockLaws.{cover-append, holds_in, holds_before, holds_past, holds-le, held}
use Rattle.h5_model.specs.Format.Heap.{IsFree}
use Rattle.h5_space.specs.Claimed.{Shares}
use Rattle.h5_heap.specs.declared.units.UnitState.{UnitState}
use Rattle.h5_heap.specs.declared.units.UnitState.TheVariants.{Open, Free, Begin, Taken}
use Rattle.h5_heap.specs.Units.{unit_at, text_block, text_begin, text_blocks, text_begins, AreUnits, fresh_unit, FillsUnits, IsShut, TakesUnits}
use Rattle.h5_heap.proofs.TakenLaws.{contains_head, contains_tail, contains_cases}

-- ---- the bytes that texts have

-- 1 where a text has the unit
abbrev pub has_text : UnitState → ℕ
has_text Begin = 1
has_text Taken = 1
has_text _ = 0

one_unit : (at p : ℕ) (u : UnitState) → at ≤ p → p < at + 8 → cover p (text_block at u) ≡ has_text u
one_unit at p Open low high = refl
one_unit at p Free low high = refl
one_unit at p Begin low high = omega (arith, holds_in p at 8 low high)
one_unit at p Taken low high = omega (arith, holds_in p at 8 low high)

other_unit : (at p : ℕ) (u : UnitState) → (p < at) ⊎ (at + 8 ≤ p) → cover p (text_block at u) ≡ 0
other_unit at p Open out = refl
other_unit at p Free out = refl
other_unit at p Begin (inl low) = omega (arith, holds_before p at 8 low)
other_unit at p Begin (inr high) = omega (arith, holds_past p at 8 high)
other_unit at p Taken (inl low) = omega (arith, holds_before p at 8 low)
other_unit at p Taken (inr high) = omega (arith, holds_past p at 8 high)

before_units : (at p : ℕ) (us : List UnitState) → p < at → cover p (text_blocks at us) ≡ 0
before_units at p [] low = refl
before_units at p (u ∷ us) low = omega (
  arith,
  cover-append p (text_block at u) (text_blocks (at + 8) us),
  other_unit at p u (inl low),
  before_units (at + 8) p us (omega arith),
)

cover_from : (at p k : ℕ) (us : List UnitState) → at + 8 * k ≤ p → p < at + 8 * k + 8 → cover p (text_blocks at us) ≡ has_text (unit_at us k)
cover_from at p k [] low high = refl
cover_from at p zero (u ∷ us) low high = omega (
  arith,
  cover-append p (text_block at u) (text_blocks (at + 8) us),
  one_unit at p u (omega arith) (omega arith),
  before_units (at + 8) p us (omega arith),
)
cover_from at p (suc k) (u ∷ us) low high = omega (
  arith,
  cover-append p (text_block at u) (text_blocks (at + 8) us),
  other_unit at p u (inr (omega arith)),
  cover_from (at + 8) p k us (omega arith) (omega arith),
)

pub cover-units : (p : ℕ) (us : List UnitState) → cover p (text_blocks 0 us) ≡ has_text (unit_at us (p / 8))
cover-units p us = cover_from 0 p (p / 8) us (omega arith) (omega arith)

-- ---- the offsets of texts

contains_from : (at x : ℕ) (us : List UnitState) → Contains (text_begins at us) x → (k : ℕ) × (x ≡ at + 8 * k) × (unit_at us k ≡ Begin)
contains_from at x [] (k, low, is) = absurd (omega (arith, low))
contains_from at x (u ∷ us) there = by u there (contains_from (at + 8) x us)
  where
    Found : List UnitState → ℕ → Type 0
    Found vs from = (k : ℕ) × (x ≡ from + 8 * k) × (unit_at vs k ≡ Begin)

    later : (u : UnitState) → Found us (at + 8) → Found (u ∷ us) at
    later u (k, place, is) = (suc k, omega (arith, place), is)

    by : (u : UnitState) → Contains (text_begin at u ++ text_begins (at + 8) us) x → (Contains (text_begins (at + 8) us) x → Found us (at + 8)) → Found (u ∷ us) at
    by Open behind next = later Open (next behind)
    by Free behind next = later Free (next behind)
    by Taken behind next = later Taken (next behind)
    by Begin there next = elim (contains_cases at (text_begins (at + 8) us) x there) [
      | inl same ↦ (zero, omega (arith, same), refl)
      | inr behind ↦ later Begin (next behind)
    ]

contains_at : (at k : ℕ) (us : List UnitState) → unit_at us k ≡ Begin → Contains (text_begins at us) (at + 8 * k)
contains_at at k [] is = absurd cc
contains_at at zero (u ∷ us) is =
    subst (λ (v : UnitState). Contains (text_begin at v ++ text_begins (at + 8) us) (at + 8 * zero)) (sym is)
    (let same : at + 8 * zero ≡ at = omega arith in subst (λ (x : ℕ). Contains (at ∷ text_begins (at + 8) us) x) (sym same) (contains_head at (text_begins (at + 8) us)))
contains_at at (suc k) (u ∷ us) is =
    let same : at + 8 + 8 * k ≡ at + 8 * suc k = omega arith in
    behind u (subst (λ (x : ℕ). Contains (text_begins (at + 8) us) x) same (contains_at (at + 8) k us is))
  where
    behind : (u : UnitState) → Contains (text_begins (at + 8) us) (at + 8 * suc k) → Contains (text_begin at u ++ text_begins (at + 8) us) (at + 8 * suc k)
    behind Open there = there
    behind Free there = there
    behind Taken there = there
    behind Begin there = contains_tail at (text_begins (at + 8) us) (at + 8 * suc k) there

-- the offsets are those of the units in which a text begins
pub contains-begins : (x : ℕ) (us : List UnitState) → Contains (text_begins 0 us) x ↔ ((x % 8 ≡ 0) × (unit_at us (x / 8) ≡ Begin))
contains-begins x us = (
  λ there.
      let found = contains_from 0 x us there in
      let k : found.0 ≡ x / 8 = omega (arith, found.1) in
      (omega (arith, found.1), subst (λ (j : ℕ). unit_at us j ≡ Begin) k found.2),
  λ (aligned, is).
      let same : 0 + 8 * (x / 8) ≡ x = omega arith in
      subst (λ (y : ℕ). Contains (text_begins 0 us) y) same (contains_at 0 (x / 8) us is),
)

-- the offsets are the same where each unit begins a text just where it did
begins_same : (at : ℕ) (us vs : List UnitState) → length vs ≡ length us → ((k a : ℕ) → text_begin a (unit_at vs k) ≡ text_begin a (unit_at us k))
    → text_begins at vs ≡ text_begins at us
begins_same at [] [] long same = refl
begins_same at [] (v ∷ vs) long same = absurd (omega (arith, long))
begins_same at (u ∷ us) [] long same = absurd (omega (arith, long))
begins_same at (u ∷ us) (v ∷ vs) long same =
    ap (λ (xs : List ℕ). xs ++ text_begins (at + 8) vs) (same 0 at)
    ∙ ap (λ (xs : List ℕ). text_begin at u ++ xs) (begins_same (at + 8) us vs (omega (arith, long)) (λ k a. same (suc k) a))

-- ---- free blocks

-- a free block that has a byte of a unit has its first one
first_held : (p : ℕ) (b : Block) → IsFree b → holds p b.at b.len ≤ holds (8 * (p / 8)) b.at b.len
first_held p b free = elim (cases_lt 0 (holds p b.at b.len)) [
  | inl some ↦
      let between = held p b.at b.len some in
      omega (arith, holds-le p b.at b.len, holds_in (8 * (p / 8)) b.at b.len (omega (arith, free.aligned, between.0)) (omega (arith, between.1)))
  | inr none ↦ omega (arith, none)
]

first_covered : (p : ℕ) (free : List Block) → AllByRecursion IsFree free → cover p free ≤ cover (8 * (p / 8)) free
first_covered p [] all = omega arith
first_covered p (b ∷ bs) all = omega (arith, first_held p b all.0, first_covered p bs all.1)

-- ---- units without texts

fresh_free : (free : List Block) (k : ℕ) → 1 ≤ cover (8 * k) free → fresh_unit free k ≡ Free
fresh_free free k some = let is : (cover (8 * k) free == 0) ≡ false = grind (arith, nat_tests, some) in rw is refl

-- one free block more
pub fresh_more : (us vs : List UnitState) (free : List Block) (b : Block) → IsFree b → ((k : ℕ) → unit_at us k ≡ fresh_unit free k)
    → FillsUnits us vs (b.at / 8) ((b.at + b.len) / 8 + min 1 ((b.at + b.len) % 8)) Free → (k : ℕ) → unit_at vs k ≡ fresh_unit (free ++ b ∷ []) k
fresh_more us vs free b is before fills k =
    let all = cover-append (8 * k) free (b ∷ []) in
    let place : ((8 * k < b.at) ⊎ (b.at + b.len ≤ 8 * k)) ⊎ ((b.at ≤ 8 * k) × (8 * k < b.at + b.len)) = grind arith in
    elim place [
      | inl out ↦
          let none : holds (8 * k) b.at b.len ≡ 0 = elim out [ inl low ↦ holds_before (8 * k) b.at b.len low | inr high ↦ holds_past (8 * k) b.at b.len high ] in
          let same : cover (8 * k) (free ++ b ∷ []) ≡ cover (8 * k) free = omega (arith, all, none) in
          let other : (k < b.at / 8) ⊎ ((b.at + b.len) / 8 + min 1 ((b.at + b.len) % 8) ≤ k) = elim out [
            | inl low ↦ inl (omega (arith, low, is.aligned))
            | inr high ↦ inr (omega (arith, high))
          ] in
          fills.others k other ∙ before k ∙ ap (λ (n : ℕ). if n == 0 then Open else Free) (sym same)
      | inr (low, high) ↦
          fills.filled k (omega (arith, low)) (omega (arith, high))
          ∙ sym (fresh_free (free ++ b ∷ []) k (omega (arith, all, holds_in (8 * k) b.at b.len low high)))
    ]

fresh_has_none : (free : List Block) (k at : ℕ) → (text_block at (fresh_unit free k) ≡ []) × (text_begin at (fresh_unit free k) ≡ [])
fresh_has_none free k at = by (cover (8 * k) free == 0)
  where
    by : (none : Bool) → (text_block at (if none then Open else Free) ≡ []) × (text_begin at (if none then Open else Free) ≡ [])
    by true = (refl, refl)
    by false = (refl, refl)

none_of : (at : ℕ) (us : List UnitState) → ((k a : ℕ) → (text_block a (unit_at us k) ≡ []) × (text_begin a (unit_at us k) ≡ []))
    → (text_blocks at us ≡ []) × (text_begins at us ≡ [])
none_of at [] none = (refl, refl)
none_of at (u ∷ us) none =
    let first = none 0 at in
    let next = none_of (at + 8) us (λ k a. none (suc k) a) in
    (rw (first.0, next.0) refl, rw (first.1, next.1) refl)

module _ (len : ℕ) (free : List Block) (us : List UnitState) (long : len ≤ 8 * length us) (fresh : (k : ℕ) → unit_at us k ≡ fresh_unit free k) where
  pub fresh_none : (text_blocks 0 us ≡ []) × (text_begins 0 us ≡ [])
  fresh_none = none_of 0 us (λ k a. subst (λ (u : UnitState). (text_block a u ≡ []) × (text_begin a u ≡ [])) (sym (fresh k)) (fresh_has_none free k a))

-- ---- units with texts

module _ (len : ℕ) (free : List Block) (us : List UnitState) (are : AreUnits len free us) where
  -- a unit that is not free has no byte of a free block
  not_free : (k : ℕ) → (unit_at us k ≢ Free) → cover (8 * k) free ≡ 0
  not_free k other = elim (cases_lt 0 (cover (8 * k) free)) [
    | inl some ↦ absurd (other ((are.free_is k).1 (omega (arith, some, are.apart (8 * k)))))
    | inr none ↦ omega (arith, none)
  ]

  covered_by : (p : ℕ) (u : UnitState) → unit_at us (p / 8) ≡ u → cover p free + has_text u ≤ 1
  covered_by p Open is = omega (arith, are.apart p)
  covered_by p Free is = omega (arith, are.apart p)
  covered_by p Begin is = omega (arith, first_covered p free are.each, not_free (p / 8) (λ other. let both = sym is ∙ other in cc))
  covered_by p Taken is = omega (arith, first_covered p free are.each, not_free (p / 8) (λ other. let both = sym is ∙ other in cc))

  pub units_separate : Separate (free ++ text_blocks 0 us)
  units_separate p = omega (arith, cover-append p free (text_blocks 0 us), cover-units p us, covered_by p (unit_at us (p / 8)) refl)

  -- the first byte of a unit that is not open is held
  shut_held : (k : ℕ) (u : UnitState) → unit_at us k ≡ u → u ≢ Open → cover (8 * k) free + has_text u ≡ 1
  shut_held k Open is shut = absurd (shut refl)
  shut_held k Free is shut = omega (arith, (are.free_is k).0 is)
  shut_held k Begin is shut = omega (arith, not_free k (λ other. let both = sym is ∙ other in cc))
  shut_held k Taken is shut = omega (arith, not_free k (λ other. let both = sym is ∙ other in cc))

  -- where a unit is not open, the span shares a byte with what is held
  pub units_shared : (offset size : ℕ) → offset % 8 ≡ 0 → size % 8 ≡ 0 → IsShut us (offset / 8) (offset / 8 + size / 8)
      → Shares (free ++ text_blocks 0 us) offset size
  units_shared offset size aligned whole (k, low, high, shut) =
      let same : 8 * k / 8 ≡ k = omega arith in
      let text : cover (8 * k) (text_blocks 0 us) ≡ has_text (unit_at us k) = subst (λ (j : ℕ). cover (8 * k) (text_blocks 0 us) ≡ has_text (unit_at us j)) same (cover-units (8 * k) us) in (
        8 * k,
        holds_in (8 * k) offset size (omega (arith, low, aligned)) (omega (arith, high, aligned, whole)),
        omega (arith, cover-append (8 * k) free (text_blocks 0 us), text, shut_held k (unit_at us k) refl shut),
      )

  -- the units of a span are a text's now
  module _ (vs : List UnitState) (offset size : ℕ) (first : UnitState) (aligned : offset % 8 ≡ 0) (whole : size % 8 ≡ 0) (filled : 0 < size)
      (takes : TakesUnits us vs (offset / 8) (offset / 8 + size / 8) first) where
    abbrev IsOut : ℕ → Type 0
    IsOut k = (k < offset / 8) ⊎ (offset / 8 + size / 8 ≤ k)

    abbrev IsWithin : ℕ → Type 0
    IsWithin k = (offset / 8 ≤ k) × (k < offset / 8 + size / 8)

    place : (k : ℕ) → IsOut k ⊎ IsWithin k
    place k = grind arith

    within_cases : (k : ℕ) → IsWithin k → (unit_at vs k ≡ first) ⊎ (unit_at vs k ≡ Taken)
    within_cases k within = elim (cases_lt (offset / 8) k) [
      | inl later ↦ inr (takes.rest k later within.1)
      | inr here ↦ let same : k ≡ offset / 8 = omega (arith, here, within.0) in inl (rw same takes.first_is)
    ]

    was_open : (k : ℕ) → IsWithin k → unit_at us k ≡ Open
    was_open k within = takes.were_open k within.0 within.1

    pub begun_units : first ≡ Begin → (x : ℕ) → Contains (text_begins 0 vs) x ↔ ((x ≡ offset) ⊎ Contains (text_begins 0 us) x)
    begun_units begin x = (
      λ there.
          let (multiple, is) = (contains-begins x vs).0 there in
          elim (place (x / 8)) [
            | inl out ↦ inr ((contains-begins x us).1 (multiple, sym (takes.others (x / 8) out) ∙ is))
            | inr within ↦ elim (cases_lt (offset / 8) (x / 8)) [
              | inl later ↦ absurd (let both = sym (takes.rest (x / 8) later within.1) ∙ is in cc)
              | inr here ↦ inl (omega (arith, here, within.0, multiple, aligned))
            ]
          ],
      λ either. elim either [
        | inl same ↦ (contains-begins x vs).1 (rw same (aligned, takes.first_is ∙ begin))
        | inr there ↦
            let (multiple, is) = (contains-begins x us).0 there in
            elim (place (x / 8)) [
              | inl out ↦ (contains-begins x vs).1 (multiple, takes.others (x / 8) out ∙ is)
              | inr within ↦ absurd (let both = sym (was_open (x / 8) within) ∙ is in cc)
            ]
      ],
    )

    pub empty_units : first ≡ Taken → text_begins 0 vs ≡ text_begins 0 us
    empty_units taken = begins_same 0 us vs takes.long (λ k a. elim (place k) [
      | inl out ↦ ap (λ (u : UnitState). text_begin a u) (takes.others k out)
      | inr within ↦
          let none : text_begin a (unit_at vs k) ≡ [] = elim (within_cases k within) [
            | inl is ↦ ap (λ (u : UnitState). text_begin a u) (is ∙ taken)
            | inr is ↦ ap (λ (u : UnitState). text_begin a u) is
          ] in
          none ∙ sym (ap (λ (u : UnitState). text_begin a u) (was_open k within))
    ])

    module _ (text : (first ≡ Begin) ⊎ (first ≡ Taken)) where
      now_text : (k : ℕ) → IsWithin k → has_text (unit_at vs k) ≡ 1
      now_text k within = elim (within_cases k within) [
        | inl is ↦ elim text [ inl begin ↦ ap has_text (is ∙ begin) | inr taken ↦ ap has_text (is ∙ taken) ]
        | inr is ↦ ap has_text is
      ]

      pub taken_units : AreUnits len free vs
      taken_units = record {
        long = omega (arith, are.long, takes.long);
        free_is = λ k. elim (place k) [
          | inl out ↦ rw (takes.others k out) (are.free_is k)
          | inr within ↦ (
            λ is. absurd (omega (arith, ap has_text is, now_text k within)),
            λ one. absurd (omega (arith, one, not_free k (λ is. let both = sym (was_open k within) ∙ is in cc))),
          )
        ];
        each = are.each;
        apart = are.apart;
      }

      pub taken_covered : (p : ℕ) → cover p (free ++ text_blocks 0 vs) ≡ cover p (free ++ text_blocks 0 us) + holds p offset size
      taken_covered p =
          let new = cover-append p free (text_blocks 0 vs) in
          let old = cover-append p free (text_blocks 0 us) in
          elim (place (p / 8)) [
            | inl out ↦
                let none : holds p offset size ≡ 0 = elim out [
                  | inl low ↦ holds_before p offset size (omega (arith, low))
                  | inr high ↦ holds_past p offset size (omega (arith, high, aligned, whole))
                ] in
                omega (arith, new, old, none, cover-units p us, cover-units p vs, ap has_text (takes.others (p / 8) out))
            | inr within ↦
                let one : holds p offset size ≡ 1 = holds_in p offset size (omega (arith, within.0, aligned)) (omega (arith, within.1, aligned, whole)) in
                omega (arith, new, old, one, cover-units p us, cover-units p vs, ap has_text (was_open (p / 8) within), now_text (p / 8) within)
          ]
