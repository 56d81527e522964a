-- What a write of some of its numbers leaves of a chain of free blocks.
use Rattle.std.proofs.Common.{◌≡◌, ◌≢◌, ℕ, ◌+◌, ◌^◌, ◌<◌, ◌≤◌, ◌⊎◌, inl, inr, List, [], ◌∷◌, ◌++◌, length, refl, sym, ◌∙◌, ap, subst, arith}
use Rattle.std.specs.List.{AllByRecursion}
use Rattle.std.proofs.lemmas.Bool.{cases_lt}
use Rattle.h5_bytes.specs.Bytes.{number_at, byte_at, with_part, with_field, little_bytes}
use Rattle.h5_bytes.specs.Blocks.{block, holds, cover, Inside}
use Rattle.h5_bytes.specs.declared.Block.{Block}
use Rattle.h5_bytes.proofs.FieldLaws.{number_at-with_part_other, number_at-with_field}
use Rattle.h5_bytes.proofs.PartLaws.{length-with_part}
use Rattle.h5_bytes.proofs.BlockLaws.{cover-append, apart_of, all_left, all_right, all_append, holds_in, holds_none, holds-inner}
use Rattle.h5_model.specs.Format.Heap.{FreeFrom, IsFree}
use Rattle.h5_space.proofs.MovesLaws.{byte-with_part}
use Rattle.h5_heap.specs.Chain.{free_from, IsChain, HasChain, Relists}
use Rattle.h5_heap.proofs.ChainLaws.{free_from_is, has_chain, free_block_at, step_at}

-- ---- numbers that are not written

-- a free block's two numbers are not in the len bytes from place at
abbrev pub Far : ℕ → ℕ → Block → Type 0
Far at len b = (b.at + 16 ≤ at) ⊎ (at + len ≤ b.at)

pub all_far : (at len : ℕ) (bs : List Block) → 0 < len → ((p : ℕ) → holds p at len + cover p bs ≤ 1) → AllByRecursion IsFree bs
    → AllByRecursion (Far at len) bs
all_far at len [] some apart each = tt
all_far at len (b ∷ bs) some apart each = (
  go (apart_of at len b.at b.len (λ p. omega (arith, apart p)) some (omega (arith, each.0.room))),
  all_far at len bs some (λ p. omega (arith, apart p)) each.1,
) where
  go : (at + len ≤ b.at) ⊎ (b.at + b.len ≤ at) → Far at len b
  go (inl below) = inr below
  go (inr above) = inl (omega (arith, above, each.0.room))

module _ (segment : List ℕ) (at n : ℕ) (w : List ℕ) (size : length w ≡ n) (inside : at + n ≤ length segment) where
  number_kept : (k : ℕ) → (k + 8 ≤ at) ⊎ (at + n ≤ k) → number_at (with_part at w segment) k 8 ≡ number_at segment k 8
  number_kept k far = number_at-with_part_other at w segment k 8 (omega (arith, size, inside)) (by far) where
    by : (k + 8 ≤ at) ⊎ (at + n ≤ k) → (k + 8 ≤ at) ⊎ (at + length w ≤ k)
    by (inl below) = inl below
    by (inr above) = inr (omega (arith, size, above))

  -- the blocks from an offset on are as before
  pub from_kept : (next : ℕ) (rest : List Block) → AllByRecursion (Far at n) rest → FreeFrom segment next rest
      → FreeFrom (with_part at w segment) next rest
  from_kept next [] far listed = listed
  from_kept next (b ∷ bs) far listed =
      let here = listed.0 in
      let one : number_at (with_part at w segment) next 8 ≡ number_at segment next 8 = number_kept next (low far.0) in
      let two : number_at (with_part at w segment) (next + 8) 8 ≡ number_at segment (next + 8) 8 = number_kept (next + 8) (high far.0) in
      (here, listed.1 ∙ sym two, subst (λ (m : ℕ). FreeFrom (with_part at w segment) m bs) (sym one) (from_kept (number_at segment next 8) bs far.1 listed.2))
    where
      low : Far at n b → (next + 8 ≤ at) ⊎ (at + n ≤ next)
      low (inl below) = inl (omega (arith, below, listed.0))
      low (inr above) = inr (omega (arith, above, listed.0))

      high : Far at n b → (next + 8 + 8 ≤ at) ⊎ (at + n ≤ next + 8)
      high (inl below) = inl (omega (arith, below, listed.0))
      high (inr above) = inr (omega (arith, above, listed.0))

long_word : (x : ℕ) → length (little_bytes 8 x) ≡ 8
long_word x = refl

-- a block's next one is another, from which these blocks follow
module _ (segment : List ℕ) (y : Block) (n : ℕ) (low : n < 2 ^ 64) (inside : y.at + 16 ≤ length segment)
    (rest' : List Block) (after : FreeFrom (with_field segment y.at 8 n) n rest') where
  abbrev written : List ℕ
  written = with_field segment y.at 8 n

  kept8 : (k : ℕ) → (k + 8 ≤ y.at) ⊎ (y.at + 8 ≤ k) → number_at written k 8 ≡ number_at segment k 8
  kept8 k far = number_kept segment y.at 8 (little_bytes 8 n) (long_word n) (omega (arith, inside)) k far

  pub relinked : (first : ℕ) (front rest : List Block) → AllByRecursion (Far y.at 8) front → FreeFrom segment first (front ++ y ∷ rest)
      → FreeFrom (with_field segment y.at 8 n) first (front ++ y ∷ rest')
  relinked first [] rest far listed =
      let len : number_at written (first + 8) 8 ≡ number_at segment (first + 8) 8 = kept8 (first + 8) (inr (omega (arith, listed.0))) in
      let next : number_at written first 8 ≡ n = ap (λ (m : ℕ). number_at written m 8) (sym listed.0)
      ∙ number_at-with_field segment y.at 8 n (omega (arith, inside)) (omega (arith, low)) in
      (listed.0, listed.1 ∙ sym len, subst (λ (m : ℕ). FreeFrom written m rest') (sym next) after)
  relinked first (x ∷ xs) rest far listed =
      let len : number_at written (first + 8) 8 ≡ number_at segment (first + 8) 8 = kept8 (first + 8) (high far.0) in
      let next : number_at written first 8 ≡ number_at segment first 8 = kept8 first (down far.0) in
      (listed.0, listed.1 ∙ sym len, subst (λ (m : ℕ). FreeFrom written m (xs ++ y ∷ rest')) (sym next) (relinked (number_at segment first 8) xs rest far.1 listed.2))
    where
      down : Far y.at 8 x → (first + 8 ≤ y.at) ⊎ (y.at + 8 ≤ first)
      down (inl below) = inl (omega (arith, below, listed.0))
      down (inr above) = inr (omega (arith, above, listed.0))

      high : Far y.at 8 x → (first + 8 + 8 ≤ y.at) ⊎ (y.at + 8 ≤ first + 8)
      high (inl below) = inl (omega (arith, below, listed.0))
      high (inr above) = inr (omega (arith, above, listed.0))

-- the blocks behind some of them follow from an offset
pub behind : (segment : List ℕ) (first : ℕ) (front rest : List Block) → FreeFrom segment first (front ++ rest) → (next : ℕ) × FreeFrom segment next rest
behind segment first [] rest listed = (first, listed)
behind segment first (x ∷ xs) rest listed = behind segment (number_at segment first 8) xs rest listed.2

pub all_behind : (segment : List ℕ) (first : ℕ) (front rest : List Block) → IsChain segment first (front ++ rest) → AllByRecursion IsFree rest × Inside (length segment) rest
all_behind segment first front rest c = (all_right IsFree front rest c.each, all_right (λ (b : Block). b.at + b.len ≤ length segment) front rest c.within)

-- the number at a free block's offset is another
module _ (segment : List ℕ) (first : ℕ) (front rest : List Block) (y : Block) (c : IsChain segment first (front ++ y ∷ rest)) where
  abbrev late : AllByRecursion IsFree (y ∷ rest) × Inside (length segment) (y ∷ rest)
  late = all_behind segment first front (y ∷ rest) c

  pub room_of : y.at + 16 ≤ length segment
  room_of = omega (arith, late.0.0.room, late.1.0)

  apart_front : (p : ℕ) → holds p y.at 8 + cover p front ≤ 1
  apart_front p = omega (arith, c.apart p, cover-append p front (y ∷ rest), holds-inner p y.at 8 y.at y.len (omega arith) (omega (arith, late.0.0.room)))

  pub far_front : AllByRecursion (Far y.at 8) front
  far_front = all_far y.at 8 front (omega arith) apart_front (all_left IsFree front (y ∷ rest) c.each)

  pub far_rest : AllByRecursion (Far y.at 8) rest
  far_rest = all_far y.at 8 rest (omega arith)
      (λ p. omega (arith, c.apart p, cover-append p front (y ∷ rest), holds-inner p y.at 8 y.at y.len (omega arith) (omega (arith, late.0.0.room))))
      late.0.1

  pub byte_kept : (n p : ℕ) → cover p (front ++ y ∷ rest) ≡ 0 → byte_at (with_field segment y.at 8 n) p ≡ byte_at segment p
  byte_kept n p none = byte-with_part y.at (little_bytes 8 n) segment p (omega (arith, room_of)) (elim (cases_lt p y.at) [
    | inl low ↦ inl low
    | inr high ↦ inr (elim (cases_lt p (y.at + 8)) [
      | inl within ↦ absurd (omega (arith, none, cover-append p front (y ∷ rest), holds_in p y.at y.len high (omega (arith, within, late.0.0.room))))
      | inr past ↦ past
    ])
  ])

  pub field_long : (n : ℕ) → length (with_field segment y.at 8 n) ≡ length segment
  field_long n = length-with_part y.at (little_bytes 8 n) segment (omega (arith, room_of))

-- a block is taken out of the list: the one before it leads to the one behind it
module _ (segment : List ℕ) (first : ℕ) (front back : List Block) (y b : Block) (n : ℕ) (c : IsChain segment first (front ++ y ∷ b ∷ back))
    (low : n < 2 ^ 64) (is : n ≡ number_at segment b.at 8) where
  pub unlinked : IsChain (with_field segment y.at 8 n) first (front ++ y ∷ back)
  unlinked =
      let all = all_behind segment first front (y ∷ b ∷ back) c in
      let on = behind segment first front (y ∷ b ∷ back) c.listed in
      let here : number_at segment (number_at segment on.0 8) 8 ≡ n = ap (λ (m : ℕ). number_at segment m 8) (sym on.1.2.0) ∙ sym is in
      let old : FreeFrom segment n back = subst (λ (m : ℕ). FreeFrom segment m back) here on.1.2.2 in
      let room = room_of segment first front (b ∷ back) y c in
      let far = far_rest segment first front (b ∷ back) y c in
      let new : FreeFrom (with_field segment y.at 8 n) n back = from_kept segment y.at 8 (little_bytes 8 n) refl (omega (arith, room)) n back far.1 old in
      let long = field_long segment first front (b ∷ back) y c n in
      record {
        listed = relinked segment y n low room back new first front (b ∷ back) (far_front segment first front (b ∷ back) y c) c.listed;
        each = all_append IsFree front (y ∷ back) (all_left IsFree front (y ∷ b ∷ back) c.each) (all.0.0, all.0.1.1);
        apart = λ p. omega (arith, c.apart p, cover-append p front (y ∷ b ∷ back), cover-append p front (y ∷ back));
        within = rw long (all_append (λ (x : Block). x.at + x.len ≤ length segment) front (y ∷ back)
            (all_left (λ (x : Block). x.at + x.len ≤ length segment) front (y ∷ b ∷ back) c.within) (all.1.0, all.1.1.1));
      }

  pub relists_unlinked : Relists segment (with_field segment y.at 8 n) first first (b ∷ []) []
  relists_unlinked =
      let old = free_from_is segment first (front ++ y ∷ b ∷ back) c in
      let new = free_from_is (with_field segment y.at 8 n) first (front ++ y ∷ back) unlinked in
      record {
        chain = has_chain (with_field segment y.at 8 n) first (front ++ y ∷ back) unlinked;
        covered = λ p. rw (old, new) (omega (arith, cover-append p front (y ∷ b ∷ back), cover-append p front (y ∷ back)));
        kept = λ p free given. byte_kept segment first front (b ∷ back) y c n p (ap (cover p) (sym old) ∙ free);
        size = field_long segment first front (b ∷ back) y c n;
      }

-- bytes apart from the list are written
module _ (segment : List ℕ) (first : ℕ) (free : List Block) (c : IsChain segment first free) (at n : ℕ) (w : List ℕ) (size : length w ≡ n)
    (some : 0 < n) (inside : at + n ≤ length segment) (apart : (p : ℕ) → holds p at n + cover p free ≤ 1) where
  pub chain_kept : IsChain (with_part at w segment) first free
  chain_kept = record {
    listed = from_kept segment at n w size inside first free (all_far at n free some apart c.each) c.listed;
    each = c.each;
    apart = c.apart;
    within = rw (length-with_part at w segment (omega (arith, size, inside))) c.within;
  }

-- a block that holds its two numbers stands behind another from now on
module _ (segment : List ℕ) (first : ℕ) (front rest : List Block) (y b : Block) (c : IsChain segment first (front ++ y ∷ rest))
    (low : b.at < 2 ^ 64) (free : IsFree b) (inside : b.at + b.len ≤ length segment)
    (apart : (p : ℕ) → holds p b.at b.len + cover p (front ++ y ∷ rest) ≤ 1)
    (next : number_at segment b.at 8 ≡ number_at segment y.at 8) (len : number_at segment (b.at + 8) 8 ≡ b.len) where
  abbrev after_put : List ℕ
  after_put = with_field segment y.at 8 b.at

  abbrev room : y.at + 16 ≤ length segment
  room = room_of segment first front rest y c

  far_new : AllByRecursion (Far y.at 8) (b ∷ [])
  far_new = all_far y.at 8 (b ∷ []) (omega arith) (λ p. omega (
    arith,
    apart p,
    cover-append p front (y ∷ rest),
    holds-inner p y.at 8 y.at y.len (omega arith) (omega (arith, (all_behind segment first front (y ∷ rest) c).0.0.room)),
  )) (free, tt)

  new_from : FreeFrom after_put b.at (b ∷ rest)
  new_from =
      let on = behind segment first front (y ∷ rest) c.listed in
      let old : FreeFrom segment (number_at segment y.at 8) rest = subst (λ (m : ℕ). FreeFrom segment (number_at segment m 8) rest) (sym on.1.0) on.1.2 in
      let new : FreeFrom after_put (number_at segment b.at 8) rest
      = subst (λ (m : ℕ). FreeFrom after_put m rest) (sym next) (from_kept segment y.at 8 (little_bytes 8 b.at) refl (omega (arith, room)) (number_at segment y.at 8) rest (far_rest segment first front rest y c) old) in
      let one : number_at after_put b.at 8 ≡ number_at segment b.at 8 = number_kept segment y.at 8 (little_bytes 8 b.at) refl (omega (arith, room)) b.at (here far_new.0) in
      let two : number_at after_put (b.at + 8) 8 ≡ number_at segment (b.at + 8) 8 = number_kept segment y.at 8 (little_bytes 8 b.at) refl (omega (arith, room)) (b.at + 8) (there far_new.0) in
      (refl, sym (two ∙ len), subst (λ (m : ℕ). FreeFrom after_put m rest) (sym one) new)
    where
      here : Far y.at 8 b → (b.at + 8 ≤ y.at) ⊎ (y.at + 8 ≤ b.at)
      here (inl below) = inl (omega (arith, below))
      here (inr above) = inr above

      there : Far y.at 8 b → (b.at + 8 + 8 ≤ y.at) ⊎ (y.at + 8 ≤ b.at + 8)
      there (inl below) = inl (omega (arith, below))
      there (inr above) = inr (omega (arith, above))

  pub linked_behind : IsChain (with_field segment y.at 8 b.at) first (front ++ y ∷ b ∷ rest)
  linked_behind =
      let all = all_behind segment first front (y ∷ rest) c in
      let long = field_long segment first front rest y c b.at in
      record {
        listed = relinked segment y b.at low room (b ∷ rest) new_from first front rest (far_front segment first front rest y c) c.listed;
        each = all_append IsFree front (y ∷ b ∷ rest) (all_left IsFree front (y ∷ rest) c.each) (all.0.0, (free, all.0.1));
        apart = λ p. omega (arith, apart p, cover-append p front (y ∷ b ∷ rest), cover-append p front (y ∷ rest));
        within = rw long (all_append (λ (x : Block). x.at + x.len ≤ length segment) front (y ∷ b ∷ rest)
            (all_left (λ (x : Block). x.at + x.len ≤ length segment) front (y ∷ rest) c.within) (all.1.0, (inside, all.1.1)));
      }

-- a block's two numbers are written
module _ (segment : List ℕ) (b : Block) (n : ℕ) (low : n < 2 ^ 64) (len_low : b.len < 2 ^ 64) (free : IsFree b) (inside : b.at + b.len ≤ length segment) where
  abbrev pub with_block : List ℕ
  with_block = with_field (with_field segment b.at 8 n) (b.at + 8) 8 b.len

  abbrev half : List ℕ
  half = with_field segment b.at 8 n

  half_long : length half ≡ length segment
  half_long = length-with_part b.at (little_bytes 8 n) segment (omega (arith, inside, free.room))

  pub with_block_long : length with_block ≡ length segment
  with_block_long = length-with_part (b.at + 8) (little_bytes 8 b.len) half (omega (arith, half_long, inside, free.room)) ∙ half_long

  pub with_block_next : number_at with_block b.at 8 ≡ n
  with_block_next = number_at-with_part_other (b.at + 8) (little_bytes 8 b.len) half b.at 8 (omega (arith, half_long, inside, free.room)) (inl (omega arith))
      ∙ number_at-with_field segment b.at 8 n (omega (arith, inside, free.room)) low

  pub with_block_len : number_at with_block (b.at + 8) 8 ≡ b.len
  with_block_len = number_at-with_field half (b.at + 8) 8 b.len (omega (arith, half_long, inside, free.room)) len_low

  pub with_block_bytes : (p : ℕ) → holds p b.at b.len ≡ 0 → byte_at with_block p ≡ byte_at segment p
  with_block_bytes p none =
      byte-with_part (b.at + 8) (little_bytes 8 b.len) half p (omega (arith, half_long, inside, free.room)) (elim out [
        | inl low ↦ inl (omega (arith, low))
        | inr high ↦ inr (omega (arith, high))
      ])
      ∙ byte-with_part b.at (little_bytes 8 n) segment p (omega (arith, inside, free.room)) (elim out [
        | inl low ↦ inl low
        | inr high ↦ inr (omega (arith, high))
      ])
    where
      out : (p < b.at) ⊎ (b.at + 16 ≤ p)
      out = elim (cases_lt p b.at) [
        | inl low ↦ inl low
        | inr high ↦ elim (cases_lt p (b.at + b.len)) [
          | inl within ↦ absurd (omega (arith, none, holds_in p b.at b.len high within))
          | inr past ↦ inr (omega (arith, past, free.room))
        ]
      ]

  module _ (first : ℕ) (list : List Block) (c : IsChain segment first list) (apart : (p : ℕ) → holds p b.at b.len + cover p list ≤ 1) where
    abbrev small : (k : ℕ) → k + 8 ≤ 16 → (p : ℕ) → holds p (b.at + k) 8 + cover p list ≤ 1
    small k low p = omega (arith, apart p, holds-inner p (b.at + k) 8 b.at b.len (omega arith) (omega (arith, low, free.room)))

    pub with_block_chain : IsChain with_block first list
    with_block_chain =
        let zero_more : b.at + 0 ≡ b.at = omega arith in
        chain_kept half first list
        (chain_kept segment first list c b.at 8 (little_bytes 8 n) refl (omega arith) (omega (arith, inside, free.room)) (rw zero_more at (small 0 (omega arith))))
        (b.at + 8) 8 (little_bytes 8 b.len) refl (omega arith) (omega (arith, half_long, inside, free.room)) (small 8 (omega arith))

    pub linked_first : n ≡ first → IsChain with_block b.at (b ∷ list)
    linked_first same = record {
      listed = (refl, sym with_block_len, subst (λ (m : ℕ). FreeFrom with_block m list) (sym (with_block_next ∙ same)) with_block_chain.listed);
      each = (free, c.each);
      apart = λ p. apart p;
      within = (rw with_block_long inside, with_block_chain.within);
    }

-- the first block is taken out
pub relists_first : (segment : List ℕ) (first : ℕ) → first ≢ 1 → HasChain segment first
    → Relists segment segment first (number_at segment first 8) (free_block_at segment first ∷ []) []
relists_first segment first going c =
    let s = step_at segment first going c in
    record {
      chain = s.more;
      covered = λ p. omega (arith, ap (cover p) s.split);
      kept = λ p free given. refl;
      size = refl;
    }

-- ---- one edit after another

pub relists_nothing : (s : List ℕ) (f at : ℕ) → HasChain s f → Relists s s f f (block at 0 ∷ []) []
relists_nothing s f at c = record { chain = c; covered = λ p. omega (arith, holds_none p at); kept = λ p free given. refl; size = refl }

pub relists_then : (s t u : List ℕ) (f g h : ℕ) (a b c d : List Block) → Relists s t f g a b → Relists t u g h c d
    → Relists s u f h (a ++ c) (b ++ d)
relists_then s t u f g h a b c d one two = record {
  chain = two.chain;
  covered = λ p. omega (arith, one.covered p, two.covered p, cover-append p a c, cover-append p b d);
  kept = λ p free given.
      two.kept p (omega (arith, one.covered p, free, given, cover-append p b d)) (omega (arith, given, cover-append p b d))
      ∙ one.kept p free (omega (arith, given, cover-append p b d));
  size = two.size ∙ one.size;
}

-- ---- a block comes into the list

module _ (segment : List ℕ) (first : ℕ) (b : Block) (n : ℕ) (c : HasChain segment first) (low : n < 2 ^ 64) (at_low : b.at < 2 ^ 64) (len_low : b.len < 2 ^ 64)
    (free : IsFree b) (inside : b.at + b.len ≤ length segment) (apart : (p : ℕ) → cover p (free_from segment first) + holds p b.at b.len ≤ 1) where
  abbrev whole : List ℕ
  whole = with_block segment b n low len_low free inside

  abbrev apart' : (p : ℕ) → holds p b.at b.len + cover p (free_from segment first) ≤ 1
  apart' p = omega (arith, apart p)

  pub relists_linked_first : n ≡ first → Relists segment (with_block segment b n low len_low free inside) first b.at [] (b ∷ [])
  relists_linked_first same =
      let chain = linked_first segment b n low len_low free inside first (free_from segment first) c apart' same in
      record {
        chain = has_chain whole b.at (b ∷ free_from segment first) chain;
        covered = λ p. omega (arith, ap (cover p) (free_from_is whole b.at (b ∷ free_from segment first) chain));
        kept = λ p none given. with_block_bytes segment b n low len_low free inside p (omega (arith, given));
        size = with_block_long segment b n low len_low free inside;
      }

  module _ (y : Block) (front rest : List Block) (split : free_from segment first ≡ front ++ y ∷ rest) (next : n ≡ number_at segment y.at 8) where
    abbrev old_chain : IsChain whole first (front ++ y ∷ rest)
    old_chain = subst (IsChain whole first) split (with_block_chain segment b n low len_low free inside first (free_from segment first) c apart')

    y_apart : (p : ℕ) → holds p y.at 8 + holds p b.at b.len ≤ 1
    y_apart p = omega (
      arith,
      apart p,
      ap (cover p) split,
      cover-append p front (y ∷ rest),
      holds-inner p y.at 8 y.at y.len (omega arith) (omega (arith, (all_behind whole first front (y ∷ rest) old_chain).0.0.room)),
    )

    next_kept : number_at whole y.at 8 ≡ number_at segment y.at 8
    next_kept = go (apart_of y.at 8 b.at b.len y_apart (omega arith) (omega (arith, free.room))) where
      go : (y.at + 8 ≤ b.at) ⊎ (b.at + b.len ≤ y.at) → number_at whole y.at 8 ≡ number_at segment y.at 8
      go far =
          number_at-with_part_other (b.at + 8) (little_bytes 8 b.len) (with_field segment b.at 8 n) y.at 8
          (omega (arith, half_long segment b n low len_low free inside, inside, free.room))
          (elim far [ inl below ↦ inl (omega (arith, below)) | inr above ↦ inr (omega (arith, above, free.room)) ])
          ∙ number_at-with_part_other b.at (little_bytes 8 n) segment y.at 8 (omega (arith, inside, free.room))
          (elim far [ inl below ↦ inl (omega (arith, below)) | inr above ↦ inr (omega (arith, above, free.room)) ])

    pub linked_list : IsChain (with_field (with_block segment b n low len_low free inside) y.at 8 b.at) first (front ++ y ∷ b ∷ rest)
    linked_list =
        let long = with_block_long segment b n low len_low free inside in
        let same : number_at whole b.at 8 ≡ number_at whole y.at 8 = with_block_next segment b n low len_low free inside ∙ next ∙ sym next_kept in
        let inside' : b.at + b.len ≤ length whole = omega (arith, long, inside) in
        let far : (p : ℕ) → holds p b.at b.len + cover p (front ++ y ∷ rest) ≤ 1 = λ p. omega (arith, apart p, ap (cover p) split) in
        linked_behind whole first front rest y b old_chain at_low free inside' far same (with_block_len segment b n low len_low free inside)

    pub relists_linked_behind : Relists segment (with_field (with_block segment b n low len_low free inside) y.at 8 b.at) first first [] (b ∷ [])
    relists_linked_behind =
        let long = with_block_long segment b n low len_low free inside in
        let chain = linked_list in
        record {
          chain = has_chain (with_field whole y.at 8 b.at) first (front ++ y ∷ b ∷ rest) chain;
          covered = λ p. omega (
            arith,
            ap (cover p) (free_from_is (with_field whole y.at 8 b.at) first (front ++ y ∷ b ∷ rest) chain),
            ap (cover p) split,
            cover-append p front (y ∷ b ∷ rest),
            cover-append p front (y ∷ rest),
          );
          kept = λ p none given.
              byte_kept whole first front rest y old_chain b.at p (ap (cover p) (sym split) ∙ none)
              ∙ with_block_bytes segment b n low len_low free inside p (omega (arith, given));
          size = field_long whole first front rest y old_chain b.at ∙ long;
        }
