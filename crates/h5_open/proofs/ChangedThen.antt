-- Changes in place one after another: two are one change, of the numbers that both touch, and the bytes that they take add up.
use Rattle.std.proofs.Common.{◌≡◌, ℕ, ◌+◌, ◌<◌, ◌≤◌, Bool, true, false, List, [], ◌∷◌, length, refl, sym, ap, ◌∙◌, subst, arith, Some, IsSome}
use Rattle.std.specs.Prelude.{Option}
use Rattle.std.specs.FinMap.{get}
use Rattle.std.specs.List.{flat_map}
use Rattle.h5_bytes.specs.Bytes.{byte_at}
use Rattle.h5_bytes.specs.Blocks.{cover, holds}
use Rattle.h5_bytes.specs.declared.Block.{Block}
use Rattle.h5_bytes.proofs.BlockLaws.{cover-append}
use Rattle.h5_model.specs.Format.Reads.{Placed, ReadsAs, all_blocks}
use Rattle.h5_model.specs.Format.Superblock.{end_field}
use Rattle.h5_model.specs.Tree.Objects.{Tree, Object}
use Rattle.h5_model.proofs.KLaws.{same_end_field, same_length}
use Rattle.h5_laws.proofs.Objects.{in_tree, object_at}
use Rattle.h5_laws.proofs.InPlace.OneBlocks.{one_placing}
use Rattle.h5_open.specs.ChangedInPlace.{IsChangedInPlace, is_among}
use Rattle.h5_open.specs.InPlace.{other_objects, touched_blocks}
use Rattle.h5_open.specs.Opened.Sound.{IsSound}
use Rattle.h5_open.specs.Opened.State.{FileState}
use Rattle.h5_open.proofs.InPlaceLaws.{cover-split}
use Rattle.h5_open.proofs.SuperblockKept.{end_inside}

-- a number of an object of the table was given out
pub number_given : (f : FileState) → IsSound f → (n h : ℕ) → get f.table n ≡ Some h → n < f.next
number_given f sound n h at =
    let x = object_at f.image f.table f.tree sound.placed sound.reads.holds n h at in
    let there : get f.tree n ≡ Some (x.0).object = ap (get f.tree) (sym x.2) ∙ in_tree f.image f.table f.tree sound.placed sound.reads.holds x.0 x.1 in
    sound.numbers.given n (subst (λ (o : Option Object). IsSome o) (sym there) refl)

-- ---- one change after another

module _ (f g h : FileState) (t u : Tree) (m n : ℕ) (touched : List ℕ) (j k : ℕ) (sound : IsSound f) (first : IsChangedInPlace f g t m touched j) (second : IsChangedInPlace g h u n touched k) where
  -- what both leave of the bytes
  local_then : (placed : List Placed) → ReadsAs f.image f.table f.tree placed → (p : ℕ) → p < length f.image
      → cover p (end_field f.image ∷ touched_blocks (is_among touched) placed) ≡ 0 → 1 ≤ cover p (all_blocks f.image placed) → byte_at h.image p ≡ byte_at f.image p
  local_then placed reads p low untouched used =
      let mid = first.sound.placed in
      let same = ap (λ (xs : List Placed). cover p (flat_map (λ (x : Placed). x.blocks) xs)) (first.others placed mid reads first.sound.reads) in
      let before = cover-split (is_among touched) p placed in
      let between = cover-split (is_among touched) p mid in
      let once = first.sound.reads.holds.apart p in
      let field = ap (λ (b : Block). holds p b.at b.len) (same_end_field g.image f.image first.k) in
      let super = ap (holds p 0) (same_length g.image f.image first.k) in
      second.local mid first.sound.reads p (omega (arith, low, first.grown.0)) (omega (arith, untouched, used, same, before, between, once, field, super, end_inside f.image p))
      (omega (arith, untouched, used, same, before, between, super)) ∙ first.local placed reads p low untouched used

  pub changed_then : IsChangedInPlace f h u n touched (j + k)
  changed_then = record {
    state = second.state;
    sound = second.sound;
    whole = λ whole. second.whole (first.whole whole);
    k = second.k ∙ first.k;
    headers = λ number header at some.
        let given = number_given f sound number header at in
        let between = second.given number (omega (arith, given, first.more)) some in
        second.headers number header (first.headers number header at between) some;
    given = λ number low some. first.given number low (second.given number (omega (arith, low, first.more)) some);
    more = omega (arith, first.more, second.more);
    others = λ placed placed' reads reads'. second.others first.sound.placed placed' first.sound.reads reads' ∙ first.others placed first.sound.placed reads first.sound.reads;
    local = local_then;
    grown = (omega (arith, first.grown.0, second.grown.0), omega (arith, first.grown.1, second.grown.1));
  }

-- ---- no change

pub changed_none : (f : FileState) (touched : List ℕ) → IsSound f → IsChangedInPlace f f f.tree f.next touched 0
changed_none f touched sound = record {
  state = (refl, refl);
  sound = sound;
  whole = λ whole. whole;
  k = refl;
  headers = λ n h at some. at;
  given = λ n low some. some;
  more = omega arith;
  others = λ placed placed' reads reads'. ap (other_objects (is_among touched)) (one_placing f.image f.table f.tree f.tree placed' placed reads' reads);
  local = λ placed reads p low untouched used. refl;
  grown = (omega arith, omega arith);
}

-- ---- more numbers, and more bytes

module _ (a b : ℕ → Bool) (among : (n : ℕ) → a n ≡ true → b n ≡ true) where
  -- the objects that neither touches are those of the ones that the first does not touch
  others_less : (xs : List Placed) → other_objects b xs ≡ other_objects b (other_objects a xs)
  others_less [] = refl
  others_less (x ∷ xs) = go (a x.number) refl (b x.number) refl (others_less xs) where
    go : (c : Bool) → a x.number ≡ c → (d : Bool) → b x.number ≡ d → other_objects b xs ≡ other_objects b (other_objects a xs)
        → other_objects b (x ∷ xs) ≡ other_objects b (other_objects a (x ∷ xs))
    go true in_a true in_b more = rw (in_a, in_b) more
    go true in_a false in_b more = absurd (let never : false ≡ true = sym in_b ∙ among x.number in_a in cc)
    go false in_a true in_b more = rw (in_a, in_b) more
    go false in_a false in_b more = rw (in_a, in_b) (ap (λ (ys : List Placed). x ∷ ys) more)

  blocks_more : (p : ℕ) (xs : List Placed) → cover p (touched_blocks a xs) ≤ cover p (touched_blocks b xs)
  blocks_more p [] = omega arith
  blocks_more p (x ∷ xs) = go (a x.number) refl (b x.number) refl (blocks_more p xs) where
    go : (c : Bool) → a x.number ≡ c → (d : Bool) → b x.number ≡ d → cover p (touched_blocks a xs) ≤ cover p (touched_blocks b xs)
        → cover p (touched_blocks a (x ∷ xs)) ≤ cover p (touched_blocks b (x ∷ xs))
    go true in_a true in_b more = rw (in_a, in_b) (omega (arith, more, cover-append p x.blocks (touched_blocks a xs), cover-append p x.blocks (touched_blocks b xs)))
    go true in_a false in_b more = absurd (let never : false ≡ true = sym in_b ∙ among x.number in_a in cc)
    go false in_a true in_b more = rw (in_a, in_b) (omega (arith, more, cover-append p x.blocks (touched_blocks b xs)))
    go false in_a false in_b more = rw (in_a, in_b) more

-- a change that touches some numbers and takes some bytes is one that touches these and more, and takes these and more
pub changed_wider : (f g : FileState) (t : Tree) (n : ℕ) (a b : List ℕ) (j k : ℕ) → ((q : ℕ) → is_among a q ≡ true → is_among b q ≡ true) → j ≤ k
    → IsChangedInPlace f g t n a j → IsChangedInPlace f g t n b k
changed_wider f g t n a b j k among room is = record {
  state = is.state;
  sound = is.sound;
  whole = is.whole;
  k = is.k;
  headers = is.headers;
  given = is.given;
  more = is.more;
  others = λ placed placed' reads reads'.
      others_less (is_among a) (is_among b) among placed' ∙ ap (other_objects (is_among b)) (is.others placed placed' reads reads')
      ∙ sym (others_less (is_among a) (is_among b) among placed);
  local = λ placed reads p low untouched used. is.local placed reads p low (omega (arith, untouched, blocks_more (is_among a) (is_among b) among p placed)) used;
  grown = (is.grown.0, omega (arith, is.grown.1, room));
}
