-- A block that is named from one place and shares a byte with another block of the header shares it with one that is named from
-- another place.
use Rattle.std.proofs.Common.{◌≡◌, ◌≢◌, ℕ, ◌+◌, ◌-◌, ◌≤◌, inl, inr, List, [], ◌∷◌, ◌++◌, length, refl, sym, ◌∙◌, ap, ap₂, subst, arith}
use Rattle.std.specs.Prelude.{◌==◌, true, if◌then◌else◌}
use Rattle.std.specs.List.{AllByRecursion, flat_map}
use Rattle.std.proofs.lemmas.List.Concat.{flat_map-append}
use Rattle.std.proofs.lemmas.Bool.Decides.{nat_tests}
use Rattle.std.proofs.lemmas.Bool.{cases_lt}
use Rattle.h5_bytes.specs.Bytes.{number_at, part}
use Rattle.h5_bytes.specs.Blocks.{holds, cover, Separate}
use Rattle.h5_bytes.specs.declared.Block.{Block}
use Rattle.h5_bytes.proofs.BlockLaws.{holds_join, holds-inner, holds-le, cover-append, all_left, all_right}
use Rattle.h5_model.specs.Format.Messages.{Message, Fills, continuation, continuations, first_block, prefix_at, first_size}
use Rattle.h5_space.specs.Claimed.{Shares}
use Rattle.h5_header.specs.Refused.{NamesBlock, header_block, Crosses}
use Rattle.h5_header.specs.Progress.{FilledTo, Partly, IsClaimed}
use Rattle.h5_header.proofs.MetLaws.{length-part-le, continuation_cases, IsNamedBy, IsNaming, parts_naming}

-- how many of the messages have their head at this place
unfoldable pub heads : ℕ → List Message → ℕ
heads q [] = 0
heads q (m ∷ ms) = (if m.at == q + 8 then 1 else 0) + heads q ms

heads-append : (q : ℕ) (xs ys : List Message) → heads q (xs ++ ys) ≡ heads q xs + heads q ys
unfolding heads
heads-append q [] ys = omega arith
heads-append q (m ∷ xs) ys = omega (arith, heads-append q xs ys)

one_head : (q at len place : ℕ) → place ≡ at + 8 → 8 ≤ len → (if place == q + 8 then 1 else 0) ≤ holds q at len
unfolding holds
one_head q at len place e long = grind (arith, nat_tests)

-- a block has room for one message head at a place
fills_heads : (q : ℕ) (b : Block) (bytes : List ℕ) (from : ℕ) (ms : List Message) → length bytes ≤ b.len → from ≤ b.len → Fills b.at bytes from ms
    → heads q ms ≤ holds q (b.at + from) (b.len - from)
unfolding heads
fills_heads q b bytes from [] short low fills = omega arith
fills_heads q b bytes from (m ∷ ms) short low fills =
    let size = number_at bytes (from + 2) 2 in
    let inside : from + 8 + size ≤ b.len = omega (arith, fills.0.whole) in
    let rest : heads q ms ≤ holds q (b.at + (from + 8 + size)) (b.len - (from + 8 + size)) = fills_heads q b bytes (from + 8 + size) ms short inside fills.1 in
    let one = one_head q (b.at + from) (8 + size) m.at fills.0.place (omega arith) in
    let len : b.len - from ≡ 8 + size + (b.len - (from + 8 + size)) = omega arith in
    let place : b.at + (from + 8 + size) ≡ b.at + from + (8 + size) = omega arith in
    let joined = holds_join q (b.at + from) (8 + size) (b.len - (from + 8 + size)) in
    rw len (omega (arith, joined, rw place at rest, one))

pub filled_heads : (image : List ℕ) (q : ℕ) (waiting : List Block) (parts : List (List Message)) (rest : List Block) → FilledTo image waiting parts rest
    → heads q (flat_map (λ (ms : List Message). ms) parts) + cover q rest
    ≤ cover q waiting + cover q (continuations (flat_map (λ (ms : List Message). ms) parts))
unfolding heads
filled_heads image q waiting [] rest filled = let same : cover q waiting ≡ cover q rest = ap (cover q) filled in omega arith
filled_heads image q [] (ms ∷ parts) rest filled = absurd filled
filled_heads image q (b ∷ waiting) (ms ∷ parts) rest filled =
    let xs = flat_map (λ (ms : List Message). ms) parts in
    let here : heads q ms ≤ holds q (b.at + 0) (b.len - 0) = fills_heads q b (part b.at b.len image) 0 ms (length-part-le b.at b.len image) (omega arith) filled.0 in
    let none : b.at + 0 ≡ b.at = omega arith in
    let all : b.len - 0 ≡ b.len = omega arith in
    let there = filled_heads image q (waiting ++ continuations ms) parts rest filled.1 in
    let blocks : cover q (continuations (ms ++ xs)) ≡ cover q (continuations ms) + cover q (continuations xs)
    = ap (cover q) (flat_map-append continuation ms xs) ∙ cover-append q (continuations ms) (continuations xs) in
    omega (arith, rw (none, all) at here, there, cover-append q waiting (continuations ms), blocks, heads-append q ms xs)

-- the message that names a block of the list, and those before it
record IsSplit (ms : List Message) (d : List Block) (b : Block) : Type 0 where
  before : List Message
  m : Message
  after : List Message
  split : ms ≡ before ++ m ∷ after
  names : continuation m ≡ b ∷ []
  earlier : continuations before ≡ d

split_found : (m : Message) (ms : List Message) (d : List Block) (b : Block) (rest : List Block) (c : Block) → continuation m ≡ c ∷ []
    → d ++ b ∷ rest ≡ c ∷ continuations ms → ((d' : List Block) → d' ++ b ∷ rest ≡ continuations ms → IsSplit ms d' b) → IsSplit (m ∷ ms) d b
split_found m ms [] b rest c one e next =
    let e' : b ∷ rest ≡ c ∷ continuations ms = e in
    let same : c ≡ b = cc in
    record {
      before = [];
      m = m;
      after = ms;
      split = refl;
      names = one ∙ ap (λ (x : Block). x ∷ []) same;
      earlier = refl;
    }
split_found m ms (x ∷ d) b rest c one e next =
    let e' : x ∷ (d ++ b ∷ rest) ≡ c ∷ continuations ms = e in
    let same : c ≡ x = cc in
    let tail : d ++ b ∷ rest ≡ continuations ms = cc in
    let n : IsSplit ms d b = next d tail in
    record {
      before = m ∷ n.before;
      m = n.m;
      after = n.after;
      split = ap (λ (xs : List Message). m ∷ xs) n.split;
      names = n.names;
      earlier = ap₂ (λ (bs cs : List Block). bs ++ cs) (one ∙ ap (λ (y : Block). y ∷ []) same) n.earlier;
    }

split_at : (ms : List Message) (b : Block) (rest : List Block) (d : List Block) → d ++ b ∷ rest ≡ continuations ms → IsSplit ms d b
split_at [] b rest [] e = absurd (let no : b ∷ rest ≡ [] = e in cc)
split_at [] b rest (x ∷ d) e = absurd (let no : x ∷ (d ++ b ∷ rest) ≡ [] = e in cc)
split_at (m ∷ ms) b rest d e = elim (continuation_cases m) [
  | inl none ↦
      let next : IsSplit ms d b = split_at ms b rest d (e ∙ ap (λ bs. bs ++ continuations ms) none) in
      record {
        before = m ∷ next.before;
        m = next.m;
        after = next.after;
        split = ap (λ (xs : List Message). m ∷ xs) next.split;
        names = next.names;
        earlier = ap (λ bs. bs ++ continuations next.before) none ∙ next.earlier;
      }
  | inr some ↦ split_found m ms d b rest some.0 some.3 (e ∙ ap (λ bs. bs ++ continuations ms) some.3) (split_at ms b rest)
]

-- the message whose block holds a byte
record IsFound (image : List ℕ) (header p : ℕ) (ms : List Message) : Type 0 where
  other : ℕ
  c : Block
  names : NamesBlock image header other c
  shared : holds p c.at c.len ≡ 1
  one : 1 ≤ heads other ms

pub head_here : (at : ℕ) (m : Message) (ms : List Message) → m.at ≡ at + 8 → heads at (m ∷ ms) ≡ 1 + heads at ms
unfolding heads
head_here at m ms e = let same : (m.at == at + 8) ≡ true = grind (arith, nat_tests, e) in rw same refl

find_holder : (image : List ℕ) (header p : ℕ) (ms : List Message) → AllByRecursion (IsNaming image header) ms → 1 ≤ cover p (continuations ms)
    → IsFound image header p ms
unfolding heads
find_holder image header p [] naming some = absurd (omega (arith, some))
find_holder image header p (m ∷ ms) naming some =
    let covered : cover p (continuations (m ∷ ms)) ≡ cover p (continuation m) + cover p (continuations ms) = cover-append p (continuation m) (continuations ms) in
    elim (cases_lt 0 (cover p (continuation m))) [
      | inl here ↦ elim (continuation_cases m) [
        | inl none ↦ absurd (let zero : cover p (continuation m) ≡ 0 = ap (cover p) none in omega arith)
        | inr one ↦
            let by : IsNamedBy image header m one.0 = (subst (AllByRecursion (IsNamedBy image header m)) one.3 naming.0).0 in
            let only : cover p (continuation m) ≡ holds p one.0.at one.0.len + 0 = ap (cover p) one.3 in
            let head : heads by.0 (m ∷ ms) ≡ 1 + heads by.0 ms = head_here by.0 m ms by.1 in
            record {
              other = by.0;
              c = one.0;
              names = by.2;
              shared = omega (arith, only, here, holds-le p one.0.at one.0.len);
              one = omega (arith, head);
            }
      ]
      | inr none ↦
          let next : IsFound image header p ms = find_holder image header p ms naming.1 (omega (arith, covered, none)) in
          record {
            other = next.other;
            c = next.c;
            names = next.names;
            shared = next.shared;
            one = omega (arith, next.one);
          }
    ]

module _ (image : List ℕ) (header : ℕ) (held : List Block) (messages : List Message) (done : List Block) (b : Block) (rest : List Block)
    (partly : Partly image header messages done (b ∷ rest)) (begun : 1 ≤ length done) (held' : List Block) (claimed : IsClaimed image held held' done)
    (separate : Separate held') where
  -- the blocks that are done are the header's own, and then blocks that Continuations name
  own : (d : List Block) × (done ≡ header_block image header ∷ d) × (d ++ b ∷ rest ≡ continuations messages)
  own = go done begun partly.laid where
    go : (done : List Block) → 1 ≤ length done → done ++ b ∷ rest ≡ header_block image header ∷ continuations messages
        → (d : List Block) × (done ≡ header_block image header ∷ d) × (d ++ b ∷ rest ≡ continuations messages)
    go [] some laid = absurd (omega (arith, some))
    go (x ∷ d) some laid =
        let laid' : x ∷ (d ++ b ∷ rest) ≡ header_block image header ∷ continuations messages = laid in
        let same : x ≡ header_block image header = cc in
        let tail : d ++ b ∷ rest ≡ continuations messages = cc in
        (d, ap (λ (y : Block). y ∷ d) same, tail)

  naming : AllByRecursion (IsNaming image header) messages
  naming = subst (AllByRecursion (IsNaming image header)) (sym partly.all) (parts_naming image header partly.parts (b ∷ rest) partly.filled)

  -- no two messages have their head at one place
  one_each : (q : ℕ) → heads q messages ≤ 1
  one_each q =
      let all = filled_heads image q (first_block image header ∷ []) partly.parts (b ∷ rest) partly.filled in
      let here : heads q messages + cover q (b ∷ rest) ≤ cover q (first_block image header ∷ []) + cover q (continuations messages)
      = subst (λ (xs : List Message). heads q xs + cover q (b ∷ rest) ≤ cover q (first_block image header ∷ []) + cover q (continuations xs)) (sym partly.all) all in
      let blocks : cover q (continuations messages) ≡ cover q own.0 + cover q (b ∷ rest) = ap (cover q) (sym own.2) ∙ cover-append q own.0 (b ∷ rest) in
      let within : holds q (header + 16) (first_size (prefix_at image header)) ≤ holds q header (16 + first_size (prefix_at image header))
      = holds-inner q (header + 16) (first_size (prefix_at image header)) header (16 + first_size (prefix_at image header)) (omega arith) (omega arith) in
      let covered : cover q done ≡ holds q header (16 + first_size (prefix_at image header)) + cover q own.0 = ap (cover q) own.1 in
      omega (arith, here, blocks, within, covered, claimed.covered q, separate q)

  -- where a message stands nothing was held before
  apart : (q : ℕ) → 1 ≤ heads q messages → cover q held ≡ 0
  apart q one =
      let all = filled_heads image q (first_block image header ∷ []) partly.parts (b ∷ rest) partly.filled in
      let here : heads q messages + cover q (b ∷ rest) ≤ cover q (first_block image header ∷ []) + cover q (continuations messages)
      = subst (λ (xs : List Message). heads q xs + cover q (b ∷ rest) ≤ cover q (first_block image header ∷ []) + cover q (continuations xs)) (sym partly.all) all in
      let blocks : cover q (continuations messages) ≡ cover q own.0 + cover q (b ∷ rest) = ap (cover q) (sym own.2) ∙ cover-append q own.0 (b ∷ rest) in
      let within : holds q (header + 16) (first_size (prefix_at image header)) ≤ holds q header (16 + first_size (prefix_at image header))
      = holds-inner q (header + 16) (first_size (prefix_at image header)) header (16 + first_size (prefix_at image header)) (omega arith) (omega arith) in
      let covered : cover q done ≡ holds q header (16 + first_size (prefix_at image header)) + cover q own.0 = ap (cover q) own.1 in
      omega (arith, one, here, blocks, within, covered, claimed.covered q, separate q)

  splits : IsSplit messages own.0 b
  splits = split_at messages b rest own.0 own.2

  by : IsNamedBy image header (splits.m) b
  by =
      let all = subst (AllByRecursion (IsNaming image header)) splits.split naming in
      let here = all_right (IsNaming image header) splits.before (splits.m ∷ splits.after) all in
      (subst (AllByRecursion (IsNamedBy image header (splits.m))) splits.names here.0).0

  -- no message before it has its head at its place
  elsewhere : (other : ℕ) → 1 ≤ heads other splits.before → other ≢ by.0
  elsewhere other one same =
      let here : 1 ≤ heads by.0 splits.before = subst (λ (q : ℕ). 1 ≤ heads q splits.before) same one in
      let head : heads by.0 (splits.m ∷ splits.after) ≡ 1 + heads by.0 splits.after = head_here by.0 splits.m splits.after by.1 in
      let all : heads by.0 messages ≡ heads by.0 splits.before + heads by.0 (splits.m ∷ splits.after)
      = ap (heads by.0) splits.split ∙ heads-append by.0 splits.before (splits.m ∷ splits.after) in
      omega (arith, one_each by.0)

  -- the message that names the block stands in none of those held before
  unheld : cover by.0 held ≡ 0
  unheld =
      let head : heads by.0 (splits.m ∷ splits.after) ≡ 1 + heads by.0 splits.after = head_here by.0 splits.m splits.after by.1 in
      let all : heads by.0 messages ≡ heads by.0 splits.before + heads by.0 (splits.m ∷ splits.after)
      = ap (heads by.0) splits.split ∙ heads-append by.0 splits.before (splits.m ∷ splits.after) in
      apart by.0 (omega (arith, all, head))

  pub is_named : (at : ℕ) × NamesBlock image header at b
  is_named = (by.0, by.2)

  meets : Shares held' b.at b.len → Crosses image header held by.0 b
  meets (p, inside, taken) = elim (cases_lt 0 (cover p held)) [
    | inl old ↦ inl (p, inside, omega (arith, old, claimed.covered p, separate p))
    | inr new ↦ elim (cases_lt 0 (holds p header (16 + first_size (prefix_at image header)))) [
      | inl first ↦ inr (inl (p, inside, omega (arith, first, holds-le p header (16 + first_size (prefix_at image header)))))
      | inr other ↦
          let covered : cover p done ≡ holds p header (16 + first_size (prefix_at image header)) + cover p own.0 = ap (cover p) own.1 in
          let before : cover p (continuations (splits.before)) ≡ cover p own.0 = ap (cover p) splits.earlier in
          let all = subst (AllByRecursion (IsNaming image header)) splits.split naming in
          let earlier = all_left (IsNaming image header) splits.before (splits.m ∷ splits.after) all in
          let found : IsFound image header p (splits.before) = find_holder image header p splits.before earlier (omega (arith, taken, claimed.covered p, covered, before)) in
          inr (inr (found.other, found.c, elsewhere found.other found.one, found.names, (p, inside, omega (arith, found.shared))))
    ]
  ]

  pub crosses : Shares held' b.at b.len → (at : ℕ) × NamesBlock image header at b × (cover at held ≡ 0) × Crosses image header held at b
  crosses shares = (by.0, by.2, unheld, meets shares)
