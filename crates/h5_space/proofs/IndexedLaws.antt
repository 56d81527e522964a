-- Which bytes indexed blocks hold beside bytes of their own, and what stays where one begins or grows.
use Rattle.std.proofs.Common.{◌≡◌, ◌≢◌, ℕ, ◌+◌, ◌-◌, ◌<◌, ◌≤◌, ◌⊎◌, inl, inr, Some, None, is_some, IsSome, List, [], ◌∷◌, ◌++◌, length, get_or, set, refl, sym, ap, ◌∙◌, subst, arith}
use Rattle.std.specs.BTreeMap.{BTreeMap, get, Updates}
use Rattle.std.specs.List.{All}
use Rattle.std.specs.Ordering.{nat_cmp}
use Rattle.std.proofs.lemmas.Bool.{cases_lt, cases_eq}
use Rattle.std.proofs.lemmas.Bool.Decides.{nat_tests}
use Rattle.std.proofs.lemmas.List.{length-append, length-set, get_or_append_left, get_or_at, get_or-set_same, get_or-set_other, get_or_default}
use Rattle.std.proofs.lemmas.List.Elements.{All-push, All-set}
use Rattle.std.proofs.lemmas.Option.{same_Some, none-some}
use Rattle.h5_bytes.specs.Blocks.{block, holds, cover}
use Rattle.h5_bytes.specs.declared.Block.{Block}
use Rattle.h5_bytes.proofs.BlockLaws.{holds_in, holds_before, holds_past, holds_join, holds-le, cover-append}
use Rattle.h5_bytes.proofs.CoverLaws.{cover-set, cover_zero, holds-le-cover, holds-le-cover_two}
use Rattle.h5_space.specs.Claimed.{Shares}
use Rattle.h5_space.specs.Indexed.{IsIndexed, IsLastBefore}

module _ (blocks : List Block) (places : BTreeMap ℕ ℕ) (end : ℕ) (s : IsIndexed blocks places end) where
  -- a block ends by the end
  pub inside_end : (i : ℕ) (d : Block) → i < length blocks → (get_or blocks i d).at + (get_or blocks i d).len ≤ end
  inside_end i d within =
      let b : Block = get_or blocks i d in
      let some : 0 < b.len = s.filled i d within in
      let last : ℕ = b.at + b.len - 1 in
      let mine = holds_in last b.at b.len (omega arith) (omega arith) in
      let one : holds last b.at b.len ≤ cover last blocks = holds-le-cover last blocks i d within in
      let all = s.once last in
      elim (cases_lt last end) [ inl low ↦ omega arith | inr high ↦ absurd (let none = holds_past last 0 end (omega (arith, high)) in omega arith) ]

  -- a block that begins before the end of these bytes and ends behind their beginning has one of them
  pub shares : (at len i : ℕ) (b : Block) → 0 < len → i < length blocks → b ≡ get_or blocks i b → b.at < at + len → at < b.at + b.len → Shares blocks at len
  shares at len i b filled within is low high =
      let some : 0 < b.len = subst (λ (x : Block). 0 < x.len) (sym is) (s.filled i b within) in
      let found : (p : ℕ) → holds p at len ≡ 1 → holds p b.at b.len ≡ 1 → Shares blocks at len = λ p mine its.
      let one : holds p b.at b.len ≤ cover p blocks = subst (λ (x : Block). holds p x.at x.len ≤ cover p blocks) (sym is) (holds-le-cover p blocks i b within) in
      let once = s.once p in
      let most = holds-le p 0 end in
      (p, mine, omega arith) in
      elim (cases_lt at b.at) [
        | inl before ↦ found b.at (holds_in b.at at len (omega arith) low) (holds_in b.at b.at b.len (omega arith) (omega arith))
        | inr behind ↦ found at (holds_in at at len (omega arith) (omega arith)) (holds_in at b.at b.len behind high)
      ]

  -- an earlier block ends where a later one begins, or before
  in_order : (i j : ℕ) (d : Block) → i < length blocks → j < length blocks → (get_or blocks i d).at < (get_or blocks j d).at
      → (get_or blocks i d).at + (get_or blocks i d).len ≤ (get_or blocks j d).at
  in_order i j d within_i within_j low =
      let b : Block = get_or blocks i d in
      let c : Block = get_or blocks j d in
      elim (cases_lt c.at (b.at + b.len)) [
        | inl over ↦ absurd (
            let some : 0 < c.len = s.filled j d within_j in
            let first = holds_in c.at b.at b.len (omega arith) over in
            let second = holds_in c.at c.at c.len (omega arith) (omega arith) in
            let differ : i ≢ j = λ same. let both = ap (λ k. (get_or blocks k d).at) same in omega (arith, both, low) in
            let both : holds c.at b.at b.len + holds c.at c.at c.len ≤ cover c.at blocks = holds-le-cover_two c.at blocks i j d within_i within_j differ in
            let most = holds-le c.at 0 end in
            omega (arith, s.once c.at))
        | inr fine ↦ fine
      ]

  -- no byte is shared where each block ends before these bytes, or begins behind them
  apart : (at len : ℕ) → ((j : ℕ) (d : Block) → j < length blocks → ((get_or blocks j d).at + (get_or blocks j d).len ≤ at) ⊎ (at + len ≤ (get_or blocks j d).at))
      → (p : ℕ) → cover p blocks + holds p at len ≤ 1
  apart at len far p =
      let once = s.once p in
      let most = holds-le p 0 end in
      let mine = holds-le p at len in
      elim (cases_lt p at) [
        | inl low ↦ let none = holds_before p at len low in omega arith
        | inr high ↦ elim (cases_lt p (at + len)) [
          | inl under ↦
              let none : cover p blocks ≡ 0 = cover_zero p blocks (λ j d within. elim (far j d within) [
                | inl before ↦ holds_past p (get_or blocks j d).at (get_or blocks j d).len (omega arith)
                | inr behind ↦ holds_before p (get_or blocks j d).at (get_or blocks j d).len (omega arith)
              ]) in
              omega arith
          | inr past ↦ let none = holds_past p at len past in omega arith
        ]
      ]

  -- no two blocks begin at one place
  one_place : (i j : ℕ) (d : Block) → i < length blocks → j < length blocks → (get_or blocks i d).at ≡ (get_or blocks j d).at → i ≡ j
  one_place i j d within_i within_j same = same_Some i j (sym (s.listed i d within_i) ∙ ap (get nat_cmp places) same ∙ s.listed j d within_j)

  -- no byte is shared where the last block that begins before their end ends by their beginning
  pub apart_from_last : (at len i : ℕ) (b : Block) → IsLastBefore blocks (at + len) i → b ≡ get_or blocks i b → b.at + b.len ≤ at
      → (p : ℕ) → cover p blocks + holds p at len ≤ 1
  apart_from_last at len i b last is ends = apart at len (λ j d within.
      let c : Block = get_or blocks j d in
      let x : Block = get_or blocks i d in
      let mine : x.at + x.len ≤ at = subst (λ (y : Block). y.at + y.len ≤ at) (is ∙ get_or_default blocks i b d last.within) ends in
      elim (cases_lt c.at (at + len)) [
        | inr behind ↦ inr behind
        | inl low ↦ inl (elim (cases_lt c.at x.at) [
          | inl first ↦ omega (arith, in_order j i d within last.within first)
          | inr second ↦
              let place : x.at ≡ c.at = omega (arith, last.last j d within low) in
              subst (λ (k : ℕ). (get_or blocks k d).at + (get_or blocks k d).len ≤ at) (one_place i j d last.within within place) mine
        ])
      ])

  -- and where each block begins behind them
  pub apart_from_all : (at len : ℕ) → All (λ b. at + len ≤ b.at) blocks → (p : ℕ) → cover p blocks + holds p at len ≤ 1
  apart_from_all at len behind = apart at len (λ j d within. inr (behind j d within))

  -- the last place before another one leads to the last block before it
  pub last_before : (place key i : ℕ) → get nat_cmp places key ≡ Some i → key < place → ((q : ℕ) → q < place → IsSome (get nat_cmp places q) → q ≤ key)
      → IsLastBefore blocks place i
  last_before place key i is low last =
      let leads = s.leads key i is in
      record {
        within = leads.0;
        before = λ d. rw (leads.1 d) low;
        last = λ j d within under. rw (leads.1 d) (last (get_or blocks j d).at under (ap is_some (s.listed j d within)));
      }

  -- where no place is before another one, each block begins there or behind
  pub none_before : (place : ℕ) → ((q : ℕ) → q < place → get nat_cmp places q ≡ None) → All (λ b. place ≤ b.at) blocks
  none_before place none j d within = elim (cases_lt (get_or blocks j d).at place) [
    | inl low ↦ absurd (none-some j (sym (none (get_or blocks j d).at low) ∙ s.listed j d within))
    | inr high ↦ high
  ]

-- what is free is not shared
pub none_shared : (blocks : List Block) (at len : ℕ) → ((p : ℕ) → cover p blocks + holds p at len ≤ 1) → Shares blocks at len → ⊥
none_shared blocks at len free shared = let most = free shared.0 in omega (arith, most, shared.1, shared.2)

-- ---- these bytes in a block of their own

pub cover-begun : (p : ℕ) (blocks : List Block) (at len : ℕ) → cover p (blocks ++ block at len ∷ []) ≡ cover p blocks + holds p at len
cover-begun p blocks at len = omega (arith, cover-append p blocks (block at len ∷ []))

module _ (blocks : List Block) (places : BTreeMap ℕ ℕ) (end at len : ℕ) (s : IsIndexed blocks places end)
    (filled : 0 < len) (inside : at + len ≤ end) (free : (p : ℕ) → cover p blocks + holds p at len ≤ 1) where
  -- what holds them too is still inside, and holds each byte once
  once_more : (more : List Block) → ((p : ℕ) → cover p more ≡ cover p blocks + holds p at len) → (p : ℕ) → cover p more ≤ holds p 0 end
  once_more more all p =
      let sum = all p in
      elim (cases_lt p end) [
        | inl low ↦ let one = holds_in p 0 end (omega arith) (omega arith) in omega (arith, free p)
        | inr high ↦ let none = holds_past p at len (omega arith) in omega (arith, s.once p)
      ]

  -- no block begins at their place
  place_free : (i : ℕ) (d : Block) → i < length blocks → (get_or blocks i d).at ≢ at
  place_free i d within same =
      let b : Block = get_or blocks i d in
      let some : 0 < b.len = s.filled i d within in
      let its = holds_in at b.at b.len (omega (arith, same)) (omega (arith, same)) in
      let mine = holds_in at at len (omega arith) (omega arith) in
      let one : holds at b.at b.len ≤ cover at blocks = holds-le-cover at blocks i d within in
      omega (arith, free at)

  module _ (new : BTreeMap ℕ ℕ) (put : Updates nat_cmp places new at (Some (length blocks))) where
    abbrev more : List Block
    more = blocks ++ block at len ∷ []

    one_more : length more ≡ length blocks + 1
    one_more = length-append blocks (block at len ∷ [])

    old : (i : ℕ) (d : Block) → i < length blocks → get_or more i d ≡ get_or blocks i d
    old i d within = get_or_append_left blocks (block at len ∷ []) d i within

    itself : (d : Block) → get_or more (length blocks) d ≡ block at len
    itself d = get_or_at blocks (block at len) [] d (length blocks) refl

    leads : (place i : ℕ) → get nat_cmp new place ≡ Some i → (i < length more) × ((d : Block) → (get_or more i d).at ≡ place)
    leads place i is = elim (cases_eq place at) [
      | inl same ↦
          let index : length blocks ≡ i = same_Some (length blocks) i (sym put.1 ∙ ap (get nat_cmp new) (sym same) ∙ is) in
          (omega (arith, one_more, index), λ d. ap (λ k. (get_or more k d).at) (sym index) ∙ ap (λ (b : Block). b.at) (itself d) ∙ sym same)
      | inr differ ↦
          let before = s.leads place i (sym (put.2 place (grind (arith, nat_tests, differ))) ∙ is) in
          (omega (arith, one_more, before.0), λ d. ap (λ (b : Block). b.at) (old i d before.0) ∙ before.1 d)
    ]

    listed : (i : ℕ) (d : Block) → i < length more → get nat_cmp new (get_or more i d).at ≡ Some i
    listed i d within = elim (cases_lt i (length blocks)) [
      | inl low ↦
          let differ = place_free i d low in
          rw (old i d low) (put.2 (get_or blocks i d).at (grind (arith, nat_tests, differ)) ∙ s.listed i d low)
      | inr high ↦
          let index : length blocks ≡ i = omega (arith, one_more) in
          subst (λ (k : ℕ). get nat_cmp new (get_or more k d).at ≡ Some k) index (rw (itself d) put.1)
    ]

    pub begun : IsIndexed more new end
    begun = record {
      leads = leads;
      listed = listed;
      filled = All-push (λ b. 0 < b.len) blocks (block at len) s.filled filled;
      once = once_more more (λ p. cover-begun p blocks at len);
    }

-- ---- these bytes in the block that ends where they begin

module _ (blocks : List Block) (i : ℕ) (b : Block) (at len : ℕ) (within : i < length blocks) (is : b ≡ get_or blocks i b) (ends : b.at + b.len ≡ at) where
  abbrev longer : List Block
  longer = set blocks i (block b.at (b.len + len))

  pub cover-grown : (p : ℕ) → cover p longer ≡ cover p blocks + holds p at len
  cover-grown p =
      let all : cover p longer + holds p b.at b.len ≡ cover p blocks + holds p b.at (b.len + len)
      = subst (λ (x : Block). cover p longer + holds p x.at x.len ≡ cover p blocks + holds p b.at (b.len + len)) (sym is) (cover-set p blocks i (block b.at (b.len + len)) b within) in
      let parts = holds_join p b.at b.len len in
      let behind = ap (λ q. holds p q len) ends in
      omega (arith, all, parts, behind)

  same_place : (j : ℕ) (d : Block) → (get_or longer j d).at ≡ (get_or blocks j d).at
  same_place j d = elim (cases_eq j i) [
    | inl same ↦ subst (λ (k : ℕ). (get_or longer k d).at ≡ (get_or blocks k d).at) (sym same)
        (ap (λ (x : Block). x.at) (get_or-set_same blocks i (block b.at (b.len + len)) d within) ∙ ap (λ (x : Block). x.at) (is ∙ get_or_default blocks i b d within))
    | inr differ ↦ ap (λ (x : Block). x.at) (get_or-set_other blocks i j (block b.at (b.len + len)) d differ)
  ]

  pub grown : (places : BTreeMap ℕ ℕ) (end : ℕ) → IsIndexed blocks places end → 0 < len → at + len ≤ end → ((p : ℕ) → cover p blocks + holds p at len ≤ 1)
      → IsIndexed longer places end
  grown places end s filled inside free =
      let many : length longer ≡ length blocks = length-set blocks i (block b.at (b.len + len)) in
      record {
        leads = λ place j leads. let before = s.leads place j leads in (rw many before.0, λ d. same_place j d ∙ before.1 d);
        listed = λ j d low. rw (same_place j d) (s.listed j d (rw many at low));
        filled = All-set (λ x. 0 < x.len) blocks i (block b.at (b.len + len)) (omega (arith, filled)) s.filled;
        once = once_more blocks places end at len s filled inside free longer cover-grown;
      }
