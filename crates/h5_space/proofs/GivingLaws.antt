-- What a cut of a free block, and a block that comes back, leave of the list of free blocks.
use Rattle.std.proofs.Common.{◌≡◌, ℕ, ◌+◌, ◌-◌, ◌<◌, ◌≤◌, List, length, get_or, set, sym, ap, ◌∙◌, arith, inl, inr, ◌≢◌}
use Rattle.std.specs.List.{insert, remove}
use Rattle.std.proofs.lemmas.Bool.{cases_lt, cases_eq}
use Rattle.std.proofs.lemmas.List.{get_or_default}
use Rattle.std.proofs.lemmas.List.Edits.{length-remove, get_or-remove_below, get_or-remove_above}
use Rattle.h5_bytes.specs.Blocks.{holds, cover}
use Rattle.h5_bytes.specs.declared.Block.{Block}
use Rattle.h5_bytes.proofs.BlockLaws.{holds_in, holds_join}
use Rattle.h5_bytes.proofs.CoverLaws.{cover-set, cover-remove, holds-le-cover}
use Rattle.h5_space.specs.Space.{IsSpaced}
use Rattle.h5_space.proofs.SpacedLaws.{IsSpaced-set, IsSpaced-insert, IsSpaced-remove}

-- the first len bytes of a free block are taken
pub cover_cut : (p : ℕ) (xs : List Block) (k : ℕ) (x : Block) (len : ℕ) → k < length xs → x ≡ get_or xs k x → len ≤ x.len →
    cover p (set xs k (record { at = x.at + len; len = x.len - len })) + holds p x.at len ≡ cover p xs
cover_cut p xs k x len h is fits =
    let b : Block = record { at = x.at + len; len = x.len - len } in
    let s : cover p (set xs k b) + holds p x.at x.len ≡ cover p xs + holds p b.at b.len = rw (← is) at (cover-set p xs k b x h) in
    let e : len + (x.len - len) ≡ x.len = omega arith in
    let j : holds p x.at x.len ≡ holds p x.at len + holds p (x.at + len) (x.len - len) = rw e at (holds_join p x.at len (x.len - len)) in
    omega arith

module _ (xs : List Block) (end k at len : ℕ) (s : IsSpaced xs end) (within : k ≤ length xs)
    (below : (j : ℕ) (d : Block) → j < k → (get_or xs j d).at < at)
    (above : (j : ℕ) (d : Block) → k ≤ j → j < length xs → at ≤ (get_or xs j d).at)
    (filled : 0 < len) (inside : at + len ≤ end)
    (held : (p : ℕ) → cover p xs + holds p at len ≤ 1) where
  -- the blocks before end by it
  pub ends_before : (j : ℕ) (d : Block) → j < k → (get_or xs j d).at + (get_or xs j d).len ≤ at
  ends_before j d l =
      let b = get_or xs j d in
      elim (cases_lt at (b.at + b.len)) [
        | inl over ↦ absurd (
            let at_j = below j d l in
            let one = holds_in at b.at b.len (omega arith) over in
            let mine = holds_in at at len (omega arith) (omega arith) in
            let more = holds-le-cover at xs j d (omega arith) in
            let most = held at in omega arith)
        | inr fine ↦ fine
      ]

  -- the blocks after begin past it
  pub begins_past : (j : ℕ) (d : Block) → k ≤ j → j < length xs → at + len ≤ (get_or xs j d).at
  begins_past j d l h =
      let b = get_or xs j d in
      elim (cases_lt b.at (at + len)) [
        | inl over ↦ absurd (
            let at_j = above j d l h in
            let some = s.filled j d h in
            let one = holds_in b.at b.at b.len (omega arith) (omega arith) in
            let mine = holds_in b.at at len at_j over in
            let more = holds-le-cover b.at xs j d h in
            let most = held b.at in omega arith)
        | inr fine ↦ fine
      ]

  -- no neighbour is free
  pub spaced_alone :
      ((d : Block) → 0 < k → (get_or xs (k - 1) d).at + (get_or xs (k - 1) d).len ≢ at) →
      ((d : Block) → k < length xs → at + len ≢ (get_or xs k d).at) →
      IsSpaced (insert xs k (record { at = at; len = len })) end
  spaced_alone no_before no_after = IsSpaced-insert xs end k _ s within filled inside
      (λ j d l. grind (arith, ends_before j d l, ends_before (k - 1) d, below (k - 1) d, s.apart j (k - 1) d, no_before d, cases_eq j (k - 1)))
      (λ j d l h. grind (arith, begins_past j d l h, begins_past k d, s.apart k j d, no_after d, cases_eq j k))

  -- the one before is free
  pub spaced_before : (x : Block) → 0 < k → x ≡ get_or xs (k - 1) x → x.at + x.len ≡ at →
      ((d : Block) → k < length xs → at + len ≢ (get_or xs k d).at) →
      IsSpaced (set xs (k - 1) (record { at = x.at; len = x.len + len })) end
  spaced_before x some is joins no_after =
      let e1 = ap (λ (b : Block). b.at) is in
      IsSpaced-set xs end (k - 1) _ s (omega arith) (omega arith) (omega arith)
      (λ j d l. let a = s.apart j (k - 1) d l (omega arith) in let e = get_or_default xs (k - 1) d x (omega arith) in let a' = ap (λ (b : Block). b.at) e in omega arith)
      (λ j d l h. grind (arith, begins_past j d (omega arith) h, begins_past k d, s.apart k j d, no_after d, cases_eq j k))

  -- the one after is free
  pub spaced_after : (x : Block) → k < length xs → x ≡ get_or xs k x → at + len ≡ x.at →
      ((d : Block) → 0 < k → (get_or xs (k - 1) d).at + (get_or xs (k - 1) d).len ≢ at) →
      IsSpaced (set xs k (record { at = at; len = len + x.len })) end
  spaced_after x h is joins no_before =
      let e1 = ap (λ (b : Block). b.at) is in
      let e2 = ap (λ (b : Block). b.len) is in
      let fits = s.inside k x h in
      IsSpaced-set xs end k _ s h (omega arith) (omega arith)
      (λ j d l. grind (arith, ends_before j d l, ends_before (k - 1) d, below (k - 1) d, s.apart j (k - 1) d, no_before d, cases_eq j (k - 1)))
      (λ j d l h'. let a = s.apart k j d l h' in let e = get_or_default xs k d x h in let a' = ap (λ (b : Block). b.at) e in let a'' = ap (λ (b : Block). b.len) e in omega arith)

  -- both are free
  pub spaced_both : (x y : Block) → 0 < k → x ≡ get_or xs (k - 1) x → x.at + x.len ≡ at →
      k < length xs → y ≡ get_or xs k y → at + len ≡ y.at →
      IsSpaced (set (remove xs k) (k - 1) (record { at = x.at; len = x.len + len + y.len })) end
  spaced_both x y some is_x joins_x h is_y joins_y =
      let n = length-remove xs k h in
      let r = IsSpaced-remove xs end k s h in
      let under : (j : ℕ) (d : Block) → j < k → get_or (remove xs k) j d ≡ get_or xs j d = λ j d l. get_or-remove_below xs k d j l h in
      let over : (j : ℕ) (d : Block) → k ≤ j → get_or (remove xs k) j d ≡ get_or xs (j + 1) d = λ j d l. get_or-remove_above xs k d j l h in
      let e1 = ap (λ (b : Block). b.at) is_x in
      let f1 = ap (λ (b : Block). b.at) is_y in
      let f2 = ap (λ (b : Block). b.len) is_y in
      let fits = s.inside k y h in
      IsSpaced-set (remove xs k) end (k - 1) _ r (omega arith) (omega arith) (omega arith)
      (λ j d l. let a = s.apart j (k - 1) d l (omega arith) in let e = get_or_default xs (k - 1) d x (omega arith) in
      let a' = ap (λ (b : Block). b.at) e in let u = ap (λ (b : Block). b.at) (under j d (omega arith)) in let u' = ap (λ (b : Block). b.len) (under j d (omega arith)) in omega arith)
      (λ j d l h'. let a = s.apart k (j + 1) d (omega arith) (omega arith) in let e = get_or_default xs k d y h in
      let a' = ap (λ (b : Block). b.at) e in let a'' = ap (λ (b : Block). b.len) e in let u = ap (λ (b : Block). b.at) (over j d (omega arith)) in omega arith)

-- what the joined blocks hold
pub cover_before : (p : ℕ) (xs : List Block) (k at len : ℕ) (x : Block) → k < length xs → x ≡ get_or xs k x → x.at + x.len ≡ at →
    cover p (set xs k (record { at = x.at; len = x.len + len })) ≡ cover p xs + holds p at len
cover_before p xs k at len x h is joins =
    let b : Block = record { at = x.at; len = x.len + len } in
    let s : cover p (set xs k b) + holds p x.at x.len ≡ cover p xs + holds p x.at (x.len + len) = rw (← is) at (cover-set p xs k b x h) in
    let j : holds p x.at (x.len + len) ≡ holds p x.at x.len + holds p at len = rw joins at (holds_join p x.at x.len len) in
    omega arith

pub cover_after : (p : ℕ) (xs : List Block) (k at len : ℕ) (x : Block) → k < length xs → x ≡ get_or xs k x → at + len ≡ x.at →
    cover p (set xs k (record { at = at; len = len + x.len })) ≡ cover p xs + holds p at len
cover_after p xs k at len x h is joins =
    let b : Block = record { at = at; len = len + x.len } in
    let s : cover p (set xs k b) + holds p x.at x.len ≡ cover p xs + holds p at (len + x.len) = rw (← is) at (cover-set p xs k b x h) in
    let j : holds p at (len + x.len) ≡ holds p at len + holds p x.at x.len = rw joins at (holds_join p at len x.len) in
    omega arith

pub cover_both : (p : ℕ) (xs : List Block) (k at len : ℕ) (x y : Block) → 0 < k → x ≡ get_or xs (k - 1) x → x.at + x.len ≡ at →
    k < length xs → y ≡ get_or xs k y → at + len ≡ y.at →
    cover p (set (remove xs k) (k - 1) (record { at = x.at; len = x.len + len + y.len })) ≡ cover p xs + holds p at len
cover_both p xs k at len x y some is_x joins_x h is_y joins_y =
    let n = length-remove xs k h in
    let gone : cover p (remove xs k) + holds p y.at y.len ≡ cover p xs = rw (← is_y) at (cover-remove p xs k y h) in
    let same : x ≡ get_or (remove xs k) (k - 1) x = is_x ∙ sym (get_or-remove_below xs k x (k - 1) (omega arith) h) in
    let one = cover_before p (remove xs k) (k - 1) at (len + y.len) x (omega arith) same joins_x in
    let e : x.len + (len + y.len) ≡ x.len + len + y.len = omega arith in
    let one' : cover p (set (remove xs k) (k - 1) (record { at = x.at; len = x.len + len + y.len })) ≡ cover p (remove xs k) + holds p at (len + y.len) = rw e at one in
    let j : holds p at (len + y.len) ≡ holds p at len + holds p y.at y.len = rw joins_y at (holds_join p at len y.len) in
    omega arith
