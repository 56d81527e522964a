use Rattle.std.proofs.Common.{◌≡◌, ℕ, ◌+◌, ◌≤◌, ◌<◌, List, length, is_ok, get_or, set, true≢false, Result, Ok, Err, refl, ap, sym, ◌∙◌, subst, arith}
use Rattle.std.specs.List.{All}
use Rattle.std.specs.Result.{IfErr}
use Rattle.std.proofs.lemmas.List.{get_or_default}
use Rattle.h5_bytes.specs.Blocks.{block, holds, cover}
use Rattle.h5_bytes.specs.declared.Block.{Block}
use Rattle.h5_bytes.proofs.BlockLaws.{holds_none, holds-le}
use Rattle.h5_space.specs.Claimed.{Claimed, Shares}
use Rattle.h5_space.specs.Indexed.{IsLastBefore}
use Rattle.h5_space.specs.declared.claims.ClaimFault.{ClaimFault}
use Rattle.h5_space.specs.declared.claims.ClaimFault.TheVariants.{Overlap, NoMemory}
use Rattle.h5_space.proofs.IndexedLaws.{inside_end, shares, apart_from_last, apart_from_all, none_shared, cover-grown, grown}
use Rattle.h5_space.proofs.claims.Claims.claim.Goals as goal
use Rattle.h5_space.proofs.claims.Claims.claim.Goals.{After-last_before, After-index_mut, in-Some+else-end-at+else-end-at-2, in_default}

-- ---- where nothing is claimed

pub returns-then-at-self-clause-separate : goal.returns-then-at-self-clause-separate
returns-then-at-self-clause-separate c p = let same = ap (λ (s : Claimed). cover p s.held) c.self.view_is in omega (arith, same, c.self.invariant.once p, holds-le p 0 c.self.inside.end)

pub returns-then-len-eq0-clause-separate : goal.returns-then-len-eq0-clause-separate
returns-then-len-eq0-clause-separate c p = let same = ap (λ (s : Claimed). cover p s.held) c.self.view_is in omega (arith, same, c.self.invariant.once p, holds-le p 0 c.self.inside.end)

pub returns-then-end-at-clause-separate : goal.returns-then-end-at-clause-separate
returns-then-end-at-clause-separate c p = let same = ap (λ (s : Claimed). cover p s.held) c.self.view_is in omega (arith, same, c.self.invariant.once p, holds-le p 0 c.self.inside.end)

pub returns-then-len-eq0-clause-claimed : goal.returns-then-len-eq0-clause-claimed
returns-then-len-eq0-clause-claimed c p =
    let none : holds p c.args.at c.args.len ≡ 0 = rw c.if-len-eq0.true (holds_none p c.args.at) in
    omega (arith, none)

pub returns-then-len-eq0-clause-overlap : goal.returns-then-len-eq0-clause-overlap
returns-then-len-eq0-clause-overlap c = (
  λ e. absurd (true≢false (ap is_ok e)),
  λ shared. absurd (
      let none : holds shared.1.0 c.args.at c.args.len ≡ 0 = rw c.if-len-eq0.true (holds_none shared.1.0 c.args.at) in
      omega (arith, shared.1.1)),
)

-- ---- the block before

held_is : (c : After-last_before) → c.self.inside.held.items ≡ c.args.self.now.held
held_is c = ap (λ (s : Claimed). s.held) c.self.view_is

end_is : (c : After-last_before) → c.self.inside.end ≡ c.args.self.now.end
end_is c = ap (λ (s : Claimed). s.end) c.self.view_is

module _ (c : After-last_before) (i : ℕ) (b : Block) (found : IsLastBefore c.args.self.now.held (c.args.at + c.args.len) i)
    (is : b ≡ get_or c.self.inside.held.items i b) where
  last : IsLastBefore c.self.inside.held.items (c.args.at + c.args.len) i
  last = subst (λ (bs : List Block). IsLastBefore bs (c.args.at + c.args.len) i) (sym (held_is c)) found

  ends : b.at + b.len ≤ c.self.inside.end
  ends = subst (λ (x : Block). x.at + x.len ≤ c.self.inside.end) (sym is) (inside_end c.self.inside.held.items c.self.inside.places c.self.inside.end c.self.invariant i b last.within)

  -- where it ends by their beginning, the bytes are free
  free : b.at + b.len ≤ c.args.at → (p : ℕ) → cover p c.self.inside.held.items + holds p c.args.at c.args.len ≤ 1
  free low = apart_from_last c.self.inside.held.items c.self.inside.places c.self.inside.end c.self.invariant c.args.at c.args.len i b last is low

-- what is free is not shared
not_shared : (c : After-last_before) → ((p : ℕ) → cover p c.self.inside.held.items + holds p c.args.at c.args.len ≤ 1) → Shares c.args.self.now.held c.args.at c.args.len → ⊥
not_shared c free shared = none_shared c.self.inside.held.items c.args.at c.args.len free (subst (λ (bs : List Block). Shares bs c.args.at c.args.len) (sym (held_is c)) shared)

pub overflow_add-end : goal.overflow_add-end
overflow_add-end c =
    let low = ends (goal.at.overflow_add-end c).After-last_before c.in-Some.index c.index-before.result.now c.in-Some.ensures.found c.index-before.ensures in
    omega (arith, low)

pub returns-then-end-at-clause-overlap : goal.returns-then-end-at-clause-overlap
returns-then-end-at-clause-overlap c =
    let before : After-last_before = (goal.at.returns-then-end-at-clause-overlap c).After-last_before in
    let b = c.index-before.result.now in
    let found = last before c.in-Some.index b c.in-Some.ensures.found c.index-before.ensures in
    let inside : c.args.at + c.args.len ≤ c.args.self.now.end = omega (arith, end_is before) in
    let low : b.at < c.args.at + c.args.len = subst (λ (x : Block). x.at < c.args.at + c.args.len) (sym c.index-before.ensures) (found.before b) in
    let shared : Shares c.args.self.now.held c.args.at c.args.len = subst (λ (bs : List Block). Shares bs c.args.at c.args.len) (held_is before)
    (shares c.self.inside.held.items c.self.inside.places c.self.inside.end c.self.invariant c.args.at c.args.len c.in-Some.index b (omega arith) found.within c.index-before.ensures low c.if-end-at.true) in
    (λ e. (inside, shared), λ both. refl)

-- ---- the block before grows

module _ (c : After-index_mut) where
  abbrev grows : Block
  grows = c.index_mut.result.now

  grown_within : c.in-Some.index < length c.self.inside.held.items
  grown_within = (last (goal.at.After-index_mut c).After-last_before c.in-Some.index c.index-before.result.now c.in-Some.ensures.found c.index-before.ensures).within

  grown_free : (p : ℕ) → cover p c.self.inside.held.items + holds p c.args.at c.args.len ≤ 1
  grown_free = free (goal.at.After-index_mut c).After-last_before c.in-Some.index c.index-before.result.now c.in-Some.ensures.found c.index-before.ensures (omega arith)

  grown_ends : grows.at + grows.len ≡ c.args.at
  grown_ends =
      let same = c.index-before.ensures ∙ get_or_default c.self.inside.held.items c.in-Some.index c.index-before.result.now grows grown_within ∙ sym c.index_mut.ensures.value in
      subst (λ (b : Block). b.at + b.len ≡ c.args.at) same c.if-end-at-2.true

  now_grown : (p : ℕ) → cover p (set c.self.inside.held.items c.in-Some.index (block grows.at (grows.len + c.args.len))) ≡ cover p c.self.inside.held.items + holds p c.args.at c.args.len
  now_grown = cover-grown c.self.inside.held.items c.in-Some.index grows c.args.at c.args.len grown_within c.index_mut.ensures.value grown_ends

pub invariant_of-self : goal.invariant_of-self
invariant_of-self c =
    let before : After-index_mut = (goal.at.invariant_of-self c).After-index_mut in
    grown c.self.inside.held.items c.in-Some.index (grows before) c.args.at c.args.len (grown_within before) c.index_mut.ensures.value (grown_ends before)
    c.self.inside.places c.self.inside.end c.self.invariant (omega arith) (omega arith) (grown_free before)

pub returns-then-end-at-2-clause-claimed : goal.returns-then-end-at-2-clause-claimed
returns-then-end-at-2-clause-claimed c p =
    let before : After-index_mut = (goal.at.returns-then-end-at-2-clause-claimed c).After-index_mut in
    let same = ap (cover p) (held_is (goal.at.returns-then-end-at-2-clause-claimed c).After-last_before) in
    omega (arith, same, now_grown before p)

pub returns-then-end-at-2-clause-separate : goal.returns-then-end-at-2-clause-separate
returns-then-end-at-2-clause-separate c p =
    let before : After-index_mut = (goal.at.returns-then-end-at-2-clause-separate c).After-index_mut in
    omega (arith, now_grown before p, grown_free before p)

pub returns-then-end-at-2-clause-overlap : goal.returns-then-end-at-2-clause-overlap
returns-then-end-at-2-clause-overlap c =
    let before : After-index_mut = (goal.at.returns-then-end-at-2-clause-overlap c).After-index_mut in
    (λ e. absurd (true≢false (ap is_ok e)), λ both. absurd (not_shared (goal.at.returns-then-end-at-2-clause-overlap c).After-last_before (grown_free before) both.1))

-- ---- the bytes begin a block

behind_free : (c : After-last_before) → All (λ (b : Block). c.args.at + c.args.len ≤ b.at) c.args.self.now.held → (p : ℕ) → cover p c.self.inside.held.items + holds p c.args.at c.args.len ≤ 1
behind_free c behind = apart_from_all c.self.inside.held.items c.self.inside.places c.self.inside.end c.self.invariant c.args.at c.args.len
    (subst (λ (bs : List Block). All (λ (b : Block). c.args.at + c.args.len ≤ b.at) bs) (sym (held_is c)) behind)

pub begin-requires-clause-free : goal.begin-requires-clause-free
begin-requires-clause-free c =
    let before : After-last_before = (goal.at.begin-requires-clause-free c).After-last_before in
    subst (λ (bs : List Block). (p : ℕ) → cover p bs + holds p c.args.at c.args.len ≤ 1) (held_is before) (elim c.match-last_before.branch [
      | in-Some+else-end-at+else-end-at-2 w ↦ free before w.in-Some.index w.index-before.result.now w.in-Some.ensures.found w.index-before.ensures w.if-end-at.false
      | in_default w ↦ behind_free before w.in_default.ensures.none
    ])

no_overlap : (r : Result (Unit {0}) ClaimFault) → IfErr r (λ fault. fault ≡ NoMemory) → r ≡ Err Overlap → ⊥
no_overlap (Ok v) refused is = true≢false (ap is_ok is)
no_overlap (Err e) refused is = cc

pub returns-clause-overlap : goal.returns-clause-overlap
returns-clause-overlap c =
    let before : After-last_before = (goal.at.returns-clause-overlap c).After-last_before in
    let none : (p : ℕ) → cover p c.self.inside.held.items + holds p c.args.at c.args.len ≤ 1 = elim c.match-last_before.branch [
      | in-Some+else-end-at+else-end-at-2 w ↦ free before w.in-Some.index w.index-before.result.now w.in-Some.ensures.found w.index-before.ensures w.if-end-at.false
      | in_default w ↦ behind_free before w.in_default.ensures.none
    ] in
    (λ e. absurd (no_overlap c.begin.result c.begin.ensures.refused e), λ both. absurd (not_shared before none both.1))
