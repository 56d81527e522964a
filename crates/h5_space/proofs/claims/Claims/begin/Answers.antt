use Rattle.std.proofs.Common.{◌≡◌, ℕ, ◌+◌, ◌≤◌, List, [], ◌∷◌, ◌++◌, Some, is_ok, not, true, true≢false, Result, Ok, Err, ap, sym, ◌∙◌, subst, arith, length}
use Rattle.std.specs.BTreeMap.{Updates}
use Rattle.std.specs.Ordering.{nat_cmp}
use Rattle.std.specs.Result.{OnOk}
use Rattle.h5_bytes.specs.Blocks.{block, holds, cover}
use Rattle.h5_bytes.specs.declared.Block.{Block}
use Rattle.h5_space.specs.Claimed.{Claimed}
use Rattle.h5_space.proofs.IndexedLaws.{begun, cover-begun}
use Rattle.h5_space.proofs.claims.Claims.begin.Goals as goal
use Rattle.h5_space.proofs.claims.Claims.begin.Goals.{After-push_reserved}

on_ok : {T E P : Type 0} (r : Result T E) → is_ok r ≡ true → OnOk r P → P
on_ok (Ok v) is fact = fact
on_ok (Err e) is fact = absurd (true≢false (sym is))

-- no block holds one of the bytes
free : (c : After-push_reserved) (p : ℕ) → cover p c.self.inside.held.items + holds p c.args.at c.args.len ≤ 1
free c p = let same = ap (λ (s : Claimed). cover p s.held) c.self.view_is in omega (arith, same, c.requires.free p)

-- the block stands behind the others
now : (c : After-push_reserved) → c.push_reserved.new.self.items ≡ c.self.inside.held.items ++ block c.args.at c.args.len ∷ []
now c = c.push_reserved.ensures.items ∙ ap (λ (bs : List Block). bs ++ block c.args.at c.args.len ∷ []) c.reserve.ensures.items

pub invariant_of-self-2 : goal.invariant_of-self-2
invariant_of-self-2 c =
    let before : After-push_reserved = (goal.at.invariant_of-self-2 c).After-push_reserved in
    let put : Updates nat_cmp c.self.inside.places c.insert.new.self c.args.at (Some c.len.result)
    = on_ok c.insert.result (c.is_err-2.ensures.negation ∙ ap not c.if-is_err-2.false) c.insert.ensures.updates in
    let many : c.len.result ≡ length c.self.inside.held.items =
    let ok = c.reserve.new.self.ok.0 in
    let items = ap (λ (bs : List Block). length bs) c.reserve.ensures.items in
    omega (arith, ok, items, c.len.ensures) in
    let end : c.args.at + c.args.len ≤ c.self.inside.end = let same = ap (λ (s : Claimed). s.end) c.self.view_is in omega (arith, same, c.requires.inside) in
    rw (now before) (begun c.self.inside.held.items c.self.inside.places c.self.inside.end c.args.at c.args.len c.self.invariant
    c.requires.filled end (free before) c.insert.new.self (subst (λ (i : ℕ). Updates nat_cmp c.self.inside.places c.insert.new.self c.args.at (Some i)) many put))

pub returns-clause-begun : goal.returns-clause-begun
returns-clause-begun c p = rw (now (goal.at.returns-clause-begun c).After-push_reserved, ← c.self.view_is) (cover-begun p c.self.inside.held.items c.args.at c.args.len)

pub returns-clause-separate : goal.returns-clause-separate
returns-clause-separate c p =
    let before : After-push_reserved = (goal.at.returns-clause-separate c).After-push_reserved in
    rw (now before, cover-begun p c.self.inside.held.items c.args.at c.args.len) (free before p)
