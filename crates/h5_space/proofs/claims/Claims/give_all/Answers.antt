use Rattle.std.proofs.Common.{◌≡◌, ℕ, ◌+◌, ◌<◌, ◌≤◌, List, length, refl, sym, ap, ◌∙◌, subst, arith}
use Rattle.std.specs.BTreeMap.{values}
use Rattle.std.specs.List.{AllByRecursion}
use Rattle.h5_bytes.specs.Blocks.{cover}
use Rattle.h5_bytes.specs.declared.Block.{Block}
use Rattle.h5_space.specs.Claimed.{Claimed}
use Rattle.h5_space.proofs.IndexedLaws.{inside_end}
use Rattle.h5_space.proofs.PlaceOrder.{cover_at, cover_values, as_many, values_within}
use Rattle.h5_space.proofs.claims.Claims.give_all.Goals as goal
use Rattle.h5_space.proofs.claims.Claims.give_all.Goals.{After-into_iter-index-iterator}

held_is : (c : After-into_iter-index-iterator) → c.self.inside.held.items ≡ c.args.self.now.held
held_is c = ap (λ (s : Claimed). s.held) c.self.view_is

indices_are : (c : After-into_iter-index-iterator) → c.into_iter-index-iterator.result ≡ values c.self.inside.places
indices_are c = c.into_iter-index-iterator.ensures.into_iter_gives ∙ c.values-index-items.ensures.gives

pub loop-index-init : goal.loop-index-init
loop-index-init c =
    let blocks = c.self.inside.held.items in
    let places = c.self.inside.places in
    let ordered = c.values-index-items.ensures.ordered in
    record {
      bytes = refl;
      within = subst (λ (bs : List Block). AllByRecursion (λ i. i < length bs) c.into_iter-index-iterator.result) (held_is c)
          (subst (λ (is : List ℕ). AllByRecursion (λ i. i < length blocks) is) (sym (indices_are c)) (values_within blocks places c.self.inside.end c.self.invariant ordered));
      given = λ p.
          let all = ap (cover_at p blocks) (indices_are c) ∙ cover_values blocks places c.self.inside.end c.self.invariant ordered p in
          let same = subst (λ (bs : List Block). cover_at p bs c.into_iter-index-iterator.result ≡ cover p bs) (held_is c) all in
          omega (arith, same);
      room_bytes = refl;
      room_blocks =
          let all = ap (λ (is : List ℕ). length is) (indices_are c) ∙ as_many blocks places c.self.inside.end c.self.invariant ordered in
          let same = ap (λ (bs : List Block). length bs) (held_is c) in
          omega (arith, all, same);
    }

pub give-requires-clause-inside : goal.give-requires-clause-inside
give-requires-clause-inside c =
    let before : After-into_iter-index-iterator = (goal.at.give-requires-clause-inside c).After-into_iter-index-iterator in
    let blocks = c.self.inside.held.items in
    let index = c.in-Some.index in
    let b = c.index-block.result.now in
    let listed : index < length c.args.self.now.held = (subst (λ (is : List ℕ). AllByRecursion (λ i. i < length c.args.self.now.held) is) c.in-Some.ensures.steps c.loop-index.invariant.within).0 in
    let within : index < length blocks = subst (λ (bs : List Block). index < length bs) (sym (held_is before)) listed in
    let low : b.at + b.len ≤ c.self.inside.end = subst (λ (x : Block). x.at + x.len ≤ c.self.inside.end) (sym c.index-block.ensures) (inside_end blocks c.self.inside.places c.self.inside.end c.self.invariant index b within) in
    let end = ap (λ (s : Claimed). s.end) c.self.view_is in
    let long = ap (λ (bs : List ℕ). length bs) c.loop-index.invariant.bytes in
    omega (arith, low, end, long, c.requires.inside)
