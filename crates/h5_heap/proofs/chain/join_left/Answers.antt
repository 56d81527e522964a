use Rattle.std.proofs.Common.{◌≡◌, ◌∷◌, ◌-◌, ℕ, ◌+◌, Option, Some, None, true, inl, inr, sym, ap, refl, [], arith, subst}
use Rattle.std.specs.List.{find}
use Rattle.std.specs.Option.{option_map_or}
use Rattle.std.proofs.lemmas.Bool.Decides.{nat_tests}
use Rattle.h5_bytes.specs.Bytes.{number_at}
use Rattle.h5_bytes.specs.Blocks.{block}
use Rattle.h5_bytes.specs.declared.Block.{Block}
use Rattle.h5_heap.specs.Around.{IsNeighbour}
use Rattle.h5_heap.specs.Chain.{Relists, ComesBehind, free_from}
use Rattle.h5_heap.specs.Sought.{ends_at}
use Rattle.h5_heap.proofs.ChainLaws.{IsFound, found_free, free_block_at}
use Rattle.h5_heap.proofs.RelistLaws.{relists_nothing}
use Rattle.h5_heap.proofs.OrderLaws.{ends_out, filter_none, put_back}
use Rattle.h5_heap.proofs.chain.join_left.Goals as goal
use Rattle.h5_heap.proofs.chain.join_left.Goals.{In-Some}

neighbour : (c : In-Some) → IsNeighbour (ends_at c.args.at) (free_from c.args.segment.now c.args.first) (Some c.in-Some.left)
neighbour c = rw c.in-Some.is at c.requires.left

found : (c : In-Some) → IsFound (ends_at c.args.at) c.args.segment.now (free_from c.args.segment.now c.args.first) c.in-Some.left.block
found c = found_free (ends_at c.args.at) c.args.segment.now c.args.first c.in-Some.left.block c.requires.chain (neighbour c).0

pub unlink_behind-requires-clause-led : goal.unlink_behind-requires-clause-led
unlink_behind-requires-clause-led c =
    let w = (goal.at.unlink_behind-requires-clause-led c).In-Some in
    subst (ComesBehind (free_from c.args.segment.now c.args.first) c.in-Some.left.place) (found w).same (neighbour w).1

pub returns-in-Some : goal.returns-in-Some
returns-in-Some c =
    let b = c.in-Some.left.block in
    let s = c.args.segment.now in
    let w = (goal.at.returns-in-Some c).In-Some in
    let f = found w in
    let u = c.unlink_behind in
    let ends : b.at + b.len ≡ c.args.at = grind (arith, nat_tests, f.passes) in
    let len : b.len ≡ number_at s (b.at + 8) 8 = ap (λ (x : Block). x.len) f.same in
    let size : number_at s (b.at + 8) 8 ≡ c.args.at - b.at = omega (arith, ends, len) in
    let passes : ends_at c.args.at (free_block_at s b.at) ≡ true = subst (λ (x : Block). ends_at c.args.at x ≡ true) f.same f.passes in
    record {
      relists = subst (λ (n : ℕ). Relists s u.new.segment c.args.first u.result (block b.at n ∷ []) []) size u.ensures.relists;
      joined = record { aligned = f.form.aligned; joined = inl (omega (arith, ends, f.form.room)) };
      begin = sym (ap (λ (o : Option Block). option_map_or (λ x. x.at) o c.args.at) (neighbour w).0);
      rest = ends_out _ _ (free_block_at s b.at) c.args.at c.requires.chain.each c.requires.chain.apart passes
          (put_back u.new.segment u.result c.in-Some.left.place (free_block_at s b.at) (free_from s c.args.first) u.ensures.listed u.ensures.still);
      same = λ e. absurd (omega (arith, e, ends, f.form.room));
    }

pub returns-in-None : goal.returns-in-None
returns-in-None c =
    let alone : find (ends_at c.args.at) (free_from c.args.segment.now c.args.first) ≡ None = rw c.in-None.is at c.requires.left in
    let none : c.args.at - c.args.at ≡ 0 = omega arith in
    record {
      relists = rw none (relists_nothing c.args.segment.now c.args.first c.args.at c.requires.chain);
      joined = record { aligned = c.requires.aligned; joined = inr (refl, alone) };
      begin = sym (ap (λ (o : Option Block). option_map_or (λ x. x.at) o c.args.at) alone);
      rest = sym (filter_none (ends_at c.args.at) _ alone);
      same = λ e. (refl, refl);
    }
