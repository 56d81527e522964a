use Rattle.std.proofs.Common.{◌≡◌, ◌∷◌, ◌-◌, ℕ, ◌+◌, Option, Some, None, true, inl, inr, sym, ap, refl, [], arith, subst}
use Rattle.std.specs.List.{find}
use Rattle.std.specs.Option.{option_map_or}
use Rattle.std.proofs.lemmas.Bool.Decides.{nat_tests}
use Rattle.h5_bytes.specs.Bytes.{number_at}
use Rattle.h5_bytes.specs.Blocks.{block}
use Rattle.h5_bytes.specs.declared.Block.{Block}
use Rattle.h5_heap.specs.Around.{IsNeighbour}
use Rattle.h5_heap.specs.Chain.{Relists, ComesBehind, free_from}
use Rattle.h5_heap.specs.Sought.{begins_at}
use Rattle.h5_heap.proofs.ChainLaws.{IsFound, found_free, free_block_at}
use Rattle.h5_heap.proofs.RelistLaws.{relists_nothing}
use Rattle.h5_heap.proofs.OrderLaws.{begins_out, filter_none, put_back}
use Rattle.h5_heap.proofs.chain.join_right.Goals as goal
use Rattle.h5_heap.proofs.chain.join_right.Goals.{In-Some}

neighbour : (c : In-Some) → IsNeighbour (begins_at c.args.end) (free_from c.args.segment.now c.args.first) (Some c.in-Some.right)
neighbour c = rw c.in-Some.is at c.requires.right

found : (c : In-Some) → IsFound (begins_at c.args.end) c.args.segment.now (free_from c.args.segment.now c.args.first) c.in-Some.right.block
found c = found_free (begins_at c.args.end) c.args.segment.now c.args.first c.in-Some.right.block c.requires.chain (neighbour c).0

pub unlink_behind-requires-clause-led : goal.unlink_behind-requires-clause-led
unlink_behind-requires-clause-led c =
    let w = (goal.at.unlink_behind-requires-clause-led c).In-Some in
    subst (ComesBehind (free_from c.args.segment.now c.args.first) c.in-Some.right.place) (found w).same (neighbour w).1

pub overflow_add-result : goal.overflow_add-result
overflow_add-result c = grind (arith, (found (goal.at.overflow_add-result c).In-Some).within)

pub returns-in-Some : goal.returns-in-Some
returns-in-Some c =
    let b = c.in-Some.right.block in
    let s = c.args.segment.now in
    let w = (goal.at.returns-in-Some c).In-Some in
    let f = found w in
    let u = c.unlink_behind in
    let begins : b.at ≡ c.args.end = grind (arith, nat_tests, f.passes) in
    let len : b.len ≡ number_at s (b.at + 8) 8 = ap (λ (x : Block). x.len) f.same in
    let size : number_at s (b.at + 8) 8 ≡ b.at + b.len - c.args.end = omega (arith, begins, len) in
    let passes : begins_at c.args.end (free_block_at s b.at) ≡ true = subst (λ (x : Block). begins_at c.args.end x ≡ true) f.same f.passes in
    record {
      relists = rw (← begins) (subst (λ (n : ℕ). Relists s u.new.segment c.args.first u.result (block b.at n ∷ []) []) (rw (← begins) at size) u.ensures.relists);
      joined = record { within = f.within; joined = inl (omega (arith, begins, f.form.room)) };
      stop = sym (ap (λ (o : Option Block). option_map_or (λ x. x.at + x.len) o c.args.end) (neighbour w).0);
      rest = begins_out _ _ (free_block_at s b.at) c.args.end c.requires.chain.each c.requires.chain.apart passes
          (put_back u.new.segment u.result c.in-Some.right.place (free_block_at s b.at) (free_from s c.args.first) u.ensures.listed u.ensures.still);
    }

pub returns-in-None : goal.returns-in-None
returns-in-None c =
    let alone : find (begins_at c.args.end) (free_from c.args.segment.now c.args.first) ≡ None = rw c.in-None.is at c.requires.right in
    let none : c.args.end - c.args.end ≡ 0 = omega arith in
    record {
      relists = rw none (relists_nothing c.args.segment.now c.args.first c.args.end c.requires.chain);
      joined = record { within = c.requires.inside; joined = inr (refl, alone) };
      stop = sym (ap (λ (o : Option Block). option_map_or (λ x. x.at + x.len) o c.args.end) alone);
      rest = sym (filter_none (begins_at c.args.end) _ alone);
    }
