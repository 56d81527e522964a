use Rattle.std.proofs.Common.{◌≡◌, ℕ, ◌+◌, ◌-◌, ◌<◌, ◌≤◌, inl, inr, List, length, slice_index_or, refl, ◌∙◌, ap, rules, arith}
use Rattle.std.proofs.lemmas.List.{get_or_default}
use Rattle.std.proofs.lemmas.Result.{err_from_is_err_and}
use Rattle.h5_bytes.specs.Blocks.{block}
use Rattle.h5_bytes.specs.declared.Block.{Block}
use Rattle.h5_model.specs.Format.Messages.{prefix_at, first_size}
use Rattle.h5_header.specs.Progress.{ReadTo, without_memory, at_message, at_block}
use Rattle.h5_header.proofs.ThroughLaws.{first_through, first_stops, stops_at_block, next_through, next_smaller}
use Rattle.h5_header.proofs.header.read_header.Goals as goal
use Rattle.h5_header.proofs.header.read_header.Goals.{In_default-read_block-2}

pub returns-in-Err-clause-refused : goal.returns-in-Err-clause-refused
returns-in-Err-clause-refused c = rw c.fault-in-Err.ensures (elim c.in-Err.ensures.refused [
  | inl none ↦ without_memory none
  | inr stops ↦
      let header_is = c.in_ok-first.ensures.block in
      let long : c.in_ok-first.first.len ≡ 16 + first_size (prefix_at c.args.image.now c.args.header) = ap (λ (b : Block). b.len) header_is in
      at_message refl (first_stops c.args.image.now c.args.header c.in-Err.cause c.in_ok-first.first header_is c.in_ok-first.ensures.inside _ (ap (λ n. block (c.args.header + 16) n) (omega (arith, long))) stops)
])

pub loop-next-init : goal.loop-next-init
loop-next-init c =
    let header_is = c.in_ok-first.ensures.block in
    let long : c.in_ok-first.first.len ≡ 16 + first_size (prefix_at c.args.image.now c.args.header) = ap (λ (b : Block). b.len) header_is in (
      c.claim_prefix.ensures.end ∙ c.requires,
      c.in_ok-first.ensures.separate,
      first_through c.args.image.now c.args.header c.args.claims.now.held c.claim_prefix.new.claims.held
          c.read_block.new.list.items c.read_block.new.blocks.items c.in_ok-first.first (block (c.args.header + 16) (c.in_ok-first.first.len - 16))
          header_is (ap (λ n. block (c.args.header + 16) n) (omega (arith, long))) c.in_ok-first.ensures.inside c.in_ok-first.ensures.claimed (rw (c.in-Ok.ensures, c.one-blocks.ensures) at c.in_default-read_block.ensures.read),
    )

-- the block whose turn it is, where the blocks are read as a slice
abbrev nth : (blocks : List Block) (next : ℕ) → Block
nth blocks next = slice_index_or blocks next (block 0 0)

nth_is : (blocks slice : List Block) (next : ℕ) → slice ≡ blocks → next < length blocks → nth slice next ≡ slice_index_or blocks next (nth slice next)
nth_is blocks slice next same more = rw same (get_or_default blocks next (block 0 0) (nth blocks next) more)

pub returns-in_err-claim-clause-refused : goal.returns-in_err-claim-clause-refused
returns-in_err-claim-clause-refused c =
    let more : c.loop-next.next < length c.loop-next.blocks.items = search rules in
    let refused = rw c.loop-next.invariant.0 at c.in_err-claim.ensures.refused in
    let p = err_from_is_err_and c.from_residual-in_err-claim.result c.from_residual-in_err-claim.ensures.1 in
    rw (p.1, p.2) (at_block (stops_at_block c.args.image.now c.args.header c.args.claims.now.held c.loop-next.claims.held c.loop-next.list.items c.loop-next.blocks.items c.loop-next.next (nth c.as_slice-in-loop-next.result.now c.loop-next.next)
    c.loop-next.invariant.2 more (nth_is c.loop-next.blocks.items c.as_slice-in-loop-next.result.now c.loop-next.next c.as_slice-in-loop-next.ensures more) _ _ c.loop-next.invariant.1 refused))

module _ (c : In_default-read_block-2) where
  more : c.loop-next.next < length c.loop-next.blocks.items
  more = search rules

  abbrev turn : Block
  turn = nth c.as_slice-in-loop-next.result.now c.loop-next.next

  turn_is : turn ≡ slice_index_or c.loop-next.blocks.items c.loop-next.next turn
  turn_is = nth_is c.loop-next.blocks.items c.as_slice-in-loop-next.result.now c.loop-next.next c.as_slice-in-loop-next.ensures more

  inside : turn.at + turn.len ≤ length c.args.image.now
  inside = omega (arith, c.in_ok-claim.ensures.inside, c.loop-next.invariant.0)

  read : ReadTo c.args.image.now turn c.loop-next.list.items c.read_block-in-loop-next.new.list.items c.loop-next.blocks.items c.read_block-in-loop-next.new.blocks.items turn.len
  read = c.in_default-read_block-2.ensures.read

pub loop-next-smaller : goal.loop-next-smaller
loop-next-smaller c =
    next_smaller c.args.image.now c.args.header c.args.claims.now.held c.loop-next.claims.held c.loop-next.list.items c.loop-next.blocks.items c.loop-next.next (turn c)
    c.loop-next.invariant.2 (more c) (turn_is c) c.claim.new.claims.held (inside c) c.in_ok-claim.ensures.claimed c.read_block-in-loop-next.new.list.items c.read_block-in-loop-next.new.blocks.items (read c)
    c.claim.ensures.separate

pub loop-next-preserved : goal.loop-next-preserved
loop-next-preserved c = (
  c.claim.ensures.end ∙ c.loop-next.invariant.0,
  c.claim.ensures.separate,
  next_through c.args.image.now c.args.header c.args.claims.now.held c.loop-next.claims.held c.loop-next.list.items c.loop-next.blocks.items c.loop-next.next (turn c)
      c.loop-next.invariant.2 (more c) (turn_is c) c.claim.new.claims.held (inside c) c.in_ok-claim.ensures.claimed c.read_block-in-loop-next.new.list.items c.read_block-in-loop-next.new.blocks.items (read c),
)
