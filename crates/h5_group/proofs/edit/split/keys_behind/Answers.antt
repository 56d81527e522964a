use Rattle.std.proofs.Common.{◌≡◌, ℕ, suc, ◌+◌, ◌*◌, ◌≤◌, List, length, take, sym, ap, ◌∙◌, subst, arith}
use Rattle.h5_bytes.specs.Bytes.{little_bytes, part, with_part}
use Rattle.h5_bytes.specs.Numbers.{word}
use Rattle.h5_bytes.proofs.PartLaws.{length-with_part, part-with_part_same}
use Rattle.h5_model.specs.Format.Heap.{segment_of}
use Rattle.h5_btree.specs.Held.{AreHeldKeys}
use Rattle.h5_btree.specs.declared.way.Step.{Step}
use Rattle.h5_btree.proofs.WaySteps.{way_low}
use Rattle.h5_group.specs.Split.{follows_in}
use Rattle.h5_group.proofs.edit.split.keys_behind.Goals as goal

written_front : (n : ℕ) (bytes : List ℕ) → 8 ≤ length bytes → take 8 (with_part 0 (word n) bytes) ≡ word n
unfolding part
written_front n bytes long = part-with_part_same 0 8 (word n) bytes (omega arith) (omega (arith, long))

pub hold_keys-requires-clause-keys : goal.hold_keys-requires-clause-keys
hold_keys-requires-clause-keys c =
    let (root, level, owned, list, k, e) = c.requires.ends in
    let low = way_low c.args.image.now c.args.kind root level c.args.way.now owned list k e in
    let steps : length c.args.way.now ≡ suc (length e.above) = ap (λ (w : List Step). length w) e.way_is in
    let size : length c.put_u64.new.bytes ≡ 128 = ap (λ (b : List ℕ). length b) c.put_u64.ensures ∙ length-with_part 0 (little_bytes 8 c.last_name.result) _ (omega arith) in
    subst (λ (n : ℕ). length c.args.way.now * n ≤ length c.put_u64.new.bytes) (sym c.requires.width) (omega (arith, low, steps, size))

pub returns-clause-first : goal.returns-clause-first
returns-clause-first c front last is =
    let same = subst (λ (n : ℕ). take n c.hold_keys.new.keys ≡ take n c.put_u64.new.bytes) c.requires.width c.hold_keys.ensures.first in
    same ∙ ap (λ (b : List ℕ). take 8 b) c.put_u64.ensures ∙ written_front c.last_name.result _ (omega arith) ∙ ap word (c.last_name.ensures front last is)

pub returns-clause-held : goal.returns-clause-held
returns-clause-held c step above is =
    subst (λ (segment : List ℕ). AreHeldKeys c.args.image.now.bytes c.args.kind (follows_in segment) step.node above (step.place + 1) c.hold_keys.new.keys)
    (c.segment_at.ensures ∙ ap (segment_of c.args.image.now.bytes) c.heap.ensures) (c.hold_keys.ensures.held step above is)
