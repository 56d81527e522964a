use Rattle.std.proofs.Common.{◌≡◌, ◌+◌, ◌-◌, ◌*◌, ◌≤◌, ◌∙◌, length, ap, arith}
use Rattle.h5_bytes.proofs.PartLaws.{put_mid_is}
use Rattle.h5_snod.proofs.EditLaws.{raw-inserted, entries_of-inserted, head-inserted, length-moved_up}
use Rattle.h5_snod.proofs.edit.insert_at.Goals as goal

pub returns-clause-entries : goal.returns-clause-entries
returns-clause-entries c =
    let is = c.from-n.ensures ∙ c.u16_at.ensures in
    let long = length-moved_up c.args.node.now c.args.entry.now c.args.k c.from-n.result is (omega (arith, c.requires.place)) (omega (arith, c.requires.room)) c.requires.width (omega (arith, c.requires.small)) in
    let width : length c.copy_from_slice.new.self ≡ 8 + 40 * c.args.k + 40 - (8 + 40 * c.args.k) = ap length c.copy_from_slice.ensures.after ∙ c.requires.width ∙ omega arith in
    let fits : 8 + 40 * c.args.k + (8 + 40 * c.args.k + 40 - (8 + 40 * c.args.k)) ≤ length c.copy_within.new.self = omega (arith, ap length c.copy_within.ensures.after, long, c.requires.place, c.requires.room) in
    rw (c.put_u16.ensures, put_mid_is (8 + 40 * c.args.k) (8 + 40 * c.args.k + 40 - (8 + 40 * c.args.k)) c.copy_within.new.self c.copy_from_slice.new.self width fits, c.copy_from_slice.ensures.after, c.copy_within.ensures.after)
    (entries_of-inserted c.args.node.now c.args.entry.now c.args.k c.from-n.result is (omega (arith, c.requires.place)) (omega (arith, c.requires.room)) c.requires.width (omega (arith, c.requires.small)))

pub returns-clause-head : goal.returns-clause-head
returns-clause-head c =
    let is = c.from-n.ensures ∙ c.u16_at.ensures in
    let long = length-moved_up c.args.node.now c.args.entry.now c.args.k c.from-n.result is (omega (arith, c.requires.place)) (omega (arith, c.requires.room)) c.requires.width (omega (arith, c.requires.small)) in
    let width : length c.copy_from_slice.new.self ≡ 8 + 40 * c.args.k + 40 - (8 + 40 * c.args.k) = ap length c.copy_from_slice.ensures.after ∙ c.requires.width ∙ omega arith in
    let fits : 8 + 40 * c.args.k + (8 + 40 * c.args.k + 40 - (8 + 40 * c.args.k)) ≤ length c.copy_within.new.self = omega (arith, ap length c.copy_within.ensures.after, long, c.requires.place, c.requires.room) in
    rw (c.put_u16.ensures, put_mid_is (8 + 40 * c.args.k) (8 + 40 * c.args.k + 40 - (8 + 40 * c.args.k)) c.copy_within.new.self c.copy_from_slice.new.self width fits, c.copy_from_slice.ensures.after, c.copy_within.ensures.after)
    (head-inserted c.args.node.now c.args.entry.now c.args.k c.from-n.result is (omega (arith, c.requires.place)) (omega (arith, c.requires.room)) c.requires.width (omega (arith, c.requires.small)))

pub returns-clause-bytes : goal.returns-clause-bytes
returns-clause-bytes c =
    let is = c.from-n.ensures ∙ c.u16_at.ensures in
    let long = length-moved_up c.args.node.now c.args.entry.now c.args.k c.from-n.result is (omega (arith, c.requires.place)) (omega (arith, c.requires.room)) c.requires.width (omega (arith, c.requires.small)) in
    let width : length c.copy_from_slice.new.self ≡ 8 + 40 * c.args.k + 40 - (8 + 40 * c.args.k) = ap length c.copy_from_slice.ensures.after ∙ c.requires.width ∙ omega arith in
    let fits : 8 + 40 * c.args.k + (8 + 40 * c.args.k + 40 - (8 + 40 * c.args.k)) ≤ length c.copy_within.new.self = omega (arith, ap length c.copy_within.ensures.after, long, c.requires.place, c.requires.room) in
    rw (c.put_u16.ensures, put_mid_is (8 + 40 * c.args.k) (8 + 40 * c.args.k + 40 - (8 + 40 * c.args.k)) c.copy_within.new.self c.copy_from_slice.new.self width fits, c.copy_from_slice.ensures.after, c.copy_within.ensures.after)
    (raw-inserted c.args.node.now c.args.entry.now c.args.k c.from-n.result is (omega (arith, c.requires.place)) (omega (arith, c.requires.room)) c.requires.width (omega (arith, c.requires.small)))
