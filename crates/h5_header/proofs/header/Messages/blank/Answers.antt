use Rattle.std.proofs.Common.{◌≡◌, ℕ, ◌+◌, ◌-◌, ◌≤◌, List, length, slice_set, slice_index_or, refl, ◌∙◌, ap, arith}
use Rattle.h5_model.specs.Format.MessageTypes.{nil_kind}
use Rattle.h5_bytes.specs.Bytes.{part, with_part, with_field, little_bytes}
use Rattle.h5_bytes.proofs.PartLaws.{with_part-with_part}
use Rattle.h5_space.specs.Lending.{with_bytes_at}
use Rattle.h5_header.specs.Standing.{kept_at, nowhere}
use Rattle.h5_header.proofs.BesideLaws.{moves_covered, spends_write}
use Rattle.h5_header.proofs.BlankLaws.{behind_head, body_inside, blank_count, blank_covered, blank_messages, blank_standing}
use Rattle.h5_header.proofs.header.Messages.blank.Goals as goal
use Rattle.h5_header.proofs.header.Messages.blank.Goals.{After-list, After-set}

low : (c : After-list) → 8 ≤ (kept_at c.args.self.now.list c.args.k).at
low c = behind_head c.args.image.now.bytes c.args.self.now c.requires.standing c.args.k c.requires.known c.requires.own

-- where the message's head begins
abbrev head : (c : After-set) → ℕ
head c = (kept_at c.args.self.now.list c.args.k).at - 8

abbrev wrote : (c : After-set) → List ℕ
wrote c = with_part (head c) (little_bytes 2 0) c.args.image.now.bytes

two : length (little_bytes 2 0) ≡ 2
two = refl

room : (c : After-set) → head c + 2 ≤ length c.args.image.now.bytes
room c =
    let high = body_inside c.args.image.now.bytes c.args.self.now c.requires.standing c.args.k c.requires.known c.requires.own in
    let begin = behind_head c.args.image.now.bytes c.args.self.now c.requires.standing c.args.k c.requires.known c.requires.own in
    omega (arith, high, begin)

written : (c : After-set) → with_part ((slice_index_or c.list.result.now c.args.k nowhere).at - 8) c.put_u16.new.bytes c.args.image.now.bytes ≡ wrote c
written c =
    let bytes = c.args.image.now.bytes in
    let none : head c + 0 ≡ head c = omega arith in
    let this : c.put_u16.new.bytes ≡ with_field (part (head c) 2 bytes) 0 2 0 = rw (c.part_at_mut.ensures.value, c.list.ensures) at c.put_u16.ensures in
    rw c.list.ensures (ap (λ (bs : List ℕ). with_part (head c) bs bytes) this
    ∙ with_part-with_part (head c) 2 0 (little_bytes 2 0) bytes (room c) (omega (arith, two))
    ∙ ap (λ (h : ℕ). with_part h (little_bytes 2 0) bytes) none)

after : (c : After-set) → c.set.new.self ≡ record c.args.self.now { list = slice_set c.args.self.now.list c.args.k (record (kept_at c.args.self.now.list c.args.k) { kind = nil_kind }) }
after c = rw c.list.ensures at c.set.ensures

pub overflow_sub-message : goal.overflow_sub-message
overflow_sub-message c =
    let w = (goal.at.overflow_sub-message c).After-list in
    rw c.list.ensures (low w)

pub returns-clause-standing : goal.returns-clause-standing
returns-clause-standing c =
    let w = (goal.at.returns-clause-standing c).After-set in
    rw (written w, after w) (blank_standing c.args.image.now.bytes c.args.self.now c.requires.standing c.args.k c.requires.known c.requires.own)

pub returns-clause-messages : goal.returns-clause-messages
returns-clause-messages c =
    let w = (goal.at.returns-clause-messages c).After-set in
    rw (written w, after w) (blank_messages c.args.image.now.bytes c.args.self.now c.requires.standing c.args.k c.requires.known c.requires.own)

pub returns-clause-count : goal.returns-clause-count
returns-clause-count c =
    let w = (goal.at.returns-clause-count c).After-set in
    rw (written w, after w) (blank_count c.args.image.now.bytes c.args.self.now c.requires.standing c.args.k c.requires.known c.requires.own)

pub returns-clause-moves : goal.returns-clause-moves
returns-clause-moves c =
    let w = (goal.at.returns-clause-moves c).After-set in
    rw (after w)
    (moves_covered c.args.image.now (with_bytes_at c.args.image.now ((slice_index_or c.list.result.now c.args.k nowhere).at - 8) c.put_u16.new.bytes) (little_bytes 2 0) (head w) c.args.self.now.blocks
    (blank_covered c.args.image.now.bytes c.args.self.now c.requires.standing c.args.k c.requires.known c.requires.own)
    (omega (arith, two, room w)) (written w) refl)

pub returns-clause-spends : goal.returns-clause-spends
returns-clause-spends c =
    let w = (goal.at.returns-clause-spends c).After-set in
    spends_write c.args.image.now (with_bytes_at c.args.image.now ((slice_index_or c.list.result.now c.args.k nowhere).at - 8) c.put_u16.new.bytes) (little_bytes 2 0) (head w)
    (omega (arith, two, room w)) (ap (λ (bs : List ℕ). record c.args.image.now { bytes = bs }) (written w))
