use Rattle.std.proofs.Common.{◌≡◌, ℕ, ◌+◌, ◌≤◌, List, length, refl, ◌∙◌, ap, arith}
use Rattle.h5_bytes.specs.Bytes.{part, with_part, with_field, little_bytes}
use Rattle.h5_bytes.specs.Blocks.{block}
use Rattle.h5_bytes.proofs.PartLaws.{length-with_part, with_part-with_part}
use Rattle.h5_bytes.proofs.FieldLaws.{number_at-with_field}
use Rattle.h5_model.specs.Format.Messages.{prefix_at, continuations, first_size}
use Rattle.h5_space.specs.Lending.{with_bytes_at}
use Rattle.h5_header.specs.Listed.{messages_in}
use Rattle.h5_header.proofs.PrefixLaws.{reference_count-is}
use Rattle.h5_header.proofs.BesideLaws.{moves_within}
use Rattle.h5_header.proofs.CountWrites.{count_standing, messages_stay, header_inside}
use Rattle.h5_header.proofs.header.Messages.set_links.Goals as goal
use Rattle.h5_header.proofs.header.Messages.set_links.Goals.{After-put_u32}

abbrev coded : (c : After-put_u32) → List ℕ
coded c = little_bytes 4 c.args.links

abbrev wrote : (c : After-put_u32) → List ℕ
wrote c = with_part (c.args.self.now.header + 4) (coded c) c.args.image.now.bytes

inside : (c : After-put_u32) → c.args.self.now.header + 16 + first_size (prefix_at c.args.image.now.bytes c.args.self.now.header) ≤ length c.args.image.now.bytes
inside c = header_inside c.args.image.now.bytes c.args.self.now c.requires.standing

four : (c : After-put_u32) → length (coded c) ≡ 4
four c = refl

written : (c : After-put_u32) → with_part c.header.result c.put_u32.new.bytes c.args.image.now.bytes ≡ wrote c
written c =
    let bytes = c.args.image.now.bytes in
    let this : c.put_u32.new.bytes ≡ with_field (part c.header.result 16 bytes) 4 4 c.args.links = rw c.part_at_mut.ensures.value at c.put_u32.ensures in
    ap (λ (bs : List ℕ). with_part c.header.result bs bytes) this
    ∙ with_part-with_part c.header.result 16 4 (coded c) bytes (omega (arith, inside c, c.header.ensures)) (omega (arith, four c))
    ∙ ap (λ (h : ℕ). with_part (h + 4) (coded c) bytes) c.header.ensures

pub returns-clause-standing : goal.returns-clause-standing
returns-clause-standing c =
    let w = (goal.at.returns-clause-standing c).After-put_u32 in
    rw (written w) (count_standing c.args.image.now.bytes c.args.self.now c.requires.standing (coded w) (four w))

pub returns-clause-messages : goal.returns-clause-messages
returns-clause-messages c =
    let w = (goal.at.returns-clause-messages c).After-put_u32 in
    rw (written w) (messages_stay c.args.image.now.bytes c.args.self.now c.requires.standing (coded w) (c.args.self.now.header + 4) (omega arith) (omega (arith, four w)))

pub returns-clause-count : goal.returns-clause-count
returns-clause-count c =
    let w = (goal.at.returns-clause-count c).After-put_u32 in
    let at = c.args.self.now.header + 4 in
    rw (written w) (reference_count-is (wrote w) c.args.self.now.header
    ∙ number_at-with_field c.args.image.now.bytes at 4 c.args.links (omega (arith, inside w)) (omega (arith, c.ranges.links.fits)))

pub returns-clause-moves : goal.returns-clause-moves
returns-clause-moves c =
    let w = (goal.at.returns-clause-moves c).After-put_u32 in
    let first = first_size (prefix_at c.args.image.now.bytes c.args.self.now.header) in
    rw ((c.requires.standing).has).laid
    (moves_within c.args.image.now (with_bytes_at c.args.image.now c.header.result c.put_u32.new.bytes) (coded w) (c.args.self.now.header + 4)
    (block c.args.self.now.header (16 + first)) (continuations (messages_in c.args.image.now.bytes c.args.self.now.list))
    (omega arith) (omega (arith, four w)) (omega (arith, inside w)) (written w) refl)

pub returns-clause-length : goal.returns-clause-length
returns-clause-length c =
    let w = (goal.at.returns-clause-length c).After-put_u32 in
    rw (written w) (length-with_part (c.args.self.now.header + 4) (coded w) c.args.image.now.bytes (omega (arith, inside w, four w)))
