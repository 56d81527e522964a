use Rattle.std.proofs.Common.{◌≡◌, ◌+◌, ◌∷◌, [], length, ℕ, List, refl, ap, ◌∙◌, arith}
use Rattle.h5_bytes.specs.declared.Block.{Block}
use Rattle.h5_bytes.specs.Bytes.{little_bytes, part, with_field, with_part}
use Rattle.h5_bytes.proofs.PartLaws.{with_part-with_part}
use Rattle.h5_model.specs.Format.Superblock.{end_field}
use Rattle.h5_space.specs.Space.{Space}
use Rattle.h5_space.proofs.MovesLaws.{moves_none}
use Rattle.h5_open.proofs.AttributeEdits.{end_is, end_k, end_length, end_moves}
use Rattle.h5_open.proofs.opened.end.write_end.Goals as goal
use Rattle.h5_open.proofs.opened.end.write_end.Goals.{After-put_u64}

abbrev now : (c : After-put_u64) → Space
now c = record c.args.image.now { bytes = with_part c.end_field-field.result.at c.put_u64.new.bytes c.args.image.now.bytes }

-- the field that was lent has the end of the image
written : (c : After-put_u64) → with_part c.end_field-field.result.at c.put_u64.new.bytes c.args.image.now.bytes
    ≡ with_field c.args.image.now.bytes (end_field c.args.image.now.bytes).at 8 (length c.args.image.now.bytes)
written c =
    let bytes = c.args.image.now.bytes in
    let place = (end_field bytes).at in
    let field : c.end_field-field.result ≡ end_field bytes = rw c.bytes-then-end_of_file-end.ensures at c.end_field-field.ensures.exact in
    let end : List ℕ = little_bytes 8 (length bytes) in
    let eight : length end ≡ 8 = refl in
    let none : place + 0 ≡ place = omega arith in
    let this : c.put_u64.new.bytes ≡ with_field (part place 8 bytes) 0 8 (length bytes) = rw (c.part_at_mut.ensures.value, c.bytes.ensures, field) at c.put_u64.ensures in
    let whole : with_part place (with_part 0 end (part place 8 bytes)) bytes ≡ with_part place end bytes
    = rw none at (with_part-with_part place 8 0 end bytes (omega (arith, c.requires.superblock)) (omega (arith, eight))) in
    ap (λ (b : Block). with_part b.at c.put_u64.new.bytes bytes) field ∙ ap (λ (bs : List ℕ). with_part place bs bytes) this ∙ whole

pub returns-then-end_of_file-end-clause-end : goal.returns-then-end_of_file-end-clause-end
returns-then-end_of_file-end-clause-end c =
    let w = (goal.at.returns-then-end_of_file-end-clause-end c).After-put_u64 in
    end_is c.args.image.now (now w) c.requires.superblock (written w) c.requires.small

pub returns-then-end_of_file-end-clause-length : goal.returns-then-end_of_file-end-clause-length
returns-then-end_of_file-end-clause-length c =
    let w = (goal.at.returns-then-end_of_file-end-clause-length c).After-put_u64 in
    end_length c.args.image.now (now w) c.requires.superblock (written w)

pub returns-then-end_of_file-end-clause-moves : goal.returns-then-end_of_file-end-clause-moves
returns-then-end_of_file-end-clause-moves c =
    let w = (goal.at.returns-then-end_of_file-end-clause-moves c).After-put_u64 in
    end_moves c.args.image.now (now w) c.requires.superblock (written w) refl

pub returns-else-end_of_file-end-clause-moves : goal.returns-else-end_of_file-end-clause-moves
returns-else-end_of_file-end-clause-moves c = moves_none c.args.image.now (end_field c.args.image.now.bytes ∷ [])

pub returns-then-end_of_file-end-clause-k : goal.returns-then-end_of_file-end-clause-k
returns-then-end_of_file-end-clause-k c =
    let w = (goal.at.returns-then-end_of_file-end-clause-k c).After-put_u64 in
    end_k c.args.image.now (now w) c.requires.superblock (written w)
