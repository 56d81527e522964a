use Rattle.std.proofs.Common.{◌≡◌, ap, ◌∙◌, take}
use Rattle.h5_model.specs.Faults.Breaches.{up_to_end}
use Rattle.h5_file.proofs.Opens.{cut_superblock, cut_ends}
use Rattle.h5_file.proofs.file.open_front.Goals as goal

pub open-requires-clause-superblock : goal.open-requires-clause-superblock
open-requires-clause-superblock c =
    let front : c.in-Ok.front.items ≡ up_to_end c.args.bytes.items = c.in-Ok.ensures.items ∙ ap (take c.args.end) c.deref.ensures.value ∙ ap (λ n. take n c.args.bytes.items) c.requires.end in
    rw (c.new.ensures, front) (cut_superblock c.args.bytes.items c.requires.superblock)

pub open-requires-clause-whole : goal.open-requires-clause-whole
open-requires-clause-whole c =
    let front : c.in-Ok.front.items ≡ up_to_end c.args.bytes.items = c.in-Ok.ensures.items ∙ ap (take c.args.end) c.deref.ensures.value ∙ ap (λ n. take n c.args.bytes.items) c.requires.end in
    rw (c.new.ensures, front) (cut_ends c.args.bytes.items c.requires.superblock)

pub returns-in-Err-clause-only : goal.returns-in-Err-clause-only
returns-in-Err-clause-only c =
    let front : c.in-Ok.front.items ≡ up_to_end c.args.bytes.items = c.in-Ok.ensures.items ∙ ap (take c.args.end) c.deref.ensures.value ∙ ap (λ n. take n c.args.bytes.items) c.requires.end in
    λ carried. c.in-Err.ensures.only (rw (c.new.ensures, front) carried)
