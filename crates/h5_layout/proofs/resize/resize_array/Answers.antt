use Rattle.std.proofs.Common.{List, ℕ, Option, Bor, sym, subst}
use Rattle.std.specs.Option.{option_copied}
use Rattle.h5_space.specs.Space.{Space}
use Rattle.h5_header.specs.Listed.{Listed}
use Rattle.h5_layout.specs.ArrayEdits.{described_in}
use Rattle.h5_model.specs.Format.Described.{Described}
use Rattle.h5_layout.specs.Kept.{smaller_sizes}
use Rattle.h5_layout.specs.Resized.{IsLookedAt}
use Rattle.h5_layout.specs.Trimmed.{IsTrimmedTo}
use Rattle.h5_layout.specs.declared.trimmed.Outside.{Outside}
use Rattle.h5_layout.proofs.ResizedArray.{array_resized}
use Rattle.h5_layout.proofs.TrimmedArray.{trimmed_already}
use Rattle.h5_layout.proofs.resize.resize_array.Goals as goal
use Rattle.h5_layout.proofs.resize.resize_array.Goals.{in-Some, in_default}

pub returns-clause-resized : goal.returns-clause-resized
returns-clause-resized c =
    let old : Space = c.args.image.now in
    let mid : Space = c.match-outside.image in
    let m : Listed = c.args.messages.now in
    let sizes : List ℕ = c.args.sizes.now in
    let a : Described = described_in old.bytes m in
    let both : List ℕ = smaller_sizes a.sizes sizes in
    let done : IsTrimmedTo old mid m both = elim c.match-outside.branch [
      | in-Some w ↦ subst (λ (s : Space). IsTrimmedTo old s m both) (sym w.image-is) w.trim_to_smaller.ensures.trimmed
      | in_default w ↦ subst (λ (s : Space). IsTrimmedTo old s m both) (sym w.image-is)
          (trimmed_already old m both c.requires.array (subst (λ (o : Option (Bor Outside)). IsLookedAt old.bytes a sizes (option_copied o)) w.in_default.is c.requires.outside))
    ] in
    array_resized old mid m sizes c.requires.sizes done c.set_sizes.new.image c.set_sizes.new.messages c.set_sizes.ensures.sized
