use Rattle.std.proofs.Common.{sym}
use Rattle.std.proofs.lemmas.Bool.Decides.{Decides-eqb}
use Rattle.std.proofs.lemmas.Slice.Eq.{slice_eq-Decides}
use Rattle.h5_bytes.specs.Bytes.{part}
use Rattle.h5_bytes.proofs.texts.begins_with.Goals as goal

pub returns : goal.returns
unfolding part
returns c =
    let same = slice_eq-Decides Decides-eqb _ _ _ c.starts_with.ensures.value in
    (λ yes. sym (same.0 yes), λ signed. same.1 (sym signed))
