use Rattle.std.proofs.Common.{◌≡◌, ℕ, subst}
use Rattle.std.proofs.lemmas.Result.{err_from_is_err_and}
use Rattle.h5_space.specs.Space.{Space}
use Rattle.h5_header.specs.Listed.{Listed}
use Rattle.h5_layout.specs.declared.lacking.Missing.{Missing}
use Rattle.h5_layout.specs.ArrayEdits.{described_in}
use Rattle.h5_layout.specs.Storage.{IsDeepFor}
use Rattle.h5_open.proofs.opened.storage.make_all_or_none.Goals as goal

-- a copy has the bytes of the image
deep_in : (image copy : Space) → copy ≡ record image { room_bytes = 0; room_blocks = 0 } → (m : Listed) (missing : Missing) (Deep : Type 0)
    → (Deep → (n : ℕ) × IsDeepFor copy.bytes (described_in copy.bytes m) missing n) → Deep → (n : ℕ) × IsDeepFor image.bytes (described_in image.bytes m) missing n
deep_in image copy is m missing Deep = subst (λ (s : Space). Deep → (n : ℕ) × IsDeepFor s.bytes (described_in s.bytes m) missing n) is

pub returns-in_err-at-clause-deep : goal.returns-in_err-at-clause-deep
returns-in_err-at-clause-deep c =
    let answered = err_from_is_err_and c.from_residual-in_err-at.result c.from_residual-in_err-at.ensures.1 in
    rw (answered.1, answered.2) (deep_in c.args.image.now c.in-Ok.copy c.in-Ok.ensures c.args.messages.now c.args.missing.now _ c.in_err-at.ensures.deep)
