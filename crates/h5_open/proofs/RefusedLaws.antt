-- Why opening is refused, by what its parts say.
use Rattle.std.proofs.Common.{◌≡◌, ◌≢◌, ℕ, List, refl}
use Rattle.h5_bytes.specs.declared.Block.{Block}
use Rattle.h5_model.specs.Format.Reached.{Named}
use Rattle.h5_model.specs.declared.open_fault.Cause.{Cause}
use Rattle.h5_model.specs.declared.open_fault.Cause.TheVariants.{NoMemory}
use Rattle.h5_laws.proofs.Excluded.{reached_excluded}
use Rattle.h5_header.specs.Refused.{IsHeaderRefused}
use Rattle.h5_header.specs.Walk.Walked.{Breaches}
use Rattle.h5_header.specs.Walk.Met.{IsHeaderMet}
use Rattle.h5_header.proofs.WalkLaws.HeaderLaws.{header_refused}
use Rattle.h5_header.proofs.WalkLaws.MetHeader.{header_others}
use Rattle.h5_open.specs.Opened.Refused.{IsOpenRefusedAt, ReadsSome}

pub as_refused : (image : List ℕ) (cause : Cause) (address : ℕ) → (cause ≢ NoMemory → Breaches image cause address) → IsOpenRefusedAt image cause address
as_refused image NoMemory address h = tt
as_refused image _ address h = h (λ e. cc)

-- a breach is of bytes that read as no tree, so an image that reads is refused for want of memory alone
memory_alone : (image : List ℕ) (cause c : Cause) (address : ℕ) → cause ≡ c → IsOpenRefusedAt image c address → ReadsSome image → c ≡ NoMemory
memory_alone image cause NoMemory address e h r = refl
memory_alone image cause _ address e h (table, tree, (placed, reads)) = absurd (reached_excluded image table tree placed reads h.0 h.1 cause (rw e h.3))

pub only_memory : (image : List ℕ) (cause : Cause) (address : ℕ) → IsOpenRefusedAt image cause address → ReadsSome image → cause ≡ NoMemory
only_memory image cause address h r = memory_alone image cause cause address refl h r

-- ---- headers that are met

pub met_refused : (image : List ℕ) (held : List Block) (followed : List Named) (field header depth : ℕ) → IsHeaderMet image held followed field header depth
    → (cause : Cause) (address : ℕ) → IsHeaderRefused image header held cause address → IsOpenRefusedAt image cause address
met_refused image held followed field header depth is cause address refused = as_refused image cause address
    (header_refused image held followed is.walked field header depth (is.met).reached (header_others field header depth followed (is.met).fresh is.alone) (is.met).behind (is.met).stands cause address refused)
