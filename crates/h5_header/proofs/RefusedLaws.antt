-- Where the reading of a header stops, a rule of the header is broken at the address that is named.
use Rattle.std.proofs.Common.{◌≡◌, ◌≢◌, ℕ, ◌+◌, ◌≤◌, inl, inr, List, length, refl, sym, subst, arith}
use Rattle.h5_bytes.specs.declared.Block.{Block}
use Rattle.h5_model.specs.Format.Reached.{Met}
use Rattle.h5_model.specs.declared.open_fault.Cause.{Cause}
use Rattle.h5_model.specs.declared.open_fault.Cause.TheVariants.{Truncated, HeaderVersion, MessageSize, SharedMessage, UnknownMessage, Filtered, ExternalFiles, NewStyleGroup, Overlap, NoMemory}
use Rattle.h5_header.specs.Heads.{HeadBreach}
use Rattle.h5_header.specs.Refused.{header_block, IsHeaderRefused}
use Rattle.h5_header.specs.Progress.{PrefixBreach, StopsAtBlock, Stops, without_memory, at_prefix, at_message, at_block}
use Rattle.h5_header.proofs.MetLaws.{stop_met}
use Rattle.h5_header.proofs.CrossLaws.{is_named, crosses}

head_refused : (image : List ℕ) (header at end : ℕ) (held : List Block) (cause : Cause) (address : ℕ) → address ≡ header → header + 16 ≤ length image → Met image header at end → at ≢ end
    → HeadBreach image at end cause → IsHeaderRefused image header held cause address
head_refused image header at end held MessageSize address e there met low breach = (e, there, (at, end, met, breach))
head_refused image header at end held SharedMessage address e there met low breach = (e, there, (at, record { end = end; met = met; inside = breach.0 }, breach.1))
head_refused image header at end held UnknownMessage address e there met low breach = (e, there, (at, record { end = end; met = met; inside = breach.0 }, breach.1))
head_refused image header at end held Filtered address e there met low breach = (e, there, (at, record { end = end; met = met; inside = breach.0 }, breach.1))
head_refused image header at end held ExternalFiles address e there met low breach = (e, there, (at, record { end = end; met = met; inside = breach.0 }, breach.1))
head_refused image header at end held NewStyleGroup address e there met low breach = (e, there, (at, record { end = end; met = met; inside = breach.0 }, breach.1))
head_refused image header at end held _ address e there met low breach = absurd breach

prefix_refused : (image : List ℕ) (header : ℕ) (held : List Block) (cause : Cause) (address : ℕ) → PrefixBreach image header held cause address
    → IsHeaderRefused image header held cause address
prefix_refused image header held Truncated address breach = (header_block image header, inl refl, breach.0, breach.1)
prefix_refused image header held HeaderVersion address breach = breach
prefix_refused image header held Overlap address breach = inl breach
prefix_refused image header held NoMemory address breach = tt
prefix_refused image header held _ address breach = absurd breach

block_refused : (image : List ℕ) (header : ℕ) (held : List Block) (cause : Cause) (address : ℕ) → StopsAtBlock image header held cause address
    → IsHeaderRefused image header held cause address
block_refused image header held Truncated address s =
    (s.here, inr (is_named image header held s.messages s.done s.here s.waiting s.partly s.begun s.held' s.claimed s.separate), s.breach.0, s.breach.1)
block_refused image header held Overlap address s =
    let c = crosses image header held s.messages s.done s.here s.waiting s.partly s.begun s.held' s.claimed s.separate s.breach.1 in
    inr (c.0, s.here, c.1, s.breach.0, c.2, c.3)
block_refused image header held NoMemory address s = tt
block_refused image header held _ address s = absurd s.breach

pub stops_refused : (image : List ℕ) (header : ℕ) (held : List Block) (cause : Cause) (address : ℕ) → Stops image header held cause address
    → IsHeaderRefused image header held cause address
stops_refused image header held cause address (without_memory none) = subst (λ c. IsHeaderRefused image header held c address) (sym none) tt
stops_refused image header held cause address (at_prefix breach) = prefix_refused image header held cause address breach
stops_refused image header held cause address (at_message e s) =
    let met = stop_met image header s.parts s.here s.waiting (s.stops).before (s.stops).to s.filled (s.stops).filled in
    head_refused image header (s.here.at + (s.stops).to) (s.here.at + s.here.len) held cause address e s.prefix met (omega (arith, (s.stops).below)) (s.stops).breach
stops_refused image header held cause address (at_block s) = block_refused image header held cause address s
