-- A header that has messages, in blocks that can be claimed, is refused for want of memory alone.
use Rattle.std.proofs.Common.{◌≡◌, ℕ, ◌+◌, ◌≤◌, inl, inr, List, [], ◌∷◌, ◌++◌, length, refl, sym, ◌∙◌, ap, subst, arith, IsTrue, append-nil, Option, Some, None}
use Rattle.std.specs.Prelude.{◌==◌, not, IsSome, true, false}
use Rattle.std.specs.List.{AllByRecursion, flat_map}
use Rattle.std.proofs.lemmas.List.Concat.{flat_map-append}
use Rattle.std.proofs.lemmas.Bool.Decides.{nat_tests}
use Rattle.h5_bytes.specs.Bytes.{byte_at, part}
use Rattle.h5_bytes.specs.Blocks.{holds, cover, Inside}
use Rattle.h5_bytes.specs.declared.Block.{Block}
use Rattle.h5_bytes.proofs.PartLaws.{length-part}
use Rattle.h5_bytes.proofs.BlockLaws.{cover-append, all_left, all_right}
use Rattle.h5_model.specs.Format.MessageTypes.{continuation_kind, external_files_kind, filter_pipeline_kind}
use Rattle.h5_model.specs.Format.Messages.{Message, IsMessage, IsContinued, FillBlocks, continuation, continuations, first_block}
use Rattle.h5_model.specs.Format.Reached.{Met, kind_at, size_at}
use Rattle.h5_model.specs.Format.Addresses.{continuation_of}
use Rattle.h5_model.specs.Faults.HeaderFaults.{is_known, is_new_style}
use Rattle.h5_model.specs.declared.open_fault.Cause.{Cause}
use Rattle.h5_model.specs.declared.open_fault.Cause.TheVariants.{Truncated, HeaderVersion, MessageSize, SharedMessage, UnknownMessage, Filtered, ExternalFiles, NewStyleGroup, Overlap, NoMemory}
use Rattle.h5_model.proofs.BodyLaws.{byte_at-part, long_body}
use Rattle.h5_header.specs.Heads.{HeadBreach, is_read}
use Rattle.h5_header.specs.Refused.{header_block, IsHeaderReadable}
use Rattle.h5_header.specs.Progress.{FilledTo, IsTaken, PrefixBreach, StopsAtMessage, StopsAtBlock, Stops, without_memory, at_prefix, at_message, at_block}
use Rattle.h5_header.proofs.SameLaws.{parts_go_on, message_goes_on}
use Rattle.h5_header.proofs.MetLaws.{length-part-le, kind, size, fits, body, inside, stop_met}

-- a type that is read is refused by no name
read_known : (kind : ℕ) → IsTrue (is_read kind) → IsTrue (not (is_known kind)) → ⊥
read_known kind read bad = grind (arith, nat_tests)

read_filtered : (kind : ℕ) → IsTrue (is_read kind) → IsTrue (kind == filter_pipeline_kind) → ⊥
read_filtered kind read bad = grind (arith, nat_tests)

read_inside : (kind : ℕ) → IsTrue (is_read kind) → IsTrue (kind == external_files_kind) → ⊥
read_inside kind read bad = grind (arith, nat_tests)

read_old : (kind : ℕ) → IsTrue (is_read kind) → IsTrue (is_new_style kind) → ⊥
read_old kind read bad = grind (arith, nat_tests)

some_long : (body : List ℕ) → IsSome (continuation_of body) → 16 ≤ length body
some_long body some = go (continuation_of body) refl some where
  go : (o : Option Block) → continuation_of body ≡ o → IsSome o → 16 ≤ length body
  go None is none = absurd (let no : false ≡ true = none in cc)
  go (Some b) is tt' = (long_body body b is).0

all_taken : (ms : List Message) → AllByRecursion IsContinued ms → AllByRecursion (λ m. IsTrue (is_read m.kind)) ms → AllByRecursion IsTaken ms
all_taken [] continued read = tt
all_taken (m ∷ ms) continued read = (record { continued = continued.0; read = read.0 }, all_taken ms continued.1 read.1)

-- a message of the definition breaks no rule of its head
module _ (image : List ℕ) (header : ℕ) (b : Block) (to : ℕ) (m : Message) (is : IsMessage b.at (part b.at b.len image) to m)
    (met : Met image header (b.at + to) (b.at + b.len)) (taken : IsTaken m) where
  kind_is : m.kind ≡ kind_at image (b.at + to)
  kind_is = kind image header b to m is met

  read_here : IsTrue (is_read (kind_at image (b.at + to)))
  read_here = rw (← kind_is) taken.read

  fits_here : b.at + to + 8 + size_at image (b.at + to) ≤ b.at + b.len
  fits_here = fits image header b to m is met

  long_here : kind_at image (b.at + to) ≡ continuation_kind → 16 ≤ size_at image (b.at + to)
  long_here is_16 =
      let long : 16 ≤ length m.body = some_long m.body (taken.continued (kind_is ∙ is_16)) in
      let len : length m.body ≤ size_at image (b.at + to) = rw (body image header b to m is met) (length-part-le (b.at + to + 8) (size_at image (b.at + to)) image) in
      omega (arith, long, len)

  head_sound : (cause : Cause) → HeadBreach image (b.at + to) (b.at + b.len) cause → ⊥
  head_sound MessageSize (low, inl short) = omega (arith, fits_here)
  head_sound MessageSize (low, inr (inl odd)) = odd (rw (size image header b to m is met) at is.padded)
  head_sound MessageSize (low, inr (inr (inl long))) = omega (arith, fits_here)
  head_sound MessageSize (low, inr (inr (inr few))) = omega (arith, long_here few.0, few.1)
  head_sound SharedMessage breach =
      let whole = inside image header b to m is met in
      let over : b.at + (to + 4) ≡ b.at + to + 4 = omega arith in
      let byte : byte_at (part b.at b.len image) (to + 4) ≡ byte_at image (b.at + to + 4) = byte_at-part (to + 4) b.at b.len image (omega (arith, whole)) ∙ ap (byte_at image) over in
      breach.1 (rw byte at is.own)
  head_sound UnknownMessage breach = read_known (kind_at image (b.at + to)) read_here breach.1
  head_sound Filtered breach = read_filtered (kind_at image (b.at + to)) read_here breach.1
  head_sound ExternalFiles breach = read_inside (kind_at image (b.at + to)) read_here breach.1
  head_sound NewStyleGroup breach = read_old (kind_at image (b.at + to)) read_here breach.1
  head_sound _ breach = breach

module _ (image : List ℕ) (header : ℕ) (held : List Block) (r : IsHeaderReadable image header held) where
  taken_all : AllByRecursion IsTaken r.messages
  taken_all = all_taken r.messages (r.has).continued r.read

  laid_inside : Inside (length image) (header_block image header ∷ continuations r.messages)
  laid_inside = subst (Inside (length image)) (r.has).laid r.inside

  laid_separate : (p : ℕ) → cover p held + cover p (header_block image header ∷ continuations r.messages) ≤ 1
  laid_separate p = subst (λ bs. cover p held + cover p bs ≤ 1) (r.has).laid (r.separate p)

  no_message : (cause : Cause) → StopsAtMessage image header cause → ⊥
  no_message cause s = go on.0 on.1 on.2 where
    on : (more : List (List Message)) × ((r.has).parts ≡ s.parts ++ more) × FillBlocks image (s.here ∷ s.waiting) more
    on = parts_go_on image (first_block image header ∷ []) s.parts (s.here ∷ s.waiting) (r.has).parts s.filled (r.has).filled

    go : (more : List (List Message)) → (r.has).parts ≡ s.parts ++ more → FillBlocks image (s.here ∷ s.waiting) more → ⊥
    go [] split fills = fills
    go (ms ∷ more) split fills =
        let front = flat_map (λ (x : List Message). x) s.parts in
        let back = flat_map (λ (x : List Message). x) more in
        let all : r.messages ≡ front ++ (ms ++ back)
        = (r.has).all ∙ ap (flat_map (λ (x : List Message). x)) split ∙ flat_map-append (λ (x : List Message). x) s.parts (ms ∷ more) in
        let taken = all_left IsTaken ms back (all_right IsTaken front (ms ++ back) (subst (AllByRecursion IsTaken) all taken_all)) in
        let long : length (part s.here.at s.here.len image) ≡ s.here.len = length-part s.here.at s.here.len image s.inside in
        let m = message_goes_on IsTaken s.here.at (part s.here.at s.here.len image) 0 (s.stops).before (s.stops).to ms (s.stops).filled fills.0 taken (omega (arith, long, (s.stops).below)) in
        let met = stop_met image header s.parts s.here s.waiting (s.stops).before (s.stops).to s.filled (s.stops).filled in
        head_sound image header s.here (s.stops).to m.0 m.1 met m.2 cause (s.stops).breach

  no_prefix : (cause : Cause) (address : ℕ) → PrefixBreach image header held cause address → cause ≡ NoMemory
  no_prefix Truncated address breach = absurd (omega (arith, breach.1, laid_inside.0))
  no_prefix HeaderVersion address breach = absurd (breach.2 (r.has).version)
  no_prefix Overlap address (e, (p, inside, taken)) = absurd (omega (arith, inside, taken, laid_separate p))
  no_prefix NoMemory address breach = refl
  no_prefix _ address breach = absurd breach

  module _ (address : ℕ) (cause : Cause) (s : StopsAtBlock image header held cause address) where
    go_on : (more : List (List Message)) × ((r.has).parts ≡ (s.partly).parts ++ more) × FillBlocks image (s.here ∷ s.waiting) more
    go_on = parts_go_on image (first_block image header ∷ []) (s.partly).parts (s.here ∷ s.waiting) (r.has).parts (s.partly).filled (r.has).filled

    later : List Message
    later = flat_map (λ (x : List Message). x) go_on.0

    blocks_are : header_block image header ∷ continuations r.messages ≡ (s.done ++ s.here ∷ s.waiting) ++ continuations later
    unfolding later
    blocks_are =
        let all : r.messages ≡ s.messages ++ later
        = (r.has).all ∙ ap (flat_map (λ (x : List Message). x)) go_on.1 ∙ flat_map-append (λ (x : List Message). x) (s.partly).parts go_on.0
        ∙ ap (λ xs. xs ++ later) (sym (s.partly).all) in
        ap (λ xs. header_block image header ∷ continuations xs) all
        ∙ ap (λ bs. header_block image header ∷ bs) (flat_map-append continuation s.messages later)
        ∙ ap (λ bs. bs ++ continuations later) (sym (s.partly).laid)

    here_inside : s.here.at + s.here.len ≤ length image
    here_inside =
        let all = subst (Inside (length image)) blocks_are laid_inside in
        let P = λ (x : Block). x.at + x.len ≤ length image in
        (all_right P s.done (s.here ∷ s.waiting) (all_left P (s.done ++ s.here ∷ s.waiting) (continuations later) all)).0

    here_separate : (p : ℕ) → cover p s.held' + holds p s.here.at s.here.len ≤ 1
    here_separate p =
        let all : cover p (header_block image header ∷ continuations r.messages) ≡ cover p (s.done ++ s.here ∷ s.waiting) + cover p (continuations later)
        = ap (cover p) blocks_are ∙ cover-append p (s.done ++ s.here ∷ s.waiting) (continuations later) in
        omega (arith, all, laid_separate p, (s.claimed).covered p, cover-append p s.done (s.here ∷ s.waiting))

  no_block : (cause : Cause) (address : ℕ) → StopsAtBlock image header held cause address → cause ≡ NoMemory
  no_block Truncated address s = absurd (omega (arith, s.breach.1, here_inside address Truncated s))
  no_block Overlap address s = absurd (omega (arith, (s.breach.1).1, (s.breach.1).2, here_separate address Overlap s (s.breach.1).0))
  no_block NoMemory address s = refl
  no_block _ address s = absurd s.breach

  pub stops_readable : (cause : Cause) (address : ℕ) → Stops image header held cause address → cause ≡ NoMemory
  stops_readable cause address (without_memory none) = none
  stops_readable cause address (at_prefix breach) = no_prefix cause address breach
  stops_readable cause address (at_message e s) = absurd (no_message cause s)
  stops_readable cause address (at_block s) = no_block cause address s

  -- messages that were read to the end are these
  pub same_messages : (messages : List Message) (parts : List (List Message)) → FilledTo image (first_block image header ∷ []) parts []
      → messages ≡ flat_map (λ (x : List Message). x) parts → messages ≡ r.messages
  same_messages messages parts filled all =
      let on = parts_go_on image (first_block image header ∷ []) parts [] (r.has).parts filled (r.has).filled in
      go on.0 on.1 on.2 where
        go : (more : List (List Message)) → (r.has).parts ≡ parts ++ more → FillBlocks image [] more → messages ≡ r.messages
        go [] split fills = all ∙ ap (flat_map (λ (x : List Message). x)) (sym (split ∙ append-nil parts)) ∙ sym (r.has).all
        go (ms ∷ more) split fills = absurd fills
