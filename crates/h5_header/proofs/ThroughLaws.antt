-- What has been read of a header after one block more.
use Rattle.std.proofs.Common.{◌≡◌, ℕ, ◌+◌, ◌-◌, ◌<◌, ◌≤◌, List, [], ◌∷◌, ◌++◌, length, get_or, refl, sym, ◌∙◌, ap, ap₂, subst, arith, append_assoc, append-nil, length-append, lit≤}
use Rattle.std.proofs.lemmas.List.{map-append}
use Rattle.std.proofs.Math.Seq.{get_or-append_seam}
use Rattle.std.specs.List.{AllByRecursion, flat_map}
use Rattle.std.proofs.lemmas.List.Concat.{flat_map-append}
use Rattle.h5_bytes.specs.Bytes.{number_at, part}
use Rattle.h5_bytes.specs.Blocks.{holds, cover, Separate}
use Rattle.h5_bytes.specs.declared.Block.{Block}
use Rattle.h5_bytes.proofs.PartLaws.{length-part}
use Rattle.h5_bytes.proofs.BlockLaws.{all_append, cover-append}
use Rattle.h5_model.specs.Format.Messages.{Message, Fills, continuation, continuations, first_block}
use Rattle.h5_model.specs.declared.open_fault.Cause.{Cause}
use Rattle.h5_space.specs.Claimed.{ClaimBreach}
use Rattle.h5_header.specs.Listed.{message_in, messages_in, IsWithin}
use Rattle.h5_header.specs.Refused.{header_block}
use Rattle.h5_header.specs.Progress.{FillsTo, IsTaken, ReadTo, StopsIn, Partly, ReadThrough, StopsAtMessage, StopsAtBlock}
use Rattle.h5_header.specs.declared.message.Message.{Message as Placed}
use Rattle.h5_header.proofs.FillLaws.{fills_whole, filled_more}
use Rattle.h5_space.proofs.Unheld.{unheld, unheld-claim}

-- the block whose turn it is
turn : (done waiting : List Block) (blocks : List Block) (next : ℕ) (b : Block) → blocks ≡ done ++ waiting → next ≡ length done → next < length blocks
    → b ≡ get_or blocks next b → (rest : List Block) × (waiting ≡ b ∷ rest)
turn done [] blocks next b split count more is = absurd (omega (arith, ap length split, length-append done []))
turn done (x ∷ rest) blocks next b split count more is =
    (rest, ap (λ (y : Block). y ∷ rest) (sym (is ∙ ap₂ (λ (bs : List Block) (k : ℕ). get_or bs k b) split count ∙ get_or-append_seam done x rest b)))

flat_map-one : (parts : List (List Message)) (ms : List Message) → flat_map (λ (x : List Message). x) (parts ++ ms ∷ []) ≡ flat_map (λ (x : List Message). x) parts ++ ms
flat_map-one parts ms = flat_map-append (λ (x : List Message). x) parts (ms ∷ []) ∙ ap (λ xs. flat_map (λ (x : List Message). x) parts ++ xs) (append-nil ms)

-- a part of a header more
part_more : (image : List ℕ) (header : ℕ) (messages : List Message) (done : List Block) (b : Block) (rest : List Block) (ms : List Message)
    → Partly image header messages done (b ∷ rest) → Fills b.at (part b.at b.len image) 0 ms → AllByRecursion IsTaken ms
    → Partly image header (messages ++ ms) (done ++ b ∷ []) (rest ++ continuations ms)
part_more image header messages done b rest ms partly fills taken = record {
  parts = partly.parts ++ ms ∷ [];
  filled = filled_more image (first_block image header ∷ []) partly.parts b rest ms partly.filled fills;
  all = ap (λ xs. xs ++ ms) partly.all ∙ sym (flat_map-one partly.parts ms);
  laid =
      let left : (done ++ b ∷ []) ++ (rest ++ continuations ms) ≡ (done ++ b ∷ rest) ++ continuations ms = simp append_assoc in
      left ∙ ap (λ bs. bs ++ continuations ms) partly.laid ∙ ap (λ bs. header_block image header ∷ bs) (sym (flat_map-append continuation messages ms));
  taken = all_append IsTaken messages ms partly.taken taken;
}

-- a whole block that was read fills it
whole_fills : (image : List ℕ) (b : Block) (list list' : List Placed) (blocks blocks' : List Block) → b.at + b.len ≤ length image
    → (read : ReadTo image b list list' blocks blocks' b.len) → Fills b.at (part b.at b.len image) 0 (messages_in image read.more)
whole_fills image b list list' blocks blocks' inside read =
    fills_whole b.at (part b.at b.len image) 0 (messages_in image read.more) b.len read.filled (sym (length-part b.at b.len image inside))

one_block : (m : Message) → length (continuation m) ≤ 1
one_block m = grind arith

-- a message names one block at most, and takes more than one byte
few_continuations : (block_at : ℕ) (bytes : List ℕ) (from : ℕ) (ms : List Message) (to : ℕ) → FillsTo block_at bytes from ms to
    → length (continuations ms) + from ≤ to
few_continuations block_at bytes from [] to fills = omega (arith, fills)
few_continuations block_at bytes from (m ∷ ms) to fills =
    let rest = few_continuations block_at bytes (from + 8 + number_at bytes (from + 2) 2) ms to fills.1 in
    omega (arith, rest, length-append (continuation m) (continuations ms), one_block m)

-- the first block of messages was read
pub first_through : (image : List ℕ) (header : ℕ) (held held' : List Block) (list : List Placed) (blocks : List Block) (whole behind : Block)
    → whole ≡ header_block image header → behind ≡ first_block image header → whole.at + whole.len ≤ length image
    → ((p : ℕ) → cover p held' ≡ cover p held + holds p whole.at whole.len)
    → ReadTo image behind [] list (whole ∷ []) blocks behind.len → ReadThrough image header held held' list blocks 1
first_through image header held held' list blocks whole behind whole_is behind_is inside covered read =
    let ms = messages_in image read.more in
    let room : behind.at + behind.len ≤ length image = omega (arith, ap (λ (b : Block). b.at) behind_is, ap (λ (b : Block). b.len) behind_is, ap (λ (b : Block). b.at) whole_is, ap (λ (b : Block). b.len) whole_is) in
    let fills = whole_fills image behind [] list (whole ∷ []) blocks room read in
    record {
      done = whole ∷ [];
      waiting = continuations ms;
      split = read.named;
      count = refl;
      begun = lit≤ tt;
      partly = record {
        parts = ms ∷ [];
        filled = (subst (λ (b : Block). Fills b.at (part b.at b.len image) 0 ms) behind_is fills, refl);
        all = ap (messages_in image) read.listed ∙ sym (append-nil ms);
        laid = ap₂ (λ (b : Block) (xs : List Message). b ∷ continuations xs) whole_is (ap (messages_in image) (sym read.listed));
        taken = subst (AllByRecursion IsTaken) (ap (messages_in image) (sym read.listed)) read.taken;
      };
      claimed = record {
        inside = (inside, tt);
        covered = λ p. omega (arith, covered p);
      };
      within = subst (λ (xs : List Placed). IsWithin (length image) xs) (sym read.listed) read.within;
    }

-- a message of the first block breaks a rule
pub first_stops : (image : List ℕ) (header : ℕ) (cause : Cause) (whole : Block) → whole ≡ header_block image header → whole.at + whole.len ≤ length image
    → (behind : Block) → behind ≡ first_block image header → StopsIn image behind cause → StopsAtMessage image header cause
first_stops image header cause whole whole_is inside behind behind_is stops = record {
  prefix = omega (arith, ap (λ (b : Block). b.at) whole_is, ap (λ (b : Block). b.len) whole_is);
  parts = [];
  here = behind;
  waiting = [];
  filled = ap (λ (b : Block). b ∷ []) (sym behind_is);
  inside = omega (arith, ap (λ (b : Block). b.at) behind_is, ap (λ (b : Block). b.len) behind_is, ap (λ (b : Block). b.at) whole_is, ap (λ (b : Block). b.len) whole_is);
  stops = stops;
}

module _ (image : List ℕ) (header : ℕ) (held held' : List Block) (list : List Placed) (blocks : List Block) (next : ℕ) (b : Block)
    (through : ReadThrough image header held held' list blocks next) (more : next < length blocks) (is : b ≡ get_or blocks next b) where
  rest_is : (rest : List Block) × (through.waiting ≡ b ∷ rest)
  rest_is = turn through.done through.waiting blocks next b through.split through.count more is

  here : Partly image header (messages_in image list) through.done (b ∷ rest_is.0)
  here = subst (Partly image header (messages_in image list) through.done) rest_is.1 through.partly

  -- it cannot be claimed
  pub stops_at_block : (cause : Cause) (address : ℕ) → Separate held' → ClaimBreach (length image) held' b cause address
      → StopsAtBlock image header held cause address
  stops_at_block cause address separate breach = record {
    messages = messages_in image list;
    done = through.done;
    here = b;
    waiting = rest_is.0;
    begun = through.begun;
    partly = here;
    held' = held';
    claimed = through.claimed;
    separate = separate;
    breach = breach;
  }

  module _ (held'' : List Block) (inside : b.at + b.len ≤ length image) (covered : (p : ℕ) → cover p held'' ≡ cover p held' + holds p b.at b.len)
      (list' : List Placed) (blocks' : List Block) (read : ReadTo image b list list' blocks blocks' b.len) where
    pub next_through : ReadThrough image header held held'' list' blocks' (next + 1)
    next_through =
        let ms = messages_in image read.more in
        let list_is : messages_in image list' ≡ messages_in image list ++ ms = ap (messages_in image) read.listed ∙ map-append (message_in image) list read.more in
        let fills = whole_fills image b list list' blocks blocks' inside read in
        record {
          done = through.done ++ b ∷ [];
          waiting = rest_is.0 ++ continuations ms;
          split = read.named ∙ ap (λ bs. bs ++ continuations ms) (through.split ∙ ap (λ bs. through.done ++ bs) rest_is.1)
              ∙ simp append_assoc;
          count = omega (arith, through.count, length-append through.done (b ∷ []));
          begun = omega (arith, through.begun, length-append through.done (b ∷ []));
          partly = subst (λ (xs : List Message). Partly image header xs (through.done ++ b ∷ []) (rest_is.0 ++ continuations ms)) (sym list_is)
              (part_more image header (messages_in image list) through.done b rest_is.0 ms here fills read.taken);
          claimed = record {
            inside = all_append (λ (x : Block). x.at + x.len ≤ length image) through.done (b ∷ []) through.claimed.inside (inside, tt);
            covered = λ p. omega (arith, covered p, through.claimed.covered p, cover-append p through.done (b ∷ []));
          };
          within = subst (λ (xs : List Placed). IsWithin (length image) xs) (sym read.listed)
              (all_append (λ (x : Placed). x.at + x.size ≤ length image) list read.more through.within read.within);
        }

    -- fewer bytes are free, or fewer blocks wait
    pub next_smaller : Separate held'' → unheld held'' (length image) + (length blocks' - (next + 1)) < unheld held' (length image) + (length blocks - next)
    next_smaller separate =
        let ms = messages_in image read.more in
        let few = few_continuations b.at (part b.at b.len image) 0 ms b.len read.filled in
        let fewer = unheld-claim held' held'' b.at b.len (length image) covered separate inside in
        let long : length blocks' ≡ length blocks + length (continuations ms) = ap length read.named ∙ length-append blocks (continuations ms) in
        omega arith
