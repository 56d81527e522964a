-- The first message of a type with another body: what the header says of others stays.
use Rattle.std.proofs.Common.{◌≡◌, ◌≢◌, ℕ, ◌+◌, ◌≤◌, Bool, true, false, cond, ◌==◌, eqb-true, if◌then◌else◌, List, [], ◌∷◌, ◌++◌, length, refl, sym, ◌∙◌, ap, arith, Some, None}
use Rattle.std.specs.Prelude.{option_map}
use Rattle.std.specs.List.{find, filter}
use Rattle.std.proofs.lemmas.Bool.Decides.{nat_tests}
use Rattle.std.proofs.lemmas.Option.{same_Some}
use Rattle.h5_bytes.specs.Bytes.{part, with_part}
use Rattle.h5_bytes.specs.Blocks.{holds, cover}
use Rattle.h5_model.specs.Format.MessageTypes.{continuation_kind}
use Rattle.h5_model.specs.Format.Messages.{Message, count_of, first_body, prefix_at}
use Rattle.h5_header.specs.Listed.{Listed, message_in, messages_in}
use Rattle.h5_header.specs.Standing.{IsStanding}
use Rattle.h5_header.specs.declared.message.Message.{Message as Placed}
use Rattle.h5_header.proofs.BodyWrites.{body_covered, prefix_stays, said, said_now, still_standing}

-- the same messages, but that the first of this type has another body
pub record HasNewBody (kind : ℕ) (ms ms' : List Message) (body : List ℕ) : Type 0 where
  pub before : List Message
  pub behind : List Message
  pub this : Message
  pub of : this.kind ≡ kind
  pub first : count_of kind before ≡ 0
  pub old : ms ≡ before ++ this ∷ behind
  pub new : ms' ≡ before ++ record this { body = body } ∷ behind

-- ---- what other messages say stays

module _ (m : Message) (body : List ℕ) (behind : List Message) where
  count_beside : (k : ℕ) (before : List Message) → count_of k (before ++ record m { body = body } ∷ behind) ≡ count_of k (before ++ m ∷ behind)
  count_beside k [] = refl
  count_beside k (x ∷ before) = ap (λ (n : ℕ). (if x.kind == k then 1 else 0) + n) (count_beside k before)

  filter_beside : (p : Message → Bool) (before : List Message) → p m ≡ false → p (record m { body = body }) ≡ false
      → filter p (before ++ record m { body = body } ∷ behind) ≡ filter p (before ++ m ∷ behind)
  filter_beside p [] one other = rw (one, other) refl
  filter_beside p (x ∷ before) one other = elim (p x) as (λ b. cond b (x ∷ filter p (before ++ record m { body = body } ∷ behind)) (filter p (before ++ record m { body = body } ∷ behind))
      ≡ cond b (x ∷ filter p (before ++ m ∷ behind)) (filter p (before ++ m ∷ behind))) [
        | true ↦ ap (λ (ms : List Message). x ∷ ms) (filter_beside p before one other)
        | false ↦ filter_beside p before one other
      ]

  first_beside : (k : ℕ) (before : List Message) → (m.kind == k) ≡ false → first_body k (before ++ record m { body = body } ∷ behind) ≡ first_body k (before ++ m ∷ behind)
  first_beside k [] other = rw other refl
  first_beside k (x ∷ before) other = elim (x.kind == k) as (λ b.
      option_map (λ (y : Message). y.body) (cond b (Some x) (find (λ (y : Message). y.kind == k) (before ++ record m { body = body } ∷ behind)))
      ≡ option_map (λ (y : Message). y.body) (cond b (Some x) (find (λ (y : Message). y.kind == k) (before ++ m ∷ behind)))) [
        | true ↦ refl
        | false ↦ first_beside k before other
      ]

first_there : (kind : ℕ) (before : List Message) (m : Message) (behind : List Message) → count_of kind before ≡ 0 → (m.kind == kind) ≡ true
    → first_body kind (before ++ m ∷ behind) ≡ Some m.body
first_there kind [] m behind none of = rw of refl
first_there kind (x ∷ before) m behind none of = elim (x.kind == kind) as (λ b. cond b 1 0 + count_of kind before ≡ 0
    → option_map (λ (y : Message). y.body) (cond b (Some x) (find (λ (y : Message). y.kind == kind) (before ++ m ∷ behind))) ≡ Some m.body) [
      | true ↦ λ some. absurd (omega (arith, some))
      | false ↦ λ rest. first_there kind before m behind (omega (arith, rest)) of
    ] none

module _ (kind : ℕ) (ms ms' : List Message) (body : List ℕ) (is : HasNewBody kind ms ms' body) where
  pub same_count : (k : ℕ) → count_of k ms' ≡ count_of k ms
  same_count k = ap (count_of k) is.new ∙ count_beside is.this body is.behind k is.before ∙ sym (ap (count_of k) is.old)

  -- of messages that are told by their types
  pub same_filter : (p : ℕ → Bool) → p kind ≡ false → filter (λ (m : Message). p m.kind) ms' ≡ filter (λ (m : Message). p m.kind) ms
  same_filter p other =
      let here : p (is.this).kind ≡ false = ap p is.of ∙ other in
      ap (filter (λ (m : Message). p m.kind)) is.new ∙ filter_beside is.this body is.behind (λ (m : Message). p m.kind) is.before here here
      ∙ sym (ap (filter (λ (m : Message). p m.kind)) is.old)

  pub same_first : (k : ℕ) → (kind == k) ≡ false → first_body k ms' ≡ first_body k ms
  same_first k other =
      ap (first_body k) is.new ∙ first_beside is.this body is.behind k is.before (ap (λ (n : ℕ). n == k) is.of ∙ other) ∙ sym (ap (first_body k) is.old)

  pub new_first : first_body kind ms' ≡ Some body
  new_first =
      let here : ((is.this).kind == kind) ≡ true = grind (arith, nat_tests, is.of) in
      ap (first_body kind) is.new ∙ first_there kind is.before (record is.this { body = body }) is.behind is.first here

-- ---- the message that is found

-- a list cut before and behind its first message of a type
pub record IsCutAt (kind : ℕ) (list : List Placed) (x : Placed) : Type 0 where
  pub before : List Placed
  pub behind : List Placed
  pub whole : list ≡ before ++ x ∷ behind
  pub of : x.kind ≡ kind
  pub first : (image : List ℕ) → count_of kind (messages_in image before) ≡ 0

pub cut_at : (kind : ℕ) (list : List Placed) (x : Placed) → find (λ (y : Placed). y.kind == kind) list ≡ Some x → IsCutAt kind list x
cut_at kind [] x found = absurd (let never : None ≡ Some x = found in cc)
cut_at kind (y ∷ list) x found = elim (y.kind == kind) as (λ b. (y.kind == kind) ≡ b → cond b (Some y) (find (λ (z : Placed). z.kind == kind) list) ≡ Some x → IsCutAt kind (y ∷ list) x) [
  | true ↦ λ of here.
      let same : y ≡ x = same_Some y x here in
      record {
        before = [];
        behind = list;
        whole = ap (λ (z : Placed). z ∷ list) same;
        of = ap (λ (z : Placed). z.kind) (sym same) ∙ eqb-true y.kind kind of;
        first = λ image. refl;
      }
  | false ↦ λ other there.
      let rest = cut_at kind list x there in
      record {
        before = y ∷ rest.before;
        behind = rest.behind;
        whole = ap (λ (zs : List Placed). y ∷ zs) rest.whole;
        of = rest.of;
        first = λ image. rw other (omega (arith, rest.first image));
      }
] refl found

-- bytes were written in the body of a message: the header stands still, and its messages are the same but for that body
pub record IsBodyWritten (old new : List ℕ) (m : Listed) (kind : ℕ) (x : Placed) : Type 0 where
  pub standing : IsStanding new m
  pub prefix : prefix_at new m.header ≡ prefix_at old m.header
  pub messages : HasNewBody kind (messages_in old m.list) (messages_in new m.list) (part x.at x.size new)

module _ (old : List ℕ) (m : Listed) (is : IsStanding old m) (kind : ℕ) (own : kind ≢ continuation_kind) (x : Placed) (found : find (λ (y : Placed). y.kind == kind) m.list ≡ Some x)
    (w : List ℕ) (at : ℕ) (low : x.at ≤ at) (high : at + length w ≤ x.at + x.size) where
  cut : IsCutAt kind m.list x
  cut = cut_at kind m.list x found

  not_continued : x.kind ≢ continuation_kind
  not_continued is_16 = own (sym cut.of ∙ is_16)

  pub body_written : IsBodyWritten old (with_part at w old) m kind x
  body_written = record {
    standing = still_standing old m is cut.before x cut.behind cut.whole not_continued w at low high;
    prefix = prefix_stays old m is cut.before x cut.behind cut.whole not_continued w at low high;
    messages = record {
      before = messages_in old cut.before;
      behind = messages_in old cut.behind;
      this = message_in old x;
      of = cut.of;
      first = cut.first old;
      old = said old m is cut.before x cut.behind cut.whole;
      new = said_now old m is cut.before x cut.behind cut.whole not_continued w at low high;
    };
  }

  -- what is written stands in the header's blocks
  pub written_covered : (p : ℕ) → holds p at (length w) ≤ cover p m.blocks
  written_covered = body_covered old m is cut.before x cut.behind cut.whole not_continued w at low high
