-- A header with a block more: one of its messages has become the Continuation that names it, and the prefix has the new total.
use Rattle.std.proofs.Common.{◌≡◌, ℕ, ◌+◌, ◌-◌, ◌≤◌, List, [], ◌∷◌, ◌++◌, map, length, length-append, sym, ap, ap₂, ◌∙◌, subst, arith}
use Rattle.std.specs.List.{AllByRecursion}
use Rattle.std.proofs.lemmas.List.Concat.{flat_map-append}
use Rattle.h5_bytes.specs.Bytes.{byte_at, part}
use Rattle.h5_bytes.specs.Blocks.{block, Keeps}
use Rattle.h5_bytes.specs.declared.Block.{Block}
use Rattle.h5_bytes.proofs.BlockLaws.{all_append, all_left, all_right}
use Rattle.h5_model.specs.Format.Messages.{Message, Fills, FillBlocks, IsContinued, continuation, continuations, HasMessages, first_block, first_size, prefix_at, total_in}
use Rattle.h5_header.specs.Listed.{Listed, messages_in}
use Rattle.h5_header.specs.Standing.{IsStanding}
use Rattle.h5_header.proofs.StretchLaws.{stretch, Follow}
use Rattle.h5_header.proofs.RewriteLaws.{first_inside, named_inside}
use Rattle.h5_header.proofs.NamedSplices.{IsNaming, splice_naming}

module _ (old new : List ℕ) (m : Listed) (is : IsStanding old m) (grown : length old ≤ length new) (front : List Message) (x : Message) (back : List Message)
    (cut : messages_in old m.list ≡ front ++ x ∷ back) (left : Keeps old new (map stretch front)) (right : Keeps old new (map stretch back))
    (none : continuation x ≡ []) (c : Message) (b : Block) (names : continuation c ≡ b ∷ []) (continued : IsContinued c)
    (made : Follow new (x.at - 8) (c ∷ []) (x.at + length x.body))
    (ms : List Message) (last : continuations ms ≡ []) (fill : Fills b.at (part b.at b.len new) 0 ms) (all_continued : AllByRecursion IsContinued ms)
    (version : byte_at (prefix_at new m.header) 0 ≡ 1) (size : first_size (prefix_at new m.header) ≡ first_size (prefix_at old m.header))
    (total : total_in (prefix_at new m.header) ≡ length m.list + length ms) where
  -- where the messages of the new block stand among the others
  pub naming : IsNaming old new grown x c b ms none names last fill made (first_block old m.header ∷ []) front back
  naming = splice_naming old new grown x c b ms none names last fill made (first_block old m.header ∷ []) (is.has).parts (first_inside old m is) (named_inside old m is)
      (is.has).filled front back (sym (is.has).all ∙ cut) left right

  abbrev pub named_messages : List Message
  named_messages = front ++ c ∷ (naming.middle ++ (ms ++ naming.behind))

  abbrev pub header_block : Block
  header_block = block m.header (16 + first_size (prefix_at old m.header))

  -- the blocks before and behind the new one
  behind_same : continuations (naming.middle ++ (ms ++ naming.behind)) ≡ continuations back
  behind_same =
      flat_map-append continuation naming.middle (ms ++ naming.behind)
      ∙ ap (λ (bs : List Block). continuations naming.middle ++ bs) (flat_map-append continuation ms naming.behind ∙ ap (λ (bs : List Block). bs ++ continuations naming.behind) last)
      ∙ sym (ap continuations naming.cut ∙ flat_map-append continuation naming.middle naming.behind)

  named_blocks : continuations named_messages ≡ continuations front ++ b ∷ continuations back
  named_blocks = flat_map-append continuation front (c ∷ (naming.middle ++ (ms ++ naming.behind)))
      ∙ ap₂ (λ (bs more : List Block). continuations front ++ (bs ++ more)) names behind_same

  count : length named_messages ≡ length (messages_in old m.list) + length ms
  count = omega (
    arith,
    ap length cut,
    length-append front (x ∷ back),
    ap length naming.cut,
    length-append naming.middle naming.behind,
    length-append front (c ∷ (naming.middle ++ (ms ++ naming.behind))),
    length-append naming.middle (ms ++ naming.behind),
    length-append ms naming.behind,
  )

  all_before : AllByRecursion IsContinued (front ++ x ∷ back)
  all_before = subst (AllByRecursion IsContinued) cut (is.has).continued

  back_continued : AllByRecursion IsContinued (naming.middle ++ naming.behind)
  back_continued = subst (AllByRecursion IsContinued) naming.cut (all_right IsContinued front (x ∷ back) all_before).1

  pub has_named : length (messages_in old m.list) ≡ length m.list → HasMessages new m.header named_messages (header_block ∷ (continuations front ++ b ∷ continuations back))
  has_named same = record {
    version = version;
    parts = (naming.spliced).parts;
    filled = subst (λ (n : ℕ). FillBlocks new (block (m.header + 16) n ∷ []) (naming.spliced).parts) (sym size) (naming.spliced).fills;
    all = sym (naming.spliced).all;
    total = omega (arith, total, count, same);
    continued = all_append IsContinued front (c ∷ (naming.middle ++ (ms ++ naming.behind))) (all_left IsContinued front (x ∷ back) all_before) (
      continued,
      all_append IsContinued naming.middle (ms ++ naming.behind) (all_left IsContinued naming.middle naming.behind back_continued)
          (all_append IsContinued ms naming.behind all_continued (all_right IsContinued naming.middle naming.behind back_continued)),
    );
    laid = ap₂ (λ (n : ℕ) (bs : List Block). block m.header (16 + n) ∷ bs) (sym size) (sym named_blocks);
  }
