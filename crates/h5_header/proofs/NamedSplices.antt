-- A header where one of its messages becomes a Continuation that names a new block: the messages of that block stand behind those of
-- all blocks that are met before it.
use Rattle.std.proofs.Common.{◌≡◌, ℕ, ◌+◌, ◌-◌, ◌≤◌, inl, inr, List, [], ◌∷◌, ◌++◌, map, length, sym, ◌∙◌, ap, subst, arith, append_assoc}
use Rattle.std.proofs.lemmas.List.Concat.{flat_map-append}
use Rattle.h5_bytes.specs.Bytes.{part}
use Rattle.h5_bytes.specs.Blocks.{Inside, Keeps}
use Rattle.h5_bytes.specs.declared.Block.{Block}
use Rattle.h5_bytes.proofs.BlockLaws.{all_append, all_left, all_right}
use Rattle.h5_model.specs.Format.Messages.{Message, Fills, FillBlocks, continuation, continuations}
use Rattle.h5_model.proofs.Frames.{inside_longer}
use Rattle.h5_header.proofs.StretchLaws.{stretch, Follow, all_of}
use Rattle.h5_header.proofs.SpliceLaws.{IsSpliced, blocks_stay, cut_of, fills_splice, fills_stay, keeps_left, keeps_right}
use Rattle.h5_header.proofs.FillInserts.{bytes_in, bytes_filling, bytes_of, bytes_of-append, fill-here}

module _ (old new : List ℕ) (grown : length old ≤ length new) (m c : Message) (b : Block) (ms : List Message) (none : continuation m ≡ []) (names : continuation c ≡ b ∷ [])
    (last : continuations ms ≡ []) (fill : Fills b.at (part b.at b.len new) 0 ms) (made : Follow new (m.at - 8) (c ∷ []) (m.at + length m.body)) where
  -- the messages behind the one, cut where those of the new block stand
  pub record IsNaming (waiting : List Block) (front back : List Message) : Type 0 where
    pub middle : List Message
    pub behind : List Message
    pub cut : back ≡ middle ++ behind
    pub spliced : IsSpliced old new grown waiting (front ++ c ∷ (middle ++ (ms ++ behind)))
    pub place : bytes_of (front ++ m ∷ middle) ≡ bytes_in (waiting ++ continuations front)

  abbrev IsIn : Block → Type 0
  IsIn x = x.at + x.len ≤ length old

  pub splice_naming : (waiting : List Block) (parts : List (List Message)) → Inside (length old) waiting → Inside (length old) (continuations (all_of parts))
      → FillBlocks old waiting parts → (front back : List Message) → all_of parts ≡ front ++ m ∷ back → Keeps old new (map stretch front) → Keeps old new (map stretch back)
      → IsNaming waiting front back
  splice_naming [] [] low more fills [] back e left right = let never : [] ≡ m ∷ back = e in cc
  splice_naming [] [] low more fills (x ∷ front) back e left right = let never : [] ≡ x ∷ (front ++ m ∷ back) = e in cc
  splice_naming [] (p ∷ parts) low more fills front back e left right = absurd fills
  splice_naming (h ∷ waiting) [] low more fills front back e left right = absurd fills
  splice_naming (h ∷ waiting) (p ∷ parts) low more fills front back e left right =
      let named = subst (Inside (length old)) (flat_map-append continuation p (all_of parts)) more in
      let here : Inside (length old) (continuations p) = all_left IsIn (continuations p) (continuations (all_of parts)) named in
      let rest : Inside (length old) (continuations (all_of parts)) = all_right IsIn (continuations p) (continuations (all_of parts)) named in
      let next : Inside (length old) (waiting ++ continuations p) = all_append IsIn waiting (continuations p) low.1 here in
      let long : bytes_of p ≡ h.len = bytes_filling old h p low.0 fills.0 in
      elim (cut_of p (all_of parts) front m back e) [
        | inl (ys, is, behind) ↦
            let after : Keeps old new (map stretch (ys ++ all_of parts)) = subst (λ (xs : List Message). Keeps old new (map stretch xs)) behind right in
            let filled : Fills h.at (part h.at h.len new) 0 (front ++ (c ∷ ys))
            = fills_splice old new grown h low.0 front m ys (c ∷ []) (subst (λ (xs : List Message). Fills h.at (part h.at h.len old) 0 xs) is fills.0) left
            (keeps_left old new grown ys (all_of parts) after) made in
            let others : FillBlocks new (waiting ++ continuations p) parts
            = blocks_stay old new grown (waiting ++ continuations p) parts next rest fills.1 (keeps_right old new grown ys (all_of parts) after) in
            let split : continuations p ≡ continuations front ++ continuations (m ∷ ys) = ap continuations is ∙ flat_map-append continuation front (m ∷ ys) in
            let before : Inside (length old) (continuations front)
            = all_left IsIn (continuations front) (continuations (m ∷ ys)) (subst (Inside (length old)) split here) in
            let first : Inside (length new) (waiting ++ continuations front)
            = inside_longer (length old) (length new) grown (waiting ++ continuations front) (all_append IsIn waiting (continuations front) low.1 before) in
            let put = fill-here new b ms last fill m c none names front ys waiting parts first
            (subst (λ (xs : List Message). FillBlocks new (waiting ++ continuations xs) parts) is others) in
            let sum : bytes_of (front ++ m ∷ (ys ++ put.front)) ≡ bytes_of p + bytes_of put.front
            = ap bytes_of (sym (append_assoc front (m ∷ ys) put.front) ∙ ap (λ (xs : List Message). xs ++ put.front) (sym is)) ∙ bytes_of-append p put.front in
            record {
              middle = ys ++ put.front;
              behind = put.back;
              cut = behind ∙ ap (λ (xs : List Message). ys ++ xs) put.before ∙ sym (append_assoc ys put.front put.back);
              spliced = record {
                parts = (front ++ c ∷ ys) ∷ put.parts';
                fills = (filled, put.fills);
                all = append_assoc front (c ∷ ys) (all_of put.parts')
                    ∙ ap (λ (xs : List Message). front ++ c ∷ xs) (ap (λ (xs : List Message). ys ++ xs) put.after ∙ sym (append_assoc ys put.front (ms ++ put.back)));
              };
              place = omega (arith, sum, long, put.place);
            }
        | inr (xs, is, behind) ↦
            let before : Keeps old new (map stretch (p ++ xs)) = subst (λ (zs : List Message). Keeps old new (map stretch zs)) is left in
            let further = splice_naming (waiting ++ continuations p) parts next rest fills.1 xs back behind (keeps_right old new grown p xs before) right in
            let sum : bytes_of (front ++ m ∷ further.middle) ≡ bytes_of p + bytes_of (xs ++ m ∷ further.middle)
            = ap bytes_of (ap (λ (zs : List Message). zs ++ m ∷ further.middle) is ∙ append_assoc p xs (m ∷ further.middle)) ∙ bytes_of-append p (xs ++ m ∷ further.middle) in
            let blocks : (waiting ++ continuations p) ++ continuations xs ≡ waiting ++ continuations front
            = append_assoc waiting (continuations p) (continuations xs) ∙ ap (λ (bs : List Block). waiting ++ bs) (sym (ap continuations is ∙ flat_map-append continuation p xs)) in
            record {
              middle = further.middle;
              behind = further.behind;
              cut = further.cut;
              spliced = record {
                parts = p ∷ (further.spliced).parts;
                fills = (fills_stay old new grown h low.0 p fills.0 (keeps_left old new grown p xs before), (further.spliced).fills);
                all = ap (λ (zs : List Message). p ++ zs) (further.spliced).all ∙ sym (append_assoc p xs (c ∷ (further.middle ++ (ms ++ further.behind))))
                    ∙ ap (λ (zs : List Message). zs ++ (c ∷ (further.middle ++ (ms ++ further.behind)))) (sym is);
              };
              place = omega (arith, sum, long, further.place, ap bytes_in blocks);
            }
      ]
