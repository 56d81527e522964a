-- A header with other numbers in its prefix: its messages stay.
use Rattle.std.proofs.Common.{◌≡◌, ℕ, ◌+◌, ◌≤◌, inl, inr, List, [], ◌∷◌, map, length, sym, ap, ◌∙◌, subst, arith}
use Rattle.h5_bytes.specs.Bytes.{with_part, number_at, byte_at}
use Rattle.h5_bytes.specs.Blocks.{block, Keeps}
use Rattle.h5_bytes.proofs.BlockLaws.{holds_join}
use Rattle.h5_bytes.proofs.PartLaws.{length-with_part}
use Rattle.h5_bytes.proofs.FieldLaws.{number_at-with_part_other}
use Rattle.h5_space.proofs.MovesLaws.{byte-with_part}
use Rattle.h5_model.specs.Format.Messages.{FillBlocks, first_block, first_size, prefix_at, total_in}
use Rattle.h5_header.specs.Listed.{Listed, messages_in}
use Rattle.h5_header.specs.Standing.{IsStanding}
use Rattle.h5_header.proofs.PrefixLaws.{first_size-is, total-is, version-is}
use Rattle.h5_header.proofs.StretchLaws.{stretch, stretches_inside}
use Rattle.h5_header.proofs.BesideLaws.{kept_beside}
use Rattle.h5_header.proofs.SpliceLaws.{blocks_stay}
use Rattle.h5_header.proofs.RewriteLaws.{same_messages, first, said, headed, laid_inside, laid_separate, first_inside, named_inside, stretches_cover}

module _ (old : List ℕ) (m : Listed) (is : IsStanding old m) where
  pub header_inside : m.header + 16 + first_size (prefix_at old m.header) ≤ length old
  header_inside = omega (arith, (laid_inside old m is).0)

  -- a write in the prefix
  module _ (w : List ℕ) (at : ℕ) (low : m.header ≤ at) (high : at + length w ≤ m.header + 16) where
    abbrev new : List ℕ
    new = with_part at w old

    same_long : length new ≡ length old
    same_long = length-with_part at w old (omega (arith, high, header_inside))

    grown : length old ≤ length new
    grown = omega (arith, same_long)

    pub stretches_stay : Keeps old new (map stretch (said old m is))
    stretches_stay = kept_beside old w at (block m.header 16) (map stretch (said old m is)) low high (omega (arith, header_inside))
        (λ p. omega (arith, laid_separate old m is p, stretches_cover old m is p, holds_join p m.header 16 (first old m is))) (stretches_inside old (said old m is) (headed old m is))

    pub messages_stay : messages_in new m.list ≡ messages_in old m.list
    messages_stay = same_messages old new grown m.list is.within (headed old m is) stretches_stay

    pub prefix_standing : byte_at new m.header ≡ byte_at old m.header → number_at new (m.header + 2) 2 ≡ number_at old (m.header + 2) 2
        → number_at new (m.header + 8) 4 ≡ number_at old (m.header + 8) 4 → IsStanding new m
    prefix_standing version total size =
        let same_first : first_size (prefix_at new m.header) ≡ first_size (prefix_at old m.header) = first_size-is new m.header ∙ size ∙ sym (first_size-is old m.header) in
        let same_total : total_in (prefix_at new m.header) ≡ total_in (prefix_at old m.header) = total-is new m.header ∙ total ∙ sym (total-is old m.header) in
        let filled : FillBlocks new (first_block old m.header ∷ []) (is.has).parts
        = blocks_stay old new grown (first_block old m.header ∷ []) (is.has).parts (first_inside old m is) (named_inside old m is) (is.has).filled
        (subst (λ ms. Keeps old new (map stretch ms)) (is.has).all stretches_stay) in
        record {
          has = record {
            version = version-is new m.header ∙ version ∙ sym (version-is old m.header) ∙ (is.has).version;
            parts = (is.has).parts;
            filled = subst (λ (n : ℕ). FillBlocks new (block (m.header + 16) n ∷ []) (is.has).parts) (sym same_first) filled;
            all = messages_stay ∙ (is.has).all;
            total = same_total ∙ (is.has).total ∙ ap length (sym messages_stay);
            continued = rw messages_stay (is.has).continued;
            laid = rw (same_first, messages_stay) (is.has).laid;
          };
          inside = rw same_long is.inside;
          within = rw same_long is.within;
          separate = is.separate;
        }

  -- the reference count
  pub count_standing : (w : List ℕ) → length w ≡ 4 → IsStanding (with_part (m.header + 4) w old) m
  count_standing w four =
      let room : m.header + 4 + length w ≤ length old = omega (arith, four, header_inside) in
      prefix_standing w (m.header + 4) (omega arith) (omega (arith, four))
      (byte-with_part (m.header + 4) w old m.header room (inl (omega arith)))
      (number_at-with_part_other (m.header + 4) w old (m.header + 2) 2 room (inl (omega arith)))
      (number_at-with_part_other (m.header + 4) w old (m.header + 8) 4 room (inr (omega (arith, four))))
