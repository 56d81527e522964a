-- How a heap is appended: the texts of one link behind those of another, and the segment.
use Rattle.std.proofs.Common.{◌≡◌, ℕ, ◌+◌, ◌<◌, ◌≤◌, Option, Some, None, List, ◌++◌, length, rules, ap, ◌∙◌, sym, arith, append_assoc}
use Rattle.std.specs.Option.{MatchOption, IsSome}
use Rattle.std.specs.Prelude.{nat_le, if◌then◌else◌}
use Rattle.h5_bytes.specs.Numbers.{zeros}
use Rattle.h5_model.specs.Format.Limits.{most_bytes}
use Rattle.h5_model.specs.Format.Plain.{heap_header_bytes, free_head_of}
use Rattle.h5_heap.specs.Writing.Parts.{free_rest}
use Rattle.h5_heap.specs.Writing.Links.{Leads, heap_texts}
use Rattle.h5_heap.specs.Writing.Written.{written_segment, heap_bytes}
use Rattle.h5_heap.proofs.WriteLaws.Lengths.{link_texts, links_span, segment_is, head_is, used-le}

-- a heap's parts, as they are appended
pub heap_is : (at size used : ℕ) (links : List (List ℕ × Leads)) → size ≡ length (written_segment links) → used ≡ 8 + links_span links
    → heap_bytes at links
    ≡ heap_header_bytes size (if nat_le used 72 then used else 1) (at + 32) ++ (zeros 8 ++ (link_texts links ++ free_rest used))
unfolding heap_bytes
heap_is at size used links sized counted =
    let segment = segment_is links ∙ ap (λ n. (zeros 8 ++ link_texts links) ++ free_rest n) (sym counted) ∙ append_assoc (zeros 8) (link_texts links) (free_rest used) in
    let head = head_is links ∙ ap (λ n. if nat_le n 72 then n else 1) (sym counted) in
    ap (λ n. heap_header_bytes n (free_head_of (heap_texts links)) (at + 32) ++ written_segment links) (sym sized)
    ∙ ap (λ n. heap_header_bytes size n (at + 32) ++ written_segment links) head
    ∙ ap (λ bytes. heap_header_bytes size (if nat_le used 72 then used else 1) (at + 32) ++ bytes) segment

-- what is used is counted where the segment is short enough
pub used_known : (links : List (List ℕ × Leads)) (used : Option ℕ) → length (written_segment links) ≤ most_bytes
    → MatchOption used (most_bytes < 8 + links_span links) (λ n. (n ≡ 8 + links_span links) × (n ≤ most_bytes)) → IsSome used
used_known links (Some n) short counted = search rules
used_known links None short counted = absurd (omega (arith, used-le links))
