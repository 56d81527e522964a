-- The four lists of a hyperslab, and its axes.
use Rattle.std.proofs.Common.{◌≡◌, ℕ, zero, suc, ◌-◌, ◌<◌, List, [], ◌∷◌, length, take, drop, get_or, true, refl, sym, ap, ◌∙◌, arith}
use Rattle.std.proofs.lemmas.Bool.Decides.{nat_tests}
use Rattle.h5_model.specs.declared.Axis.{Axis}
use Rattle.h5_model.specs.declared.Hyper.{Hyper}
use Rattle.h5_model.specs.Views.Selection.{Slab, axes_from, axes_of, has_rank}
use Rattle.h5_model.proofs.RefusalLaws.{length-axes_of}
use Rattle.h5_shape.proofs.AxisLaws.{tail_is}

-- how long the lists of some axes are
pub record AreLong (h : Hyper) (n : ℕ) : Type 0 where
  pub axes : length (axes_of h) ≡ n
  pub start : length h.start ≡ n
  pub stride : length h.stride ≡ n
  pub count : length h.count ≡ n
  pub block : length h.block ≡ n

pub are_long : (h : Hyper) (slab : Slab) → has_rank (length h.start) h ≡ true → axes_of h ≡ slab → AreLong h (length slab)
are_long h slab even is =
    let long : length (axes_of h) ≡ length h.start = length-axes_of (length h.start) h even in
    let same : length (axes_of h) ≡ length slab = ap (λ (s : Slab). length s) is in
    record {
      axes = same;
      start = sym long ∙ same;
      stride = grind (arith, nat_tests);
      count = grind (arith, nat_tests);
      block = grind (arith, nat_tests);
    }

-- the axis of a dimension is made of the numbers of the lists there
pub axis_is : (k : ℕ) (s t n b : List ℕ) (d : Axis) → k < length s → k < length t → k < length n → k < length b
    → get_or (axes_from s t n b) k d ≡ record { start = get_or s k 0; stride = get_or t k 0; count = get_or n k 0; block = get_or b k 0 }
axis_is k [] t n b d hs ht hn hb = absurd (omega arith)
axis_is k (x ∷ s) [] n b d hs ht hn hb = absurd (omega arith)
axis_is k (x ∷ s) (y ∷ t) [] b d hs ht hn hb = absurd (omega arith)
axis_is k (x ∷ s) (y ∷ t) (z ∷ n) [] d hs ht hn hb = absurd (omega arith)
axis_is zero (x ∷ s) (y ∷ t) (z ∷ n) (w ∷ b) d hs ht hn hb = refl
axis_is (suc k) (x ∷ s) (y ∷ t) (z ∷ n) (w ∷ b) d hs ht hn hb = axis_is k s t n b d (omega arith) (omega arith) (omega arith) (omega arith)

-- without their first numbers, the lists have the other axes
pub rest_is : (s t n b : List ℕ) → 0 < length s → 0 < length t → 0 < length n → 0 < length b
    → axes_from (drop 1 s) (drop 1 t) (drop 1 n) (drop 1 b) ≡ drop 1 (axes_from s t n b)
rest_is [] t n b hs ht hn hb = absurd (omega arith)
rest_is (x ∷ s) [] n b hs ht hn hb = absurd (omega arith)
rest_is (x ∷ s) (y ∷ t) [] b hs ht hn hb = absurd (omega arith)
rest_is (x ∷ s) (y ∷ t) (z ∷ n) [] hs ht hn hb = absurd (omega arith)
rest_is (x ∷ s) (y ∷ t) (z ∷ n) (w ∷ b) hs ht hn hb = refl

-- all but the first of a list
pub tail_of : {X : Type 0} (xs : List X) → take (length xs - 1) (drop 1 xs) ≡ drop 1 xs
tail_of [] = refl
tail_of (x ∷ xs) = tail_is x xs
