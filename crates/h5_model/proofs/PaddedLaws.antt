-- Bodies with zeros behind them.
use Rattle.std.proofs.Common.{◌≡◌, ℕ, ◌-◌, ◌≤◌, List, ◌++◌, length, length-append, replicate, ap, ◌∙◌, arith, append-nil}
use Rattle.std.proofs.lemmas.List.{length-replicate}
use Rattle.h5_bytes.specs.Texts.{pad8}
use Rattle.h5_model.specs.Format.Bodies.{padded_body}
use Rattle.h5_model.specs.Format.Plain.{with_zeros}

-- as many bytes as asked for
pub length-padded : (bytes : List ℕ) (n : ℕ) → length bytes ≤ n → length (with_zeros bytes n) ≡ n
length-padded bytes n room =
    length-append bytes (replicate (n - length bytes) 0) ∙ omega (arith, room, length-replicate {A = ℕ} (n - length bytes) 0)

pub length-raised : (body : List ℕ) → length (padded_body body) ≡ pad8 (length body)
length-raised body = length-padded body (pad8 (length body)) (omega arith)

-- no zero behind bytes that fill their room
pub padded_full : (bytes : List ℕ) (n : ℕ) → n ≡ length bytes → with_zeros bytes n ≡ bytes
padded_full bytes n full =
    let none : n - length bytes ≡ 0 = omega (arith, full) in
    ap (λ (k : ℕ). bytes ++ replicate k 0) none ∙ append-nil bytes
