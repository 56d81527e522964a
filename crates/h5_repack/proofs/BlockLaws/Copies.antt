-- Bytes so many times, and the cells of one value.
use Rattle.std.proofs.Common.{◌≡◌, ℕ, zero, suc, ◌+◌, ◌-◌, ◌*◌, ◌/◌, ◌%◌, ◌≤◌, ℤ, List, [], ◌++◌, take, replicate, refl, ap, ◌∙◌, sym, arith, append_assoc, append-nil}
use Rattle.std.proofs.lemmas.List.{take_at}
use Rattle.h5_model.specs.Format.Fixed.{Fixed, bytes_of}
use Rattle.h5_bytes.specs.Numbers.{zeros}
use Rattle.h5_model.specs.Format.Plain.{cells_bytes}
use Rattle.h5_model.proofs.FixedLaws.{length-bytes_of}
use Rattle.h5_repack.specs.Blocks.Parts.{copies}

pub copies_none : (bytes : List ℕ) → copies 0 bytes ≡ []
unfolding copies
copies_none bytes = refl

pub copies-add : (a b : ℕ) (bytes : List ℕ) → copies (a + b) bytes ≡ copies a bytes ++ copies b bytes
unfolding copies
copies-add zero b bytes =
    let none : 0 + b ≡ b = omega arith in
    ap (λ n. copies n bytes) none
copies-add (suc a) b bytes =
    let one : suc a + b ≡ suc (a + b) = omega arith in
    ap (λ n. copies n bytes) one ∙ ap (λ more. bytes ++ more) (copies-add a b bytes) ∙ sym (append_assoc bytes (copies a bytes) (copies b bytes))

one_copy : (bytes : List ℕ) → copies 1 bytes ≡ bytes
unfolding copies
one_copy bytes = append-nil bytes

pub copies_more : (n : ℕ) (bytes : List ℕ) → copies (n + 1) bytes ≡ copies n bytes ++ bytes
copies_more n bytes = copies-add n 1 bytes ∙ ap (λ more. copies n bytes ++ more) (one_copy bytes)

pub copies-copies : (a b : ℕ) (bytes : List ℕ) → copies a (copies b bytes) ≡ copies (a * b) bytes
unfolding copies
copies-copies zero b bytes =
    let none : 0 * b ≡ 0 = omega arith in
    sym (ap (λ n. copies n bytes) none)
copies-copies (suc a) b bytes =
    let one : suc a * b ≡ b + a * b = omega arith in
    ap (λ more. copies b bytes ++ more) (copies-copies a b bytes) ∙ sym (copies-add b (a * b) bytes) ∙ sym (ap (λ n. copies n bytes) one)

-- whole tiles, and the rest
pub tiles : (n tile : ℕ) (bytes : List ℕ) → 1 ≤ tile → copies (n / tile) (copies tile bytes) ++ copies (n % tile) bytes ≡ copies n bytes
tiles n tile bytes some =
    let whole : n / tile * tile + n % tile ≡ n = omega arith in
    ap (λ more. more ++ copies (n % tile) bytes) (copies-copies (n / tile) tile bytes) ∙ sym (copies-add (n / tile * tile) (n % tile) bytes)
    ∙ ap (λ k. copies k bytes) whole

-- cells of one value
pub copies_cells : (n : ℕ) (t : Fixed) (value : ℤ) → copies n (bytes_of t value) ≡ cells_bytes t (replicate n value)
unfolding copies
copies_cells zero t value = refl
copies_cells (suc n) t value = ap (λ more. bytes_of t value ++ more) (copies_cells n t value)

-- the value's bytes in front of zeros
pub value_front : (t : Fixed) (value : ℤ) (n k : ℕ) → k ≡ t.size → take k (bytes_of t value ++ zeros n) ≡ bytes_of t value
value_front t value n k e = take_at (bytes_of t value) (zeros n) k (length-bytes_of t value ∙ sym e)

pub ruleset copies_steps = (copies_none, copies_more, append_assoc, append-nil)

-- what three appends of copies leave
pub cells_pushed : (t : Fixed) (value : ℤ) (count size : ℕ) (room tile none before between after : List ℕ)
    → room ≡ bytes_of t value ++ zeros (8 - t.size) → size ≡ t.size → none ≡ [] → tile ≡ none ++ copies 1024 (take size room)
    → between ≡ before ++ copies (count / 1024) tile → after ≡ between ++ copies (count % 1024) (take size room)
    → after ≡ before ++ cells_bytes t (replicate count value)
cells_pushed t value count size room tile none before between after filled long empty tiled whole rest =
    let cell : take size room ≡ bytes_of t value = ap (take size) filled ∙ value_front t value (8 - t.size) size long in
    let one : tile ≡ copies 1024 (bytes_of t value) = tiled ∙ ap (λ more. more ++ copies 1024 (take size room)) empty ∙ ap (copies 1024) cell in
    rest ∙ ap (λ more. more ++ copies (count % 1024) (take size room)) whole
    ∙ ap (λ bytes. before ++ copies (count / 1024) tile ++ copies (count % 1024) bytes) cell
    ∙ ap (λ bytes. before ++ copies (count / 1024) bytes ++ copies (count % 1024) (bytes_of t value)) one
    ∙ append_assoc before (copies (count / 1024) (copies 1024 (bytes_of t value))) (copies (count % 1024) (bytes_of t value))
    ∙ ap (λ more. before ++ more) (tiles count 1024 (bytes_of t value) (omega arith) ∙ copies_cells count t value)
