-- The first fault of several rules that are looked at under each number.
use Rattle.std.proofs.Common.{◌≡◌, ℕ, ◌<◌, List, [], ◌∷◌, refl, sym, ap, ◌∙◌, Bool, true, false, Option, Some, None, arith}
use Rattle.std.specs.Prelude.{◌||◌, nat_le, if◌then◌else◌}
use Rattle.std.specs.List.{AllByRecursion}
use Rattle.std.proofs.lemmas.Bool.Decides.{nat_tests}
use Rattle.h5_model.specs.Edits.EditFaults.{fault_number}
use Rattle.h5_model.specs.declared.edit_fault.EditFault.{EditFault}
use Rattle.h5_edit.specs.Refusals.Rules.{path_faults, path_fault, first_of, lower_fault, lower_of}

-- ---- the lower of two faults

abbrev IsAbove : ℕ → Option EditFault → Type 0
IsAbove n None = Unit {0}
IsAbove n (Some e) = n < fault_number e

-- the faults' numbers rise, and are above this one
abbrev Rise : ℕ → List EditFault → Type 0
Rise n [] = Unit {0}
Rise n (f ∷ fs) = (n < fault_number f) × Rise (fault_number f) fs

below : (n m : ℕ) (o : Option EditFault) → n < m → IsAbove m o → IsAbove n o
below n m None less above = tt
below n m (Some e) less above = omega arith

first_by : (n : ℕ) (f : EditFault) (b : Bool) (o : Option EditFault) → n < fault_number f → IsAbove (fault_number f) o → IsAbove n (if b then Some f else o)
first_by n f true o less above = less
first_by n f false o less above = below n (fault_number f) o less above

first_above : (n : ℕ) (fs : List EditFault) (p : EditFault → Bool) → Rise n fs → IsAbove n (first_of fs p)
first_above n [] p rise = tt
first_above n (f ∷ fs) p rise = first_by n f (p f) (first_of fs p) rise.0 (first_above (fault_number f) fs p rise.1)

same_if : (f : EditFault) (b : Bool) → f ≡ (if b then f else f)
same_if f true = refl
same_if f false = refl

first_lower : (f e : EditFault) → fault_number f < fault_number e → f ≡ lower_fault f e
first_lower f e less =
    let test : nat_le (fault_number f) (fault_number e) ≡ true = grind (arith, nat_tests) in
    sym (ap (λ b. if b then f else e) test)

second_lower : (f e : EditFault) → fault_number f < fault_number e → f ≡ lower_fault e f
second_lower f e less =
    let test : nat_le (fault_number e) (fault_number f) ≡ false = grind (arith, nat_tests) in
    sym (ap (λ b. if b then e else f) test)

merge_step : (f : EditFault) (a b : Bool) (x y z : Option EditFault) → z ≡ lower_of x y → IsAbove (fault_number f) x → IsAbove (fault_number f) y
    → (if (a || b) then Some f else z) ≡ lower_of (if a then Some f else x) (if b then Some f else y)
merge_step f true true x y z is left right = ap Some (same_if f (nat_le (fault_number f) (fault_number f)))
merge_step f true false x None z is left right = refl
merge_step f true false x (Some e) z is left right = ap Some (first_lower f e right)
merge_step f false true None y z is left right = refl
merge_step f false true (Some e) y z is left right = ap Some (second_lower f e left)
merge_step f false false x y z is left right = is

merged : (n : ℕ) (fs : List EditFault) (p q : EditFault → Bool) → Rise n fs → first_of fs (λ f. p f || q f) ≡ lower_of (first_of fs p) (first_of fs q)
merged n [] p q rise = refl
merged n (f ∷ fs) p q rise =
    merge_step f (p f) (q f) (first_of fs p) (first_of fs q) (first_of fs (λ g. p g || q g)) (merged (fault_number f) fs p q rise.1)
    (first_above (fault_number f) fs p rise.1) (first_above (fault_number f) fs q rise.1)

faults_rise : Rise 0 path_faults
faults_rise = (omega arith, (omega arith, (omega arith, (omega arith, (omega arith, (omega arith, (omega arith, (omega arith, tt))))))))

-- where the rules of two paths are looked at under each number, the lower of their faults is the first
pub lower_first : (p q : EditFault → Bool) → path_fault (λ f. p f || q f) ≡ lower_of (path_fault p) (path_fault q)
lower_first p q = merged 0 path_faults p q faults_rise

-- ---- rules that come behind others

-- a fault, or else what comes behind
abbrev pub behind : Option EditFault → Option EditFault → Option EditFault
behind (Some e) rest = Some e
behind None rest = rest

-- the first of the faults whose rule holds, or what comes behind them
abbrev pub chain : List EditFault → (EditFault → Bool) → Option EditFault → Option EditFault
chain [] holds rest = rest
chain (f ∷ fs) holds rest = if holds f then Some f else chain fs holds rest

behind_by : (f : EditFault) (b : Bool) (x y rest : Option EditFault) → x ≡ behind y rest → (if b then Some f else x) ≡ behind (if b then Some f else y) rest
behind_by f true x y rest is = refl
behind_by f false x y rest is = is

chain_behind : (fs : List EditFault) (p : EditFault → Bool) (rest : Option EditFault) → chain fs p rest ≡ behind (first_of fs p) rest
chain_behind [] p rest = refl
chain_behind (f ∷ fs) p rest = behind_by f (p f) (chain fs p rest) (first_of fs p) rest (chain_behind fs p rest)

same_chain : (fs : List EditFault) (p q : EditFault → Bool) (rest : Option EditFault) → AllByRecursion (λ f. p f ≡ q f) fs → chain fs p rest ≡ chain fs q rest
same_chain [] p q rest all = refl
same_chain (f ∷ fs) p q rest all = ap (λ b. if b then Some f else chain fs p rest) all.0 ∙ ap (λ o. if q f then Some f else o) (same_chain fs p q rest all.1)

-- rules by which the same faults are found
pub found_behind : (fs : List EditFault) (p q : EditFault → Bool) (rest : Option EditFault) → AllByRecursion (λ f. p f ≡ q f) fs → chain fs p rest ≡ behind (first_of fs q) rest
found_behind fs p q rest all = same_chain fs p q rest all ∙ chain_behind fs q rest
