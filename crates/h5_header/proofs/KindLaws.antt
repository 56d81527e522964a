-- Messages of a type, counted in the list.
use Rattle.std.proofs.Common.{◌≡◌, ℕ, ◌+◌, ◌<◌, ◌⊎◌, inl, inr, List, [], ◌∷◌, refl, sym, arith, IsTrue, ◌==◌, ◌≤◌}
use Rattle.std.specs.Prelude.{Bool, true, false, cond, if◌then◌else◌}
use Rattle.std.proofs.lemmas.List.Recursion.{is_count_by}
use Rattle.std.specs.List.{count_by, list_any}
use Rattle.std.proofs.lemmas.Bool.Decides.{nat_tests}
use Rattle.h5_model.specs.Format.MessageTypes.{data_layout_kind, dataspace_kind, datatype_kind, fill_value_kind, old_fill_value_kind, symbol_table_kind}
use Rattle.h5_model.specs.Format.Messages.{Message, count_of}
use Rattle.h5_model.specs.Faults.HeaderFaults.{stands_twice}
use Rattle.h5_header.specs.Listed.{messages_in}
use Rattle.h5_header.specs.declared.message.Message.{Message as Placed}

one_more : (b : Bool) (n : ℕ) → (if b then 1 else 0) + n ≡ cond b (1 + n) n
one_more true n = refl
one_more false n = omega arith

pub count_of-is : (image : List ℕ) (kind : ℕ) (list : List Placed) → count_by (λ (m : Placed). m.kind == kind) list ≡ count_of kind (messages_in image list)
count_of-is image kind list =
    sym (is_count_by (λ (xs : List Placed). count_of kind (messages_in image xs)) (λ (m : Placed). m.kind == kind) refl
    (λ m ms. one_more (m.kind == kind) (count_of kind (messages_in image ms))) list)

twice : (ms : List Message) (kind : ℕ) → 1 < count_of kind ms → stands_twice ms kind ≡ true
twice ms kind high = grind (arith, nat_tests)

-- one of the types that may stand once stands twice
pub some_twice : (ms : List Message) → (1 < count_of symbol_table_kind ms) ⊎ ((1 < count_of dataspace_kind ms) ⊎ ((1 < count_of datatype_kind ms) ⊎ ((1 < count_of data_layout_kind ms) ⊎ ((1 < count_of old_fill_value_kind ms) ⊎ (1 < count_of fill_value_kind ms)))))
    → IsTrue (list_any (stands_twice ms) (dataspace_kind ∷ datatype_kind ∷ old_fill_value_kind ∷ fill_value_kind ∷ data_layout_kind ∷ symbol_table_kind ∷ []))
some_twice ms (inl h) = let t = twice ms 17 h in grind (arith, nat_tests, t)
some_twice ms (inr (inl h)) = let t = twice ms 1 h in grind (arith, nat_tests, t)
some_twice ms (inr (inr (inl h))) = let t = twice ms 3 h in grind (arith, nat_tests, t)
some_twice ms (inr (inr (inr (inl h)))) = let t = twice ms 8 h in grind (arith, nat_tests, t)
some_twice ms (inr (inr (inr (inr (inl h))))) = let t = twice ms 4 h in grind (arith, nat_tests, t)
some_twice ms (inr (inr (inr (inr (inr h))))) = let t = twice ms 5 h in grind (arith, nat_tests, t)

-- the first of six numbers that is above 1
pub above_one : (a b d e f g : ℕ) → (1 < a) ⊎ (((a ≤ 1) × (1 < b)) ⊎ (((a ≤ 1) × (b ≤ 1) × (1 < d)) ⊎ (((a ≤ 1) × (b ≤ 1) × (d ≤ 1) × (1 < e))
    ⊎ (((a ≤ 1) × (b ≤ 1) × (d ≤ 1) × (e ≤ 1) × (1 < f)) ⊎ ((a ≤ 1) × (b ≤ 1) × (d ≤ 1) × (e ≤ 1) × (f ≤ 1) × (1 < g))))))
    → (1 < a) ⊎ ((1 < b) ⊎ ((1 < d) ⊎ ((1 < e) ⊎ ((1 < f) ⊎ (1 < g)))))
above_one a b d e f g (inl h) = inl h
above_one a b d e f g (inr (inl h)) = inr (inl h.1)
above_one a b d e f g (inr (inr (inl h))) = inr (inr (inl h.2))
above_one a b d e f g (inr (inr (inr (inl h)))) = inr (inr (inr (inl h.3)))
above_one a b d e f g (inr (inr (inr (inr (inl h))))) = inr (inr (inr (inr (inl h.4))))
above_one a b d e f g (inr (inr (inr (inr (inr h))))) = inr (inr (inr (inr (inr h.5))))
