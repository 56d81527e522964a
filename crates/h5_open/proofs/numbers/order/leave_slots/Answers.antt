use Rattle.std.proofs.Common.{◌≡◌, ◌-◌, ◌≤◌, ◌++◌, ◌∙◌, ℕ, None, Option, List, [], ◌∷◌, length, length-append, replicate, take, refl, sym, ap, arith, of_calls}
use Rattle.std.specs.List.{FoldsTo}
use Rattle.std.proofs.lemmas.List.{take_all}
use Rattle.std.proofs.lemmas.Result.{on_ok_weaker}
use Rattle.h5_open.specs.declared.opened.object.OpenedObject.{OpenedObject}
use Rattle.h5_open.proofs.RenumberedLaws.Renumbered.{on_ok_both}
use Rattle.h5_open.proofs.numbers.order.leave_slots.Goals as goal

-- what was made is empty, where each call makes an empty slot
nones : {F : Type 0} (step : F → Option OpenedObject → F → Type 0) → ((p : F) (x : Option OpenedObject) (q : F) → step p x q → x ≡ None)
    → (xs : List (Option OpenedObject)) (p q : F) → FoldsTo step p xs q → xs ≡ replicate (length xs) None
nones step empty [] p q made = refl
nones step empty (x ∷ xs) p q made =
    ap (λ (s : Option OpenedObject). s ∷ xs) (empty p x made.0 made.1) ∙ ap (λ (s : List (Option OpenedObject)). None ∷ s) (nones step empty xs made.0 q made.2)

-- with slots made for as many as there are to be
filled_up : (slots ys now : List (Option OpenedObject)) (count : ℕ) → length slots ≤ count → now ≡ take count slots ++ ys → length now ≡ count → ys ≡ replicate (length ys) None
    → now ≡ slots ++ replicate (count - length slots) None
filled_up slots ys now count given is long empty =
    let all : take count slots ≡ slots = take_all count slots given in
    let here : now ≡ slots ++ ys = is ∙ ap (λ (s : List (Option OpenedObject)). s ++ ys) all in
    let so_many : length ys ≡ count - length slots = omega (arith, ap (λ (s : List (Option OpenedObject)). length s) here ∙ length-append slots ys, long, given) in
    here ∙ ap (λ (s : List (Option OpenedObject)). slots ++ s) (empty ∙ ap (λ n. replicate n None) so_many)

pub returns-clause-left : goal.returns-clause-left
returns-clause-left c =
    on_ok_weaker c.resize_with.result (λ made.
    let slots = c.args.index.now.objects.items in
    let each : made.0.0 ≡ replicate (length made.0.0) None = nones _ (λ p x q called. search (of_calls, called)) made.0.0 _ made.0.1 made.0.3 in
    filled_up slots made.0.0 c.resize_with.new.self.items c.args.count c.requires.given made.0.2 (sym c.resize_with.new.self.ok.0 ∙ made.1) each)
    (on_ok_both _ _ c.resize_with.result c.resize_with.ensures.items c.resize_with.ensures.len)
