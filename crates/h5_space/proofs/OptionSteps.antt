-- An `Option` is made of what it holds, for a proof by hand.
use mathlib.Core.List.{List, [], ◌∷◌}
use seplogic.Ra.Ura.{Ura}
use mir.Val.{Val, of_list}
use base.Logic.{ent, emp}
use types.Logic.{Logic, sem}
use types.Kit.{‵, ◌$◌, ◌∵◌, !, qed, move, fjoin, fpack, feq_i, done}
use types.Match.{live}
use denote.RattleType.{RattleType, Valss, owns}
use denote.Enum.Row.{tagged_with}
use denote.Enum.Enum.{form_of, in_a_row}
use denote.Enum.Declared.{shape}
use denote.Steps.{nothing}
use Rattle.std.specs.Prelude.{Some, None}
use Rattle.std.specs.contracts.option.Option as option
use mathlib.Core.Path.{refl}

module _ {M : Type 1} {𝓤 : Ura M} (𝓛 : Logic 𝓤) (X : RattleType) where
  pub some_of : (x : X.Denot) (v : Val) → ent 𝓤 (sem 𝓛 (X.own_val x (v ∷ []))) (sem 𝓛 ((option.the_row X).own_val (Some x) (live 1 (of_list (v ∷ [])) ∷ [])))
  some_of x v =
      qed 𝓛 (‵ (X.own_val x (v ∷ [])) ∷ []) ∵ nothing ! $ move ! (1 ∷ 0 ∷ []) $ fjoin ! $ feq_i ! (List Val) (v ∷ []) (v ∷ []) refl $ fjoin ! $
      fpack ! (Valss (X ∷ [])) (in_a_row (X ∷ []) (owns (X ∷ []) (x, tt)) (v ∷ [])) (v ∷ [], tt) $
      feq_i ! (List Val) (live 1 (of_list (v ∷ [])) ∷ []) (live 1 (of_list (v ∷ [])) ∷ []) refl $ fjoin ! $
      fpack ! (List Val) (tagged_with (form_of (shape (option.the_type X))) (form_of (shape (option.the_type X))).payload ((option.the_type X).to (Some x)) (live 1 (of_list (v ∷ [])) ∷ [])) (v ∷ []) $ done !

  pub none_of : ent 𝓤 (emp 𝓤) (sem 𝓛 ((option.the_row X).own_val None (live 0 (of_list []) ∷ [])))
  none_of =
      qed 𝓛 [] ∵ nothing ! $ feq_i ! (List Val) [] [] refl $ fjoin ! $ fpack ! (Valss []) (in_a_row [] (owns [] tt) []) tt $
      feq_i ! (List Val) (live 0 (of_list []) ∷ []) (live 0 (of_list []) ∷ []) refl $ fjoin ! $
      fpack ! (List Val) (tagged_with (form_of (shape (option.the_type X))) (form_of (shape (option.the_type X))).payload ((option.the_type X).to None) (live 0 (of_list []) ∷ [])) [] $ done !
