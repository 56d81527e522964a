-- How an edit is refused: by a rule of the tree, or for want of memory.
use Rattle.std.proofs.Common.{◌≡◌, sym, ◌∙◌, Some, None, refl}
use Rattle.h5_model.specs.Edits.Refusal.{refusal_of}
use Rattle.h5_model.specs.declared.edits.Edit.{Edit}
use Rattle.h5_model.specs.declared.edit_fault.EditFault.{EditFault}
use Rattle.h5_model.specs.declared.edit_fault.EditFault.TheVariants as fault
use Rattle.h5_query.specs.Opened.State.{FileState}
use Rattle.h5_edit.specs.Carried.{IsRefused}

module _ (f : FileState) (edit : Edit) where
  -- the lowest rule that holds, whatever else is given
  pub by_rule : (e : EditFault) → refusal_of f.tree f.next edit ≡ Some e → IsRefused f edit e
  by_rule e h = record {
    given = None;
    allowed = λ accepted. absurd (let never : None ≡ Some e = sym accepted ∙ h in cc);
    answer = rw h refl;
  }

  -- want of memory, where no rule holds
  pub short_of_memory : refusal_of f.tree f.next edit ≡ None → IsRefused f edit fault.NoMemory
  short_of_memory h = record { given = Some fault.NoMemory; allowed = λ _. tt; answer = rw h refl }
