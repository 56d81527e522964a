use Rattle.std.proofs.Common.{◌≡◌, ◌∙◌, ◌==◌, ℕ, ◌+◌, ◌-◌, ◌<◌, List, ◌++◌, ◌∷◌, [], Bool, true, false, ap, refl, sym, arith}
use Rattle.std.specs.Prelude.{if◌then◌else◌}
use Rattle.std.proofs.lemmas.Bool.Decides.{nat_tests}
use Rattle.h5_bytes.specs.Blocks.{cover}
use Rattle.h5_bytes.specs.declared.Block.{Block}
use Rattle.h5_model.specs.Format.Messages.{prefix_at, reference_count}
use Rattle.h5_header.specs.Listed.{messages_in}
use Rattle.h5_header.proofs.WalkLaws.ListLaws.{prefix_there}
use Rattle.h5_open.specs.declared.opened.losses.Losses.{Losses}
use Rattle.h5_open.specs.LostLinks.{IsLossPut}
use Rattle.h5_open.specs.Opened.Objects.{header_of, object_blocks}
use Rattle.h5_open.proofs.opened.losses.put_loss.Goals as goal

-- some links are left
put_less : (old new : Losses) (number left : ℕ) (blocks : List Block) → 0 < left → new.gone.items ≡ old.gone.items → new.less.items ≡ old.less.items ++ (number, left) ∷ []
    → ((p : ℕ) → cover p new.blocks.held ≡ cover p old.blocks.held) → IsLossPut old new number left blocks
put_less old new number left blocks some gone less covers =
    let tested : (left == 0) ≡ false = grind (arith, nat_tests, some) in
    record {
      gone = gone ∙ ap (λ (b : Bool). if b then old.gone.items ++ number ∷ [] else old.gone.items) (sym tested);
      less = less ∙ ap (λ (b : Bool). if b then old.less.items else old.less.items ++ (number, left) ∷ []) (sym tested);
      covered = λ p. let none = ap (λ (b : Bool). if b then cover p blocks else 0) tested in omega (arith, covers p, none);
    }

-- none is left
put_gone : (old new : Losses) (number left : ℕ) (blocks : List Block) → left ≡ 0 → new.gone.items ≡ old.gone.items ++ number ∷ [] → new.less.items ≡ old.less.items
    → ((p : ℕ) → cover p new.blocks.held ≡ cover p old.blocks.held + cover p blocks) → IsLossPut old new number left blocks
put_gone old new number left blocks none gone less covers =
    let tested : (left == 0) ≡ true = grind (arith, nat_tests, none) in
    record {
      gone = gone ∙ ap (λ (b : Bool). if b then old.gone.items ++ number ∷ [] else old.gone.items) (sym tested);
      less = less ∙ ap (λ (b : Bool). if b then old.less.items else old.less.items ++ (number, left) ∷ []) (sym tested);
      covered = λ p. let all = ap (λ (b : Bool). if b then cover p blocks else 0) tested in omega (arith, covers p, all);
    }

pub links-requires : goal.links-requires
links-requires c =
    let header = c.requires.kept.header in
    prefix_there c.args.image.now.bytes (header_of c.args.object.now) (messages_in c.args.image.now.bytes c.args.object.now.messages.list) c.args.object.now.messages.blocks header.has header.inside

pub returns-clause-put : goal.returns-clause-put
returns-clause-put c =
    let image = c.args.image.now.bytes in
    put_gone c.args.losses.now (record { gone = c.push-2.new.self; less = c.args.losses.now.less; blocks = c.claim_object.new.claims }) c.args.number
    (reference_count (prefix_at image (header_of c.args.object.now)) - c.args.lost) (object_blocks image c.args.object.now)
    (omega (arith, c.links.ensures)) c.in_ok-push-2.ensures.items refl c.in-Ok.ensures.claimed.covered
