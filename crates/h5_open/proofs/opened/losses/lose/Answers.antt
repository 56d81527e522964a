use Rattle.std.proofs.Common.{◌≡◌, ◌≤◌, ℕ, [], ◌∷◌, sym, ◌∙◌, arith, rules, subst, List}
use Rattle.std.proofs.lemmas.List.{append-nil}
use Rattle.h5_open.specs.LostLinks.{HaveLostLinks, links_lost}
use Rattle.h5_open.proofs.LostLaws.{lost_again, lost_first, lost_put}
use Rattle.h5_open.proofs.opened.losses.lose.Goals as goal

pub returns-in_ok-push : goal.returns-in_ok-push
returns-in_ok-push c =
    let old = c.args.lost.now in
    let had : c.unwrap_or-before.result ≡ links_lost old.counts c.args.number = search rules in
    let put = lost_put old.counts c.insert.new.self c.args.number c.unwrap_or-before.result had c.in_ok-insert.ensures.updates in
    let none : links_lost old.counts c.args.number ≡ 0 = sym had ∙ c.if-before-eq0.true in
    let pushed = lost_first old.numbers.items old.counts c.insert.new.self c.args.number c.requires.lost put none in
    record {
      lost = subst (λ (ns : List ℕ). HaveLostLinks ns c.insert.new.self) (sym c.in_ok-push.ensures.items) pushed;
      counts = put;
      behind = c.args.number ∷ [];
      numbers = c.in_ok-push.ensures.items;
    }

pub returns-else-before-eq0 : goal.returns-else-before-eq0
returns-else-before-eq0 c =
    let old = c.args.lost.now in
    let had : c.unwrap_or-before.result ≡ links_lost old.counts c.args.number = search rules in
    let put = lost_put old.counts c.insert.new.self c.args.number c.unwrap_or-before.result had c.in_ok-insert.ensures.updates in
    let some : 1 ≤ links_lost old.counts c.args.number = omega (arith, had) in
    record {
      lost = lost_again old.numbers.items old.counts c.insert.new.self c.args.number c.requires.lost put some;
      counts = put;
      behind = [];
      numbers = sym (append-nil old.numbers.items);
    }
