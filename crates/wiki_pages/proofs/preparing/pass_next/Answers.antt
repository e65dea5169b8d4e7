use Rattle.std.proofs.Common.{◌≡◌, ◌+◌, ◌<◌, ◌∙◌, ◌∷◌, ℕ, sym, subst, arith}
use Rattle.std.specs.Prelude.{OnOk}
use Rattle.wiki_pages.specs.Forests.{trees_in, parts, size, Amid, Behind}
use Rattle.wiki_pages.specs.CaseTables.{IsRightRun}
use Rattle.wiki_pages.proofs.TableLaws.{next_first}
use Rattle.wiki_pages.proofs.preparing.pass_next.Goals as goal

pub pass-requires : goal.pass-requires
pass-requires c =
    let taken : parts c.in_ok-rest.rest ≡ trees_in c.in-Some.part ∷ parts c.in-Some.next = rw c.in-Some.is at c.in_ok-part.ensures.parts in
    let falls : size c.in-Some.part + size c.in-Some.next < size c.in_ok-rest.rest = rw c.in-Some.is at c.in_ok-part.ensures.falls in
    let stays : Amid c.in-Some.part c.in_ok-rest.rest × Behind c.in-Some.next c.in_ok-rest.rest = rw c.in-Some.is at c.in_ok-part.ensures.stays in
    record {
      first = next_first c.args.run.now c.in_ok-rest.rest c.in-Some.part c.in-Some.next c.args.table.now.stop.at c.args.table.now.end c.in_ok-rest.ensures.nodes c.in_ok-rest.ensures.at c.in_ok-rest.ensures.end c.requires stays.1.0 taken;
      amid = stays.0 ∙ sym stays.1.0;
      end = stays.1.1 ∙ c.in_ok-rest.ensures.end ∙ sym c.requires;
      falls = omega (arith, falls, c.in_ok-rest.ensures.at, c.in_ok-rest.ensures.end, c.requires);
    }

pub returns-in-Some-clause-right : goal.returns-in-Some-clause-right
returns-in-Some-clause-right c =
    let stays : Amid c.in-Some.part c.in_ok-rest.rest × Behind c.in-Some.next c.in_ok-rest.rest = rw c.in-Some.is at c.in_ok-part.ensures.stays in
    subst (λ ns. OnOk c.pass.result ((at : ℕ) → IsRightRun ns at c.args.table.now → IsRightRun ns at c.pass.new.table)) (stays.1.0 ∙ c.in_ok-rest.ensures.nodes) c.pass.ensures.right
