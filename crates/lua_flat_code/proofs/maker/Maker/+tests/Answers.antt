use Rattle.std.proofs.Common.{◌≡◌, ◌∙◌}
use Rattle.std.proofs.lemmas.Result.{on_ok_weaker}
use Rattle.lua_flat_code.proofs.ViewLaws.{test_as, and_seen, or_seen, unary_seen, paren_seen}
use Rattle.lua_flat_code.proofs.TestLaws.{said_and, said_or, said_not, said_paren}
use Rattle.lua_flat_code.proofs.maker.Maker.+tests.Goals as goal

pub test-returns-in-Paren : goal.test-returns-in-Paren
test-returns-in-Paren t c = test_as _ _ _ _ _ _ _ _ _ (paren_seen _ _ _ c.in-Paren.is c.deref.ensures) c.test_paren.ensures

pub test_and-returns-in_ok-land-in-And : goal.test_and-returns-in_ok-land-in-And
test_and-returns-in_ok-land-in-And t c = test_as _ _ _ _ _ _ _ _ _ (and_seen _ _ _ _ _ c.in-And.is c.deref.ensures c.deref-in-And.ensures) (on_ok_weaker c.test-in-And.result (λ h. said_and _ _ _ _ _ _ _ _ _ _ _ _ _ _ _ _ c.in_ok-begin-in-And.ensures c.new-middle.ensures c.in_ok-test-in-And.ensures c.in_ok-land-in-And.ensures h) c.test-in-And.ensures)

pub test_or-returns-in_ok-land-in-Or : goal.test_or-returns-in_ok-land-in-Or
test_or-returns-in_ok-land-in-Or t c = test_as _ _ _ _ _ _ _ _ _ (or_seen _ _ _ _ _ c.in-Or.is c.deref.ensures c.deref-in-Or.ensures) (on_ok_weaker c.test-in-Or.result (λ h. said_or _ _ _ _ _ _ _ _ _ _ _ _ _ _ _ _ c.in_ok-begin-in-Or.ensures c.new-middle.ensures c.in_ok-test-in-Or.ensures c.in_ok-land-in-Or.ensures h) c.test-in-Or.ensures)

pub test_unary-returns-in_ok-begin-in-Not : goal.test_unary-returns-in_ok-begin-in-Not
test_unary-returns-in_ok-begin-in-Not t c = on_ok_weaker c.test.result (λ h. said_not _ _ _ _ _ _ _ _ _ _ _ _ _ (unary_seen _ _ _ _ _ c.in-Unary.is c.deref.ensures) c.in-Not.is c.in_ok-begin-in-Not.ensures h) c.test.ensures

pub test_paren-returns : goal.test_paren-returns
test_paren-returns t c = on_ok_weaker c.test.result (λ h. said_paren _ _ _ _ _ _ _ _ _ _ c.in_ok-begin.ensures h) c.test.ensures
