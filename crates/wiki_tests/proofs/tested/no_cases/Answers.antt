use Rattle.std.proofs.Common.{Err, subst}
use Rattle.lua_syntax.specs.declared.fault.SyntaxFault.{SyntaxFault}
use Rattle.lua_parser.specs.Chunks.{IsParsed}
use Rattle.wiki_tests.proofs.TextLaws.{of_fault}
use Rattle.wiki_tests.proofs.tested.no_cases.Goals as goal

pub returns-in-At : goal.returns-in-At
returns-in-At c = λ text parsed. of_fault text c.in-At.fault (subst (λ (f : SyntaxFault). IsParsed (Err f) text) c.in-At.is parsed)
