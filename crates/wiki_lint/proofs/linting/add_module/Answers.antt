use Rattle.std.proofs.Common.{◌≡◌, ℕ, List, true, inr, subst}
use Rattle.std.specs.Prelude.{Ok, Err}
use Rattle.wk_base.specs.Titles.{is_module}
use Rattle.lua_syntax.specs.declared.fault.SyntaxFault.TheVariants.{At}
use Rattle.lua_parser.specs.Chunks.{IsParsed}
use Rattle.wiki_lint.proofs.LintLemmas.{added, passed_over, no_tree}
use Rattle.wiki_lint.proofs.linting.add_module.Goals as goal

pub returns-in-Ok : goal.returns-in-Ok
returns-in-Ok c =
    let is : is_module c.args.page.now.title.ns ≡ true = cc in
    added c.args.page.now c.in-Ok.chunk c.args.modules.now c.add.new.modules c.add.result is (subst (λ (t : List ℕ). IsParsed (Ok c.in-Ok.chunk) t) c.as_slice.ensures c.in-Ok.ensures) c.add.ensures

pub returns-in-Err-At : goal.returns-in-Err-At
returns-in-Err-At c =
    let fault = c.in-Err-At.field-0-0 in
    passed_over c.args.page.now c.args.modules.now (inr (no_tree c.args.page.now.bytes fault (subst (λ (t : List ℕ). IsParsed (Err (At fault)) t) c.as_slice.ensures (rw c.in-Err-At.field-0-is at c.in-Err-At.ensures))))
