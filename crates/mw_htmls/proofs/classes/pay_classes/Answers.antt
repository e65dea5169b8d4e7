use Rattle.std.proofs.Common.{◌∙◌, ap, sym, subst, length}
use Rattle.mw_html.specs.Names.{with_class}
use Rattle.lua_strings.specs.Costs.{Pays}
use Rattle.mw_htmls.specs.Nodes.{bytes_in}
use Rattle.mw_htmls.proofs.Valued.{classes_length}
use Rattle.mw_htmls.proofs.classes.pay_classes.Goals as goal

pub returns-in-Some : goal.returns-in-Some
returns-in-Some c = subst (λ n. Pays n c.args.left.now c.take_both.new.left c.take_both.result) (sym (ap (λ o. length (with_class (bytes_in o) c.args.class.now)) c.in-Some.is ∙ classes_length c.in-Some.classes.now c.args.class.now)) c.take_both.ensures
