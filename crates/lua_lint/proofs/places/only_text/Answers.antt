use Rattle.std.proofs.Common.{◌≡◌, ◌∙◌, ap, sym, length, arith}
use Rattle.lua_syntax.specs.Tree.{Exps}
use Rattle.lua_uses.specs.Uses.{only_text}
use Rattle.lua_lint.proofs.PlaceLemmas.{one_argument}
use Rattle.lua_lint.proofs.places.only_text.Goals as goal

pub returns : goal.returns
returns c =
    let e = c.index-args-0.result in
    let one : length c.args.args.now ≡ 1 = omega arith in
    c.text_in.ensures e.line ∙ ap (λ (es : Exps). only_text es) (sym (one_argument c.args.args.now e one c.index-args-0.is))
