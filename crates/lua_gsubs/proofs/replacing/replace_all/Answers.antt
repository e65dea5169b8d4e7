use Rattle.std.proofs.Common.{◌∙◌, ap, refl, Some, Err}
use Rattle.std.proofs.lemmas.Result.{err_from_is_err_and}
use Rattle.lua_replacing.specs.LuaMeaningGsub.{replaced_from, at_head}
use Rattle.lua_replacing.specs.declared.far.Far.{Far}
use Rattle.lua_gsubs.proofs.Walked.{whole_made, whole_halted}
use Rattle.lua_gsubs.proofs.replacing.replace_all.Goals as goal

pub returns-in_err-far : goal.returns-in_err-far
returns-in_err-far g c =
    let q = err_from_is_err_and c.from_residual.result c.from_residual.ensures.1 in
    rw (q.1 ∙ ap Err q.2) c.in_err-far.ensures

pub returns-in_err-put_rest : goal.returns-in_err-put_rest
returns-in_err-put_rest g c =
    let p = c.args.pattern.now in
    let q = err_from_is_err_and c.from_residual-in_err-put_rest.result c.from_residual-in_err-put_rest.ensures.1 in
    rw (q.1 ∙ ap Err q.2) (whole_halted (replaced_from g.A.Alphabet.letters p.anchored p.items p.slots c.args.s.now c.args.replacement.now c.args.limit 0 (Some at_head)) c.args.s.now c.behind.result.now c.put_rest.new.text.items c.args.left.now c.replace_matches.new.left c.put_rest.new.left c.in_ok-far.far _ c.behind.ensures c.in_ok-far.ensures c.in_err-put_rest.ensures)

pub returns : goal.returns
returns g c =
    let made : Far = record c.in_ok-far.far { text = c.put_rest.new.text } in
    let p = c.args.pattern.now in
    whole_made (replaced_from g.A.Alphabet.letters p.anchored p.items p.slots c.args.s.now c.args.replacement.now c.args.limit 0 (Some at_head)) c.args.s.now c.behind.result.now c.args.left.now c.replace_matches.new.left c.put_rest.new.left c.in_ok-far.far made c.behind.ensures c.in_ok-far.ensures c.in_ok-put_rest.ensures refl
