use Rattle.std.proofs.Common.{◌≡◌, ◌∙◌, ap, sym, rules, [], ◌++◌, append-nil, map}
use Rattle.mw_text.specs.LuaStringReplacements.{text_of}
use Rattle.lua_replacing.specs.LuaMeaningGsub.{capture_text}
use Rattle.lua_replacing.specs.Seen.{stand_seen}
use Rattle.lua_gsubs.proofs.Filled.{one_text}
use Rattle.lua_gsubs.proofs.filling.capture_texts.Goals as goal

pub each-preserved : goal.each-preserved
each-preserved g c =
    let one = capture_text g.A.Alphabet.letters c.args.s.now (stand_seen c.args.stand) in
    one_text c.each.texts c.push.new.self c.in_ok-text.text (one c.in-Some.capture) (map one c.in-Some.more.now) (map one c.args.captures.now) c.in_ok-push.ensures.ok c.in_ok-text.ensures
    (ap (λ cs. map text_of c.each.texts ++ map one cs) (sym c.in-Some.ensures) ∙ c.each.invariant)

pub returns : goal.returns
returns g c =
    let one = capture_text g.A.Alphabet.letters c.args.s.now (stand_seen c.args.stand) in
    let none : c.each.rest.now ≡ [] = search rules in
    sym (append-nil (map text_of c.each.texts)) ∙ ap (λ cs. map text_of c.each.texts ++ map one cs) (sym none) ∙ c.each.invariant
