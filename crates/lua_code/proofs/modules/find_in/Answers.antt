use Rattle.std.proofs.Common.{◌∙◌, ap, refl}
use Rattle.lua_syntax.specs.WkBaseTitles.{title_text}
use Rattle.lua_code.specs.Held.{modules_seen}
use Rattle.lua_code.proofs.HeldLaws.{named, seen, lacking, text_of}
use Rattle.lua_code.proofs.modules.find_in.Goals as goal

pub returns-in-None : goal.returns-in-None
returns-in-None c = lacking c.args.map.now.entries c.args.text.now c.requires c.in-None.ensures.cases

pub returns-in_ok-title-in-Some : goal.returns-in_ok-title-in-Some
returns-in_ok-title-in-Some c =
    let held = c.args.map.now.entries in
    seen held c.in_ok-title-in-Some.title c.get-found.result c.get-found.ensures.value c.requires (rw c.in_ok-title-in-Some.ensures refl)
    ∙ ap (modules_seen held) (ap title_text (c.in_ok-title-in-Some.ensures ∙ ap named c.in-Some.ensures.cases.1) ∙ text_of c.args.text.now c.in-Some.ensures.cases.0)
