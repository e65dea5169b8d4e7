use Rattle.std.proofs.Common.{◌≡◌, ◌∙◌, ap, sym, subst}
use Rattle.mw_frame.specs.Scenes.{NamesDiffer}
use Rattle.expand_meaning.specs.Expand.{put}
use Rattle.expand_texts.specs.Entries.{args_in}
use Rattle.expand_texts.proofs.ArgumentLaws.{put_is, differ_put}
use Rattle.expand_texts.proofs.arguments.insert.Goals as goal

pub returns-in-Ok : goal.returns-in-Ok
returns-in-Ok c =
    let is : args_in c.insert.new.self.entries ≡ put c.args.name c.args.value (args_in c.args.map.now.entries) = ap args_in c.in-Ok.ensures.entries ∙ put_is c.args.name c.args.value c.args.map.now.entries in
    record { put = is; differ = λ d. subst NamesDiffer (sym is) (differ_put c.args.name c.args.value (args_in c.args.map.now.entries) d) }
