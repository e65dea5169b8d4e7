use Rattle.std.proofs.Common.{◌≡◌, ◌++◌, ◌∷◌, [], rules, subst, sym}
use Rattle.indexmap.proofs.CallerLemmas.{insert_entry-new}
use Rattle.lua_code.specs.Held.{AreModules}
use Rattle.lua_code.proofs.HeldLaws.{added}
use Rattle.lua_code.proofs.modules.insert.Goals as goal

pub returns-in-Ok : goal.returns-in-Ok
returns-in-Ok c =
    let is : c.insert.new.self.entries ≡ c.args.map.now.entries ++ (c.args.title, c.args.held) ∷ [] = search (rules, insert_entry-new) in
    record { ok = is; err = tt; all = λ all. added _ _ c.args.title c.args.held is all c.requires.namespace }
