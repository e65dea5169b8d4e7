use Rattle.std.proofs.lemmas.Result.{IfOk-weaker}
use Rattle.std.proofs.Common.{subst, List, [], ◌∷◌, map}
use Rattle.std.specs.Prelude.{◌++◌}
use Rattle.lua_code.specs.Seen.{target_seen, expressions_seen}
use Rattle.lua_state.specs.LuaStoreSeen.{text_at}
use Rattle.lua_state.specs.LuaSlotsPoints.{STarget, GlobalS, Finds, Now}
use Rattle.lua_state.specs.LuaStackSeen.{found_seen}
use Rattle.lua_state.proofs.LuaStackStay.{founds_later, founds_stay}
use Rattle.lua_state.specs.Makes.{Makes}
use Rattle.lua_state.specs.Seen.{slots_of, frames_of}
use Rattle.lua_state.proofs.Looking.{over_constant}
use Rattle.lua_blocks.proofs.targets.find_global.Goals as goal

pub found-requires-clause-before : goal.found-requires-clause-before
found-requires-clause-before c = founds_later c.args.store.now c.constant.new.store c.in_ok-name.ensures.later c.args.before c.requires.before

pub returns : goal.returns
returns c = λ l.
    IfOk-weaker c.found.result _ _ (λ r e. over_constant c.args.store.now c.constant.new.store c.constant.new.store c.args.state.now c.constant.new.state l l r c.constant.new.state c.in_ok-name.name.at _
    (λ b fs s. Now (Finds (map target_seen c.args.rest.now) (map (found_seen c.args.store.now.texts) c.args.before ++ GlobalS b c.args.line ∷ []) (expressions_seen c.args.values.now) fs) s) c.requires.state c.in_ok-name.ensures.later
    c.in_ok-name.ensures.heap c.in_ok-name.ensures.world c.in_ok-name.ensures.kept c.in_ok-name.ensures.text
    (subst (λ (before : List STarget). Makes c.constant.new.store c.constant.new.state l c.constant.new.store c.constant.new.state l
    (Now (Finds (map target_seen c.args.rest.now) (before ++ GlobalS (text_at c.constant.new.store.texts c.in_ok-name.name.at) c.args.line ∷ []) (expressions_seen c.args.values.now) (frames_of c.constant.new.store c.constant.new.state)) (slots_of c.constant.new.store c.constant.new.state)) r)
    (founds_stay c.args.store.now c.constant.new.store c.in_ok-name.ensures.later c.args.before c.requires.before) e)) (c.found.ensures l)
