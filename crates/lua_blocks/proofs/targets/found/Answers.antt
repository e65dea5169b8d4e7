use Rattle.std.proofs.Common.{◌∙◌, ap, subst, sym, List, [], ◌∷◌, map}
use Rattle.std.specs.List.{AllByRecursion}
use Rattle.std.proofs.lemmas.List.{map-append}
use Rattle.lua_code.specs.Seen.{target_seen, expressions_seen}
use Rattle.lua_state.proofs.LuaStoreLists.{all-push}
use Rattle.lua_state.specs.LuaSlotsPoints.{STarget, Finds, Now}
use Rattle.lua_state.specs.LuaStackDeclaredFocusFocusTheVariants as focus
use Rattle.lua_state.specs.LuaStackOf.{FoundOf}
use Rattle.lua_state.specs.LuaStackSeen.{found_seen}
use Rattle.lua_state.specs.declared.turn.Turn.TheVariants as turn
use Rattle.lua_state.specs.Makes.{Makes}
use Rattle.lua_state.specs.Seen.{slots_of, frames_of}
use Rattle.lua_blocks.proofs.Parts.{on}
use Rattle.lua_blocks.proofs.targets.found.Goals as goal

pub returns : goal.returns
returns c = λ l.
    subst (λ (z : List STarget). Makes c.args.store.now c.args.state.now l c.args.store.now c.args.state.now l
    (Now (Finds (map target_seen c.args.rest.now) z (expressions_seen c.args.values.now) (frames_of c.args.store.now c.args.state.now)) (slots_of c.args.store.now c.args.state.now)) (turn.On (focus.Finds c.args.rest c.push.new.self c.args.values)))
    (ap (map (found_seen c.args.store.now.texts)) c.in_ok-push.ensures.ok ∙ map-append (found_seen c.args.store.now.texts) c.args.before (c.args.target ∷ []))
    (on c.args.store.now c.args.state.now c.args.state.now.frames l (focus.Finds c.args.rest c.push.new.self c.args.values) c.requires.state c.requires.state.frames
    (subst (AllByRecursion (FoundOf c.args.store.now)) (sym c.in_ok-push.ensures.ok) (all-push (FoundOf c.args.store.now) c.args.before c.args.target c.requires.before c.requires.target)))
