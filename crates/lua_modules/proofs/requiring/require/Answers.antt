use Rattle.std.proofs.Common.{◌∙◌, ap, subst, sym, codes, Option, option_map, List}
use Rattle.lua_code.specs.LuaMeaningArguments.{Argument, some_text}
use Rattle.lua_state.specs.LuaMeaningMessages.{bad_argument, expected}
use Rattle.lua_code.specs.LuaMeaningScope.{Bytes}
use Rattle.lua_state.specs.LuaBasicDeclaredTextsTextIn.{TextIn}
use Rattle.lua_state.specs.LuaBasicArguments.{text_bytes}
use Rattle.lua_state.specs.LuaSlotsErrors.{fails, with_argument}
use Rattle.lua_code.specs.LuaSlotsModules.{require_text}
use Rattle.lua_state.specs.Worlds.{world_seen}
use Rattle.lua_state.specs.LuaStoreDeclaredValueValue.{Value}
use Rattle.lua_state.specs.LuaStackSeen.{values_seen}
use Rattle.lua_state.proofs.LuaStackOpenings.{first_of}
use Rattle.lua_state.specs.Makes.{Makes}
use Rattle.lua_state.specs.Seen.{slots_of, frames_of}
use Rattle.lua_modules.proofs.GivenModules.{argued}
use Rattle.lua_modules.proofs.requiring.require.Goals as goal

pub text_in-requires : goal.text_in-requires
text_in-requires c = first_of c.args.store.now c.args.arguments c.first-first.result c.first-first.ensures c.requires.arguments

pub returns-in-Some : goal.returns-in-Some
returns-in-Some c =
    let vs = values_seen c.args.store.now.texts c.args.arguments in
    subst (λ (a : Argument Bytes). Makes c.args.store.now c.args.state.now c.args.left.now c.require_text.new.store c.require_text.new.state c.require_text.new.left
    (with_argument a c.args.line (frames_of c.args.store.now c.args.state.now) (slots_of c.args.store.now c.args.state.now) (λ b. require_text (world_seen c.args.state.now.codes.world) b c.args.line (frames_of c.args.store.now c.args.state.now) (slots_of c.args.store.now c.args.state.now))) c.in_ok-turn-in-Some.turn)
    (ap (λ (o : Option TextIn). some_text 1 (codes "require") vs (option_map text_bytes o)) (sym c.in-Some.is) ∙ argued c.args.store.now.texts c.args.arguments c.first-first.result _ (codes "require") c.first-first.ensures c.in_ok-found.ensures)
    (subst (λ (b : Bytes). Makes c.args.store.now c.args.state.now c.args.left.now c.require_text.new.store c.require_text.new.state c.require_text.new.left
    (require_text (world_seen c.args.state.now.codes.world) b c.args.line (frames_of c.args.store.now c.args.state.now) (slots_of c.args.store.now c.args.state.now)) c.in_ok-turn-in-Some.turn) c.as_slice-bytes.ensures c.in_ok-turn-in-Some.ensures)

pub returns : goal.returns
returns c =
    let vs = values_seen c.args.store.now.texts c.args.arguments in
    subst (λ (a : Argument Bytes). Makes c.args.store.now c.args.state.now c.args.left.now c.refuse.new.store c.args.state.now c.refuse.new.left
    (with_argument a c.args.line (frames_of c.args.store.now c.args.state.now) (slots_of c.args.store.now c.args.state.now) (λ b. require_text (world_seen c.args.state.now.codes.world) b c.args.line (frames_of c.args.store.now c.args.state.now) (slots_of c.args.store.now c.args.state.now))) c.in_ok-turn-in-None.turn)
    (ap (λ (o : Option TextIn). some_text 1 (codes "require") vs (option_map text_bytes o)) (sym c.in-None.is) ∙ argued c.args.store.now.texts c.args.arguments c.first-first.result _ (codes "require") c.first-first.ensures c.in_ok-found.ensures)
    (subst (λ (xs : List Value). Makes c.args.store.now c.args.state.now c.args.left.now c.refuse.new.store c.args.state.now c.refuse.new.left
    (fails c.args.line (bad_argument 1 (codes "require") (expected (codes "string") (values_seen c.args.store.now.texts xs))) (frames_of c.args.store.now c.args.state.now) (slots_of c.args.store.now c.args.state.now)) c.in_ok-turn-in-None.turn)
    (c.as_slice-values.ensures ∙ c.into_list-given.ensures) c.in_ok-turn-in-None.ensures)
