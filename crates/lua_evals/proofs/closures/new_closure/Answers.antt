use Rattle.std.proofs.lemmas.Result.{IfOk-weaker}
use Rattle.std.proofs.Common.{◌∙◌, ap, sym}
use Rattle.std.specs.Option.{option_copied}
use Rattle.std.specs.Prelude.{◌∷◌, [], map}
use Rattle.lua_code.specs.Seen.{place_seen}
use Rattle.lua_operators.specs.LuaSlotsErrors.{gives}
use Rattle.lua_operators.specs.LuaSlotsSlots.{Activation, next_closure, proc_of, with_closure}
use Rattle.lua_operators.specs.LuaStoreSeen.{StoreView}
use Rattle.lua_state.proofs.Newest.{found, found_of, absent}
use Rattle.lua_state.proofs.Staying.{state_later}
use Rattle.lua_evals.proofs.Ends.{over_text}
use Rattle.lua_evals.proofs.closures.new_closure.Goals as goal

pub closure_in-requires-clause-source : goal.closure_in-requires-clause-source
closure_in-requires-clause-source c = (found_of c.args.store.now c.args.state.now.functions c.in-Some.newest.now (ap option_copied (sym c.in-Some.is) ∙ c.newest.ensures) c.requires.state.functions).source

pub closure_in-requires-clause-title : goal.closure_in-requires-clause-title
closure_in-requires-clause-title c = sym (ap (λ (a : Activation). a.source) (found c.args.store.now c.args.state.now.functions c.in-Some.newest.now (ap option_copied (sym c.in-Some.is) ∙ c.newest.ensures)))

pub closure_in-requires-in-None-clause-state : goal.closure_in-requires-in-None-clause-state
closure_in-requires-in-None-clause-state c = state_later c.args.store.now c.text.new.self c.in_ok-source-in-None.ensures.later c.args.state.now c.requires.state

pub closure_in-requires-in-None-clause-title : goal.closure_in-requires-in-None-clause-title
closure_in-requires-in-None-clause-title c =
    c.in_ok-source-in-None.ensures.there ∙ sym (ap (λ (a : Activation). a.source) (absent c.text.new.self c.args.state.now.functions (ap option_copied (sym c.in-None.is) ∙ c.newest.ensures)))

pub returns-in-Some : goal.returns-in-Some
returns-in-Some c = c.closure_in.ensures

pub returns-in_ok-source-in-None : goal.returns-in_ok-source-in-None
returns-in_ok-source-in-None c = λ l.
    IfOk-weaker c.closure_in-in-None.result _ _ (λ r e. over_text c.args.store.now c.text.new.self c.closure_in-in-None.new.store c.args.state.now c.args.state.now l l _
    (λ fs s. gives (next_closure s ∷ []) fs (with_closure (proc_of c.args.index (map place_seen c.args.places.now) s) s)) c.requires.state c.in_ok-source-in-None.ensures.later
    (ap (λ (x : StoreView). x.heap) c.in_ok-source-in-None.ensures.added) e) (c.closure_in-in-None.ensures l)
