use Rattle.std.proofs.Common.{◌∙◌, ap, sym}
use Rattle.std.specs.Option.{option_copied}
use Rattle.mw_frames.specs.LuaStoreSeen.{StoreView}
use Rattle.mw_frames.proofs.LuaStoreLater.{later-itself}
use Rattle.lua_goes.specs.LuaSlotsSlots.{Activation}
use Rattle.lua_state.proofs.Newest.{found, found_of, absent}
use Rattle.lua_state.proofs.constants.running_source.Goals as goal

pub returns-in-Some-clause-of : goal.returns-in-Some-clause-of
returns-in-Some-clause-of c = (found_of c.args.store.now c.args.functions.now c.in-Some.newest.now (ap option_copied (sym c.in-Some.is) ∙ c.newest.ensures) c.requires).source

pub returns-in-Some-clause-later : goal.returns-in-Some-clause-later
returns-in-Some-clause-later c = later-itself c.args.store.now

pub returns-in-Some-clause-title : goal.returns-in-Some-clause-title
returns-in-Some-clause-title c = sym (ap (λ (a : Activation). a.source) (found c.args.store.now c.args.functions.now c.in-Some.newest.now (ap option_copied (sym c.in-Some.is) ∙ c.newest.ensures)))

pub returns-in_ok-id-in-None-clause-of : goal.returns-in_ok-id-in-None-clause-of
returns-in_ok-id-in-None-clause-of c = c.in_ok-id-in-None.ensures.of

pub returns-in_ok-id-in-None-clause-later : goal.returns-in_ok-id-in-None-clause-later
returns-in_ok-id-in-None-clause-later c = c.in_ok-id-in-None.ensures.later

pub returns-in_ok-id-in-None-clause-heap : goal.returns-in_ok-id-in-None-clause-heap
returns-in_ok-id-in-None-clause-heap c = ap (λ (x : StoreView). x.heap) c.in_ok-id-in-None.ensures.added

pub returns-in_ok-id-in-None-clause-title : goal.returns-in_ok-id-in-None-clause-title
returns-in_ok-id-in-None-clause-title c = c.in_ok-id-in-None.ensures.there ∙ sym (ap (λ (a : Activation). a.source) (absent c.args.store.now c.args.functions.now (ap option_copied (sym c.in-None.is) ∙ c.newest.ensures)))
