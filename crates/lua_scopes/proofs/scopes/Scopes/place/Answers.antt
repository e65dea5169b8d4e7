use Rattle.std.proofs.Common.{◌∙◌, ap}
use Rattle.lua_scopes.specs.Spots.{found_of}
use Rattle.lua_scopes.proofs.ReachLaws.{here}
use Rattle.lua_scopes.proofs.WholeLaws.{nowhere_placed, there_placed, there_whole}
use Rattle.lua_scopes.proofs.scopes.Scopes.place.Goals as goal

pub returns-in_default : goal.returns-in_default
returns-in_default c = nowhere_placed _ _ _ _ _ _ _ _ c.self.view_is c.self.invariant c.next-named.ensures c.find.ensures c.in_default.is

pub invariant_of-self-in-Ok : goal.invariant_of-self-in-Ok
invariant_of-self-in-Ok c = there_whole _ _ _ _ _ _ _ _ _ _ _ _ c.self.invariant c.find.ensures c.in-Some.is c.in-Ok.ensures

pub returns-in-Ok : goal.returns-in-Ok
returns-in-Ok c = there_placed _ _ _ _ _ _ _ _ _ _ _ _ _ _ c.self.view_is c.self.invariant c.next-named.ensures c.find.ensures c.in-Some.is c.in-Ok.ensures

pub returns-then-entry-len : goal.returns-then-entry-len
returns-then-entry-len c = there_placed _ _ _ _ _ _ _ _ _ _ _ _ _ _ c.self.view_is c.self.invariant c.next-named.ensures c.find.ensures c.in-Some.is (λ e. (e, here _ _ _ _ _ _ (c.if-entry-len.true ∙ c.len.ensures) (c.place_of.ensures ∙ ap (found_of c.in-Some.entry.spot) c.len-then-entry-len.ensures)))
