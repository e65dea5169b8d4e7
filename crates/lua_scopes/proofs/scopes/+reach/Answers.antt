use Rattle.std.proofs.Common.{◌∙◌, sym, ap}
use Rattle.lua_scopes.specs.Spots.{found_of}
use Rattle.lua_scopes.proofs.ReachLaws.{here, beyond}
use Rattle.lua_scopes.proofs.scopes.+reach.Goals as goal

pub returns-then-entry-len : goal.returns-then-entry-len
returns-then-entry-len t c = λ e. (e, here _ _ _ _ _ _ (c.if-entry-len.true ∙ c.len.ensures) (c.place_of.ensures ∙ ap (found_of c.args.entry.spot) c.len-then-entry-len.ensures))

pub returns : goal.returns
returns t c = λ e.
    let p = c.captured.ensures e in
    let q = c.in_ok-beyond.ensures p.0 in
    (q.0, beyond _ _ _ _ _ _ _ _ _ _ _ _ _ _ (λ h. c.if-entry-len.false (h ∙ sym c.len.ensures)) c.in-Some.ensures c.in_ok-push.ensures.ok q.1 p.1 c.find.ensures c.len-2.ensures c.in_ok-place.ensures)
