use Rattle.std.proofs.Common.{◌≡◌, ◌<◌, length, get_or, subst, rules}
use Rattle.std.proofs.lemmas.List.{drop_more}
use Rattle.lua_flat_code.specs.Making.{state_of, Led}
use Rattle.lua_flat_code.proofs.MakingLaws.{led_step}
use Rattle.lua_flat_code.proofs.maker.Maker.lead_all.Goals as goal

pub loop-at-preserved : goal.loop-at-preserved
loop-at-preserved c =
    let within : c.loop-at.at-index < length c.args.jumps.now = search rules in
    led_step _ _ _ _ _ _ _ _ c.loop-at.invariant (drop_more c.args.jumps.now c.loop-at.at-index 0 within)
    (subst (λ js. Led (get_or js c.loop-at.at-index 0) c.args.target (state_of c.loop-at.self) (state_of c.lead.new.self)) c.as_slice-at-items.ensures c.in_ok-lead.ensures)
