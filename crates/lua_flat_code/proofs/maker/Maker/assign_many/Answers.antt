use Rattle.std.proofs.Common.{◌≡◌, ◌∙◌, length, sym, rules}
use Rattle.std.proofs.lemmas.Result.{on_ok_weaker}
use Rattle.std.proofs.lemmas.List.{length-map}
use Rattle.lua_code.specs.Seen.{target_seen}
use Rattle.lua_flat_code.proofs.TargetLaws.{said_many, said_refused}
use Rattle.lua_flat_code.proofs.maker.Maker.assign_many.Goals as goal

pub returns-then-all : goal.returns-then-all
returns-then-all c = on_ok_weaker c.emit.result (λ e. said_refused _ _ _ _ _ _ _ c.if-all.true c.in_ok-all.ensures e) c.emit.ensures

pub returns : goal.returns
returns c =
    let count : c.in_ok-count.count ≡ length c.args.targets.now = search rules in
    on_ok_weaker c.set_all.result (λ h. said_many _ _ _ _ _ _ _ _ _ _ _ _ c.if-all.false c.in_ok-all.ensures (count ∙ sym (length-map c.args.targets.now target_seen)) c.in_ok-take.ensures.0 c.in_ok-take.ensures.1 c.in_ok-exact.ensures c.as_slice.ensures h) c.set_all.ensures
