use Rattle.std.proofs.Common.{refl, sym, ap, map}
use Rattle.lua_code.specs.Seen.{proto_seen}
use Rattle.lua_resolve.specs.Parts.{state_of}
use Rattle.lua_resolve.proofs.FormLaws.{text_code}
use Rattle.lua_resolve.proofs.FinishedLaws.{all_cells}
use Rattle.lua_resolve.proofs.rounds.round.Goals as goal

pub returns-clause-code : goal.returns-clause-code
returns-clause-code c = λ clean. text_code (state_of c.new-resolver.result) (state_of c.block.new.self) _ _ _ _ _ (ap (λ k. k.level) c.new-resolver.ensures.scopes) (ap (λ k. k.outer) c.new-resolver.ensures.scopes) c.in_ok-body.ensures.next c.in_ok-body.ensures.code (ap (map proto_seen) (sym c.into_finished-done.ensures.protos)) c.in_ok-constants.ensures c.new.ensures refl refl clean

pub returns-clause-cells : goal.returns-clause-cells
returns-clause-cells c = λ t. let h = c.in_ok-tight.ensures t in all_cells _ _ c.in_ok-constants.constants h.1 (c.into_finished-done.ensures.tight h.0)
