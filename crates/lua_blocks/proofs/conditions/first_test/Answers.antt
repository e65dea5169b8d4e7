use Rattle.std.proofs.lemmas.Result.{IfOk-weaker}
use Rattle.std.proofs.Common.{◌∙◌, ap, sym, refl, List}
use Rattle.std.specs.Prelude.{option_map}
use Rattle.lua_code.specs.declared.statement.Branch.{Branch}
use Rattle.lua_code.specs.Seen.{branches_seen, block_seen}
use Rattle.lua_code.specs.LuaSlotsStatements.{branches}
use Rattle.lua_state.specs.Seen.{slots_of, frames_of}
use Rattle.lua_blocks.proofs.Parts.{with_frames_of, stepped}
use Rattle.lua_blocks.proofs.conditions.first_test.Goals as goal

pub finish-requires-clause-state : goal.finish-requires-clause-state
finish-requires-clause-state c = with_frames_of c.args.store.now c.args.state.now c.branches.new.frames c.requires.state c.in_ok-step.ensures.of.1

pub returns : goal.returns
returns c =
    IfOk-weaker c.finish.result _ _ (λ r e. stepped c.args.store.now c.finish.new.store c.args.state.now c.branches.new.frames c.args.left.now c.finish.new.left _ c.in_ok-step.step _
    (ap (λ (x : List Branch). branches (branches_seen x) (option_map (λ b. block_seen b.now) c.args.other) (frames_of c.args.store.now c.args.state.now) (slots_of c.args.store.now c.args.state.now)) (sym c.as_slice-arms.ensures)
    ∙ c.in_ok-step.ensures.move_ (slots_of c.args.store.now c.args.state.now) refl) e) c.finish.ensures.makes
