use Rattle.std.proofs.Common.{◌∙◌, ap, sym, subst, Option, List, ℕ}
use Rattle.std.specs.Prelude.{IfSome}
use Rattle.lua_graph.specs.LuaStoreDeclaredIdsTextId.{TextId}
use Rattle.lua_graph.specs.LuaStoreParts.{IsTextOf}
use Rattle.lua_state.specs.LuaStackLists.{given_values}
use Rattle.lua_state.specs.Of.{OutcomeOf}
use Rattle.page_meaning.specs.declared.outcome.JobOutcome.TheVariants as ending
use Rattle.page_meaning.specs.Outcomes.{end_outcome}
use Rattle.page_ground.specs.Ending.{text_or_none}
use Rattle.page_ground.proofs.MachineEnds.{only_text_of, raised_text_of, given_outcome, jump_end}
use Rattle.page_ground.proofs.ending.end_outcome.Goals as goal

pub copied_text-requires : goal.copied_text-requires
copied_text-requires c =
    subst (λ (o : Option TextId). IfSome o (IsTextOf c.args.store.now)) (sym c.only_text-found.ensures)
    (only_text_of c.args.store.now (given_values c.in-Goes.given) (subst (OutcomeOf c.args.store.now) c.in-Goes.is c.requires))

pub copied_text-requires-in-Jumps : goal.copied_text-requires-in-Jumps
copied_text-requires-in-Jumps c =
    subst (λ (o : Option TextId). IfSome o (IsTextOf c.args.store.now)) (sym c.raised_text-found.ensures)
    (raised_text_of c.args.store.now c.in-Jumps.jump (subst (OutcomeOf c.args.store.now) c.in-Jumps.is c.requires))

pub returns-in_ok-text-in-Goes : goal.returns-in_ok-text-in-Goes
returns-in_ok-text-in-Goes c =
    rw c.in-Goes.is
    (ap (λ (t : List ℕ). ending.Done t) (c.in_ok-text-in-Goes.ensures ∙ ap (text_or_none c.args.store.now.texts) c.only_text-found.ensures)
    ∙ given_outcome c.args.store.now.texts (given_values c.in-Goes.given))

pub returns-in_ok-message-in-Jumps : goal.returns-in_ok-message-in-Jumps
returns-in_ok-message-in-Jumps c =
    rw c.in-Jumps.is
    (ap (λ (t : List ℕ). ending.Failed t) (c.in_ok-message-in-Jumps.ensures ∙ ap (text_or_none c.args.store.now.texts) c.raised_text-found.ensures)
    ∙ sym (ap end_outcome (jump_end c.args.store.now.texts c.in-Jumps.jump)))
