use Rattle.std.proofs.Common.{subst}
use Rattle.mw_frame.specs.declared.question.Ask.{Ask}
use Rattle.page_tasks.specs.PageGroundGround.{ground_of}
use Rattle.page_driver.specs.Driven.{InProgress}
use Rattle.page_driver.specs.Moving.{asks_with}
use Rattle.page_driver.proofs.asking.answer_question.Goals as goal

pub ask_template-requires : goal.ask_template-requires
ask_template-requires g c = subst (λ (q : Ask). InProgress (ground_of c.args.around.now) c.args.store.now c.args.left.now c.args.turns.now c.args.tower.now (asks_with c.args.task q)) c.in-Template.is c.requires

pub ask_text-requires : goal.ask_text-requires
ask_text-requires g c = subst (λ (q : Ask). InProgress (ground_of c.args.around.now) c.args.store.now c.args.left.now c.args.turns.now c.args.tower.now (asks_with c.args.task q)) c.in-Preprocess.is c.requires

pub ask_data-requires : goal.ask_data-requires
ask_data-requires g c = subst (λ (q : Ask). InProgress (ground_of c.args.around.now) c.args.store.now c.args.left.now c.args.turns.now c.args.tower.now (asks_with c.args.task q)) c.in-Data.is c.requires

pub returns-in-Template-clause-moves : goal.returns-in-Template-clause-moves
returns-in-Template-clause-moves g c = rw c.in-Template.is c.ask_template.ensures.moves

pub returns-in-Template-clause-sinks : goal.returns-in-Template-clause-sinks
returns-in-Template-clause-sinks g c = rw c.in-Template.is c.ask_template.ensures.sinks

pub returns-in-Preprocess-clause-moves : goal.returns-in-Preprocess-clause-moves
returns-in-Preprocess-clause-moves g c = rw c.in-Preprocess.is c.ask_text.ensures.moves

pub returns-in-Preprocess-clause-sinks : goal.returns-in-Preprocess-clause-sinks
returns-in-Preprocess-clause-sinks g c = rw c.in-Preprocess.is c.ask_text.ensures.sinks

pub returns-in-Data-clause-moves : goal.returns-in-Data-clause-moves
returns-in-Data-clause-moves g c = rw c.in-Data.is c.ask_data.ensures.moves

pub returns-in-Data-clause-sinks : goal.returns-in-Data-clause-sinks
returns-in-Data-clause-sinks g c = rw c.in-Data.is c.ask_data.ensures.sinks
