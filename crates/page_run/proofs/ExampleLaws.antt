-- The small runs compute.
use Rattle.std.proofs.Common.{refl}
use Rattle.page_run.specs.Perform.{perform}
use Rattle.page_run.specs.Trace.{trace}
use Rattle.page_run.specs.Examples.{ChargesAreTaken, EndlessLoopIsSpent, UsesAreAnswered, NestingEndsWithNodes, QuestionsAreAnswered, NotesAreCollected}
use Rattle.page_run.specs.Jumps.{JumpsAreCaught}

pub charges_are_taken : ChargesAreTaken
unfolding perform
charges_are_taken = refl

pub endless_loop_is_spent : EndlessLoopIsSpent
unfolding perform
endless_loop_is_spent = refl

pub uses_are_answered : UsesAreAnswered
unfolding perform
uses_are_answered = refl

pub nesting_ends_with_nodes : NestingEndsWithNodes
unfolding perform
nesting_ends_with_nodes = refl

pub questions_are_answered : QuestionsAreAnswered
unfolding perform
questions_are_answered = refl

pub jumps_are_caught : JumpsAreCaught
unfolding perform
jumps_are_caught = refl

pub notes_are_collected : NotesAreCollected
unfolding perform trace
notes_are_collected = (refl, refl)
