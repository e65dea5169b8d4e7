-- THINGS, and every point: what a machine does next follows the run.
use Rattle.std.proofs.Common.{List}
use Rattle.lua_slots.specs.PageRunOutcome.{Goes, Jumps}
use Rattle.lua_heap.specs.Value.{Value}
use Rattle.lua_heap.specs.Related.{Map}
use Rattle.lua_slots.specs.LuaMeaningActs.{State, Thing}
use Rattle.lua_slots.specs.LuaMeaningWorld.{World}
use Rattle.lua_library_agree.specs.LuaMeaningThings.{meaning_of}
use Rattle.lua_slots.specs.Code.{CWorld}
use Rattle.lua_slots.specs.IsCode.{Agrees}
use Rattle.lua_slots.specs.Slots.{Slots}
use Rattle.lua_slots.specs.Points.{SThing, SFrame}
use Rattle.lua_slots.specs.Moves as machine_moves
use Rattle.lua_agree.specs.Variables.{Var}
use Rattle.lua_agree.specs.Values.{values_, jumps_}
use Rattle.lua_agree.specs.Rests.{After, SameRest}
use Rattle.lua_agree.specs.Agree.{SameThing, while_turns, repeat_turns, count_turns, each_turns, bodies, texts_of, libraries, index_links, set_links, call_links, gives, jumps, ends, evaluates, lists, finds, sets, runs, starts, texts, asks, works, Base, Rel}
use Rattle.lua_agree.specs.Follows.{Follows, begins}
use Rattle.lua_agree.specs.Laws.{GoesOn}
use Rattle.lua_agree.proofs.Parts.{here-now, calls}
use Rattle.lua_agree.proofs.Index.{index-links-on, set-links-on}
use Rattle.lua_agree.proofs.Expressions.{evals, lists-on}
use Rattle.lua_agree.proofs.Calls.{bodies-on, texts-run}
use Rattle.lua_agree.proofs.Statements.{finds-on, sets-on, runs-on}
use Rattle.lua_agree.proofs.Loops.{while-turns, repeat-turns, count-turns, each-turns}
use Rattle.lua_agree.proofs.Libraries.{library-on}
use Rattle.lua_agree.proofs.Starts.{texts-on, works-on}
use Rattle.lua_agree.proofs.Given.{goes-on, jumps-on, ends-on, end-jumps-on}

-- a thing does what it means
module _ (world : World) (code : CWorld) (a : Agrees world code) (B : Base) {m : Map} {vars : List Var} {h : State} {s : Slots} (r : Rel code B m vars h s) {k : After (List Value)} {fs : List SFrame} (g : SameRest code m vars s.functions k fs) where
  pub begins-on : {t : Thing} {t' : SThing} → SameThing code m vars s.functions t t' → Follows world code B (meaning_of world t k) h (machine_moves.begins code t' fs s)
  begins-on (while_turns e c b d see scope x y i) = while-turns world code B r k fs g e c b d see scope x y i
  begins-on (repeat_turns b c e d see scope x i) = repeat-turns world code B r k fs g b c e d see scope x i
  begins-on (count_turns x boxed index limit step b c see scope y i) = count-turns world code B r k fs g x boxed index limit step b c see scope y i
  begins-on (each_turns names flags f f' t u vs ws b c line see scope n x i y z e) = each-turns world code B r k fs g names flags f f' t u vs ws b c line see scope n x i y z e
  begins-on (bodies f p vs ws ls line x e l) = bodies-on world code B r g f p line x e l
  begins-on (texts_of source b p x) = texts-run world code B r g source b p x
  begins-on (libraries which vs ws ls line e l) = library-on world code B r a which g ls line l e
  begins-on (index_links u v i i' c d ls line x y z l) = index-links-on world code B r g ls line l x y z
  begins-on (set_links u v i i' c d x x' ls line y z e f l) = set-links-on world code B r g ls line l y z e f
  begins-on (call_links i i' vs ws ls line x e l) = calls world code B r g ls line l x e

-- EVERY POINT
pub goes_on : GoesOn
goes_on world code a B m vars p h point s r (gives (Goes vs) _ k fs (values_ _ ws e) g) = goes-on world code B r g e
goes_on world code a B m vars p h point s r (gives (Jumps j) _ k fs (jumps_ _ j' e) g) = jumps-on world code B r g e
goes_on world code a B m vars p h point s r (jumps tail j j' k fs e g) = end-jumps-on world code B s r tail s.functions e g
goes_on world code a B m vars p h point s r (ends tail see scope k fs e i g) = ends-on world code B s r tail s.functions e i g
goes_on world code a B m vars p h point s r (evaluates e c see scope k fs x i g) = evals world code B r g i e c x
goes_on world code a B m vars p h point s r (lists es cs vs ws see scope k fs x i e g) = lists-on world code B r g i es cs x e
goes_on world code a B m vars p h point s r (finds left ts found sfound right cs see scope k fs x e y i g) = finds-on world code B r i k g left ts right cs x e y
goes_on world code a B m vars p h point s r (sets ps qs scope k fs e g) = sets-on world code B r scope k g e
goes_on world code a B m vars p h point s r (runs tail b c see scope k fs x i g) = runs-on world code B r tail i k g b c x
goes_on world code a B m vars p h point s r (starts t t' k fs e g) = begins _ _ _ _ (begins-on world code a B r g e)
goes_on world code a B m vars p h point s r (texts vs ws before x y e) = texts-on world code B r x y before e
goes_on world code a B m vars p h point s r (asks q k fs g) = here-now world code B r (asks q k fs g)
goes_on world code a B m vars p h point s r (works other work w x y) = works-on world code B r x y other w work
