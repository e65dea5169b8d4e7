-- The laws, by name.
use Rattle.lua_heap.specs.Related.{Map}
use Rattle.lua_library_agree.specs.Laws.{LibraryAgrees, FieldsAgree, MetatablesAgree, HandlersAgree, EitherHandlersAgree, CommonHandlersAgree, MadeFramesAgree, HomesAgree, StrictAgrees, GraphsJoin}
use Rattle.lua_library_agree.proofs.Heaps.{field-same, metatable-same, handler-same, either_handler-same, common_handler-same}
use Rattle.lua_library_agree.proofs.FrameTables.{frame-made, strict-made}
use Rattle.lua_library_agree.proofs.Agreements.{all-agree}
use Rattle.lua_library_agree.proofs.Homes as homes
use Rattle.lua_library_agree.proofs.Joins as joins

module _ {X Y : Type 0} (R : Map → X → Y → Type 0) where
  pub library_agrees : LibraryAgrees R
  library_agrees up world other page which m h s st vs ws e fs gs ef = all-agree R up m h s st world other vs ws e fs gs ef page which

  pub fields_agree : FieldsAgree R
  fields_agree m h s st a b name e = field-same R m h s st a b name e

  pub metatables_agree : MetatablesAgree R
  metatables_agree m h s st a b e = metatable-same R m h s st a b e

  pub handlers_agree : HandlersAgree R
  handlers_agree m h s st a b event e = handler-same R m h s st a b event e

  pub either_handlers_agree : EitherHandlersAgree R
  either_handlers_agree m h s st a b c d event e f = either_handler-same R m h s st a b c d event e f

  pub common_handlers_agree : CommonHandlersAgree R
  common_handlers_agree m h s st a b c d event e f = common_handler-same R m h s st a b c d event e f

  pub made_frames_agree : MadeFramesAgree R
  made_frames_agree up m h s st scene k parent = frame-made R up m h s st scene k parent

  pub homes_agree : HomesAgree R
  homes_agree = homes.homes_agree R

  pub strict_agrees : StrictAgrees R
  strict_agrees up m h s st a b e open_ = strict-made R up m h s st a b e open_

  pub graphs_join : GraphsJoin R
  graphs_join = joins.graphs_join R
