-- What may be done to two heaps at once, as the contracts say it.
use Rattle.lua_heap.specs.Heap.{fresh}
use Rattle.lua_heap.specs.Related.{Map}
use Rattle.lua_heap.specs.MoveLaws.{NothingMoves, ThenMoves, PutMoves, AddMoves, AddFirstMoves, PutFirstStands, SetMoves, SetMetaMoves, SetCellMoves, SetMarkupMoves, NewTableMoves, NewCellMoves, NewClosureMoves, NewMarkupMoves}
use Rattle.lua_heap.proofs.Steps.{moved-same, moved-then, moved-put, moved-add, moved-add_first, later-put_first, extend, extend-at}
use Rattle.lua_heap.proofs.Changes.{moved-set, moved-set_meta, moved-set_cell, moved-set_markup, moved-new_table, moved-new_cell, moved-new_closure, moved-new_markup}

module _ {X Y : Type 0} (R : Map → X → Y → Type 0) where
  pub nothing_moves : NothingMoves R
  nothing_moves m h s st = moved-same R m h s st

  pub then_moves : ThenMoves R
  then_moves m n o h i j s t u a b = moved-then R m n o h i j s t u a b

  pub put_moves : PutMoves R
  put_moves m h s q r o p st e f so plain open_ = moved-put R m h s q r o p st e f so plain open_

  pub add_moves : AddMoves R
  add_moves up m h s o p st so plain = (extend m (fresh h o) (fresh s p), extend-at m (fresh h o) (fresh s p), moved-add R up m h s o p st so plain)

  pub add_first_moves : AddFirstMoves R
  add_first_moves m h s o st = moved-add_first R m h s o st

  pub put_first_stands : PutFirstStands R
  put_first_stands m h s q a o st e f k = later-put_first R m h s q a o st e f k

  pub set_moves : SetMoves R
  set_moves m h s a b k l v w st e open_ p q = moved-set R m h s a b k l v w st e open_ p q

  pub set_meta_moves : SetMetaMoves R
  set_meta_moves m h s a b v w st e open_ q = moved-set_meta R m h s a b v w st e open_ q

  pub set_cell_moves : SetCellMoves R
  set_cell_moves m h s a b v w st e q = moved-set_cell R m h s a b v w st e q

  pub set_markup_moves : SetMarkupMoves R
  set_markup_moves m h s a b v w st e q = moved-set_markup R m h s a b v w st e q

  pub new_table_moves : NewTableMoves R
  new_table_moves up m h s st = moved-new_table R up m h s st

  pub new_cell_moves : NewCellMoves R
  new_cell_moves up m h s v w st e = moved-new_cell R up m h s v w st e

  pub new_closure_moves : NewClosureMoves R
  new_closure_moves up m h s v w st e = moved-new_closure R up m h s v w st e

  pub new_markup_moves : NewMarkupMoves R
  new_markup_moves up m h s v w st e = moved-new_markup R up m h s v w st e
