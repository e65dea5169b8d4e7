-- The laws of objects, as their contracts say them.
use Rattle.lua_heap.specs.ObjectLaws.{FreshIsFree, AddedIsThere, OldStays, OnlyAdded, PutIsThere, OthersStay, KindsFit}
use Rattle.lua_heap.proofs.LookLaws.{look-old, look-new, look-fresh, look-put, look-put_other, look-fits, look-back}

pub fresh_is_free : {X : Type 0} → FreshIsFree X
fresh_is_free h o = look-fresh h o

pub added_is_there : {X : Type 0} → AddedIsThere X
added_is_there h o = look-new h o

pub old_stays : {X : Type 0} → OldStays X
old_stays h o r x e = look-old h o r x e

pub only_added : {X : Type 0} → OnlyAdded X
only_added h o r x e = look-back h o r x e

pub put_is_there : {X : Type 0} → PutIsThere X
put_is_there h r x o f e = look-put h r x o f e

pub others_stay : {X : Type 0} → OthersStay X
others_stay h r q o d = look-put_other h r q o d

pub kinds_fit : {X : Type 0} → KindsFit X
kinds_fit h r x e = look-fits h r x e
