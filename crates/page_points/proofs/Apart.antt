-- Who goes on, is answered or begins, and data that is put into the store, leave the others alone.
use Rattle.std.proofs.Common.{List, [], ◌∷◌, true, refl}
use Rattle.page_meaning.specs.PageRunOutcome.{Outcome}
use Rattle.lua_points.specs.LuaHeapProc.{Proc}
use Rattle.lua_walk.specs.LuaHeapValue.{Value}
use Rattle.lua_walk.specs.LuaHeapHeap.{Heap}
use Rattle.lua_walk.specs.LuaHeapReach.{Set, nowhere, union, with_new, Frame}
use Rattle.lua_walk.specs.LuaHeapGraph.{Graph, IsPut}
use Rattle.lua_walk.proofs.LuaHeapFrames.{neighbour}
use Rattle.page_meaning.specs.LuaMeaningQuestions.{Answer}
use Rattle.page_meaning.specs.LuaMeaningActs.{Jump}
use Rattle.lua_points.specs.Told.{IsToldAs}
use Rattle.lua_points.specs.Families.{AreApart}
use Rattle.lua_points.proofs.Families.{one_more, one_goes, one_is_answered, data_is_put}
use Rattle.page_points.specs.Apart.{LeavesAlone}

pub nothing_changes : (S : Set) (s : Heap Proc) → LeavesAlone S s s S
nothing_changes S s = record { alone = λ T a r o i e. e; apart = λ others a. a }

pub one_after_another : (S S' S'' : Set) (s t u : Heap Proc) → LeavesAlone S s t S' → LeavesAlone S' t u S'' → LeavesAlone S s u S''
one_after_another S S' S'' s t u f g = record {
  alone = λ T a r o i e. g.alone T (f.apart (T ∷ []) a) r o i (f.alone T a r o i e);
  apart = λ others a. g.apart others (f.apart others a);
}

pub going_leaves : (S : Set) (s t : Heap Proc) → Frame S s t → LeavesAlone S s t (with_new S s t)
going_leaves S s t f = record { alone = λ T a r o i e. neighbour S T s t a.1.0 f r o i e; apart = λ others a. one_goes S others s t f a }

pub answering_leaves : (K S : Set) (s : Heap Proc) (a : Answer) (o : Outcome (List Value) Jump) → IsToldAs K S s a o → LeavesAlone S s s (union S K)
answering_leaves K S s a o k = record { alone = λ T b r x i e. e; apart = λ others b. one_is_answered K S others s a o k b }

pub data_leaves : (S : Set) (g : Graph) (value : Value) (s t : Heap Proc) → IsPut true g value s t → LeavesAlone S s t S
data_leaves S g value s t p = record { alone = λ T a r o i e. p.frame.others r o e refl; apart = λ others a. data_is_put g value (S ∷ others) s t p a }

pub nobody_is_there : (s : Heap Proc) (others : List Set) → AreApart s others → AreApart s (nowhere ∷ others)
nobody_is_there s others a = one_more s others a
