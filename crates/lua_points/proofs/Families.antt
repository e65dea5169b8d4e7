-- Many machines of one store stay apart.
use Rattle.std.proofs.Common.{List, [], ◌∷◌, refl}
use Rattle.lua_heap.specs.Proc.{Proc}
use Rattle.lua_heap.specs.Heap.{Heap}
use Rattle.lua_heap.specs.Reach.{Set, nowhere, with_new, MeetShared, Frame}
use Rattle.lua_heap.proofs.Frames.{meet-back, shared-stays}
use Rattle.lua_heap.proofs.Names.{all-map}
use Rattle.lua_points.specs.Laws.{IsThere}
use Rattle.lua_points.specs.Families.{MeetsNone, AreApart, OneMore, OneGoes, OneIsAnswered, DataIsPut, OrderIsFree}
use Rattle.lua_points.proofs.Standings.{apart}
use Rattle.lua_points.proofs.Points.{neighbours_stay_apart, set_stays_there}
use Rattle.lua_points.proofs.Answers.{answers_are_there, answers_stay_apart}

pub one_more : OneMore
one_more s others a = (λ r e. apart (nowhere r) e refl, all others, a)
  where
    all : (sets : List Set) → MeetsNone s nowhere sets
    all [] = tt
    all (T ∷ sets) = (λ r e f. apart (nowhere r) e refl, all sets)

-- what was there is there, and what met in read-only tables meets in them
there-stays : (S T : Set) (s t : Heap Proc) → Frame S s t → IsThere T s → IsThere T t
there-stays S T s t f there r e = let v = there r e in f.lives r v.0 v.1

meets-stays : (S T U : Set) (s t : Heap Proc) → Frame S s t → MeetShared s T U → MeetShared t T U
meets-stays S T U s t f meet r e g = shared-stays S s t f r (meet r e g)

others-stay : (S : Set) (sets : List Set) (s t : Heap Proc) → Frame S s t → AreApart s sets → AreApart t sets
others-stay S [] s t f a = tt
others-stay S (T ∷ sets) s t f a = (
  there-stays S T s t f a.0,
  all-map (MeetShared s T) (MeetShared t T) (λ U meet. meets-stays S T U s t f meet) sets a.1,
  others-stay S sets s t f a.2,
)

pub one_goes : OneGoes
one_goes S others s t f a = (set_stays_there S s t f a.0, meets others a.1 a.2, others-stay S others s t f a.2)
  where
    meets : (sets : List Set) → MeetsNone s S sets → AreApart s sets → MeetsNone t (with_new S s t) sets
    meets [] m b = tt
    meets (T ∷ sets) m b = ((neighbours_stay_apart S T s t f m.0 b.0).0, meets sets m.1 b.2)

pub one_is_answered : OneIsAnswered
one_is_answered K S others s a o k b = (
  answers_are_there K S s a o k b.0,
  all-map (MeetShared s S) (MeetShared s _) (λ T meet. answers_stay_apart K S T s a o k meet) others b.1,
  b.2,
)

pub data_is_put : DataIsPut
data_is_put g value sets s t p a = others-stay nowhere sets s t p.frame a

pub order_is_free : OrderIsFree
order_is_free s S T others a = (a.2.0, (meet-back s S T a.1.0, a.2.1), (a.0, a.1.1, a.2.2))
