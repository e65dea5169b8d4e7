-- Data modules that are loaded while a machine waits; and what a point looks at, in terms of what is owned.
use Rattle.std.proofs.Common.{refl, subst, inl, inr}
use Rattle.lua_heap.specs.Heap.{Obj, IsShared}
use Rattle.lua_heap.specs.Reach.{shared_at}
use Rattle.lua_heap.proofs.Places.{some_back}
use Rattle.lua_heap.proofs.Sets.{or-back, shared-back}
use Rattle.lua_heap.proofs.GraphLaws.{put_is_kept, kept_stays_apart}
use Rattle.lua_heap.proofs.ReachLaws.{own_is_a_set}
use Rattle.lua_heap.specs.Proc.{Proc, proc_names}
use Rattle.lua_agree.specs.Named.{roots}
use Rattle.lua_points.specs.Told.{as_text, as_none, as_tables, as_failure}
use Rattle.lua_points.specs.Laws.{PointLooksAtOwned, LoadIsAnswer, AnswersWait}
use Rattle.lua_points.proofs.Points.{at-frame, plain_image, plain-own, plain-roots, point_looks_at_own}
use Rattle.std.proofs.Common.{sym, ◌∙◌}

pub load_is_answer : LoadIsAnswer
load_is_answer code S world work first given point s f a there g value t p =
    let k = put_is_kept S g value s.heap t p there in (
      at-frame code S world work first given point s f a t (λ r o h e. p.frame.others r o e refl),
      (k.0, as_tables k.0 S t g value k.1),
    )

pub answers_wait : AnswersWait
answers_wait T _ S s t _ _ (as_text _ _ x) f = as_text _ t x
answers_wait T _ S s t _ _ (as_none _ _) f = as_none _ t
answers_wait T _ S s t _ _ (as_failure _ _ x) f = as_failure _ t x
answers_wait T _ S s t _ _ (as_tables K _ _ g value k) f = as_tables K _ t g value (kept_stays_apart T K S g value s t k f)

pub point_looks_at_owned : PointLooksAtOwned
point_looks_at_owned code S world work first given point s f t a own shared =
    let u = own_is_a_set proc_names s.heap (roots point s) (plain_image code S world work first given point s f a) (plain-own code S world work first given point s f a) (plain-roots code S world work first given point s f a) in (
      u.0,
      u.3,
      point_looks_at_own code S u.0 world work first given point s f t a u.1 u.2
          (λ r o h e. elim (or-back (u.0 r) (shared_at s.heap r) h) [
            | inl y ↦ own r o (u.3 r y) e
            | inr y ↦ let v = shared-back s.heap r y in shared r o e (subst (λ (x : Obj Proc). IsShared x) (some_back (sym v.1 ∙ e)) v.2)
          ]),
    )
