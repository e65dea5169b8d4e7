-- What is reached and what is owned, as the contracts say it.
use Rattle.lua_heap.specs.ReachLaws.{LedIsReached, ReachedIsLed, OwnLedIsOwned, OwnedIsLed, OwnIsASet, OwnedIsReached, OwnedIsNotShared, ReachedIsOwned, OwnSetsClose, ClosedSetsOwn, UnownedStays}
use Rattle.lua_heap.proofs.Reached.{leads-reached, leads-owned, owned-reached, owned-plain, reached-owned, closed-own, own-closed}
use Rattle.lua_heap.proofs.Found.{reached-leads, owned-leads, owned-set_is, unowned}

module _ {X : Type 0} where
  pub led_is_reached : LedIsReached X
  led_is_reached names s roots r l = leads-reached names s roots r l

  pub reached_is_led : ReachedIsLed X
  reached_is_led names s roots S c i r h = reached-leads names s roots S c i r h

  pub own_led_is_owned : OwnLedIsOwned X
  own_led_is_owned names s roots r l = leads-owned names s roots r l

  pub owned_is_led : OwnedIsLed X
  owned_is_led names s roots S c i r h = owned-leads names s roots S c i r h

  pub own_is_a_set : OwnIsASet X
  own_is_a_set names s roots S c i = let u = owned-set_is names s roots S c i in (u.0, u.1, u.2, λ r h. leads-owned names s roots r (u.3 r h))

  pub owned_is_reached : OwnedIsReached X
  owned_is_reached names s roots r o = owned-reached names s roots r o

  pub owned_is_not_shared : OwnedIsNotShared X
  owned_is_not_shared names s roots r o S c v = owned-plain names s roots r o S c v

  pub reached_is_owned : ReachedIsOwned X
  reached_is_owned names s roots r deep h n = reached-owned names s roots r deep h n

  pub own_sets_close : OwnSetsClose X
  own_sets_close names S s deep own = closed-own names S s deep own

  pub closed_sets_own : ClosedSetsOwn X
  closed_sets_own names S s c = own-closed names S s c

  pub unowned_stays : UnownedStays X
  unowned_stays names s roots S c i t f r b e n = unowned names s roots S c i t f r b e n
