use Rattle.std.proofs.Common.{◌≡◌, map, take}
use Rattle.std.specs.List.{AllByRecursion}
use Rattle.lua_tables.specs.Repeated.{counted_seen, named_seen, IsNamedOf}
use Rattle.lua_tables.proofs.distinct.named_texts.Given as goal

abbrev pub invariant-places : goal.invariant-places
invariant-places l = record {
  named : map named_seen l.named.items ≡ take l.place (map (counted_seen l.store.texts) l.counts.entries);
  of : AllByRecursion (IsNamedOf l.store) l.named.items;
}
