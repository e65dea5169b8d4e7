use Rattle.std.proofs.Common.{◌≡◌, ◌∙◌, ◌++◌, ◌∷◌, [], ap, sym, subst, map, rules}
use Rattle.std.specs.List.{AllByRecursion}
use Rattle.lua_tables.specs.Repeated.{counted_seen, named_seen, IsNamedOf}
use Rattle.lua_tables.proofs.Repeats.{take_get, map-with, named-with}
use Rattle.lua_tables.proofs.distinct.named_texts.Goals as goal

pub places-preserved : goal.places-preserved
places-preserved c =
    let s = c.args.store.now in
    let n = c.named_at.result in
    let pushed = c.in_ok-push.ensures in
    record {
      named = ap (map named_seen) pushed ∙ map-with named_seen c.places.named.items n ∙ ap (λ xs. xs ++ named_seen n ∷ []) c.places.invariant.named
          ∙ sym (take_get (map (counted_seen s.texts) c.args.counts.now.entries) c.places.place (named_seen n) c.named_at.ensures.named);
      of = subst (AllByRecursion (IsNamedOf s)) (sym pushed) (named-with s c.places.named.items n c.places.invariant.of c.named_at.ensures.of);
    }
