use Rattle.std.proofs.Common.{◌≡◌, ◌++◌, ◌∙◌, sym, subst}
use Rattle.lua_basic.proofs.LuaStoreLater.{later-then}
use Rattle.lua_basic.specs.Seen.{values_seen, AllOf}
use Rattle.lua_basic.proofs.Lists.{all-with}
use Rattle.lua_basic.specs.LuaMeaningSearches.{captures_given, capture_value}
use Rattle.lua_strings.proofs.Given.{values_stay, one_more}
use Rattle.lua_strings.proofs.captures.push_captures.Goals as goal

pub captures-preserved : goal.captures-preserved
captures-preserved c =
    let u = c.captures-2.store in
    let t = c.capture_value.new.store in
    let vs = c.captures-2.values in
    let whole = values_seen c.args.store.now.texts c.args.values.now ++ captures_given c.args.s.now c.args.captures.now in
    let stay = (values_stay u t vs c.in_ok-value.ensures.later c.captures-2.invariant.of).0 in
    let rest = subst (λ cs. values_seen u.texts vs ++ captures_given c.args.s.now cs ≡ whole) c.in-Some.ensures c.captures-2.invariant.more in
    record {
      of = subst (AllOf t) (sym c.in_ok-push.ensures.ok) (all-with t vs c.in_ok-value.value stay c.in_ok-value.ensures.of);
      heap = c.in_ok-value.ensures.heap ∙ c.captures-2.invariant.heap;
      later = later-then c.args.store.now u t c.captures-2.invariant.later c.in_ok-value.ensures.later;
      more = one_more u t vs c.push.new.self c.in_ok-value.value (capture_value c.args.s.now c.in-Some.capture) (captures_given c.args.s.now c.in-Some.more.now) whole
          c.in_ok-value.ensures.later c.captures-2.invariant.of c.in_ok-push.ensures.ok c.in_ok-value.ensures.value rest;
    }
