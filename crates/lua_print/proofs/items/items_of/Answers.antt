use Rattle.std.proofs.Common.{◌≡◌, ◌∙◌, ◌<◌, ◌+◌, List, length, drop, ap, sym, subst, arith}
use Rattle.lua_print.specs.Items.{Item, items_of}
use Rattle.lua_print.specs.declared.items.Gap.TheVariants.{First}
use Rattle.lua_lexer.proofs.Lists.{there, empty_is}
use Rattle.lua_print.proofs.ItemLemmas.{Rest, rest_start, next_inside, token_is, is_next, space_step, item_step, front_fits, space_fits, few_tokens, rest_end}
use Rattle.lua_print.proofs.items.items_of.Goals as goal

pub loop-left-init : goal.loop-left-init
loop-left-init c = record {
  rest = subst (λ (is : List Item). Rest c.args.tokens.now is First c.args.text.now 0 (items_of c.args.text.now)) (sym c.new-items.ensures.items) (rest_start c.args.text.now c.args.tokens.now c.requires.lexed);
  sum = omega arith;
  few = omega arith;
}

pub token_at-token-requires : goal.token_at-token-requires
token_at-token-requires c = next_inside c.args.tokens.now c.loop-left.next _ _ _ _ _ c.loop-left.invariant.rest

pub front-requires : goal.front-requires
front-requires c =
    let some : 0 < length c.loop-left.left.now = there c.loop-left.left.now _ c.is_empty.ensures c.loop-left-test.true in
    record {
      short = omega (arith, c.loop-left.invariant.sum, c.requires.short);
      next = is_next c.args.tokens.now c.loop-left.next _ _ _ _ _ _ some (token_is _ _ _ (next_inside c.args.tokens.now c.loop-left.next _ _ _ _ _ c.loop-left.invariant.rest) c.token_at-token.ensures) c.loop-left.invariant.rest;
    }

pub split_at-requires : goal.split_at-requires
split_at-requires c =
    let some : 0 < length c.loop-left.left.now = there c.loop-left.left.now _ c.is_empty.ensures c.loop-left-test.true in
    (space_fits c.loop-left.left.now c.in-Space.size some c.in-Space.ensures).1

pub split_at-requires-in-Shown : goal.split_at-requires-in-Shown
split_at-requires-in-Shown c =
    let some : 0 < length c.loop-left.left.now = there c.loop-left.left.now _ c.is_empty.ensures c.loop-left-test.true in
    (front_fits c.loop-left.left.now c.in-Shown.class c.in-Shown.size some c.in-Shown.ensures).1

pub overflow_add-next : goal.overflow_add-next
overflow_add-next c =
    let few = few_tokens c.in-Shown.class c.tokens_in-next.result c.tokens_in-next.ensures in
    omega (arith, few, c.loop-left.invariant.few, c.loop-left.invariant.sum, c.requires.short)

pub loop-left-preserved-in-Space : goal.loop-left-preserved-in-Space
loop-left-preserved-in-Space c =
    let some : 0 < length c.loop-left.left.now = there c.loop-left.left.now _ c.is_empty.ensures c.loop-left-test.true in
    let shorter : length c.split_at.result.1.now + c.in-Space.size ≡ length c.loop-left.left.now = c.split_at.ensures.back_len in
    record {
      rest = space_step (drop c.loop-left.next c.args.tokens.now) c.loop-left.items.items c.loop-left.gap c.behind_space-gap.result c.loop-left.left.now c.split_at.result.1.now c.split_at.result.0.now c.loop-left.place c.in-Space.size c.breaks.result (items_of c.args.text.now)
          some c.in-Space.ensures c.split_at.ensures.front c.split_at.ensures.back c.breaks.ensures.number c.behind_space-gap.ensures c.loop-left.invariant.rest;
      sum = omega (arith, shorter, c.loop-left.invariant.sum);
      few = omega (arith, c.loop-left.invariant.few);
    }

pub loop-left-preserved : goal.loop-left-preserved
loop-left-preserved c =
    let some : 0 < length c.loop-left.left.now = there c.loop-left.left.now _ c.is_empty.ensures c.loop-left-test.true in
    let fits = front_fits c.loop-left.left.now c.in-Shown.class c.in-Shown.size some c.in-Shown.ensures in
    let few = few_tokens c.in-Shown.class c.tokens_in-next.result c.tokens_in-next.ensures in
    let shorter : length c.split_at-in-Shown.result.1.now + c.in-Shown.size ≡ length c.loop-left.left.now = c.split_at-in-Shown.ensures.back_len in
    record {
      rest = item_step c.args.tokens.now c.loop-left.next c.loop-left.items.items c.push.new.items.items c.loop-left.gap c.in-Shown.class c.loop-left.left.now c.split_at-in-Shown.result.1.now c.split_at-in-Shown.result.0.now c.loop-left.place c.in-Shown.size c.tokens_in-next.result (items_of c.args.text.now)
          some c.in-Shown.ensures c.split_at-in-Shown.ensures.front c.split_at-in-Shown.ensures.back c.in_ok-push-in-Shown.ensures c.tokens_in-next.ensures c.loop-left.invariant.rest;
      sum = omega (arith, shorter, c.loop-left.invariant.sum);
      few = omega (arith, few, fits.0, c.loop-left.invariant.few);
    }

pub loop-left-smaller-in-Space : goal.loop-left-smaller-in-Space
loop-left-smaller-in-Space c =
    let some : 0 < length c.loop-left.left.now = there c.loop-left.left.now _ c.is_empty.ensures c.loop-left-test.true in
    let positive : 0 < c.in-Space.size = (space_fits c.loop-left.left.now c.in-Space.size some c.in-Space.ensures).0 in
    let shorter : length c.split_at.result.1.now + c.in-Space.size ≡ length c.loop-left.left.now = c.split_at.ensures.back_len in
    omega (arith, positive, shorter)

pub loop-left-smaller : goal.loop-left-smaller
loop-left-smaller c =
    let some : 0 < length c.loop-left.left.now = there c.loop-left.left.now _ c.is_empty.ensures c.loop-left-test.true in
    let positive : 0 < c.in-Shown.size = (front_fits c.loop-left.left.now c.in-Shown.class c.in-Shown.size some c.in-Shown.ensures).0 in
    let shorter : length c.split_at-in-Shown.result.1.now + c.in-Shown.size ≡ length c.loop-left.left.now = c.split_at-in-Shown.ensures.back_len in
    omega (arith, positive, shorter)

pub returns : goal.returns
returns c =
    let none : length c.loop-left.left.now ≡ 0 = ap length (empty_is c.loop-left.left.now (sym c.is_empty.ensures ∙ c.loop-left-test.false)) in
    rest_end _ c.loop-left.items.items _ c.loop-left.left.now _ _ none c.loop-left.invariant.rest
