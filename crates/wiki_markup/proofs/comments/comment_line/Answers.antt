use Rattle.std.proofs.Common.{suc, arith, drop, length, length-drop}
use Rattle.wiki_markup.proofs.PlaceLaws.{line_none, line_begins, line_ends, line_fails, line_goes}
use Rattle.wiki_markup.proofs.comments.comment_line.Goals as goal

pub returns-in_default-clause-same : goal.returns-in_default-clause-same
returns-in_default-clause-same c = line_none c.args.text.now c.args.at c.past_blank.result c.past_blank.ensures.same c.in_default.ensures.same

pub comments-init : goal.comments-init
comments-init c = record {
  ahead = omega (arith, c.in-Some.ensures.ahead);
  inside = c.in-Some.ensures.inside;
  line = (suc (length (drop c.args.at c.args.text.now)), omega (arith, c.in-Some.ensures.ahead, c.in-Some.ensures.inside, length-drop c.args.at c.args.text.now), line_begins c.args.text.now c.args.at c.past_blank.result c.in-Some.first c.past_blank.ensures.same c.in-Some.ensures.same);
}

pub returns-in-Some-behind_word-clause-same : goal.returns-in-Some-behind_word-clause-same
returns-in-Some-behind_word-clause-same c =
    line_ends c.comments.invariant.line.0 c.args.text.now c.args.at c.comments.p c.past_blank-rest.result (drop c.in-Some-behind_word.end c.args.text.now)
    c.comments.invariant.line.1 c.comments.invariant.line.2 c.past_blank-rest.ensures.same c.in-Some-behind_word.ensures.same

pub returns-in_default-comment-clause-same : goal.returns-in_default-comment-clause-same
returns-in_default-comment-clause-same c =
    line_fails c.comments.invariant.line.0 c.args.text.now c.args.at c.comments.p c.past_blank-rest.result
    c.comments.invariant.line.1 c.comments.invariant.line.2 c.past_blank-rest.ensures.same c.in_default-behind_word.ensures.same c.in_default-comment.ensures.same

pub comments-preserved : goal.comments-preserved
comments-preserved c = record {
  ahead = omega (arith, c.in-Some-comment.ensures.ahead);
  inside = c.in-Some-comment.ensures.inside;
  line = line_goes c.comments.invariant.line.0 c.args.text.now c.args.at c.comments.p c.past_blank-rest.result c.in-Some-comment.next
      c.comments.invariant.line.1 c.comments.invariant.line.2 c.past_blank-rest.ensures.same c.in_default-behind_word.ensures.same c.in-Some-comment.ensures.same
      (omega (arith, c.in-Some-comment.ensures.ahead)) c.in-Some-comment.ensures.inside;
}
