use Rattle.std.proofs.Common.{◌≡◌, ◌+◌, ◌≤◌, length, drop}
use Rattle.wiki_markup.specs.Shown.{behind}
use Rattle.wiki_markup.proofs.words.behind_word.Given as goal

abbrev pub invariant-loop-w : goal.invariant-loop-w
invariant-loop-w l = record {
  inside : l.p ≤ length l.text;
  size : l.p ≡ l.at + l.w-index;
  same : behind l.word (drop l.at l.text) ≡ behind (drop l.w-index l.word) (drop l.p l.text);
}
