use Rattle.std.proofs.Common.{◌≡◌, ◌∙◌, ◌+◌, ◌∷◌, List, ap, sym, map, drop, rules, string_bytes, String, Global}
use Rattle.std.specs.Prelude.{Option, Some, None, option_and_then}
use Rattle.std.proofs.lemmas.List.{at_drop_more}
use Rattle.wiki_tests.specs.declared.command.Reading.{Reading}
use Rattle.wiki_tests.specs.Command.{after_word, after_words}
use Rattle.wiki_tests.proofs.command.after_words.Goals as goal

pub loop-word-preserved : goal.loop-word-preserved
loop-word-preserved c =
    let words : List (String Global) = c.args.words.now in
    let rest : List (String Global) = drop (c.loop-word.word-index + 1) words in
    let Left : List (String Global) → Option Reading = λ ws. after_words c.loop-word.reading (map string_bytes ws) in
    let here : Left (drop c.loop-word.word-index words) ≡ Left (c.word-item.result ∷ rest) = at_drop_more Left words c.loop-word.word-index c.word-item.result c.loop-word-test.true ∙ ap (λ (w : String Global). Left (w ∷ rest)) (sym c.word-item.is) in
    let means : Some c.in_ok-reading.reading ≡ after_word c.loop-word.reading (string_bytes c.word-item.result) = search rules in
    record {
      read = ap (λ (o : Option Reading). option_and_then (λ next. after_words next (map string_bytes rest)) o) means ∙ sym here ∙ c.loop-word.invariant.read;
      within = c.in_ok-reading.ensures.within;
    }

pub returns-in_err-reading-clause-reading : goal.returns-in_err-reading-clause-reading
returns-in_err-reading-clause-reading c =
    let words : List (String Global) = c.args.words.now in
    let rest : List (String Global) = drop (c.loop-word.word-index + 1) words in
    let Left : List (String Global) → Option Reading = λ ws. after_words c.loop-word.reading (map string_bytes ws) in
    let here : Left (drop c.loop-word.word-index words) ≡ Left (c.word-item.result ∷ rest) = at_drop_more Left words c.loop-word.word-index c.word-item.result c.loop-word-test.true ∙ ap (λ (w : String Global). Left (w ∷ rest)) (sym c.word-item.is) in
    let none : None ≡ after_word c.loop-word.reading (string_bytes c.word-item.result) = search rules in
    c.from_residual.ensures ∙ ap (λ (o : Option Reading). option_and_then (λ next. after_words next (map string_bytes rest)) o) none ∙ sym here ∙ c.loop-word.invariant.read
