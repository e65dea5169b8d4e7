use Rattle.std.proofs.Common.{◌≡◌, ◌∙◌, ◌+◌, ◌∷◌, List, ap, sym, map, drop, rules, string_bytes, String, Global}
use Rattle.std.specs.Prelude.{Option, Some}
use Rattle.std.proofs.lemmas.List.{at_drop_more}
use Rattle.wiki_words.specs.Items.{Item, meaning_of, items_from}
use Rattle.wiki_words.proofs.ItemLemmas.{behind, word_more}
use Rattle.wiki_words.proofs.items.items_of.Goals as goal

pub loop-word-preserved : goal.loop-word-preserved
loop-word-preserved c =
    let words : List (String Global) = c.args.words.now in
    let rest : List (String Global) = drop (c.loop-word.word-index + 1) words in
    let Left : List (String Global) → Option (List Item) = λ ws. behind c.loop-word.items.items (items_from c.loop-word.reading (map string_bytes ws)) in
    let here : Left (drop c.loop-word.word-index words) ≡ Left (c.word-item.result ∷ rest) = at_drop_more Left words c.loop-word.word-index c.word-item.result c.loop-word-test.true ∙ ap (λ (w : String Global). Left (w ∷ rest)) (sym c.word-item.is) in
    let means : Some (record { item = c.in-Some.item; next = c.in-Some.next }) ≡ meaning_of c.loop-word.reading (string_bytes c.word-item.result) = search rules in
    ap (λ (items : List Item). behind items (items_from c.in-Some.next (map string_bytes rest))) c.in_ok-put_item.ensures
    ∙ sym (word_more c.loop-word.items.items c.loop-word.reading (string_bytes c.word-item.result) (map string_bytes rest) c.in-Some.item c.in-Some.next means)
    ∙ sym here
    ∙ c.loop-word.invariant
