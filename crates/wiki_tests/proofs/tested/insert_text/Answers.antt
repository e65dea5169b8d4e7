use Rattle.std.proofs.Common.{◌≡◌, ◌++◌, ◌∷◌, [], rules}
use Rattle.indexmap.proofs.CallerLemmas.{insert_entry-new}
use Rattle.wiki_tests.proofs.TextLaws.{added, lacks}
use Rattle.wiki_tests.proofs.tested.insert_text.Goals as goal

pub returns-in-Ok : goal.returns-in-Ok
returns-in-Ok c =
    let none = lacks _ c.requires in
    let is : c.insert.new.self.entries ≡ c.args.texts.now.entries ++ (c.args.title, c.args.text) ∷ [] = search (rules, insert_entry-new, none) in
    added c.args.texts.now.entries c.insert.new.self.entries c.args.title c.args.text is
