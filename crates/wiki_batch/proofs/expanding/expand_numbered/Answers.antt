use Rattle.std.proofs.Common.{◌*◌, List, sym, subst, rules}
use Rattle.std.specs.Prelude.{All, IsSome}
use Rattle.std.proofs.lemmas.List.Elements.{All-take, All-drop}
use Rattle.wk_base.specs.declared.title.Title.{Title}
use Rattle.wiki_texts.specs.WikiPagesPages.{find_page}
use Rattle.wiki_batch.proofs.expanding.expand_numbered.Goals as goal

pub expand_share-requires : goal.expand_share-requires
expand_share-requires g c =
    let Held : Title → Type 0 = λ title. IsSome (find_page c.args.wiki.now.pages title) in
    let held : All Held c.share_of-share.result.now = subst (λ (ts : List Title). All Held ts) (sym c.share_of-share.ensures) (All-take Held c.args.size _ (All-drop Held (c.args.j * c.args.size) c.args.titles.now c.requires.held)) in
    search (rules, held)
