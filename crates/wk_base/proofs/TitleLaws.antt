-- Equal titles are the same title.
use Rattle.std.proofs.Common.{◌≡◌, true, refl, sym, ◌∙◌, ap}
use Rattle.std.proofs.lemmas.Bool.{and_parts}
use Rattle.std.specs.Cmp.Lexicographic.{same_text}
use Rattle.wk_base.specs.declared.title.Namespace.{Namespace}
use Rattle.wk_base.specs.declared.title.Namespace.TheVariants.{Main, Talk, User, UserTalk, Project, ProjectTalk, File, FileTalk, MediaWiki, MediaWikiTalk, Template, TemplateTalk, Help, HelpTalk, Category, CategoryTalk, Module, ModuleTalk}
use Rattle.wk_base.specs.declared.title.Title.{Title}
use Rattle.wk_base.specs.contracts.title.NamespacePartialEq.TheImpl as namespaces
use Rattle.wk_base.specs.contracts.title.TitlePartialEq.TheImpl as titles

pub same_namespace : (a b : Namespace) → namespaces.ghosts.eq a b ≡ true → a ≡ b
same_namespace Main Main h = refl
same_namespace Talk Talk h = refl
same_namespace User User h = refl
same_namespace UserTalk UserTalk h = refl
same_namespace Project Project h = refl
same_namespace ProjectTalk ProjectTalk h = refl
same_namespace File File h = refl
same_namespace FileTalk FileTalk h = refl
same_namespace MediaWiki MediaWiki h = refl
same_namespace MediaWikiTalk MediaWikiTalk h = refl
same_namespace Template Template h = refl
same_namespace TemplateTalk TemplateTalk h = refl
same_namespace Help Help h = refl
same_namespace HelpTalk HelpTalk h = refl
same_namespace Category Category h = refl
same_namespace CategoryTalk CategoryTalk h = refl
same_namespace Module Module h = refl
same_namespace ModuleTalk ModuleTalk h = refl
same_namespace _ _ h = cc

pub same_title : (a b : Title) → titles.ghosts.eq a b ≡ true → a ≡ b
same_title a b h =
    let parts = and_parts _ _ h in
    let name : a.name ≡ b.name = same_text a.name b.name (sym parts.1) in
    ap (λ n. record a { ns = n }) (same_namespace a.ns b.ns parts.0) ∙ ap (λ n. record b { name = n }) name
