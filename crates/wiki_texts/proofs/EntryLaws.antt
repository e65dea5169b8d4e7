-- A page's text in both modes, paired.
use Rattle.std.proofs.Common.{◌≡◌, ◌∙◌, ap, ℕ, List}
use Rattle.wiki_markup.specs.Nodes.{Node, Marked}
use Rattle.wiki_markup.specs.declared.marked.ShownText.{ShownText}
use Rattle.wiki_markup.specs.declared.marked.Mode.TheVariants.{Direct, Transcluded}
use Rattle.wiki_markup.specs.Shown.{shown_of}
use Rattle.wiki_markup.specs.Trees.{marked_of}
use Rattle.wiki_pages.specs.Entries.{Entry}
use Rattle.wiki_texts.specs.Pages.{entry_of}

abbrev pub held : List Node → List Node → Entry
held direct transcluded = record { direct = record { nodes = direct }; transcluded = record { nodes = transcluded } }

pub paired_apart : (text : List ℕ) (s t : ShownText) (m n : Marked) → s ≡ shown_of Direct text → t ≡ shown_of Transcluded text
    → m.nodes ≡ marked_of s → n.nodes ≡ marked_of t → held m.nodes n.nodes ≡ entry_of text
paired_apart text s t m n es et em en =
    ap (λ (ns : List Node). held ns n.nodes) (em ∙ ap marked_of es)
    ∙ ap (λ (ns : List Node). held (marked_of (shown_of Direct text)) ns) (en ∙ ap marked_of et)

-- where both modes show the same
pub paired_once : (text : List ℕ) (s t : ShownText) (m : Marked) → s ≡ shown_of Direct text → t ≡ shown_of Transcluded text → s ≡ t
    → m.nodes ≡ marked_of s → held m.nodes m.nodes ≡ entry_of text
paired_once text s t m es et same em = paired_apart text s t m m es et em (em ∙ ap marked_of same)
