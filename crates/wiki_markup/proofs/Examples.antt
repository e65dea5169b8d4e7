-- Worked pages, computed from the definitions.
use Rattle.std.proofs.Common.{◌≡◌, ℕ, List, [], ◌∷◌, refl, codes}
use Rattle.wiki_markup.specs.declared.marked.Mode.{Mode}
use Rattle.wiki_markup.specs.declared.marked.Mode.TheVariants.{Direct, Transcluded}
use Rattle.wiki_markup.specs.Nodes.{Node, NodeKind, Text, Construct, Parameter, Part, Equals}
use Rattle.wiki_markup.specs.declared.marked.ShownText.{ShownText}
use Rattle.wiki_markup.specs.Shown.{shown_of, pieces_of, has_parts, behind, past, behind_next, opening, closing, self_closing, comment, more_comments, comment_line, attributes, after_name, literal_tag, literal, tag, element, include_tags, self_closing_include, at_place, pieces, before_next, parts, shown_bytes, kept_spans, cut_places}
use Rattle.wiki_markup.specs.Items.{some_of, letters_from, run, items_from}
use Rattle.wiki_markup.specs.Pairing.{onto, nearest, as_text, rewrite_from, closing_marks, rewrite_times}
use Rattle.wiki_markup.specs.Trees.{bytes, trees_of, count, preorder, marked_of}

unfoldable pub show : Mode → List ℕ → ShownText
unfolding shown_of pieces_of has_parts behind past behind_next opening closing self_closing comment more_comments comment_line attributes after_name literal_tag literal tag element include_tags self_closing_include at_place pieces before_next parts shown_bytes kept_spans cut_places
show mode text = shown_of mode text

unfoldable pub mark : List ℕ → List Node
unfolding show some_of letters_from run items_from onto nearest as_text rewrite_from closing_marks rewrite_times bytes trees_of count preorder
mark text = marked_of (show Direct text)

abbrev at : NodeKind → ℕ → Node
at kind end = record { kind = kind; end = end }

-- A template's `noinclude` isn't transcluded, and its `onlyinclude` part alone is.
part_alone : (show Transcluded (codes "a<onlyinclude>b</onlyinclude>c")).bytes ≡ codes "b"
unfolding show
part_alone = refl

part_direct : (show Direct (codes "a<onlyinclude>b</onlyinclude>c")).bytes ≡ codes "abc"
unfolding show
part_direct = refl

documented : (show Transcluded (codes "<noinclude>d</noinclude>[{{{1|x}}}]")).bytes ≡ codes "[{{{1|x}}}]"
unfolding show
documented = refl

line_removed : (show Direct (codes "a\n <!-- x --> \nb")).bytes ≡ codes "a\nb"
unfolding show
line_removed = refl

kept : show Direct (codes "<nowiki>{{T}}</nowiki>{{!}}") ≡ record { bytes = codes "<nowiki>{{T}}</nowiki>{{!}}"; literals = record { start = 0; end = 22 } ∷ []; cuts = [] }
unfolding show
kept = refl

kept_marks : mark (codes "<nowiki>{{T}}</nowiki>{{!}}") ≡ at (Text (codes "<nowiki>{{T}}</nowiki>")) 1 ∷ at Construct 4 ∷ at Part 4 ∷ at (Text (codes "!")) 4 ∷ []
unfolding mark
kept_marks = refl

empty : mark [] ≡ []
unfolding mark
empty = refl

five : mark (codes "{{{{{1}}}}}") ≡ at Construct 5 ∷ at Part 5 ∷ at Parameter 5 ∷ at Part 5 ∷ at (Text (codes "1")) 5 ∷ []
unfolding mark
five = refl

unclosed : mark (codes "{{a|[[b}}") ≡ at (Text (codes "{{a|[[b}}")) 1 ∷ []
unfolding mark
unclosed = refl

three_two : mark (codes "{{{a}}") ≡ at (Text (codes "{")) 1 ∷ at Construct 4 ∷ at Part 4 ∷ at (Text (codes "a")) 4 ∷ []
unfolding mark
three_two = refl

four_four : mark (codes "{{{{1}}}}") ≡ at (Text (codes "{")) 1 ∷ at Parameter 4 ∷ at Part 4 ∷ at (Text (codes "1")) 4 ∷ at (Text (codes "}")) 5 ∷ []
unfolding mark
four_four = refl

split : mark (codes "{{T|[[p|q=r]]|n= q=1 }}") ≡ at Construct 9 ∷ at Part 3 ∷ at (Text (codes "T")) 3 ∷ at Part 5 ∷ at (Text (codes "[[p|q=r]]")) 5
    ∷ at Part 9 ∷ at (Text (codes "n")) 7 ∷ at Equals 8 ∷ at (Text (codes " q=1 ")) 9 ∷ []
unfolding mark
split = refl

cut : mark (codes "{<!--x-->{a}}") ≡ at (Text (codes "{{a}}")) 1 ∷ []
unfolding mark
cut = refl
