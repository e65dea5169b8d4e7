-- The definitions on small texts, with values of MediaWiki's own library and tries counted by hand.
use Rattle.std.proofs.Common.{◌≡◌, true, false, pos, negsuc, [], ◌∷◌, Some, Err, ◌++◌, codes, refl}
use Rattle.std.specs.Char.{encode_utf8}
use Rattle.std.specs.Fmt.{digits}
use Rattle.mw_ustring.specs.LuaPatternDeclaredItemItemTheVariants as item
use Rattle.mw_ustring.specs.LuaPatternDeclaredItemSingleTheVariants as single
use Rattle.mw_ustring.specs.LuaPatternTexts.{point_code}
use Rattle.mw_text.specs.declared.tagging.TagValue.TheVariants as tag_value
use Rattle.mw_text.specs.declared.tagging.TagContent.TheVariants as tag_content
use Rattle.mw_text.specs.Sets.{chosen_set}
use Rattle.mw_text.specs.Trim.{is_space, trimmed, trim_tries}
use Rattle.mw_text.specs.Split.{Plain, Items, parts_of}
use Rattle.mw_text.specs.References.{numbered, is_special, encoded, nowiki_of}
use Rattle.mw_text.specs.Decode.{decoded}
use Rattle.mw_text.specs.Joined.{joined, truncated}
use Rattle.mw_text.specs.Tag.{encode, tag_of}

-- ` a ` is compared at two places from each side; of white space alone each is compared once
trim_both : trimmed is_space (codes " a ") ≡ codes "a"
trim_both = refl

trim_both_tries : trim_tries is_space (codes " a ") ≡ 4
trim_both_tries = refl

trim_all_tries : trim_tries is_space (9 ∷ 10 ∷ 12 ∷ 13 ∷ 32 ∷ []) ≡ 5
trim_all_tries = refl

-- a vertical tab stays, and so does the space that does not break
trim_stays : trimmed is_space (11 ∷ 160 ∷ 32 ∷ []) ≡ 11 ∷ 160 ∷ []
trim_stays = refl

-- sets that are none, and one that begins with `]`
no_set : chosen_set (Some []) ≡ Err 2
no_set = refl

closed_early : chosen_set (Some (codes "a]b")) ≡ Err 2
unfolding point_code
closed_early = refl

-- split('abc', 'b*') and split('bab', 'b*'); b fails at a (1), fits once and ends (2), ..
split_stars : parts_of (Items false (item.Star (single.Plain 98) ∷ [])) (codes "abc") ≡ (4, codes "a" ∷ [] ∷ codes "c" ∷ [])
unfolding point_code parts_of
split_stars = refl

split_more_stars : (parts_of (Items false (item.Star (single.Plain 98) ∷ [])) (codes "bab")).1 ≡ [] ∷ codes "a" ∷ [] ∷ [] ∷ []
unfolding point_code parts_of
split_more_stars = refl

-- split('a,b,', ','): two tries, two tries, and none at the end
split_commas : parts_of (Items false (item.One (single.Plain 44) ∷ [])) (codes "a,b,") ≡ (4, codes "a" ∷ codes "b" ∷ [] ∷ [])
unfolding point_code parts_of
split_commas = refl

-- split('aaa', '^a') looks at each place anew
split_anchored : (parts_of (Items true (item.One (single.Plain 97) ∷ [])) (codes "aaa")).1 ≡ [] ∷ [] ∷ [] ∷ [] ∷ []
unfolding point_code parts_of
split_anchored = refl

-- an empty separator, over code points: é is 195 169
split_points : parts_of (Plain []) (97 ∷ 195 ∷ 169 ∷ 98 ∷ []) ≡ (0, (97 ∷ []) ∷ (195 ∷ 169 ∷ []) ∷ (98 ∷ []) ∷ [])
unfolding parts_of
split_points = refl

split_nothing : parts_of (Plain []) [] ≡ (0, [] ∷ [])
unfolding parts_of
split_nothing = refl

split_plain : parts_of (Plain (codes ".")) (codes "a.b") ≡ (0, codes "a" ∷ codes "b" ∷ [])
unfolding parts_of
split_plain = refl

-- <a "'& with the space that does not break, and é as itself
encode_usual : encoded is_special (60 ∷ 34 ∷ 39 ∷ 38 ∷ 160 ∷ 62 ∷ 233 ∷ []) ≡ codes "&lt;&quot;&#39;&amp;&nbsp;&gt;" ++ 195 ∷ 169 ∷ []
unfolding numbered encode_utf8 digits
encode_usual = refl

nowiki_all : nowiki_of (codes "[[a|b]]=\"'&<>{};") ≡ codes "&#91;&#91;a&#124;b&#93;&#93;&#61;&#34;&#39;&#38;&#60;&#62;&#123;&#125;;"
unfolding numbered digits
nowiki_all = refl

decode_once : decoded (codes "&amp;lt;&#65&#66;&#00039;&LT;") ≡ codes "&lt;&#65B'&LT;"
unfolding encode_utf8
decode_once = refl

decode_wide : decoded (codes "&#x1F600;&#128512;") ≡ 240 ∷ 159 ∷ 152 ∷ 128 ∷ 240 ∷ 159 ∷ 152 ∷ 128 ∷ []
unfolding encode_utf8
decode_wide = refl

decode_none : decoded (codes "&#xD800;&#1114112;&#;&#X41;&#18446744073709551681;") ≡ codes "&#xD800;&#1114112;&#;&#X41;&#18446744073709551681;"
unfolding encode_utf8
decode_none = refl

list_of_three : joined (codes ", ") (codes " and ") (codes "1" ∷ codes "2" ∷ codes "3" ∷ []) ≡ codes "1, 2 and 3"
list_of_three = refl

list_of_one : joined (codes ", ") (codes " and ") (codes "1" ∷ []) ≡ codes "1"
list_of_one = refl

-- truncate of `abcdef`
truncate_front : truncated (codes "abcdef") (pos 3) (codes "...") false ≡ codes "abc..."
truncate_front = refl

truncate_back : truncated (codes "abcdef") (negsuc 4) (codes "...") true ≡ codes "...ef"
truncate_back = refl

truncate_short : truncated (codes "abcdef") (pos 2) (codes "...") true ≡ codes "..."
truncate_short = refl

truncate_whole : truncated (codes "abcdef") (negsuc 5) (codes "...") true ≡ codes "abcdef"
truncate_whole = refl

-- the bytes 194 160 in a value, and 194 before another byte
tag_row : encode (49 ∷ 194 ∷ 160 ∷ 60 ∷ 194 ∷ 161 ∷ []) ≡ codes "1&nbsp;&lt;" ++ 194 ∷ 161 ∷ []
tag_row = refl

tag_whole : tag_of (codes "b") (record { name = codes "x"; value = tag_value.Text (codes "1") } ∷ record { name = codes "a"; value = tag_value.Alone } ∷ []) (tag_content.Text (codes "t")) ≡ codes "<b x=\"1\" a>t</b>"
tag_whole = refl

tag_closed : tag_of (codes "hr") [] tag_content.Closed ≡ codes "<hr />"
tag_closed = refl
