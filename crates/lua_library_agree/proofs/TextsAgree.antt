-- THE FUNCTIONS of `mw.text` do the same to two heaps, of which the first stands in the second.
use Rattle.std.proofs.Common.{◌≡◌, ◌∙◌, ap, refl, subst, ℕ, zero, suc, ℤ, ◌+ℤ◌, Bool, true, false, List, [], ◌∷◌, Option, Ok, Err, chars, encode_utf8_all}
use Rattle.std.specs.Prelude.{Result, pos, codes}
use Rattle.lua_meaning.specs.LuaPatternDeclaredItemSet.{Set}
use Rattle.lua_meaning.specs.MwTextSets.{chosen_set}
use Rattle.lua_meaning.specs.MwTextJoined.{truncated}
use Rattle.lua_meaning.specs.MwTextSplit.{Sought, sought_by, parts_of}
use Rattle.lua_heap.specs.Value.{Value, Nil, Number, Text, Table}
use Rattle.lua_heap.specs.Table.{Entries, border}
use Rattle.lua_heap.specs.Heap.{Heap}
use Rattle.lua_heap.specs.Related.{Map, GrowsWith, Each, none, more, Same, nil, truth, number, text, table, closure, builtin, markup, SameEntries, Stands}
use Rattle.lua_heap.proofs.Entries.{border-related}
use Rattle.lua_meaning.specs.Scope.{Bytes}
use Rattle.lua_meaning.specs.Arguments.{Plain, a_text, gives_text}
use Rattle.lua_meaning.specs.Basic.{entries_from}
use Rattle.lua_library_agree.specs.Same.{both_give, SamePlain}
use Rattle.lua_library_agree.proofs.Values.{one-each, rest-same, second-same, third-same, fourth-same, is_true-same, a_table-same, a_text-same, a_number-same, text_or-same}
use Rattle.lua_library_agree.proofs.Heaps.{one-one, entries-stood, entry-more, field-same, giving_text, failing, with-argument, with-equal, charging}
use Rattle.lua_library_agree.proofs.Basics.{entries_from-same}
use Rattle.lua_library_agree.proofs.FrameTables.{table-added}
use Rattle.lua_library_agree.proofs.Tags.{SameParts, tag_of-same}
use Rattle.lua_meaning.specs.Checks.{malformed}
use Rattle.lua_library_agree.proofs.UstringAgree.{utf8_text-same, utf8_text_or-same, utf8_text_if_any-same}
use Rattle.lua_meaning.specs.Texts.{gives_tried, set_charge, by_set, trims, trim, encodes, encode, text_entries, gives_parts, splits, pattern_charge, splits_by, split, decode, nowiki, list_values, item_then, items_of, list_to_text, tag_parts, tag, truncate}

text_entries-same : {m : Map} (n : ℕ) (ts : List Bytes) → SameEntries m (text_entries n ts) (text_entries n ts)
text_entries-same n [] = none
text_entries-same n (t ∷ ts) = entry-more (number _) (text t) (text_entries-same (suc n) ts)

items_of-same : {m : Map} {vs ws : List Value} → Each (Same m) vs ws → items_of vs ≡ items_of ws
items_of-same none = refl
items_of-same (more x y xs ys r e) =
    ap (λ a. item_then a (items_of xs)) (a_text-same 1 (codes "listToText") (one-each r)) ∙ ap (item_then (a_text 1 (codes "listToText") (y ∷ []))) (items_of-same e)

module _ {X Y : Type 0} (R : Map → X → Y → Type 0) (m : Map) (h : Heap X) (s : Heap Y) (st : Stands R m h s) where
  abbrev Alike : Plain X → Plain Y → Type 0
  Alike a b = SamePlain R m h s a b

  gives_tried-same : (tries : ℕ) (t : Bytes) → Alike (gives_tried h tries t) (gives_tried s tries t)
  gives_tried-same tries t = charging R m h s st tries tries refl _ _ (giving_text R m h s st t)

  by_set-same : (f : Option Set → Plain X) (g : Option Set → Plain Y) → ((set : Option Set) → Alike (f set) (g set)) → (choice : Result (Option Set) ℕ) → Alike (by_set h f choice) (by_set s g choice)
  by_set-same f g k (Ok set) = k set
  by_set-same f g k (Err n) = failing R m h s st (malformed n)

  -- the values of a list
  list_values-same : (es fs : Entries) → SameEntries m es fs → Each (Same m) (list_values es) (list_values fs)
  list_values-same es fs e =
      subst (λ n. Each (Same m) (list_values es) (entries_from n (pos 1) fs)) (border-related m (one-one R m h s st) es fs e) (entries_from-same R m h s st (border es) (pos 1) es fs e)

  -- the parts of a tag
  tag_parts-same : (vs ws : List Value) → Each (Same m) vs ws → SameParts m (tag_parts h vs) (tag_parts s ws)
  tag_parts-same _ _ none = record { name = none; attrs = nil; content = nil }
  tag_parts-same _ _ (more _ _ xs ys (table a b x) e) = record {
    name = one-each (field-same R m h s st _ _ (codes "name") (table a b x));
    attrs = field-same R m h s st _ _ (codes "attrs") (table a b x);
    content = field-same R m h s st _ _ (codes "content") (table a b x);
  }
  tag_parts-same _ _ (more _ _ xs ys nil e) = let all = more _ _ xs ys nil e in record { name = all; attrs = second-same all; content = third-same all }
  tag_parts-same _ _ (more _ _ xs ys (truth b) e) = let all = more _ _ xs ys (truth b) e in record { name = all; attrs = second-same all; content = third-same all }
  tag_parts-same _ _ (more _ _ xs ys (number b) e) = let all = more _ _ xs ys (number b) e in record { name = all; attrs = second-same all; content = third-same all }
  tag_parts-same _ _ (more _ _ xs ys (text b) e) = let all = more _ _ xs ys (text b) e in record { name = all; attrs = second-same all; content = third-same all }
  tag_parts-same _ _ (more _ _ xs ys (closure a b x) e) = let all = more _ _ xs ys (closure a b x) e in record { name = all; attrs = second-same all; content = third-same all }
  tag_parts-same _ _ (more _ _ xs ys (builtin b) e) = let all = more _ _ xs ys (builtin b) e in record { name = all; attrs = second-same all; content = third-same all }
  tag_parts-same _ _ (more _ _ xs ys (markup a b x) e) = let all = more _ _ xs ys (markup a b x) e in record { name = all; attrs = second-same all; content = third-same all }

  module _ (vs ws : List Value) (e : Each (Same m) vs ws) where
    pub trim-same : Alike (trim vs h) (trim ws s)
    trim-same =
        with-equal R m h s st _ _ _ _ (utf8_text-same 1 (codes "trim") e) (λ t.
        with-equal R m h s st _ _ _ _ (utf8_text_if_any-same 2 (codes "trim") (rest-same e)) (λ set.
        charging R m h s st (set_charge set) (set_charge set) refl _ _ (by_set-same (trims h t) (trims s t) (λ x. gives_tried-same _ _) (chosen_set set))))

    pub encode-same : Alike (encode vs h) (encode ws s)
    encode-same =
        with-equal R m h s st _ _ _ _ (utf8_text-same 1 (codes "encode") e) (λ t.
        with-equal R m h s st _ _ _ _ (utf8_text_if_any-same 2 (codes "encode") (rest-same e)) (λ set.
        charging R m h s st (set_charge set) (set_charge set) refl _ _ (by_set-same (encodes h t) (encodes s t) (λ x. gives_tried-same _ _) (chosen_set set))))

    pub decode-same : Alike (decode vs h) (decode ws s)
    decode-same = with-equal R m h s st _ _ _ _ (a_text-same 1 (codes "decode") e) (λ t. giving_text R m h s st _)

    pub nowiki-same : Alike (nowiki vs h) (nowiki ws s)
    nowiki-same = with-equal R m h s st _ _ _ _ (a_text-same 1 (codes "nowiki") e) (λ t. giving_text R m h s st _)

    pub list_to_text-same : Alike (list_to_text vs h) (list_to_text ws s)
    list_to_text-same =
        with-argument R m h s st _ _ (a_table-same 1 (codes "listToText") e) (λ a b x.
        with-equal R m h s st _ _ _ _ (items_of-same (list_values-same _ _ (entries-stood R m h s st a b x))) (λ items.
        with-equal R m h s st _ _ _ _ (text_or-same (codes ", ") 2 (codes "listToText") (rest-same e)) (λ separator.
        with-equal R m h s st _ _ _ _ (text_or-same (codes " and ") 3 (codes "listToText") (rest-same (rest-same e))) (λ conjunction.
        giving_text R m h s st _))))

    pub truncate-same : Alike (truncate vs h) (truncate ws s)
    truncate-same =
        with-equal R m h s st _ _ _ _ (utf8_text-same 1 (codes "truncate") e) (λ t.
        with-equal R m h s st _ _ _ _ (a_number-same 2 (codes "truncate") (rest-same e)) (λ n.
        with-equal R m h s st _ _ _ _ (utf8_text_or-same (codes "...") 3 (codes "truncate") (rest-same (rest-same e))) (λ ellipsis.
        shortened t n ellipsis _ _ (is_true-same (fourth-same e)))))
      where
        shortened : (t : Bytes) (n : ℤ) (ellipsis : Bytes) (adjust other : Bool) → adjust ≡ other
            → Alike (gives_text h (encode_utf8_all (truncated (chars t) n (chars ellipsis) adjust))) (gives_text s (encode_utf8_all (truncated (chars t) n (chars ellipsis) other)))
        shortened t n ellipsis adjust other is =
            subst (λ b. Alike (gives_text h (encode_utf8_all (truncated (chars t) n (chars ellipsis) adjust))) (gives_text s (encode_utf8_all (truncated (chars t) n (chars ellipsis) b)))) is (giving_text R m h s st _)

    pub tag-same : Alike (tag vs h) (tag ws s)
    tag-same = tag_of-same R m h s st _ _ (tag_parts-same vs ws e)

    -- A NEW TABLE is made in both heaps
    module _ (up : GrowsWith R) where
      gives_parts-same : (tries : ℕ) (parts : List Bytes) → Alike (gives_parts h tries parts) (gives_parts s tries parts)
      gives_parts-same tries parts =
          let a = table-added R up m h s st (text_entries 1 parts) (text_entries 1 parts) Nil Nil (text_entries-same 1 parts) nil in
          record { charge = refl; names = a.names; moved = a.moved; end = both_give _ _ (one-each (table _ _ a.at)) }

      splits-same : (t : Bytes) (choice : Result Sought ℕ) → Alike (splits h t choice) (splits s t choice)
      splits-same t (Ok sought) = gives_parts-same (parts_of sought t).0 (parts_of sought t).1
      splits-same t (Err n) = failing R m h s st (malformed n)

      splits_by-same : (plain other : Bool) → plain ≡ other → (t pattern : Bytes) → Alike (splits_by h plain t pattern) (splits_by s other t pattern)
      splits_by-same plain other is t pattern =
          subst (λ b. Alike (splits_by h plain t pattern) (splits_by s b t pattern)) is
          (charging R m h s st (pattern_charge plain pattern) (pattern_charge plain pattern) refl _ _ (splits-same t (sought_by plain pattern)))

      pub split-same : Alike (split vs h) (split ws s)
      split-same =
          with-equal R m h s st _ _ _ _ (utf8_text-same 1 (codes "split") e) (λ t.
          with-equal R m h s st _ _ _ _ (utf8_text-same 2 (codes "split") (rest-same e)) (λ pattern.
          splits_by-same _ _ (is_true-same (third-same e)) t pattern))
