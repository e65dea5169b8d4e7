use Rattle.std.proofs.Common.{◌+◌, length, refl, arith}
use Rattle.lua_meaning.specs.Home.{home_tables}
use Rattle.lua_graph.proofs.LuaStoreLater.{later-then}
use Rattle.lua_home.specs.Entries.{global_fields, string_fields, mw_fields, title_fields, table_fields, math_fields, ustring_fields, text_fields, html_fields}
use Rattle.lua_home.proofs.Whole.{filled_all, filled_one, fills_join, globals_are, mw_is, still_of}
use Rattle.lua_home.proofs.made.fresh.Goals as goal

pub returns-clause-made : goal.returns-clause-made
returns-clause-made c =
    let t = c.in_ok-tables.tables in
    let at = c.in_ok-tables.ensures.at in
    let h = c.args.store.now.heap in
    let k = length h.tables in
    fills_join h c.new_tables.new.store.heap c.fill_html.new.store.heap home_tables c.in_ok-tables.ensures.put (refl, (refl, (refl, (refl, (refl, (refl, (refl, (refl, (refl, tt)))))))))
    (filled_one k t.globals.at _ (global_fields t) _ _ c.fill_globals.new.store.heap _ (omega (arith, at.globals)) (globals_are k t at) c.in_ok-fill_globals.ensures.put
    (filled_one (k + 1) t.strings.at _ string_fields _ _ c.fill_strings.new.store.heap _ (omega (arith, at.strings)) refl c.in_ok-fill_strings.ensures.put
    (filled_one (k + 1 + 1) t.mw.at _ (mw_fields t) _ _ c.fill_mw.new.store.heap _ (omega (arith, at.mw)) (mw_is k t at) c.in_ok-fill_mw.ensures.put
    (filled_one (k + 1 + 1 + 1) t.title.at _ title_fields _ _ c.fill_title.new.store.heap _ (omega (arith, at.title)) refl c.in_ok-fill_title.ensures.put
    (filled_one (k + 1 + 1 + 1 + 1) t.tables.at _ table_fields _ _ c.fill_tables.new.store.heap _ (omega (arith, at.tables)) refl c.in_ok-fill_tables.ensures.put
    (filled_one (k + 1 + 1 + 1 + 1 + 1) t.math.at _ math_fields _ _ c.fill_math.new.store.heap _ (omega (arith, at.math)) refl c.in_ok-fill_math.ensures.put
    (filled_one (k + 1 + 1 + 1 + 1 + 1 + 1) t.ustring.at _ ustring_fields _ _ c.fill_ustring.new.store.heap _ (omega (arith, at.ustring)) refl c.in_ok-fill_ustring.ensures.put
    (filled_one (k + 1 + 1 + 1 + 1 + 1 + 1 + 1) t.text.at _ text_fields _ _ c.fill_text.new.store.heap _ (omega (arith, at.text)) refl c.in_ok-fill_text.ensures.put
    (filled_one (k + 1 + 1 + 1 + 1 + 1 + 1 + 1 + 1) t.html.at _ html_fields _ _ c.fill_html.new.store.heap _ (omega (arith, at.html)) refl c.in_ok-fill_html.ensures.put
    (filled_all _ _))))))))))

pub fill_globals-requires : goal.fill_globals-requires
fill_globals-requires c = c.in_ok-tables.ensures.of

pub fill_strings-requires : goal.fill_strings-requires
fill_strings-requires c = still_of c.in_ok-fill_globals.ensures.later c.in_ok-tables.ensures.of

pub fill_mw-requires : goal.fill_mw-requires
fill_mw-requires c = still_of c.in_ok-fill_strings.ensures.later (still_of c.in_ok-fill_globals.ensures.later c.in_ok-tables.ensures.of)

pub fill_title-requires : goal.fill_title-requires
fill_title-requires c = still_of c.in_ok-fill_mw.ensures.later (still_of c.in_ok-fill_strings.ensures.later (still_of c.in_ok-fill_globals.ensures.later c.in_ok-tables.ensures.of))

pub fill_tables-requires : goal.fill_tables-requires
fill_tables-requires c = still_of c.in_ok-fill_title.ensures.later (still_of c.in_ok-fill_mw.ensures.later (still_of c.in_ok-fill_strings.ensures.later (still_of c.in_ok-fill_globals.ensures.later c.in_ok-tables.ensures.of)))

pub fill_math-requires : goal.fill_math-requires
fill_math-requires c = still_of c.in_ok-fill_tables.ensures.later (still_of c.in_ok-fill_title.ensures.later (still_of c.in_ok-fill_mw.ensures.later (still_of c.in_ok-fill_strings.ensures.later (still_of c.in_ok-fill_globals.ensures.later c.in_ok-tables.ensures.of))))

pub fill_ustring-requires : goal.fill_ustring-requires
fill_ustring-requires c = still_of c.in_ok-fill_math.ensures.later (still_of c.in_ok-fill_tables.ensures.later (still_of c.in_ok-fill_title.ensures.later (still_of c.in_ok-fill_mw.ensures.later (still_of c.in_ok-fill_strings.ensures.later (still_of c.in_ok-fill_globals.ensures.later c.in_ok-tables.ensures.of)))))

pub fill_text-requires : goal.fill_text-requires
fill_text-requires c = still_of c.in_ok-fill_ustring.ensures.later (still_of c.in_ok-fill_math.ensures.later (still_of c.in_ok-fill_tables.ensures.later (still_of c.in_ok-fill_title.ensures.later (still_of c.in_ok-fill_mw.ensures.later (still_of c.in_ok-fill_strings.ensures.later (still_of c.in_ok-fill_globals.ensures.later c.in_ok-tables.ensures.of))))))

pub fill_html-requires : goal.fill_html-requires
fill_html-requires c = still_of c.in_ok-fill_text.ensures.later (still_of c.in_ok-fill_ustring.ensures.later (still_of c.in_ok-fill_math.ensures.later (still_of c.in_ok-fill_tables.ensures.later (still_of c.in_ok-fill_title.ensures.later (still_of c.in_ok-fill_mw.ensures.later (still_of c.in_ok-fill_strings.ensures.later (still_of c.in_ok-fill_globals.ensures.later c.in_ok-tables.ensures.of)))))))

pub returns-clause-at : goal.returns-clause-at
returns-clause-at c = c.in_ok-tables.ensures.at

pub returns-clause-of : goal.returns-clause-of
returns-clause-of c = still_of c.in_ok-fill_html.ensures.later (still_of c.in_ok-fill_text.ensures.later (still_of c.in_ok-fill_ustring.ensures.later (still_of c.in_ok-fill_math.ensures.later (still_of c.in_ok-fill_tables.ensures.later (still_of c.in_ok-fill_title.ensures.later (still_of c.in_ok-fill_mw.ensures.later (still_of c.in_ok-fill_strings.ensures.later (still_of c.in_ok-fill_globals.ensures.later c.in_ok-tables.ensures.of))))))))

pub returns-clause-later : goal.returns-clause-later
returns-clause-later c =
    let from_fill_text = later-then c.fill_ustring.new.store c.fill_text.new.store c.fill_html.new.store c.in_ok-fill_text.ensures.later c.in_ok-fill_html.ensures.later in
    let from_fill_ustring = later-then c.fill_math.new.store c.fill_ustring.new.store c.fill_html.new.store c.in_ok-fill_ustring.ensures.later from_fill_text in
    let from_fill_math = later-then c.fill_tables.new.store c.fill_math.new.store c.fill_html.new.store c.in_ok-fill_math.ensures.later from_fill_ustring in
    let from_fill_tables = later-then c.fill_title.new.store c.fill_tables.new.store c.fill_html.new.store c.in_ok-fill_tables.ensures.later from_fill_math in
    let from_fill_title = later-then c.fill_mw.new.store c.fill_title.new.store c.fill_html.new.store c.in_ok-fill_title.ensures.later from_fill_tables in
    let from_fill_mw = later-then c.fill_strings.new.store c.fill_mw.new.store c.fill_html.new.store c.in_ok-fill_mw.ensures.later from_fill_title in
    let from_fill_strings = later-then c.fill_globals.new.store c.fill_strings.new.store c.fill_html.new.store c.in_ok-fill_strings.ensures.later from_fill_mw in
    let from_fill_globals = later-then c.new_tables.new.store c.fill_globals.new.store c.fill_html.new.store c.in_ok-fill_globals.ensures.later from_fill_strings in
    later-then c.args.store.now c.new_tables.new.store c.fill_html.new.store c.in_ok-tables.ensures.later from_fill_globals

pub returns-in_err-fill_globals-clause-later : goal.returns-in_err-fill_globals-clause-later
returns-in_err-fill_globals-clause-later c = later-then c.args.store.now c.new_tables.new.store c.fill_globals.new.store c.in_ok-tables.ensures.later c.in_err-fill_globals.ensures.later

pub returns-in_err-fill_strings-clause-later : goal.returns-in_err-fill_strings-clause-later
returns-in_err-fill_strings-clause-later c = later-then c.args.store.now c.new_tables.new.store c.fill_strings.new.store c.in_ok-tables.ensures.later (later-then c.new_tables.new.store c.fill_globals.new.store c.fill_strings.new.store c.in_ok-fill_globals.ensures.later c.in_err-fill_strings.ensures.later)

pub returns-in_err-fill_mw-clause-later : goal.returns-in_err-fill_mw-clause-later
returns-in_err-fill_mw-clause-later c = later-then c.args.store.now c.new_tables.new.store c.fill_mw.new.store c.in_ok-tables.ensures.later (later-then c.new_tables.new.store c.fill_globals.new.store c.fill_mw.new.store c.in_ok-fill_globals.ensures.later (later-then c.fill_globals.new.store c.fill_strings.new.store c.fill_mw.new.store c.in_ok-fill_strings.ensures.later c.in_err-fill_mw.ensures.later))

pub returns-in_err-fill_title-clause-later : goal.returns-in_err-fill_title-clause-later
returns-in_err-fill_title-clause-later c = later-then c.args.store.now c.new_tables.new.store c.fill_title.new.store c.in_ok-tables.ensures.later (later-then c.new_tables.new.store c.fill_globals.new.store c.fill_title.new.store c.in_ok-fill_globals.ensures.later (later-then c.fill_globals.new.store c.fill_strings.new.store c.fill_title.new.store c.in_ok-fill_strings.ensures.later (later-then c.fill_strings.new.store c.fill_mw.new.store c.fill_title.new.store c.in_ok-fill_mw.ensures.later c.in_err-fill_title.ensures.later)))

pub returns-in_err-fill_tables-clause-later : goal.returns-in_err-fill_tables-clause-later
returns-in_err-fill_tables-clause-later c = later-then c.args.store.now c.new_tables.new.store c.fill_tables.new.store c.in_ok-tables.ensures.later (later-then c.new_tables.new.store c.fill_globals.new.store c.fill_tables.new.store c.in_ok-fill_globals.ensures.later (later-then c.fill_globals.new.store c.fill_strings.new.store c.fill_tables.new.store c.in_ok-fill_strings.ensures.later (later-then c.fill_strings.new.store c.fill_mw.new.store c.fill_tables.new.store c.in_ok-fill_mw.ensures.later (later-then c.fill_mw.new.store c.fill_title.new.store c.fill_tables.new.store c.in_ok-fill_title.ensures.later c.in_err-fill_tables.ensures.later))))

pub returns-in_err-fill_math-clause-later : goal.returns-in_err-fill_math-clause-later
returns-in_err-fill_math-clause-later c = later-then c.args.store.now c.new_tables.new.store c.fill_math.new.store c.in_ok-tables.ensures.later (later-then c.new_tables.new.store c.fill_globals.new.store c.fill_math.new.store c.in_ok-fill_globals.ensures.later (later-then c.fill_globals.new.store c.fill_strings.new.store c.fill_math.new.store c.in_ok-fill_strings.ensures.later (later-then c.fill_strings.new.store c.fill_mw.new.store c.fill_math.new.store c.in_ok-fill_mw.ensures.later (later-then c.fill_mw.new.store c.fill_title.new.store c.fill_math.new.store c.in_ok-fill_title.ensures.later (later-then c.fill_title.new.store c.fill_tables.new.store c.fill_math.new.store c.in_ok-fill_tables.ensures.later c.in_err-fill_math.ensures.later)))))

pub returns-in_err-fill_ustring-clause-later : goal.returns-in_err-fill_ustring-clause-later
returns-in_err-fill_ustring-clause-later c = later-then c.args.store.now c.new_tables.new.store c.fill_ustring.new.store c.in_ok-tables.ensures.later (later-then c.new_tables.new.store c.fill_globals.new.store c.fill_ustring.new.store c.in_ok-fill_globals.ensures.later (later-then c.fill_globals.new.store c.fill_strings.new.store c.fill_ustring.new.store c.in_ok-fill_strings.ensures.later (later-then c.fill_strings.new.store c.fill_mw.new.store c.fill_ustring.new.store c.in_ok-fill_mw.ensures.later (later-then c.fill_mw.new.store c.fill_title.new.store c.fill_ustring.new.store c.in_ok-fill_title.ensures.later (later-then c.fill_title.new.store c.fill_tables.new.store c.fill_ustring.new.store c.in_ok-fill_tables.ensures.later (later-then c.fill_tables.new.store c.fill_math.new.store c.fill_ustring.new.store c.in_ok-fill_math.ensures.later c.in_err-fill_ustring.ensures.later))))))

pub returns-in_err-fill_text-clause-later : goal.returns-in_err-fill_text-clause-later
returns-in_err-fill_text-clause-later c = later-then c.args.store.now c.new_tables.new.store c.fill_text.new.store c.in_ok-tables.ensures.later (later-then c.new_tables.new.store c.fill_globals.new.store c.fill_text.new.store c.in_ok-fill_globals.ensures.later (later-then c.fill_globals.new.store c.fill_strings.new.store c.fill_text.new.store c.in_ok-fill_strings.ensures.later (later-then c.fill_strings.new.store c.fill_mw.new.store c.fill_text.new.store c.in_ok-fill_mw.ensures.later (later-then c.fill_mw.new.store c.fill_title.new.store c.fill_text.new.store c.in_ok-fill_title.ensures.later (later-then c.fill_title.new.store c.fill_tables.new.store c.fill_text.new.store c.in_ok-fill_tables.ensures.later (later-then c.fill_tables.new.store c.fill_math.new.store c.fill_text.new.store c.in_ok-fill_math.ensures.later (later-then c.fill_math.new.store c.fill_ustring.new.store c.fill_text.new.store c.in_ok-fill_ustring.ensures.later c.in_err-fill_text.ensures.later)))))))

pub returns-in_err-fill_html-clause-later : goal.returns-in_err-fill_html-clause-later
returns-in_err-fill_html-clause-later c = later-then c.args.store.now c.new_tables.new.store c.fill_html.new.store c.in_ok-tables.ensures.later (later-then c.new_tables.new.store c.fill_globals.new.store c.fill_html.new.store c.in_ok-fill_globals.ensures.later (later-then c.fill_globals.new.store c.fill_strings.new.store c.fill_html.new.store c.in_ok-fill_strings.ensures.later (later-then c.fill_strings.new.store c.fill_mw.new.store c.fill_html.new.store c.in_ok-fill_mw.ensures.later (later-then c.fill_mw.new.store c.fill_title.new.store c.fill_html.new.store c.in_ok-fill_title.ensures.later (later-then c.fill_title.new.store c.fill_tables.new.store c.fill_html.new.store c.in_ok-fill_tables.ensures.later (later-then c.fill_tables.new.store c.fill_math.new.store c.fill_html.new.store c.in_ok-fill_math.ensures.later (later-then c.fill_math.new.store c.fill_ustring.new.store c.fill_html.new.store c.in_ok-fill_ustring.ensures.later (later-then c.fill_ustring.new.store c.fill_text.new.store c.fill_html.new.store c.in_ok-fill_text.ensures.later c.in_err-fill_html.ensures.later))))))))
