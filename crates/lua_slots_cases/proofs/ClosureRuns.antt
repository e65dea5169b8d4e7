use Rattle.std.proofs.Common.{refl, [], ◌∷◌}
use Rattle.std.specs.Prelude.{codes}
use Rattle.lua_meaning.specs.PageRunPerform.{perform}
use Rattle.lua_meaning.specs.WkBaseTitles.{title_text, prefix_of, title_of, namespace_named, prefixed_namespaces}
use Rattle.std.specs.Fmt.{digits}
use Rattle.std.specs.Str.{is_utf8, chars}
use lib.Utf8.{encode}
use Rattle.lua_meaning.specs.LuaNumberNumerals.{decimal_of, numeral_of, trimmed, digits_of_base, read_number_of, read_in_base_of}
use Rattle.lua_slots.specs.LuaHeapRelated.{none, more}
use Rattle.lua_slots_cases.specs.Closures.{counters_0, counters_1, counters_2, counters_3, counters_4, while_cells_0, while_cells_1, while_cells_2, CountersIsCode, CountersAlike, WhileCellsIsCode, WhileCellsAlike, AllClosures}

counters_is_code : CountersIsCode
counters_is_code = (
  counters_0,
  record {
    first = refl;
    no_parameters = refl;
    no_dots = refl;
    body = (
      (
        (
          refl,
          (
            refl,
            (
              [],
              counters_1,
              refl,
              none,
              (
                refl,
                tt,
                (
                  (
                    [],
                    counters_2,
                    refl,
                    none,
                    (
                      refl,
                      tt,
                      (
                        tt,
                        (refl, tt),
                        (
                          (
                            ((codes "n") ∷ [], counters_3, refl, (more _ _ _ _ (record { here = refl; celled = refl }) none), (refl, tt, (((refl, tt), ((refl, refl, refl, refl), tt)), ((refl, tt), tt)))),
                            (
                              ((codes "n") ∷ [], counters_4, refl, (more _ _ _ _ (record { here = refl; celled = refl }) none), (refl, tt, ((refl, tt), tt))),
                              tt,
                            ),
                          ),
                          tt,
                        ),
                      ),
                    ),
                  ),
                  (tt, ((refl, refl, tt), tt), (tt, ((refl, refl, tt), tt), ((refl, refl, tt), ((refl, refl, tt), ((refl, refl, tt), (((refl, refl, tt), tt), tt)))))),
                ),
              ),
            ),
            tt,
          ),
        ),
        tt,
      ),
      tt,
    );
  },
)

counters_alike : CountersAlike
unfolding perform digits title_text prefix_of title_of namespace_named prefixed_namespaces decimal_of numeral_of trimmed digits_of_base read_number_of read_in_base_of is_utf8 chars encode
counters_alike = refl

while_cells_is_code : WhileCellsIsCode
while_cells_is_code = (
  while_cells_0,
  record {
    first = refl;
    no_parameters = refl;
    no_dots = refl;
    body = (
      (
        (
          refl,
          (
            refl,
            (
              [],
              while_cells_1,
              refl,
              none,
              (
                refl,
                tt,
                (
                  tt,
                  ((refl, tt), tt),
                  (
                    tt,
                    (refl, tt),
                    (
                      (
                        (refl, refl, refl, refl),
                        (
                          tt,
                          (refl, tt),
                          (
                            (((refl, refl, refl), tt), (((codes "j") ∷ [], while_cells_2, refl, (more _ _ _ _ (record { here = refl; celled = refl }) none), (refl, tt, (((refl, tt), ((refl, refl, refl, refl), tt)), ((refl, tt), tt)))), tt)),
                            (((refl, tt), ((refl, refl, refl, refl), tt)), tt),
                          ),
                        ),
                      ),
                      (((refl, (refl, refl, refl), tt), ((refl, (refl, refl, refl), tt), ((refl, (refl, refl, refl), tt), tt))), tt),
                    ),
                  ),
                ),
              ),
            ),
            tt,
          ),
        ),
        tt,
      ),
      tt,
    );
  },
)

while_cells_alike : WhileCellsAlike
unfolding perform digits title_text prefix_of title_of namespace_named prefixed_namespaces decimal_of numeral_of trimmed digits_of_base read_number_of read_in_base_of is_utf8 chars encode
while_cells_alike = refl

pub all_closures : AllClosures
all_closures = (counters_is_code, counters_alike, while_cells_is_code, while_cells_alike)
