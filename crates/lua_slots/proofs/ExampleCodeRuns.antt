use Rattle.std.proofs.Common.{refl, [], ◌∷◌}
use Rattle.std.specs.Prelude.{codes}
use Rattle.lua_meaning.specs.PageRunPerform.{perform}
use Rattle.lua_meaning.specs.WkBaseTitles.{title_text, prefix_of, title_of, namespace_named, prefixed_namespaces}
use Rattle.std.specs.Fmt.{digits}
use Rattle.std.specs.Str.{is_utf8, chars}
use lib.Utf8.{encode}
use Rattle.lua_meaning.specs.LuaNumberNumerals.{decimal_of, numeral_of, trimmed, digits_of_base, read_number_of, read_in_base_of}
use Rattle.lua_meaning.specs.LuaHeapRelated.{none, more}
use Rattle.lua_slots.specs.ExampleCode.{cells_0, cells_1, cells_2, repeat_loop_0, repeat_loop_1, branches_0, branches_1, branches_2, constructors_0, constructors_1, constructors_2, and_or_0, and_or_1, CellsIsCode, CellsAlike, RepeatLoopIsCode, RepeatLoopAlike, BranchesIsCode, BranchesAlike, ConstructorsIsCode, ConstructorsAlike, AndOrIsCode, AndOrAlike, AllCode}

cells_is_code : CellsIsCode
cells_is_code = (
  cells_0,
  record {
    first = refl;
    no_parameters = refl;
    no_dots = refl;
    body = (
      tt,
      ((refl, tt), tt),
      (
        (
          (
            (refl, refl, refl),
            tt,
          ),
          (
            (
              [],
              cells_1,
              refl,
              none,
              (
                refl,
                tt,
                (
                  tt,
                  ((refl, tt), tt),
                  (
                    (
                      refl,
                      refl,
                      refl,
                      (
                        (
                          ((refl, refl, refl), tt),
                          (
                            (
                              ((codes "i") ∷ []),
                              cells_2,
                              refl,
                              (more _ _ _ _ (record { here = refl; celled = refl }) none),
                              (
                                refl,
                                tt,
                                (
                                  ((refl, tt), ((refl, refl, refl, refl), tt)),
                                  ((refl, tt), tt),
                                ),
                              ),
                            ),
                            tt,
                          ),
                        ),
                        tt,
                      ),
                    ),
                    (
                      (
                        (
                          refl,
                          refl,
                          (refl, (refl, refl, refl), tt),
                          (
                            refl,
                            refl,
                            (refl, (refl, refl, refl), tt),
                            (
                              refl,
                              (
                                refl,
                                refl,
                                refl,
                              ),
                              tt,
                            ),
                          ),
                        ),
                        tt,
                      ),
                      tt,
                    ),
                  ),
                ),
              ),
            ),
            tt,
          ),
        ),
        ((refl, tt), tt),
      ),
    );
  },
)

cells_alike : CellsAlike
unfolding perform digits title_text prefix_of title_of namespace_named prefixed_namespaces decimal_of numeral_of trimmed digits_of_base read_number_of read_in_base_of is_utf8 chars encode
cells_alike = refl

repeat_loop_is_code : RepeatLoopIsCode
repeat_loop_is_code = (
  repeat_loop_0,
  record {
    first = refl;
    no_parameters = refl;
    no_dots = refl;
    body = (
      (
        (
          refl,
          (
            refl,
            (
              [],
              repeat_loop_1,
              refl,
              none,
              (
                refl,
                tt,
                (
                  tt,
                  (refl, tt),
                  (
                    (
                      tt,
                      ((refl, refl, refl, refl), tt),
                      (
                        ((refl, tt), ((refl, refl, refl, refl), tt)),
                        refl,
                      ),
                    ),
                    ((refl, tt), tt),
                  ),
                ),
              ),
            ),
            tt,
          ),
        ),
        tt,
      ),
      tt,
    );
  },
)

repeat_loop_alike : RepeatLoopAlike
unfolding perform digits title_text prefix_of title_of namespace_named prefixed_namespaces decimal_of numeral_of trimmed digits_of_base read_number_of read_in_base_of is_utf8 chars encode
repeat_loop_alike = refl

branches_is_code : BranchesIsCode
branches_is_code = (
  branches_0,
  record {
    first = refl;
    no_parameters = refl;
    no_dots = refl;
    body = (
      (
        (
          refl,
          (
            refl,
            (
              [],
              branches_1,
              refl,
              none,
              (
                refl,
                tt,
                (
                  (
                    [],
                    branches_2,
                    refl,
                    none,
                    (
                      refl,
                      tt,
                      (
                        (
                          (
                            (refl, refl, refl, refl),
                            ((refl, tt), tt),
                            (
                              (refl, refl, refl, refl),
                              (
                                (
                                  refl,
                                  tt,
                                ),
                                tt,
                              ),
                              tt,
                            ),
                          ),
                          ((refl, tt), tt),
                        ),
                        tt,
                      ),
                    ),
                  ),
                  (
                    (
                      (refl, refl, ((refl, refl, refl), tt)),
                      (
                        (refl, refl, (refl, tt)),
                        (
                          (refl, refl, (refl, tt)),
                          tt,
                        ),
                      ),
                    ),
                    tt,
                  ),
                ),
              ),
            ),
            tt,
          ),
        ),
        tt,
      ),
      tt,
    );
  },
)

branches_alike : BranchesAlike
unfolding perform digits title_text prefix_of title_of namespace_named prefixed_namespaces decimal_of numeral_of trimmed digits_of_base read_number_of read_in_base_of is_utf8 chars encode
branches_alike = refl

constructors_is_code : ConstructorsIsCode
constructors_is_code = (
  constructors_0,
  record {
    first = refl;
    no_parameters = refl;
    no_dots = refl;
    body = (
      (
        (
          refl,
          (
            refl,
            (
              [],
              constructors_1,
              refl,
              none,
              (
                refl,
                tt,
                (
                  ([], constructors_2, refl, none, (refl, tt, ((refl, (refl, tt)), tt))),
                  (
                    tt,
                    (
                      (
                        refl,
                        (
                          (
                            refl,
                            refl,
                            tt,
                          ),
                          ((refl, refl, tt), (refl, refl, (refl, refl, ((refl, refl, tt), tt)))),
                        ),
                      ),
                      tt,
                    ),
                    (
                      (
                        (refl, refl, refl),
                        (
                          (refl, refl, refl),
                          (
                            (
                              refl,
                              refl,
                              refl,
                            ),
                            ((refl, refl, refl), ((refl, refl, refl), ((refl, refl, refl), ((refl, refl, refl), tt)))),
                          ),
                        ),
                      ),
                      tt,
                    ),
                  ),
                ),
              ),
            ),
            tt,
          ),
        ),
        tt,
      ),
      tt,
    );
  },
)

constructors_alike : ConstructorsAlike
unfolding perform digits title_text prefix_of title_of namespace_named prefixed_namespaces decimal_of numeral_of trimmed digits_of_base read_number_of read_in_base_of is_utf8 chars encode
constructors_alike = refl

and_or_is_code : AndOrIsCode
and_or_is_code = (
  and_or_0,
  record {
    first = refl;
    no_parameters = refl;
    no_dots = refl;
    body = (
      (
        (
          refl,
          (
            refl,
            (
              [],
              and_or_1,
              refl,
              none,
              (
                refl,
                tt,
                (
                  (
                    (refl, (refl, refl, refl), ((refl, refl, refl), tt)),
                    (
                      (refl, (refl, refl, refl), ((refl, refl, refl), tt)),
                      (
                        (
                          refl,
                          refl,
                          refl,
                        ),
                        ((refl, refl, refl), ((refl, (refl, refl, (refl, (refl, refl, refl), (refl, tt))), refl), tt)),
                      ),
                    ),
                  ),
                  tt,
                ),
              ),
            ),
            tt,
          ),
        ),
        tt,
      ),
      tt,
    );
  },
)

and_or_alike : AndOrAlike
unfolding perform digits title_text prefix_of title_of namespace_named prefixed_namespaces decimal_of numeral_of trimmed digits_of_base read_number_of read_in_base_of is_utf8 chars encode
and_or_alike = refl

pub all_code : AllCode
all_code = (cells_is_code, cells_alike, repeat_loop_is_code, repeat_loop_alike, branches_is_code, branches_alike, constructors_is_code, constructors_alike, and_or_is_code, and_or_alike)
