use Rattle.std.proofs.Common.{refl, [], ◌∷◌}
use Rattle.std.specs.Prelude.{codes}
use Rattle.lua_meaning.specs.PageRunPerform.{perform}
use Rattle.lua_meaning.specs.WkBaseTitles.{title_text, prefix_of, title_of, namespace_named, prefixed_namespaces}
use Rattle.std.specs.Fmt.{digits}
use Rattle.std.specs.Str.{is_utf8, chars}
use lib.Utf8.{encode}
use Rattle.lua_meaning.specs.LuaNumberNumerals.{decimal_of, numeral_of, trimmed, digits_of_base, read_number_of, read_in_base_of}
use Rattle.lua_meaning.specs.LuaHeapRelated.{none, more}
use Rattle.lua_slots.specs.ExampleCalls.{protected_0, protected_1, protected_2, arithmetic_handlers_0, arithmetic_handlers_1, arithmetic_handlers_2, arithmetic_handlers_3, arithmetic_handlers_4, error_handlers_0, error_handlers_1, error_handlers_2, error_handlers_3, error_handlers_4, new_index_0, new_index_1, new_index_2, call_handlers_0, call_handlers_1, call_handlers_2, load_fails_0, load_fails_1, ProtectedIsCode, ProtectedAlike, ArithmeticHandlersIsCode, ArithmeticHandlersAlike, ErrorHandlersIsCode, ErrorHandlersAlike, NewIndexIsCode, NewIndexAlike, CallHandlersIsCode, CallHandlersAlike, LoadFailsIsCode, LoadFailsAlike, AllCalls}

protected_is_code : ProtectedIsCode
protected_is_code = (
  protected_0,
  record {
    first = refl;
    no_parameters = refl;
    no_dots = refl;
    body = (
      (
        (
          refl,
          (
            refl,
            (
              [],
              protected_1,
              refl,
              none,
              (
                refl,
                tt,
                (
                  (
                    (refl, (refl, refl, refl), ((refl, (refl, refl, refl), ((refl, refl, refl), (refl, tt))), tt)),
                    (
                      (
                        refl,
                        (
                          refl,
                          refl,
                          refl,
                        ),
                        (refl, ((refl, (refl, refl, refl), ((refl, refl, refl), (refl, tt))), tt)),
                      ),
                      (
                        (
                          refl,
                          (refl, refl, refl),
                          (
                            (
                              [],
                              protected_2,
                              refl,
                              none,
                              (refl, tt, ((tt, tt), tt)),
                            ),
                            (refl, (refl, tt)),
                          ),
                        ),
                        tt,
                      ),
                    ),
                  ),
                  tt,
                ),
              ),
            ),
            tt,
          ),
        ),
        tt,
      ),
      tt,
    );
  },
)

protected_alike : ProtectedAlike
unfolding perform digits title_text prefix_of title_of namespace_named prefixed_namespaces decimal_of numeral_of trimmed digits_of_base read_number_of read_in_base_of is_utf8 chars encode
protected_alike = refl

arithmetic_handlers_is_code : ArithmeticHandlersIsCode
arithmetic_handlers_is_code = (
  arithmetic_handlers_0,
  record {
    first = refl;
    no_parameters = refl;
    no_dots = refl;
    body = (
      (
        (
          refl,
          (
            refl,
            (
              [],
              arithmetic_handlers_1,
              refl,
              none,
              (
                refl,
                tt,
                (
                  tt,
                  (
                    (
                      refl,
                      (
                        refl,
                        (
                          [],
                          arithmetic_handlers_2,
                          refl,
                          none,
                          (
                            refl,
                            tt,
                            (
                              (refl, tt),
                              tt,
                            ),
                          ),
                        ),
                        (
                          refl,
                          (
                            [],
                            arithmetic_handlers_3,
                            refl,
                            none,
                            (
                              refl,
                              tt,
                              (
                                (
                                  (
                                    refl,
                                    refl,
                                    (refl, (refl, refl, refl), (refl, tt)),
                                    (
                                      refl,
                                      (
                                        refl,
                                        refl,
                                        refl,
                                      ),
                                      (refl, tt),
                                    ),
                                  ),
                                  tt,
                                ),
                                tt,
                              ),
                            ),
                          ),
                          (
                            refl,
                            (
                              [],
                              arithmetic_handlers_4,
                              refl,
                              none,
                              (
                                refl,
                                tt,
                                (
                                  (
                                    (
                                      refl,
                                      (refl, refl, refl),
                                      (
                                        (
                                          refl,
                                          refl,
                                          refl,
                                          refl,
                                        ),
                                        tt,
                                      ),
                                    ),
                                    tt,
                                  ),
                                  tt,
                                ),
                              ),
                            ),
                            tt,
                          ),
                        ),
                      ),
                    ),
                    tt,
                  ),
                  (
                    tt,
                    ((refl, (refl, refl, refl), ((refl, tt), (refl, tt))), tt),
                    (
                      (
                        (refl, refl, refl, refl),
                        (
                          (
                            refl,
                            refl,
                            refl,
                            refl,
                          ),
                          ((refl, refl, refl, refl), ((refl, refl, refl, refl), ((refl, refl, refl), tt))),
                        ),
                      ),
                      tt,
                    ),
                  ),
                ),
              ),
            ),
            tt,
          ),
        ),
        tt,
      ),
      tt,
    );
  },
)

arithmetic_handlers_alike : ArithmeticHandlersAlike
unfolding perform digits title_text prefix_of title_of namespace_named prefixed_namespaces decimal_of numeral_of trimmed digits_of_base read_number_of read_in_base_of is_utf8 chars encode
arithmetic_handlers_alike = refl

error_handlers_is_code : ErrorHandlersIsCode
error_handlers_is_code = (
  error_handlers_0,
  record {
    first = refl;
    no_parameters = refl;
    no_dots = refl;
    body = (
      (
        (
          refl,
          (
            refl,
            (
              [],
              error_handlers_1,
              refl,
              none,
              (
                refl,
                tt,
                (
                  (
                    [],
                    error_handlers_2,
                    refl,
                    none,
                    (
                      refl,
                      tt,
                      (
                        ((refl, refl, refl, (refl, refl, refl, refl)), tt),
                        tt,
                      ),
                    ),
                  ),
                  (
                    tt,
                    (
                      (
                        refl,
                        (refl, refl, refl),
                        (
                          (
                            [],
                            error_handlers_3,
                            refl,
                            none,
                            (
                              refl,
                              tt,
                              (
                                (refl, (refl, refl, refl), (refl, (refl, tt))),
                                tt,
                              ),
                            ),
                          ),
                          (refl, tt),
                        ),
                      ),
                      tt,
                    ),
                    (
                      tt,
                      (
                        (refl, (refl, refl, refl), (([], error_handlers_4, refl, none, (refl, tt, ((refl, tt), tt))), (refl, tt))),
                        tt,
                      ),
                      (((refl, (refl, refl, refl), (refl, tt)), (refl, ((refl, (refl, refl, refl), (refl, tt)), (refl, tt)))), tt),
                    ),
                  ),
                ),
              ),
            ),
            tt,
          ),
        ),
        tt,
      ),
      tt,
    );
  },
)

error_handlers_alike : ErrorHandlersAlike
unfolding perform digits title_text prefix_of title_of namespace_named prefixed_namespaces decimal_of numeral_of trimmed digits_of_base read_number_of read_in_base_of is_utf8 chars encode
error_handlers_alike = refl

new_index_is_code : NewIndexIsCode
new_index_is_code = (
  new_index_0,
  record {
    first = refl;
    no_parameters = refl;
    no_dots = refl;
    body = (
      (
        (
          refl,
          (
            refl,
            (
              [],
              new_index_1,
              refl,
              none,
              (
                refl,
                tt,
                (
                  tt,
                  (refl, tt),
                  (
                    tt,
                    ((refl, tt), tt),
                    (
                      tt,
                      (
                        (
                          refl,
                          (refl, refl, refl),
                          (
                            (refl, (refl, refl, tt)),
                            (
                              (
                                refl,
                                (
                                  refl,
                                  (
                                    ((codes "log") ∷ []),
                                    new_index_2,
                                    refl,
                                    (more _ _ _ _ (record { here = refl; celled = refl }) none),
                                    (
                                      refl,
                                      tt,
                                      (
                                        (
                                          (refl, tt),
                                          (
                                            (
                                              refl,
                                              refl,
                                              refl,
                                              refl,
                                            ),
                                            tt,
                                          ),
                                        ),
                                        ((refl, (refl, refl, refl), (refl, (refl, (refl, tt)))), tt),
                                      ),
                                    ),
                                  ),
                                  tt,
                                ),
                              ),
                              tt,
                            ),
                          ),
                        ),
                        tt,
                      ),
                      (
                        tt,
                        (
                          (
                            refl,
                            (refl, refl, refl),
                            ((refl, tt), ((refl, (refl, refl, tt)), tt)),
                          ),
                          tt,
                        ),
                        (
                          (((refl, refl, refl), tt), (refl, tt)),
                          (
                            (((refl, refl, refl), tt), (refl, tt)),
                            (
                              (((refl, refl, refl), tt), (refl, tt)),
                              (
                                (((refl, refl, refl), tt), (refl, tt)),
                                (
                                  (
                                    refl,
                                    (
                                      (refl, refl, refl),
                                      (
                                        (refl, refl, refl),
                                        (
                                          (
                                            refl,
                                            (refl, refl, refl),
                                            ((refl, (refl, refl, refl), (refl, (refl, tt))), tt),
                                          ),
                                          ((refl, refl, refl), tt),
                                        ),
                                      ),
                                    ),
                                  ),
                                  tt,
                                ),
                              ),
                            ),
                          ),
                        ),
                      ),
                    ),
                  ),
                ),
              ),
            ),
            tt,
          ),
        ),
        tt,
      ),
      tt,
    );
  },
)

new_index_alike : NewIndexAlike
unfolding perform digits title_text prefix_of title_of namespace_named prefixed_namespaces decimal_of numeral_of trimmed digits_of_base read_number_of read_in_base_of is_utf8 chars encode
new_index_alike = refl

call_handlers_is_code : CallHandlersIsCode
call_handlers_is_code = (
  call_handlers_0,
  record {
    first = refl;
    no_parameters = refl;
    no_dots = refl;
    body = (
      (
        (
          refl,
          (
            refl,
            (
              [],
              call_handlers_1,
              refl,
              none,
              (
                refl,
                tt,
                (
                  tt,
                  (
                    (
                      refl,
                      (refl, refl, refl),
                      (
                        (refl, (refl, refl, tt)),
                        (
                          (
                            refl,
                            (
                              refl,
                              (
                                [],
                                call_handlers_2,
                                refl,
                                none,
                                (refl, tt, (((refl, refl, (refl, refl, (refl, refl, refl), refl), refl), tt), tt)),
                              ),
                              tt,
                            ),
                          ),
                          tt,
                        ),
                      ),
                    ),
                    tt,
                  ),
                  (
                    (
                      (
                        refl,
                        refl,
                        (
                          refl,
                          (refl, tt),
                        ),
                      ),
                      ((refl, (refl, refl, refl), (refl, (refl, (refl, tt)))), tt),
                    ),
                    tt,
                  ),
                ),
              ),
            ),
            tt,
          ),
        ),
        tt,
      ),
      tt,
    );
  },
)

call_handlers_alike : CallHandlersAlike
unfolding perform digits title_text prefix_of title_of namespace_named prefixed_namespaces decimal_of numeral_of trimmed digits_of_base read_number_of read_in_base_of is_utf8 chars encode
call_handlers_alike = refl

load_fails_is_code : LoadFailsIsCode
load_fails_is_code = (
  load_fails_0,
  record {
    first = refl;
    no_parameters = refl;
    no_dots = refl;
    body = (
      (
        (
          refl,
          (
            refl,
            (
              [],
              load_fails_1,
              refl,
              none,
              (
                refl,
                tt,
                (
                  tt,
                  ((refl, (refl, refl, refl), ((refl, (refl, refl, refl), refl), (refl, tt))), tt),
                  (
                    tt,
                    (
                      (
                        refl,
                        (
                          refl,
                          refl,
                          refl,
                        ),
                        ((refl, (refl, refl, refl), refl), (refl, tt)),
                      ),
                      tt,
                    ),
                    (
                      (refl, ((refl, (refl, refl, refl), (refl, tt)), ((refl, refl, refl), tt))),
                      tt,
                    ),
                  ),
                ),
              ),
            ),
            tt,
          ),
        ),
        tt,
      ),
      tt,
    );
  },
)

load_fails_alike : LoadFailsAlike
unfolding perform digits title_text prefix_of title_of namespace_named prefixed_namespaces decimal_of numeral_of trimmed digits_of_base read_number_of read_in_base_of is_utf8 chars encode
load_fails_alike = refl

pub all_calls : AllCalls
all_calls = (protected_is_code, protected_alike, arithmetic_handlers_is_code, arithmetic_handlers_alike, error_handlers_is_code, error_handlers_alike, new_index_is_code, new_index_alike, call_handlers_is_code, call_handlers_alike, load_fails_is_code, load_fails_alike)
