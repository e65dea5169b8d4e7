use Rattle.std.proofs.Common.{refl}
use Rattle.lua_meaning.specs.PageRunPerform.{perform}
use Rattle.lua_meaning.specs.WkBaseTitles.{title_text, prefix_of, title_of, namespace_named, prefixed_namespaces}
use Rattle.std.specs.Fmt.{digits}
use Rattle.std.specs.Str.{is_utf8, chars}
use lib.Utf8.{encode}
use Rattle.lua_meaning.specs.LuaNumberNumerals.{decimal_of, numeral_of, trimmed, digits_of_base, read_number_of, read_in_base_of}
use Rattle.lua_slots_cases.specs.Loads.{data_start_0, DataStartIsCode, DataStartAlike, AllLoads}

data_start_is_code : DataStartIsCode
data_start_is_code = (
  data_start_0,
  record {
    first = refl;
    no_parameters = refl;
    no_dots = refl;
    body = (((refl, (refl, refl, tt)), tt), tt);
  },
)

data_start_alike : DataStartAlike
unfolding perform digits title_text prefix_of title_of namespace_named prefixed_namespaces decimal_of numeral_of trimmed digits_of_base read_number_of read_in_base_of is_utf8 chars encode
data_start_alike = (refl, refl)

pub all_loads : AllLoads
all_loads = (data_start_is_code, data_start_alike)
