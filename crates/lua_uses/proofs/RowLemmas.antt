-- The worked examples compute.
use Rattle.std.proofs.Common.{refl}
use Rattle.std.specs.Str.{is_utf8, chars}
use lib.Utf8.{encode}
use Rattle.wk_base.specs.Titles.{prefix_of, prefixed_namespaces, namespace_named, title_of}
use Rattle.lua_uses.specs.Examples.{RowsHold}

pub rows_hold : RowsHold
unfolding prefix_of prefixed_namespaces namespace_named title_of is_utf8 chars encode
rows_hold = record { counting_row = refl; all_row = refl; sharing_row = refl; alone_row = refl; hidden_row = refl; unreached_row = refl; parentheses_row = refl; two_row = refl; scopes_row = refl; circle_row = refl }
