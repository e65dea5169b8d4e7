use Rattle.std.proofs.Common.{◌-◌, length, Some}
use Rattle.std.specs.Option.{option_map}
use Rattle.lua_replacing.specs.LuaMeaningGsub.{replaced_from, at_head}
use Rattle.lua_replacing.specs.Seen.{stand_seen, StandWithin}
use Rattle.lua_gsubs.specs.Parts.{IsPart}
use Rattle.lua_gsubs.proofs.replacing.replace_matches.Given as goal

-- what is put together, and the matches that may still be replaced, give the whole
abbrev pub invariant-matches : goal.invariant-matches
invariant-matches g l =
    let p = l.pattern in
    IsPart (replaced_from g.A.Alphabet.letters p.anchored p.items p.slots l.s l.replacement l.limit 0 (Some at_head)) l.initial.left l.left l.far
    (replaced_from g.A.Alphabet.letters p.anchored p.items p.slots l.s l.replacement (l.limit - l._turn) l.far.copied (option_map stand_seen l.far.next))
    × StandWithin (length l.s) l.far.next
