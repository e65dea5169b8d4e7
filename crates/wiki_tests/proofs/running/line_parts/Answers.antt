use Rattle.std.proofs.Common.{List, [], ◌∷◌}
use mir.Syntax.{named}
use denote.Param.Send.{AllSync, shr_sync, shr_slice_sync, sendable}
use denote.Struct.Field.{shr_ref_field, shr_slice_field}
use denote.RattleType.{RattleType}
use denote.Struct.Declared.{shape}
use denote.Struct.Tuple.{type_at}
use Rattle.std.proofs.alloc.Global.TheSendSync as alloc
use Rattle.std.proofs.hash.RandomState.TheSendSync as seed
use Rattle.std.specs.contracts.alloc.Global as Global
use Rattle.std.specs.contracts.hash.RandomState as RandomState
use Rattle.wk_base.specs.contracts.left.Limits as Limits
use Rattle.wk_base.proofs.left.Limits.TheSendSync as limits
use Rattle.wiki_batch.specs.PageDriverContractsWikiWiki as Wiki
use Rattle.wiki_batch.proofs.Crossing.{Wiki-sync, captured-sync}
use Rattle.wiki_tests.specs.contracts.subjects.Subject as Subject
use Rattle.wiki_tests.proofs.subjects.Subject.TheSendSync as subject
use Rattle.wiki_tests.proofs.running.line_parts.Goals as goal

pub map_by_workers-requires-sync-F : goal.map_by_workers-requires-sync-F
map_by_workers-requires-sync-F g c κs within =
    let parts : List RattleType =
    (shr_ref_field (record { mir = named 4; lft = κs.1.1.1.1.1.0 }) Global.the_row tt).row
    ∷ (shr_ref_field (record { mir = named 5; lft = κs.1.1.1.1.1.1.0 }) RandomState.the_row tt).row
    ∷ (shr_ref_field (record { mir = named 6; lft = κs.1.1.1.1.1.1.1.0 }) Wiki.the_row tt).row
    ∷ (shr_ref_field (record { mir = named 7; lft = κs.1.1.1.1.1.1.1.1.0 }) Limits.the_row tt).row
    ∷ (shr_slice_field (record { mir = named 8; lft = κs.1.1.1.1.1.1.1.1.1.0 }) Subject.the_row tt).row
    ∷ [] in
    let each : AllSync (shape (type_at [] parts)).fields = (
      shr_sync _ _ _ alloc.the_sync,
      (
        shr_sync _ _ _ seed.the_sync,
        (
          shr_sync _ _ _ Wiki-sync,
          (
            shr_sync _ _ _ limits.the_sync,
            (shr_slice_sync _ _ _ subject.the_sync, tt),
          ),
        ),
      ),
    ) in
    record { shared = (captured-sync [] parts each).shared }
