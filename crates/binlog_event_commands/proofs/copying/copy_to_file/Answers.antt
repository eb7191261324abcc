use Rattle.std.proofs.Common.{sym, ◌∙◌}
use Rattle.binlog_event_commands.proofs.copying.copy_to_file.Goals as goal

pub returns-in-Ok-write_draft-clause-writes : goal.returns-in-Ok-write_draft-clause-writes
returns-in-Ok-write_draft-clause-writes g c = λ is_fine.
    let same = c.end.ensures.status is_fine in
    record {
      begun = g.T.Draft.Write.contents c.in-Ok.draft;
      fresh = c.in-Ok.ensures.fresh;
      ended = g.T.Draft.Write.contents c.in-Ok-write_draft.draft;
      writes = rw (sym same) at (c.in-Ok-write_draft.ensures.ok (λ failed. is_fine (same ∙ failed)));
      kept = c.end.ensures.has;
    }
