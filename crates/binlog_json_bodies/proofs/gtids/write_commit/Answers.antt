use Rattle.std.proofs.Common.{append_assoc}
use Rattle.binlog_json_bodies.proofs.gtids.write_commit.Goals as goal

pub returns : goal.returns
returns c = rw (c.in_ok-number_member-6.ensures.added, c.in_ok-number_member-5.ensures.added, c.in_ok-number_member-4.ensures.added, c.in_ok-number_member-3.ensures.added, c.in_ok-number_member-2.ensures.added, c.in_ok-number_member.ensures.added, c.immediate_commit_timestamp.ensures, c.original_commit_timestamp.ensures, c.tx_length.ensures, c.from.ensures, c.immediate_server_version.ensures, c.from-2.ensures, c.original_server_version.ensures, c.commit_group_ticket.ensures) (simp append_assoc)
