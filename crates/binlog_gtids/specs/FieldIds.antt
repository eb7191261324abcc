-- The field ids of a GTID with a tag.
-- Source: MySQL's source documentation, `Gtid_event`.
use Rattle.std.specs.Prelude.{ℕ}

-- The flags.
abbrev pub flags_id : ℕ
flags_id = 0

-- The source's UUID.
abbrev pub sid_id : ℕ
sid_id = 1

-- The transaction number (GNO).
abbrev pub gno_id : ℕ
gno_id = 2

-- The tag.
abbrev pub tag_id : ℕ
tag_id = 3

-- The logical timestamp of the latest commit that the transaction depends on.
abbrev pub last_committed_id : ℕ
last_committed_id = 4

-- The logical timestamp of the transaction's own commit.
abbrev pub sequence_number_id : ℕ
sequence_number_id = 5

-- The commit timestamp on the immediate server.
abbrev pub immediate_commit_timestamp_id : ℕ
immediate_commit_timestamp_id = 6

-- The commit timestamp on the original server.
abbrev pub original_commit_timestamp_id : ℕ
original_commit_timestamp_id = 7

-- The transaction length.
abbrev pub transaction_length_id : ℕ
transaction_length_id = 8

-- The version of the immediate server.
abbrev pub immediate_server_version_id : ℕ
immediate_server_version_id = 9

-- The version of the original server.
abbrev pub original_server_version_id : ℕ
original_server_version_id = 10

-- The commit group ticket.
abbrev pub commit_group_ticket_id : ℕ
commit_group_ticket_id = 11

-- The last of the known ids; those above it are unknown.
abbrev pub last_known_id : ℕ
last_known_id = commit_group_ticket_id
