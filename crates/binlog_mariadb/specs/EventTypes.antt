-- The types of MariaDB's own events and their numbers, 160 to 171.
-- Source: MariaDB's documentation, "Binary Log Events".
use Rattle.std.specs.Prelude.{◌≡◌, ℕ, List, [], ◌∷◌, Result, Ok, refl}
use Rattle.binlog_wire.specs.Laws.Numbers.{IsCode}
use Rattle.binlog_consts.specs.Tables.{value_of, is_code}
use Rattle.binlog_mariadb.specs.declared.event_type.MariaEventType.{MariaEventType}
use Rattle.binlog_mariadb.specs.declared.event_type.MariaEventType.TheVariants.{ANNOTATE_ROWS_EVENT, BINLOG_CHECKPOINT_EVENT, GTID_EVENT, GTID_LIST_EVENT, START_ENCRYPTION_EVENT, QUERY_COMPRESSED_EVENT, WRITE_ROWS_COMPRESSED_EVENT_V1, UPDATE_ROWS_COMPRESSED_EVENT_V1, DELETE_ROWS_COMPRESSED_EVENT_V1, WRITE_ROWS_COMPRESSED_EVENT, UPDATE_ROWS_COMPRESSED_EVENT, DELETE_ROWS_COMPRESSED_EVENT}
use Rattle.binlog_mariadb.specs.declared.event_type.UnknownMariaEventType.{UnknownMariaEventType}

-- The number of an event type.
abbrev pub maria_event_number : MariaEventType → ℕ
maria_event_number ANNOTATE_ROWS_EVENT = 160
maria_event_number BINLOG_CHECKPOINT_EVENT = 161
maria_event_number GTID_EVENT = 162
maria_event_number GTID_LIST_EVENT = 163
maria_event_number START_ENCRYPTION_EVENT = 164
maria_event_number QUERY_COMPRESSED_EVENT = 165
maria_event_number WRITE_ROWS_COMPRESSED_EVENT_V1 = 166
maria_event_number UPDATE_ROWS_COMPRESSED_EVENT_V1 = 167
maria_event_number DELETE_ROWS_COMPRESSED_EVENT_V1 = 168
maria_event_number WRITE_ROWS_COMPRESSED_EVENT = 169
maria_event_number UPDATE_ROWS_COMPRESSED_EVENT = 170
maria_event_number DELETE_ROWS_COMPRESSED_EVENT = 171

-- The event types.
abbrev pub maria_event_types : List MariaEventType
maria_event_types =
    ANNOTATE_ROWS_EVENT ∷
    BINLOG_CHECKPOINT_EVENT ∷
    GTID_EVENT ∷
    GTID_LIST_EVENT ∷
    START_ENCRYPTION_EVENT ∷
    QUERY_COMPRESSED_EVENT ∷
    WRITE_ROWS_COMPRESSED_EVENT_V1 ∷
    UPDATE_ROWS_COMPRESSED_EVENT_V1 ∷
    DELETE_ROWS_COMPRESSED_EVENT_V1 ∷
    WRITE_ROWS_COMPRESSED_EVENT ∷
    UPDATE_ROWS_COMPRESSED_EVENT ∷
    DELETE_ROWS_COMPRESSED_EVENT ∷
    []

-- The event type with this number.
abbrev pub maria_event_type_of : ℕ → Result MariaEventType UnknownMariaEventType
maria_event_type_of = value_of maria_event_number maria_event_types (λ n. record { 0 = n })

event_again : (e : MariaEventType) → maria_event_type_of (maria_event_number e) ≡ Ok e
event_again ANNOTATE_ROWS_EVENT = refl
event_again BINLOG_CHECKPOINT_EVENT = refl
event_again GTID_EVENT = refl
event_again GTID_LIST_EVENT = refl
event_again START_ENCRYPTION_EVENT = refl
event_again QUERY_COMPRESSED_EVENT = refl
event_again WRITE_ROWS_COMPRESSED_EVENT_V1 = refl
event_again UPDATE_ROWS_COMPRESSED_EVENT_V1 = refl
event_again DELETE_ROWS_COMPRESSED_EVENT_V1 = refl
event_again WRITE_ROWS_COMPRESSED_EVENT = refl
event_again UPDATE_ROWS_COMPRESSED_EVENT = refl
event_again DELETE_ROWS_COMPRESSED_EVENT = refl

-- The event types have unique codes of one byte.
pub maria_event_type_is_code : IsCode 1 maria_event_number maria_event_type_of
maria_event_type_is_code = is_code 1 maria_event_number maria_event_types (λ n. record { 0 = n }) refl event_again

-- Only the number of a type is read as the type.
pub maria_event_type_number : (n : ℕ) (e : MariaEventType) → maria_event_type_of n ≡ Ok e → n ≡ maria_event_number e
maria_event_type_number n e h = maria_event_type_is_code.only n e h
