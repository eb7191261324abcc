-- The data of each event reads as something: a value, none of an unknown type, or an error other than a lack of memory.
use Rattle.std.proofs.Common.{◌≡◌, ◌⊎◌, inl, inr, ℕ, Bool, true, false, List, [], ◌∷◌, length, take, Option, Some, None, Result, Ok, Err, refl, ap, arith}
use Rattle.std.proofs.Math.Logic.{⊎_elim}
use Rattle.binlog_wire.specs.Reading.{Read, ends, invalid, other_type}
use Rattle.binlog_wire.specs.declared.error.Error.{Error}
use Rattle.binlog_wire.specs.declared.error.Error.TheVariants as errors
use Rattle.binlog_consts.specs.EventTypes.{event_type_of}
use Rattle.binlog_consts.specs.declared.event_type.EventType.{EventType}
use Rattle.binlog_consts.specs.declared.event_type.UnknownEventType.{UnknownEventType}
use Rattle.binlog_event_format.specs.Bodies.{GivesWhole}
use Rattle.binlog_event_format.specs.Headers.{header_of}
use Rattle.binlog_event_format.specs.declared.format_description.FormatDescriptionEvent.{FormatDescriptionEvent}
use Rattle.binlog_event_data.specs.ReadData as mysql
use Rattle.binlog_event_data.specs.declared.event_data.EventData.{EventData}
use Rattle.binlog_file.specs.Events.{EventView}
use Rattle.binlog_file.specs.Parts.{data_of}
use Rattle.binlog_file.specs.LogData.{IsOwnEvent, ReadsLogData, answer_as, is_own_type}
use Rattle.binlog_file.specs.declared.log_data.LogEventData.{LogEventData}
use Rattle.binlog_file.specs.declared.log_data.LogEventData.TheVariants.{Mysql, Maria}
use Rattle.binlog_mariadb.specs.EventTypes.{maria_event_type_of}
use Rattle.binlog_mariadb.specs.EventBodies as maria
use Rattle.binlog_mariadb.specs.Flavour.{IsMariaVersion}
use Rattle.binlog_mariadb.specs.declared.event_data.MariaEventData.{MariaEventData}
use Rattle.binlog_mariadb.specs.declared.event_type.MariaEventType.{MariaEventType}
use Rattle.binlog_mariadb.specs.declared.event_type.UnknownMariaEventType.{UnknownMariaEventType}
use Rattle.binlog_filters.proofs.Flavours.{maria_or_not}

-- A result of reading that isn't a lack of memory.
pub record IsReadable {A : Type 0} (Reads : Result A Error → Type 0) : Type 0 where
  pub read : Result A Error
  pub reads : Reads read
  pub is_read : ¬ (read ≡ Err errors.Memory)

-- ---- a body

whole : {V : Type 0} (grows : Type 0) (read : Read V) → IsReadable (λ (answer : Result V Error). GivesWhole grows answer read)
whole grows (Ok (v, [])) = record { read = Ok v; reads = refl; is_read = λ e. absurd cc }
whole grows (Ok (v, b ∷ rest)) = record { read = Err (errors.RemainingBytes (length (b ∷ rest))); reads = (v, b ∷ rest, refl, refl, omega arith); is_read = λ e. absurd cc }
whole grows (Err ends) = record { read = Err errors.EndOfBody; reads = refl; is_read = λ e. absurd cc }
whole grows (Err (invalid why)) = record { read = Err (errors.InvalidData why); reads = refl; is_read = λ e. absurd cc }
whole grows (Err (other_type number)) = record { read = Err (errors.WrongEventType number); reads = refl; is_read = λ e. absurd cc }

-- ---- one of MySQL's types

mysql_body : (d : FormatDescriptionEvent) (s : List ℕ) (type : EventType) (answer : Result EventData Error) → GivesWhole (mysql.TakesMemory type) answer (mysql.data_read d s type) → ¬ (answer ≡ Err errors.Memory)
    → IsReadable (mysql.ReadsAs d s (Ok type))
mysql_body d s type (Ok x) gives other = record { read = Ok (Some x); reads = gives; is_read = λ e. absurd cc }
mysql_body d s type (Err e) gives other = record { read = Err e; reads = gives; is_read = λ is. let same : e ≡ errors.Memory = cc in other (ap (λ (x : Error). Err x) same) }

mysql_by : (d : FormatDescriptionEvent) (s : List ℕ) (type : Result EventType UnknownEventType) → IsReadable (mysql.ReadsAs d s type)
mysql_by d s (Err unknown) = record { read = Ok None; reads = refl; is_read = λ e. absurd cc }
mysql_by d s (Ok type) =
    let body = whole (mysql.TakesMemory type) (mysql.data_read d s type) in
    mysql_body d s type body.read body.reads body.is_read

-- ---- one of MariaDB's own types

maria_body : (d : FormatDescriptionEvent) (s : List ℕ) (type : MariaEventType) (answer : Result MariaEventData Error) → GivesWhole (maria.TakesMemory type) answer (maria.data_read d s type) → ¬ (answer ≡ Err errors.Memory)
    → IsReadable (maria.ReadsAs d s (Ok type))
maria_body d s type (Ok x) gives other = record { read = Ok (Some x); reads = gives; is_read = λ e. absurd cc }
maria_body d s type (Err e) gives other = record { read = Err e; reads = gives; is_read = λ is. let same : e ≡ errors.Memory = cc in other (ap (λ (x : Error). Err x) same) }

maria_by : (d : FormatDescriptionEvent) (s : List ℕ) (type : Result MariaEventType UnknownMariaEventType) → IsReadable (maria.ReadsAs d s type)
maria_by d s (Err unknown) = record { read = Ok None; reads = refl; is_read = λ e. absurd cc }
maria_by d s (Ok type) =
    let body = whole (maria.TakesMemory type) (maria.data_read d s type) in
    maria_body d s type body.read body.reads body.is_read

-- ---- an event

still_read : {D : Type 0} (variant : D → LogEventData) (read : Result (Option D) Error) → ¬ (read ≡ Err errors.Memory) → ¬ (answer_as variant read ≡ Err errors.Memory)
still_read variant (Ok (Some x)) other = λ e. absurd cc
still_read variant (Ok None) other = λ e. absurd cc
still_read variant (Err error) other = λ is. let same : error ≡ errors.Memory = cc in other (ap (λ (x : Error). Err x) same)

own_by : (event : EventView) (own : Bool) → is_own_type (header_of event.frame).event_type ≡ own → (IsMariaVersion (take 50 event.fde.server_version) ⊎ (IsMariaVersion (take 50 event.fde.server_version) → ⊥))
    → IsOwnEvent event ⊎ (IsOwnEvent event → ⊥)
own_by event true is (inl maria) = inl (is, maria)
own_by event true is (inr other) = inr (λ own. other own.1)
own_by event false is version = inr (λ own. absurd cc)

readable_as_maria : (event : EventView) → IsOwnEvent event → IsReadable (ReadsLogData event)
readable_as_maria event own =
    let number = (header_of event.frame).event_type in
    let body = maria_by event.fde (data_of event.fde.footer event.frame) (maria_event_type_of number) in
    record {
      read = answer_as Maria body.read;
      reads = inl (own, (body.read, (maria_event_type_of number, refl, body.reads), refl));
      is_read = still_read Maria body.read body.is_read;
    }

readable_as_mysql : (event : EventView) → (IsOwnEvent event → ⊥) → IsReadable (ReadsLogData event)
readable_as_mysql event other =
    let number = (header_of event.frame).event_type in
    let body = mysql_by event.fde (data_of event.fde.footer event.frame) (event_type_of number) in
    record {
      read = answer_as Mysql body.read;
      reads = inr (other, (body.read, (event_type_of number, refl, body.reads), refl));
      is_read = still_read Mysql body.read body.is_read;
    }

pub readable : (event : EventView) → IsReadable (ReadsLogData event)
readable event = ⊎_elim (readable_as_maria event) (readable_as_mysql event) (own_by event (is_own_type (header_of event.frame).event_type) refl (maria_or_not (take 50 event.fde.server_version)))
