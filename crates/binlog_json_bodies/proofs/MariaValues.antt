-- Values that are appended to a line.
use Rattle.std.proofs.Common.{◌≡◌, ℕ, ◌<◌, List, [], ◌∷◌, ◌++◌, length, Result, Ok, Err, OnOk, false, refl, sym, subst, arith}
use Rattle.json.specs.Token.{Token}
use Rattle.binlog_wire.specs.Reading.{Read}
use Rattle.binlog_wire.specs.Errors.{error_number, is_environment_error}
use Rattle.binlog_wire.specs.declared.error.Error.{Error}
use Rattle.binlog_wire.specs.declared.error.Error.TheVariants as errors
use Rattle.binlog_event_format.specs.Bodies.{GivesWhole}
use Rattle.binlog_json_bodies.specs.Data.{error_object}
use Rattle.binlog_mariadb.specs.declared.event_data.MariaEventData.{MariaEventData}
use Rattle.binlog_mariadb.specs.Compressed.{IsCompressed, Denies}
use Rattle.binlog_mariadb.specs.declared.compression_error.CompressionError.{CompressionError}
use Rattle.binlog_mariadb.specs.declared.compression_error.CompressionError.TheVariants as compression
use Rattle.binlog_json_bodies.specs.Shown.{Shows}
use Rattle.binlog_json_bodies.specs.MariaData.{IsObject, IsValue}

-- The object of data is the value of what was read.
pub value_of_data : (server_id : ℕ) (read : Read MariaEventData) (content : MariaEventData) (tokens : List Token) → read ≡ Ok (content, []) → IsObject server_id content tokens → IsValue server_id read tokens
value_of_data server_id read content tokens is object = subst (λ (r : Read MariaEventData). IsValue server_id r tokens) (sym is) object

left_over : (server_id : ℕ) (content : MariaEventData) (rest : List ℕ) (count : ℕ) → length rest ≡ count → 0 < count → IsValue server_id (Ok (content, rest)) (error_object 7)
left_over server_id content [] count is some = absurd (omega (arith, is, some))
left_over server_id content (b ∷ rest) count is some = refl

-- The error number is the value of a refusal.
pub value_of_error : (grows : Type 0) (server_id : ℕ) (read : Read MariaEventData) (error : Error) → GivesWhole grows (Err error) read → is_environment_error error ≡ false
    → IsValue server_id read (error_object (error_number error))
value_of_error grows server_id read (errors.RemainingBytes n) (content, rest, is, count, some) inside =
    subst (λ (r : Read MariaEventData). IsValue server_id r (error_object 7)) (sym is) (left_over server_id content rest n count some)
value_of_error grows server_id read errors.EndOfBody is inside = subst (λ (r : Read MariaEventData). IsValue server_id r (error_object 5)) (sym is) refl
value_of_error grows server_id read (errors.InvalidData why) is inside = subst (λ (r : Read MariaEventData). IsValue server_id r (error_object 6)) (sym is) refl
value_of_error grows server_id read (errors.WrongEventType number) is inside = subst (λ (r : Read MariaEventData). IsValue server_id r (error_object 8)) (sym is) refl
value_of_error grows server_id read errors.Memory is inside = cc
value_of_error grows server_id read error is inside = absurd is

-- These tokens, if they are what they should be.
pub shows_exactly : {A E : Type 0} (result : Result A E) (old new : List Token) (Is : List Token → Type 0) (tokens : List Token) → Is tokens → OnOk result (new ≡ old ++ tokens) → Shows result old new Is
shows_exactly (Ok x) old new Is tokens are is = record { tokens = tokens; are = are; is = is }
shows_exactly (Err e) old new Is tokens are is = is

-- What is appended is something else, too.
pub shows_as : {A E : Type 0} (result : Result A E) (old new : List Token) (Is As : List Token → Type 0) → ((tokens : List Token) → Is tokens → As tokens) → Shows result old new Is → Shows result old new As
shows_as (Ok x) old new Is As to shown = record { tokens = shown.tokens; are = to shown.tokens shown.are; is = shown.is }
shows_as (Err e) old new Is As to shown = shown

-- What is stored for a text that is refused, but for want of memory, is stored for none within the limit.
pub no_text : (limit : ℕ) (stored : List ℕ) (error : CompressionError) → Denies limit error stored → ¬ (error ≡ compression.Memory) → (text : List ℕ) → IsCompressed stored text → limit < length text
no_text limit stored compression.Memory denied other text is = absurd (other refl)
no_text limit stored compression.TooLong denied other text is = denied text is
no_text limit stored error denied other text is = absurd (denied text is)
