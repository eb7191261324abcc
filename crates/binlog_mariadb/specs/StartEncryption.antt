-- START_ENCRYPTION, type 164, the events after it are encrypted. In one unit: the scheme, 1 byte; the version of the
-- key, 4 bytes; the nonce, 12 bytes.
-- Source: MariaDB's documentation, "START_ENCRYPTION_EVENT".
use Rattle.std.specs.Prelude.{refl}
use Rattle.binlog_wire.specs.Formats.{Format, last, number, block, unit, ◌⨾◌, seen_as}
use Rattle.binlog_mariadb.specs.declared.start_encryption.StartEncryptionEvent.{StartEncryptionEvent}

-- The format of the body, one unit of 17 bytes.
abbrev pub start_encryption : Format last StartEncryptionEvent
start_encryption = seen_as
    (λ x. record { scheme = x.0; key_version = x.1.0; nonce = x.1.1 })
    (λ e. (e.scheme, (e.key_version, e.nonce))) (λ _. refl) (λ _. refl)
    (unit (number 1 ⨾ number 4 ⨾ block 12))
