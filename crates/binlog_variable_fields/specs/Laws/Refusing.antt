-- Refusals that are passed on, from a part to the whole that contains it.
use Rattle.std.proofs.Common.{◌≡◌, Err}
use Rattle.binlog_wire.specs.declared.error.Error.{Error}
use Rattle.binlog_wire.specs.Reading.{Read, Refusal, ends, invalid, other_type, Refuses}
use Rattle.binlog_wire.specs.declared.error.Error.TheVariants as errors

pub refused_as : {V W : Type 0} (grows more : Type 0) → (grows → more) → (e : Error) (x : Read V) (y : Read W)
    → ((d : Refusal) → x ≡ Err d → y ≡ Err d) → Refuses grows e x → Refuses more e y
refused_as grows more also errors.EndOfBody x y same h = same ends h
refused_as grows more also (errors.InvalidData why) x y same h = same (invalid why) h
refused_as grows more also (errors.WrongEventType number) x y same h = same (other_type number) h
refused_as grows more also errors.Memory x y same h = also h
refused_as grows more also errors.EndOfInput x y same h = h
refused_as grows more also errors.InvalidFileHeader x y same h = h
refused_as grows more also (errors.EventSizeTooSmall size) x y same h = h
refused_as grows more also errors.TooShortForChecksum x y same h = h
refused_as grows more also (errors.RemainingBytes count) x y same h = h
refused_as grows more also (errors.UnknownChecksumAlg algorithm) x y same h = h
refused_as grows more also errors.EventTooLong x y same h = h
refused_as grows more also (errors.Unwritable field) x y same h = h
refused_as grows more also errors.FrameMemory x y same h = h
refused_as grows more also errors.Reader x y same h = h
refused_as grows more also errors.ReaderInFrame x y same h = h
refused_as grows more also errors.Writer x y same h = h
refused_as grows more also (errors.ChecksumMismatch stored computed) x y same h = h
refused_as grows more also (errors.BadGno number) x y same h = h
