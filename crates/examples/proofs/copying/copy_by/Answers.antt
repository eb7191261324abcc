use Rattle.std.specs.Fn.{FnReturnsAt}
use Rattle.std.proofs.Common.{List, ℕ}
use Rattle.std.proofs.lemmas.Result.{err_from_is_err_and}
use Rattle.binlog_file.specs.Views.{CountedView}
use Rattle.binlog_file.specs.declared.file.BinlogFileOf.{BinlogFileOf}
use Rattle.binlog_file.specs.declared.verified.Verified.{Verified}
use Rattle.binlog_file.proofs.OtherChecksums.{handles_other}
use Rattle.crc32_ieee.specs.Checksums.{IsCrc32}
use Rattle.examples.specs.Copying.{StopsAtVerified}
use Rattle.examples.proofs.Copied.{copied_verified, not_opened}
use Rattle.examples.proofs.copying.copy_by.Goals as goal

pub returns-in_err-file : goal.returns-in_err-file
returns-in_err-file g c =
    let p = err_from_is_err_and c.from_residual.result c.from_residual.ensures.1 in
    rw (p.1, p.2) (not_opened StopsAtVerified (BinlogFileOf (CountedView g.row.R.Denot) (Verified g.row.F.Denot)) _ _ _ c.in_err-file.ensures.header.1)

pub copy_items-requires-clause-ready : goal.copy_items-requires-clause-ready
copy_items-requires-clause-ready g c = rw c.in_ok-file.ensures.function c.requires.callable

pub returns : goal.returns
returns g c =
    let header = c.in_ok-file.ensures.header in
    copied_verified _ _ _ _ _ _ c.in_ok-file.file (rw header.2 header.1) c.copy_items.ensures
    (rw c.in_ok-file.ensures.function
    (handles_other (λ (bytes : List ℕ) (given : ℕ). FnReturnsAt g.F.Fn c.args.checksum bytes given) IsCrc32 (λ bytes given. (c.requires.gives bytes given).0)))
