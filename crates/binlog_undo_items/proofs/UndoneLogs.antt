-- What both passes over logs say together.
use Rattle.std.proofs.Common.{◌≡◌, ℕ, ◌+◌, ◌<◌, ◌^◌, arith, List, [], ◌∷◌, ◌++◌, length, map, Option, ap}
use Rattle.std.specs.List.{AllByRecursion}
use Rattle.std.specs.Prelude.{◌==◌}
use Rattle.std.proofs.lemmas.List.{length-append}
use Rattle.binlog_undo_items.specs.Logs.{joined}
use Rattle.binlog_undo_items.specs.Options.{checks_of, skips_of}
use Rattle.binlog_undo_items.specs.Refusals.{AreAllSkipped}
use Rattle.binlog_undo_items.specs.Scanned.{AreScannedFrom, ScansRequest}
use Rattle.binlog_undo_items.specs.UndoneLogs.{UndoesLog, UndoesLogs}
use Rattle.binlog_undo_items.specs.Written.{WritesLogs}
use Rattle.binlog_undo_items.specs.declared.request.UndoRequest.{UndoRequest}
use Rattle.binlog_undo_items.specs.declared.scanning.ScannedLog.{ScannedLog}
use Rattle.binlog_undo_log.proofs.FileChanges.{file_undone}
use Rattle.binlog_undo_log.specs.Places.{IsFrameIn}
use Rattle.binlog_undo_log.specs.declared.output.UndoOutput.{UndoOutput}

-- Each log is shorter than this.
abbrev AreShort : List ScannedLog → ℕ → Type 0
AreShort logs most = AllByRecursion (λ (log : ScannedLog). length log.bytes.now < most) logs

short_parts : (logs : List ScannedLog) (most : ℕ) → length (joined (map (λ (log : ScannedLog). log.bytes.now) logs)) < most → AreShort logs most
short_parts [] most short = tt
short_parts (log ∷ logs) most short =
    let others : List ℕ = joined (map (λ (log : ScannedLog). log.bytes.now) logs) in
    let long : length (log.bytes.now ++ others) ≡ length log.bytes.now + length others = length-append log.bytes.now others in
    let here : length (log.bytes.now ++ others) < most = short in
    (omega (arith, long, here), short_parts logs most (omega (arith, long, here)))

module _ {W : Type 0} (contents : W → Option (List ℕ)) (request : UndoRequest) where
  logs_undone : (count index : ℕ) (logs : List ScannedLog) (old new : UndoOutput W) → AreShort logs (2 ^ 64) → AreScannedFrom request count index logs → AreAllSkipped logs
      → WritesLogs contents logs old new → UndoesLogs contents request count index logs old new
  logs_undone count index [] old new short are skipped written = written
  logs_undone count index (log ∷ logs) old new short are skipped written = (
    written.0,
    logs_undone count (index + 1) logs old written.0 short.1 are.1 skipped.1 written.1,
    record {
      start = are.0.start;
      states = are.0.states;
      undoes = file_undone contents (IsFrameIn log.bytes.now) are.0.states.choice (checks_of request.options) (skips_of request.options) log.bytes.now are.0.start log.scan written.0 new short.0
          (λ place frame at. at) are.0.states.fresh are.0.scans skipped.0 written.2;
    },
  )

  pub request_undone : (logs : List ScannedLog) (old new : UndoOutput W) → length request.logs.now < 2 ^ 64 → ScansRequest request logs → AreAllSkipped logs → WritesLogs contents logs old new
      → UndoesLogs contents request (length logs) 0 logs old new
  request_undone logs old new short scans skipped written =
      let all : length request.logs.now ≡ length (joined (map (λ (log : ScannedLog). log.bytes.now) logs)) = ap length scans.are.all in
      logs_undone (length logs) 0 logs old new (short_parts logs (2 ^ 64) (omega (arith, all, short))) scans.each skipped written
