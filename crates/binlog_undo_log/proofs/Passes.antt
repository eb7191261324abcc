-- The steps of the second pass.
use Rattle.std.proofs.Common.{◌≡◌, inl, inr, ℕ, List, [], ◌∷◌, ◌++◌, length, Option, Some, None, Result, Ok, Err, OnOk, refl, ◌∙◌, ap, subst, append_assoc}
use Rattle.binlog_event_format.specs.Headers.{header_of}
use Rattle.binlog_event_format.specs.declared.format_description.FormatDescriptionEvent.{FormatDescriptionEvent}
use Rattle.binlog_events.specs.Events.{EventView, event_at}
use Rattle.binlog_undo.specs.declared.inverse_event.ForeignKeyChecks.{ForeignKeyChecks}
use Rattle.binlog_undo_index.specs.declared.places.ChangePlace.{ChangePlace}
use Rattle.binlog_undo_index.specs.declared.places.TransactionPlace.{TransactionPlace}
use Rattle.binlog_undo_log.proofs.Grown.{grows_nothing, grows_over}
use Rattle.binlog_undo_log.proofs.Undone.{AreAmong, change_from, own_from, transaction_from}
use Rattle.binlog_undo_log.specs.Output.{Grows, GrowsBy}
use Rattle.binlog_payloads.specs.Contents.{content_of}
use Rattle.binlog_payloads.specs.Events.{payload_in}
use Rattle.binlog_payloads.specs.Fields.{Payload}
use Rattle.binlog_payloads.specs.InnerEvents.{inner_fde}
use Rattle.binlog_undo_log.specs.Compressed.{most_bytes}
use Rattle.binlog_undo_log.specs.Places.{FramesOf, IsFrameIn}
use Rattle.binlog_undo_log.specs.Undoing.{begin_event, commit_event, IsEventAt, HasRightChecksum, ReadsXid, UndoesChange, UndoesChanges, UndoesInside, UndoesOwn, UndoesTransaction, UndoesAll}
use Rattle.binlog_event_format.specs.declared.header.BinlogEventHeader.{BinlogEventHeader}
use Rattle.binlog_undo_log.specs.declared.undo_error.UndoLogError.{UndoLogError}
use Rattle.binlog_undo_log.specs.declared.output.UndoOutput.{UndoOutput}
use Rattle.binlog_undo.specs.Transactions.{Event}

-- What is behind an element at the end of a front.
pub moved : {A : Type 0} (all left front done : List A) (last : A) → all ≡ left ++ done → left ≡ front ++ last ∷ [] → all ≡ front ++ last ∷ done
moved all left front done last whole split =
    whole ∙ ap (λ l. l ++ done) split ∙ append_assoc front (last ∷ []) done

pub moved_part : {A : Type 0} (all left front own done : List A) → all ≡ left ++ done → left ≡ front ++ own → all ≡ front ++ (own ++ done)
moved_part all left front own done whole split = whole ∙ ap (λ l. l ++ done) split ∙ append_assoc front own done

module _ {W : Type 0} (contents : W → Option (List ℕ)) (is_at now : FramesOf) (among : AreAmong now is_at) (fde : FormatDescriptionEvent) (checks : ForeignKeyChecks) where
  pub no_changes : (output : UndoOutput W) → GrowsBy contents (UndoesChanges is_at fde checks []) output output
  no_changes output = ([], refl, grows_nothing contents output)

  pub one_change : (change : ChangePlace) (done : List ChangePlace) (old mid new : UndoOutput W) → GrowsBy contents (UndoesChanges is_at fde checks done) old mid
      → GrowsBy contents (UndoesChange now fde checks change) mid new → GrowsBy contents (UndoesChanges is_at fde checks (change ∷ done)) old new
  one_change change done old mid new h k =
      (h.0 ++ k.0, (h.0, k.0, h.1, change_from now is_at among fde checks change k.0 k.1, refl), grows_over contents h.0 k.0 old mid new h.2 k.2)

  pub one_transaction : (last : ℕ) (changes : List ChangePlace) (frame : List ℕ) (event : EventView) (xid : ℕ) (old first mid new : UndoOutput W)
      → is_at last frame → event_at fde frame ≡ Some event → HasRightChecksum event → ReadsXid event xid → Grows contents (begin_event (header_of event.frame) ∷ []) old first
      → GrowsBy contents (UndoesOwn now fde checks event changes) first mid → Grows contents (commit_event (header_of event.frame) xid ∷ []) mid new
      → GrowsBy contents (UndoesTransaction is_at fde checks last changes) old new
  one_transaction last changes frame event xid old first mid new at is right reads begun h ended =
      let begin : List Event = begin_event (header_of event.frame) ∷ [] in
      let commit : List Event = commit_event (header_of event.frame) xid ∷ [] in
      let event_there : IsEventAt is_at fde last event = record { frame = frame; at = at; is = is; right = right } in
      let undone : UndoesTransaction is_at fde checks last changes (begin ++ h.0 ++ commit) = record {
        event = event;
        event_at = event_there;
        xid = xid;
        reads = reads;
        undone = h.0;
        undoes = own_from now is_at among fde checks event changes h.0 h.1;
        are = refl;
      } in
      (begin ++ h.0 ++ commit, undone, grows_over contents begin (h.0 ++ commit) old first new begun (grows_over contents h.0 commit first mid new h.2 ended))

  -- The same for the answer of the XID. The header is that of the last event.
  pub transaction_if : (answer : Result (Unit {0}) UndoLogError) (last : ℕ) (changes : List ChangePlace) (frame : List ℕ) (event : EventView) (header : BinlogEventHeader) (xid : ℕ)
      (old first mid new : UndoOutput W) → is_at last frame → event_at fde frame ≡ Some event → HasRightChecksum event → header ≡ header_of event.frame → ReadsXid event xid
      → Grows contents (begin_event header ∷ []) old first → GrowsBy contents (UndoesOwn now fde checks event changes) first mid
      → OnOk answer (Grows contents (commit_event header xid ∷ []) mid new) → OnOk answer (GrowsBy contents (UndoesTransaction is_at fde checks last changes) old new)
  transaction_if (Ok done) last changes frame event header xid old first mid new at is right head reads begun h ended =
      one_transaction last changes frame event xid old first mid new at is right reads (subst (λ (x : BinlogEventHeader). Grows contents (begin_event x ∷ []) old first) head begun) h
      (subst (λ (x : BinlogEventHeader). Grows contents (commit_event x xid ∷ []) mid new) head ended)
  transaction_if (Err error) last changes frame event header xid old first mid new at is right head reads begun h ended = tt

  pub no_transactions : (output : UndoOutput W) → GrowsBy contents (UndoesAll is_at fde checks [] []) output output
  no_transactions output = ([], (refl, refl), grows_nothing contents output)

  pub next_transaction : (transaction : TransactionPlace) (done : List TransactionPlace) (own others : List ChangePlace) (old mid new : UndoOutput W)
      → GrowsBy contents (UndoesAll is_at fde checks done others) old mid → GrowsBy contents (UndoesTransaction now fde checks transaction.last own) mid new
      → length own ≡ transaction.changes → GrowsBy contents (UndoesAll is_at fde checks (transaction ∷ done) (own ++ others)) old new
  next_transaction transaction done own others old mid new h k long = (
    h.0 ++ k.0,
    (own, others, h.0, k.0, refl, long, h.1, transaction_from now is_at among fde checks transaction.last own k.0 k.1, refl),
    grows_over contents h.0 k.0 old mid new h.2 k.2,
  )

-- ---- where the row events are

module _ {W : Type 0} (contents : W → Option (List ℕ)) (checks : ForeignKeyChecks) (event : EventView) (changes : List ChangePlace) where
  pub own_outside : (is_at : FramesOf) (fde : FormatDescriptionEvent) (answer : Result (Unit {0}) UndoLogError) (old new : UndoOutput W) → payload_in event ≡ Ok None
      → OnOk answer (GrowsBy contents (UndoesChanges is_at fde checks changes) old new) → OnOk answer (GrowsBy contents (UndoesOwn is_at fde checks event changes) old new)
  own_outside is_at fde (Ok done) old new none h = (h.0, inl (none, h.1), h.2)
  own_outside is_at fde (Err error) old new none h = tt

  pub own_inside : (is_at : FramesOf) (fde : FormatDescriptionEvent) (answer : Result (Unit {0}) UndoLogError) (old new : UndoOutput W)
      → OnOk answer (GrowsBy contents (UndoesInside checks event changes) old new) → OnOk answer (GrowsBy contents (UndoesOwn is_at fde checks event changes) old new)
  own_inside is_at fde (Ok done) old new h = (h.0, inr h.1, h.2)
  own_inside is_at fde (Err error) old new h = tt

  pub inside_if : (payload : Payload) (content bytes : List ℕ) (d : FormatDescriptionEvent) (answer : Result (Unit {0}) UndoLogError) (old new : UndoOutput W)
      → payload_in event ≡ Ok (Some payload) → content_of most_bytes payload ≡ Ok content → bytes ≡ content → d ≡ inner_fde event.fde
      → OnOk answer (GrowsBy contents (UndoesChanges (IsFrameIn bytes) d checks changes) old new) → OnOk answer (GrowsBy contents (UndoesInside checks event changes) old new)
  inside_if payload content bytes d (Ok done) old new has is same under h =
      let undoes : UndoesChanges (IsFrameIn content) (inner_fde event.fde) checks changes h.0 =
      subst (λ (s : List ℕ). UndoesChanges (IsFrameIn s) (inner_fde event.fde) checks changes h.0) same
      (subst (λ (f : FormatDescriptionEvent). UndoesChanges (IsFrameIn bytes) f checks changes h.0) under h.1) in
      (h.0, record { content = content; has = record { payload = payload; payload_is = has; content_is = is }; in_it = undoes }, h.2)
  inside_if payload content bytes d (Err error) old new has is same under h = tt
