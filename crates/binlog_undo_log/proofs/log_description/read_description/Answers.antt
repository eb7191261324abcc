use Rattle.std.proofs.Common.{◌≡◌, ◌∙◌, false, List, [], ◌∷◌, length, sym, ap}
use Rattle.std.proofs.lemmas.Bool.{eqb-true}
use Rattle.std.proofs.lemmas.List.{nil_from_length}
use Rattle.std.specs.Prelude.{◌==◌}
use Rattle.binlog_undo_index.specs.declared.index.UndoIndex.{UndoIndex}
use Rattle.binlog_undo_index.specs.declared.places.TransactionPlace.{TransactionPlace}
use Rattle.binlog_undo_log.proofs.log_description.read_description.Goals as goal

some_if : (transactions : List TransactionPlace) → (length transactions == 0) ≡ false → transactions ≡ [] → ⊥
some_if [] isnt empty = absurd cc
some_if (transaction ∷ transactions) isnt empty = absurd cc

pub returns-then-is_empty-clause-none : goal.returns-then-is_empty-clause-none
returns-then-is_empty-clause-none g c =
    let transactions = c.transactions.ensures ∙ ap (λ (i : UndoIndex). i.transactions.items) c.index.ensures in
    let empty = sym (c.if-is_empty.ensures ∙ ap (λ (t : List TransactionPlace). length t == 0) transactions) in
    λ is. nil_from_length c.args.scan.now.index.transactions.items (eqb-true (length c.args.scan.now.index.transactions.items) 0 empty)

pub returns-in_ok-description_at-in-Some-clause-some : goal.returns-in_ok-description_at-in-Some-clause-some
returns-in_ok-description_at-in-Some-clause-some g c =
    let transactions = c.transactions.ensures ∙ ap (λ (i : UndoIndex). i.transactions.items) c.index.ensures in
    record {
      kept = some_if c.args.scan.now.index.transactions.items (sym (c.if-is_empty.ensures ∙ ap (λ (t : List TransactionPlace). length t == 0) transactions));
      place = c.in-Some.place;
      at = sym c.description.ensures ∙ c.in-Some.is;
      is = c.in_ok-description_at-in-Some.ensures;
    }
