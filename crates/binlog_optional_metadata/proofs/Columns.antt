-- Indexes of columns are numbers.
use Rattle.std.proofs.Common.{◌≡◌, ℕ, List, Ok, subst}
use Rattle.std.specs.Prelude.{nat_lt}
use Rattle.binlog_wire.specs.Fields.{meant}
use Rattle.binlog_wire.specs.Laws.{bind_ok}
use Rattle.binlog_wire.specs.Reading.{◌>>=◌}
use Rattle.binlog_variable_fields.specs.Chosen.{passes}
use Rattle.binlog_variable_fields.specs.LenEnc.{lenenc_at}
use Rattle.binlog_variable_fields.specs.Laws.Chosen.{meant_ok, passes_ok}
use Rattle.binlog_optional_metadata.specs.Columns.{no_column, column_index, indexed_number, any_indexed}

pub index_is_number : (columns : ℕ) (s : List ℕ) (x : ℕ × List ℕ) → (column_index columns).reads s ≡ Ok x → lenenc_at s ≡ Ok x
index_is_number columns s x e =
    let a = bind_ok (lenenc_at s) (λ n. meant (passes (λ index. nat_lt index columns) no_column n.0) n.1) x e in
    let m = meant_ok (passes (λ index. nat_lt index columns) no_column a.0.0) a.0.1 x a.2 in
    let p = passes_ok no_column a.0.0 (nat_lt a.0.0 columns) x.0 m.0 in
    subst (λ (r : List ℕ). lenenc_at s ≡ Ok (x.0, r)) m.1 (subst (λ (n : ℕ). lenenc_at s ≡ Ok (n, a.0.1)) p.1 a.1)

pub indexed_is_any : (columns : ℕ) (s : List ℕ) (x : (ℕ × ℕ) × List ℕ) → (indexed_number columns).reads s ≡ Ok x → any_indexed.reads s ≡ Ok x
indexed_is_any columns s x e =
    let a = bind_ok ((column_index columns).reads s) (λ a. lenenc_at a.1 >>= λ b. Ok ((a.0, b.0), b.1)) x e in
    rw (index_is_number columns s a.0 a.1) a.2
